-- Any two outcomes that a contract allows of one call are the same: for each public function, of its contract
-- itself, as the prover reads it.
use Rattle.basics.specs.Settles.{SettlesBytes}
use Rattle.basics.proofs.Settled.{settled}
use Rattle.copies.proofs.copy_picture.Kinds as copy-picture-kinds
use Rattle.copies.proofs.copy_picture.Reads as copy-picture
use Rattle.copies.proofs.clear_padding.Kinds as clear-padding-kinds
use Rattle.copies.proofs.clear_padding.Reads as clear-padding

pub copy_picture_settled :
    SettlesBytes 2 copy-picture-kinds.ps copy-picture-kinds.r copy-picture.Learnt (λ κs e. e.1.1.1.0.now)
copy_picture_settled κs a x y s t p q = settled p q

pub clear_padding_settled :
    SettlesBytes 1 clear-padding-kinds.ps clear-padding-kinds.r clear-padding.Learnt (λ κs e. e.1.0.now)
clear_padding_settled κs a x y s t p q = settled p q
