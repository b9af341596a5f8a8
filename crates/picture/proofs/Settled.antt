-- Any two outcomes that a contract allows of one call are the same: for each public function, of its contract
-- itself, as the prover reads it.
use Rattle.basics.specs.Settles.{Settles}
use Rattle.basics.proofs.Settled.{settled}
use Rattle.picture.proofs.sized.Kinds as sized-kinds
use Rattle.picture.proofs.sized.Reads as sized
use Rattle.picture.proofs.row_bytes.Kinds as row-bytes-kinds
use Rattle.picture.proofs.row_bytes.Reads as row_bytes_lem
use Rattle.picture.proofs.picture_bytes.Kinds as picture-bytes-kinds
use Rattle.picture.proofs.picture_bytes.Reads as picture-bytes

pub sized_settled : Settles 0 sized-kinds.ps sized-kinds.r sized.Learnt
sized_settled κs a x y s t p q = settled p q

pub row_bytes_settled : Settles 0 row-bytes-kinds.ps row-bytes-kinds.r row_bytes_lem.Learnt
row_bytes_settled κs a x y s t p q = settled p q

pub picture_bytes_settled : Settles 0 picture-bytes-kinds.ps picture-bytes-kinds.r picture-bytes.Learnt
picture_bytes_settled κs a x y s t p q = settled p q
