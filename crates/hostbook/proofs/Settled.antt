-- Any two outcomes that a contract allows of one call are the same:
-- for each entry point, of its contract itself, as the prover reads it.
use Rattle.basics.specs.Settles.{Settles, SettlesBytes}
use Rattle.basics.proofs.Settled.{settled}
use Rattle.hostbook.proofs.qik_book_start.Kinds as qik-book-start-kinds
use Rattle.hostbook.proofs.qik_book_start.Reads as qik-book-start
use Rattle.hostbook.proofs.qik_display_put.Kinds as qik-display-put-kinds
use Rattle.hostbook.proofs.qik_display_put.Reads as qik-display-put
use Rattle.hostbook.proofs.qik_display_remove.Kinds as qik-display-remove-kinds
use Rattle.hostbook.proofs.qik_display_remove.Reads as qik-display-remove
use Rattle.hostbook.proofs.qik_display_tidy.Kinds as qik-display-tidy-kinds
use Rattle.hostbook.proofs.qik_display_tidy.Reads as qik-display-tidy
use Rattle.hostbook.proofs.qik_display_get.Kinds as qik-display-get-kinds
use Rattle.hostbook.proofs.qik_display_get.Reads as qik-display-get
use Rattle.hostbook.proofs.qik_export_put.Kinds as qik-export-put-kinds
use Rattle.hostbook.proofs.qik_export_put.Reads as qik-export-put
use Rattle.hostbook.proofs.qik_export_remove.Kinds as qik-export-remove-kinds
use Rattle.hostbook.proofs.qik_export_remove.Reads as qik-export-remove
use Rattle.hostbook.proofs.qik_export_tidy.Kinds as qik-export-tidy-kinds
use Rattle.hostbook.proofs.qik_export_tidy.Reads as qik-export-tidy
use Rattle.hostbook.proofs.qik_export_get.Kinds as qik-export-get-kinds
use Rattle.hostbook.proofs.qik_export_get.Reads as qik-export-get

pub qik_book_start_settled : Settles 1 qik-book-start-kinds.ps qik-book-start-kinds.r qik-book-start.Learnt
qik_book_start_settled κs a x y s t p q = settled p.0 q.0

pub qik_book_start_settled_book : SettlesBytes 1 qik-book-start-kinds.ps
    qik-book-start-kinds.r qik-book-start.Learnt (λ κs e. e.0.now)
qik_book_start_settled_book κs a x y s t p q = settled p.1 q.1

pub qik_display_put_settled : Settles 2 qik-display-put-kinds.ps qik-display-put-kinds.r
    qik-display-put.Learnt
qik_display_put_settled κs a x y s t p q = settled p.0 q.0

pub qik_display_put_settled_book : SettlesBytes 2 qik-display-put-kinds.ps
    qik-display-put-kinds.r qik-display-put.Learnt (λ κs e. e.0.now)
qik_display_put_settled_book κs a x y s t p q = settled p.1 q.1

pub qik_display_remove_settled : Settles 1 qik-display-remove-kinds.ps qik-display-remove-kinds.r
    qik-display-remove.Learnt
qik_display_remove_settled κs a x y s t p q = settled p.0 q.0

pub qik_display_remove_settled_book : SettlesBytes 1 qik-display-remove-kinds.ps
    qik-display-remove-kinds.r qik-display-remove.Learnt (λ κs e. e.0.now)
qik_display_remove_settled_book κs a x y s t p q = settled p.1 q.1

pub qik_display_tidy_settled : Settles 1 qik-display-tidy-kinds.ps qik-display-tidy-kinds.r
    qik-display-tidy.Learnt
qik_display_tidy_settled κs a x y s t p q = settled p.0 q.0

pub qik_display_tidy_settled_book : SettlesBytes 1 qik-display-tidy-kinds.ps
    qik-display-tidy-kinds.r qik-display-tidy.Learnt (λ κs e. e.0.now)
qik_display_tidy_settled_book κs a x y s t p q = settled p.1 q.1

pub qik_display_get_settled : Settles 1 qik-display-get-kinds.ps qik-display-get-kinds.r
    qik-display-get.Learnt
qik_display_get_settled κs a x y s t p q = settled p q

pub qik_export_put_settled : Settles 2 qik-export-put-kinds.ps qik-export-put-kinds.r qik-export-put.Learnt
qik_export_put_settled κs a x y s t p q = settled p.0 q.0

pub qik_export_put_settled_book : SettlesBytes 2 qik-export-put-kinds.ps
    qik-export-put-kinds.r qik-export-put.Learnt (λ κs e. e.0.now)
qik_export_put_settled_book κs a x y s t p q = settled p.1 q.1

pub qik_export_remove_settled : Settles 1 qik-export-remove-kinds.ps qik-export-remove-kinds.r
    qik-export-remove.Learnt
qik_export_remove_settled κs a x y s t p q = settled p.0 q.0

pub qik_export_remove_settled_book : SettlesBytes 1 qik-export-remove-kinds.ps
    qik-export-remove-kinds.r qik-export-remove.Learnt (λ κs e. e.0.now)
qik_export_remove_settled_book κs a x y s t p q = settled p.1 q.1

pub qik_export_tidy_settled : Settles 1 qik-export-tidy-kinds.ps qik-export-tidy-kinds.r
    qik-export-tidy.Learnt
qik_export_tidy_settled κs a x y s t p q = settled p.0 q.0

pub qik_export_tidy_settled_book : SettlesBytes 1 qik-export-tidy-kinds.ps
    qik-export-tidy-kinds.r qik-export-tidy.Learnt (λ κs e. e.0.now)
qik_export_tidy_settled_book κs a x y s t p q = settled p.1 q.1

pub qik_export_get_settled : Settles 1 qik-export-get-kinds.ps qik-export-get-kinds.r qik-export-get.Learnt
qik_export_get_settled κs a x y s t p q = settled p q
