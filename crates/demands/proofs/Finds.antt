-- The search for a chain. Demand 1: each number is given exactly where its test is the first to hold, and a
-- refusal changes no byte. What is written is accepted by the check; where it says that no chain exists,
-- there is none; and every rectangle that five links can reach gets one.
-- Of every outcome that the contract of `chainfor::find_chain` allows.
use Prim.Native.Nat.{ℕ}
use mathlib.Core.Path.{◌≡◌, refl, sym}
use mathlib.Core.List.{List}
use native.Mathlib.Omega.{arith}
use lib.ListN.{length, take}
use Rattle.std.specs.Prelude.{Result, Ok, Err, IfOk}
use Rattle.answer.specs.Answer.{told, told_refusal, plain}
use Rattle.answer.proofs.Order.{Numbered}
use Rattle.chain.specs.Reading.{checked}
use Rattle.chainfor.specs.Find.{find_tests, find_answer, told_found, chain_left, FoundAs}
use Rattle.chainfor.specs.declared.Found.{Found}
use Rattle.chainfor.specs.declared.Unfound.{Unfound}
use Rattle.chainfor.proofs.find_chain.Kinds as kinds
use Rattle.chainfor.proofs.find_chain.Reads as reads
use Rattle.chainlaw.proofs.Outcomes.{written_accepted, none_exists, rectangle_found}
use Rattle.demands.specs.Demands.{Every, Exactly, Kept}
use Rattle.demands.specs.Finds.{find_call, WritesAccepted, NoneExists, FindsRectangles}
use Rattle.demands.proofs.Laws.{exactly_of, kept_of}
use Rattle.demands.proofs.Checks.{done_is_same}

find_numbered : (d : List ℕ) (room : ℕ) → Numbered (find_tests d room)
unfolding find_tests
find_numbered d room = (omega arith, (omega arith, (omega arith, tt)))

pub find_chain_exactly : Every 2 kinds.ps kinds.r reads.Learnt
    (λ κs a r e. let c = find_call κs a in
    Exactly (find_tests c.element (length c.chain)) (told_found r))
unfolding find_answer
find_chain_exactly κs a r e p =
    let c = find_call κs a in
    exactly_of (find_tests c.element (length c.chain)) (told_found r)
    (find_numbered c.element (length c.chain)) p.0.answered

pub find_chain_kept : Every 2 kinds.ps kinds.r reads.Learnt
    (λ κs a r e. let c = find_call κs a in
    Kept (find_tests c.element (length c.chain)) c.chain e.1.0.now)
unfolding find_answer chain_left
find_chain_kept κs a r e p =
    let c = find_call κs a in
    kept_of (find_tests c.element (length c.chain)) _ _ _
    (find_numbered c.element (length c.chain)) p.1

-- what the check accepts does the element's work
writes_accepted : (d after : List ℕ) (r : Result Found Unfound)
    → ((f : Found) → r ≡ Ok f → checked d f.links (take f.bytes after) ≡ plain 0) → WritesAccepted d after r
unfolding told plain told_refusal
writes_accepted d after (Ok f) w =
    record {
      accepted = w f refl;
      same = ((done_is_same d (take f.bytes after) f.links (Ok (tt {0})) (sym (w f refl))).0 refl).1;
    }
writes_accepted d after (Err u) w = record { accepted = tt; same = tt }

pub find_chain_accepted : Every 2 kinds.ps kinds.r reads.Learnt
    (λ κs a r e. WritesAccepted (find_call κs a).element e.1.0.now r)
find_chain_accepted κs a r e p =
    let c = find_call κs a in
    writes_accepted c.element e.1.0.now r (written_accepted c.element c.chain e.1.0.now r p.0 p.1)

pub find_chain_none_exists : Every 2 kinds.ps kinds.r reads.Learnt
    (λ κs a r e. NoneExists (find_call κs a).element r)
find_chain_none_exists κs a r e p =
    let c = find_call κs a in none_exists c.element c.chain e.1.0.now r p.0 p.1

pub find_chain_rectangles : Every 2 kinds.ps kinds.r reads.Learnt
    (λ κs a r e. let c = find_call κs a in FindsRectangles c.element c.chain r)
find_chain_rectangles κs a r e p =
    let c = find_call κs a in rectangle_found c.element c.chain e.1.0.now r p.0 p.1
