-- For C an answer is packed in one number: what the check of a chain and a chained run answer,
-- which alone may have an offset, is taken apart again into its number, dx and dy.
use Prim.Native.Nat.{ℕ, zero, suc, ◌+◌, ◌^◌, ◌≤◌, ◌<◌}
use mathlib.Core.Path.{◌≡◌, sym, ap, ◌∙◌, subst}
use mathlib.Core.Bool.{Bool, true, false}
use mathlib.Core.Logic.{◌⊎◌, ⊎_elim}
use mathlib.Core.List.{List}
use native.Mathlib.Nat.{le_refl}
use native.Mathlib.Omega.{arith}
use lib.Dec.{lit≤}
use Rattle.answer.specs.declared.Told.{Told}
use Rattle.answer.specs.Answer.{Answer, told, told_refusal, plain}
use Rattle.answer.specs.Packed.{packed}
use Rattle.answer.specs.Apart.{apart, OfBytes}
use Rattle.answer.proofs.Apart.{taken_apart}
use Rattle.answer.proofs.OneToOne.{told_one_to_one}
use Rattle.answer.proofs.Order.{none_given}
use Rattle.picture.specs.Frame.{top}
use Rattle.element.specs.Shape.{Shape}
use Rattle.element.specs.Descriptor.{shape_in}
use Rattle.morphology.specs.Step.{Place}
use Rattle.morphology.specs.Chain.{Chained}
use Rattle.morphology.specs.Check.{value, Verdict, Taken, Split, scan_row, scan, fault_test, check_of}
use Rattle.morphology.proofs.Verdicts.{some_top}
use Rattle.faults.specs.Verdicts.{answer_of}
use Rattle.faults.specs.Steps.Scan.{least, row_offsets}
use Rattle.faults.proofs.Fixed.{fixed_scan}
use Rattle.chain.specs.Reading.{links_in, checked}
use Rattle.chain.proofs.check_chain.Kinds as check-kinds
use Rattle.chain.proofs.check_chain.Reads as check-reads
use Rattle.chained.specs.Run.{run_answer}
use Rattle.chained.proofs.erode.Kinds as erode-kinds
use Rattle.chained.proofs.erode.Reads as erode-reads
use Rattle.chained.proofs.dilate.Kinds as dilate-kinds
use Rattle.chained.proofs.dilate.Reads as dilate-reads
use Rattle.demands.specs.Demands.{Every}
use Rattle.demands.specs.Chains.{WellMade, Strength}
use Rattle.demands.specs.ChainCalls.{check_call}
use Rattle.demands.specs.RunCalls.{RunCall, run_call, room_run}
use Rattle.demands.proofs.Checks.{chained, outcome, split_is_first}
use Rattle.demands.proofs.Runs.{run_split}

-- ---- the check scans offsets that two bytes hold
abbrev Few : Verdict → Type 0
Few Taken = Unit {0}
Few (Split x y) = (x < 2 ^ 8) × (y < 2 ^ 8)

module _ (test : Place → Bool) where
  row_few : (y x n : ℕ) (after : Verdict) → x + n ≤ 2 ^ 8 → y < 2 ^ 8 → Few after
      → Few (scan_row test y x n after)
  unfolding scan_row
  row_few y x zero after l m f = f
  row_few y x (suc n) after l m f =
      by (test (record { x = x; y = y })) (row_few y (suc x) n after (omega arith) m f)
    where
      by : (b : Bool) → Few (scan_row test y (suc x) n after)
          → Few (elim b [ true ↦ Split x y | false ↦ scan_row test y (suc x) n after ])
      by true rest = (omega arith, m)
      by false rest = rest

  scan_few : (x k y n : ℕ) → x + k ≤ 2 ^ 8 → y + n ≤ 2 ^ 8 → Few (scan test x k y n)
  unfolding scan
  scan_few x k y zero l m = tt
  scan_few x k y (suc n) l m =
      row_few y x k (scan test x k (suc y) n) l (omega arith) (scan_few x k (suc y) n l (omega arith))

verdict_bytes : (v : Verdict) → Few v → OfBytes (answer_of v)
unfolding answer_of
verdict_bytes Taken f x y e = let z : ◌≡◌ {A = ℕ} 0 7 = cc in absurd (omega arith)
verdict_bytes (Split u v) f x y e =
    let p : u ≡ x = cc in
    let q : v ≡ y = cc in
    (subst (λ n. n < 2 ^ 8) p f.0, subst (λ n. n < 2 ^ 8) q f.1)

check_bytes : (E : Shape) (Bs : List Shape) → Chained E Bs → OfBytes (answer_of (check_of E Bs))
check_bytes E Bs C =
    verdict_bytes (check_of E Bs)
    (subst Few (fixed_scan E Bs C)
    (scan_few (fault_test E Bs) least row_offsets least row_offsets (lit≤ tt) (lit≤ tt)))

-- ---- the check
check_is_of_bytes : (element chain : List ℕ) (k : ℕ) (r : Answer) → told r ≡ checked element k chain
    → OfBytes r
unfolding told plain told_refusal
check_is_of_bytes element chain k r p =
    ⊎_elim (λ o. subst OfBytes (sym (told_one_to_one r _ o.1))
    (check_bytes (shape_in element) (links_in k chain) (chained element chain k r p o.0)))
    (λ o. other o.0 o.1 o.2) (outcome element chain k r p)
  where
    other : (n : ℕ) → (n ≡ 4) ⊎ (n ≡ 6) → told r ≡ plain n → OfBytes r
    other n o q x y e =
        let z : n ≡ 7 = ap (λ (t : Told). t.number) (sym q ∙ ap told e) in
        ⊎_elim (λ s. absurd (omega arith)) (λ s. absurd (omega arith)) o

pub check_taken_apart : Every 2 check-kinds.ps check-kinds.r check-reads.Learnt
    (λ κs a r e. apart (packed (told r)) ≡ told r)
check_taken_apart κs a r e p = let c = check_call κs a in
    taken_apart r (check_is_of_bytes c.element c.chain c.links r p)

-- ---- a chained run
run_is_of_bytes : (c : RunCall) (r : Answer)
    → told r
    ≡ run_answer c.depth c.w c.h c.source c.element c.links c.chain (room_run c)
    → OfBytes r
unfolding told checked told_refusal
run_is_of_bytes c r p x y e =
    let heard : Strength c.depth (top c.depth) =
    record { some = some_top c.depth; most = le_refl (top c.depth) } in
    let o = value (record { x = x; y = y }) in
    let first = ((run_split c.depth c.w c.h c.source c.element c.links c.chain (room_run c)
    r p o (top c.depth) heard).0 (ap told e)).1 in
    let v = answer_of (check_of (shape_in c.element) (links_in c.links c.chain)) in
    let q : told v ≡ checked c.element c.links c.chain = made first.0 in
    check_is_of_bytes c.element c.chain c.links v q x y
    (told_one_to_one v _
    ((split_is_first c.element c.chain c.links v q c.depth (top c.depth) heard o).1 first))
  where
    made : WellMade c.element c.links c.chain
        → told (answer_of (check_of (shape_in c.element) (links_in c.links c.chain)))
        ≡ checked c.element c.links c.chain
    made w = sym (none_given _ w)

pub chained_erode_taken_apart : Every 5 erode-kinds.ps erode-kinds.r erode-reads.Learnt
    (λ κs a r e. apart (packed (told r)) ≡ told r)
chained_erode_taken_apart κs a r e p = taken_apart r (run_is_of_bytes (run_call κs a e) r p.0)

pub chained_dilate_taken_apart : Every 5 dilate-kinds.ps dilate-kinds.r dilate-reads.Learnt
    (λ κs a r e. apart (packed (told r)) ≡ told r)
chained_dilate_taken_apart κs a r e p = taken_apart r (run_is_of_bytes (run_call κs a e) r p.0)
