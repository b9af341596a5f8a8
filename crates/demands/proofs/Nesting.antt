-- Request (xiv), of every outcome that the contract of the nesting allows.
use Prim.Native.Nat.{ℕ, zero, suc, ◌+◌, ◌*◌, ◌/◌, ◌%◌, ◌≤◌, ◌<◌}
use mathlib.Core.Path.{◌≡◌, sym, ap, ap₂, ◌∙◌, subst}
use mathlib.Core.Bool.{cond}
use mathlib.Core.List.{List, ◌++◌}
use native.Mathlib.Omega.{arith}
use native.Mathlib.Nat.{mod-lt, div-lt_iff_lt-mul, mul_comm}
use lib.ListN.{length, take, drop}
use lib.Seq.{take-append_seam, drop-append_seam}
use Rattle.answer.specs.Answer.{told, plain, is_done}
use Rattle.answer.specs.Refuse.{NoneHolds, FirstHolds}
use Rattle.answer.proofs.Order.{Numbered, none_given}
use Rattle.answer.proofs.Lent.{all_done, lent_made}
use Rattle.regions.specs.Regions.{point_of, Firsts}
use Rattle.regions.specs.Listing.{order, listing, regions_of}
use Rattle.regions.specs.Once.{seconds_sum, EachOnce}
use Rattle.regions.proofs.Firsts.{firsts_exist, firsts_alike}
use Rattle.regions.proofs.Theorems.{list_length, counts_all, each_once}
use Rattle.nesting.specs.Nesting.{nest_answer, nest_left, regions_in}
use Rattle.nesting.proofs.Refused.{nest_numbered}
use Rattle.nesting.proofs.nest.Kinds as nest-kinds
use Rattle.nesting.proofs.nest.Reads as nest-reads
use Rattle.picture.specs.declared.Depth.TheVariants.{OneBit}
use Rattle.demands.specs.Demands.{Every, Exactly, Kept}
use Rattle.demands.specs.PointsAlone.{SamePoints}
use Rattle.demands.specs.NestCalls.{NestCall, nest_call, ByRegions, tests_nest, RepaddedNest}
use Rattle.demands.specs.Nests.{Nests, CountsAll}
use Rattle.demands.proofs.Laws.{exactly_of, kept_of, refused_not}

numbered : (R : ℕ → ℕ) (c : NestCall) → Numbered (tests_nest R c)
numbered R c = nest_numbered R c.w c.h (length c.source) (length c.before)

pub nesting_exactly : Every 2 nest-kinds.ps nest-kinds.r nest-reads.Learnt (λ κs a r e.
    let c = nest_call κs a e in ByRegions c (λ R. Exactly (tests_nest R c) (told r)))
nesting_exactly κs a r e p R f =
    let c = nest_call κs a e in
    exactly_of (tests_nest R c) (told r) (numbered R c) (p.0 R f).answer

pub nesting_kept : Every 2 nest-kinds.ps nest-kinds.r nest-reads.Learnt (λ κs a r e.
    let c = nest_call κs a e in ByRegions c (λ R. Kept (tests_nest R c) c.before c.after))
nesting_kept κs a r e p R f =
    let c = nest_call κs a e in
    kept_of (tests_nest R c) _ _ _ (numbered R c) (p.1 R f)

-- a refused call gives 0 for the regions
pub nesting_none : Every 2 nest-kinds.ps nest-kinds.r nest-reads.Learnt (λ κs a r e.
    let c = nest_call κs a e in ByRegions c (λ R. (n : ℕ) → FirstHolds (tests_nest R c) n → regions_in r ≡ 0))
nesting_none κs a r e p R f n first =
    let c = nest_call κs a e in
    (p.0 R f).regions
    ∙ ap (λ b. cond b (regions_of R (c.h * c.w)) 0) (refused_not (tests_nest R c) n (numbered R c) first)

-- the front and the rest of a list with the listing in it
front : (l was : List ℕ) (n : ℕ) → length l ≡ n → take n (l ++ drop n was) ≡ l
front l was n e = subst (λ n. take n (l ++ drop n was) ≡ l) e (take-append_seam l (drop (length l) was))

rest : (l was : List ℕ) (n : ℕ) → length l ≡ n → drop n (l ++ drop n was) ≡ drop n was
rest l was n e =
    subst (λ n. drop n (l ++ drop n was) ≡ drop n was) e (drop-append_seam l (drop (length l) was))

-- the list is the definition's listing
pub nesting_lists : Every 2 nest-kinds.ps nest-kinds.r nest-reads.Learnt (λ κs a r e.
    let c = nest_call κs a e in ByRegions c (λ R. NoneHolds (tests_nest R c) → Nests R c (regions_in r)))
nesting_lists κs a r e p R f none =
    let c = nest_call κs a e in
    let l = listing R c.w (c.h * c.w) in
    let k : regions_in r ≡ regions_of R (c.h * c.w) =
    (p.0 R f).regions
    ∙ ap (λ b. cond b (regions_of R (c.h * c.w)) 0) (ap is_done (none_given (plain 0) none) ∙ all_done) in
    let long : length l ≡ 2 * regions_in r =
    list_length c.w c.h (point_of c.source c.w) R f ∙ ap (λ k. 2 * k) (sym k) in
    let left : c.after ≡ l ++ drop (2 * regions_in r) c.before =
    p.1 R f ∙ lent_made c.before _ none ∙ ap (λ k. l ++ drop (2 * k) c.before) (sym k) in
    record {
      many = k;
      lines = ap (take (2 * regions_in r)) left ∙ front l c.before (2 * regions_in r) long;
      further = ap (drop (2 * regions_in r)) left ∙ rest l c.before (2 * regions_in r) long;
    }

-- each region comes once in it, after its parent
pub nesting_once : Every 2 nest-kinds.ps nest-kinds.r nest-reads.Learnt (λ κs a r e.
    let c = nest_call κs a e in
    ByRegions c (λ R. EachOnce c.w (c.h * c.w) R (order R c.w (c.h * c.w))))
nesting_once κs a r e p R f =
    let c = nest_call κs a e in
    each_once c.w c.h (point_of c.source c.w) R f

-- the counts sum to W x H
pub nesting_counts : Every 2 nest-kinds.ps nest-kinds.r nest-reads.Learnt (λ κs a r e.
    let c = nest_call κs a e in ByRegions c (λ R. NoneHolds (tests_nest R c) → CountsAll c (regions_in r)))
nesting_counts κs a r e p R f none =
    let c = nest_call κs a e in
    ap seconds_sum (nesting_lists κs a r e p R f none).lines
    ∙ counts_all c.w c.h (point_of c.source c.w) R f ∙ mul_comm c.h c.w

-- ---- what stands in the padding of the source changes neither the answer nor a number
same_points : (w h : ℕ) (s t : List ℕ) → SamePoints OneBit w h s t → (p : ℕ) → p < h * w
    → point_of s w p ≡ point_of t w p
unfolding point_of
same_points w h s t e p k =
    let some = some_pings w h p k in
    e.points (p % w) (p / w) (mod-lt p some) ((div-lt_iff_lt-mul some).1 k)
  where
    some_pings : (w h p : ℕ) → p < h * w → 1 ≤ w
    some_pings zero h p k = absurd (omega (arith, k))
    some_pings (suc w) h p k = omega arith

pub nesting_alone : Every 2 nest-kinds.ps nest-kinds.r nest-reads.Learnt (λ κs a x e.
    Every 2 nest-kinds.ps nest-kinds.r nest-reads.Learnt (λ κs' a' x' e'.
    RepaddedNest (nest_call κs a e) (nest_call κs' a' e')
    → (told x ≡ told x') × (regions_in x ≡ regions_in x')
    × ((nest_call κs a e).after ≡ (nest_call κs' a' e').after)))
nesting_alone κs a x e p κs' a' x' e' p' q =
    let c = nest_call κs a e in
    let d = nest_call κs' a' e' in
    let s = firsts_exist c.source c.w c.h in
    let R = s.0 in
    let t = firsts_alike c.w c.h (point_of c.source c.w) (point_of d.source c.w) R
    (same_points c.w c.h c.source d.source q.source) s.1 in
    let u : Firsts d.w d.h (point_of d.source d.w) R =
    subst (λ h. Firsts d.w h (point_of d.source d.w) R) q.bins
    (subst (λ w. Firsts w c.h (point_of d.source w) R) q.pings t) in
    let m = p.0 R s.1 in
    let n = p'.0 R u in (
      m.answer
          ∙ (λ i. nest_answer R (q.pings i) (q.bins i) (q.source.long i) (length (q.list i)))
          ∙ sym n.answer,
      m.regions
          ∙ (λ i. cond (is_done (nest_answer R (q.pings i) (q.bins i) (q.source.long i)
          (length (q.list i))))
          (regions_of R (q.bins i * q.pings i)) 0)
          ∙ sym n.regions,
      p.1 R s.1 ∙ (λ i. nest_left R (q.pings i) (q.bins i) (q.source.long i) (q.list i))
          ∙ sym (p'.1 R u),
    )
