-- A row whose bytes are set anew a block at a time, each by what it was and where it stands:
-- its blocks, the last over the one before, or a row that is shorter than one.
use Prim.Native.Nat.{ℕ, zero, suc, ◌+◌, ◌≤◌, ◌<◌}
use mathlib.Core.Path.{◌≡◌, refl, sym, ap, ap₂, ◌∙◌, subst}
use mathlib.Core.List.{List}
use mathlib.Core.Logic.{⊎_elim}
use native.Mathlib.Omega.{arith}
use lib.ListN.{length, get_or, replicate, length-replicate}
use Rattle.basics.specs.Lists.{firsts}
use Rattle.basics.proofs.Lists.{get_d_firsts, firsts_same}
use Rattle.basics.proofs.SliceParts.{below_or_not}
use Rattle.morphology.specs.Operations.{fold}
use Rattle.blocks.specs.Steps.Laid.{laid}
use Rattle.blocks.specs.Steps.Block.{block_of}
use Rattle.blocks.proofs.Laid.{laid_none, laid_same, still, get_first, laid_over}

pub got : (f : ℕ → ℕ) (l : List ℕ) → l ≡ firsts f 64 → (j : ℕ) → j < 64 → get_or l j 0 ≡ f j
got f l e j h = ap (λ m. get_or m j 0) e ∙ get_d_firsts f 64 j h

pub block_got : (b c : List ℕ) (i : ℕ) → c ≡ block_of b i → (j : ℕ) → j < 64 → get_or c j 0
    ≡ get_or b (i + j) 0
unfolding block_of
block_got b c i e j h = got (λ j. get_or b (i + j) 0) c e j h

-- ---- a fold that is repeated changes nothing
module _ (op : ℕ → ℕ → ℕ) (swap : (a b c : ℕ) → op (op a b) c ≡ op (op a c) b)
    (again : (a b : ℕ) → op (op a b) b ≡ op a b) (f : ℕ → ℕ) where
  fold_on : (v x k : ℕ) → fold op (op v x) f k ≡ op (fold op v f k) x
  unfolding fold
  fold_on v x zero = refl
  fold_on v x (suc k) = ap (λ a. op a (f k)) (fold_on v x k) ∙ swap (fold op v f k) x (f k)

  pub fold_again : (v k : ℕ) → fold op (fold op v f k) f k ≡ fold op v f k
  unfolding fold
  fold_again v zero = refl
  fold_again v (suc k) =
      ap (λ a. op a (f k)) (fold_on (fold op v f k) (f k) k)
      ∙ again (fold op (fold op v f k) f k) (f k) ∙ ap (λ a. op a (f k)) (fold_again v k)

-- ---- byte m of the row t is to be F of its value and m
module _ (F : ℕ → ℕ → ℕ) (t : List ℕ) where
  abbrev pub row_at : ℕ → ℕ
  row_at m = F (get_or t m 0) m

  -- one block more: some of it may be made already
  pub blocks_more : ((v m : ℕ) → F (F v m) m ≡ F v m) → (u c e v : List ℕ) (done i : ℕ) → i ≤ done
      → done ≤ i + 64 → i + 64 ≤ length t → u ≡ laid 0 done row_at t → c ≡ block_of u i
      → e ≡ firsts (λ m. F (get_or c m 0) (i + m)) 64 → v ≡ laid i 64 (λ j. get_or e j 0) u
      → v ≡ laid 0 (i + 64) row_at t
  blocks_more again u c e v done i near reach fits so ec ee ev =
      laid_over row_at done i 64 t u v e near reach fits so
      (ee ∙ firsts_same _ _ 64 (λ j h. ap (λ n. F n (i + j)) (block_got u c i ec j h)
      ∙ made (i + j) (omega (arith, h)))) ev
    where
      made : (m : ℕ) → m < length t → F (get_or u m 0) m ≡ row_at m
      made m h = ⊎_elim
          (λ l. ap (λ n. F n m) (ap (λ l. get_or l m 0) so ∙ get_first done row_at t m (omega arith) l)
          ∙ again (get_or t m 0) m)
          (λ l. ap (λ n. F n m) (still 0 done row_at t u m h (omega (arith, l)) so))
          (below_or_not m done)

  -- a row of no byte
  pub none_joined : length t ≤ 0 → t ≡ laid 0 (length t) row_at t
  none_joined h = laid_none 0 row_at t ∙ ap (λ n. laid 0 n row_at t) (none (length t) h)
    where
      none : (n : ℕ) → n ≤ 0 → 0 ≡ n
      none n h = omega arith

  -- a row that is shorter than a block
  pub short_joined : (c e u : List ℕ) → length t ≤ 64
      → c ≡ laid 0 (length t) (λ m. get_or t (0 + m) 0) (replicate 64 0)
      → e ≡ firsts (λ m. F (get_or c m 0) (0 + m)) 64 → u ≡ laid 0 (length t) (λ j. get_or e j 0) t
      → u ≡ laid 0 (length t) row_at t
  short_joined c e u few ec ee eu =
      eu ∙ laid_same 0 (length t) _ _ t (omega arith)
      (λ j h. got _ e ee j (omega arith)
      ∙ ap₂ F (ap (λ l. get_or l j 0) ec
      ∙ get_first (length t) (λ m. get_or t (0 + m) 0) (replicate 64 0) j
      (subst (λ m. length t ≤ m) (sym (length-replicate {A = ℕ} 64 0)) few) h
      ∙ ap (λ m. get_or t m 0) (none j))
      (none j))
    where
      none : (j : ℕ) → 0 + j ≡ j
      none j = omega arith
