-- A line's head and a buffer, by one number more.
use Prim.Native.Nat.{ℕ, ◌+◌, ◌%◌, ◌^◌, ◌≤◌, ◌<◌, min}
use mathlib.Core.Path.{◌≡◌, refl, sym, ap, ◌∙◌}
use mathlib.Core.Bool.{cond}
use mathlib.Core.List.{List, ◌++◌}
use native.Mathlib.Numerals.{add-one}
use borrow.Author.Tests.{lt-ltb, le-ltb}
use lib.ListN.{length, drop}
use Rattle.picture.specs.declared.Depth.{Depth}
use Rattle.numbers.specs.declared.Found.{Found}
use Rattle.lines.specs.declared.Head.{Head}
use Rattle.basics.specs.Lists.{firsts}
use Rattle.numbers.specs.Numbers.{number_at}
use Rattle.lines.specs.Heads.{depth_of, head_of}
use Rattle.lines.specs.Buffers.{last_with, last_in, byte_of, count_at, length_at, buffer_at, filled_at}

-- ---- a line's head, number by number
module _ (letter : ℕ) (line : List ℕ) (d w h k : Found) (depth : Depth) where
  pub head_is : d ≡ number_at line 2 → w ≡ number_at line d.next → h ≡ number_at line w.next
      → k ≡ number_at line h.next → depth ≡ depth_of d.value
      → ◌≡◌ {A = Head}
      (record {
        letter = letter;
        depth = depth;
        w = w.value;
        h = h.value;
        links = k.value;
        next = k.next;
      })
      (head_of letter line)
  unfolding head_of
  head_is ed ew eh ek e =
      let after : Found → Found = λ f. number_at line f.next in
      let depths : depth ≡ depth_of (number_at line 2).value = e ∙ ap (λ (f : Found). depth_of f.value) ed in
      let ws : w ≡ after (number_at line 2) = ew ∙ ap after ed in
      let hs : h ≡ after (after (number_at line 2)) = eh ∙ ap after ws in
      let ks : k ≡ after (after (after (number_at line 2))) = ek ∙ ap after hs in
      λ j. record {
        letter = letter;
        depth = depths j;
        w = (ws j).value;
        h = (hs j).value;
        links = (ks j).value;
        next = (ks j).next;
      }

-- ---- the number of a byte
module _ (line : List ℕ) (m i : ℕ) (last : Found) where
  pub next_number : i < m → (u : Found) → u ≡ number_at line last.next → u ≡ last_with line m i last
  next_number h u e = e ∙ sym (ap (λ t. cond t (number_at line last.next) last) (lt-ltb i m h))

  pub last_again : m ≤ i → last ≡ last_with line m i last
  last_again h = sym (ap (λ t. cond t (number_at line last.next) last) (le-ltb i m h))

-- ---- the last number of a buffer
module _ (line : List ℕ) (m at : ℕ) where
  pub last_none : ◌≡◌ {A = Found} (record { value = 0; next = at }) (last_in line m at 0)
  unfolding last_in
  last_none = refl

  pub last_more : (i : ℕ) (last u : Found) → last ≡ last_in line m at i → u ≡ last_with line m i last
      → u ≡ last_in line m at (i + 1)
  unfolding last_in
  last_more i last u e q =
      q ∙ ap (last_with line m i) e ∙ ap (last_in line m at) (sym (add-one i))

  pub byte_is : (i : ℕ) (u : Found) → u ≡ last_in line m at (i + 1) → u.value % 2 ^ 8 ≡ byte_of line m at i
  unfolding byte_of
  byte_is i u e = ap (λ (v : Found). v.value % 2 ^ 8) e

-- ---- a buffer that was read to its end, by its length n, the count m and the room that there was
module _ (line : List ℕ) (at : ℕ) (b₀ : List ℕ) (n m : Found) (k : ℕ) (en : n ≡ number_at line at)
    (em : m ≡ number_at line n.next) (ek : k ≡ min n.value (length b₀)) (i : ℕ) (ei : i ≡ k) where
  count_is : m ≡ count_at line at
  count_is = em ∙ ap (λ (f : Found). number_at line f.next) en

  long_is : k ≡ length_at line at (length b₀)
  long_is = ek ∙ ap (λ (f : Found). min f.value (length b₀)) en

  all_are : i ≡ length_at line at (length b₀)
  all_are = ei ∙ long_is

  pub read_is : (last : Found) → last ≡ last_in line m.value m.next i
      → ◌≡◌ {A = Found} (record { value = k; next = last.next }) (buffer_at line at (length b₀))
  unfolding buffer_at
  read_is last e =
      let there : last ≡ last_in line (count_at line at).value (count_at line at).next
      (length_at line at (length b₀)) =
      e ∙ (λ j. last_in line (count_is j).value (count_is j).next (all_are j)) in
      λ j. record { value = long_is j; next = (there j).next }

  pub filled_is : (b : List ℕ) → b ≡ firsts (byte_of line m.value m.next) i ++ drop i b₀
      → b ≡ filled_at line at b₀
  unfolding filled_at
  filled_is b e =
      e
      ∙ (λ j. firsts (byte_of line (count_is j).value (count_is j).next) (all_are j) ++ drop (all_are j) b₀)
