-- A packed picture whose rows are whole bytes: what its points are settles its bytes.
use Prim.Native.Nat.{ℕ, ◌+◌, ◌-◌, ◌*◌, ◌/◌, ◌%◌, ◌^◌, ◌≤◌, ◌<◌}
use mathlib.Core.Path.{◌≡◌, sym, ap, ap₂, ◌∙◌, subst}
use mathlib.Core.List.{List}
use mathlib.Core.Logic.{⊎_elim}
use native.Mathlib.Nat.{mod-lt, div-lt_iff_lt-mul, div-add-mod'}
use native.Mathlib.Omega.{arith}
use lib.ListN.{length, get_or, drop, length-drop, length-append, get_or-append}
use lib.Seq.{ext_get_or, get_or-append-add, get_or-drop}
use Rattle.basics.specs.Bits.{bit}
use Rattle.basics.specs.Bytes.{Bytes}
use Rattle.basics.proofs.Bits.{bit_lt, bits_same}
use Rattle.basics.proofs.SliceParts.{below_or_not}
use Rattle.picture.specs.declared.Depth.TheVariants.{OneBit}
use Rattle.picture.specs.Frame.{frame, picture_bytes}
use Rattle.picture.specs.Points.{value_at, value_in}
use Rattle.picture.specs.Bytes.{Picture, bytes_of, written}
use Rattle.picture.proofs.Points.{written_value}
use Rattle.picture.proofs.Bytes.{bytes_long, bytes_lt}
use Rattle.morphology.specs.Order.{Bounded}

-- a point in its byte
pub value_at_lem : (l : List ℕ) (n x y : ℕ)
    → value_at OneBit l (n * 8) x y ≡ bit (get_or l (y * n + x / 8) 0) (7 - x % 8)
unfolding value_at value_in
value_at_lem l n x y = ap (λ r. bit (get_or l (y * r + x / 8) 0) (7 - x % 8)) (row n)
  where
    row : (n : ℕ) → (n * 8 + 7) / 8 ≡ n
    row n = omega arith

pub value_one : (l : List ℕ) (w h : ℕ) → Bounded 1 (frame w h) (value_at OneBit l w)
unfolding value_at value_in
value_one l w h p i = omega (arith, bit_lt (get_or l (p.y * ((w + 7) / 8) + p.x / 8) 0) (7 - p.x % 8))

-- ---- lists of bytes with the same points, and the same past the picture, are the same
module _ (n h : ℕ) (l t : List ℕ) (bl : Bytes l) (bt : Bytes t) (long : length l ≡ length t) (some : 1 ≤ n)
    (same : (x y : ℕ) → x < n * 8 → y < h → value_at OneBit l (n * 8) x y ≡ value_at OneBit t (n * 8) x y)
    (rest : (i : ℕ) → h * n ≤ i → get_or l i 0 ≡ get_or t i 0) where
  byte_same : (y j : ℕ) → y < h → j < n → get_or l (y * n + j) 0 ≡ get_or t (y * n + j) 0
  byte_same y j hy hj =
      bits_same 8 _ _ (bl (y * n + j)) (bt (y * n + j))
      (λ b k. sym (at l b k) ∙ same (j * 8 + (7 - b)) y (omega arith) hy ∙ at t b k)
    where
      place : (j b : ℕ) → b < 8 → (j * 8 + (7 - b)) / 8 ≡ j
      place j b k = omega arith

      digit : (j b : ℕ) → b < 8 → 7 - (j * 8 + (7 - b)) % 8 ≡ b
      digit j b k = omega arith

      at : (l : List ℕ) (b : ℕ) → b < 8
          → value_at OneBit l (n * 8) (j * 8 + (7 - b)) y ≡ bit (get_or l (y * n + j) 0) b
      at l b k =
          value_at_lem l n (j * 8 + (7 - b)) y ∙ ap₂ (λ i d. bit (get_or l (y * n + i) 0) d) (place j b k)
          (digit j b k)

  pub same_lists : l ≡ t
  same_lists = ext_get_or 0 l t long (λ i k. ⊎_elim (in_picture i) (λ g. rest i g) (below_or_not i (h * n)))
    where
      whole : (i : ℕ) → i ≡ i / n * n + i % n
      whole i = sym (div-add-mod' i n)

      in_picture : (i : ℕ) → i < h * n → get_or l i 0 ≡ get_or t i 0
      in_picture i g =
          ap (λ k. get_or l k 0) (whole i)
          ∙ byte_same (i / n) (i % n) ((div-lt_iff_lt-mul some).1 g) (mod-lt i {m = n} some)
          ∙ ap (λ k. get_or t k 0) (sym (whole i))

-- ---- a picture written, past it and in bytes
module _ (A : Picture) (w h : ℕ) (small : Bounded 1 (frame w h) A) (t : List ℕ) (bt : Bytes t)
    (room : picture_bytes OneBit w h ≤ length t) where
  few : (x y : ℕ) → x < w → y < h → A x y ≤ 1
  few x y hx hy = small (record { x = x; y = y }) (record { ping = hx; bin = hy })

  pub written_long : length (written OneBit A w h t) ≡ length t
  unfolding written
  written_long =
      length-append (bytes_of OneBit A w h) (drop (picture_bytes OneBit w h) t)
      ∙ ap₂ (λ a b. a + b) (bytes_long OneBit A w h) (length-drop (picture_bytes OneBit w h) t) ∙ back _ _
      room
    where
      back : (a b : ℕ) → a ≤ b → a + (b - a) ≡ b
      back a b k = omega arith

  pub written_rest : (i : ℕ) → picture_bytes OneBit w h ≤ i → get_or (written OneBit A w h t) i 0
      ≡ get_or t i 0
  unfolding written
  written_rest i k =
      ap (λ m. get_or (written OneBit A w h t) m 0) (home _ _ i (bytes_long OneBit A w h) k)
      ∙ get_or-append-add (bytes_of OneBit A w h) (drop (picture_bytes OneBit w h) t)
      (i - picture_bytes OneBit w h) 0
      ∙ get_or-drop (picture_bytes OneBit w h) t (i - picture_bytes OneBit w h) 0
      ∙ ap (λ m. get_or t m 0) (again _ i k)
    where
      home : (a b i : ℕ) → a ≡ b → b ≤ i → i ≡ a + (i - b)
      home a b i e k = omega arith

      again : (b i : ℕ) → b ≤ i → b + (i - b) ≡ i
      again b i k = omega arith

  pub written_bytes : Bytes (written OneBit A w h t)
  unfolding written
  written_bytes i =
      ⊎_elim
      (λ k. subst (λ b. b < 2 ^ 8)
      (sym (get_or-append (bytes_of OneBit A w h) (drop (picture_bytes OneBit w h) t) 0 i
      (subst (λ n. i < n) (sym (bytes_long OneBit A w h)) k))) (bytes_lt OneBit A w h few i))
      (λ k. subst (λ b. b < 2 ^ 8) (sym (written_rest i k)) (bt i))
      (below_or_not i (picture_bytes OneBit w h))

  pub written_point : (x y : ℕ) → x < w → y < h → value_at OneBit (written OneBit A w h t) w x y ≡ A x y
  written_point = written_value OneBit A w h t few

-- a list that shows a picture, and has all else of t, is t with that picture written
pub shown_written : (A : Picture) (n h : ℕ) → 1 ≤ n → Bounded 1 (frame (n * 8) h) A → (t v : List ℕ)
    → Bytes t → Bytes v → h * n ≤ length t → length v ≡ length t
    → ((x y : ℕ) → x < n * 8 → y < h → value_at OneBit v (n * 8) x y ≡ A x y)
    → ((i : ℕ) → h * n ≤ i → get_or v i 0 ≡ get_or t i 0)
    → v ≡ written OneBit A (n * 8) h t
shown_written A n h some small t v bt bv room len each rest =
    same_lists n h v (written OneBit A (n * 8) h t) bv (written_bytes A (n * 8) h small t bt long)
    (len ∙ sym (written_long A (n * 8) h small t bt long)) some
    (λ x y hx hy. each x y hx hy ∙ sym (written_point A (n * 8) h small t bt long x y hx hy))
    (λ i k. rest i k ∙ sym (written_rest A (n * 8) h small t bt long i (subst (λ m. m ≤ i) (sym bytes) k)))
  where
    row : (n : ℕ) → (n * 8 + 7) / 8 ≡ n
    row n = omega arith

    bytes : picture_bytes OneBit (n * 8) h ≡ h * n
    bytes = ap (λ r. h * r) (row n)

    long : picture_bytes OneBit (n * 8) h ≤ length t
    long = subst (λ m. m ≤ length t) (sym bytes) room
