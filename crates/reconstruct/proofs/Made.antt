-- What the visits leave of the copied marker is what the marker grows to.
use Prim.Native.Nat.{ℕ, ◌+◌, ◌-◌, ◌*◌, ◌/◌, ◌%◌, ◌^◌, ◌≤◌, ◌<◌, min}
use mathlib.Core.Path.{◌≡◌, refl, sym, ap, ap₂, ◌∙◌, subst}
use mathlib.Core.Bool.{Bool, true, false, cond}
use mathlib.Core.List.{List}
use mathlib.Core.Logic.{⊎_elim}
use native.Mathlib.Nat.{mod-lt, div-lt_iff_lt-mul, div-add-mod'}
use native.Mathlib.Omega.{arith}
use borrow.Author.Tests.{lt-ltb, le-ltb, ltb-true, ltb-false}
use lib.Dec.{ltb}
use lib.ListN.{length, get_or, drop, length-drop, length-append, get_or-append}
use lib.Seq.{ext_get_or, get_or-append-add, get_or-drop}
use Rattle.basics.specs.Bits.{bit}
use Rattle.basics.specs.Bytes.{Bytes}
use Rattle.basics.proofs.Bits.{bit_lt, bits_same}
use Rattle.basics.proofs.SliceParts.{below_or_not}
use Rattle.picture.specs.declared.Depth.TheVariants.{OneBit}
use Rattle.picture.specs.declared.Face.TheVariants.{AsIs}
use Rattle.picture.specs.Frame.{Frame, frame, row_bytes, spare_bits, picture_bytes, Holds}
use Rattle.picture.specs.Points.{value_at, value_in}
use Rattle.picture.specs.Bytes.{Picture, bytes_of, written, faced}
use Rattle.picture.proofs.Points.{written_value, written_padding}
use Rattle.picture.proofs.Bytes.{bytes_long, bytes_lt}
use Rattle.picture.proofs.Sizes.{spare_few}
use Rattle.morphology.specs.Step.{Place}
use Rattle.morphology.specs.Order.{LiesWithin, Bounded}
use Rattle.grown.specs.declared.Neighbours.{Neighbours}
use Rattle.grown.specs.declared.Neighbours.TheVariants.{Cross, Square}
use Rattle.grown.specs.Grown.{grown}
use Rattle.grown.specs.Reached.{Beside}
use Rattle.grown.specs.Steps.Growing.{Growing, Steady}
use Rattle.grown.proofs.Growing.{marker_within, grown_one_bit, grown_step, steady_grown}
use Rattle.settle.specs.Steps.Grew.{point_in, Touch, mask_point, Under, Shut}
use Rattle.reconstruct.specs.declared.Rows.{Rows}
use Rattle.reconstruct.specs.Steps.Visits.{square_of, Room, Grew, StillAll}

-- ---- lists of bytes with the same points, and the same past the picture, are the same
module _ (n h : ℕ) (l t : List ℕ) (bl : Bytes l) (bt : Bytes t) (long : length l ≡ length t)
    (same : (x y : ℕ) → x < 8 * n → y < h → point_in l (y * n) x ≡ point_in t (y * n) x)
    (rest : (i : ℕ) → h * n ≤ i → get_or l i 0 ≡ get_or t i 0) where
  byte_same : (y j : ℕ) → y < h → j < n → get_or l (y * n + j) 0 ≡ get_or t (y * n + j) 0
  byte_same y j hy hj =
      bits_same 8 _ _ (bl (y * n + j)) (bt (y * n + j))
      (λ b k. sym (at l b k) ∙ same (8 * j + (7 - b)) y (omega arith) hy ∙ at t b k)
    where
      place : (j b : ℕ) → b < 8 → (8 * j + (7 - b)) / 8 ≡ j
      place j b k = omega arith

      digit : (j b : ℕ) → b < 8 → 7 - (8 * j + (7 - b)) % 8 ≡ b
      digit j b k = omega arith

      at : (l : List ℕ) (b : ℕ) → b < 8 → point_in l (y * n) (8 * j + (7 - b))
          ≡ bit (get_or l (y * n + j) 0) b
      at l b k = λ i. bit (get_or l (y * n + place j b k i) 0) (digit j b k i)

  pub same_points : 1 ≤ n → l ≡ t
  same_points some = ext_get_or 0 l t long (λ i k. ⊎_elim (in_picture i) (λ g. rest i g) (below_or_not i (h *
      n)))
    where
      whole : (i : ℕ) → i ≡ i / n * n + i % n
      whole i = sym (div-add-mod' i n)

      in_picture : (i : ℕ) → i < h * n → get_or l i 0 ≡ get_or t i 0
      in_picture i g =
          ap (λ k. get_or l k 0) (whole i)
          ∙ byte_same (i / n) (i % n) ((div-lt_iff_lt-mul some).1 g) (mod-lt i {m = n} some)
          ∙ ap (λ k. get_or t k 0) (sym (whole i))

-- ---- a picture written, past it and in bytes
module _ (A : Picture) (w h : ℕ) (small : (x y : ℕ) → x < w → y < h → A x y ≤ 1) (t : List ℕ) (bt : Bytes t)
    (room : picture_bytes OneBit w h ≤ length t) where
  pub written_long : length (written OneBit A w h t) ≡ length t
  unfolding written
  written_long =
      length-append (bytes_of OneBit A w h) (drop (picture_bytes OneBit w h) t)
      ∙ ap₂ (λ a b. a + b) (bytes_long OneBit A w h) (length-drop (picture_bytes OneBit w h) t)
      ∙ back _ _ room
    where
      back : (a b : ℕ) → a ≤ b → a + (b - a) ≡ b
      back a b k = omega arith

  written_rest : (i : ℕ) → picture_bytes OneBit w h ≤ i → get_or (written OneBit A w h t) i 0 ≡ get_or t i 0
  unfolding written
  written_rest i k =
      ap (λ m. get_or (written OneBit A w h t) m 0) (home _ _ i (bytes_long OneBit A w h) k)
      ∙ get_or-append-add (bytes_of OneBit A w h) (drop (picture_bytes OneBit w h) t)
      (i - picture_bytes OneBit w
      h) 0
      ∙ get_or-drop (picture_bytes OneBit w h) t (i - picture_bytes OneBit w h) 0
      ∙ ap (λ m. get_or t m 0) (again _ i k)
    where
      home : (a b i : ℕ) → a ≡ b → b ≤ i → i ≡ a + (i - b)
      home a b i e k = omega arith

      again : (b i : ℕ) → b ≤ i → b + (i - b) ≡ i
      again b i k = omega arith

  written_bytes : Bytes (written OneBit A w h t)
  unfolding written
  written_bytes i =
      ⊎_elim
      (λ k. subst (λ b. b < 2 ^ 8)
      (sym (get_or-append (bytes_of OneBit A w h) (drop (picture_bytes OneBit w h) t) 0 i
      (subst (λ n. i < n) (sym (bytes_long OneBit A w h)) k))) (bytes_lt OneBit A w h small i))
      (λ k. subst (λ b. b < 2 ^ 8) (sym (written_rest i k)) (bt i))
      (below_or_not i (picture_bytes OneBit w h))

-- ---- the visits, from the copied marker on
beside_touch : (neighbours : Neighbours) (p q : Place) → Beside neighbours p q
    → Touch (square_of neighbours) p.x p.y q.x q.y
beside_touch Cross p q b = b
beside_touch Square p q b = b

touch_beside : (neighbours : Neighbours) (p q : Place) → Touch (square_of neighbours) p.x p.y q.x q.y
    → Beside neighbours p q
touch_beside Cross p q b = b
touch_beside Square p q b = b

module _ (neighbours : Neighbours) (w h : ℕ) (some : 1 ≤ w) (marker mask : List ℕ)
    (within : LiesWithin (frame w h) (value_at OneBit marker w) (value_at OneBit mask w))
    (t₀ t₁ t₂ : List ℕ) (b₀ : Bytes t₀) (room : picture_bytes OneBit w h ≤ length t₀)
    (start : t₁ ≡ written OneBit (faced OneBit AsIs marker w) w h t₀) where
  abbrev F : Frame
  F = frame w h

  abbrev M : Picture
  M = value_at OneBit mask w

  abbrev K : Picture
  K = value_at OneBit marker w

  abbrev n : ℕ
  n = row_bytes OneBit w

  abbrev r : Rows
  r = record { square = square_of neighbours; n = row_bytes OneBit w; u = spare_bits OneBit w; h = h }

  one : (l : List ℕ) → Bounded 1 F (value_at OneBit l w)
  unfolding value_at value_in
  one l p i = omega (arith, bit_lt (get_or l (p.y * n + p.x / 8) 0) (7 - p.x % 8))

  small : (x y : ℕ) → x < w → y < h → faced OneBit AsIs marker w x y ≤ 1
  unfolding faced
  small x y hx hy = one marker (record { x = x; y = y }) (record { ping = hx; bin = hy })

  abbrev result : Picture
  result = grown neighbours F M K

  few : (x y : ℕ) → x < w → y < h → result x y ≤ 1
  few x y hx hy =
      grown_one_bit neighbours F M (one mask) K within (record { x = x; y = y }) (record {
        ping = hx;
        bin =
            hy;
      })

  abbrev G : ℕ → ℕ → ℕ
  G x y = cond (ltb x w) (result x y) 0

  columns : 8 * n - spare_bits OneBit w ≡ w
  columns = omega arith

  begun_point : (x y : ℕ) → x < w → y < h → point_in t₁ (y * n) x ≡ K x y
  unfolding value_at value_in faced
  begun_point x y hx hy =
      ap (λ l. point_in l (y * n) x) start
      ∙ written_value OneBit (faced OneBit AsIs marker w) w h t₀ small x y hx hy

  begun_padding : (x y : ℕ) → w ≤ x → x < 8 * n → y < h → point_in t₁ (y * n) x ≡ 0
  unfolding value_at value_in
  begun_padding x y hx hr hy =
      ap (λ l. point_in l (y * n) x) start
      ∙ written_padding (faced OneBit AsIs marker w) w h t₀ small x y hx (omega arith) hy

  under_marker : Under n h t₁ G
  under_marker x y hx hy = by (ltb x w) refl
    where
      by : (b : Bool) → ltb x w ≡ b → point_in t₁ (y * n) x ≤ cond b (result x y) 0
      by true e =
          let l = ltb-true x w e in
          subst (λ v. v ≤ result x y) (sym (begun_point x y l hy))
          (marker_within neighbours F M (one mask) K within (record { x = x; y = y }) (record {
            ping = l;
            bin = hy;
          }))
      by false e = omega (arith, begun_padding x y (ltb-false x w e) hx hy)

  -- no neighbouring step inside the mask leads out of the result
  step_one : (x y v z : ℕ) → x < w → y < h → v < w → z < h → Touch (square_of neighbours) x y v z
      → min (M v z) (result x y) ≤ result v z
  step_one x y v z hx hy hv hz t =
      let p : Place = record { x = x; y = y } in
      let q : Place = record { x = v; y = z } in
      by _ _ _ (one mask q (record { ping = hv; bin = hz })) (few x y hx hy)
      (λ m s. grown_step neighbours F M (one mask) K within p q (record { ping = hx; bin = hy })
      (record { ping = hv; bin = hz }) (touch_beside neighbours p q t) s m)
    where
      by : (a b c : ℕ) → a ≤ 1 → b ≤ 1 → (a ≡ 1 → b ≡ 1 → c ≡ 1) → min a b ≤ c
      by a b c ha hb f =
          ⊎_elim (λ k. omega arith)
          (λ k. ⊎_elim (λ g. omega arith) (λ g. let e = f (omega arith) (omega arith) in omega arith)
          (below_or_not b 1)) (below_or_not a 1)

  shut : Shut (square_of neighbours) n (spare_bits OneBit w) h mask G
  unfolding mask_point value_at value_in
  shut x y v z hx hy hv hz t = by (ltb v (8 * n - spare_bits OneBit w)) refl
    where
      from : (b : Bool) → ltb x w ≡ b → v < w → min (M v z) (cond b (result x y) 0) ≤ result v z
      from true e l = step_one x y v z (ltb-true x w e) hy l hz t
      from false e l = omega arith

      by : (b : Bool) → ltb v (8 * n - spare_bits OneBit w) ≡ b
          → min (cond b (point_in mask (z * n) v) 0) (G x y) ≤ G v z
      by true e =
          let l : v < w = omega (arith, ltb-true v (8 * n - spare_bits OneBit w) e) in
          subst (λ c. min (point_in mask (z * n) v) (G x y) ≤ cond c (result v z) 0) (sym (lt-ltb v w l))
          (from (ltb x w) refl l)
      by false e = omega arith

  -- THE law
  module _ (grew : Grew r mask t₁ t₂) (still : StillAll r mask t₂) where
    above : Under n h t₂ G
    above = grew.under G shut under_marker

    sound_point : (x y : ℕ) → x < w → y < h → point_in t₂ (y * n) x ≤ result x y
    sound_point x y hx hy =
        subst (λ b. point_in t₂ (y * n) x ≤ cond b (result x y) 0) (lt-ltb x w hx)
        (above x y (omega arith) hy)

    growing : Growing neighbours F M K (value_at OneBit t₂ w)
    unfolding value_at value_in
    growing =
        record {
          one_bit = one t₂;
          begun = λ p i. subst (λ v. v ≤ point_in t₂ (p.y * n) p.x) (begun_point p.x p.y i.ping
              i.bin)
              (grew.more p.x p.y (columns_in p.x i.ping) i.bin);
          sound = λ p i. sound_point p.x p.y i.ping i.bin;
        }
      where
        columns_in : (x : ℕ) → x < w → x < 8 * n
        columns_in x k = omega arith

    steady : Steady neighbours F M (value_at OneBit t₂ w)
    unfolding value_at value_in mask_point
    steady p q ip iq b s m =
        let k = still q.x q.y (omega (arith, iq.ping), iq.bin) p.x p.y (omega (arith, ip.ping))
        ip.bin (beside_touch neighbours p q b) in
        let c = subst (λ t. min (cond t (point_in mask (q.y * n) q.x) 0) (point_in t₂ (p.y * n) p.x)
        ≤ point_in t₂ (q.y * n) q.x)
        (lt-ltb q.x (8 * n - spare_bits OneBit w) (omega (arith, iq.ping))) k in
        last _ _ _ c m s (one t₂ q iq)
      where
        last : (a b c : ℕ) → min a b ≤ c → a ≡ 1 → b ≡ 1 → c ≤ 1 → c ≡ 1
        last a b c k ea eb l = omega arith

    pub made : t₂ ≡ written OneBit result w h t₀
    unfolding value_at value_in
    made =
        same_points n h t₂ (written OneBit result w h t₀)
        (grew.bytes (subst Bytes (sym start) (written_bytes (faced OneBit AsIs marker w) w h small t₀ b₀
        room)))
        (written_bytes result w h few t₀ b₀ room)
        (grew.same_length ∙ ap length start ∙ written_long (faced OneBit AsIs marker w) w h small t₀ b₀ room
        ∙ sym (written_long result w h few t₀ b₀ room))
        (λ x y hx hy. ⊎_elim
        (λ k. steady_grown neighbours F M (one mask) K within (value_at OneBit t₂ w) growing steady
        (record { x = x; y = y }) (record { ping = k; bin = hy })
        ∙ sym (written_value OneBit result w h t₀ few x y k hy))
        (λ k. nothing _ _ (subst (λ b. point_in t₂ (y * n) x ≤ cond b (result x y) 0) (le-ltb x w k) (above x
        y hx hy))
        (written_padding result w h t₀ few x y k (omega arith) hy))
        (below_or_not x w))
        (λ i k. grew.rest i k ∙ ap (λ l. get_or l i 0) start
        ∙ written_rest (faced OneBit AsIs marker w) w h small t₀ b₀ room i k
        ∙ sym (written_rest result w h few t₀ b₀ room i k))
        (omega arith)
      where
        nothing : (a b : ℕ) → a ≤ 0 → b ≡ 0 → a ≡ b
        nothing a b k e = omega arith

  -- the rows as the code has them
  pub made_from : (s : Bool) (k u : ℕ) → s ≡ square_of neighbours → k ≡ n → u ≡ spare_bits OneBit w
      → Grew (record { square = s; n = k; u = u; h = h }) mask t₁ t₂
      → StillAll (record { square = s; n = k; u = u; h = h }) mask t₂
      → t₂ ≡ written OneBit result w h t₀
  made_from s k u es ek eu grew still =
      made (subst (λ q. Grew q mask t₁ t₂) same grew) (subst (λ q. StillAll q mask t₂) same still)
    where
      same : ◌≡◌ {A = Rows} (record { square = s; n = k; u = u; h = h }) r
      same = λ i. record { square = es i; n = ek i; u = eu i; h = h }

pub picture_room : (s : Bool) (k u w h m j : ℕ) → k ≡ row_bytes OneBit w → u ≡ spare_bits OneBit w → j ≡ m
    → Holds OneBit m w h → Room (record { square = s; n = k; u = u; h = h }) j
picture_room s k u w h m j ek eu ej p =
    record {
      few_bytes = omega (arith, p.few_pings);
      few_bins = p.few_bins;
      few_spare = omega (arith, spare_few OneBit w);
      long = let e = ap (λ n. h * n) ek in omega (arith, p.long);
    }
