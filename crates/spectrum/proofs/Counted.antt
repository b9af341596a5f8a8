-- What the openings in the scratch count, and which call is refused.
use Prim.Native.Nat.{ℕ, ◌+◌, ◌-◌, ◌*◌, ◌/◌, ◌≤◌, ◌<◌}
use mathlib.Core.Path.{◌≡◌, refl, sym, ap, ap₂, ◌∙◌, subst}
use mathlib.Core.Bool.{Bool, true, false}
use mathlib.Core.List.{List, [], ◌∷◌, ◌++◌}
use native.Mathlib.Nat.{mul-le-mul}
use native.Mathlib.Omega.{arith}
use borrow.Author.Tests.{ltb-true, ltb-false, lt-ltb, le-ltb}
use lib.Count.{ones}
use lib.Dec.{ltb}
use lib.ListN.{length, get_or, take, drop, length-append, length-drop}
use lib.Seq.{drop_at, drop-drop, length-take-le}
use Rattle.basics.specs.Bytes.{Bytes}
use Rattle.basics.specs.Lists.{firsts}
use Rattle.answer.specs.declared.Told.{Told}
use Rattle.answer.specs.Answer.{plain, is_done}
use Rattle.answer.specs.Refuse.{refuse}
use Rattle.answer.specs.Lent.{if_done}
use Rattle.picture.specs.declared.Depth.TheVariants.{OneBit}
use Rattle.picture.specs.declared.Face.TheVariants.{AsIs}
use Rattle.picture.specs.Frame.{Frame, frame, picture_bytes}
use Rattle.picture.specs.Points.{value_at}
use Rattle.picture.specs.Bytes.{Picture, faced, written}
use Rattle.picture.proofs.Points.{written_same}
use Rattle.judge.specs.declared.Padding.TheVariants.{Free}
use Rattle.judge.specs.Tests.{Admitted, picture_tests, room_tests}
use Rattle.judge.proofs.Admitted.{admitted, between_tests, staged}
use Rattle.morphology.specs.Operations.{fold, flat, erode, dilate}
use Rattle.morphology.specs.Order.{Alike, Bounded}
use Rattle.morphology.proofs.Order.{erode_alike, dilate_alike, erode_bounded, dilate_bounded}
use Rattle.sizes.specs.Spectrum.{square, survived, survivors, count_at, spectrum, sides}
use Rattle.sizes.proofs.Counts.{count_last, count_rest, points_most}
use Rattle.rowruns.proofs.Points.{value_one, written_long, written_bytes, written_point}
use Rattle.squares.proofs.Sums.{count_points}
use Rattle.spectrum.specs.Calls.{spectrum_answer}

-- ---- what is counted: a copy, eroded, dilated
module _ (w h k : ℕ) (s t a b c : List ℕ) (bt : Bytes t) (len : length t ≡ picture_bytes OneBit w h)
    (ea : a ≡ written OneBit (faced OneBit AsIs s w) w h t)
    (eb : b ≡ written OneBit (erode 1 (frame w h) (square k) (value_at OneBit a w)) w h a)
    (ec : c ≡ written OneBit (dilate (frame w h) (square k) (value_at OneBit b w)) w h b) where
  abbrev F : Frame
  F = frame w h

  abbrev A : Picture
  A = value_at OneBit s w

  room : picture_bytes OneBit w h ≤ length t
  room = omega (arith, len)

  one : Bounded 1 F (faced OneBit AsIs s w)
  unfolding faced
  one = value_one s w h

  ba : Bytes a
  ba = subst Bytes (sym ea) (written_bytes (faced OneBit AsIs s w) w h one t bt room)

  la : length a ≡ picture_bytes OneBit w h
  la = ap length ea ∙ written_long (faced OneBit AsIs s w) w h one t bt room ∙ len

  shown_a : Alike F (value_at OneBit a w) A
  unfolding faced
  shown_a p i =
      ap (λ l. value_at OneBit l w p.x p.y) ea
      ∙ written_point (faced OneBit AsIs s w) w h one t bt room p.x p.y i.ping i.bin

  abbrev E : Picture
  E = erode 1 F (square k) (value_at OneBit a w)

  bounded_e : Bounded 1 F E
  bounded_e = erode_bounded flat 1 F (square k) (value_at OneBit a w)

  bb : Bytes b
  bb = subst Bytes (sym eb) (written_bytes E w h bounded_e a ba (omega (arith, la)))

  lb : length b ≡ picture_bytes OneBit w h
  lb = ap length eb ∙ written_long E w h bounded_e a ba (omega (arith, la)) ∙ la

  shown_b : Alike F (value_at OneBit b w) (erode 1 F (square k) A)
  shown_b p i =
      ap (λ l. value_at OneBit l w p.x p.y) eb
      ∙ written_point E w h bounded_e a ba (omega (arith, la)) p.x p.y i.ping i.bin
      ∙ erode_alike flat F (square k) (value_at OneBit a w) A shown_a p 1

  abbrev O : Picture
  O = survived F A k

  bounded_o : Bounded 1 F O
  bounded_o = dilate_bounded flat 1 F (square k) _ (λ g v h. h) (erode_bounded flat 1 F (square k) A)

  opened : c ≡ written OneBit O w h b
  opened =
      ec ∙ written_same OneBit _ _ w h b
      (λ x y hx hy. dilate_alike flat F (square k) (value_at OneBit b w) (erode 1 F (square k) A) shown_b
      (record { x = x; y = y }))

  pub survivors_counted : fold ◌+◌ 0 (λ i. ones (get_or c i 0)) (length c) ≡ survivors F A k
  survivors_counted =
      count_points O w h bounded_o c b
      (subst Bytes (sym opened) (written_bytes O w h bounded_o b bb (omega (arith, lb))))
      (ap length opened ∙ written_long O w h bounded_o b bb (omega (arith, lb)) ∙ lb) opened

-- a count fits a number of 32 bits
pub survivors_few : (w h k : ℕ) (s : List ℕ) → w ≤ 1024 → h ≤ 256
    → survivors (frame w h) (value_at OneBit s w) k ≤ 256 * 1024
survivors_few w h k s hw hh =
    let m = points_most (frame w h) (survived (frame w h) (value_at OneBit s w) k)
    (dilate_bounded flat 1 (frame w h) (square k) _ (λ g v h. h)
    (erode_bounded flat 1 (frame w h) (square k) (value_at OneBit s w))) in
    let p = mul-le-mul {n₁ = h} {m₁ = w * 1} {n₂ = 256} {m₂ = 1024} hh (omega arith) in
    omega arith

-- and a picture's bytes are not many
pub few_bytes : (w h n : ℕ) → w ≤ 1024 → h ≤ 256 → n ≡ picture_bytes OneBit w h → n ≤ 32768
few_bytes w h n hw hh e =
    let p = mul-le-mul {n₁ = h} {m₁ = (w + 7) / 8} {n₂ = 256} {m₂ = 128} hh (omega arith) in
    omega arith

-- ---- a count is what one side keeps less what the next one keeps
module _ (w h : ℕ) (s : List ℕ) where
  abbrev G : Frame
  G = frame w h

  abbrev C : Picture
  C = value_at OneBit s w

  pub next_fewer : (i here next : ℕ) → i + 1 < sides → here ≡ survivors G C (i + 1) → next ≡ survivors G
      C (i + 2)
      → next ≤ here
  next_fewer i here next l eh en =
      let e = count_rest G C (value_one s w h) (i + 1) (omega arith) l in
      let q : i + 1 + 1 ≡ i + 2 = omega arith in
      let r = ap (survivors G C) q in
      omega arith

  pub count_is : (i here next : ℕ) → i + 1 < sides → here ≡ survivors G C (i + 1) → next ≡ survivors G C
      (i + 2)
      → here - next ≡ count_at G C (i + 1)
  count_is i here next l eh en =
      let e = count_rest G C (value_one s w h) (i + 1) (omega arith) l in
      let q : i + 1 + 1 ≡ i + 2 = omega arith in
      let r = ap (survivors G C) q in
      omega arith

  pub last_is : (i here : ℕ) → i ≡ 31 → here ≡ survivors G C (i + 1) → here ≡ count_at G C (i + 1)
  last_is i here e eh =
      eh ∙ ap (λ j. survivors G C (j + 1)) e ∙ sym (count_last G C (value_one s w h))
      ∙ ap (λ j. count_at G C (j + 1)) (sym e)

-- all of them are the spectrum
pub counts_all : (F : Frame) (A : Picture) (i : ℕ) (u t : List ℕ) → i ≡ 31
    → u ≡ firsts (λ i. count_at F A (i + 1)) (i + 1) ++ drop (i + 1) t → u ≡ spectrum F A ++ drop 32 t
unfolding spectrum
counts_all F A i u t e q = q ∙ ap (λ j. firsts (λ i. count_at F A (i + 1)) (j + 1) ++ drop (j + 1) t) e

-- ---- the scratch: the first part is written, then two of them cleared
module _ (sc xs : List ℕ) (m : ℕ) (long : length xs ≡ m) (room : 2 * m ≤ length sc) where
  pub both_long : length (xs ++ drop m sc) ≡ length sc
  both_long =
      length-append xs (drop m sc) ∙ ap₂ (λ a b. a + b) long (length-drop m sc) ∙ back m (length sc)
      (omega arith)
    where
      back : (a b : ℕ) → a ≤ b → a + (b - a) ≡ b
      back a b k = omega arith

  past : drop (2 * m) (xs ++ drop m sc) ≡ drop (2 * m) sc
  past =
      ap (λ k. drop k (xs ++ drop m sc)) (twice m) ∙ sym (drop-drop m m (xs ++ drop m sc))
      ∙ ap (drop m) (drop_at xs (drop m sc) m long) ∙ drop-drop m m sc ∙ ap (λ k. drop k sc) (sym (twice m))
    where
      twice : (m : ℕ) → 2 * m ≡ m + m
      twice m = omega arith

  pub cleared : (ys : List ℕ) (k : ℕ) → m ≡ k
      → ys ≡ firsts (λ i. 0) (length (take (2 * m) (xs ++ drop m sc)))
      → ys ++ drop (2 * m) (xs ++ drop m sc) ≡ firsts (λ i. 0) (2 * k) ++ drop (2 * k) sc
  cleared ys k e ey =
      ap₂ (λ a b. a ++ b)
      (ey ∙ ap (firsts (λ i. 0))
      (length-take-le (2 * m) (xs ++ drop m sc) (subst (λ l. 2 * m ≤ l) (sym both_long) room)))
      past
      ∙ ap (λ j. firsts (λ i. 0) (2 * j) ++ drop (2 * j) sc) e

-- ---- refusals
half : (m n : ℕ) → ltb (m / 2) (0 + n) ≡ ltb m (2 * n)
half m n = by (ltb m (2 * n)) refl
  where
    by : (b : Bool) → ltb m (2 * n) ≡ b → ltb (m / 2) (0 + n) ≡ b
    by true e = let l = ltb-true m (2 * n) e in lt-ltb (m / 2) (0 + n) (omega arith)
    by false e = let l = ltb-false m (2 * n) e in le-ltb (m / 2) (0 + n) (omega arith)

module _ (w h : ℕ) (s : List ℕ) (counts scratch : ℕ) (list answer : Told)
    (el : list ≡ refuse ((ltb counts 32, 8) ∷ []) (plain 0))
    (ea : answer ≡ refuse (picture_tests Free OneBit w h s)
    (if_done list (refuse (room_tests OneBit w h 0 (scratch / 2)) (plain 0)))) where
  pub answer_is : answer ≡ spectrum_answer w h s counts scratch
  answer_is =
      ea
      ∙ ap (λ l. refuse (picture_tests Free OneBit w h s)
      (if_done l (refuse (room_tests OneBit w h 0 (scratch / 2)) (plain 0)))) el
      ∙ between_tests Free OneBit w h s ((ltb counts 32, 8) ∷ []) 0 (scratch / 2) (omega arith, tt)
      ∙ ap (λ b. refuse (picture_tests Free OneBit w h s ++ ((ltb counts 32, 8) ∷ (b, 8) ∷ [])) (plain 0))
      (half scratch (picture_bytes OneBit w h))

  -- where nothing is refused the picture is admitted, and list and scratch are long enough
  pub admitted_by : is_done answer ≡ true
      → Admitted Free OneBit w h s 0 (scratch / 2) × (32 ≤ counts)
  admitted_by e =
      let p = admitted Free OneBit w h s list 0 (scratch / 2) (ap is_done (sym ea) ∙ e) in (
        p.0,
        ltb-false counts 32 (staged (ltb counts 32) 8 (plain 0) (omega arith) (ap is_done (sym el) ∙ p.1)
            ).0,
      )
