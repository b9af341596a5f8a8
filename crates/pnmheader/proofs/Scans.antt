-- A header read with its numbers kept says what the header says, kept;
-- and the loop's laws: one byte more, the single white space, a broken header, the end of the file.
use Prim.Native.Nat.{ℕ, suc, ◌+◌, ◌-◌, ◌*◌, ◌≤◌, ◌<◌}
use mathlib.Core.Path.{◌≡◌, refl, sym, ap, ap₂, ◌∙◌}
use mathlib.Core.Bool.{Bool, true, false, cond}
use mathlib.Core.List.{List, [], ◌∷◌}
use native.Mathlib.Omega.{arith}
use native.Mathlib.Numerals.{add-one}
use borrow.Author.Tests.{eq-eqb, ne_eqb}
use lib.Dec.{eqb}
use lib.ListN.{length, get_or, drop, drop_of_length-le}
use lib.Seq.{drop-cons}
use Rattle.pnmheader.specs.declared.Scan.{Scan}
use Rattle.pnmheader.specs.declared.Found.{Found}
use Rattle.pnmheader.specs.Header.{is_white, is_digit, ignored, open_after, part_after, number_after, step}
use Rattle.pnmheader.specs.Header.{Head, ended, no_head, scan}
use Rattle.pnmheader.specs.Steps.Held.{held, hold, Says}
use Rattle.std.specs.Prelude.{Some, None}

-- ---- what is kept of a number after a byte goes by what was kept before it
number_held : (i t : Bool) (d n : ℕ)
    → held (cond i (held n) (cond t (held n * 10 + d) (held n))) ≡ held (cond i n (cond t (n * 10 + d) n))
number_held true t d n = omega arith
number_held false true d n = omega arith
number_held false false d n = omega arith

-- a number after a byte, as the code finds it
module _ (comment : Bool) (part own b n m : ℕ) (e : m ≡ held n) where
  pub kept_ignored : ignored comment b ≡ true → m ≡ held (number_after comment part own b n)
  unfolding number_after
  kept_ignored i = e ∙ ap held (sym (ap (λ t. cond t n (cond (eqb part own) (n * 10 + (b - 48)) n)) i))

  module _ (i : ignored comment b ≡ false) where
    kept_by : (t : Bool) → eqb part own ≡ t
        → held (cond t (n * 10 + (b - 48)) n) ≡ held (number_after comment part own b n)
    unfolding number_after
    kept_by t q =
        ap held (ap (λ t. cond t (n * 10 + (b - 48)) n) (sym q)
        ∙ sym (ap (λ t. cond t n (cond (eqb part own) (n * 10 + (b - 48)) n)) i))

    pub kept_other : (part ≡ own → ⊥) → m ≡ held (number_after comment part own b n)
    kept_other q = e ∙ kept_by false (ne_eqb part own q)

    pub kept_grown : part ≡ own → (d r : ℕ) → d ≡ b - 48 → r ≡ held (m * 10 + d)
        → r ≡ held (number_after comment part own b n)
    kept_grown q d r ed er =
        let grown : r ≡ held (n * 10 + (b - 48)) = omega arith in
        grown ∙ kept_by true (eq-eqb part own q)

step_held : (s : Scan) (b : ℕ) → hold (step (hold s) b) ≡ hold (step s b)
unfolding hold step number_after
step_held s b =
    let i = ignored s.comment b in
    let part = part_after s.comment s.part b in
    λ j. record {
      part = part;
      comment = open_after s.comment b;
      w = number_held i (eqb part 3) (b - 48) s.w j;
      h = number_held i (eqb part 5) (b - 48) s.h j;
      most = number_held i (eqb part 7) (b - 48) s.most j;
    }

-- the next state, from its five parts
pub step_kept : (s : Scan) (b part : ℕ) (comment : Bool) (w h most : ℕ)
    → part ≡ part_after s.comment s.part b → comment ≡ open_after s.comment b
    → w ≡ held (number_after s.comment part 3 b s.w)
    → h ≡ held (number_after s.comment part 5 b s.h)
    → most ≡ held (number_after s.comment part 7 b s.most)
    → record { part = part; comment = comment; w = w; h = h; most = most } ≡ hold (step s b)
unfolding hold step
step_kept s b part comment w h most ep ec ew eh em =
    λ j. record {
      part = ep j;
      comment = ec j;
      w = (ew ∙ ap (λ k. held (number_after s.comment k 3 b s.w)) ep) j;
      h = (eh ∙ ap (λ k. held (number_after s.comment k 5 b s.h)) ep) j;
      most = (em ∙ ap (λ k. held (number_after s.comment k 7 b s.most)) ep) j;
    }

-- a header with its numbers as they are kept
unfoldable pub hold_head : Head → Head
hold_head a =
    record {
      whole = a.whole;
      w = held a.w;
      h = held a.h;
      most = held a.most;
      raster = a.raster;
    }

-- ---- the whole header
pub scan_held : (single : ℕ) (s : Scan) (l : List ℕ)
    → hold_head (scan single (hold s) l) ≡ hold_head (scan single s l)
unfolding scan hold_head hold step
scan_held single s [] = refl
scan_held single s (b ∷ l) =
    by (eqb (part_after s.comment s.part b) single)
    (sym (scan_held single (step (hold s) b) l)
    ∙ ap (λ (x : Scan). hold_head (scan single x l)) (step_held s b) ∙ scan_held single (step s b) l)
  where
    by : (t : Bool)
        → hold_head (scan single (step (hold s) b) l) ≡ hold_head (scan single (step s b) l)
        → hold_head (cond t (ended (step (hold s) b) l) (scan single (step (hold s) b) l))
        ≡ hold_head (cond t (ended (step s b) l) (scan single (step s b) l))
    by true e = ap (λ (x : Scan). ended x l) (step_held s b)
    by false e = e

held_twice : (n : ℕ) → held (held n) ≡ held n
held_twice n = omega arith

-- ---- one byte read: what is left to be said is the same, by the next state as it is kept
pub one_more : (single : ℕ) (s : Scan) (b : ℕ) (rest : List ℕ) (t : Bool) → eqb (step s b).part single ≡ t
    → hold_head (scan single s (b ∷ rest))
    ≡ hold_head (cond t (ended (hold (step s b)) rest) (scan single (hold (step s b)) rest))
unfolding scan hold_head hold
one_more single s b rest true e =
    ap (λ t. hold_head (cond t (ended (step s b) rest) (scan single (step s b) rest))) e ∙ twice
  where
    twice : hold_head (ended (step s b) rest) ≡ hold_head (ended (hold (step s b)) rest)
    twice = λ j. record {
      whole = true;
      w = sym (held_twice (step s b).w) j;
      h = sym (held_twice (step s b).h) j;
      most = sym (held_twice (step s b).most) j;
      raster = rest;
    }
one_more single s b rest false e =
    ap (λ t. hold_head (cond t (ended (step s b) rest) (scan single (step s b) rest))) e
    ∙ sym (scan_held single (step s b) rest)

-- what a broken header says
broken_stays : (comment : Bool) (b : ℕ) → part_after comment 0 b ≡ 0
unfolding part_after
broken_stays comment b = by (ignored comment b) (is_white b) (is_digit b)
  where
    by : (i t d : Bool) → ◌≡◌ {A = ℕ} (cond i 0 (cond t 0 (cond d 0 0))) 0
    by true t d = refl
    by false true d = refl
    by false false true = refl
    by false false false = refl

pub broken : (single : ℕ) (s : Scan) (l : List ℕ) → 0 < single → s.part ≡ 0 → scan single s l ≡ no_head
unfolding scan step
broken single s [] some e = refl
broken single s (b ∷ l) some e =
    let q : (step s b).part ≡ 0 = part_is in
    ap (λ t. cond t (ended (step s b) l) (scan single (step s b) l))
    (ne_eqb (step s b).part single (λ k. omega arith))
    ∙ broken single (step s b) l some q
  where
    part_is : (step s b).part ≡ 0
    part_is = ap (λ n. part_after s.comment n b) e ∙ broken_stays s.comment b

-- ---- what is given back says what the header says
says : (f : List ℕ) (head other : Head) (r : Found) → hold_head head ≡ hold_head other → other.whole ≡ true
    → r.w ≡ held other.w → r.h ≡ held other.h → r.most ≡ held other.most
    → r.at ≤ length f → drop r.at f ≡ other.raster → Says f head (Some r)
unfolding hold_head
says f head other r e whole w h most inside raster =
    record {
      whole = sym whole ∙ sym (ap (λ (a : Head). a.whole) e);
      w = w ∙ sym (ap (λ (a : Head). a.w) e);
      h = h ∙ sym (ap (λ (a : Head). a.h) e);
      most = most ∙ sym (ap (λ (a : Head). a.most) e);
      inside = inside;
      raster = raster ∙ sym (ap (λ (a : Head). a.raster) e);
    }

pub says_nothing : (f : List ℕ) (head : Head) → hold_head head ≡ hold_head no_head → Says f head None
unfolding hold_head
says_nothing f head e =
    record {
      whole = sym (ap (λ (a : Head). a.whole) e);
      w = tt;
      h = tt;
      most = tt;
      inside = tt;
      raster = tt;
    }

-- ---- the loop over the bytes of f
module _ (f : List ℕ) (single : ℕ) where
  -- what is left to be said after i bytes
  unfoldable pub Remains : Head → Scan → ℕ → Type 0
  Remains head s i = hold_head head ≡ hold_head (scan single s (drop i f))

  pub none_read : (s : Scan) (i : ℕ) → Remains (scan single s (drop i f)) s i
  unfolding Remains
  none_read s i = refl

  pub all_read : (head : Head) (s : Scan) (i : ℕ) → Remains head s i → length f ≤ i → Says f head None
  unfolding Remains scan
  all_read head s i l h =
      says_nothing f head
      (l ∙ ap (λ k. hold_head (scan single s k)) (drop_of_length-le f h))

  module _ (head : Head) (s : Scan) (i : ℕ) (l : Remains head s i) (h : i < length f) (x : Scan)
      (e : x ≡ hold (step s (get_or f i 0))) where
    byte_read : (t : Bool) → eqb x.part single ≡ t
        → hold_head head ≡ hold_head (cond t (ended x (drop (i + 1) f)) (scan single x (drop (i + 1) f)))
    unfolding Remains hold
    byte_read t q =
        l ∙ ap (λ k. hold_head (scan single s k)) (drop-cons f i 0 h)
        ∙ one_more single s (get_or f i 0) (drop (suc i) f) t
        (sym (ap (λ (y : Scan). eqb y.part single) e) ∙ q)
        ∙ ap₂ (λ (y : Scan) (k : List ℕ). hold_head (cond t (ended y k) (scan single y k)))
        (sym e) (ap (λ n. drop n f) (sym (add-one i)))

    pub onward : (x.part ≡ single → ⊥) → Remains head x (i + 1)
    unfolding Remains
    onward n = byte_read false (ne_eqb x.part single n)

    pub stopped : (x.part ≡ single → ⊥) → x.part ≡ 0 → 0 < single → Says f head None
    stopped n z some =
        says_nothing f head
        (byte_read false (ne_eqb x.part single n)
        ∙ ap hold_head (broken single x (drop (i + 1) f) some z))

    kept : (g : Scan → ℕ) → held (g (hold (step s (get_or f i 0)))) ≡ g (hold (step s (get_or f i 0)))
        → g x ≡ held (g x)
    kept g q = ap g e ∙ sym q ∙ sym (ap (λ (y : Scan). held (g y)) e)

    pub found : x.part ≡ single
        → Says f head (Some (record { w = x.w; h = x.h; most = x.most; at = i + 1 }))
    unfolding hold
    found q =
        says f head (ended x (drop (i + 1) f)) _ (byte_read true (eq-eqb x.part single q)) refl
        (kept (λ (y : Scan). y.w) (held_twice _)) (kept (λ (y : Scan). y.h) (held_twice _))
        (kept (λ (y : Scan). y.most) (held_twice _)) (omega arith) refl
