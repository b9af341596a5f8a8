-- The check of bytes, by what is met first; and that the links that are read are the links of the definition.
use Prim.Native.Nat.{ℕ, zero, suc, ◌+◌, ◌≤◌, ◌<◌}
use mathlib.Core.Path.{◌≡◌, refl, sym, ap, ap₂, ◌∙◌, subst}
use mathlib.Core.Bool.{Bool, true, false, not, false≢true}
use mathlib.Core.List.{List, [], ◌∷◌, map}
use mathlib.Core.Logic.{◌⊎◌, inl, inr}
use native.Mathlib.Omega.{arith}
use native.Mathlib.Nat.{le_refl}
use borrow.Author.Tests.{leb-true}
use lib.Dec.{leb, ltb, lit≤}
use lib.ListN.{length, get_or, take}
use lib.Seq.{get_or-drop}
use Rattle.std.specs.Prelude.{Result, Err}
use Rattle.basics.proofs.Lists.{get_d_firsts}
use Rattle.basics.proofs.Tests.{both}
use Rattle.answer.specs.declared.Told.{Told}
use Rattle.answer.specs.declared.Refusal.{Refusal}
use Rattle.answer.specs.declared.Refusal.TheVariants.{Chain}
use Rattle.answer.specs.Answer.{told, told_refusal, plain, is_done}
use Rattle.answer.specs.Refuse.{Test, refuse, FirstHolds, here, later}
use Rattle.answer.proofs.Order.{Numbered}
use Rattle.answer.proofs.Lent.{all_done}
use Rattle.answer.proofs.Variants.{err_undone}
use Rattle.element.specs.declared.Element.{Element}
use Rattle.element.specs.Descriptor.{most_cells, wide_of, high_of, well_made, shape_in, cell_at}
use Rattle.element.specs.Descriptor.{descriptor_length}
use Rattle.element.specs.Record.{cell_on, element_of, shape_of}
use Rattle.basics.specs.Bytes.{Bytes}
use Rattle.element.proofs.WellMade.{cells_tell, made_cells}
use Rattle.element.proofs.Cells.{cell_same}
use Rattle.morphology.specs.Chain.{Fits, AllFit, Chained, most_link_cells, most_links}
use Rattle.morphology.specs.Check.{check_of}
use Rattle.morphology.proofs.Trim.{trim, trim_same, check_trim}
use Rattle.reach.specs.declared.Link.{Link}
use Rattle.reach.specs.Steps.Links.{first_rows, link_by, link_of, link_shape, shapes_of}
use Rattle.chain.specs.Reading.{first_of, rest_of, counted, small}
use Rattle.chain.specs.Reading.{link_tests, chain_tests, check_tests, links_in}
use Rattle.chain.specs.Steps.Records.{held_in}
use Rattle.chain.proofs.Reading.{none_after, some_after, Promised}

-- ---- the links' refusals

numbered : (k : ℕ) (d : List ℕ) → Numbered (link_tests k d)
unfolding link_tests
numbered zero d = (lit≤ tt, tt)
numbered (suc k) d = (lit≤ tt, (lit≤ tt, numbered k (rest_of d)))

-- what passed tells of each link
pub passed_here : (b s : Bool) (ts : List Test) → refuse ((not b, 4) ∷ (not s, 6) ∷ ts) (plain 0) ≡ plain 0
    → (b ≡ true) × ((s ≡ true) × (refuse ts (plain 0) ≡ plain 0))
unfolding plain
passed_here true true ts e = (refl, (refl, e))
passed_here true false ts e = let z : ◌≡◌ {A = ℕ} 6 0 = ap (λ (t : Told). t.number) e in absurd (omega arith)
passed_here false s ts e = let z : ◌≡◌ {A = ℕ} 4 0 = ap (λ (t : Told). t.number) e in absurd (omega arith)

-- ---- well made elements

made_fits : (d : List ℕ) (n : ℕ) → well_made d ≡ true → wide_of d ≤ n → high_of d ≤ n → Fits n (shape_in d)
unfolding shape_in
made_fits d n e w h =
    let t = cells_tell d (made_cells d e) in
    record { few_columns = w; few_rows = h; origin_column_in = t.column; origin_row_in = t.row }

links_fit : (k : ℕ) (d : List ℕ) → refuse (link_tests k d) (plain 0) ≡ plain 0
    → AllFit most_link_cells (links_in k d)
unfolding link_tests links_in
links_fit zero d e = tt
links_fit (suc k) d e =
    let p = passed_here (well_made (first_of d))
    (small (wide_of (first_of d)) (high_of (first_of d))) (link_tests k (rest_of d)) e in
    let q = both (leb (wide_of (first_of d)) most_link_cells)
    (leb (high_of (first_of d)) most_link_cells) p.1.0 in (
      made_fits (first_of d) most_link_cells p.0 (leb-true _ _ q.0) (leb-true _ _ q.1),
      links_fit k (rest_of d) p.1.1,
    )

links_long : (k : ℕ) (d : List ℕ) → length (links_in k d) ≡ k
unfolding links_in
links_long zero d = refl
links_long (suc k) d = ap suc (links_long k (rest_of d))

pub few_links : (k : ℕ) → counted k ≡ true → k ≤ most_links
few_links k right = leb-true k most_links (both (leb 1 k) (leb k most_links) right).1

pub some_links : (k : ℕ) → counted k ≡ true → 1 ≤ k
some_links k right = leb-true 1 k (both (leb 1 k) (leb k most_links) right).0

-- where nothing is refused, the element and the chain are within the limits
pub well_chained : (element chain : List ℕ) (k : ℕ) → refuse (check_tests element k chain) (plain 0) ≡ plain 0
    → Chained (shape_in element) (links_in k chain)
unfolding check_tests chain_tests
well_chained element chain k e =
    let p = passed_here (well_made element) (counted k) (link_tests k chain) e in
    let t = cells_tell element (made_cells element p.0) in
    record {
      element = made_fits element most_cells p.0 t.few_wide t.few_high;
      links = links_fit k chain p.1.1;
      some_links = subst (λ n. 1 ≤ n) (sym (links_long k chain)) (some_links k p.1.0);
      few_links = subst (λ n. n ≤ most_links) (sym (links_long k chain)) (few_links k p.1.0);
    }

-- the records that are read have the same sizes and origins
record_fits : (d : List ℕ) (n : ℕ) → Fits n (shape_in d) → Fits n (shape_of (element_of d))
unfolding shape_in shape_of element_of
record_fits d n f = record {
  few_columns = f.few_columns;
  few_rows = f.few_rows;
  origin_column_in = f.origin_column_in;
  origin_row_in = f.origin_row_in;
}

-- those of the links, as the check holds them
held_fits : (d : List ℕ) (n : ℕ) → Fits n (shape_in d) → Fits n (link_shape (link_of (element_of d)))
unfolding shape_in shape_of element_of link_by first_rows
held_fits d n f = record {
  few_columns = f.few_columns;
  few_rows = f.few_rows;
  origin_column_in = f.origin_column_in;
  origin_row_in = f.origin_row_in;
}

records_fit : (k : ℕ) (d : List ℕ) (n : ℕ) → AllFit n (links_in k d) → AllFit n (shapes_of (held_in k d))
unfolding links_in held_in
records_fit zero d n f = tt
records_fit (suc k) d n f = (held_fits (first_of d) n f.0, records_fit k (rest_of d) n f.1)

records_long : (k : ℕ) (d : List ℕ) → length (shapes_of (held_in k d)) ≡ length (links_in k d)
unfolding links_in held_in
records_long zero d = refl
records_long (suc k) d = ap suc (records_long k (rest_of d))

records_chained : (element chain : List ℕ) (k : ℕ) → Chained (shape_in element) (links_in k chain)
    → Chained (shape_of (element_of element)) (shapes_of (held_in k chain))
records_chained element chain k C =
    record {
      element = record_fits element most_cells C.element;
      links = records_fit k chain most_link_cells C.links;
      some_links = subst (λ n. 1 ≤ n) (sym (records_long k chain)) C.some_links;
      few_links = subst (λ n. n ≤ most_links) (sym (records_long k chain)) C.few_links;
    }

-- ---- the records that are read stand for the shapes of the bytes

taken_le : (n : ℕ) (d : List ℕ) (i : ℕ) → get_or (take n d) i 0 ≤ get_or d i 0
taken_le zero d i = omega arith
taken_le (suc n) [] i = omega arith
taken_le (suc n) (x ∷ d) zero = le_refl x
taken_le (suc n) (x ∷ d) (suc i) = taken_le n d i

pub first_bytes : (d : List ℕ) → Bytes d → Bytes (first_of d)
unfolding first_of
first_bytes d b i = omega (arith, taken_le (descriptor_length d) d i, b i)

pub rest_bytes : (d : List ℕ) → Bytes d → Bytes (rest_of d)
unfolding rest_of
rest_bytes d b i =
    subst (λ n. n < 256) (sym (get_or-drop (descriptor_length d) d i 0)) (b (descriptor_length d + i))

shape_trim : (d : List ℕ) → Bytes d → well_made d ≡ true → trim (shape_of (element_of d)) ≡ trim (shape_in d)
unfolding shape_in shape_of element_of
shape_trim d b e =
    trim_same (shape_of (element_of d)) (cell_at d) (λ c r hc hr. cell_same d b (made_cells d e) c r hc hr)

-- so do the links: the rows that are not held lie past the last of a small one
held_trim : (d : List ℕ) → Bytes d → well_made d ≡ true → high_of d ≤ most_link_cells
    → trim (link_shape (link_of (element_of d))) ≡ trim (shape_in d)
unfolding shape_in shape_of element_of link_by first_rows
held_trim d b e h =
    trim_same (link_shape (link_of (element_of d))) (cell_at d) (λ c r hc hr.
    ap (λ word. cell_on word c)
    (get_d_firsts (λ r. get_or (element_of d).rows r 0) most_link_cells r (omega arith))
    ∙ cell_same d b (made_cells d e) c r hc hr)

links_trim : (k : ℕ) (d : List ℕ) → Bytes d → refuse (link_tests k d) (plain 0) ≡ plain 0
    → map trim (shapes_of (held_in k d)) ≡ map trim (links_in k d)
unfolding link_tests held_in links_in
links_trim zero d b e = refl
links_trim (suc k) d b e =
    let p = passed_here (well_made (first_of d))
    (small (wide_of (first_of d)) (high_of (first_of d))) (link_tests k (rest_of d)) e in
    let q = both (leb (wide_of (first_of d)) most_link_cells)
    (leb (high_of (first_of d)) most_link_cells) p.1.0 in
    ap₂ (λ s t. s ∷ t) (held_trim (first_of d) (first_bytes d b) p.0 (leb-true _ _ q.1))
    (links_trim k (rest_of d) (rest_bytes d b) p.1.1)

-- ---- the check, by what is met first

module _ (element chain : List ℕ) (k : ℕ) (after : Told) where
  pub check_unmade : (t : Told) → well_made element ≡ false → t ≡ plain 4
      → t ≡ refuse (check_tests element k chain) after
  unfolding check_tests
  check_unmade t e q = q ∙ ap (λ b. refuse ((not b, 4) ∷ chain_tests k chain) after) (sym e)

  module _ (made : well_made element ≡ true) where
    opened : refuse (chain_tests k chain) after ≡ refuse (check_tests element k chain) after
    unfolding check_tests
    opened = ap (λ b. refuse ((not b, 4) ∷ chain_tests k chain) after) (sym made)

    pub check_miscounted : counted k ≡ false → told_refusal Chain ≡ refuse (check_tests element k chain) after
    unfolding chain_tests told_refusal
    check_miscounted e = ap (λ b. refuse ((not b, 6) ∷ link_tests k chain) after) (sym e) ∙ opened

    module _ (right : counted k ≡ true) where
      links_opened : refuse (link_tests k chain) after ≡ refuse (check_tests element k chain) after
      unfolding chain_tests
      links_opened = ap (λ b. refuse ((not b, 6) ∷ link_tests k chain) after) (sym right) ∙ opened

      pub check_refused : (r : Result (List Link) Refusal) (x : Refusal) → Promised chain k r → r ≡ Err x
          → told r ≡ refuse (check_tests element k chain) after
      check_refused r x so e =
          so.answered
          ∙ some_after (link_tests k chain)
          (λ z. false≢true (sym (err_undone r x e) ∙ ap is_done (so.answered ∙ z) ∙ all_done)) after
          ∙ links_opened

      module _ (passed : refuse (link_tests k chain) (plain 0) ≡ plain 0) where
        nothing_refused : refuse (check_tests element k chain) (plain 0) ≡ plain 0
        unfolding check_tests chain_tests
        nothing_refused =
            ap₂ (λ b c. refuse ((not b, 4) ∷ (not c, 6) ∷ link_tests k chain) (plain 0)) made right ∙ passed

        pub check_passed : after ≡ refuse (check_tests element k chain) after
        check_passed = sym (none_after (link_tests k chain) (numbered k chain) passed after) ∙ links_opened

        module _ (all : List Link) (links_are : take k all ≡ held_in k chain) where
          module _ (whole : Element) (is : whole ≡ element_of element) where
            pub chained : Chained (shape_of whole) (shapes_of (take k all))
            chained =
                subst (λ (w : Element). Chained (shape_of w) (shapes_of (take k all))) (sym is)
                (subst (λ (es : List Link). Chained (shape_of (element_of element)) (shapes_of es))
                (sym links_are)
                (records_chained element chain k (well_chained element chain k nothing_refused)))

            pub same_check : Bytes element → Bytes chain
                → check_of (shape_of whole) (shapes_of (take k all))
                ≡ check_of (shape_in element) (links_in k chain)
            same_check be bc =
                ap₂ (λ (w : Element) (es : List Link). check_of (shape_of w) (shapes_of es)) is links_are
                ∙ check_trim (shape_of (element_of element)) (shapes_of (held_in k chain))
                ∙ ap₂ (λ E Bs. check_of E Bs) (shape_trim element be made) (links_trim k chain bc passed)
                ∙ sym (check_trim (shape_in element) (links_in k chain))

-- ---- the numbers of the check's refusals

pub check_numbered : (element : List ℕ) (k : ℕ) (chain : List ℕ) → Numbered (check_tests element k chain)
unfolding check_tests chain_tests
check_numbered element k chain = (lit≤ tt, (lit≤ tt, numbered k chain))

first_number : (b : Bool) (m n : ℕ) (ts : List Test) (P : ℕ → Type 0)
    → P m → (FirstHolds ts n → P n) → FirstHolds ((b, m) ∷ ts) n → P n
first_number true m n ts P p q here = p
first_number false m n ts P p q (later f) = q f

nothing_first : {n : ℕ} {A : Type 0} → FirstHolds [] n → A
nothing_first f = elim f [ ]

last_number : (b : Bool) (m n : ℕ) (P : ℕ → Type 0) → P m → FirstHolds ((b, m) ∷ []) n → P n
last_number true m n P p here = p
last_number false m n P p (later f) = nothing_first f

links_number : (k : ℕ) (d : List ℕ) (n : ℕ) → FirstHolds (link_tests k d) n → (n ≡ 4) ⊎ (n ≡ 6)
unfolding link_tests
links_number zero d n f = last_number (ltb 0 (length d)) 4 n (λ n. (n ≡ 4) ⊎ (n ≡ 6)) (inl refl) f
links_number (suc k) d n f =
    first_number (not (well_made (first_of d))) 4 n _ (λ n. (n ≡ 4) ⊎ (n ≡ 6)) (inl refl)
    (first_number (not (small (wide_of (first_of d)) (high_of (first_of d)))) 6 n _ (λ n. (n ≡ 4) ⊎ (n ≡ 6))
    (inr refl) (links_number k (rest_of d) n)) f

pub check_number : (element : List ℕ) (k : ℕ) (chain : List ℕ) (n : ℕ)
    → FirstHolds (check_tests element k chain) n → (n ≡ 4) ⊎ (n ≡ 6)
unfolding check_tests chain_tests
check_number element k chain n f =
    first_number (not (well_made element)) 4 n _ (λ n. (n ≡ 4) ⊎ (n ≡ 6)) (inl refl)
    (first_number (not (counted k)) 6 n _ (λ n. (n ≡ 4) ⊎ (n ≡ 6)) (inr refl) (links_number k chain n)) f
