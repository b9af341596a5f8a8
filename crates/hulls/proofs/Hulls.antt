-- What is measured of an element, field by field.
use Prim.Native.Nat.{ℕ, ◌-◌, min, max}
use mathlib.Core.Path.{◌≡◌, refl, ap, ap₂, ◌∙◌}
use mathlib.Core.List.{List}
use Rattle.basics.specs.Lists.{firsts}
use Rattle.element.specs.declared.Element.{Element}
use Rattle.element.specs.Descriptor.{most_cells}
use Rattle.element.specs.Record.{element_of}
use Rattle.element.specs.Steps.Words.{word_byte, word_of, row_word, row_words}
use Rattle.hulls.specs.declared.Extent.{Extent}
use Rattle.hulls.specs.declared.Side.{Side}
use Rattle.hulls.specs.Extent.{extent_of}
use Rattle.hulls.specs.Hull.{side_of, cut_of, own_row, hull_by, hull_of, word_in, rows_in, hull_in}

pub side_is : (o f l s m a b c d : ℕ) → s ≡ min o f → m ≡ max o l → a ≡ o - s → b ≡ f - s → c ≡ l - s
    → d ≡ m - s → record { origin = a; first = b; last = c; span = d } ≡ side_of o f l
unfolding side_of
side_is o f l s m a b c d e g p q r v =
    λ i. record {
      origin = (p ∙ ap (λ z. o - z) e) i;
      first = (q ∙ ap (λ z. f - z) e) i;
      last = (r ∙ ap (λ z. l - z) e) i;
      span = (v ∙ ap₂ (λ y z. y - z) g e) i;
    }

module _ (e : Element) (x : Extent) (a d : Side) (nw ne sw se l0 l t0 t : ℕ) (own : List ℕ)
    (ex : x ≡ extent_of e.rows e.outline.w e.outline.h)
    (ea : a ≡ side_of e.outline.origin.ping.0 x.left x.right)
    (ed : d ≡ side_of e.outline.origin.bin.0 x.top x.bottom)
    (enw : nw ≡ cut_of x.nearest 0 x.left x.top)
    (ene : ne ≡ cut_of x.right most_cells x.highest x.top)
    (esw : sw ≡ cut_of x.lowest x.bottom x.left most_cells)
    (ese : se ≡ cut_of x.right x.bottom x.farthest 0)
    (el0 : l0 ≡ min e.outline.origin.ping.0 x.left) (el : l ≡ min l0 (most_cells - 1))
    (et0 : t0 ≡ min e.outline.origin.bin.0 x.top) (et : t ≡ min t0 (most_cells - 1))
    (eo : own ≡ firsts (own_row e.rows l t) 8) where
  by : record { across = a; down = d; nw = nw; ne = ne; sw = sw; se = se; own = own }
      ≡ hull_by e.outline.origin.ping.0 e.outline.origin.bin.0 e.rows x
  unfolding hull_by
  by = λ i. record {
    across = ea i;
    down = ed i;
    nw = enw i;
    ne = ene i;
    sw = esw i;
    se = ese i;
    own = (eo ∙ ap₂ (λ p q. firsts (own_row e.rows p q) 8) (el ∙ ap (λ n. min n (most_cells - 1)) el0)
        (et ∙ ap (λ n. min n (most_cells - 1)) et0)) i;
  }

  pub hull_is : record { across = a; down = d; nw = nw; ne = ne; sw = sw; se = se; own = own }
      ≡ hull_of e.outline.origin.ping.0 e.outline.origin.bin.0 e.outline.w
      e.outline.h e.rows
  unfolding hull_of
  hull_is = by ∙ ap (hull_by e.outline.origin.ping.0 e.outline.origin.bin.0 e.rows) ex

-- the row words of the record are those of the descriptor
pub rows_in_lem : (d : List ℕ) → (element_of d).rows ≡ rows_in d
unfolding element_of row_words row_word word_of word_byte rows_in word_in
rows_in_lem d = refl

pub hull_in_lem : (d : List ℕ) (e : Element) → e ≡ element_of d
    → hull_of e.outline.origin.ping.0 e.outline.origin.bin.0 e.outline.w
    e.outline.h e.rows
    ≡ hull_in d
unfolding hull_in element_of row_words row_word word_of word_byte rows_in word_in
hull_in_lem d e q =
    ap (λ (x : Element). hull_of x.outline.origin.ping.0 x.outline.origin.bin.0
    x.outline.w x.outline.h x.rows) q
