-- The pictures of a job: what is read is what the operation sees, and what it writes is what is printed.
use Prim.Native.Nat.{ℕ, ◌≤◌, ◌<◌}
use mathlib.Core.Path.{◌≡◌, refl, ap, ap₂, ◌∙◌, subst}
use mathlib.Core.Bool.{Bool, true, false}
use mathlib.Core.List.{List, [], ◌∷◌, ◌++◌}
use native.Mathlib.Omega.{arith}
use lib.ListN.{length, take}
use lib.Seq.{take_at}
use Rattle.basics.proofs.Joined.{joined_same}
use Rattle.picture.specs.declared.Depth.{Depth}
use Rattle.picture.specs.declared.Depth.TheVariants.{OneBit}
use Rattle.picture.specs.Frame.{top, picture_bytes, frame}
use Rattle.picture.specs.Points.{value_at}
use Rattle.picture.specs.Bytes.{Picture, bytes_of, written}
use Rattle.picture.proofs.Bytes.{bytes_long, bytes_value}
use Rattle.picture.proofs.Points.{written_same}
use Rattle.picture.proofs.Shown.{written_shown}
use Rattle.element.specs.Shape.{Shape}
use Rattle.morphology.specs.Operations.{flat}
use Rattle.morphology.specs.Order.{Alike, Bounded}
use Rattle.morphology.proofs.Order.{erode_alike, dilate_alike}
use Rattle.rows.specs.Steps.Ways.{swept_by}
use Rattle.rows.proofs.Swept.{swept_bounded}
use Rattle.basics.specs.Bytes.{Bytes}
use Rattle.element.specs.declared.Element.{Element}
use Rattle.element.specs.Descriptor.{cells_made, shape_in}
use Rattle.element.specs.Record.{element_of, shape_of}
use Rattle.apply.proofs.Read.{flat_read}
use Rattle.apply.proofs.Twice.{swept_alike}
use Rattle.text.specs.Text.{line_feed, item_of, row_line, row_lines, text_of, most_text, head_line}
use Rattle.text.proofs.Longest.{text_most}
use Rattle.work.specs.declared.Operation.{Operation}
use Rattle.work.specs.declared.Operation.TheVariants.{Erode, Dilate, Open, Close}
use Rattle.work.specs.Work.{operated, middle_in}

-- ---- pictures that agree in the frame give the same text
rows_same : (depth : Depth) (f g : ℕ → ℕ) (w : ℕ) → ((x : ℕ) → x < w → f x ≡ g x)
    → row_line depth f w ≡ row_line depth g w
unfolding row_line
rows_same depth f g w e =
    ap (λ l. l ++ (line_feed ∷ [])) (joined_same (λ x. item_of depth (f x) x)
    (λ x. item_of depth (g x) x) w (λ x l. ap (λ v. item_of depth v x) (e x l)))

text_same : (depth : Depth) (A C : Picture) (w h kind : ℕ) → ((x y : ℕ) → x < w → y < h → A x y ≡ C x y)
    → text_of depth A w h kind ≡ text_of depth C w h kind
unfolding text_of row_lines
text_same depth A C w h kind e =
    ap (λ l. head_line w h kind ++ l)
    (joined_same (λ y. row_line depth (λ x. A x y) w) (λ y. row_line depth (λ x. C x y) w)
    h (λ y ly. rows_same depth (λ x. A x y) (λ x. C x y) w (λ x lx. e x y lx ly)))

-- ---- no operation reads a point outside the frame, and none goes above the greatest value
module _ (depth : Depth) (w h : ℕ) (B : Shape) where
  operated_alike : (op : Operation) (A C : Picture) → Alike (frame w h) A C → (x y : ℕ)
      → operated op depth w h B A x y ≡ operated op depth w h B C x y
  unfolding operated
  operated_alike Erode A C a x y = erode_alike flat (frame w h) B A C a (record { x = x; y = y }) (top depth)
  operated_alike Dilate A C a x y = dilate_alike flat (frame w h) B A C a (record { x = x; y = y })
  operated_alike Open A C a x y =
      dilate_alike flat (frame w h) B _ _ (λ p i. erode_alike flat (frame w h) B A C a p (top depth))
      (record { x = x; y = y })
  operated_alike Close A C a x y =
      erode_alike flat (frame w h) B _ _ (λ p i. dilate_alike flat (frame w h) B A C a p)
      (record { x = x; y = y }) (top depth)

  middle_alike : (op : Operation) (A C : Picture) (m : List ℕ) → Alike (frame w h) A C
      → middle_in op depth w h B A m ≡ middle_in op depth w h B C m
  unfolding middle_in
  middle_alike Erode A C m a = refl
  middle_alike Dilate A C m a = refl
  middle_alike Open A C m a =
      written_same depth _ _ w h m
      (λ x y lx ly. erode_alike flat (frame w h) B A C a (record { x = x; y = y }) (top depth))
  middle_alike Close A C m a =
      written_same depth _ _ w h m
      (λ x y lx ly. dilate_alike flat (frame w h) B A C a (record { x = x; y = y }))

  operated_small : (op : Operation) (A : Picture) → Bounded (top depth) (frame w h) A
      → Bounded (top depth) (frame w h) (operated op depth w h B A)
  unfolding operated
  operated_small Erode A b = swept_bounded false (top depth) (frame w h) B A b
  operated_small Dilate A b = swept_bounded true (top depth) (frame w h) B A b
  operated_small Open A b =
      swept_bounded true (top depth) (frame w h) B _ (swept_bounded false (top depth) (frame w h) B A b)
  operated_small Close A b =
      swept_bounded false (top depth) (frame w h) B _ (swept_bounded true (top depth) (frame w h) B A b)

-- ---- by the record that was read of a descriptor d, or by the descriptor's own element
module _ (d : List ℕ) (made : cells_made d ≡ true) (bytes : Bytes d)
    (e : Element) (q : e ≡ element_of d) (depth : Depth) (w h : ℕ) where
  swept_read : (grows : Bool) (A : Picture) (x y : ℕ)
      → swept_by grows flat (top depth) (frame w h) (shape_of e) A x y
      ≡ swept_by grows flat (top depth) (frame w h) (shape_in d) A x y
  swept_read grows A x y =
      ap (λ (e : Element). swept_by grows flat (top depth) (frame w h) (shape_of e) A x y) q
      ∙ flat_read d made bytes (top depth) (frame w h) A x y grows

  twice_read : (first other : Bool) (A : Picture) (x y : ℕ)
      → swept_by other flat (top depth) (frame w h) (shape_of e)
      (swept_by first flat (top depth) (frame w h) (shape_of e) A) x y
      ≡ swept_by other flat (top depth) (frame w h) (shape_in d)
      (swept_by first flat (top depth) (frame w h) (shape_in d) A) x y
  twice_read first other A x y =
      swept_read other _ x y
      ∙ swept_alike other flat (top depth) (frame w h)
      (shape_in d) _ _ (λ p i. swept_read first A p.x p.y) x y

  operated_read : (op : Operation) (A : Picture) (x y : ℕ)
      → operated op depth w h (shape_of e) A x y ≡ operated op depth w h (shape_in d) A x y
  unfolding operated
  operated_read Erode A x y = swept_read false A x y
  operated_read Dilate A x y = swept_read true A x y
  operated_read Open A x y = twice_read false true A x y
  operated_read Close A x y = twice_read true false A x y

  pub result_read : (op : Operation) (A : Picture) (r : List ℕ)
      → written depth (operated op depth w h (shape_of e) A) w h r
      ≡ written depth (operated op depth w h (shape_in d) A) w h r
  result_read op A r = written_same depth _ _ w h r (λ x y lx ly. operated_read op A x y)

  pub middle_read : (op : Operation) (A : Picture) (m : List ℕ)
      → middle_in op depth w h (shape_of e) A m ≡ middle_in op depth w h (shape_in d) A m
  unfolding middle_in
  middle_read Erode A m = refl
  middle_read Dilate A m = refl
  middle_read Open A m = written_same depth _ _ w h m (λ x y lx ly. swept_read false A x y)
  middle_read Close A m = written_same depth _ _ w h m (λ x y lx ly. swept_read true A x y)

  pub text_read : (op : Operation) (A : Picture) (kind : ℕ)
      → text_of depth (operated op depth w h (shape_of e) A) w h kind
      ≡ text_of depth (operated op depth w h (shape_in d) A) w h kind
  text_read op A kind = text_same depth _ _ w h kind (λ x y lx ly. operated_read op A x y)

-- ---- from the picture P that was written to the source's buffer
module _ (depth : Depth) (w h : ℕ) (P : Picture) (small : (x y : ℕ) → x < w → y < h → P x y ≤ top depth) where
  pub source_is : (n : ℕ) (p s : List ℕ) → n ≡ picture_bytes depth w h → s ≡ written depth P w h p
      → take n s ≡ bytes_of depth P w h
  unfolding written
  source_is n p s en es =
      ap₂ (λ k l. take k l) en es ∙ take_at (bytes_of depth P w h) _ _ (bytes_long depth P w h)

  seen : (s : List ℕ) → s ≡ bytes_of depth P w h → Alike (frame w h) (value_at depth s w) P
  seen s e q i =
      ap (λ l. value_at depth l w q.x q.y) e
      ∙ bytes_value depth P w h small q.x q.y i.ping i.bin

module _ (depth : Depth) (w h : ℕ) (P : Picture)
    (small : (x y : ℕ) → x < w → y < h → P x y ≤ top depth) (B : Shape) (op : Operation) where
  pub result_is : (s r u : List ℕ) → s ≡ bytes_of depth P w h
      → u ≡ written depth (operated op depth w h B (value_at depth s w)) w h r
      → u ≡ written depth (operated op depth w h B P) w h r
  result_is s r u es eu =
      eu ∙ written_same depth _ _ w h r
      (λ x y lx ly. operated_alike depth w h B op _ P (seen depth w h P small s es) x y)

  pub middle_is : (s m u : List ℕ) → s ≡ bytes_of depth P w h
      → u ≡ middle_in op depth w h B (value_at depth s w) m → u ≡ middle_in op depth w h B P m
  middle_is s m u es eu = eu ∙ middle_alike depth w h B op _ P m (seen depth w h P small s es)

  result_small : (x y : ℕ) → x < w → y < h → operated op depth w h B P x y ≤ top depth
  result_small x y lx ly =
      operated_small depth w h B op P (λ q i. small q.x q.y i.ping i.bin)
      (record { x = x; y = y }) (record { ping = lx; bin = ly })

  pub text_is : (r u : List ℕ) (kind : ℕ) → u ≡ written depth (operated op depth w h B P) w h r
      → text_of depth (value_at depth u w) w h kind ≡ text_of depth (operated op depth w h B P) w h kind
  text_is r u kind eu =
      text_same depth _ _ w h kind (λ x y lx ly. ap (λ l. value_at depth l w x y) eu
      ∙ written_shown depth (operated op depth w h B P) w h r one x y lx ly)
    where
      one : depth ≡ OneBit → (x y : ℕ) → x < w → y < h → operated op depth w h B P x y ≤ 1
      one e x y lx ly = subst (λ n. operated op depth w h B P x y ≤ n) (ap top e) (result_small x y lx ly)

  pub text_fits : (kind n : ℕ) → 1 ≤ w → most_text depth w h kind ≤ n
      → length (text_of depth (operated op depth w h B P) w h kind) ≤ n
  text_fits kind n some l =
      omega (arith, text_most depth (operated op depth w h B P) w h kind some result_small)
