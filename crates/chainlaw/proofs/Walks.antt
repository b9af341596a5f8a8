-- Walks through links that are the parts of a box.
use Prim.Native.Nat.{ℕ, suc, ◌+◌, ◌-◌, ◌*◌, ◌≤◌, ◌<◌, min, max}
use mathlib.Core.Path.{◌≡◌}
use mathlib.Core.Logic.{inl, inr}
use mathlib.Core.List.{List, [], ◌∷◌}
use native.Mathlib.Omega.{arith}
use lib.Dec.{T}
use Rattle.answer.specs.Answer.{centre}
use Rattle.element.specs.Shape.{Shape}
use Rattle.morphology.specs.Step.{Place, Step}
use Rattle.morphology.proofs.Places.{Walk, BetweenAt}
use Rattle.hulls.specs.declared.Side.{Side}
use Rattle.candidates.specs.Candidates.{part}
use Rattle.chainlaw.proofs.Parts.{rest_none, Leads, Goes, Way, then_leads}
use Rattle.chainlaw.proofs.Parts.{next}

module _ (X Y : Side) where
  -- B is the part i of the box
  pub record PartOf (i : ℕ) (B : Shape) : Type 0 where
    pub column : B.origin_column ≡ part 7 X.origin i
    pub row : B.origin_row ≡ part 7 Y.origin i
    pub wide : part 7 X.last i < B.wide
    pub high : part 7 Y.last i < B.high
    pub set : (x y : ℕ) → part 7 X.first i ≤ x → x ≤ part 7 X.last i
        → part 7 Y.first i ≤ y → y ≤ part 7 Y.last i → T (B.has x y)
    pub unset : (x y : ℕ) → x < B.wide → y < B.high → T (B.has x y)
        → (part 7 X.first i ≤ x) × (x ≤ part 7 X.last i)
        × (part 7 Y.first i ≤ y) × (y ≤ part 7 Y.last i)

  -- the links are the parts from i on
  abbrev pub PartsFrom : ℕ → List Shape → Type 0
  PartsFrom i [] = Unit {0}
  PartsFrom i (B ∷ Bs) = PartOf i B × PartsFrom (suc i) Bs

  -- nothing of either side is left after i links
  pub record Ended (i : ℕ) : Type 0 where
    pub across : (X.first ≤ 7 * i) × (X.last ≤ 7 * i) × (X.origin ≤ 7 * i)
    pub down : (Y.first ≤ 7 * i) × (Y.last ≤ 7 * i) × (Y.origin ≤ 7 * i)

  abbrev pub end_of : ℕ → List Shape → ℕ
  end_of i [] = i
  end_of i (B ∷ Bs) = end_of (suc i) Bs

  -- a step of link i goes along both sides
  goes : (i : ℕ) (B : Shape) (p m : Place) → PartOf i B → Step B p m
      → Goes X i p.x m.x × Goes Y i p.y m.y
  goes i B p m P s =
      let k = s.cell in
      let u = P.unset k.column k.row k.in_width k.in_height k.set in
      let a = s.across in
      let b = s.down in
      let c = P.column in
      let d = P.row in (
        record { least = omega (arith, u.0, a, c); most = omega (arith, u.1, a, c) },
        record { least = omega (arith, u.2, b, d); most = omega (arith, u.3, b, d) },
      )

  -- where a walk leads, the box does
  pub walk_leads : (Q : Place → Type 0) (Bs : List Shape) (i : ℕ) (p q : Place) → PartsFrom i Bs
      → Ended (end_of i Bs)
      → Walk Q Bs p q → Leads X i p.x q.x × Leads Y i p.y q.y
  walk_leads Q [] i p q P e w =
      let a = rest_none X.first i e.across.0 in
      let b = rest_none X.last i e.across.1 in
      let c = rest_none X.origin i e.across.2 in
      let f = rest_none Y.first i e.down.0 in
      let g = rest_none Y.last i e.down.1 in
      let h = rest_none Y.origin i e.down.2 in (
        record { least = omega (arith, a, c, w.0); most = omega (arith, b, c, w.0) },
        record { least = omega (arith, f, h, w.1); most = omega (arith, g, h, w.1) },
      )
  walk_leads Q (B ∷ Bs) i p q P e w =
      let g = goes i B p w.0 P.0 w.1 in
      let l = walk_leads Q Bs (suc i) w.0 q P.1 e w.3 in (
        then_leads X i p.x w.0.x q.x g.0 l.0,
        then_leads Y i p.y w.0.y q.y
            g.1 l.1,
      )

  amid : (S : Side) (e m : ℕ) → Way S e m → (min centre e ≤ m) × (m ≤ max centre e)
  amid S e m (inl h) = (omega (arith, h.1), omega (arith, h.2))
  amid S e m (inr h) = (omega (arith, h.1), omega (arith, h.2))

  -- where the box leads, a path does
  pub path_there : X.first ≤ X.last → Y.first ≤ Y.last → (Bs : List Shape) (i : ℕ) (p e : Place)
      → PartsFrom i Bs → Ended (end_of i Bs) → Way X e.x p.x → Way Y e.y p.y
      → Leads X i p.x e.x → Leads Y i p.y e.y → Walk (BetweenAt e) Bs p e
  path_there fx fy [] i p e P n wx wy lx ly =
      let a = rest_none X.first i n.across.0 in
      let b = rest_none X.last i n.across.1 in
      let c = rest_none X.origin i n.across.2 in
      let f = rest_none Y.first i n.down.0 in
      let g = rest_none Y.last i n.down.1 in
      let h = rest_none Y.origin i n.down.2 in
      (omega (arith, a, b, c, lx.least, lx.most), omega (arith, f, g, h, ly.least, ly.most))
  path_there fx fy (B ∷ Bs) i p e P n wx wy lx ly =
      let u = next X i p.x e.x fx wx lx in
      let v = next Y i p.y e.y fy wy ly in
      let m : Place = record { x = u.0; y = v.0 } in
      let Q = P.0 in
      let a = amid X e.x u.0 u.3 in
      let b = amid Y e.y v.0 v.3 in
      let c = u.0 + part 7 X.origin i - p.x in
      let r = v.0 + part 7 Y.origin i - p.y in
      let ec : p.x + c ≡ u.0 + part 7 X.origin i = omega (arith, u.1.least) in
      let er : p.y + r ≡ v.0 + part 7 Y.origin i = omega (arith, v.1.least) in
      let c0 : part 7 X.first i ≤ c = omega (arith, ec, u.1.least) in
      let c1 : c ≤ part 7 X.last i = omega (arith, ec, u.1.most) in
      let r0 : part 7 Y.first i ≤ r = omega (arith, er, v.1.least) in
      let r1 : r ≤ part 7 Y.last i = omega (arith, er, v.1.most) in (
        m,
        record {
          cell = record {
            column = c;
            row = r;
            in_width = omega (arith, c1, Q.wide);
            in_height = omega (arith, r1, Q.high);
            set = Q.set c r c0 c1 r0 r1;
          };
          across = omega (arith, ec, Q.column);
          down = omega (arith, er, Q.row);
        },
        record { left = a.0; right = a.1; upper = b.0; lower = b.1 },
        path_there fx fy Bs (suc i) m e P.1 n u.3 v.3 u.2 v.2,
      )
