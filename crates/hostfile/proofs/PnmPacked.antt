-- What a read of a PBM or PGM file gives back is small, so that it can be packed in one number.
use Prim.Native.Nat.{ℕ, ◌+◌, ◌*◌, ◌^◌, ◌≤◌}
use mathlib.Core.Path.{◌≡◌, refl, sym, ap, subst, ◌∙◌}
use mathlib.Core.Bool.{Bool, true, false, cond}
use mathlib.Core.List.{List}
use lib.ListN.{length}
use native.Mathlib.Omega.{arith}
use Rattle.std.specs.Prelude.{Ok, Err}
use Rattle.answer.specs.declared.Refusal.{Refusal}
use Rattle.answer.specs.Answer.{told, plain, is_done}
use Rattle.answer.proofs.Variants.{refused_undone, ok_done}
use Rattle.answer.specs.Packed.{packed}
use Rattle.picture.specs.declared.Depth.{Depth}
use Rattle.picture.specs.Frame.{most_pings, most_bins, sized_frame}
use Rattle.picture.proofs.Sizes.{sized_tells}
use Rattle.netpbm.specs.declared.Header.{Header}
use Rattle.netpbm.specs.File.{pings_of, bins_of}
use Rattle.netpbm.specs.ReadWrite.{read_answer, GivenBack}
use Rattle.netpbm.proofs.Reading.{file_admitted}
use Rattle.hostfile.specs.Read.{pnm_number}
use Rattle.hostfile.proofs.ReadPacked.{Packable}

pub small_if : (done : Bool) (w h : ℕ) → (done ≡ true → sized_frame w h ≡ true)
    → Packable 0 (cond done w 0) (cond done h 0)
small_if true w h so = let l = sized_tells w h (so refl) in (omega arith, (l.few_pings, l.few_bins))
small_if false w h so = (omega arith, (omega arith, omega arith))

module _ (depth : Depth) (f t : List ℕ) where
  -- a read that is done
  module _ (r : Header)
      (g : GivenBack (read_answer depth f (length t)) (pings_of depth f) (bins_of depth f) (Ok r)) where
    done : is_done (read_answer depth f (length t)) ≡ true
    done = ap is_done (sym g.answer) ∙ ok_done (Ok r) r refl

    pub pnm_packable : Packable 0 r.w r.h
    pnm_packable =
        let p = small_if true (pings_of depth f) (bins_of depth f)
        (λ e. (file_admitted depth f (length t) done).1.sized) in (
          p.0,
          (
            subst (λ (n : ℕ). n ≤ most_pings) (sym g.pings) p.1.0,
            subst (λ (n : ℕ). n ≤ most_bins) (sym g.bins) p.1.1,
          ),
        )

    pub pnm_packed : 0 + 0 * 2 ^ 8 + r.w * 2 ^ 16 + r.h * 4294967296 ≡ pnm_number depth f t
    unfolding pnm_number told plain packed
    pnm_packed =
        let number : 0 + 0 * 2 ^ 8 ≡ packed (read_answer depth f (length t)) = ap packed g.answer in
        let pings = g.pings ∙ ap (λ b. cond b (pings_of depth f) 0) (sym done) in
        let bins = g.bins ∙ ap (λ b. cond b (bins_of depth f) 0) (sym done) in
        λ i. number i + pings i * 2 ^ 16 + bins i * 4294967296

  -- and one that is refused
  pub pnm_refused_packed : (why : Refusal)
      → told {A = Header} (Err why) ≡ read_answer depth f (length t)
      → (n : ℕ) → n ≡ packed (told {A = Unit {0}} (Err why))
      → n + 0 * 2 ^ 8 + 0 * 2 ^ 16 + 0 * 4294967296 ≡ pnm_number depth f t
  unfolding pnm_number told
  pnm_refused_packed why e n en =
      let not_done = ap is_done (sym e) ∙ refused_undone why in
      let number : n + 0 * 2 ^ 8 ≡ packed (read_answer depth f (length t)) = no_kind n ∙ en ∙ ap packed e in
      let pings = ap (λ b. cond b (pings_of depth f) 0) (sym not_done) in
      let bins = ap (λ b. cond b (bins_of depth f) 0) (sym not_done) in
      λ i. number i + pings i * 2 ^ 16 + bins i * 4294967296
    where
      no_kind : (n : ℕ) → n + 0 * 2 ^ 8 ≡ n
      no_kind n = omega arith
