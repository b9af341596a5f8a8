-- What a read gives back is small, so that it can be packed in one number.
use Prim.Native.Nat.{ℕ, ◌+◌, ◌*◌, ◌^◌, ◌≤◌}
use mathlib.Core.Path.{◌≡◌, refl, sym, ap, subst, ◌∙◌}
use mathlib.Core.Bool.{Bool, true, false, cond}
use mathlib.Core.List.{List}
use lib.ListN.{length}
use native.Mathlib.Omega.{arith}
use Rattle.std.specs.Prelude.{Ok, Err}
use Rattle.answer.specs.declared.Refusal.{Refusal}
use Rattle.answer.specs.Answer.{told, plain, is_done}
use Rattle.answer.proofs.Variants.{refused_undone}
use Rattle.answer.specs.Packed.{packed}
use Rattle.picture.specs.Frame.{most_pings, most_bins}
use Rattle.picture.proofs.Sizes.{sized_tells}
use Rattle.ech.specs.declared.Header.{Header}
use Rattle.ech.specs.File.{kind_of, reported_kind, pings_of, bins_of}
use Rattle.ech.specs.ReadWrite.{read_answer, GivenBack}
use Rattle.ech.proofs.Judging.{reported_made}
use Rattle.ech.proofs.Reading.{done_read}
use Rattle.ech.proofs.Writing.{known_few}
use Rattle.ech.proofs.RoundTrip.{Accepted, accepted}
use Rattle.hostfile.specs.Read.{read_number}

-- kind and size as small as pack_read wants them
abbrev pub Packable : ℕ → ℕ → ℕ → Type 0
Packable kind w h = (kind ≤ 3) × ((w ≤ most_pings) × (h ≤ most_bins))

pub packable_if : (done : Bool) (f : List ℕ) → (done ≡ true → Accepted f)
    → Packable (cond done (reported_kind f) 0) (cond done (pings_of f) 0) (cond done (bins_of f) 0)
packable_if true f so = let a = so refl in
    let l = sized_tells _ _ a.sized in
    (known_few _ (reported_made (kind_of f) a.known).0, (l.few_pings, l.few_bins))
packable_if false f so = (omega arith, (omega arith, omega arith))

module _ (f t : List ℕ) where
  -- a read that is done
  module _ (r : Header)
      (g : GivenBack (read_answer f (length t)) (reported_kind f) (pings_of f) (bins_of f) (Ok r)) where
    pub read_packable : Packable r.kind r.w r.h
    read_packable =
        let p = packable_if true f (λ e. accepted f (length t) (done_read f t (length t) r g)) in (
          subst (λ (n : ℕ). n ≤ 3) (sym g.kind) p.0,
          (
            subst (λ (n : ℕ). n ≤ most_pings) (sym g.pings) p.1.0,
            subst (λ (n : ℕ). n ≤ most_bins) (sym g.bins) p.1.1,
          ),
        )

    pub read_packed : 0 + r.kind * 2 ^ 8 + r.w * 2 ^ 16 + r.h * 4294967296 ≡ read_number f t
    unfolding read_number told plain packed
    read_packed =
        let done = done_read f t (length t) r g in
        let number : 0 ≡ packed (read_answer f (length t)) = ap packed g.answer in
        let kind = g.kind ∙ ap (λ b. cond b (reported_kind f) 0) (sym done) in
        let pings = g.pings ∙ ap (λ b. cond b (pings_of f) 0) (sym done) in
        let bins = g.bins ∙ ap (λ b. cond b (bins_of f) 0) (sym done) in
        λ i. number i + kind i * 2 ^ 8 + pings i * 2 ^ 16 + bins i * 4294967296

  -- and one that is refused
  pub refused_packed : (why : Refusal)
      → told {A = Header} (Err why) ≡ read_answer f (length t)
      → (n : ℕ) → n ≡ packed (told {A = Unit {0}} (Err why))
      → n + 0 * 2 ^ 8 + 0 * 2 ^ 16 + 0 * 4294967296 ≡ read_number f t
  unfolding read_number told
  refused_packed why e n en =
      let not_done = ap is_done (sym e) ∙ refused_undone why in
      let number : n ≡ packed (read_answer f (length t)) = en ∙ ap packed e in
      let kind = ap (λ b. cond b (reported_kind f) 0) (sym not_done) in
      let pings = ap (λ b. cond b (pings_of f) 0) (sym not_done) in
      let bins = ap (λ b. cond b (bins_of f) 0) (sym not_done) in
      λ i. number i + kind i * 2 ^ 8 + pings i * 2 ^ 16 + bins i * 4294967296
