-- A candidate as it is written and checked.
use Prim.Native.Nat.{ℕ, ◌*◌, ◌≤◌}
use mathlib.Core.Path.{◌≡◌, refl, sym, ap, ap₂, ◌∙◌}
use mathlib.Core.Bool.{Bool}
use mathlib.Core.List.{List, ◌++◌}
use native.Mathlib.Nat.{mul-le-mul}
use lib.ListN.{length, take}
use lib.Seq.{take_at}
use Rattle.std.specs.Prelude.{Ok, Err}
use Rattle.std.specs.Result.{is_ok}
use Rattle.answer.specs.Answer.{Answer, told, plain, is_done}
use Rattle.answer.proofs.Variants.{refused_undone}
use Rattle.basics.specs.Lists.{firsts, joined}
use Rattle.basics.proofs.Lists.{length_firsts}
use Rattle.basics.proofs.Joined.{length_joined}
use Rattle.chain.specs.Reading.{checked}
use Rattle.hulls.specs.declared.Hull.{Hull}
use Rattle.candidates.specs.declared.Try.{Try}
use Rattle.candidates.specs.Candidates.{try_no, links_of, length_of, link_byte, link_bytes, chain_by}
use Rattle.chainfor.specs.Find.{accepts}

-- what is accepted is done
pub ok_is_done : (a : Answer) → is_ok a ≡ is_done (told a)
unfolding told plain
ok_is_done (Ok x) = refl
ok_is_done (Err r) = sym (refused_undone r)

-- five links of twelve bytes
pub sixty : (k m : ℕ) → k ≤ 5 → m ≤ 12 → k * m ≤ 60
sixty k m a b = mul-le-mul {n₁ = k} {m₁ = m} {n₂ = 5} {m₂ = 12} a b

module _ (H : Hull) (c : Try) where
  -- the bytes that were written are the candidate's
  pub chain_is : (k m : ℕ) → k ≡ links_of H c → m ≡ length_of H c
      → joined (λ i. firsts (link_byte H c i) m) k ≡ chain_by H c
  unfolding chain_by link_bytes
  chain_is k m ek em =
      ap₂ (λ n j. joined (λ i. firsts (link_byte H c i) n) j) em ek

  pub chain_length : length (chain_by H c) ≡ links_of H c * length_of H c
  unfolding chain_by link_bytes
  chain_length =
      length_joined (λ i. firsts (link_byte H c i) (length_of H c)) (length_of H c)
      (λ i. length_firsts (link_byte H c i) (length_of H c)) (links_of H c)

pub accepted_is : (d : List ℕ) (H : Hull) (t : ℕ) (c : Try) (k m n : ℕ) (w rest : List ℕ)
    (said : Answer) (r : Bool)
    → c ≡ try_no t → k ≡ links_of H c → m ≡ length_of H c → n ≡ k * m
    → w ≡ joined (λ i. firsts (link_byte H c i) m) k ++ rest
    → told said ≡ checked d k (take n w) → r ≡ is_ok said → r ≡ accepts d H t
unfolding accepts
accepted_is d H t c k m n w rest said r ec ek em en ew es er =
    er ∙ ok_is_done said ∙ ap is_done es
    ∙ ap (λ l. is_done (checked d k l))
    (ap₂ take en ew
    ∙ take_at (joined (λ i. firsts (link_byte H c i) m) k) rest (k * m)
    (length_joined (λ i. firsts (link_byte H c i) m) m (λ i. length_firsts (link_byte H c i) m) k)
    ∙ chain_is H c k m ek em)
    ∙ ap (λ j. is_done (checked d j (chain_by H c))) ek
    ∙ ap (λ (x : Try). is_done (checked d (links_of H x) (chain_by H x))) ec
