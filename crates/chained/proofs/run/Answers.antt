-- The check stands between the tests of the picture and the room, so that the answer is the definition's.
-- Where it is done, no link is refused, and each buffer is left by the way that was asked for: `left_by`.
use Prim.Native.Nat.{ℕ, min}
use mathlib.Core.Path.{◌≡◌, refl, sym, ap, ◌∙◌}
use mathlib.Core.Bool.{Bool, true, false}
use mathlib.Core.List.{List}
use lib.ListN.{length}
use Rattle.std.specs.Prelude.{Ok}
use Rattle.std.proofs.lemmas.Result.{err_from_is_err_and}
use Rattle.answer.specs.Answer.{Answer, told}
use Rattle.answer.specs.Lent.{unless_refused}
use Rattle.answer.proofs.Lent.{kept_by}
use Rattle.answer.proofs.Variants.{handed_on, ok_done, err_undone}
use Rattle.picture.specs.Bytes.{Picture}
use Rattle.chained.specs.Run.{run_answer, first_after, second_after}
use Rattle.chained.specs.Steps.Buffers.{results_by, Linked}
use Rattle.chained.proofs.Answers.{answer_is, linked, left_by}
use Rattle.chained.proofs.run.Goals as goal
use Rattle.chained.proofs.run.Goals.{After-refusal, In_ok-refusal}

-- an answer that is told as the refusal was
answered : (c : After-refusal) → (said : Answer) → told said ≡ told c.refusal.result → let a = c.args in
    told said
    ≡ run_answer a.depth a.w a.h a.source.now a.element.now a.links a.chain.now
    (min (length a.first.now) (length a.second.now))
answered c said e = let a = c.args in
    answer_is a.depth true a.w a.h a.source.now a.element.now a.links a.chain.now
    a.first.now a.second.now c.check_chain-check.result said _
    c.check_chain-check.ensures c.min-room.ensures (e ∙ c.refusal.ensures)

abbrev fine : Answer
fine = Ok (tt {0})

done : (c : In_ok-refusal) → told fine ≡ told c.refusal.result
unfolding told
done c = sym (ap (λ (a : Answer). told a) c.in_ok-refusal.was)

asked : (c : In_ok-refusal) → let a = c.args in
    Linked a.depth a.w a.h (length a.source.now) a.links a.chain.now
    (length a.first.now) (length a.second.now)
asked c = let a = c.args in
    linked a.depth true a.w a.h a.source.now a.element.now a.links a.chain.now
    a.first.now a.second.now c.check_chain-check.result fine _
    c.check_chain-check.ensures c.min-room.ensures (done c ∙ c.refusal.ensures) (ok_done fine (tt {0}) refl)

left : (c : In_ok-refusal) → let a = c.args in
    (after : (ℕ → Picture) → List ℕ) (was u : List ℕ) (found : Bool) → a.grows ≡ found
    → u ≡ after (results_by found a.depth a.w a.h a.source.now a.chain.now)
    → u ≡ unless_refused (told fine) was
    (after (results_by a.grows a.depth a.w a.h a.source.now a.chain.now))
left c = let a = c.args in
    left_by a.depth a.grows a.w a.h a.source.now a.element.now a.links a.chain.now
    a.first.now a.second.now c.check_chain-check.result fine _
    c.check_chain-check.ensures c.min-room.ensures (done c ∙ c.refusal.ensures) (ok_done fine (tt {0}) refl)

pub returns-in_err-refusal : goal.returns-in_err-refusal
returns-in_err-refusal c =
    let p = err_from_is_err_and c.from_residual.result c.from_residual.ensures.1 in
    let undone = err_undone _ _ p.1 in
    record {
      answer =
          answered (goal.at.returns-in_err-refusal c).After-refusal c.from_residual.result
          (handed_on _ _ _ c.in_err-refusal.was p);
      first = kept_by _ _ _ _ refl undone;
      second = kept_by _ _ _ _ refl undone;
    }

pub run_links-requires : goal.run_links-requires
run_links-requires c = asked (goal.at.run_links-requires c).In_ok-refusal

pub returns-then-grows : goal.returns-then-grows
returns-then-grows c =
    let a = c.args in
    let t = goal.at.returns-then-grows c in
    let p = t.In_ok-refusal in
    record {
      answer = answered t.After-refusal fine (done p);
      first =
          left p (λ made. first_after a.depth a.w a.h made a.links a.first.now) _ _ true
          c.if-grows.true c.run_links.ensures.first;
      second =
          left p (λ made. second_after a.depth a.w a.h made a.links a.second.now) _ _ true
          c.if-grows.true c.run_links.ensures.second;
    }

pub run_links-requires-2 : goal.run_links-requires-2
run_links-requires-2 c = asked (goal.at.run_links-requires-2 c).In_ok-refusal

pub returns : goal.returns
returns c =
    let a = c.args in
    let t = goal.at.returns c in
    let q = t.In_ok-refusal in
    record {
      answer = answered t.After-refusal fine (done q);
      first =
          left q (λ made. first_after a.depth a.w a.h made a.links a.first.now) _ _ false
          c.if-grows.false c.run_links-2.ensures.first;
      second =
          left q (λ made. second_after a.depth a.w a.h made a.links a.second.now) _ _ false
          c.if-grows.false c.run_links-2.ensures.second;
    }
