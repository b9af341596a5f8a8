-- A run's answer: what is known where it is done, and the buffers by it.
use Prim.Native.Nat.{ℕ, min}
use mathlib.Core.Path.{◌≡◌, refl, sym, ap, ap₂, ◌∙◌}
use mathlib.Core.Bool.{Bool, true, false≢true}
use mathlib.Core.List.{List}
use native.Mathlib.Omega.{arith}
use borrow.Author.Tests.{not-false}
use lib.ListN.{length, take}
use Rattle.basics.specs.Bytes.{Bytes}
use Rattle.std.specs.Prelude.{Result, Ok, Err}
use Rattle.std.specs.Result.{is_ok}
use Rattle.answer.proofs.Variants.{refused_undone}
use Rattle.answer.specs.declared.Refusal.{Refusal}
use Rattle.answer.specs.Answer.{Answer, told, plain, is_done}
use Rattle.answer.specs.Refuse.{refuse}
use Rattle.answer.specs.Lent.{if_done, unless_refused}
use Rattle.answer.proofs.Order.{NoneOf, passed_all, none_refuses}
use Rattle.answer.proofs.Lent.{made_by_lem, all_done}
use Rattle.picture.specs.declared.Depth.{Depth}
use Rattle.picture.specs.Bytes.{Picture}
use Rattle.judge.specs.declared.Padding.TheVariants.{Free}
use Rattle.judge.specs.Tests.{picture_tests, room_tests, Admitted}
use Rattle.judge.proofs.Admitted.{admitted, holds}
use Rattle.reach.specs.declared.Link.{Link}
use Rattle.chain.proofs.Reading.{read_passed}
use Rattle.chain.specs.Reading.{link_tests, chain_tests, check_tests, counted, checked}
use Rattle.chain.specs.Steps.Records.{held_in, ReadAs}
use Rattle.chain.proofs.Checking.{check_numbered, few_links}
use Rattle.chained.specs.Run.{run_answer, first_after, second_after}
use Rattle.chained.specs.Steps.Buffers.{results_by, made_by, Going, Linked}
use Rattle.chained.proofs.Results.{fitting_here, made_alike}
use Rattle.chained.proofs.Buffers.{first_alike, second_alike}

-- what is known of what a run was handed where it is done
pub record Passed (depth : Depth) (w h : ℕ) (source element : List ℕ)
    (links : ℕ) (chain : List ℕ) (room : ℕ) : Type 0 where
  pub picture : Admitted Free depth w h source 0 room
  pub accepted : is_done (checked element links chain) ≡ true
  pub made : NoneOf (check_tests element links chain)

pub passed : (depth : Depth) (w h : ℕ) (source element : List ℕ) (links : ℕ) (chain : List ℕ) (room : ℕ)
    → is_done (run_answer depth w h source element links chain room) ≡ true
    → Passed depth w h source element links chain room
unfolding run_answer checked
passed depth w h source element links chain room done =
    let p = admitted Free depth w h source (checked element links chain) 0 room done in
    record {
      picture = p.0;
      accepted = p.1;
      made = (passed_all (check_tests element links chain) _ (check_numbered element links chain) p.1).0;
    }

module _ (depth : Depth) (grows : Bool) (w h : ℕ)
    (source element : List ℕ) (links : ℕ) (chain first second : List ℕ)
    (check no : Answer) (room : ℕ) (ec : told check ≡ checked element links chain)
    (er : room ≡ min (length first) (length second))
    (en : told no ≡ refuse (picture_tests Free depth w h source)
    (if_done (told check) (refuse (room_tests depth w h 0 room) (plain 0)))) where
  pub answer_is : told no
      ≡ run_answer depth w h source element links chain (min (length first) (length second))
  unfolding run_answer
  answer_is =
      en
      ∙ ap₂ (λ t r. refuse (picture_tests Free depth w h source)
      (if_done t (refuse (room_tests depth w h 0 r) (plain 0))))
      ec er

  module _ (done : is_done (told no) ≡ true) where
    known : Passed depth w h source element links chain (min (length first) (length second))
    known =
        passed depth w h source element links chain (min (length first) (length second))
        (ap is_done (sym answer_is) ∙ done)

    pub linked : Linked depth w h (length source) links chain (length first) (length second)
    unfolding check_tests chain_tests
    linked =
        let p = known.picture in
        record {
          few = few_links links (not-false (counted links) known.made.1.0);
          made = none_refuses (link_tests links chain) (plain 0) known.made.1.1;
          source_holds = holds Free depth w h source (length source) p.sized (omega (arith, p.whole));
          first_holds = holds Free depth w h source (length first) p.sized (omega (arith, p.roomy));
          second_holds = holds Free depth w h source (length second) p.sized (omega (arith, p.roomy));
        }

    -- a buffer that is left by the results of the way that was found, which is the one asked for
    pub left_by : (after : (ℕ → Picture) → List ℕ) (was u : List ℕ) (found : Bool) → grows ≡ found
        → u ≡ after (results_by found depth w h source chain)
        → u ≡ unless_refused (told no) was (after (results_by grows depth w h source chain))
    left_by after was u found q e =
        made_by_lem was _ (told no) (told no) refl u done
        (e ∙ ap (λ g. after (results_by g depth w h source chain)) (sym q))

-- the links that were read of a chain, of which none is refused
module _ (depth : Depth) (grows : Bool) (w h : ℕ) (source : List ℕ) (links : ℕ) (chain first second : List ℕ)
    (r : Result (List Link) Refusal)
    (ask : Linked depth w h (length source) links chain (length first) (length second))
    (er : ReadAs (refuse (link_tests links chain) (plain 0)) links chain r) (bytes : Bytes chain) where
  pub is_read : is_ok r ≡ true
  unfolding told
  is_read = by r er
    where
      by : (r : Result (List Link) Refusal) → ReadAs (refuse (link_tests links chain) (plain 0)) links chain r
          → is_ok r ≡ true
      by (Ok all) e = refl
      by (Err x) e =
          absurd (false≢true (sym (refused_undone x) ∙ ap is_done (e.answered ∙ ask.made) ∙ all_done))

  module _ (all : List Link) (is : r ≡ Ok all) where
    links_are : take links all ≡ held_in links chain
    links_are = (read_passed _ _ r all is er).1

    pub going : Going depth w h (length source) all links (length first) (length second)
    going =
        record {
          few = ask.few;
          fitting = fitting_here depth w h source chain all links bytes ask.made links_are;
          source_holds = ask.source_holds;
          first_holds = ask.first_holds;
          second_holds = ask.second_holds;
        }

    -- the buffers that the loop has left
    pub first_left : (u : List ℕ)
        → u ≡ first_after depth w h (made_by grows depth w h source all) links first
        → u ≡ first_after depth w h (results_by grows depth w h source chain) links first
    first_left u e =
        e ∙ first_alike depth w h _ _ links first
        (made_alike depth w h source chain all links bytes ask.made links_are grows)

    pub second_left : (u : List ℕ)
        → u ≡ second_after depth w h (made_by grows depth w h source all) links second
        → u ≡ second_after depth w h (results_by grows depth w h source chain) links second
    second_left u e =
        e ∙ second_alike depth w h _ _ links second
        (made_alike depth w h source chain all links bytes ask.made links_are grows)
