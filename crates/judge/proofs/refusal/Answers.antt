-- One place for each test: what an earlier test has settled is one lemma,
-- typed by the place at which it is known.
-- Nothing is written, so that nothing else falls: each return is the refusal that the laws of Admitted name.
use Rattle.answer.specs.declared.Told.{Told}
use Rattle.answer.specs.Answer.{told, told_refusal, is_done}
use Rattle.answer.specs.Refuse.{refuse}
use Rattle.picture.specs.Frame.{sized_frame, picture_bytes}
use Rattle.judge.specs.Tests.{picture_tests}
use lib.ListN.{length}
use Rattle.answer.proofs.Variants.{err_undone, handed_on, ok_done}
use Rattle.std.proofs.lemmas.Result.{err_from_is_err_and}
use Rattle.judge.proofs.Admitted.{bytes_are, holds, refused_size, refused_source, refused_pad}
use Rattle.judge.proofs.Admitted.{picture_passed, refused_between, refused_room, nothing_refused}
use mathlib.Core.Bool.{true}
use mathlib.Core.Path.{◌≡◌, sym, ◌∙◌}
use native.Mathlib.Nat.{le_of_eq}
use native.Mathlib.Omega.{arith}
use Rattle.judge.proofs.refusal.Goals as goal
use Rattle.judge.proofs.refusal.Goals.{In_ok-between, Else-not-is_passed, Else-not-sized, Else-s-n}

size_known : (c : Else-not-sized) → let a = c.args in sized_frame a.w a.h ≡ true
size_known c = sym c.sized.ensures ∙ c.if-not-sized.false

-- the source has its bytes
bytes_known : (c : Else-s-n) → let a = c.args in
    c.picture_bytes-n.result ≡ picture_bytes a.depth a.w a.h
bytes_known c = let a = c.args in
    bytes_are a.padding a.depth a.w a.h
    a.s.now _ c.picture_bytes-n.ensures (size_known (goal.at.Else-s-n c).Else-not-sized)

-- the padding passes, and the source has its bytes: what is left to say stands after the tests of the picture
passed_known : (c : Else-not-is_passed) → let a = c.args in
    length a.s.now ≡ c.picture_bytes-n.result → (after : Told)
    → after ≡ refuse (picture_tests a.padding a.depth a.w a.h a.s.now) after
passed_known c e after = let a = c.args in
    picture_passed a.padding a.depth a.w a.h a.s.now after
    (size_known (goal.at.Else-not-is_passed c).Else-not-sized) _
    c.picture_bytes-n.ensures e
    (sym c.is_passed.ensures ∙ c.if-not-is_passed.false)

-- what stands between was done
between_known : (c : In_ok-between)
    → is_done (told c.args.between) ≡ true
between_known c = ok_done _ _ c.in_ok-between.was

pub returns-then-not-sized : goal.returns-then-not-sized
unfolding told told_refusal
returns-then-not-sized c =
    let a = c.args in
    refused_size a.padding a.depth a.w a.h
    a.s.now _ (sym c.sized.ensures ∙ c.if-not-sized.true)

pub returns-then-s-n : goal.returns-then-s-n
unfolding told told_refusal
returns-then-s-n c =
    let a = c.args in
    refused_source a.padding a.depth a.w a.h a.s.now _
    (size_known (goal.at.returns-then-s-n c).Else-not-sized) _
    c.picture_bytes-n.ensures c.if-s-n.true

pub is_passed-requires : goal.is_passed-requires
is_passed-requires c =
    let a = c.args in
    holds a.padding a.depth a.w a.h a.s.now _ (size_known (goal.at.is_passed-requires c).Else-not-sized)
    (le_of_eq (sym (c.if-s-n.false ∙ bytes_known c)))

pub returns-then-not-is_passed : goal.returns-then-not-is_passed
unfolding told told_refusal
returns-then-not-is_passed c =
    let a = c.args in
    refused_pad a.padding a.depth a.w a.h a.s.now _
    (size_known (goal.at.returns-then-not-is_passed c).Else-not-sized) _
    c.picture_bytes-n.ensures c.if-s-n.false
    (sym c.is_passed.ensures ∙ c.if-not-is_passed.true)

pub returns-in_err-between : goal.returns-in_err-between
returns-in_err-between c =
    let a = c.args in
    let w = c.in_err-between.was in
    handed_on _ _ _ w (err_from_is_err_and c.from_residual.result c.from_residual.ensures.1)
    ∙ refused_between a.padding a.depth a.w a.h a.s.now (told a.between) _ (err_undone _ _ w)
    ∙ passed_known (goal.at.returns-in_err-between c).Else-not-is_passed c.if-s-n.false _

pub returns-then-room-before : goal.returns-then-room-before
unfolding told told_refusal
returns-then-room-before c =
    let a = c.args in
    refused_room a.padding a.depth a.w a.h a.s.now
    (told a.between) (between_known (goal.at.returns-then-room-before c).In_ok-between) a.before a.room
    (omega arith)
    ∙ passed_known (goal.at.returns-then-room-before c).Else-not-is_passed c.if-s-n.false _

pub returns-then-room-before-2 : goal.returns-then-room-before-2
unfolding told told_refusal
returns-then-room-before-2 c =
    let a = c.args in
    let n = bytes_known (goal.at.returns-then-room-before-2 c).Else-s-n in
    refused_room a.padding a.depth a.w a.h a.s.now
    (told a.between) (between_known (goal.at.returns-then-room-before-2 c).In_ok-between) a.before a.room
    (omega arith)
    ∙ passed_known (goal.at.returns-then-room-before-2 c).Else-not-is_passed c.if-s-n.false _

pub returns : goal.returns
unfolding told told_refusal
returns c =
    let a = c.args in
    let n = bytes_known (goal.at.returns c).Else-s-n in
    nothing_refused a.padding a.depth a.w a.h a.s.now
    (told a.between) (between_known (goal.at.returns c).In_ok-between) a.before a.room
    (omega arith)
    ∙ passed_known (goal.at.returns c).Else-not-is_passed c.if-s-n.false _
