use Rattle.std.proofs.lemmas.Grind.{common_steps}
use Rattle.std.proofs.Common.{◌<◌, ◌^◌, refl, sym, subst, ap, arith}
use Rattle.std.specs.Prelude.{MatchResult}
use Rattle.cip_calls.specs.CoreStates.{CoreState, IsGivenBound}
use Rattle.cip_calls.specs.Steps.{IsBack}
use Rattle.std.proofs.lemmas.Result.{IfOk-weaker}
use Rattle.cip_solve.specs.NodesDone.{IsDone}
use Rattle.cip_solve.proofs.Closing.{given_moved, done_or_back, back_moved, later_done, aged_further}
use Rattle.cip_solve.proofs.Coming.{ran_none}
use Rattle.cip_solve.proofs.Using.{used_done}
use Rattle.cip_solve.proofs.processing.process.Goals as goal

pub go_back-requires-clause-up : goal.go_back-requires-clause-up
go_back-requires-clause-up g c = c.begin.ensures.moved.up

pub go_back-requires-clause-given : goal.go_back-requires-clause-given
go_back-requires-clause-given g c =
    given_moved c.args.work.now.core c.begin.new.work.core c.args.node c.begin.new.node c.bound-given.result c.begin.ensures.moved
    (subst (IsGivenBound c.args.work.now.core c.args.node.number) (sym c.bound-given.ensures) c.requires.can.given)

pub returns-in-Err-clause-ended : goal.returns-in-Err-clause-ended
returns-in-Err-clause-ended g c =
    let core = c.args.work.now.core in
    let new = c.go_back.new.self in
    subst (IsBack core new c.args.node.number) c.bound-given.ensures
    (back_moved core c.begin.new.work.core new c.args.node c.begin.new.node c.bound-given.result c.begin.ensures.moved c.go_back.ensures.back)

pub returns-in-Err-clause-kept : goal.returns-in-Err-clause-kept
returns-in-Err-clause-kept g c = aged_further _ _ _ _ _ _ _ _ _ _ c.begin.ensures.kept c.go_back.ensures.back.later (ap (λ (k : CoreState). k.pool) c.go_back.ensures.frame) refl c.begin.ensures.kept.sound (ran_none _)

pub finish-requires-clause-up : goal.finish-requires-clause-up
finish-requires-clause-up g c = (
  c.begin.ensures.moved.up,
  subst (λ n. n < 2 ^ 63) (sym c.begin.ensures.moved.ids) c.requires.can.few,
  given_moved c.args.work.now.core c.begin.new.work.core c.args.node c.begin.new.node c.bound-given.result c.begin.ensures.moved
      (subst (IsGivenBound c.args.work.now.core c.args.node.number) (sym c.bound-given.ensures) c.requires.can.given),
)

pub finish-requires-clause-reached : goal.finish-requires-clause-reached
finish-requires-clause-reached g c = c.in-Ok.ensures.reached

pub finish-requires-clause-sound : goal.finish-requires-clause-sound
finish-requires-clause-sound g c = c.begin.ensures.kept.sound

pub returns-in-Ok-clause-ended : goal.returns-in-Ok-clause-ended
returns-in-Ok-clause-ended g c =
    let core = c.args.work.now.core in
    let new = c.finish.new.work.core in
    subst (λ b. MatchResult c.finish.result (IsDone core new c.args.node) (λ _. IsBack core new c.args.node.number b)) c.bound-given.ensures
    (done_or_back core c.begin.new.work.core new c.args.node c.begin.new.node c.bound-given.result c.finish.result c.begin.ensures.moved c.finish.ensures.ended)

pub returns-in-Ok-clause-used : goal.returns-in-Ok-clause-used
returns-in-Ok-clause-used g c =
    IfOk-weaker c.finish.result _ _
    (λ done used. used_done c.args.node.number c.in-Ok.reached done _ _ _ _ _ _ c.begin.ensures.kept.sound.settled c.in-Ok.ensures.used used)
    c.finish.ensures.used

pub returns-in-Ok-clause-kept : goal.returns-in-Ok-clause-kept
returns-in-Ok-clause-kept g c =
    let later = later_done c.begin.new.work.core c.finish.new.work.core c.begin.new.node c.bound-given.result c.finish.result c.finish.ensures.ended in
    aged_further _ _ _ _ _ _ _ _ _ _ c.begin.ensures.kept later c.finish.ensures.kept.0 c.finish.ensures.kept.3 c.finish.ensures.kept.1 c.finish.ensures.kept.2

pub begin-requires-clause-up : goal.begin-requires-clause-up
begin-requires-clause-up g c = grind (arith, common_steps)

pub begin-requires-clause-room : goal.begin-requires-clause-room
begin-requires-clause-room g c = grind (arith, common_steps)

pub returns-in-Err-clause-used : goal.returns-in-Err-clause-used
returns-in-Err-clause-used g c = grind (arith, common_steps)
