use Rattle.std.proofs.lemmas.Grind.{common_steps}
use Rattle.cip_problem.specs.WellFormed.{columns}
use Rattle.cip_solve.specs.CoreStates.{reduced_of}
use Rattle.cip_solve.specs.ProposalsJudged.{HaveRoom}
use Rattle.cip_solve.specs.Turns.{IsSound}
use Rattle.std.proofs.Common.{subst, sym, ◌∙◌, arith}
use Rattle.cip_solve.specs.Wished.{Ran}
use Rattle.cip_solve.specs.SplitsServed.{splits_by}
use Rattle.cip_solve.proofs.Working.{done_worked}
use Rattle.cip_solve.proofs.Serving.{used_served, served_then}
use Rattle.cip_solve.proofs.asking.AskingWorks.work_on.Goals as goal

pub returns-clause-ended : goal.returns-clause-ended
returns-clause-ended g c = done_worked c.args.work.now.core c.process.new.work.core c.args.node c.in_ok-done.done c.in_ok-done.ensures.ended

pub returns-clause-served : goal.returns-clause-served
returns-clause-served g c =
    let done = c.in_ok-done.done in
    let kept = c.process.ensures.kept in
    let a = g.R.Seated.state c.args.self.now.plugins.roster in
    let b = g.R.Seated.state c.process.new.plugins.roster in
    let e = g.R.Seated.state c.tell_end-told.new.plugins.roster in
    served_then (splits_by done.end) a b e kept.sound.settled
    (used_served c.args.node.number done.proposed done.end a b _ _ c.in_ok-done.ensures.used kept.run)
    (subst (λ r. Ran (g.R.Seated.state r) e) c.take_judged-judged.ensures.frame.0 c.tell_end-told.ensures.run)

pub tell_end-told-requires : goal.tell_end-told-requires
tell_end-told-requires g c = record { sound = subst (λ r. IsSound (g.R.Seated.state r) (g.R.Seated.room r)) (sym c.take_judged-judged.ensures.frame.0) c.process.ensures.kept.sound }

pub go_back-requires-clause-given : goal.go_back-requires-clause-given
go_back-requires-clause-given g c = λ given at. c.bound-given.ensures ∙ c.requires.can.given given at

pub returns-clause-plain : goal.returns-clause-plain
returns-clause-plain g c = grind (arith, common_steps)

pub returns-clause-ready : goal.returns-clause-ready
returns-clause-ready g c = (
  subst (λ s. HaveRoom s (columns (reduced_of c.process.new.work.core))) (sym (c.tell_end-told.ensures.frame.0 ∙ c.take_judged-judged.ensures.frame.1)) c.process.ensures.kept.space,
  c.tell_end-told.ensures.sound,
)

pub returns-in_err-done-clause-ready : goal.returns-in_err-done-clause-ready
returns-in_err-done-clause-ready g c = (c.process.ensures.kept.space, c.process.ensures.kept.sound)

pub returns-in_err-done-clause-served : goal.returns-in_err-done-clause-served
returns-in_err-done-clause-served g c = grind (arith, common_steps)

pub returns-in_err-done-clause-settled : goal.returns-in_err-done-clause-settled
returns-in_err-done-clause-settled g c = omega arith

pub returns-then-self-clause-ended : goal.returns-then-self-clause-ended
returns-then-self-clause-ended g c = grind (arith, common_steps)

pub returns-then-self-clause-plain : goal.returns-then-self-clause-plain
returns-then-self-clause-plain g c = grind (arith, common_steps)

pub returns-then-self-clause-ready : goal.returns-then-self-clause-ready
returns-then-self-clause-ready g c = grind (arith, common_steps)

pub returns-then-self-clause-served : goal.returns-then-self-clause-served
returns-then-self-clause-served g c = grind (arith, common_steps)

pub process-requires-clause-can : goal.process-requires-clause-can
process-requires-clause-can g c = grind (arith, common_steps)

pub returns-in_err-done-clause-plain : goal.returns-in_err-done-clause-plain
returns-in_err-done-clause-plain g c = grind (arith, common_steps)

pub returns-then-self-clause-settled : goal.returns-then-self-clause-settled
returns-then-self-clause-settled g c = grind (arith, common_steps)

pub go_back-requires-clause-up : goal.go_back-requires-clause-up
go_back-requires-clause-up g c = grind (arith, common_steps)

pub process-requires-clause-room : goal.process-requires-clause-room
process-requires-clause-room g c = grind (arith, common_steps)
