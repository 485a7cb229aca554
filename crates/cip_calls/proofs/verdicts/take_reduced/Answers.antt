use Rattle.std.proofs.lemmas.Result.{IfOk-from_err}
use Rattle.std.proofs.lemmas.Grind.{common_steps}
use Rattle.std.proofs.Common.{arith}
use Rattle.cip_calls.proofs.verdicts.take_reduced.Goals as goal

pub returns-in-Emptied-clause-verdict : goal.returns-in-Emptied-clause-verdict
returns-in-Emptied-clause-verdict g c = c.in_ok-take_side.ensures.emptied c.in-Emptied.is

pub returns-in_default-clause-verdict : goal.returns-in_default-clause-verdict
returns-in_default-clause-verdict g c = record { same = c.in_ok-take_side.ensures.node c.in_default.not-Accepted; pool = c.take_side.ensures.pool }

pub returns-in_default-clause-judged : goal.returns-in_default-clause-judged
returns-in_default-clause-judged g c = c.in_ok-take_side.ensures.judged

pub returns-in-Emptied-clause-judged : goal.returns-in-Emptied-clause-judged
returns-in-Emptied-clause-judged g c = c.in_ok-take_side.ensures.judged

pub returns-in-Accepted-clause-judged : goal.returns-in-Accepted-clause-judged
returns-in-Accepted-clause-judged g c = c.in_ok-take_side.ensures.judged

pub returns-in_default-clause-gone : goal.returns-in_default-clause-gone
returns-in_default-clause-gone g c = c.take_side.ensures.gone

pub returns-in-Emptied-clause-gone : goal.returns-in-Emptied-clause-gone
returns-in-Emptied-clause-gone g c = c.take_side.ensures.gone

pub returns-in-Accepted-clause-gone : goal.returns-in-Accepted-clause-gone
returns-in-Accepted-clause-gone g c = c.take_side.ensures.gone

pub take_side-requires-clause-ready : goal.take_side-requires-clause-ready
take_side-requires-clause-ready g c = grind (arith, common_steps)

pub returns-in-Accepted-clause-verdict : goal.returns-in-Accepted-clause-verdict
returns-in-Accepted-clause-verdict g c = grind (arith, common_steps)

pub take_side-requires-clause-sound : goal.take_side-requires-clause-sound
take_side-requires-clause-sound g c = grind (arith, common_steps)

pub take_side-requires-clause-seat : goal.take_side-requires-clause-seat
take_side-requires-clause-seat g c = grind (arith, common_steps)

pub returns-in_err-take_side-clause-judged : goal.returns-in_err-take_side-clause-judged
returns-in_err-take_side-clause-judged g c = IfOk-from_err c.from_residual.result _ c.from_residual.ensures.0

pub returns-in_err-take_side-clause-verdict : goal.returns-in_err-take_side-clause-verdict
returns-in_err-take_side-clause-verdict g c = IfOk-from_err c.from_residual.result _ c.from_residual.ensures.0

pub returns-in_err-take_side-clause-gone : goal.returns-in_err-take_side-clause-gone
returns-in_err-take_side-clause-gone g c = c.take_side.ensures.gone
