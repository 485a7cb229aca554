use Rattle.std.proofs.lemmas.Result.{IfOk-from_err}
use Rattle.std.proofs.lemmas.Grind.{common_steps}
use Rattle.std.proofs.Common.{refl, arith}
use Rattle.cip_calls.proofs.verdicts.take_separated.Goals as goal

pub returns-in_default-clause-verdict : goal.returns-in_default-clause-verdict
returns-in_default-clause-verdict g c =
    record { same = record { node = refl; region = c.take_cut.ensures.region }; pool = c.in_ok-take_cut.ensures.rows c.in_default.not-Accepted }

pub returns-in_default-clause-judged : goal.returns-in_default-clause-judged
returns-in_default-clause-judged g c = c.in_ok-take_cut.ensures.judged

pub returns-in_default-clause-gone : goal.returns-in_default-clause-gone
returns-in_default-clause-gone g c = c.take_cut.ensures.gone

pub returns-in-Accepted-clause-judged : goal.returns-in-Accepted-clause-judged
returns-in-Accepted-clause-judged g c = c.in_ok-take_cut.ensures.judged

pub returns-in-Accepted-clause-gone : goal.returns-in-Accepted-clause-gone
returns-in-Accepted-clause-gone g c = c.take_cut.ensures.gone

pub take_cut-requires-clause-ready : goal.take_cut-requires-clause-ready
take_cut-requires-clause-ready g c = grind (arith, common_steps)

pub returns-in-Accepted-clause-verdict : goal.returns-in-Accepted-clause-verdict
returns-in-Accepted-clause-verdict g c = grind (arith, common_steps)

pub take_cut-requires-clause-sound : goal.take_cut-requires-clause-sound
take_cut-requires-clause-sound g c = grind (arith, common_steps)

pub take_cut-requires-clause-seat : goal.take_cut-requires-clause-seat
take_cut-requires-clause-seat g c = grind (arith, common_steps)

pub returns-in_err-take_cut-clause-judged : goal.returns-in_err-take_cut-clause-judged
returns-in_err-take_cut-clause-judged g c = IfOk-from_err c.from_residual.result _ c.from_residual.ensures.0

pub returns-in_err-take_cut-clause-verdict : goal.returns-in_err-take_cut-clause-verdict
returns-in_err-take_cut-clause-verdict g c = IfOk-from_err c.from_residual.result _ c.from_residual.ensures.0

pub returns-in_err-take_cut-clause-gone : goal.returns-in_err-take_cut-clause-gone
returns-in_err-take_cut-clause-gone g c = c.take_cut.ensures.gone
