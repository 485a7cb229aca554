use Rattle.std.proofs.lemmas.Result.{IfOk-from_err}
use Rattle.std.proofs.lemmas.Grind.{common_steps}
use Rattle.cip_mps.proofs.RowLaws.{always_ok}
use Rattle.std.proofs.Common.{refl, arith}
use Rattle.cip_mps.proofs.mps_text.MpsText.read_line.Goals as goal

pub returns-in-Some-clause-kept : goal.returns-in-Some-clause-kept
returns-in-Some-clause-kept c = always_ok c.take_line.result (λ kind. refl)

pub returns-in-None-clause-read : goal.returns-in-None-clause-read
returns-in-None-clause-read c = λ none. absurd (c.in-None.ensures.line none)

pub returns-in-Some-clause-read : goal.returns-in-Some-clause-read
returns-in-Some-clause-read c = grind (arith, common_steps)

pub returns-in-Some-clause-size : goal.returns-in-Some-clause-size
returns-in-Some-clause-size c = grind (arith, common_steps)

pub returns-then-has_bytes-clause-kept : goal.returns-then-has_bytes-clause-kept
returns-then-has_bytes-clause-kept c = grind (arith, common_steps)

pub returns-then-has_bytes-clause-read : goal.returns-then-has_bytes-clause-read
returns-then-has_bytes-clause-read c = grind (arith, common_steps)

pub returns-then-has_bytes-clause-size : goal.returns-then-has_bytes-clause-size
returns-then-has_bytes-clause-size c = grind (arith, common_steps)

pub invariant_of-self-in-Some : goal.invariant_of-self-in-Some
invariant_of-self-in-Some c = grind (arith, common_steps)

pub returns-in-None-clause-kept : goal.returns-in-None-clause-kept
returns-in-None-clause-kept c = grind (arith, common_steps)

pub returns-then-has_bytes-clause-kinds : goal.returns-then-has_bytes-clause-kinds
returns-then-has_bytes-clause-kinds c = grind (arith, common_steps)

pub returns-in-Some-clause-kinds : goal.returns-in-Some-clause-kinds
returns-in-Some-clause-kinds c = grind (arith, common_steps)

pub invariant_of-self : goal.invariant_of-self
invariant_of-self c = grind (arith, common_steps)

pub returns-in-None-clause-kinds : goal.returns-in-None-clause-kinds
returns-in-None-clause-kinds c = grind (arith, common_steps)

pub returns-in-None-clause-size : goal.returns-in-None-clause-size
returns-in-None-clause-size c = grind (arith, common_steps)

pub returns-in_err-join-clause-kept : goal.returns-in_err-join-clause-kept
returns-in_err-join-clause-kept c = IfOk-from_err c.from_residual.result _ c.from_residual.ensures.0

pub returns-in_err-join-clause-kinds : goal.returns-in_err-join-clause-kinds
returns-in_err-join-clause-kinds c = IfOk-from_err c.from_residual.result _ c.from_residual.ensures.0

pub returns-in_err-join-clause-read : goal.returns-in_err-join-clause-read
returns-in_err-join-clause-read c = IfOk-from_err c.from_residual.result _ c.from_residual.ensures.0

pub returns-in_err-join-clause-size : goal.returns-in_err-join-clause-size
returns-in_err-join-clause-size c = IfOk-from_err c.from_residual.result _ c.from_residual.ensures.0
