use Rattle.std.proofs.lemmas.Result.{IfOk-from_err}
use Rattle.std.proofs.lemmas.Grind.{common_steps}
use Rattle.std.proofs.Common.{arith}
use Rattle.cip_mps.specs.MpsLines.{saying_of}
use Rattle.cip_mps.specs.DraftStates.{kept}
use Rattle.cip_mps.proofs.LineLaws.{kind_to}
use Rattle.cip_mps.proofs.line_reader.LineReader.take.Goals as goal

pub returns-else-is_none-clause-kinds : goal.returns-else-is_none-clause-kinds
returns-else-is_none-clause-kinds c = kind_to (kept c.args.self.now.draft) (saying_of c.args.line.now) c.in_ok-kind.kind c.in_ok-kind.ensures.is_fault

pub returns-in_ok-move_behind-clause-kinds : goal.returns-in_ok-move_behind-clause-kinds
returns-in_ok-move_behind-clause-kinds c = kind_to (kept c.args.self.now.draft) (saying_of c.args.line.now) c.in_ok-kind.kind c.in_ok-kind.ensures.is_fault

pub returns-else-is_none-clause-taken : goal.returns-else-is_none-clause-taken
returns-else-is_none-clause-taken c = grind (arith, common_steps)

pub returns-in_ok-move_behind-clause-taken : goal.returns-in_ok-move_behind-clause-taken
returns-in_ok-move_behind-clause-taken c = grind (arith, common_steps)

pub returns-in_err-kind-clause-taken : goal.returns-in_err-kind-clause-taken
returns-in_err-kind-clause-taken c = IfOk-from_err c.from_residual.result _ c.from_residual.ensures.0

pub returns-in_err-move_behind-clause-taken : goal.returns-in_err-move_behind-clause-taken
returns-in_err-move_behind-clause-taken c = IfOk-from_err c.from_residual-in_err-move_behind.result _ c.from_residual-in_err-move_behind.ensures.0
