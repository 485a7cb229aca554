use Rattle.std.proofs.lemmas.Result.{IfOk-weaker}
use Rattle.std.proofs.lemmas.List.{length-replicate}
use Rattle.std.proofs.Common.{length, ap, ◌∙◌, arith}
use Rattle.std.proofs.lemmas.Grind.{common_steps}
use Rattle.cip_rational.specs.Rational.{zeroℚ}
use Rattle.cip_relax.proofs.solvers.NodeSolver.room.Goals as goal

pub returns-then-entries-columns : goal.returns-then-entries-columns
returns-then-entries-columns c = grind (arith, common_steps)

pub returns : goal.returns
returns c =
    IfOk-weaker c.new.result _ _ (λ scratch h. ap length h ∙ length-replicate c.args.columns zeroℚ) c.new.ensures.row
