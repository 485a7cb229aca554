use Rattle.std.proofs.lemmas.Grind.{common_steps}
use Rattle.std.proofs.Common.{List, Result, sym, ap, ◌∙◌, arith}
use Rattle.cip_rational.specs.Rational.{ℚ}
use Rattle.cip_problem.specs.Program.{Sides}
use Rattle.cip_problem.specs.Aggregate.{Inequality}
use Rattle.cip_cert.specs.Checks.{chain, rests_from}
use Rattle.cip_cert.specs.declared.faults.CutFault.{CutFault}
use Rattle.cip_cert.proofs.checks.rests_row.Goals as goal

pub returns-in-Err-clause-next : goal.returns-in-Err-clause-next
returns-in-Err-clause-next c = λ more. ap (λ (r : Result Inequality CutFault). chain r (λ (summed : Inequality). chain (rests_from c.args.named 0 summed.least summed.coefficients c.args.bounds.now) (more summed.coefficients))) c.in-Err.ensures.steps

pub returns-clause-next : goal.returns-clause-next
returns-clause-next c = λ more.
    ap (λ (r : Result Inequality CutFault). chain r (λ (summed : Inequality). chain (rests_from c.args.named 0 summed.least summed.coefficients c.args.bounds.now) (more summed.coefficients))) c.in-Ok.ensures.steps
    ∙ ap (λ (ds : List ℚ). chain (rests_from c.args.named 0 c.in-Ok.least ds c.args.bounds.now) (more ds)) (sym c.sort.ensures.entries)
    ∙ ap (λ (r : Result ℚ CutFault). chain r (more c.sort.new.self.entries))
    (sym (c.rests.ensures
    ∙ ap (λ (ds : List ℚ). rests_from c.args.named 0 c.in-Ok.least ds c.as_slice.result.now) c.entries.ensures.entries
    ∙ ap (λ (box : List Sides). rests_from c.args.named 0 c.in-Ok.least c.sort.new.self.entries box) c.as_slice.ensures))

pub rests-requires-clause-room : goal.rests-requires-clause-room
rests-requires-clause-room c = grind (arith, common_steps)

pub rests-requires-clause-tells : goal.rests-requires-clause-tells
rests-requires-clause-tells c = grind (arith, common_steps)

pub returns-clause-columns : goal.returns-clause-columns
returns-clause-columns c = grind (arith, common_steps)

pub returns-clause-steps : goal.returns-clause-steps
returns-clause-steps c = grind (arith, common_steps)

pub returns-in-Err-clause-steps : goal.returns-in-Err-clause-steps
returns-in-Err-clause-steps c = grind (arith, common_steps)

pub returns-in-Err-clause-columns : goal.returns-in-Err-clause-columns
returns-in-Err-clause-columns c = grind (arith, common_steps)

pub aggregate-requires-clause-room : goal.aggregate-requires-clause-room
aggregate-requires-clause-room c = grind (arith, common_steps)
