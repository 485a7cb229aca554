use Rattle.std.proofs.lemmas.Grind.{common_steps}
use Rattle.std.proofs.Common.{subst, arith}
use Rattle.cip_problem.specs.WellFormed.{IsWellFormed}
use Rattle.cip_model.specs.declared.verdicts.Verdict.TheVariants.{Feasible, BreaksBound, BreaksWhole}
use Rattle.cip_model.proofs.Meaning.Point.{verdict_is_right}
use Rattle.cip_model.proofs.programs.Program.check.Goals as goal

pub returns-in-Some-clause-verdict : goal.returns-in-Some-clause-verdict
returns-in-Some-clause-verdict c = grind (arith, common_steps)

pub returns-in-Some-clause-meaning : goal.returns-in-Some-clause-meaning
returns-in-Some-clause-meaning c =
    verdict_is_right c.args.self.now c.args.point.now (BreaksBound c.in-Some.col) (returns-in-Some-clause-verdict c)
    (subst IsWellFormed c.self.view_is c.self.invariant) c.requires

pub returns-in-Some-not_whole-clause-verdict : goal.returns-in-Some-not_whole-clause-verdict
returns-in-Some-not_whole-clause-verdict c = grind (arith, common_steps)

pub returns-in-Some-not_whole-clause-meaning : goal.returns-in-Some-not_whole-clause-meaning
returns-in-Some-not_whole-clause-meaning c =
    verdict_is_right c.args.self.now c.args.point.now (BreaksWhole c.in-Some-not_whole.col)
    (returns-in-Some-not_whole-clause-verdict c) (subst IsWellFormed c.self.view_is c.self.invariant) c.requires

pub returns-in-Some-broken_row-clause-verdict : goal.returns-in-Some-broken_row-clause-verdict
returns-in-Some-broken_row-clause-verdict c = grind (arith, common_steps)

pub returns-in-Some-broken_row-clause-meaning : goal.returns-in-Some-broken_row-clause-meaning
returns-in-Some-broken_row-clause-meaning c =
    verdict_is_right c.args.self.now c.args.point.now c.in-Some-broken_row.verdict
    (returns-in-Some-broken_row-clause-verdict c) (subst IsWellFormed c.self.view_is c.self.invariant) c.requires

pub returns-in-Ok-clause-verdict : goal.returns-in-Ok-clause-verdict
returns-in-Ok-clause-verdict c = grind (arith, common_steps)

pub returns-in-Ok-clause-meaning : goal.returns-in-Ok-clause-meaning
returns-in-Ok-clause-meaning c =
    verdict_is_right c.args.self.now c.args.point.now (Feasible c.in-Ok.cost) (returns-in-Ok-clause-verdict c)
    (subst IsWellFormed c.self.view_is c.self.invariant) c.requires

pub broken_row-requires-clause-stand : goal.broken_row-requires-clause-stand
broken_row-requires-clause-stand c = grind (arith, common_steps)

pub returns-in-Err-clause-verdict : goal.returns-in-Err-clause-verdict
returns-in-Err-clause-verdict c = grind (arith, common_steps)

pub cost-requires : goal.cost-requires
cost-requires c = grind (arith, common_steps)

pub not_whole-requires-clause-same : goal.not_whole-requires-clause-same
not_whole-requires-clause-same c = grind (arith, common_steps)

pub not_whole-requires-clause-few : goal.not_whole-requires-clause-few
not_whole-requires-clause-few c = grind (arith, common_steps)

pub returns-in-Err-clause-meaning : goal.returns-in-Err-clause-meaning
returns-in-Err-clause-meaning c = grind (arith, common_steps)

pub outside-requires-clause-same : goal.outside-requires-clause-same
outside-requires-clause-same c = grind (arith, common_steps)

pub outside-requires-clause-few : goal.outside-requires-clause-few
outside-requires-clause-few c = grind (arith, common_steps)

pub broken_row-requires-clause-few : goal.broken_row-requires-clause-few
broken_row-requires-clause-few c = grind (arith, common_steps)
