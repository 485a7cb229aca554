use Rattle.std.proofs.lemmas.Int.{to_z-of_z}
use Rattle.std.proofs.lemmas.Grind.{common_steps}
use Rattle.std.proofs.Common.{arith}
use mir.Syntax.{w128}
use Rattle.cip_split.proofs.SplitSteps.{side_from}
use Rattle.cip_split.proofs.form_sums.add_side.Goals as goal

pub returns-in-Err-clause-steps : goal.returns-in-Err-clause-steps
returns-in-Err-clause-steps c = grind (arith, common_steps)

pub returns-in-Err-clause-columns : goal.returns-in-Err-clause-columns
returns-in-Err-clause-columns c = grind (arith, common_steps)

pub returns-clause-columns : goal.returns-clause-columns
returns-clause-columns c = grind (arith, common_steps)

pub returns-clause-steps : goal.returns-clause-steps
returns-clause-steps c =
    side_from c.args.factor c.args.form.now c.args.side _
    (record { coefficients = c.args.row.now.entries; least = c.args.least }) c.add_terms.new.row.entries
    c.whole_product_added.result
    (to_z-of_z w128 c.args.side c.ranges.side) c.in_default.ensures.steps c.whole_product_added.ensures
