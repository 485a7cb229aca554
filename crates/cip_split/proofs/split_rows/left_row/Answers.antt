use Rattle.std.proofs.lemmas.Int.{to_z-of_z}
use Rattle.std.proofs.Common.{length, rules, arith}
use Rattle.std.proofs.lemmas.Grind.{common_steps}
use mir.Syntax.{w128}
use mir.Val.{to_z, of_z}
use Rattle.cip_split.proofs.SplitSteps.{left_from}
use Rattle.cip_cert.specs.Lent.{lent_of}
use Rattle.cip_split.proofs.split_rows.left_row.Goals as goal

pub add_side-requires : goal.add_side-requires
add_side-requires c = grind (arith, common_steps)

pub returns-in-Err-clause-steps : goal.returns-in-Err-clause-steps
returns-in-Err-clause-steps c = grind (arith, common_steps)

pub returns-clause-columns : goal.returns-clause-columns
returns-clause-columns c = grind (arith, common_steps)

pub returns-in-Err-clause-columns : goal.returns-in-Err-clause-columns
returns-in-Err-clause-columns c = grind (arith, common_steps)

pub aggregate_row-requires-clause-fits : goal.aggregate_row-requires-clause-fits
aggregate_row-requires-clause-fits c = grind (arith, common_steps)

pub aggregate_row-requires-clause-room : goal.aggregate_row-requires-clause-room
aggregate_row-requires-clause-room c = grind (arith, common_steps)

pub returns-clause-steps : goal.returns-clause-steps
returns-clause-steps c =
    left_from (lent_of c.args.rows.now) c.args.bounds.now (length c.args.row.now.entries) c.args.cut.now
    (record { coefficients = c.aggregate_row.new.row.entries; least = c.in-Ok.least }) c.neg.result
    c.as_slice.result.now (to_z w128 (of_z w128 c.args.cut.now.k)) c.add_side.new.row.entries c.add_side.result
    c.in-Ok.ensures.steps c.neg.ensures c.as_slice.ensures.value (to_z-of_z w128 c.args.cut.now.k (search rules))
    c.add_side.ensures.steps
