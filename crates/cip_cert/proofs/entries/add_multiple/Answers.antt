use Rattle.std.proofs.lemmas.Grind.{common_steps}
use Rattle.std.proofs.Common.{rules, arith}
use Rattle.cip_rational.specs.Rational.{zeroℚ, ◌<ℚ◌}
use Rattle.cip_cert.specs.Checks.{side_part, row_part}
use Rattle.cip_cert.proofs.EntryParts.{added_as, uses_low, uses_high}
use Rattle.cip_cert.proofs.entries.add_multiple.Goals as goal

pub returns-then-is_positive-clause-steps : goal.returns-then-is_positive-clause-steps
returns-then-is_positive-clause-steps c =
    let above : zeroℚ <ℚ c.args.factor = search rules in
    added_as c.args.entry (row_part c.args.entry c.args.factor c.args.named.now) (side_part c.args.entry c.args.factor c.terms.result.now c.low.result) (record { coefficients = c.args.row.now.entries; least = c.args.least }) c.add_part.new.row.entries c.add_part.result (uses_low c.args.entry c.args.factor c.args.named.now c.terms.result.now c.low.result above c.terms.ensures.terms c.low.ensures) c.add_part.ensures.steps

pub returns-then-is_negative-clause-steps : goal.returns-then-is_negative-clause-steps
returns-then-is_negative-clause-steps c =
    let below : c.args.factor <ℚ zeroℚ = search rules in
    added_as c.args.entry (row_part c.args.entry c.args.factor c.args.named.now) (side_part c.args.entry c.args.factor c.terms-then-is_negative.result.now c.high.result) (record { coefficients = c.args.row.now.entries; least = c.args.least }) c.add_part-then-is_negative.new.row.entries c.add_part-then-is_negative.result (uses_high c.args.entry c.args.factor c.args.named.now c.terms-then-is_negative.result.now c.high.result below c.terms-then-is_negative.ensures.terms c.high.ensures) c.add_part-then-is_negative.ensures.steps

pub add_part-requires : goal.add_part-requires
add_part-requires c = grind (arith, common_steps)

pub add_part-requires-then-is_negative : goal.add_part-requires-then-is_negative
add_part-requires-then-is_negative c = grind (arith, common_steps)

pub returns-else-is_negative-clause-steps : goal.returns-else-is_negative-clause-steps
returns-else-is_negative-clause-steps c = grind (arith, common_steps)

pub returns-then-is_negative-clause-columns : goal.returns-then-is_negative-clause-columns
returns-then-is_negative-clause-columns c = omega arith

pub returns-then-is_positive-clause-columns : goal.returns-then-is_positive-clause-columns
returns-then-is_positive-clause-columns c = omega arith

pub returns-else-is_negative-clause-columns : goal.returns-else-is_negative-clause-columns
returns-else-is_negative-clause-columns c = grind (arith, common_steps)
