use Rattle.std.specs.Int.{w64}
use Rattle.std.proofs.lemmas.Int.{to_z-of_z}
use Rattle.cip_dict.proofs.LineEntries.{sum_as}
use Rattle.std.proofs.lemmas.Grind.{common_steps}
use Rattle.std.proofs.Common.{sym, ap, ◌∙◌, arith}
use Rattle.cip_rational.specs.Rational.{ratio, is_zero}
use Rattle.cip_problem.specs.Activity.{value_at}
use Rattle.cip_bland.specs.Operations.{value_place}
use Rattle.cip_dict.proofs.Formed.{sum_zero_right}
use Rattle.cip_dict.proofs.whole_entries.whole_step.Goals as goal

pub returns-then-vanishes : goal.returns-then-vanishes
returns-then-vanishes c = sum_zero_right (value_place c.args.line) c.args.total (ratio c.args.number c.args.below) (value_at c.args.values.now c.args.k) (ap is_zero (sym c.number_at-value.ensures) ∙ sym c.if-vanishes.ensures)

pub returns : goal.returns
returns c =
    sum_as c.sum.result (value_place c.args.line) c.value_of.result c.args.total (ratio c.args.number c.args.below) c.fraction.result (value_at c.args.values.now c.args.k) c.number_at-value.result c.value_of.ensures (c.fraction.ensures ∙ ap (λ n. ratio n c.args.below) (to_z-of_z w64 c.args.number c.ranges.number)) c.number_at-value.ensures c.sum.ensures

pub fraction-requires-clause-positive : goal.fraction-requires-clause-positive
fraction-requires-clause-positive c = grind (arith, common_steps)

pub fraction-requires-clause-small : goal.fraction-requires-clause-small
fraction-requires-clause-small c = grind (arith, common_steps)

pub number_at-value-requires : goal.number_at-value-requires
number_at-value-requires c = grind (arith, common_steps)
