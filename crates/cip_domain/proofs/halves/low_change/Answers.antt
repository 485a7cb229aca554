use Rattle.std.proofs.lemmas.Grind.{common_steps}
use Rattle.std.proofs.Common.{arith, ◌∙◌, ap}
use Rattle.std.specs.Int.{w128}
use Rattle.std.proofs.lemmas.Int.{to_z-of_z}
use Rattle.cip_rational.specs.Rational.{integer}
use Rattle.cip_lin.specs.declared.sides.Side.TheVariants.{High}
use Rattle.cip_domain.specs.Changes.{side_change}
use Rattle.cip_domain.proofs.halves.low_change.Goals as goal

pub returns : goal.returns
returns c =
    c.of_side.ensures
    ∙ ap (side_change c.args.col High) (c.whole.ensures ∙ ap integer (to_z-of_z w128 c.args.at c.ranges.at))

pub whole-requires : goal.whole-requires
whole-requires c = grind (arith, common_steps)
