use Rattle.std.proofs.lemmas.Grind.{common_steps}
use Rattle.std.proofs.Common.{◌∙◌, arith}
use Rattle.std.proofs.lemmas.Bool.{both_ways}
use Rattle.cip_rational.proofs.Comparisons.{is_le-compare}
use Rattle.cip_node_rules.proofs.Places.{fractional_is}
use Rattle.cip_node_rules.proofs.columns.is_fractional.Goals as goal

pub returns : goal.returns
returns c =
    c.le.ensures ∙ is_le-compare _ _
    ∙ fractional_is c.args.value c.abs.result c.in-Ok.limit (λ w. both_ways c.is_whole.result c.if-is_whole.false (c.is_whole.ensures.1 w)) c.abs.ensures c.in-Ok.ensures

pub returns-then-is_whole : goal.returns-then-is_whole
returns-then-is_whole c = grind (arith, common_steps)

pub unreachable-requires : goal.unreachable-requires
unreachable-requires c = grind (arith, common_steps)

pub unreachable-unreachable : goal.unreachable-unreachable
unreachable-unreachable c = grind (arith, common_steps)
