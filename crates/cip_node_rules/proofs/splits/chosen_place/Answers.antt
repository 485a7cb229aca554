use Rattle.std.proofs.lemmas.Grind.{common_steps}
use Rattle.std.proofs.Common.{arith}
use Rattle.cip_node_rules.proofs.splits.chosen_place.Goals as goal

pub returns : goal.returns
returns c = grind (arith, common_steps)

pub chosen_choice-requires-clause-values : goal.chosen_choice-requires-clause-values
chosen_choice-requires-clause-values c = grind (arith, common_steps)

pub returns-in-Some : goal.returns-in-Some
returns-in-Some c = grind (arith, common_steps)

pub chosen_choice-requires-clause-columns : goal.chosen_choice-requires-clause-columns
chosen_choice-requires-clause-columns c = grind (arith, common_steps)

pub whole_place-requires-clause-long : goal.whole_place-requires-clause-long
whole_place-requires-clause-long c = grind (arith, common_steps)

pub whole_place-requires-clause-values : goal.whole_place-requires-clause-values
whole_place-requires-clause-values c = grind (arith, common_steps)

pub whole_place-requires-clause-columns : goal.whole_place-requires-clause-columns
whole_place-requires-clause-columns c = grind (arith, common_steps)
