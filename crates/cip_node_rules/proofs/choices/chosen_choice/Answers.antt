use Rattle.std.proofs.lemmas.Grind.{common_steps}
use Rattle.std.proofs.Common.{arith}
use Rattle.cip_node_rules.proofs.choices.chosen_choice.Goals as goal

pub returns-in-Some-unallowed_column : goal.returns-in-Some-unallowed_column
returns-in-Some-unallowed_column c = grind (arith, common_steps)

pub returns : goal.returns
returns c = grind (arith, common_steps)

pub unallowed_column-requires-clause-values : goal.unallowed_column-requires-clause-values
unallowed_column-requires-clause-values c = grind (arith, common_steps)

pub unallowed_column-requires-clause-columns : goal.unallowed_column-requires-clause-columns
unallowed_column-requires-clause-columns c = grind (arith, common_steps)

pub choice_column-requires : goal.choice_column-requires
choice_column-requires c = grind (arith, common_steps)
