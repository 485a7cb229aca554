use Rattle.std.proofs.lemmas.Grind.{common_steps}
use Rattle.std.proofs.Common.{arith, ◌∙◌, int_le, ap₂, sym}
use Rattle.std.specs.Int.{w128}
use Rattle.std.proofs.lemmas.Int.{to_z-of_z}
use Rattle.cip_node_rules.specs.OpenColumns.{whole_between}
use Rattle.cip_node_rules.proofs.columns.is_whole_between.Goals as goal

pub returns-in_default : goal.returns-in_default
returns-in_default c = grind (arith, common_steps)

pub returns-in_default-2 : goal.returns-in_default-2
returns-in_default-2 c = grind (arith, common_steps)

pub returns-in-Some-Some : goal.returns-in-Some-Some
returns-in-Some-Some c =
    ap₂ int_le (to_z-of_z w128 c.ceil.result (record { sfits = c.ceil.type_inv }) ∙ c.ceil.ensures)
    (to_z-of_z w128 c.floor.result (record { sfits = c.floor.type_inv }) ∙ c.floor.ensures)
    ∙ ap₂ whole_between (sym c.in-Some-Some.is-0) (sym c.in-Some-Some.is-1)
