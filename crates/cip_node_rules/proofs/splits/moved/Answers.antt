use Rattle.std.proofs.Common.{◌∙◌, ap}
use Rattle.std.specs.Int.{w128}
use Rattle.std.proofs.lemmas.Int.{to_z-of_z}
use Rattle.cip_problem.specs.Program.{Sides}
use Rattle.cip_node_rules.specs.SplitRules.{moved, raised_to, lowered_to}
use Rattle.cip_node_rules.proofs.splits.moved.Goals as goal

pub returns : goal.returns
returns c =
    to_z-of_z w128 c.lowered.result (record { sfits = c.lowered.type_inv })
    ∙ c.lowered.ensures
    ∙ ap (lowered_to c.sides.inside.high)
    (to_z-of_z w128 c.raised.result (record { sfits = c.raised.type_inv })
    ∙ c.raised.ensures
    ∙ ap (raised_to c.sides.inside.low) (to_z-of_z w128 c.args.at c.ranges.at))
    ∙ ap (λ (sides : Sides). moved sides c.args.at) c.sides.view_is
