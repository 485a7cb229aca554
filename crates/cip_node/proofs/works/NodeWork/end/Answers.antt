use Rattle.std.proofs.lemmas.Grind.{common_steps}
use Rattle.std.proofs.Common.{sym, subst, arith}
use Rattle.cip_tree.specs.Nodes.{box_of}
use Rattle.cip_core.specs.CoreStates.{IsGivenBound}
use Rattle.cip_core.specs.Steps.{IsBack}
use Rattle.cip_node.specs.Looking.{IsLook}
use Rattle.cip_node.proofs.EndLaws.{none_kept, emptied}
use Rattle.cip_node.proofs.Looked.{look_empty}
use Rattle.cip_node.proofs.works.NodeWork.end.Goals as goal

pub close_empty-requires-clause-empty : goal.close_empty-requires-clause-empty
close_empty-requires-clause-empty c = look_empty c.args.self.now.core c.args.node (subst (IsLook c.args.self.now.core c.args.node) c.in-Empty.is c.requires.look)

pub returns-in-Empty-clause-ended : goal.returns-in-Empty-clause-ended
returns-in-Empty-clause-ended c =
    let core = c.args.self.now.core in
    let left = c.close_empty.ensures.left in
    emptied core c.close_empty.new.self c.args.node left
    (none_kept core c.close_empty.new.self (box_of core.tree c.args.node) left.later (look_empty core c.args.node (subst (IsLook core c.args.node) c.in-Empty.is c.requires.look)))

pub end_leaf-ended-requires-clause-given : goal.end_leaf-ended-requires-clause-given
end_leaf-ended-requires-clause-given c = subst (IsGivenBound c.args.self.now.core c.args.node.number) (sym c.bound-given.ensures) c.requires.can.given

pub returns-in-Err-clause-ended : goal.returns-in-Err-clause-ended
returns-in-Err-clause-ended c = subst (IsBack c.args.self.now.core c.end_leaf-ended.new.core c.args.node.number) c.bound-given.ensures c.in-Err.ensures.ended

pub end_leaf-ended-requires-clause-leaf : goal.end_leaf-ended-requires-clause-leaf
end_leaf-ended-requires-clause-leaf c = grind (arith, common_steps)

pub end_open-requires-clause-open_ : goal.end_open-requires-clause-open_
end_open-requires-clause-open_ c = grind (arith, common_steps)

pub returns-in-Empty-clause-rows : goal.returns-in-Empty-clause-rows
returns-in-Empty-clause-rows c = grind (arith, common_steps)

pub returns-in-Ok-clause-ended : goal.returns-in-Ok-clause-ended
returns-in-Ok-clause-ended c = grind (arith, common_steps)

pub returns-in-Ok-clause-rows : goal.returns-in-Ok-clause-rows
returns-in-Ok-clause-rows c = grind (arith, common_steps)

pub returns-in-Err-clause-rows : goal.returns-in-Err-clause-rows
returns-in-Err-clause-rows c = grind (arith, common_steps)

pub returns-in-Open-clause-ended : goal.returns-in-Open-clause-ended
returns-in-Open-clause-ended c = grind (arith, common_steps)

pub returns-in-Open-clause-rows : goal.returns-in-Open-clause-rows
returns-in-Open-clause-rows c = grind (arith, common_steps)

pub end_leaf-ended-requires-clause-up : goal.end_leaf-ended-requires-clause-up
end_leaf-ended-requires-clause-up c = grind (arith, common_steps)

pub end_open-requires-clause-can : goal.end_open-requires-clause-can
end_open-requires-clause-can c = grind (arith, common_steps)

pub close_empty-requires-clause-up : goal.close_empty-requires-clause-up
close_empty-requires-clause-up c = grind (arith, common_steps)
