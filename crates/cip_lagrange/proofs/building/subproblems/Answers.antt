use Rattle.std.proofs.Common.{List, ◌+◌, sym, subst}
use Rattle.cip_lagrange.specs.declared.parts.Subproblem.{Subproblem}
use Rattle.cip_lagrange.proofs.Whole.{AreBuiltTo, built_more}
use Rattle.cip_lagrange.proofs.building.subproblems.Goals as goal

pub loop-block-preserved : goal.loop-block-preserved
loop-block-preserved c =
    subst (λ (parts : List Subproblem). AreBuiltTo c.args.program.now c.args.places.now c.args.blocks.now
    (c.loop-block.block + 1) parts)
    (sym c.in_ok-push.ensures.items)
    (built_more c.args.program.now c.args.places.now c.args.blocks.now c.loop-block.block c.loop-block.parts.items
    c.in_ok-subproblem.field-0 c.loop-block.invariant c.in_ok-subproblem.ensures)
