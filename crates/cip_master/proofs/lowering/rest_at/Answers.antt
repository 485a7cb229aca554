use Rattle.std.proofs.Common.{◌<◌, length, sym, ap, ap₂, ◌∙◌, subst, arith, Some}
use Rattle.std.specs.Prelude.{All}
use Rattle.cip_rational.specs.Rational.{zeroℚ}
use Rattle.cip_frac.specs.Outcomes.{dot_from}
use Rattle.cip_pricing.specs.Decomposition.{picked}
use Rattle.cip_lagrange.specs.Numbers.{found}
use Rattle.cip_lagrange.specs.LagrangeOutcomes.{in_range}
use Rattle.cip_master.proofs.Numbers.{count_is, block_inside, block_found}
use Rattle.cip_master.proofs.lowering.rest_at.Goals as goal

pub columns-numbers-requires : goal.columns-numbers-requires
columns-numbers-requires c =
    omega (arith, count_is c.args.task.now.program.now c.args.task.now.blocks.now c.requires.task.made, c.block.ensures, c.requires.block)

pub part_sum-requires : goal.part_sum-requires
part_sum-requires c =
    let kept = c.args.task.now.blocks.now in
    let inside : c.block.result < length kept.subproblems.items = omega (arith, c.block.ensures, c.requires.block) in
    subst (All (λ number. number < length c.args.rests.now)) (sym c.columns-numbers.ensures)
    (block_inside c.args.task.now.program.now kept c.requires.task.made c.block.result (length c.args.rests.now) inside
    c.requires.rests)

pub returns-in-Ok : goal.returns-in-Ok
returns-in-Ok c =
    let kept = c.args.task.now.blocks.now in
    let inside : c.block.result < length kept.subproblems.items = omega (arith, c.block.ensures, c.requires.block) in
    ap in_range (c.in-Ok.ensures.steps
    ∙ ap₂ (dot_from zeroℚ)
    (ap (found c.args.rests.now) c.columns-numbers.ensures
    ∙ block_found c.args.task.now.program.now kept c.requires.task.made c.block.result c.args.rests.now inside
    ∙ ap (λ k. picked (Some k) kept.column_owners.items c.args.rests.now) c.block.ensures)
    c.values.ensures)

pub returns-in-Err : goal.returns-in-Err
returns-in-Err c =
    let kept = c.args.task.now.blocks.now in
    let inside : c.block.result < length kept.subproblems.items = omega (arith, c.block.ensures, c.requires.block) in
    ap in_range (c.in-Err.ensures.steps
    ∙ ap₂ (dot_from zeroℚ)
    (ap (found c.args.rests.now) c.columns-numbers.ensures
    ∙ block_found c.args.task.now.program.now kept c.requires.task.made c.block.result c.args.rests.now inside
    ∙ ap (λ k. picked (Some k) kept.column_owners.items c.args.rests.now) c.block.ensures)
    c.values.ensures)
