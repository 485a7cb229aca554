use Rattle.std.proofs.Common.{◌<◌, ℕ, List, length, ap₂, ◌∙◌, arith}
use Rattle.cip_rational.specs.Rational.{ℚ}
use Rattle.cip_problem.specs.BlockMeaning.{part_at}
use Rattle.cip_lagrange.specs.LagrangeOutcomes.{block_outcome, block_added}
use Rattle.cip_lagrange.proofs.Stepped.{item_at, blocks_next, blocks_stop}
use Rattle.cip_lagrange.proofs.lagrangian.add_blocks.Goals as goal

pub returns-in-Err-clause-steps : goal.returns-in-Err-clause-steps
returns-in-Err-clause-steps c =
    let parts = c.args.blocks.now.subproblems.items in
    let inside : c.loop-at.at < length parts = omega arith in
    let tree_inside : c.loop-at.at < length c.args.trees.now = omega (arith, inside, c.requires.each) in
    let p = item_at parts c.loop-at.at inside in
    blocks_stop (length c.args.scratch.now.row.entries) c.args.blocks.now.blocks c.args.scratch.now.rests.items
    c.args.bounds.now c.loop-at.at parts c.args.trees.now c.loop-at.bound c.in-Err.fault p.0
    c.index-trees-at.result _ p.1
    inside tree_inside c.index-trees-at.is
    (c.in-Err.ensures.steps p.0 p.1
    ∙ ap₂ (λ (n : ℕ) (rests : List ℚ). block_added c.loop-at.at (block_outcome n
    (part_at c.args.blocks.now.blocks c.loop-at.at).columns p.0 rests c.args.bounds.now c.index-trees-at.result)
    c.loop-at.bound) c.loop-at.invariant.row c.loop-at.invariant.rests)
    c.loop-at.invariant.steps

pub loop-at-preserved : goal.loop-at-preserved
loop-at-preserved c =
    let parts = c.args.blocks.now.subproblems.items in
    let inside : c.loop-at.at < length parts = omega arith in
    let tree_inside : c.loop-at.at < length c.args.trees.now = omega (arith, inside, c.requires.each) in
    let p = item_at parts c.loop-at.at inside in
    record {
      steps =
          blocks_next (length c.args.scratch.now.row.entries) c.args.blocks.now.blocks c.args.scratch.now.rests.items
          c.args.bounds.now c.loop-at.at parts c.args.trees.now c.loop-at.bound c.in-Ok.more p.0
          c.index-trees-at.result _
          p.1 inside tree_inside c.index-trees-at.is
          (c.in-Ok.ensures.steps p.0 p.1
          ∙ ap₂ (λ (n : ℕ) (rests : List ℚ). block_added c.loop-at.at (block_outcome n
          (part_at c.args.blocks.now.blocks c.loop-at.at).columns p.0 rests c.args.bounds.now c.index-trees-at.result)
          c.loop-at.bound) c.loop-at.invariant.row c.loop-at.invariant.rests)
          c.loop-at.invariant.steps;
      rests = c.in-Ok.ensures.rests ∙ c.loop-at.invariant.rests;
      fits = c.in-Ok.ensures.fits;
      row = c.in-Ok.ensures.row ∙ c.loop-at.invariant.row;
    }
