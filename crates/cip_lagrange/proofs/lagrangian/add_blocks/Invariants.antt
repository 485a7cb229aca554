use Rattle.std.proofs.Common.{◌≡◌, length, drop}
use Rattle.cip_lagrange.specs.declared.answers.TreeBound.TheVariants.{Finite}
use Rattle.cip_lagrange.specs.LagrangeOutcomes.{blocks_added}
use Rattle.cip_lagrange.specs.Scratches.{AreFitting}
use Rattle.cip_lagrange.proofs.lagrangian.add_blocks.Given as goal

abbrev pub invariant-loop-at : goal.invariant-loop-at
invariant-loop-at l = record {
  steps :
      blocks_added (length l.fn.scratch.row.entries) l.blocks.blocks l.fn.scratch.rests.items l.bounds l.at
      (drop l.at l.blocks.subproblems.items) (drop l.at l.trees) l.bound
      ≡ blocks_added (length l.fn.scratch.row.entries) l.blocks.blocks l.fn.scratch.rests.items l.bounds 0
      l.blocks.subproblems.items l.trees (Finite l.fn.start);
  rests : l.scratch.rests.items ≡ l.fn.scratch.rests.items;
  fits : AreFitting l.blocks.subproblems.items l.scratch.blocks.items;
  row : length l.scratch.row.entries ≡ length l.fn.scratch.row.entries;
}
