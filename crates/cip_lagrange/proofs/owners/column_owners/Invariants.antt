use Rattle.std.proofs.Common.{◌≡◌, replicate, None}
use Rattle.cip_problem.specs.BlockMeaning.{part_at}
use Rattle.cip_lagrange.specs.Owners.{owned_below}
use Rattle.cip_lagrange.proofs.owners.column_owners.Given as goal

abbrev pub invariant-loop-block : goal.invariant-loop-block
invariant-loop-block l =
    l.owners.items ≡ owned_below (λ block. (part_at l.blocks block).columns) l.block (replicate l.columns None)
