use Rattle.std.proofs.Common.{◌≡◌, replicate, None}
use Rattle.cip_problem.specs.BlockMeaning.{part_at}
use Rattle.cip_lagrange.specs.Owners.{owned_below}
use Rattle.cip_lagrange.proofs.owners.row_owners.Given as goal

abbrev pub invariant-loop-block : goal.invariant-loop-block
invariant-loop-block l =
    l.owners.items ≡ owned_below (λ block. (part_at l.blocks block).rows) l.block (replicate l.rows None)
