use Rattle.std.proofs.Common.{◌≡◌, drop, vec_len}
use Rattle.cip_problem.specs.WellFormed.{columns}
use Rattle.cip_text_rules.specs.BlockOwners as plain
use Rattle.cip_blocks.specs.OwnersKept.{owners_shown}
use Rattle.cip_blocks.proofs.owners.Owners.of.Given as goal

abbrev pub invariant-loop-at : goal.invariant-loop-at
invariant-loop-at l = record {
  owned : plain.owners_from (owners_shown l.owners) (drop l.at l.row_blocks) (drop l.at l.rows)
      ≡ plain.owners_from (plain.no_owners (columns l.program)) l.row_blocks l.rows;
  sized : vec_len l.owners.blocks ≡ columns l.program;
}
