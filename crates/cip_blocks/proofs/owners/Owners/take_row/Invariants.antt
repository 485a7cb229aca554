use Rattle.std.proofs.Common.{◌≡◌, drop, vec_len}
use Rattle.std.specs.Prelude.{fold}
use Rattle.cip_text_rules.specs.BlockOwners as plain
use Rattle.cip_blocks.specs.OwnersKept.{owners_shown}
use Rattle.cip_blocks.proofs.owners.Owners.take_row.Given as goal

abbrev pub invariant-loop-term : goal.invariant-loop-term
invariant-loop-term l = record {
  owned : fold (λ o t. plain.entry_owned l.block o t.column) (owners_shown l.self) (drop l.term-index l.term-items)
      ≡ fold (λ o t. plain.entry_owned l.block o t.column) (owners_shown l.fn.self) l.term-items;
  same : vec_len l.self.blocks ≡ vec_len l.fn.self.blocks;
}
