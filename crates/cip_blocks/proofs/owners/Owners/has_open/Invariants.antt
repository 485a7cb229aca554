use Rattle.std.proofs.Common.{◌≡◌, drop}
use Rattle.cip_blocks.specs.OpenColumns.{has_open_owned}
use Rattle.cip_blocks.proofs.owners.Owners.has_open.Given as goal

abbrev pub invariant-loop-column : goal.invariant-loop-column
invariant-loop-column l = has_open_owned (drop l.column l.bounds) (drop l.column l.self.blocks.items) ≡ has_open_owned l.bounds l.self.blocks.items
