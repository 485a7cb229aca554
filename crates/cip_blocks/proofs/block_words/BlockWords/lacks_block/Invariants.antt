use Rattle.std.proofs.Common.{◌≡◌, drop, not}
use Rattle.std.specs.List.{list_any}
use Rattle.cip_blocks.proofs.block_words.BlockWords.lacks_block.Given as goal

abbrev pub invariant-loop-is_begun : goal.invariant-loop-is_begun
invariant-loop-is_begun l = list_any not (drop l.is_begun-index l.self.begun.items) ≡ list_any not l.self.begun.items
