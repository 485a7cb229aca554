use Rattle.std.proofs.Common.{◌≡◌, map, take}
use Rattle.cip_blocks.specs.WordPlaces.{block_of}
use Rattle.cip_blocks.proofs.block_words.BlockWords.ending.Given as goal

abbrev pub invariant-loop-row : goal.invariant-loop-row
invariant-loop-row l = l.row_blocks.items ≡ map block_of (take l.row-index l.row-items)
