-- Reading a text of blocks that is pulled from a store.
--     ReadsBlocks program text old new blocks      what the text gives was read
--     BlocksCause program text old new cause      why there is none
use Rattle.std.specs.Prelude.{ℕ, List, Option}
use Rattle.cip_io.specs.Store.{StoreTells}
use Rattle.cip_problem.specs.Program.{Program}
use Rattle.cip_text_rules.specs.LineTexts.{HasResult, HasFault}
use Rattle.cip_problem.specs.BlockParts.{Blocks}
use Rattle.cip_blocks.specs.BlockRules.{block_reading}
use Rattle.cip_blocks.specs.BlockKindTexts.{kind_number}
use Rattle.cip_blocks.specs.declared.kinds.BlockKind.{BlockKind}
use Rattle.cip_input.specs.TextsRead.{ReadsText}
use Rattle.cip_input.specs.Unreads.{UnreadCause}
use Rattle.cip_input.specs.declared.unread.Unread.{Unread}

-- what a text gives was read
abbrev pub ReadsBlocks : Program → (text : Option (List ℕ)) → (old new : StoreTells) → Blocks → Type 0
ReadsBlocks program = ReadsText (HasResult (block_reading program))

-- why it wasn't
abbrev pub BlocksCause : Program → (text : Option (List ℕ)) → (old new : StoreTells) → Unread BlockKind → Type 0
BlocksCause program = UnreadCause kind_number (HasFault (block_reading program))
