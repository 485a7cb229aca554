-- A text of blocks as far as it came.
--     StandsFor text stream      the code keeps what the plain stream does
use Rattle.std.specs.Prelude.{ℕ, List}
use Rattle.cip_problem.specs.Program.{Program}
use Rattle.cip_text_rules.specs.LineTexts.{Reading}
use Rattle.cip_text_rules.specs.LineStream.{Stream}
use Rattle.cip_text.specs.PieceCuts.{Cut, cut_of}
use Rattle.cip_text.specs.PieceStands.{StandsAt}
use Rattle.cip_problem.specs.BlockParts.{Blocks}
use Rattle.cip_text_rules.specs.BlockSteps.{BlockState}
use Rattle.cip_blocks.specs.declared.block_text.BlockText.{BlockText}
use Rattle.cip_blocks.specs.BlockWordsRead as words

-- what is kept of its bytes
abbrev pub kept_of : BlockText → Cut
kept_of text = cut_of text.pieces

-- what its words said
abbrev pub state_of : BlockText → BlockState
state_of text = words.state_of text.words

-- the program whose blocks it gives
abbrev pub program_of : BlockText → Program
program_of text = words.program_of text.words

-- how it is read
abbrev pub steps_of : BlockText → Reading BlockState (List ℕ) Blocks
steps_of text = words.steps_of text.words

-- the code keeps what the plain stream does
abbrev pub StandsFor : BlockText → Stream BlockState → Type 0
StandsFor text stream = StandsAt (kept_of text) (state_of text) stream
