-- A text of free MPS as far as it came.
--     StandsFor text stream      the code keeps what the plain stream does
use Rattle.cip_text_rules.specs.LineEnds.{Stage}
use Rattle.cip_text_rules.specs.LineStream.{Stream}
use Rattle.cip_text.specs.PieceCuts.{Cut, cut_of}
use Rattle.cip_text.specs.PieceStands.{StandsAt}
use Rattle.cip_text_rules.specs.MpsState.{State}
use Rattle.cip_mps.specs.declared.mps_text.MpsText.{MpsText}
use Rattle.cip_mps.specs.LinesRead as lines

-- what is kept of its bytes
abbrev pub kept_of : MpsText → Cut
kept_of text = cut_of text.pieces

-- what its lines have said
abbrev pub stage_of : MpsText → Stage State
stage_of text = lines.stage_of text.lines

-- the code keeps what the plain stream does
abbrev pub StandsFor : MpsText → Stream (Stage State) → Type 0
StandsFor text stream = StandsAt (kept_of text) (stage_of text) stream
