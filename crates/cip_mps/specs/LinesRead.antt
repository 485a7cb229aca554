-- What the code keeps of the lines that have ended.
--     stage_of lines      the stage of the text behind them
use Rattle.std.specs.Prelude.{◌≡◌, ℕ, if◌then◌else◌, Option, None}
use Rattle.cip_text_rules.specs.LineEnds.{Stage, Open, Ended}
use Rattle.cip_text_rules.specs.MpsSayings.{Saying}
use Rattle.cip_text_rules.specs.MpsRules.{least, is_end}
use Rattle.cip_text_rules.specs.MpsState.{State}
use Rattle.cip_text_rules.specs.MpsSteps.{tests, taken}
use Rattle.cip_mps.specs.DraftStates.{kept, at_place}
use Rattle.cip_mps.specs.declared.line_reader.LineReader.{LineReader}

-- the state behind the lines
abbrev pub state_of_lines : LineReader → State
state_of_lines lines = at_place lines.place (kept lines.draft)

-- the stage of the text behind them
abbrev pub stage_of : LineReader → Stage State
stage_of lines = if lines.ended then Ended (state_of_lines lines) else Open (state_of_lines lines)

-- a line has the least kind of its tests; without fault it is taken, and ENDATA ends the text
pub record IsTaken (old : State) (new : Stage State) (now : Saying) (kind : Option ℕ) : Type 0 where
  pub is_kind : kind ≡ least (tests old now)
  pub taken : kind ≡ None → new ≡ (if is_end now then Ended (taken old now) else Open (taken old now))
