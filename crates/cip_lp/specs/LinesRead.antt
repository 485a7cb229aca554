-- What the code keeps of the lines that have ended.
--     stage_of lines      the stage of the text behind them
use Rattle.std.specs.Prelude.{◌≡◌, ℕ, if◌then◌else◌, List, Option, None}
use Rattle.cip_text_rules.specs.LineEnds.{Stage, Open, Ended}
use Rattle.cip_text_rules.specs.LineStream.{Going}
use Rattle.cip_text_rules.specs.LpTokens.{Token}
use Rattle.cip_text_rules.specs.LpOutcome.{LpContext, token_fault, context_with, is_end}
use Rattle.cip_text_rules.specs.LpBytes.{tokens_read}
use Rattle.cip_lp.specs.LpEvents.{IsLpKind}
use Rattle.cip_lp.specs.LpStages.{context_of}
use Rattle.cip_lp.specs.declared.line_reader.LineReader.{LineReader}

-- the stage of the text behind them
abbrev pub stage_of : LineReader → Stage LpContext
stage_of lines = if lines.ended then Ended (context_of lines.statements) else Open (context_of lines.statements)

-- a token has a fault of this kind; without fault it is taken, and End ends the text
pub record IsTaken (old : LpContext) (new : Stage LpContext) (token : Token) (kind : Option ℕ) : Type 0 where
  pub is_kind : kind ≡ token_fault old token
  pub taken : kind ≡ None
      → new ≡ (if is_end old token then Ended (context_with old token) else Open (context_with old token))
  pub few : IsLpKind kind

-- these tokens change nothing: there are none, or the text has ended
abbrev pub AreOver : Stage LpContext → List Token → Type 0
AreOver stage tokens = (number : ℕ) → tokens_read number (Going stage) tokens ≡ Going stage
