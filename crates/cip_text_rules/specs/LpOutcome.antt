-- What an LP text comes to: the program that it describes, or its first fault.
--     lp_reading      how such a text is read
--     HasLpProgram text program, HasLpFault text line kind
use Rattle.std.specs.Prelude.{◌≡◌, ℕ, ◌==◌, Bool, true, false, if◌then◌else◌, List, Option, Some}
use Rattle.cip_problem.specs.Program.{Program}
use Rattle.cip_text_rules.specs.LineTexts.{Reading, HasResult, HasFault}
use Rattle.cip_text_rules.specs.LineEnds.{Stage, ending}
use Rattle.cip_text_rules.specs.LpWords.{End}
use Rattle.cip_text_rules.specs.LpTokens.{Token, Opening, line_tokens}
use Rattle.cip_text_rules.specs.LpPlaces.{Where, no_where}
use Rattle.cip_text_rules.specs.LpGrammar.{events_of, place_after}
use Rattle.cip_text_rules.specs.LpFacts.{LpFacts, nothing_said, first_fault, facts_after, program_of}

-- where a token stands, and what those before it have said
pub record LpContext : Type 0 where
  pub where_ : Where
  pub facts : LpFacts

-- before the first token
abbrev pub no_context : LpContext
no_context = record { where_ = no_where; facts = nothing_said }

-- the fault of a token
abbrev pub token_fault : LpContext → Token → Option ℕ
token_fault context token = first_fault context.facts (events_of context.where_ token)

-- one token more
abbrev pub context_with : LpContext → Token → LpContext
context_with context token = record {
  where_ = place_after context.where_ token;
  facts = facts_after context.facts (events_of context.where_ token);
}

-- the token `End` ends the text
abbrev pub is_end : LpContext → Token → Bool
is_end context (Opening End) = true
is_end context other = false

-- how tokens are read: kind 8 is that of a text without End; and 12 stands for a text that is too long, whose first
-- byte too many comes behind the tokens as far as it
abbrev pub lp_tokens : Reading LpContext Token Program
lp_tokens = record {
  items = line_tokens;
  start = no_context;
  fault = token_fault;
  next = context_with;
  end_fault = λ context. Some 8;
  result = λ context. program_of context.facts;
  long = 12;
}

-- how a text is read: End ends it
abbrev pub lp_reading : Reading (Stage LpContext) Token Program
lp_reading = ending is_end lp_tokens

-- a text describes a program
abbrev pub HasLpProgram : (text : List ℕ) → (program : Program) → Type 0
HasLpProgram text program = HasResult lp_reading text program

-- the kind that is told of a fault: that of a text that is too long is 9, too
abbrev pub told_kind : (number : ℕ) → ℕ
told_kind number = if number == 12 then 9 else number

-- a text has its first fault at a token of a line, and the least kind of fault there; a text that is too long has one
-- behind its tokens as far as the first byte too many, on the line of that byte
pub record HasLpFault (text : List ℕ) (line kind : ℕ) : Type 0 where
  pub number : ℕ
  pub fault : HasFault lp_reading text line number
  pub is_kind : told_kind number ≡ kind
