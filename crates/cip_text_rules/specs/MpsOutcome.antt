-- What a text of free MPS comes to: the program that it describes, or its first fault.
--     mps_reading      how such a text is read
--     HasProgram text program, HasFault text line kind
use Rattle.std.specs.Prelude.{ℕ, Bool, List, Some}
use Rattle.cip_text_rules.specs.Program.{Program}
use Rattle.cip_text_rules.specs.Lines.{Record}
use Rattle.cip_text_rules.specs.LineTexts as texts
use Rattle.cip_text_rules.specs.LineTexts.{Reading, records_of}
use Rattle.cip_text_rules.specs.LineEnds.{Stage, ending}
use Rattle.cip_text_rules.specs.MpsSayings.{LinePlace, no_place, Saying, said, place_after}
use Rattle.cip_text_rules.specs.MpsFacts.{Facts, no_facts, facts_with}
use Rattle.cip_text_rules.specs.MpsProgram.{program_of}
use Rattle.cip_text_rules.specs.MpsRules.{is_end, fault_of}

-- where a line stands, and what the lines before it have said
pub record Context : Type 0 where
  pub place : LinePlace
  pub facts : Facts

-- before the first line
abbrev pub no_context : Context
no_context = record { place = no_place; facts = no_facts }

-- what a record says
abbrev pub said_in : Context → Record → Saying
said_in context content = said context.place content

-- and one line more
abbrev pub context_with : Context → Saying → Context
context_with context now = record { place = place_after context.place now; facts = facts_with context.facts now }

-- a record is the line ENDATA
abbrev pub is_last : Context → Record → Bool
is_last context content = is_end (said_in context content)

-- how records are read: kind 17 is that of a text without ENDATA, and 18 that of one that is too long
abbrev pub mps_records : Reading Context Record Program
mps_records = record {
  items = records_of 42;
  start = no_context;
  fault = λ context content. fault_of context.facts (said_in context content);
  next = λ context content. context_with context (said_in context content);
  end_fault = λ context. Some 17;
  result = λ context. program_of context.facts;
  long = 18;
}

-- how a text is read: ENDATA ends it
abbrev pub mps_reading : Reading (Stage Context) Record Program
mps_reading = ending is_last mps_records

-- a text describes a program
abbrev pub HasProgram : (text : List ℕ) → (program : Program) → Type 0
HasProgram text program = texts.HasResult mps_reading text program

-- a text has its first fault on a line, and the least kind of fault there
abbrev pub HasFault : (text : List ℕ) → (line kind : ℕ) → Type 0
HasFault text line kind = texts.HasFault mps_reading text line kind
