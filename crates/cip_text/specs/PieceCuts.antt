-- What is kept of a text as far as it came, apart from what its lines have said.
--     cut_of pieces      what the code keeps
use Rattle.std.specs.Prelude.{ℕ, ◌+◌, nat_le, Bool, false, ◌||◌, if◌then◌else◌, List, [], ◌++◌, length, Option, None, Some, is_none}
use Rattle.cip_problem.specs.Limits.{longest_text}
use Rattle.cip_text_rules.specs.Lines.{is_filled}
use Rattle.cip_text.specs.declared.faults.KnownFault.{KnownFault}
use Rattle.cip_text.specs.declared.pieces.Pieces.{Pieces}
use Rattle.cip_text.specs.PieceFaults.{first_fault, fault_when_long}

-- the first fault of a line that has ended; how many lines have ended; whether the line that hasn't has bytes; these
-- bytes, as long as there was no fault; and how many bytes were looked at
pub record Cut : Type 0 where
  pub fault : Option KnownFault
  pub ended : ℕ
  pub filled : Bool
  pub line : List ℕ
  pub size : ℕ

-- what the code keeps
abbrev pub cut_of : Pieces → Cut
cut_of pieces = record {
  fault = pieces.fault;
  ended = pieces.ended;
  filled = pieces.filled;
  line = pieces.line.items;
  size = pieces.size;
}

-- before the first byte
abbrev pub no_bytes : Cut
no_bytes = record { fault = None; ended = 0; filled = false; line = []; size = 0 }

-- with bytes of the line that hasn't ended
abbrev pub with_bytes : Cut → List ℕ → Cut
with_bytes cut bytes = record {
  fault = cut.fault;
  ended = cut.ended;
  filled = cut.filled || is_filled bytes;
  line = if is_none cut.fault then cut.line ++ bytes else cut.line;
  size = cut.size + length bytes;
}

-- with the last bytes of the line that hasn't ended kept, before they count
abbrev pub with_tail : Cut → List ℕ → Cut
with_tail cut bytes = record {
  fault = cut.fault;
  ended = cut.ended;
  filled = cut.filled;
  line = cut.line ++ bytes;
  size = cut.size;
}

-- with the line feed of a line that has a fault of this kind, or none
abbrev pub with_feed : Cut → Option ℕ → Cut
with_feed cut kind = record {
  fault = first_fault cut.fault (cut.ended + 1) kind;
  ended = cut.ended + 1;
  filled = false;
  line = [];
  size = cut.size + 1;
}

-- the fault that is known before the text ends
abbrev pub known_fault : (long : ℕ) → Cut → Option KnownFault
known_fault long cut =
    if nat_le cut.size longest_text || cut.filled then cut.fault
    else Some (fault_when_long long cut.ended cut.fault)

-- the number of the last line
abbrev pub last_line : Cut → ℕ
last_line cut = if cut.filled then cut.ended + 1 else cut.ended

-- the fault of a text that ends here, whose last line has one of this kind, and behind which there is one of that kind
abbrev pub end_fault : (long : ℕ) → Cut → (last_kind end_kind : Option ℕ) → Option KnownFault
end_fault long cut last_kind end_kind =
    if nat_le cut.size longest_text
    then first_fault (first_fault cut.fault (cut.ended + 1) last_kind) (last_line cut + 1) end_kind
    else Some (fault_when_long long (last_line cut) (first_fault cut.fault (cut.ended + 1) last_kind))
