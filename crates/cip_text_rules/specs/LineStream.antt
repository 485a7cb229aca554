-- Such a text read byte by byte. At most the current line is kept, and what the lines before have left.
--     stream_with reading stream byte      the stream, and one byte more
--     closed reading stream      what the text comes to where it ends here
use Rattle.std.specs.Prelude.{◌≡◌, ◌↔◌, ℕ, ◌+◌, ◌≤◌, nat_le, ◌||◌, if◌then◌else◌, List, [], ◌∷◌, ◌++◌, Option, None, Some, fold}
use Rattle.cip_problem.specs.Limits.{longest_text}
use Rattle.cip_text_rules.specs.Lines.{is_line_feed, is_filled}
use Rattle.cip_text_rules.specs.LineTexts.{Reading, Outcome, Means, Faulty, outcome_at, too_long, outcome_of, HasFault}

-- ---- lines

-- how far a text has been read: something is known, or there was a fault
pub data Progress (K : Type 0) : Type 0 where
  Going : K → Progress K
  Failed : (line kind : ℕ) → Progress K

-- behind an item: its fault, or what is known then
abbrev pub progress_at : {K : Type 0} → Option ℕ → (line : ℕ) → K → Progress K
progress_at (Some kind) line known = Failed line kind
progress_at None line known = Going known

-- one item more; a fault stays
abbrev pub item_read : {K I X : Type 0} → Reading K I X → Progress K → (line : ℕ) → I → Progress K
item_read reading (Going known) line item =
    progress_at (reading.fault known item) line (reading.next known item)
item_read reading (Failed first kind) line item = Failed first kind

-- the items of one line more
abbrev pub line_read : {K I X : Type 0} → Reading K I X → Progress K → (number : ℕ) → List ℕ → Progress K
line_read reading progress number line =
    fold (λ p item. item_read reading p number item) progress (reading.items line)

-- ---- bytes

-- the progress behind the lines that have ended, how many those are, the bytes of the line that hasn't, and how many
-- bytes were looked at
pub record Stream (K : Type 0) : Type 0 where
  pub progress : Progress K
  pub ended : ℕ
  pub line : List ℕ
  pub size : ℕ

-- before the first byte
abbrev pub no_stream : {K I X : Type 0} → Reading K I X → Stream K
no_stream reading = record { progress = Going reading.start; ended = 0; line = []; size = 0 }

-- one byte that is looked at: a line feed ends the line
abbrev pub byte_read : {K I X : Type 0} → Reading K I X → Stream K → ℕ → Stream K
byte_read reading stream byte =
    if is_line_feed byte
    then record {
      progress = line_read reading stream.progress (stream.ended + 1) stream.line;
      ended = stream.ended + 1;
      line = [];
      size = stream.size + 1;
    }
    else record {
      progress = stream.progress;
      ended = stream.ended;
      line = stream.line ++ byte ∷ [];
      size = stream.size + 1;
    }

-- one byte more; behind the first byte too many none is looked at
abbrev pub stream_with : {K I X : Type 0} → Reading K I X → Stream K → ℕ → Stream K
stream_with reading stream byte =
    if nat_le stream.size longest_text then byte_read reading stream byte else stream

-- the stream behind these bytes
abbrev pub stream_of : {K I X : Type 0} → Reading K I X → List ℕ → Stream K
stream_of reading text = fold (stream_with reading) (no_stream reading) text

-- what progress comes to where no line is left
abbrev pub outcome_from : {K I X : Type 0} → Reading K I X → (last : ℕ) → Progress K → Outcome X
outcome_from reading last (Going known) =
    outcome_at (reading.end_fault known) (last + 1) (Means (reading.result known))
outcome_from reading last (Failed line kind) = Faulty line kind

-- what follows the last line feed is a line where it isn't empty
abbrev pub last_line : {K : Type 0} → Stream K → ℕ
last_line stream = if is_filled stream.line then stream.ended + 1 else stream.ended

-- the progress behind that line
abbrev pub last_progress : {K I X : Type 0} → Reading K I X → Stream K → Progress K
last_progress reading stream =
    if is_filled stream.line then line_read reading stream.progress (stream.ended + 1) stream.line
    else stream.progress

-- what the text comes to where it ends here
abbrev pub closed : {K I X : Type 0} → Reading K I X → Stream K → Outcome X
closed reading stream =
    if nat_le stream.size longest_text
    then outcome_from reading (last_line stream) (last_progress reading stream)
    else too_long reading.long (last_line stream)
    (outcome_from reading (last_line stream) (last_progress reading stream))

-- what a text comes to, read byte by byte
unfoldable pub read_outcome : {K I X : Type 0} → Reading K I X → List ℕ → Outcome X
read_outcome reading text = closed reading (stream_of reading text)

-- ---- faults of lines that have ended

-- a line and the kind of its fault
pub record LineFault : Type 0 where
  pub line : ℕ
  pub kind : ℕ

-- the fault of an outcome, if it is one
abbrev pub fault_in : {X : Type 0} → Outcome X → Option LineFault
fault_in (Means value) = None
fault_in (Faulty line kind) = Some (record { line = line; kind = kind })

-- the fault that progress knows
abbrev pub progress_fault : {K : Type 0} → Progress K → Option LineFault
progress_fault (Going known) = None
progress_fault (Failed line kind) = Some (record { line = line; kind = kind })

-- the fault that is known before the text ends: that of a line that has ended. Where the first byte too many is a line
-- feed, the line that it ends is such a line
abbrev pub ended_fault : {K I X : Type 0} → Reading K I X → Stream K → Option LineFault
ended_fault reading stream =
    if nat_le stream.size longest_text || is_filled stream.line then progress_fault stream.progress
    else fault_in (closed reading stream)

-- ---- laws

-- a text that is read byte by byte in one way comes to its outcome in another
abbrev pub TextsAreRead : {K S I X : Type 0} → Reading K I X → Reading S I X → Type 0
TextsAreRead reading steps = (text : List ℕ) → read_outcome steps text ≡ outcome_of reading text

-- a fault is known exactly where the text, as far as it was read, is faulty at a line that has ended
abbrev pub FaultsOfEndedLines : {K S I X : Type 0} → Reading K I X → Reading S I X → Type 0
FaultsOfEndedLines reading steps =
    (text : List ℕ) (line kind : ℕ)
    → (ended_fault steps (stream_of steps text) ≡ Some (record { line = line; kind = kind }))
    ↔ (HasFault reading text line kind × (line ≤ (stream_of steps text).ended))

-- a fault that is known is the text's, whatever follows, and stays known
pub record FaultsStay {K S I X : Type 0} (reading : Reading K I X) (steps : Reading S I X) : Type 0 where
  pub of_text : (text rest : List ℕ) (fault : LineFault) → ended_fault steps (stream_of steps text) ≡ Some fault
      → HasFault reading (text ++ rest) fault.line fault.kind
  pub known : (text rest : List ℕ) (fault : LineFault) → ended_fault steps (stream_of steps text) ≡ Some fault
      → ended_fault steps (stream_of steps (text ++ rest)) ≡ Some fault
