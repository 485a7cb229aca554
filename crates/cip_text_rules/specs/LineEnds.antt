-- Texts that an item ends: what stands behind that item isn't looked at.
--     ending ends reading      how such a text is read
use Rattle.std.specs.Prelude.{ℕ, Bool, if◌then◌else◌, Option, None}
use Rattle.cip_text_rules.specs.LineTexts.{Reading}

-- the text goes on, or an item has ended it; and what is known
pub data Stage (K : Type 0) : Type 0 where
  Open : (known : K) → Stage K
  Ended : (known : K) → Stage K

-- what is known
abbrev pub known_at : {K : Type 0} → Stage K → K
known_at (Open known) = known
known_at (Ended known) = known

-- the kind of the fault of an item; behind the end no item has one
abbrev pub stage_fault : {K I : Type 0} → (K → I → Option ℕ) → Stage K → I → Option ℕ
stage_fault fault (Open known) item = fault known item
stage_fault fault (Ended known) item = None

-- the stage behind an item without fault
abbrev pub stage_next : {K I : Type 0} → (ends : K → I → Bool) → (next : K → I → K) → Stage K → I → Stage K
stage_next ends next (Open known) item =
    if ends known item then Ended (next known item) else Open (next known item)
stage_next ends next (Ended known) item = Ended known

-- the kind of the fault behind the last line; a text that has ended has none
abbrev pub stage_end_fault : {K : Type 0} → (K → Option ℕ) → Stage K → Option ℕ
stage_end_fault fault (Open known) = fault known
stage_end_fault fault (Ended known) = None

-- such a way to read texts, where an item may end the text, by what is known before it
abbrev pub ending : {K I X : Type 0} → (ends : K → I → Bool) → Reading K I X → Reading (Stage K) I X
ending ends reading = record {
  items = reading.items;
  start = Open reading.start;
  fault = stage_fault reading.fault;
  next = stage_next ends reading.next;
  end_fault = stage_end_fault reading.end_fault;
  result = λ stage. reading.result (known_at stage);
  long = reading.long;
}
