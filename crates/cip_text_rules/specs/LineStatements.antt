-- The laws of texts that are read line by line. The crates of the texts have them as contracts.
use Rattle.std.specs.Prelude.{◌≡◌, ◌⊎◌, ◌↔◌, ⊤, ℕ, ◌+◌, ◌≤◌, Bool, true, false, List, [], ◌∷◌, ◌++◌, length, None, Some}
use Rattle.cip_problem.specs.Limits.{longest_text}
use Rattle.cip_text_rules.specs.Lines.{lines}
use Rattle.cip_text_rules.specs.LineTexts.{Reading, Numbered, items_in, HasResult, HasFault}
use Rattle.cip_text_rules.specs.LineEnds.{ending}

-- ---- one outcome

-- a text has a result or a first fault, never both, and one of each at the most
pub record OneOutcome {K I X : Type 0} (reading : Reading K I X) : Type 0 where
  pub some : (text : List ℕ)
      → ((value : X) × HasResult reading text value)
      ⊎ ((line : ℕ) × ((kind : ℕ) × HasFault reading text line kind))
  pub never_both : (text : List ℕ) (value : X) (line kind : ℕ)
      → HasResult reading text value → ¬ HasFault reading text line kind
  pub one_result : (text : List ℕ) (p q : X) → HasResult reading text p → HasResult reading text q → p ≡ q
  pub one_fault : (text : List ℕ) (line kind other_line other_kind : ℕ)
      → HasFault reading text line kind → HasFault reading text other_line other_kind
      → (line ≡ other_line) × (kind ≡ other_kind)

-- ---- the first fault

-- what is known behind items
abbrev pub known_after : {K I X : Type 0} → Reading K I X → K → List (Numbered I) → K
known_after reading known [] = known
known_after reading known (now ∷ others) = known_after reading (reading.next known now.item) others

-- no item has a fault
abbrev pub AreQuiet : {K I X : Type 0} → Reading K I X → K → List (Numbered I) → Type 0
AreQuiet reading known [] = ⊤
AreQuiet reading known (now ∷ others) =
    (reading.fault known now.item ≡ None) × AreQuiet reading (reading.next known now.item) others

-- the first item that has a fault, behind items without one
pub record IsFirstFault {K I X : Type 0} (reading : Reading K I X) (text : List ℕ) (line kind : ℕ) : Type 0 where
  pub before : List (Numbered I)
  pub now : Numbered I
  pub after : List (Numbered I)
  pub are_items : items_in reading text ≡ before ++ now ∷ after
  pub quiet : AreQuiet reading reading.start before
  pub is_line : now.line ≡ line
  pub fault : reading.fault (known_after reading reading.start before) now.item ≡ Some kind

-- what is known behind all items of a text
abbrev pub known_of : {K I X : Type 0} → Reading K I X → List ℕ → K
known_of reading text = known_after reading reading.start (items_in reading text)

-- no item has a fault, but there is one behind the last line
pub record IsEndFault {K I X : Type 0} (reading : Reading K I X) (text : List ℕ) (line kind : ℕ) : Type 0 where
  pub quiet : AreQuiet reading reading.start (items_in reading text)
  pub is_line : length (lines text) + 1 ≡ line
  pub fault : reading.end_fault (known_of reading text) ≡ Some kind

-- the fault of a text is that of its first item that has one; else the one behind the last line, if there is one
abbrev pub FaultsAreFirst : {K I X : Type 0} → Reading K I X → Type 0
FaultsAreFirst reading =
    (text : List ℕ) (line kind : ℕ) → length text ≤ longest_text
    → (HasFault reading text line kind)
    ↔ (IsFirstFault reading text line kind ⊎ IsEndFault reading text line kind)

-- a text that isn't too long, without any fault, and what it means
pub record IsDescribed {K I X : Type 0} (reading : Reading K I X) (text : List ℕ) (value : X) : Type 0 where
  pub short : length text ≤ longest_text
  pub quiet : AreQuiet reading reading.start (items_in reading text)
  pub no_fault : reading.end_fault (known_of reading text) ≡ None
  pub is_value : reading.result (known_of reading text) ≡ value

-- a result is that of all items, where there is no fault
abbrev pub ResultsAreDescribed : {K I X : Type 0} → Reading K I X → Type 0
ResultsAreDescribed {X = X} reading =
    (text : List ℕ) (value : X) → (HasResult reading text value) ↔ (IsDescribed reading text value)

-- ---- texts that an item ends

-- no item has a fault, and none ends the text
abbrev pub AreOpen : {K I X : Type 0} → (K → I → Bool) → Reading K I X → K → List (Numbered I) → Type 0
AreOpen ends reading known [] = ⊤
AreOpen ends reading known (now ∷ others) =
    (reading.fault known now.item ≡ None) × (ends known now.item ≡ false)
    × AreOpen ends reading (reading.next known now.item) others

-- an item of a text with those before it, which have no fault and don't end the text
pub record IsReached {K I X : Type 0} (ends : K → I → Bool) (reading : Reading K I X) (text : List ℕ)
    (before : List (Numbered I)) (now : Numbered I) (after : List (Numbered I)) : Type 0 where
  pub are_items : items_in reading text ≡ before ++ now ∷ after
  pub open_before : AreOpen ends reading reading.start before

-- the first item that has a fault, where none before it ends the text
pub record IsFaultReached {K I X : Type 0} (ends : K → I → Bool) (reading : Reading K I X) (text : List ℕ)
    (line kind : ℕ) : Type 0 where
  pub before : List (Numbered I)
  pub now : Numbered I
  pub after : List (Numbered I)
  pub reached : IsReached ends reading text before now after
  pub is_line : now.line ≡ line
  pub fault : reading.fault (known_after reading reading.start before) now.item ≡ Some kind

-- no item has a fault or ends the text, and there is a fault behind the last line
pub record HasNoEnd {K I X : Type 0} (ends : K → I → Bool) (reading : Reading K I X) (text : List ℕ)
    (line kind : ℕ) : Type 0 where
  pub all_open : AreOpen ends reading reading.start (items_in reading text)
  pub is_line : length (lines text) + 1 ≡ line
  pub fault : reading.end_fault (known_of reading text) ≡ Some kind

-- the fault of a text is that of its first item that has one, unless an item before ends the text; where no item does
-- either, the one behind the last line, if there is one
abbrev pub FaultsBeforeEnds : {K I X : Type 0} → (K → I → Bool) → Reading K I X → Type 0
FaultsBeforeEnds ends reading =
    (text : List ℕ) (line kind : ℕ) → length text ≤ longest_text
    → (HasFault (ending ends reading) text line kind)
    ↔ (IsFaultReached ends reading text line kind ⊎ HasNoEnd ends reading text line kind)

-- an item ends the text and has no fault, and this is the result of the items as far as that
pub record IsEndReached {K I X : Type 0} (ends : K → I → Bool) (reading : Reading K I X) (text : List ℕ) (value : X)
    : Type 0 where
  pub before : List (Numbered I)
  pub now : Numbered I
  pub after : List (Numbered I)
  pub reached : IsReached ends reading text before now after
  pub end : ends (known_after reading reading.start before) now.item ≡ true
  pub no_fault : reading.fault (known_after reading reading.start before) now.item ≡ None
  pub is_value : reading.result (reading.next (known_after reading reading.start before) now.item) ≡ value

-- no item has a fault or ends the text, there is no fault behind the last line, and this is the result
pub record NeedsNoEnd {K I X : Type 0} (ends : K → I → Bool) (reading : Reading K I X) (text : List ℕ) (value : X)
    : Type 0 where
  pub all_open : AreOpen ends reading reading.start (items_in reading text)
  pub no_fault : reading.end_fault (known_of reading text) ≡ None
  pub is_value : reading.result (known_of reading text) ≡ value

-- a result is that of the items as far as the one that ends the text, where none of them has a fault; or that of all
-- items, where there is no fault and none ends the text
abbrev pub ResultsAtEnds : {K I X : Type 0} → (K → I → Bool) → Reading K I X → Type 0
ResultsAtEnds {X = X} ends reading =
    (text : List ℕ) (value : X)
    → (HasResult (ending ends reading) text value)
    ↔ ((length text ≤ longest_text)
    × (IsEndReached ends reading text value ⊎ NeedsNoEnd ends reading text value))
