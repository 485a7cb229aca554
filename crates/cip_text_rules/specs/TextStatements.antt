-- The laws of texts, each as one statement: functions of `src/texts.rt` have them as contracts.
use lib.Chars.{codes}
use Rattle.std.specs.Prelude.{◌≡◌, ℕ, true, List, [], ◌∷◌, ◌++◌, None, Some}
use Rattle.cip_text_rules.specs.Lines.{is_blank, HasNoLineFeed, HasNoBlank, Section, Entry, lines, fields, record_of, records}

-- a text is cut at line feeds
pub record LinesAreCut : Type 0 where
  pub none : lines [] ≡ []
  pub last : (byte : ℕ) (bytes : List ℕ) → HasNoLineFeed (byte ∷ bytes) → lines (byte ∷ bytes) ≡ (byte ∷ bytes) ∷ []
  pub ended : (line rest : List ℕ) → HasNoLineFeed line → lines (line ++ 10 ∷ rest) ≡ line ∷ lines rest

-- the fields of a line are its words between blanks
pub record FieldsAreWords : Type 0 where
  pub none : fields [] ≡ []
  pub blank : (byte : ℕ) (rest : List ℕ) → is_blank byte ≡ true → fields (byte ∷ rest) ≡ fields rest
  pub last : (byte : ℕ) (word : List ℕ) → HasNoBlank (byte ∷ word) → fields (byte ∷ word) ≡ (byte ∷ word) ∷ []
  pub ended :
      (byte : ℕ) (word : List ℕ) (blank : ℕ) (rest : List ℕ) → HasNoBlank (byte ∷ word) → is_blank blank ≡ true
      → fields (byte ∷ word ++ blank ∷ rest) ≡ (byte ∷ word) ∷ fields rest

-- ---- examples

-- a text is cut into lines, and a line into fields
pub record LinesAreRight : Type 0 where
  pub two : lines (codes "a\nb") ≡ codes "a" ∷ codes "b" ∷ []
  pub ended : lines (codes "a\n") ≡ codes "a" ∷ []
  pub none : lines [] ≡ []
  pub empty_line : lines (codes "\n") ≡ [] ∷ []
  pub empty_between : lines (codes "a\n\nb\n\n") ≡ codes "a" ∷ [] ∷ codes "b" ∷ [] ∷ []
  pub between_blanks : fields (codes " a\tb\r") ≡ codes "a" ∷ codes "b" ∷ []
  pub no_fields : fields (codes " \t\r") ≡ []

-- what a line says
pub record RecordsAreRight : Type 0 where
  pub empty : record_of 42 [] ≡ None
  pub blank : record_of 42 (codes " \t\r") ≡ None
  pub comment : record_of 42 (codes "* x") ≡ None
  pub star : record_of 42 (codes " * x") ≡ Some (Entry (codes "*" ∷ codes "x" ∷ []))
  pub section_ : record_of 42 (codes "ROWS") ≡ Some (Section (codes "ROWS" ∷ []))
  pub words : record_of 42 (codes "NAME a b") ≡ Some (Section (codes "NAME" ∷ codes "a" ∷ codes "b" ∷ []))
  pub of_text :
      records (codes "* x\nROWS\r\n\r\n N COST\n")
      ≡ Section (codes "ROWS" ∷ []) ∷ Entry (codes "N" ∷ codes "COST" ∷ []) ∷ []
