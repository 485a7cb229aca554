-- The laws of texts of blocks, each as one statement: functions of `src/` have them as contracts.
use Rattle.std.specs.Prelude.{◌≡◌, ◌↔◌, ⊤, ℕ, ◌<◌, ◌≤◌, ◌==◌, true, false, ◌&&◌, List, [], ◌∷◌, None, Some, length, slice_index_or}
use Rattle.std.specs.List.{AllByRecursion, list_any}
use Rattle.cip_problem.specs.Program.{Program}
use Rattle.cip_text_rules.specs.MpsWords.{is_in}
use Rattle.cip_text_rules.specs.LineTexts.{HasResult}
use Rattle.cip_text_rules.specs.LineStatements.{OneOutcome, FaultsAreFirst, ResultsAreDescribed, known_of}
use Rattle.cip_problem.specs.BlockParts.{Blocks, has_number}
use Rattle.cip_problem.specs.BlockMeaning.{part_at, AreBlocks}
use Rattle.cip_text_rules.specs.NamedRows.{NamedRow, is_named, block_named}
use Rattle.cip_text_rules.specs.BlockWords.{word_said}
use Rattle.cip_text_rules.specs.BlockRules.{BlockFacts, block_rules, block_fault, block_end_rules, block_end_fault, block_reading}

-- a text has blocks or a first fault, never both, and one of each at the most
abbrev pub BlocksHaveOneOutcome : Type 0
BlocksHaveOneOutcome = (program : Program) → OneOutcome (block_reading program)

-- the fault of a text is that of its first faulty word; else the one behind the last line, if there is one
abbrev pub BlockFaultsAreFirst : Type 0
BlockFaultsAreFirst = (program : Program) → FaultsAreFirst (block_reading program)

-- a text has blocks exactly where no word has a fault, and there is none behind the last line
abbrev pub BlocksAreDescribed : Type 0
BlocksAreDescribed = (program : Program) → ResultsAreDescribed (block_reading program)

-- the fault of a word is a kind whose rule is broken, and no lesser one is; a word without fault breaks none; and so
-- behind the last line
pub record BlockFaultsAreLeast : Type 0 where
  pub broken : (program : Program) (facts : BlockFacts) (word : List ℕ) (kind : ℕ)
      → block_fault program facts word ≡ Some kind
      → list_any (λ r. r.kind == kind && r.broken) (block_rules program facts (word_said facts.place word)) ≡ true
  pub least : (program : Program) (facts : BlockFacts) (word : List ℕ) (kind : ℕ)
      → block_fault program facts word ≡ Some kind
      → AllByRecursion (λ r. r.broken ≡ true → kind ≤ r.kind) (block_rules program facts (word_said facts.place word))
  pub none : (program : Program) (facts : BlockFacts) (word : List ℕ) → block_fault program facts word ≡ None
      → AllByRecursion (λ r. r.broken ≡ false) (block_rules program facts (word_said facts.place word))
  pub end_broken : (program : Program) (facts : BlockFacts) (kind : ℕ) → block_end_fault program facts ≡ Some kind
      → list_any (λ r. r.kind == kind && r.broken) (block_end_rules program facts) ≡ true
  pub end_least : (program : Program) (facts : BlockFacts) (kind : ℕ) → block_end_fault program facts ≡ Some kind
      → AllByRecursion (λ r. r.broken ≡ true → kind ≤ r.kind) (block_end_rules program facts)
  pub end_none : (program : Program) (facts : BlockFacts) → block_end_fault program facts ≡ None
      → AllByRecursion (λ r. r.broken ≡ false) (block_end_rules program facts)

-- ---- the blocks

-- the blocks of a text are such
abbrev pub BlocksAreApart : Type 0
BlocksAreApart =
    (program : Program) (text : List ℕ) (blocks : Blocks) → HasResult (block_reading program) text blocks
    → AreBlocks program blocks

-- ---- the names

-- no name stands twice
abbrev pub AreNamedOnce : List NamedRow → Type 0
AreNamedOnce [] = ⊤
AreNamedOnce (row ∷ others) = (is_named others row.name ≡ false) × AreNamedOnce others

-- the rows that a text names, each with its block
abbrev pub named_by : Program → List ℕ → List NamedRow
named_by program text = (known_of (block_reading program) text).named

-- no row is named twice, each is one of the program, and a row is of the block that it was named for
pub record AreOfNames (program : Program) (text : List ℕ) (blocks : Blocks) : Type 0 where
  pub once : AreNamedOnce (named_by program text)
  pub known : AllByRecursion (λ row. is_in program.row_names row.name ≡ true) (named_by program text)
  pub of_block : (k b : ℕ) → k < length program.row_names → b < length blocks.blocks
      → (has_number (part_at blocks b).rows k ≡ true)
      ↔ (block_named (named_by program text) (slice_index_or program.row_names k []) ≡ Some b)
  pub of_master : (k : ℕ) → k < length program.row_names
      → (has_number blocks.master_rows k ≡ true)
      ↔ (block_named (named_by program text) (slice_index_or program.row_names k []) ≡ None)

-- the rows of a text's blocks are those that it names
abbrev pub BlocksAreOfNames : Type 0
BlocksAreOfNames =
    (program : Program) (text : List ℕ) (blocks : Blocks) → HasResult (block_reading program) text blocks
    → AreOfNames program text blocks
