-- What is told of a text of blocks.
use Rattle.std.proofs.Common.{List, ℕ, Result, Ok, Err, MatchResult, IfOk}
use Rattle.cip_problem.specs.Program.{Program}
use Rattle.cip_text_rules.specs.LineTexts.{HasResult}
use Rattle.cip_text.specs.EndedFaults.{IsKnownFault}
use Rattle.cip_text.specs.TextFaults.{IsToldBy}
use Rattle.cip_text.specs.PieceReaders.{IsFed}
use Rattle.cip_text.specs.declared.text_faults.ReadFault.{ReadFault}
use Rattle.cip_text.specs.declared.text_faults.ReadFault.TheVariants.{Faulty, NoMemory}
use Rattle.cip_problem.specs.BlockParts.{Blocks}
use Rattle.cip_problem.specs.BlockMeaning.{AreBlocks}
use Rattle.cip_text_rules.specs.BlockStatements.{BlocksAreApart}
use Rattle.cip_text_rules.specs.BlockRules.{block_reading}
use Rattle.cip_blocks.specs.declared.kinds.BlockKind.{BlockKind}
use Rattle.cip_blocks.specs.BlockKindTexts.{kind_number}
use Rattle.cip_blocks.specs.EndedBlocks.{IsFaultOf}

-- why a text that came whole gives no blocks
pub whole_fault : (program : Program) (text : List ℕ) (HasRead IsSpent : Type 0) (cause : ReadFault BlockKind) → IsFed HasRead IsSpent (IsToldBy kind_number (IsKnownFault (block_reading program) text)) (Err cause) → IsFaultOf program text cause
whole_fault program text HasRead IsSpent (Faulty fault) h = h.1.fault
whole_fault program text HasRead IsSpent NoMemory h = tt

-- the blocks of a text are such
pub whole_apart : BlocksAreApart → (program : Program) (text : List ℕ) (answer : Result Blocks (ReadFault BlockKind)) → MatchResult answer (HasResult (block_reading program) text) (IsFaultOf program text) → IfOk answer (AreBlocks program)
whole_apart law program text (Ok blocks) h = law program text blocks h
whole_apart law program text (Err fault) h = tt
