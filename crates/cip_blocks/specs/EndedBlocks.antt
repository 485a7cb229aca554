-- What a text of blocks comes to, as it is answered.
use Rattle.std.specs.Prelude.{◌≡◌, ⊤, ℕ, List, Option, None, Some, Result, Ok, Err}
use Rattle.cip_problem.specs.Program.{Program}
use Rattle.cip_text_rules.specs.LineTexts.{HasFault}
use Rattle.cip_text.specs.declared.faults.KnownFault.{KnownFault}
use Rattle.cip_text.specs.declared.text_faults.ReadFault.{ReadFault}
use Rattle.cip_text.specs.declared.text_faults.ReadFault.TheVariants.{Faulty, NoMemory}
use Rattle.cip_text.specs.TextFaults.{by_number, IsFaultBy}
use Rattle.cip_problem.specs.BlockParts.{Blocks}
use Rattle.cip_text_rules.specs.BlockRules.{block_reading}
use Rattle.cip_blocks.specs.declared.kinds.BlockKind.{BlockKind}
use Rattle.cip_blocks.specs.BlockKindTexts.{kind_number}

-- why a text gives no blocks
abbrev pub IsFaultOf : Program → (text : List ℕ) → ReadFault BlockKind → Type 0
IsFaultOf program text = IsFaultBy kind_number (HasFault (block_reading program) text)

-- what is answered of a text that has this fault, or none and then this value
abbrev pub IsEnded : Option KnownFault → (value : Blocks) → Result Blocks (ReadFault BlockKind) → Type 0
IsEnded known value (Ok blocks) = (known ≡ None) × (blocks ≡ value)
IsEnded known value (Err (Faulty fault)) = known ≡ Some (by_number kind_number fault)
IsEnded known value (Err NoMemory) = ⊤
