-- What is told of a text of free MPS.
use Rattle.std.proofs.Common.{List, ℕ, Err}
use Rattle.cip_text.specs.EndedFaults.{IsKnownFault}
use Rattle.cip_text.specs.TextFaults.{IsToldBy}
use Rattle.cip_text.specs.PieceReaders.{IsFed}
use Rattle.cip_text.specs.declared.text_faults.ReadFault.{ReadFault}
use Rattle.cip_text.specs.declared.text_faults.ReadFault.TheVariants.{Faulty, NoMemory}
use Rattle.cip_text_rules.specs.MpsOutcome.{mps_reading}
use Rattle.cip_mps.specs.declared.kinds.MpsKind.{MpsKind}
use Rattle.cip_mps.specs.MpsKindTexts.{kind_number}
use Rattle.cip_mps.specs.MpsReaders.{IsFaultOf}

-- why a text that came whole gives no program
pub whole_fault : (text : List ℕ) (HasRead IsSpent : Type 0) (cause : ReadFault MpsKind) → IsFed HasRead IsSpent (IsToldBy kind_number (IsKnownFault mps_reading text)) (Err cause) → IsFaultOf text cause
whole_fault text HasRead IsSpent (Faulty fault) h = h.1.fault
whole_fault text HasRead IsSpent NoMemory h = tt
