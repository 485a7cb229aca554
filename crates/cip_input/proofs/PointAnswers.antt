-- What is told of a text of a point.
use Rattle.std.proofs.Common.{List, ℕ, Err}
use Rattle.cip_problem.specs.Program.{Program}
use Rattle.cip_text.specs.EndedFaults.{IsKnownFault}
use Rattle.cip_text.specs.TextFaults.{IsToldBy}
use Rattle.cip_text.specs.PieceReaders.{IsFed}
use Rattle.cip_text.specs.declared.text_faults.ReadFault.{ReadFault}
use Rattle.cip_text.specs.declared.text_faults.ReadFault.TheVariants.{Faulty, NoMemory}
use Rattle.cip_text_rules.specs.PointRules.{point_reading}
use Rattle.cip_input.specs.declared.kinds.PointKind.{PointKind}
use Rattle.cip_input.specs.PointKindTexts.{kind_number}
use Rattle.cip_input.specs.PointReaders.{IsFaultOf}

-- why a text that came whole gives no point
pub whole_fault : (program : Program) (text : List ℕ) (HasRead IsSpent : Type 0) (cause : ReadFault PointKind) → IsFed HasRead IsSpent (IsToldBy kind_number (IsKnownFault (point_reading program) text)) (Err cause) → IsFaultOf program text cause
whole_fault program text HasRead IsSpent (Faulty fault) h = h.1.fault
whole_fault program text HasRead IsSpent NoMemory h = tt
