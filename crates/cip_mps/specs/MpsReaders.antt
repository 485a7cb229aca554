-- What a text of free MPS comes to, as a reader takes it in pieces.
use Rattle.std.specs.Prelude.{ℕ, List}
use Rattle.cip_text_rules.specs.LineStream.{stream_of}
use Rattle.cip_text.specs.TextFaults.{IsFaultBy}
use Rattle.cip_text.specs.declared.text_faults.ReadFault.{ReadFault}
use Rattle.cip_text_rules.specs.MpsOutcome.{HasFault}
use Rattle.cip_text_rules.specs.MpsSteps.{mps_steps}
use Rattle.cip_mps.specs.declared.kinds.MpsKind.{MpsKind}
use Rattle.cip_mps.specs.declared.mps_text.MpsText.{MpsText}
use Rattle.cip_mps.specs.MpsKindTexts.{kind_number}
use Rattle.cip_mps.specs.MpsTexts.{StandsFor}

-- these bytes have come
abbrev pub HasCome : MpsText → (bytes : List ℕ) → Type 0
HasCome text bytes = StandsFor text (stream_of mps_steps bytes)

-- why a text gives no program
abbrev pub IsFaultOf : (bytes : List ℕ) → ReadFault MpsKind → Type 0
IsFaultOf bytes = IsFaultBy kind_number (HasFault bytes)
