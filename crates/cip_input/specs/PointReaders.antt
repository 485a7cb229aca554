-- What a text of a point comes to, as a reader takes it in pieces.
use Rattle.std.specs.Prelude.{ℕ, List}
use Rattle.cip_problem.specs.Program.{Program}
use Rattle.cip_text_rules.specs.LineTexts.{HasFault}
use Rattle.cip_text_rules.specs.LineStream.{stream_of}
use Rattle.cip_text.specs.TextFaults.{IsFaultBy}
use Rattle.cip_text.specs.declared.text_faults.ReadFault.{ReadFault}
use Rattle.cip_text_rules.specs.PointRules.{point_reading}
use Rattle.cip_input.specs.declared.kinds.PointKind.{PointKind}
use Rattle.cip_input.specs.declared.point_text.PointText.{PointText}
use Rattle.cip_input.specs.PointKindTexts.{kind_number}
use Rattle.cip_input.specs.PointTexts.{steps_of, StandsFor}

-- these bytes have come
abbrev pub HasCome : PointText → (bytes : List ℕ) → Type 0
HasCome text bytes = StandsFor text (stream_of (steps_of text) bytes)

-- why a text gives no point
abbrev pub IsFaultOf : Program → (bytes : List ℕ) → ReadFault PointKind → Type 0
IsFaultOf program bytes = IsFaultBy kind_number (HasFault (point_reading program) bytes)
