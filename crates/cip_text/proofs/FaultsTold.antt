-- What is told of texts.
use Rattle.std.proofs.Common.{ℕ, List, Result, Ok, Err}
use Rattle.cip_text_rules.specs.LineTexts.{Reading}
use Rattle.cip_text_rules.specs.LineStream.{stream_of, FaultsOfEndedLines}
use Rattle.cip_text.specs.declared.text_faults.TextFault.{TextFault}
use Rattle.cip_text.specs.PieceCuts.{Cut, known_fault}
use Rattle.cip_text.specs.PieceStands.{StandsAt}
use Rattle.cip_text.specs.EndedFaults.{IsKnownFault}
use Rattle.cip_text.specs.TextFaults.{by_number, IsSaid, IsToldBy}
use Rattle.cip_text.proofs.Streams.{quiet, faulty}

-- of the bytes that came
pub told_by : {F K S I X : Type 0} (reading : Reading K I X) (steps : Reading S I X) → FaultsOfEndedLines reading steps → (text : List ℕ) (cut : Cut) (known : S) → StandsAt cut known (stream_of steps text) → (number_of : F → ℕ) (answer : Result (Unit {0}) (TextFault F)) → IsSaid number_of (known_fault steps.long cut) answer → IsToldBy number_of (IsKnownFault reading text) answer
told_by reading steps law text cut known stands number_of (Ok _) s = quiet reading steps law text cut known stands s
told_by reading steps law text cut known stands number_of (Err fault) s = faulty reading steps law text cut known stands (by_number number_of fault) s
