-- A text that is read byte by byte, piece by piece.
use Rattle.std.proofs.Common.{◌≡◌, refl, ap}
use Rattle.cip_text_rules.specs.LineTexts.{Reading}
use Rattle.cip_text_rules.proofs.LineSame.{StandsFor}

-- one way to read texts stands for itself
pub same_way : {K I X : Type 0} (r : Reading K I X) → StandsFor r r (λ k s. s ≡ k)
same_way r = record {
  items = refl;
  long = refl;
  start = refl;
  fault = λ k s item g. ap (λ x. r.fault x item) g;
  next = λ k s item g e. ap (λ x. r.next x item) g;
  end_fault = λ k s g. ap r.end_fault g;
  result = λ k s g e. ap r.result g;
}
