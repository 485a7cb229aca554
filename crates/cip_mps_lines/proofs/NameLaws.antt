-- Names that stand once: each has its place as its number.
use Rattle.std.proofs.Common.{◌≡◌, ℕ, true, false, List, [], ◌∷◌, ◌++◌, Option, Some, sym, ap, inl, inr, ◌∙◌}
use Rattle.std.specs.Prelude.{is_some}
use Rattle.cip_text_rules.specs.MpsWords.{number_in, is_in}
use Rattle.cip_mps_lines.specs.NamesApart.{AreApart}
use Rattle.cip_text_rules.proofs.LookUps.{number_in-left, number_in-push}
use Rattle.cip_model.proofs.NamePlaces.{get_push}

in_from : (o : Option ℕ) (k : ℕ) → o ≡ Some k → is_some o ≡ true
in_from o k e = ap is_some e

pub apart_push : (names : List (List ℕ)) (new : List ℕ) → is_in names new ≡ false → AreApart names → AreApart (names ++ new ∷ [])
apart_push names new absent h = record {
  apart = λ k name e. elim (get_push names new name k e) [
    | inl found ↦ number_in-left names (new ∷ []) name (in_from (number_in names name) k (h.apart k name found)) ∙ h.apart k name found
    | inr last ↦ ap (number_in (names ++ new ∷ [])) last.1 ∙ number_in-push names new absent ∙ ap Some (sym last.0)
  ];
}

pub none_apart : AreApart []
none_apart = record { apart = λ k name e. absurd (cc) }
