-- A plugin that keeps its calls has room for the two last ones.
use Rattle.std.proofs.Common.{◌≡◌, ◌+◌, List, [], ◌∷◌, ◌++◌, map, ap, ◌∙◌}
use Rattle.std.proofs.lemmas.List.{map-append}
use Rattle.cip_plugin.specs.Telling.{endings}
use Rattle.cip_plugin.proofs.Telling.{endings-append}
use Rattle.cip_solve_tests.specs.declared.told.Told.{Told}
use Rattle.cip_solve_tests.specs.ToldCalls.{told_call}

-- how many of the two last calls were kept, behind one more
pub kept_endings : (calls later : List Told) (call : Told) → later ≡ calls ++ call ∷ []
    → endings (map told_call later) ≡ endings (map told_call calls) + endings (told_call call ∷ [])
kept_endings calls later call is =
    ap (λ (all : List Told). endings (map told_call all)) is
    ∙ ap endings (map-append told_call calls (call ∷ []))
    ∙ endings-append (map told_call calls) (told_call call ∷ [])
