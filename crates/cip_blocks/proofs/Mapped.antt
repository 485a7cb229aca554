-- One item more of a list that is made item by item.
use Rattle.std.proofs.Common.{◌≡◌, ℕ, ◌+◌, ◌<◌, List, [], ◌∷◌, ◌++◌, length, take, map, sym, ap, ◌∙◌}
use Rattle.std.specs.Prelude.{slice_index_or}
use Rattle.std.proofs.lemmas.List.{map_more}

pub mapped_on : {X Y : Type 0} (f : X → Y) (xs : List X) (k : ℕ) (d : X) (old new : List Y) (value : Y) → k < length xs
    → old ≡ map f (take k xs) → value ≡ f (slice_index_or xs k d) → new ≡ old ++ value ∷ [] → new ≡ map f (take (k + 1) xs)
mapped_on f xs k d old new value l h v e =
    e ∙ ap (λ ys. ys ++ value ∷ []) h ∙ ap (λ y. map f (take k xs) ++ y ∷ []) v ∙ sym (map_more f xs k d l)
