-- Whose each column and each row is, by the numbers that each block has.
use Rattle.std.specs.Prelude.{ℕ, zero, suc, List, [], ◌∷◌, Some, slice_set}
use Rattle.cip_pricing.specs.Decomposition.{Owner}

-- owners with these numbers given to a block
abbrev pub marked : List ℕ → ℕ → List Owner → List Owner
marked [] block owners = owners
marked (number ∷ numbers) block owners = marked numbers block (slice_set owners number (Some block))

-- owners with the numbers of the first so many blocks given to them
abbrev pub owned_below : (ℕ → List ℕ) → ℕ → List Owner → List Owner
owned_below numbers zero owners = owners
owned_below numbers (suc block) owners = marked (numbers block) block (owned_below numbers block owners)
