-- Columns of blocks without both bounds, by the blocks of columns.
use Rattle.std.specs.Prelude.{ℕ, Bool, false, not, ◌&&◌, ◌||◌, List, [], ◌∷◌, Option, is_some}
use Rattle.cip_problem.specs.Program.{Sides}
use Rattle.cip_problem.specs.BlockParts.{is_bounded}

-- a column of a block lacks a bound
abbrev pub has_open_owned : List Sides → List (Option ℕ) → Bool
has_open_owned [] owners = false
has_open_owned (sides ∷ others) [] = false
has_open_owned (sides ∷ others) (owner ∷ owners) =
    (is_some owner && not (is_bounded sides)) || has_open_owned others owners
