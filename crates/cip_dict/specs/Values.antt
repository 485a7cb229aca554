-- The values of a dictionary after a variable has moved, by its lists.
use Rattle.std.specs.Prelude.{◌≡◌, ℕ, ◌==◌, Bool, true, false, ◌||◌, List, [], Option, Some, None, if◌then◌else◌}
use Rattle.cip_rational.specs.Rational.{ℚ, ◌+ℚ◌, ◌*ℚ◌}
use Rattle.cip_problem.specs.Activity.{value_at}
use Rattle.cip_bland.specs.Exchange.{moved_at}
use Rattle.cip_bland.specs.Operations.{Placed, first_overflow, value_place, sum_at}
use Rattle.cip_bland.specs.MoveOperations.{moved_operations_at}
use Rattle.cip_bland.specs.declared.places.Line.TheVariants.{Row}
use Rattle.cip_bland.specs.declared.places.EntryPlace.{EntryPlace}
use Rattle.cip_bland.specs.declared.moves.Stand.{Stand}
use Rattle.cip_dict.specs.Lists.{basic_in, entry_in}

-- the product a * b was added to c, which came to `new`; or one of the two operations overflows
abbrev pub IsAdded : Bool → ℚ → ℚ → ℚ → ℚ → Type 0
IsAdded true c a b new = ((place : EntryPlace) → first_overflow (sum_at place c a b) ≡ None) × (new ≡ c +ℚ a *ℚ b)
IsAdded false c a b new = (place : EntryPlace) → first_overflow (sum_at place c a b) ≡ Some place

-- the value of v after j has moved by t
abbrev pub moved_in : List (Option Stand) → List (List ℚ) → ℕ → ℚ → List ℚ → ℕ → ℚ
moved_in standing rows j t values v =
    moved_at (v == j) (basic_in standing v) t (value_at values v) (entry_in rows v j)

-- its operations
abbrev pub moved_operations_in : List (Option Stand) → List (List ℚ) → ℕ → ℚ → List ℚ → ℕ → List Placed
moved_operations_in standing rows j t values v =
    moved_operations_at (value_place (Row v)) (v == j) (basic_in standing v) t (value_at values v) (entry_in rows v j)

-- its operations where j flips, for which nothing is formed
abbrev pub flipped_operations_in : List (Option Stand) → List (List ℚ) → ℕ → ℚ → List ℚ → ℕ → List Placed
flipped_operations_in standing rows j t values v =
    if basic_in standing v then sum_at (value_place (Row v)) (value_at values v) (entry_in rows v j) t else []

-- whether the value of v may change as j moves: it is basic, or j
abbrev pub value_moves : List (Option Stand) → ℕ → ℕ → Bool
value_moves standing j v = basic_in standing v || (v == j)

-- the value of v after those that may change have been taken from another list
abbrev pub taken_value : List (Option Stand) → ℕ → List ℚ → List ℚ → ℕ → ℚ
taken_value standing j values other v =
    if value_moves standing j v then value_at other v else value_at values v
