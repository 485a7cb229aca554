-- The definitions tried on programs that were worked out by hand: of two columns, along the second of which the cost
-- falls without end; and of one column, whose only leaf is wide by its first move.
use Rattle.std.specs.Prelude.{negsuc, List, [], ◌∷◌, Option, None, Some}
use Rattle.cip_rational.specs.Rational.{ℚ, integer, zeroℚ, oneℚ}
use Rattle.cip_problem.specs.Log.{Parked, Entry}
use Rattle.cip_search.specs.Leaf.{Leaf}
use Rattle.cip_search.specs.LeafProgramExamples.{steep, endless}
use Rattle.cip_search.specs.Figures.{AtMoves, Unbounded, Figures, Held}
use Rattle.cip_search.specs.Headline.{IsEndless, ShowsOverflow}

-- the point of zeros, at the cost 0
abbrev pub at_zeros : Held
at_zeros = record { cost = zeroℚ; point = zeroℚ ∷ zeroℚ ∷ [] }

-- unbounded is said, with a ray and a point or none
abbrev pub along : List ℚ → Option Held → Figures
along ray held = record { status = Unbounded ray; held = held; bound = None }

abbrev pub up : List ℚ
up = zeroℚ ∷ oneℚ ∷ []

abbrev pub down : List ℚ
down = zeroℚ ∷ integer (negsuc 0) ∷ []

-- the root was put aside
abbrev pub root_parked : List Entry
root_parked = record { node = 0; bound = Some zeroℚ; end = Parked } ∷ []

-- the leaf of a program without whole and semi-continuous columns
abbrev pub no_choices : Leaf
no_choices = record { values = []; on = [] }

pub record Examples : Type 0 where
  -- the cost falls along the second column, from a point that is printed, and rises the other way
  pub endless_up : IsEndless endless (along up (Some at_zeros)) up
  pub not_down : ¬ IsEndless endless (along down (Some at_zeros)) down
  pub not_without_point : ¬ IsEndless endless (along up None) up
  -- the leaf is wide by one move and not by two, and that is shown only where its node was put aside
  pub by_one_move : ShowsOverflow steep (Some zeroℚ) root_parked None no_choices (AtMoves 1)
  pub not_by_two : ¬ ShowsOverflow steep (Some zeroℚ) root_parked None no_choices (AtMoves 2)
  pub not_before : ¬ ShowsOverflow steep (Some zeroℚ) [] None no_choices (AtMoves 1)
