-- The definitions tried on three columns, by hand.
use Rattle.std.specs.Prelude.{◌≡◌, ℕ, [], ◌∷◌, List, Option, None, Some}
use Rattle.cip_rational.specs.Rational.{whole}
use Rattle.cip_problem.specs.Program.{Row}
use Rattle.cip_search.specs.Forms.{Form, constant_form, spread, gathered, kept_at, number_in, kept_from, renumbered}

-- the second column is twice the first one and 1, or it is 2
abbrev pub twice_and_one : List (Option Form)
twice_and_one = None ∷ Some (record { constant = whole 1 0; factor = whole 2 0; source = 0 }) ∷ None ∷ []

abbrev pub at_two : List (Option Form)
at_two = None ∷ Some (constant_form (whole 2 0)) ∷ None ∷ []

-- the row 3 x + 4 z, over all three columns and over the two that stay
abbrev pub three_and_four : ℕ → Row
three_and_four last = record {
  terms = record { column = 0; coefficient = whole 3 0 } ∷ record { column = last; coefficient = whole 4 0 } ∷ [];
  low = None;
  high = Some (whole 9 0);
}

pub record Examples : Type 0 where
  pub of_form : spread twice_and_one (whole 5 0 ∷ whole 9 0 ∷ []) ≡ whole 5 0 ∷ whole 11 0 ∷ whole 9 0 ∷ []
  pub of_constant : spread at_two (whole 5 0 ∷ whole 9 0 ∷ []) ≡ whole 5 0 ∷ whole 2 0 ∷ whole 9 0 ∷ []
  pub left : gathered at_two (whole 5 0 ∷ whole 2 0 ∷ whole 9 0 ∷ []) ≡ whole 5 0 ∷ whole 9 0 ∷ []
  pub old_numbers : kept_from 0 at_two ≡ 0 ∷ 2 ∷ []
  pub old_number : kept_at at_two 1 ≡ 2
  pub new_number : number_in at_two 2 ≡ 1
  pub new_row : renumbered at_two (three_and_four 2) ≡ three_and_four 1
