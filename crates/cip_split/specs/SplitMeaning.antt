-- What a split cut that is accepted means.
use Rattle.std.specs.Prelude.{◌≡◌, ℕ, ◌||◌, Bool, List, map, Ok}
use Rattle.cip_rational.specs.Rational.{integer}
use Rattle.cip_problem.specs.Program.{Term, Sides}
use Rattle.cip_problem.specs.Aggregate.{Inequality}
use Rattle.cip_problem.specs.Splits.{SplitForm, IsSplitRow}
use Rattle.cip_cert.specs.declared.rows.PoolRow.{PoolRow}
use Rattle.cip_cert.specs.declared.splits.FormTerm.{FormTerm}
use Rattle.cip_cert.specs.declared.splits.SplitCut.{SplitCut}
use Rattle.cip_cert.specs.Lent.{Lent, multiples_of}
use Rattle.cip_cert.specs.Checks.{aggregate_of}
use Rattle.cip_cert.specs.Resting.{rests_on_cutoff}

-- a term of a form as a term of rational numbers
abbrev pub term_of : FormTerm → Term
term_of term = record { column = term.col; coefficient = integer term.coef }

-- the split of a cut
abbrev pub split_form_of : SplitCut → SplitForm
split_form_of cut = record {
  form = map term_of cut.form.items;
  at = cut.k;
  left_factor = cut.left_factor;
  right_factor = cut.right_factor;
}

-- a row is the split row of the aggregated rows of both combinations
pub record IsRowOf (lent : Lent) (integral : List Bool) (box : List Sides) (columns : ℕ) (cut : SplitCut)
    (row : Inequality) : Type 0 where
  pub left : Inequality
  pub right : Inequality
  pub left_sum : aggregate_of lent box columns (multiples_of cut.left) ≡ Ok left
  pub right_sum : aggregate_of lent box columns (multiples_of cut.right) ≡ Ok right
  pub split : IsSplitRow integral (split_form_of cut) left right row

-- a split cut rests on the cutoff row where one of its combinations does
abbrev pub split_rests : List PoolRow → SplitCut → Bool
split_rests pool cut = rests_on_cutoff pool cut.left.rows.items || rests_on_cutoff pool cut.right.rows.items
