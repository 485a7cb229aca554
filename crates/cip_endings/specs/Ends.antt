-- How a search ends by what it has found and by what is left of it.
use Rattle.std.specs.Prelude.{◌≡◌, Bool, true, false, Option, None, Some, IsSome}
use Rattle.cip_rational.specs.Rational.{ℚ}
use Rattle.cip_problem.specs.Log.{matters}
use Rattle.cip_search.specs.Leaf.{Leaf}
use Rattle.cip_report.specs.Shown.{Shown}
use Rattle.cip_report.specs.declared.figures.Ended.{Ended}
use Rattle.cip_report.specs.declared.figures.Ended.TheVariants.{Optimal, Infeasible, Unbounded, NodeLimit}
use Rattle.cip_report.specs.declared.figures.Ended.TheVariants.{Gap, Wide, NoMemory}
use Rattle.cip_endings.specs.Worst.{leaf_of, worst_bound}
use Rattle.cip_endings.specs.declared.worst.Worst.{Worst}

-- there is a bound, and it matters beside the cost held
abbrev pub one_matters : Option ℚ → Option (Option ℚ) → Bool
one_matters held None = false
one_matters held (Some bound) = matters held bound

-- the worst leaf matters, and is shown
pub record IsShownWorst (held : Option ℚ) (worst : Option Worst) (leaf : Leaf) (shown : Shown) : Type 0 where
  pub found : Worst
  pub is_worst : worst ≡ Some found
  pub leaf_is : leaf ≡ leaf_of found
  pub shown_is : shown ≡ found.shown
  pub matter : matters held found.bound ≡ true

-- beside a cost held, with the least bound of open nodes and the worst leaf; where a gap that was asked for isn't
-- reached
abbrev pub EndsBy : Option ℚ → Option (Option ℚ) → Option Worst → Ended → Type 0
EndsBy held open_ worst Optimal =
    (one_matters held open_ ≡ false) × (one_matters held (worst_bound worst) ≡ false) × IsSome held
EndsBy held open_ worst Infeasible =
    (one_matters held open_ ≡ false) × (one_matters held (worst_bound worst) ≡ false) × (held ≡ None)
EndsBy held open_ worst (Unbounded ray) = ⊥
EndsBy held open_ worst NodeLimit = one_matters held open_ ≡ true
EndsBy held open_ worst Gap = ⊥
EndsBy held open_ worst (Wide leaf on shown) =
    (one_matters held open_ ≡ false)
    × IsShownWorst held worst (record { values = leaf.items; on = on.items }) shown
EndsBy held open_ worst NoMemory = ⊥
