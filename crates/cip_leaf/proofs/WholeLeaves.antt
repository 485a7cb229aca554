-- Leaves of a program whose columns are all whole: each has one point.
use Rattle.std.proofs.Common.{◌≡◌, inl, true, List, [], length, All, refl, sym, ap, ◌∙◌, subst}
use Rattle.cip_rational.specs.Rational.{ℚ, ◌≤ℚ◌}
use Rattle.cip_rational.proofs.Rational.Order.{≤ℚ_refl}
use Rattle.cip_problem.specs.Program.{Program}
use Rattle.cip_problem.specs.WellFormed.{IsWellFormed, columns}
use Rattle.cip_problem.specs.Points.{IsFeasible, cost_of}
use Rattle.cip_search.specs.Leaf.{IsLeaf, IsPointOf, at_wholes}
use Rattle.cip_search.specs.Wide.{Place as WidePlace, InRow, InCost, IsWideAt}
use Rattle.cip_search.proofs.Points.{all_wholes, whole_leaf}
use Rattle.cip_search.specs.WideLeaf.{AtPlace, SumOverflows, IsWideBy}
use Rattle.cip_search.proofs.WholeLeaves.{leaf-long, all_fixed}
use Rattle.cip_model.specs.declared.verdicts.Place.{Place}
use Rattle.cip_model.specs.declared.verdicts.Verdict.{Verdict}
use Rattle.cip_model.specs.declared.verdicts.Verdict.TheVariants.{Feasible, Wide}
use Rattle.cip_model.specs.Meaning.{Overflows}
use Rattle.cip_model.specs.Verdicts.{verdict_of}
use Rattle.cip_leaf.specs.LeafAnswers.{place_of, IsBestValues}
use Rattle.cip_leaf.proofs.Sums.{point_overflows}
use Rattle.cip_leaf.proofs.Ends.{settled}

-- ---- the one point

module _ (program : Program) (leaf : List ℚ) (formed : IsWellFormed program) (none : program.choices ≡ []) (whole : All (λ whole. whole ≡ true) program.integral) (is_leaf : IsLeaf program leaf) where
  same_long : length leaf ≡ length program.integral
  same_long = leaf-long program.integral program.bounds leaf whole (formed.integral ∙ sym formed.bounds) is_leaf

  pub long : length leaf ≡ columns program
  long = same_long ∙ formed.integral

  -- a leaf has no other point
  one : (point : List ℚ) → IsPointOf program leaf point → point ≡ leaf
  one point h = whole_leaf program leaf point whole (formed.integral ∙ sym formed.bounds) h

  pub best : (point : List ℚ) (cost : ℚ) → point ≡ leaf → IsFeasible program leaf → verdict_of program leaf ≡ Feasible cost → cost ≡ cost_of program leaf → IsBestValues program leaf point cost
  best point cost e feasible v c = record {
    is_point = record { feasible = subst (IsFeasible program) (sym e) feasible; values = ap (λ p. at_wholes program.integral p) e ∙ all_wholes program.integral leaf whole same_long };
    found = ap (verdict_of program) e ∙ v;
    cost_is = c ∙ ap (cost_of program) (sym e);
    least = λ other h. subst (λ p. cost ≤ℚ cost_of program p) (sym (one other h)) (subst (λ n. cost ≤ℚ n) c (≤ℚ_refl cost));
  }

  sum_wide : (place : WidePlace) → SumOverflows program program.constant leaf place → IsWideAt program leaf place
  sum_wide (InRow number) h = record { row = h.row; is_row = h.is_row; wide = (let f = all_fixed program.integral leaf whole same_long in let o = h.overflows in rw (f, o) refl) }
  sum_wide InCost h = let f = all_fixed program.integral leaf whole same_long in rw f h

  pub wide : (place : Place) → Overflows program leaf place → IsWideBy program leaf (AtPlace (place_of place))
  wide place h = inl (sum_wide (place_of place) (point_overflows program formed leaf long place h))

  pub no_point : (verdict : Verdict) → verdict ≡ verdict_of program leaf → ((cost : ℚ) → ¬ (verdict ≡ Feasible cost)) → ((place : Place) → ¬ (verdict ≡ Wide place)) → (point : List ℚ) → ¬ IsPointOf program leaf point
  no_point verdict v f w point h = settled program leaf formed none is_leaf leaf verdict (subst (IsPointOf program leaf) (one point h) h) v f w
