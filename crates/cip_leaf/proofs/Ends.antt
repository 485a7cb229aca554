-- What the ends of a leaf's program say of the leaf.
use Rattle.std.proofs.Common.{◌≡◌, inl, inr, List, [], ◌∷◌, length, sym, ap, ◌∙◌, subst, arith}
use Rattle.cip_rational.specs.Rational.{ℚ, ◌+ℚ◌, ◌≤ℚ◌}
use Rattle.cip_rational.specs.Sums.{dot}
use Rattle.cip_rational.proofs.Linear.{linear_le}
use Rattle.cip_problem.specs.Program.{Program}
use Rattle.cip_problem.specs.WellFormed.{IsWellFormed, columns}
use Rattle.cip_problem.specs.Points.{cost_of}
use Rattle.cip_problem.specs.LinearProgram.{LinearProgram, IsOptimal}
use Rattle.cip_bland.specs.EndAnswers as def
use Rattle.cip_bland.specs.NoRepeat.{whole_answer}
use Rattle.cip_bland.specs.Statements.{IsRight, ShowsOptimum}
use Rattle.cip_bland.proofs.ListEnds.{answers_end}
use Rattle.cip_search.specs.Leaf.{IsLeaf, IsPointOf}
use Rattle.cip_search.specs.LeafProgram.{at_continuous, merged, program_of_leaf}
use Rattle.cip_search.specs.WideLeaf.{AtPlace, SumOverflows, EndOverflows, IsWideBy}
use Rattle.cip_search.proofs.Merged.{leaf_proper, point_back, point_on, cost_split, merged-long}
use Rattle.cip_model.specs.declared.verdicts.Place.{Place}
use Rattle.cip_model.specs.declared.verdicts.Verdict.{Verdict}
use Rattle.cip_model.specs.declared.verdicts.Verdict.TheVariants.{Feasible, Wide}
use Rattle.cip_model.specs.Meaning.{Overflows}
use Rattle.cip_model.specs.Verdicts.{verdict_of}
use Rattle.cip_model.proofs.Meaning.Point.{verdict_on_feasible}
use Rattle.cip_leaf.specs.LeafAnswers.{place_of, IsBestValues, EndsInOptimum}
use Rattle.cip_leaf.proofs.Sums.{point_overflows}

module _ (program : Program) (leaf : List ℚ) (formed : IsWellFormed program) (none : program.choices ≡ []) (is_leaf : IsLeaf program leaf) where
  abbrev linear : LinearProgram
  linear = program_of_leaf program leaf

  pub right : IsRight linear (whole_answer linear)
  right = (answers_end linear (leaf_proper program leaf formed)).right

  pub long_point : (others : List ℚ) → length (merged program.integral leaf others) ≡ columns program
  long_point others = merged-long program.integral leaf others ∙ formed.integral

  -- ---- an optimum

  shows : (others : List ℚ) (e : EndsInOptimum program leaf others) → ShowsOptimum linear others e.certificate e.cost
  shows others e = subst (IsRight linear) e.is_answer right

  pub optimum_point : (others : List ℚ) → EndsInOptimum program leaf others → IsPointOf program leaf (merged program.integral leaf others)
  optimum_point others e = point_back program leaf others formed none is_leaf (shows others e).optimal.is_point

  cheapest : (others other : List ℚ) (number : ℚ) → IsOptimal linear others number → IsPointOf program leaf other → cost_of program (merged program.integral leaf others) ≤ℚ cost_of program other
  cheapest others other number best h =
      let told = point_on program leaf other formed h in
      let xs = at_continuous program.integral other in
      let base = cost_of program (merged program.integral leaf []) in
      let least : number ≤ℚ dot linear.costs xs = best.least xs told.is_point in
      let own : dot linear.costs others ≡ number = best.cost_is in
      let first : cost_of program (merged program.integral leaf others) ≡ base +ℚ dot linear.costs others = cost_split program leaf others in
      let second : cost_of program (merged program.integral leaf xs) ≡ base +ℚ dot linear.costs xs = cost_split program leaf xs in
      let same : cost_of program other ≡ cost_of program (merged program.integral leaf xs) = ap (cost_of program) told.same in
      linear_le
      (cost_of program (merged program.integral leaf others) ∷ cost_of program other ∷ cost_of program (merged program.integral leaf xs) ∷ base ∷ dot linear.costs others ∷ dot linear.costs xs ∷ number ∷ [])
      (λ s w. omega (arith, s.le_out, s.same_out))

  pub best_on : (others point : List ℚ) (number cost : ℚ) → IsOptimal linear others number → point ≡ merged program.integral leaf others → verdict_of program point ≡ Feasible cost → cost ≡ cost_of program point → IsBestValues program leaf point cost
  best_on others point number cost best p v c = record {
    is_point = subst (IsPointOf program leaf) (sym p) (point_back program leaf others formed none is_leaf best.is_point);
    found = v;
    cost_is = c;
    least = λ other h. subst (λ t. t ≤ℚ cost_of program other) (sym (c ∙ ap (cost_of program) p)) (cheapest others other number best h);
  }

  pub best_by : (others point : List ℚ) (cost : ℚ) → EndsInOptimum program leaf others → point ≡ merged program.integral leaf others → verdict_of program point ≡ Feasible cost → cost ≡ cost_of program point → IsBestValues program leaf point cost
  best_by others point cost e p v c = best_on others point e.cost cost (shows others e).optimal p v c

  -- no other verdict comes
  pub settled : (point : List ℚ) (verdict : Verdict) → IsPointOf program leaf point → verdict ≡ verdict_of program point → ((cost : ℚ) → ¬ (verdict ≡ Feasible cost)) → ((place : Place) → ¬ (verdict ≡ Wide place)) → ⊥
  settled point verdict h v f w = elim (verdict_on_feasible program point formed h.feasible) [
    | inl e ↦ f (cost_of program point) (v ∙ e)
    | inr e ↦ w e.0 (v ∙ e.1)
  ]

  optimum_wide_at : (others : List ℚ) (place : Place) (a : def.Answer) (certificate : def.Certificate) (cost : ℚ) → a ≡ def.Optimal others certificate cost → SumOverflows program program.constant (merged program.integral leaf others) (place_of place) → EndOverflows program leaf (place_of place) a
  optimum_wide_at others place a certificate cost e h = rw e h

  pub optimum_wide : (others point : List ℚ) (place : Place) → EndsInOptimum program leaf others → point ≡ merged program.integral leaf others → Overflows program point place → IsWideBy program leaf (AtPlace (place_of place))
  optimum_wide others point place e p h =
      inr (inr (optimum_wide_at others place (whole_answer linear) e.certificate e.cost e.is_answer
      (point_overflows program formed (merged program.integral leaf others) (long_point others) place (subst (λ x. Overflows program x place) p h))))
