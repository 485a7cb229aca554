use Rattle.std.proofs.lemmas.Grind.{common_steps}
use Rattle.std.proofs.Common.{◌≡◌, ◌∙◌, true, false, true≢false, Bool, List, sym, ap, subst, arith}
use Rattle.cip_problem.specs.Program.{Sides, Row}
use Rattle.cip_rational.specs.Rational.{ℚ, zeroℚ}
use Rattle.cip_frac.specs.Outcomes.{dot_from}
use Rattle.cip_model.specs.declared.verdicts.Verdict.TheVariants.{Feasible}
use Rattle.cip_model.specs.Meaning.{VerdictHolds}
use Rattle.cip_model.specs.Verdicts.{verdict_of}
use Rattle.cip_model.specs.RayTests.{all_stay, all_still, rows_stay, cost_falls}
use Rattle.cip_model.proofs.Meaning.Ray.{bounds_broken, wholes_broken, rows_broken, cost_kept, feasible_along, shown_by}
use Rattle.cip_model.proofs.programs.Program.check_ray.Goals as goal

pub returns-then-not-keeps_bounds-clause-shown : goal.returns-then-not-keeps_bounds-clause-shown
returns-then-not-keeps_bounds-clause-shown c =
    let e : all_stay c.as_slice.result.now c.args.ray.now ≡ false = sym c.keeps_bounds.ensures
    ∙ c.if-not-keeps_bounds.true in (
      λ h. absurd (true≢false (sym h)),
      λ h. absurd (bounds_broken c.args.self.now c.args.point.now c.args.ray.now c.as_slice.result.now
          (c.as_slice.ensures ∙ c.bounds.ensures.bounds) e h),
    )

pub returns-then-not-keeps_wholes-clause-shown : goal.returns-then-not-keeps_wholes-clause-shown
returns-then-not-keeps_wholes-clause-shown c =
    let e : all_still c.whole.result.now c.args.ray.now ≡ false = sym c.keeps_wholes.ensures
    ∙ c.if-not-keeps_wholes.true in (
      λ h. absurd (true≢false (sym h)),
      λ h. absurd (wholes_broken c.args.self.now c.args.point.now c.args.ray.now c.whole.result.now
          c.whole.ensures.whole e h),
    )

pub returns-then-not-keeps_rows-clause-shown : goal.returns-then-not-keeps_rows-clause-shown
returns-then-not-keeps_rows-clause-shown c =
    let e : rows_stay c.rows.result.now c.args.ray.now ≡ false = sym c.keeps_rows.ensures ∙ c.if-not-keeps_rows.true in (
      λ h. absurd (true≢false (sym h)),
      λ h. absurd (rows_broken c.args.self.now c.args.point.now c.args.ray.now c.rows.result.now
          c.rows.ensures.rows e h),
    )

pub returns-clause-shown : goal.returns-clause-shown
returns-clause-shown c =
    let program = c.args.self.now in
    let ray = c.args.ray.now in
    let v : verdict_of program c.args.point.now ≡ Feasible c.in-Feasible.field-0 = sym c.check.ensures.verdict
    ∙ c.in-Feasible.is in
    let m : VerdictHolds program c.args.point.now (Feasible c.in-Feasible.field-0) = subst
    (VerdictHolds program c.args.point.now) c.in-Feasible.is c.check.ensures.meaning in
    let b : all_stay program.bounds ray ≡ true = ap (λ (box : List Sides). all_stay box ray) (sym (c.as_slice.ensures
    ∙ c.bounds.ensures.bounds)) ∙ sym c.keeps_bounds.ensures ∙ c.if-not-keeps_bounds.false in
    let w : all_still program.integral ray ≡ true = ap (λ (flags : List Bool). all_still flags ray)
    (sym c.whole.ensures.whole) ∙ sym c.keeps_wholes.ensures ∙ c.if-not-keeps_wholes.false in
    let r : rows_stay program.rows ray ≡ true = ap (λ (rows : List Row). rows_stay rows ray)
    (sym c.rows.ensures.rows) ∙ sym c.keeps_rows.ensures ∙ c.if-not-keeps_rows.false in (
      λ h. let f : cost_falls (dot_from zeroℚ program.costs ray) ≡ true =
          ap (λ (costs : List ℚ). cost_falls (dot_from zeroℚ costs ray)) (sym c.costs.ensures.costs)
          ∙ sym c.lowers_cost.ensures ∙ h in shown_by program
          c.args.point.now ray c.in-Feasible.field-0 c.costs.ensures.formed c.requires.ray v m b w r f,
      λ h. let f =
          cost_kept program c.args.point.now ray c.costs.result.now c.costs.ensures.costs h in
          c.lowers_cost.ensures ∙ f,
    )

pub returns-clause-falls : goal.returns-clause-falls
returns-clause-falls c =
    let m : VerdictHolds c.args.self.now c.args.point.now (Feasible c.in-Feasible.field-0) = subst
    (VerdictHolds c.args.self.now c.args.point.now) c.in-Feasible.is c.check.ensures.meaning in
    λ h. feasible_along c.args.self.now c.args.point.now c.args.ray.now c.costs.ensures.formed m.0
    ((returns-clause-shown c).0 h)

pub keeps_rows-requires : goal.keeps_rows-requires
keeps_rows-requires c = grind (arith, common_steps)

pub returns-in_default : goal.returns-in_default
returns-in_default c = grind (arith, common_steps)

pub lowers_cost-requires : goal.lowers_cost-requires
lowers_cost-requires c = grind (arith, common_steps)

pub returns-then-not-keeps_rows-clause-falls : goal.returns-then-not-keeps_rows-clause-falls
returns-then-not-keeps_rows-clause-falls c = grind (arith, common_steps)

pub returns-then-not-keeps_wholes-clause-falls : goal.returns-then-not-keeps_wholes-clause-falls
returns-then-not-keeps_wholes-clause-falls c = grind (arith, common_steps)

pub keeps_wholes-requires : goal.keeps_wholes-requires
keeps_wholes-requires c = grind (arith, common_steps)

pub returns-then-not-keeps_bounds-clause-falls : goal.returns-then-not-keeps_bounds-clause-falls
returns-then-not-keeps_bounds-clause-falls c = grind (arith, common_steps)

pub keeps_bounds-requires : goal.keeps_bounds-requires
keeps_bounds-requires c = grind (arith, common_steps)

pub check-requires : goal.check-requires
check-requires c = grind (arith, common_steps)
