use Rattle.std.proofs.lemmas.Grind.{common_steps}
use Rattle.std.proofs.Common.{◌≡◌, ◌<◌, ◌^◌, List, Option, Some, length, sym, subst, arith}
use Rattle.cip_rational.specs.Rational.{ℚ}
use Rattle.cip_presolve.specs.Moves.{target_at, IsPlanned, IsTaken}
use Rattle.cip_presolve.proofs.Planned.{taken_step, plan_plain, stays_step}
use Rattle.cip_presolve.proofs.Plans.{few_plan}
use Rattle.cip_presolve.proofs.moves.try_moves.Goals as goal

pub returns-in_err-plan-clause-step : goal.returns-in_err-plan-clause-step
returns-in_err-plan-clause-step c = stays_step c.args.draft.now

pub returns-in_default-clause-step : goal.returns-in_default-clause-step
returns-in_default-clause-step c = stays_step c.args.draft.now

pub take_plan-requires : goal.take_plan-requires
take_plan-requires c column value t =
    let p : IsPlanned c.args.rising c.args.draft.now c.args.forms.now c.in-Some.plan.items = rw c.in-Some.is at c.in_ok-plan.ensures in
    plan_plain c.args.rising c.args.draft.now c.args.forms.now c.in-Some.plan.items c.requires.may c.requires.sources p column value
    (subst (λ (ts : List (Option ℚ)). target_at ts column ≡ Some value) c.as_slice.ensures.value t)

pub returns-clause-step : goal.returns-clause-step
returns-clause-step c =
    let p : IsPlanned c.args.rising c.args.draft.now c.args.forms.now c.in-Some.plan.items = rw c.in-Some.is at c.in_ok-plan.ensures in
    taken_step c.args.rising c.args.draft.now c.take_plan.new.draft c.args.forms.now c.in-Some.plan.items c.requires.may c.requires.sources c.requires.rows p
    (subst (λ (ts : List (Option ℚ)). IsTaken ts c.args.draft.now c.take_plan.new.draft) c.as_slice.ensures.value c.take_plan.ensures)

pub tell_moved-requires : goal.tell_moved-requires
tell_moved-requires c =
    let p : IsPlanned c.args.rising c.args.draft.now c.args.forms.now c.in-Some.plan.items = rw c.in-Some.is at c.in_ok-plan.ensures in
    subst (λ (ts : List (Option ℚ)). length ts < 2 ^ 32) (sym c.as_slice-2.ensures.value) (few_plan c.args.rising c.args.draft.now c.args.forms.now c.in-Some.plan.items p c.bounds-bounds.ensures.formed)

pub returns-clause-rows : goal.returns-clause-rows
returns-clause-rows c = grind (arith, common_steps)

pub planned-requires-clause-sources : goal.planned-requires-clause-sources
planned-requires-clause-sources c = grind (arith, common_steps)

pub planned-requires-clause-may : goal.planned-requires-clause-may
planned-requires-clause-may c = grind (arith, common_steps)

pub returns-in_default-clause-rows : goal.returns-in_default-clause-rows
returns-in_default-clause-rows c = grind (arith, common_steps)

pub returns-in_err-plan-clause-rows : goal.returns-in_err-plan-clause-rows
returns-in_err-plan-clause-rows c = grind (arith, common_steps)
