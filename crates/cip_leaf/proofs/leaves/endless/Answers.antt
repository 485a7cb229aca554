use Rattle.std.proofs.lemmas.Grind.{common_steps}
use Rattle.std.proofs.Common.{◌≡◌, [], sym, ap, ◌∙◌, subst, arith, refl}
use Rattle.cip_search.specs.LeafProgram.{merged}
use Rattle.cip_model.specs.declared.verdicts.Place.{Place}
use Rattle.cip_model.specs.declared.verdicts.Verdict.TheVariants.{Wide}
use Rattle.cip_model.specs.Meaning.{Overflows}
use Rattle.cip_model.specs.Rays.{IsShownRay}
use Rattle.cip_model.specs.Verdicts.{verdict_of}
use Rattle.cip_leaf.specs.LeafAnswers.{IsFirstAlong}
use Rattle.cip_leaf.proofs.Rays.{endless_point, ray_of_leaf, point_wide, ray_wide}
use Rattle.cip_problem.specs.Points.{IsFeasible}
use Rattle.cip_leaf.proofs.leaves.endless.Goals as goal

pub check-requires-clause-feasible : goal.check-requires-clause-feasible
check-requires-clause-feasible c =
    let program = c.args.program.now in
    let p : c.as_slice.result.now ≡ merged program.integral c.args.leaf.now c.args.others.now = c.as_slice.ensures.value ∙ c.in_ok-point.ensures.merged ∙ ap (λ w. merged w c.args.leaf.now c.args.others.now) c.whole.ensures.whole in
    subst (IsFeasible program) (sym p) (endless_point program c.args.leaf.now c.whole.ensures.formed c.whole.ensures.none c.requires.leaf c.args.others.now c.args.direction.now c.requires.end).feasible

pub check_ray-requires-clause-feasible : goal.check_ray-requires-clause-feasible
check_ray-requires-clause-feasible c =
    let program = c.args.program.now in
    let p : c.as_slice-2.result.now ≡ merged program.integral c.args.leaf.now c.args.others.now = c.as_slice-2.ensures.value ∙ c.in_ok-point.ensures.merged ∙ ap (λ w. merged w c.args.leaf.now c.args.others.now) c.whole.ensures.whole in
    subst (IsFeasible program) (sym p) (endless_point program c.args.leaf.now c.whole.ensures.formed c.whole.ensures.none c.requires.leaf c.args.others.now c.args.direction.now c.requires.end).feasible

pub returns-in-Wide : goal.returns-in-Wide
returns-in-Wide c =
    let program = c.args.program.now in
    let p : c.in_ok-point.point.items ≡ merged program.integral c.args.leaf.now c.args.others.now = c.in_ok-point.ensures.merged ∙ ap (λ w. merged w c.args.leaf.now c.args.others.now) c.whole.ensures.whole in
    let m = subst (λ x. Overflows program x c.in-Wide.place) c.as_slice.ensures.value c.in-Wide.ensures.meaning in
    point_wide program c.args.leaf.now c.whole.ensures.formed c.whole.ensures.none c.requires.leaf c.args.others.now c.args.direction.now c.in_ok-point.point.items c.in-Wide.place c.requires.end p m

pub returns-then-check_ray : goal.returns-then-check_ray
returns-then-check_ray c =
    let program = c.args.program.now in
    let p : c.in_ok-point.point.items ≡ merged program.integral c.args.leaf.now c.args.others.now = c.in_ok-point.ensures.merged ∙ ap (λ w. merged w c.args.leaf.now c.args.others.now) c.whole.ensures.whole in
    let s = subst (λ x. IsShownRay program x c.in_ok-ray.ray.items) c.as_slice-2.ensures.value (subst (IsShownRay program c.as_slice-2.result.now) c.as_slice-3.ensures.value (c.if-check_ray.ensures.shown.0 refl)) in
    ray_of_leaf program c.args.leaf.now c.whole.ensures.formed c.whole.ensures.none c.requires.leaf c.args.others.now c.args.direction.now c.in_ok-point.point.items c.in_ok-ray.ray.items c.requires.end p s

pub returns : goal.returns
returns c =
    let program = c.args.program.now in
    let p : c.in_ok-point.point.items ≡ merged program.integral c.args.leaf.now c.args.others.now = c.in_ok-point.ensures.merged ∙ ap (λ w. merged w c.args.leaf.now c.args.others.now) c.whole.ensures.whole in
    let q : c.in_ok-ray.ray.items ≡ merged program.integral [] c.args.direction.now = c.in_ok-ray.ensures.merged ∙ ap (λ w. merged w [] c.args.direction.now) c.whole-2.ensures.whole in
    let v = c.check.ensures.verdict ∙ ap (verdict_of program) c.as_slice.ensures.value in
    let n : (found : Place) → ¬ (verdict_of program c.in_ok-point.point.items ≡ Wide found) = λ found e. c.in_default.not-Wide found (v ∙ e) in
    let s : ¬ IsShownRay program c.in_ok-point.point.items c.in_ok-ray.ray.items = λ k. (let t = c.if-check_ray.ensures.shown.1 (subst (λ x. IsShownRay program x c.as_slice-3.result.now) (sym c.as_slice-2.ensures.value) (subst (IsShownRay program c.in_ok-point.point.items) (sym c.as_slice-3.ensures.value) k)) in absurd (cc)) in
    let h : IsFirstAlong program.rows c.in_ok-ray.ray.items c.first_along.result = subst (λ r. IsFirstAlong program.rows r c.first_along.result) c.as_slice-4.ensures.value (subst (λ rows. IsFirstAlong rows c.as_slice-4.result.now c.first_along.result) c.rows.ensures.rows c.first_along.ensures) in
    ray_wide program c.args.leaf.now c.whole.ensures.formed c.whole.ensures.none c.requires.leaf c.args.others.now c.args.direction.now c.in_ok-point.point.items c.in_ok-ray.ray.items c.first_along.result c.requires.end p q n s h

pub check-requires-clause-long : goal.check-requires-clause-long
check-requires-clause-long c = grind (arith, common_steps)

pub check_ray-requires-clause-point : goal.check_ray-requires-clause-point
check_ray-requires-clause-point c = grind (arith, common_steps)

pub check_ray-requires-clause-ray : goal.check_ray-requires-clause-ray
check_ray-requires-clause-ray c = grind (arith, common_steps)

pub first_along-requires : goal.first_along-requires
first_along-requires c = grind (arith, common_steps)
