use Rattle.std.proofs.lemmas.Grind.{common_steps}
use Rattle.std.proofs.Common.{◌≡◌, sym, subst, arith, ap, ◌∙◌, refl}
use Rattle.cip_search.specs.LeafProgram.{merged}
use Rattle.cip_model.specs.Rays.{IsShownRay}
use Rattle.cip_leaf.proofs.Rays.{ray_on}
use Rattle.cip_search.proofs.Merged.{point_back}
use Rattle.cip_problem.specs.Points.{IsFeasible}
use Rattle.cip_leaf.proofs.few_moves.ray_of.Goals as goal

pub check_ray-requires-clause-feasible : goal.check_ray-requires-clause-feasible
check_ray-requires-clause-feasible c =
    let program = c.args.program.now in
    let p : c.as_slice.result.now ≡ merged program.integral c.args.leaf.now c.args.others.now = c.as_slice.ensures.value ∙ c.in_ok-point.ensures.merged ∙ ap (λ w. merged w c.args.leaf.now c.args.others.now) c.whole.ensures.whole in
    subst (IsFeasible program) (sym p) (point_back program c.args.leaf.now c.args.others.now c.whole.ensures.formed c.whole.ensures.none c.requires.leaf c.requires.point).feasible

pub returns-then-check_ray : goal.returns-then-check_ray
returns-then-check_ray c =
    let program = c.args.program.now in
    let p : c.in_ok-point.point.items ≡ merged program.integral c.args.leaf.now c.args.others.now = c.in_ok-point.ensures.merged ∙ ap (λ w. merged w c.args.leaf.now c.args.others.now) c.whole.ensures.whole in
    let s = subst (λ x. IsShownRay program x c.in_ok-ray.ray.items) c.as_slice.ensures.value (subst (IsShownRay program c.as_slice.result.now) c.as_slice-2.ensures.value (c.if-check_ray.ensures.shown.0 refl)) in
    ray_on program c.args.leaf.now c.whole.ensures.formed c.whole.ensures.none c.requires.leaf c.args.others.now c.in_ok-point.point.items c.in_ok-ray.ray.items c.requires.point p s

pub check_ray-requires-clause-point : goal.check_ray-requires-clause-point
check_ray-requires-clause-point c = grind (arith, common_steps)

pub check_ray-requires-clause-ray : goal.check_ray-requires-clause-ray
check_ray-requires-clause-ray c = grind (arith, common_steps)

pub returns : goal.returns
returns c = grind (arith, common_steps)
