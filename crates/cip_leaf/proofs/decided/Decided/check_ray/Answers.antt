use Rattle.std.proofs.lemmas.Grind.{common_steps}
use Rattle.std.proofs.Common.{sym, subst, arith}
use Rattle.cip_problem.specs.Program.{Program}
use Rattle.cip_problem.specs.Points.{IsFeasible}
use Rattle.cip_model.specs.Rays.{IsShownRay}
use Rattle.cip_leaf.proofs.ChoicesMade.{shown_there, shown_back}
use Rattle.cip_leaf.proofs.decided.Decided.check_ray.Goals as goal

pub returns : goal.returns
returns c =
    let program = c.self.inside.program.now in
    let on = c.self.inside.on.now in
    let point = c.args.point.now in
    let ray = c.args.ray.now in
    let formed = c.columns-columns.ensures.formed in
    let feasible = subst (λ (p : Program). IsFeasible p point) (sym c.self.view_is) c.requires.feasible in
    record {
      shown = (
        λ t. subst (λ (p : Program). IsShownRay p point ray) c.self.view_is (shown_there program on point ray formed c.self.invariant feasible (c.check_ray.ensures.shown.0 t)),
        λ h. c.check_ray.ensures.shown.1 (shown_back program on point ray formed c.self.invariant feasible (subst (λ (p : Program). IsShownRay p point ray) (sym c.self.view_is) h)),
      );
    }

pub check_ray-requires-clause-point : goal.check_ray-requires-clause-point
check_ray-requires-clause-point c = grind (arith, common_steps)

pub check_ray-requires-clause-ray : goal.check_ray-requires-clause-ray
check_ray-requires-clause-ray c = grind (arith, common_steps)
