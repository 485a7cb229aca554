use Rattle.std.proofs.lemmas.Grind.{common_steps}
use Rattle.std.proofs.Common.{◌≡◌, sym, subst, arith, ap, ◌∙◌}
use Rattle.cip_search.specs.LeafProgram.{merged}
use Rattle.cip_model.specs.declared.verdicts.Verdict.TheVariants.{Feasible}
use Rattle.cip_model.specs.Meaning.{VerdictHolds}
use Rattle.cip_model.specs.Verdicts.{verdict_of}
use Rattle.cip_leaf.proofs.Ends.{best_on}
use Rattle.cip_search.proofs.Merged.{point_back}
use Rattle.cip_problem.specs.Points.{IsFeasible}
use Rattle.cip_leaf.proofs.few_moves.best_of.Goals as goal

pub check-requires-clause-feasible : goal.check-requires-clause-feasible
check-requires-clause-feasible c =
    let program = c.args.program.now in
    let p : c.as_slice.result.now ≡ merged program.integral c.args.leaf.now c.args.others.now = c.as_slice.ensures.value ∙ c.in_ok-point.ensures.merged ∙ ap (λ w. merged w c.args.leaf.now c.args.others.now) c.whole.ensures.whole in
    subst (IsFeasible program) (sym p) (point_back program c.args.leaf.now c.args.others.now c.whole.ensures.formed c.whole.ensures.none c.requires.leaf c.requires.optimal.optimal.is_point).feasible

pub returns-in-Feasible : goal.returns-in-Feasible
returns-in-Feasible c =
    let program = c.args.program.now in
    let p : c.in_ok-point.point.items ≡ merged program.integral c.args.leaf.now c.args.others.now = c.in_ok-point.ensures.merged ∙ ap (λ w. merged w c.args.leaf.now c.args.others.now) c.whole.ensures.whole in
    let v = sym (c.in-Feasible.ensures.verdict ∙ ap (verdict_of program) c.as_slice.ensures.value) in
    let m = subst (λ x. VerdictHolds program x (Feasible c.in-Feasible.cost)) c.as_slice.ensures.value c.in-Feasible.ensures.meaning in
    best_on program c.args.leaf.now c.whole.ensures.formed c.whole.ensures.none c.requires.leaf c.args.others.now c.in_ok-point.point.items c.requires.optimal.cost c.in-Feasible.cost c.requires.optimal.optimal p v m.1

pub check-requires-clause-long : goal.check-requires-clause-long
check-requires-clause-long c = grind (arith, common_steps)

pub returns-in_default : goal.returns-in_default
returns-in_default c = grind (arith, common_steps)
