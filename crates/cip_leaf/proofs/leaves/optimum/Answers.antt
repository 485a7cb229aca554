use Rattle.std.proofs.lemmas.Grind.{common_steps}
use Rattle.std.proofs.Common.{◌≡◌, sym, subst, arith, ap, ◌∙◌}
use Rattle.cip_search.specs.LeafProgram.{merged}
use Rattle.cip_search.specs.Leaf.{IsPointOf}
use Rattle.cip_model.specs.declared.verdicts.Verdict.TheVariants.{Feasible}
use Rattle.cip_model.specs.Meaning.{VerdictHolds, Overflows}
use Rattle.cip_model.specs.Verdicts.{verdict_of}
use Rattle.cip_leaf.proofs.Ends.{best_by, settled, optimum_point, optimum_wide}
use Rattle.cip_problem.specs.Points.{IsFeasible}
use Rattle.cip_leaf.proofs.leaves.optimum.Goals as goal

pub check-requires-clause-feasible : goal.check-requires-clause-feasible
check-requires-clause-feasible c =
    let program = c.args.program.now in
    let p : c.as_slice.result.now ≡ merged program.integral c.args.leaf.now c.args.others.now = c.as_slice.ensures.value ∙ c.in_ok-point.ensures.merged ∙ ap (λ w. merged w c.args.leaf.now c.args.others.now) c.whole.ensures.whole in
    subst (IsFeasible program) (sym p) (optimum_point program c.args.leaf.now c.whole.ensures.formed c.whole.ensures.none c.requires.leaf c.args.others.now c.requires.end).feasible

pub unreachable-requires : goal.unreachable-requires
unreachable-requires c =
    let program = c.args.program.now in
    let p : c.as_slice.result.now ≡ merged program.integral c.args.leaf.now c.args.others.now = c.as_slice.ensures.value ∙ c.in_ok-point.ensures.merged ∙ ap (λ w. merged w c.args.leaf.now c.args.others.now) c.whole.ensures.whole in
    settled program c.args.leaf.now c.whole.ensures.formed c.whole.ensures.none c.requires.leaf c.as_slice.result.now c.check.result
    (subst (IsPointOf program c.args.leaf.now) (sym p) (optimum_point program c.args.leaf.now c.whole.ensures.formed c.whole.ensures.none c.requires.leaf c.args.others.now c.requires.end))
    c.check.ensures.verdict c.in_default.not-Feasible c.in_default.not-Wide

pub returns-in-Feasible : goal.returns-in-Feasible
returns-in-Feasible c =
    let program = c.args.program.now in
    let p : c.in_ok-point.point.items ≡ merged program.integral c.args.leaf.now c.args.others.now = c.in_ok-point.ensures.merged ∙ ap (λ w. merged w c.args.leaf.now c.args.others.now) c.whole.ensures.whole in
    let v = sym (c.in-Feasible.ensures.verdict ∙ ap (verdict_of program) c.as_slice.ensures.value) in
    let m = subst (λ x. VerdictHolds program x (Feasible c.in-Feasible.cost)) c.as_slice.ensures.value c.in-Feasible.ensures.meaning in
    best_by program c.args.leaf.now c.whole.ensures.formed c.whole.ensures.none c.requires.leaf c.args.others.now c.in_ok-point.point.items c.in-Feasible.cost c.requires.end p v m.1

pub returns-in-Wide : goal.returns-in-Wide
returns-in-Wide c =
    let program = c.args.program.now in
    let p : c.in_ok-point.point.items ≡ merged program.integral c.args.leaf.now c.args.others.now = c.in_ok-point.ensures.merged ∙ ap (λ w. merged w c.args.leaf.now c.args.others.now) c.whole.ensures.whole in
    let m = subst (λ x. Overflows program x c.in-Wide.place) c.as_slice.ensures.value c.in-Wide.ensures.meaning in
    optimum_wide program c.args.leaf.now c.whole.ensures.formed c.whole.ensures.none c.requires.leaf c.args.others.now c.in_ok-point.point.items c.in-Wide.place c.requires.end p m

pub check-requires-clause-long : goal.check-requires-clause-long
check-requires-clause-long c = grind (arith, common_steps)

pub unreachable-unreachable : goal.unreachable-unreachable
unreachable-unreachable c = grind (arith, common_steps)
