use Rattle.std.proofs.lemmas.Grind.{common_steps}
use Rattle.std.proofs.Common.{◌≡◌, List, length, ◌∙◌, ap, sym, subst, arith}
use Rattle.cip_problem.specs.Program.{Sides}
use Rattle.cip_problem.specs.Choices.{made_on}
use Rattle.cip_problem.specs.WellFormed.{columns}
use Rattle.cip_leaf.specs.LeafAnswers.{IsLeafAnswer}
use Rattle.cip_search.specs.Leaf.{IsLeaf}
use Rattle.cip_core.specs.Pairs.{IsAssignment}
use Rattle.cip_core.specs.StepsBack.{whole_point, leaf_back}
use Rattle.cip_node.specs.LeafValues.{least_values}
use Rattle.cip_node.proofs.LeavesBack.{the_leaf, least_leaf, leaf_there, one_leaf_back}
use Rattle.cip_node.proofs.leaves.solve_leaf.Goals as goal

pub values_back-requires-clause-long : goal.values_back-requires-clause-long
values_back-requires-clause-long c =
    subst (λ (b : List Sides). length b ≡ columns c.args.reduced.now) (sym c.as_slice.ensures) c.requires.one.long

pub values_back-requires-clause-leaf : goal.values_back-requires-clause-leaf
values_back-requires-clause-leaf c =
    let reduced = c.args.reduced.now in
    subst (λ (b : List Sides). IsLeaf reduced (least_values reduced.integral b)) (sym c.as_slice.ensures) (least_leaf reduced c.args.bounds.now c.args.choices.now c.requires.one)

pub leaf-requires : goal.leaf-requires
leaf-requires c =
    let program = c.args.program.now in
    let reduced = c.args.reduced.now in
    let steps = c.args.steps.now in
    let v : c.as_slice-4.result.now ≡ leaf_back steps (least_values reduced.integral c.args.bounds.now) = c.as_slice-4.ensures.value ∙ c.in_ok-values.ensures.back ∙ ap (λ b. leaf_back steps (least_values reduced.integral b)) c.as_slice.ensures in
    let o : c.as_slice-5.result.now ≡ made_on reduced.choices c.args.choices.now = c.as_slice-5.ensures.value ∙ c.in_ok-on.ensures ∙ ap (λ own. made_on own c.as_slice-3.result.now) (c.as_slice-2.ensures ∙ c.choices.ensures.choices) ∙ ap (made_on reduced.choices) c.as_slice-3.ensures in
    let a = subst (λ (b : List Sides). IsAssignment reduced (whole_point steps (least_values reduced.integral b))) c.as_slice.ensures c.in_ok-values.ensures.assigned in
    leaf_there program reduced steps c.args.bounds.now c.args.choices.now c.as_slice-4.result.now c.as_slice-5.result.now c.columns-columns.ensures.formed c.columns-left.ensures.formed c.requires.one c.requires.back a v o

pub returns : goal.returns
returns c =
    let program = c.args.program.now in
    let reduced = c.args.reduced.now in
    let steps = c.args.steps.now in
    let values = c.in_ok-values.values.items in
    let on = c.in_ok-on.on.items in
    let v : values ≡ leaf_back steps (least_values reduced.integral c.args.bounds.now) = c.in_ok-values.ensures.back ∙ ap (λ b. leaf_back steps (least_values reduced.integral b)) c.as_slice.ensures in
    let o : on ≡ made_on reduced.choices c.args.choices.now = c.in_ok-on.ensures ∙ ap (λ own. made_on own c.as_slice-3.result.now) (c.as_slice-2.ensures ∙ c.choices.ensures.choices) ∙ ap (made_on reduced.choices) c.as_slice-3.ensures in
    let a = subst (λ (b : List Sides). IsAssignment reduced (whole_point steps (least_values reduced.integral b))) c.as_slice.ensures c.in_ok-values.ensures.assigned in
    record {
      there = one_leaf_back program reduced steps c.args.bounds.now c.args.choices.now values on c.columns-columns.ensures.formed c.columns-left.ensures.formed c.requires.one c.requires.back a v o;
      answer = subst (λ on. IsLeafAnswer program (the_leaf values on) c.in_ok-answer.answer) c.as_slice-5.ensures.value
          (subst (λ values. IsLeafAnswer program (the_leaf values c.as_slice-5.result.now) c.in_ok-answer.answer) c.as_slice-4.ensures.value c.in_ok-answer.ensures);
    }

pub values_back-requires-clause-fits : goal.values_back-requires-clause-fits
values_back-requires-clause-fits c = grind (arith, common_steps)

pub values_back-requires-clause-left : goal.values_back-requires-clause-left
values_back-requires-clause-left c = grind (arith, common_steps)
