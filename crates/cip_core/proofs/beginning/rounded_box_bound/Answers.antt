use Rattle.std.proofs.lemmas.Grind.{common_steps}
use Rattle.std.proofs.Common.{None, IfSome, ◌∙◌, sym, ap, subst, arith}
use Rattle.cip_problem.specs.BoxBound.{box_bound}
use Rattle.cip_problem.specs.Improving.{IsBoundIn}
use Rattle.cip_model.specs.Meaning.{BoundHolds}
use Rattle.cip_model.specs.Least.{least_cost_from}
use Rattle.cip_core.proofs.Begun.{value_holds, root_is, when_true}
use Rattle.cip_core.proofs.beginning.rounded_box_bound.Goals as goal

pub returns-clause-root : goal.returns-clause-root
returns-clause-root c =
    root_is c.args.program.now c.box_bound.result c.args.whole_costs c.rounded_least.result c.requires
    (c.box_bound.ensures.steps ∙ ap (least_cost_from c.args.program.now.constant c.args.program.now.costs) c.bounds.ensures.bounds)
    c.rounded_least.ensures

pub returns-clause-holds : goal.returns-clause-holds
returns-clause-holds c =
    subst (λ b. IfSome b (IsBoundIn c.args.program.now None c.args.program.now.bounds)) (sym c.rounded_least.ensures)
    (value_holds c.args.program.now c.box_bound.result c.args.whole_costs c.columns-columns.ensures.formed (when_true c.args.whole_costs c.requires)
    (subst (λ b. BoundHolds (box_bound c.args.program.now b) c.box_bound.result) c.bounds.ensures.bounds c.box_bound.ensures.meaning))

pub box_bound-requires : goal.box_bound-requires
box_bound-requires c = grind (arith, common_steps)
