use Rattle.std.proofs.lemmas.Grind.{common_steps}
use Rattle.std.proofs.Common.{length, ◌∙◌, ap, subst, arith}
use Rattle.cip_problem.specs.Points.{cost_of}
use Rattle.cip_problem.proofs.Points.AtPlaces.{IsInBox-long}
use Rattle.cip_model.specs.Meaning.{VerdictHolds}
use Rattle.cip_solve.proofs.FinishLaws.{endless_right}
use Rattle.cip_solve.proofs.finish.endless_answer.Goals as goal

pub check-requires : goal.check-requires
check-requires c =
    ap length c.as_slice.ensures.value ∙ IsInBox-long c.args.program.now.bounds c.args.point.items c.requires.feasible.within ∙ c.columns-columns.ensures.formed.bounds

pub returns-clause-right : goal.returns-clause-right
returns-clause-right c = λ reduced kept start nodes asked log marks seen k w.
    let told = subst (VerdictHolds c.args.program.now c.as_slice.result.now) c.in-Feasible.is c.check.ensures.meaning in
    endless_right c.args.program.now reduced kept start nodes asked log marks c.in-Feasible.cost c.args.point.items c.args.ray.items seen k w
    (told.1 ∙ ap (cost_of c.args.program.now) c.as_slice.ensures.value)

pub unreachable-requires : goal.unreachable-requires
unreachable-requires c = grind (arith, common_steps)

pub returns-clause-nodes : goal.returns-clause-nodes
returns-clause-nodes c = grind (arith, common_steps)
