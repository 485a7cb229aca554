use Rattle.std.proofs.lemmas.Grind.{common_steps}
use Rattle.std.proofs.Common.{◌∙◌, length, All, IfOk, IfSome, List, ap, sym, subst, arith}
use Rattle.cip_problem.specs.Program.{Row}
use Rattle.cip_problem.specs.Activity.{StandsBelow}
use Rattle.cip_problem.specs.LinearProgram.{LinearProgram}
use Rattle.cip_basis.specs.Shown.{IsShown}
use Rattle.cip_leaf.proofs.by_basis.shown_of.Goals as goal

pub of_rows-problem-requires-clause-costs : goal.of_rows-problem-requires-clause-costs
of_rows-problem-requires-clause-costs c = ap length c.as_slice-costs.ensures.value ∙ c.requires.proper.costs

pub of_rows-problem-requires-clause-rows : goal.of_rows-problem-requires-clause-rows
of_rows-problem-requires-clause-rows c =
    subst (λ (rows : List Row). All (λ (row : Row). StandsBelow (length c.args.parts.now.bounds) row.terms) rows) (sym c.as_slice-rows.ensures.value) c.requires.proper.rows

pub returns : goal.returns
returns c =
    let made = rw (c.as_slice-rows.ensures.value, c.as_slice-costs.ensures.value) at c.of_rows-problem.ensures.program in
    subst (λ (p : LinearProgram). IfOk c.show-found.result (λ found. IfSome found (IsShown p))) made c.show-found.ensures.shown

pub show-found-requires-clause-room : goal.show-found-requires-clause-room
show-found-requires-clause-room c = grind (arith, common_steps)

pub show-found-requires-clause-ready : goal.show-found-requires-clause-ready
show-found-requires-clause-ready c = grind (arith, common_steps)

pub new-requires : goal.new-requires
new-requires c = grind (arith, common_steps)
