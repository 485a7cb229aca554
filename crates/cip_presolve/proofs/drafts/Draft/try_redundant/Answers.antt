use Rattle.cip_search.proofs.Pairing.{exact_self}
use Rattle.std.proofs.lemmas.Grind.{common_steps}
use Rattle.std.proofs.Common.{List, subst, ap, ◌∙◌, arith}
use Rattle.cip_problem.specs.Program.{Sides, Row}
use Rattle.cip_presolve.specs.NarrowedPrograms.{with_row}
use Rattle.cip_search.specs.RowSteps.{HoldsInAll, HoldsNowhere}
use Rattle.cip_presolve.proofs.Ruled.{dropped_by, broken_by}
use Rattle.cip_presolve.proofs.drafts.Draft.try_redundant.Goals as goal

pub returns-in-HoldsAlways-clause-step : goal.returns-in-HoldsAlways-clause-step
returns-in-HoldsAlways-clause-step c =
    dropped_by c.args.self.now c.set_row.new.self c.args.number c.row.result.now c.row.ensures.row
    (subst (λ (box : List Sides). HoldsInAll box c.row.result.now) c.bounds.ensures.bounds c.in-HoldsAlways.ensures) (c.set_row.ensures ∙ ap (λ (r : Row). with_row c.args.self.now c.args.number r) c.empty.ensures)

pub returns-in-HoldsNever-clause-end : goal.returns-in-HoldsNever-clause-end
returns-in-HoldsNever-clause-end c =
    broken_by c.args.self.now c.args.number c.row.result.now c.row.ensures.row
    (subst (λ (box : List Sides). HoldsNowhere box c.row.result.now) c.bounds.ensures.bounds c.in-HoldsNever.ensures)

pub returns-in-HoldsAlways-clause-rows : goal.returns-in-HoldsAlways-clause-rows
returns-in-HoldsAlways-clause-rows c = grind (arith, common_steps)

pub row_says-requires : goal.row_says-requires
row_says-requires c = grind (arith, common_steps)

pub returns-in-HoldsAlways-clause-end : goal.returns-in-HoldsAlways-clause-end
returns-in-HoldsAlways-clause-end c = grind (arith, common_steps)

pub set_row-requires-clause-stands : goal.set_row-requires-clause-stands
set_row-requires-clause-stands c = grind (arith, common_steps)

pub returns-in-HoldsNever-clause-step : goal.returns-in-HoldsNever-clause-step
returns-in-HoldsNever-clause-step c = exact_self c.args.self.now

pub returns-in-Unclear-clause-step : goal.returns-in-Unclear-clause-step
returns-in-Unclear-clause-step c = exact_self c.args.self.now
