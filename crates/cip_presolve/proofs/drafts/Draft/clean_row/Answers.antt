use Rattle.std.proofs.lemmas.Grind.{common_steps}
use Rattle.std.proofs.Common.{List, length, subst, sym, ◌∙◌, ap, arith}
use Rattle.cip_problem.specs.Program.{Sides, Program}
use Rattle.cip_problem.specs.Activity.{StandsBelow}
use Rattle.cip_presolve.specs.RowReading.{IsLeftRow}
use Rattle.cip_presolve.proofs.Ruled.{cleaned_by}
use Rattle.cip_search.proofs.Pairing.{exact_self}
use Rattle.cip_presolve.proofs.Merged.{count_same}
use Rattle.cip_presolve.proofs.drafts.Draft.clean_row.Goals as goal

pub set_row-requires-clause-stands : goal.set_row-requires-clause-stands
set_row-requires-clause-stands c =
    let left : IsLeftRow c.bounds-2.result.now c.row-row.result.now c.in-Ok-Some.row = rw c.in-Ok-Some.field-0-is at c.in-Ok-Some.ensures in
    subst (λ (box : List Sides). StandsBelow (length box) c.in-Ok-Some.row.terms) c.bounds-2.ensures.bounds left.stands

pub returns-in-Ok-Some-clause-step : goal.returns-in-Ok-Some-clause-step
returns-in-Ok-Some-clause-step c =
    cleaned_by c.args.self.now c.set_row.new.self c.args.number c.row-row.result.now c.in-Ok-Some.row c.bounds-2.result.now c.row-row.ensures.row c.bounds-2.ensures.bounds
    (rw c.in-Ok-Some.field-0-is at c.in-Ok-Some.ensures) c.set_row.ensures

pub returns-in-Ok-None-clause-step : goal.returns-in-Ok-None-clause-step
returns-in-Ok-None-clause-step c = exact_self c.args.self.now

pub returns-in-Err-clause-step : goal.returns-in-Err-clause-step
returns-in-Err-clause-step c = exact_self c.args.self.now

pub returns-then-not-has_fixed-clause-step : goal.returns-then-not-has_fixed-clause-step
returns-then-not-has_fixed-clause-step c = exact_self c.args.self.now

pub without_fixed-requires : goal.without_fixed-requires
without_fixed-requires c = subst (λ (box : List Sides). StandsBelow (length box) c.row-row.result.now.terms) (sym c.bounds-2.ensures.bounds) c.row-row.ensures.stands

pub returns-in-Ok-Some-clause-rows : goal.returns-in-Ok-Some-clause-rows
returns-in-Ok-Some-clause-rows c = ap (λ (p : Program). length p.rows) c.set_row.ensures ∙ count_same c.args.self.now.rows c.args.number c.in-Ok-Some.row

pub has_fixed-requires : goal.has_fixed-requires
has_fixed-requires c = grind (arith, common_steps)

pub returns-in-Ok-None-clause-rows : goal.returns-in-Ok-None-clause-rows
returns-in-Ok-None-clause-rows c = grind (arith, common_steps)

pub returns-in-Err-clause-rows : goal.returns-in-Err-clause-rows
returns-in-Err-clause-rows c = grind (arith, common_steps)
