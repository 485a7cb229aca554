use Rattle.std.proofs.lemmas.Grind.{common_steps}
use Rattle.std.proofs.Common.{◌≡◌, List, Some, sym, ap, ◌∙◌, arith}
use Rattle.cip_problem.specs.Program.{Sides}
use Rattle.cip_problem.specs.Box.{sides_at}
use Rattle.cip_presolve.specs.RowReading.{only_value}
use Rattle.cip_presolve.proofs.MayLeave.{goes_at_value}
use Rattle.cip_presolve.proofs.candidates.value_out.Goals as goal

pub returns : goal.returns
returns c =
    let only : Some c.in-Some.value ≡ only_value (sides_at c.args.draft.now.bounds c.args.column) =
    sym c.in-Some.is ∙ c.only_value.ensures ∙ ap only_value c.sides.ensures ∙ ap (λ (box : List Sides). only_value (sides_at box c.args.column)) c.bounds.ensures.bounds in
    goes_at_value c.args.draft.now c.args.column c.in-Some.value (record { constant = c.in-Some.value; factor = c.zero.result; source = 0 }) only (λ i. record { constant = c.in-Some.value; factor = c.zero.ensures i; source = 0 }) c.if-not-is_free.ensures c.is_whole.result c.is_whole.ensures c.if-not-can_be.ensures.whole c.can_be.ensures.in_range

pub sides-requires : goal.sides-requires
sides-requires c = grind (arith, common_steps)
