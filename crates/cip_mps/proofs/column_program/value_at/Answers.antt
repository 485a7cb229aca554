use Rattle.std.proofs.lemmas.Grind.{common_steps}
use Rattle.std.proofs.Common.{sym, ◌∙◌, ap, arith}
use Rattle.cip_mps.proofs.CostLaws.{none_first}
use Rattle.cip_mps.proofs.column_program.value_at.Goals as goal

pub returns-else-first-column-clause-value : goal.returns-else-first-column-clause-value
returns-else-first-column-clause-value c =
    c.zero-else-first-column.ensures
    ∙ sym (none_first c.args.held.now c.args.column c.first-item.result c.in-len1-up.len_at_least c.first-item.is c.requires.from c.requires.rising
    (λ p. c.if-first-column.false (ap (λ h. h.column) c.first.view_is ∙ p)))

pub returns-else-first-column-clause-rest : goal.returns-else-first-column-clause-rest
returns-else-first-column-clause-rest c = grind (arith, common_steps)

pub returns-in-empty-clause-rest : goal.returns-in-empty-clause-rest
returns-in-empty-clause-rest c = grind (arith, common_steps)

pub returns-in-empty-clause-value : goal.returns-in-empty-clause-value
returns-in-empty-clause-value c = grind (arith, common_steps)

pub returns-then-first-column-clause-rest : goal.returns-then-first-column-clause-rest
returns-then-first-column-clause-rest c = grind (arith, common_steps)

pub returns-then-first-column-clause-value : goal.returns-then-first-column-clause-value
returns-then-first-column-clause-value c = grind (arith, common_steps)

pub bounds-held-0 : goal.bounds-held-0
bounds-held-0 c = grind (arith, common_steps)

pub slice_bounds-rest-count : goal.slice_bounds-rest-count
slice_bounds-rest-count c = grind (arith, common_steps)

pub slice_bounds-rest-start : goal.slice_bounds-rest-start
slice_bounds-rest-start c = grind (arith, common_steps)
