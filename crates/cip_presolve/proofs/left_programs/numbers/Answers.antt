use Rattle.cip_presolve.proofs.PartsRead.{all_counted}
use Rattle.std.proofs.lemmas.Grind.{common_steps}
use Rattle.std.proofs.Common.{◌+◌, ◌++◌, ◌∷◌, [], ◌-◌, ◌<◌, ap, sym, ◌∙◌, append_assoc, arith}
use Rattle.cip_presolve.specs.PresolvedPrograms.{counted}
use Rattle.cip_presolve.proofs.Unchanged.{one_counted}
use Rattle.cip_presolve.proofs.left_programs.numbers.Goals as goal

pub loop-column-preserved : goal.loop-column-preserved
loop-column-preserved c =
    let below : c.loop-column.column < c.args.columns = omega arith in
    ap (λ t. t ++ counted (c.loop-column.column + 1) (c.args.columns - (c.loop-column.column + 1))) c.in_ok-push.ensures.items
    ∙ append_assoc c.loop-column.numbers.items (c.loop-column.column ∷ []) (counted (c.loop-column.column + 1) (c.args.columns - (c.loop-column.column + 1)))
    ∙ ap (λ t. c.loop-column.numbers.items ++ t) (sym (one_counted c.loop-column.column c.args.columns below))
    ∙ c.loop-column.invariant

pub overflow_cast-column : goal.overflow_cast-column
overflow_cast-column c = grind (arith, common_steps)

pub loop-column-init : goal.loop-column-init
loop-column-init c = grind (arith, common_steps)

pub returns : goal.returns
returns c =
    all_counted c.loop-column.numbers.items _ c.loop-column.column c.args.columns c.loop-column-test.false
    c.loop-column.invariant
