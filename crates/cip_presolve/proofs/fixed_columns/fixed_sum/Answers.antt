use Rattle.cip_presolve.proofs.PartsRead.{sum_next}
use Rattle.cip_presolve.specs.RowReading.{only_value}
use Rattle.cip_frac.specs.Outcomes.{product_added}
use Rattle.cip_problem.specs.Box.{sides_at}
use Rattle.cip_problem.specs.Program.{Term}
use Rattle.std.proofs.lemmas.Grind.{common_steps}
use Rattle.std.proofs.Common.{arith, ◌≡◌, ◌∙◌, Some, Ok, ap, sym, subst}
use Rattle.cip_presolve.proofs.fixed_columns.fixed_sum.Goals as goal

pub loop-term-init : goal.loop-term-init
loop-term-init c = grind (arith, common_steps)

pub loop-term-preserved : goal.loop-term-preserved
loop-term-preserved c =
    let column : c.term.inside.col ≡ c.term-item.result.column = ap (λ (t : Term). t.column) c.term.view_is in
    let coefficient : c.term.inside.coef ≡ c.term-item.result.coefficient = ap
    (λ (t : Term). t.coefficient) c.term.view_is in
    let only : Some c.in-Some.value ≡ only_value (sides_at c.args.bounds.now c.term-item.result.column) =
    sym c.in-Some.is ∙ c.only_value.ensures ∙ ap only_value
    (c.sides.ensures ∙ ap (λ n. sides_at c.args.bounds.now n) column) in
    sum_next c.loop-term.sum c.add_product.new.self c.in-Some.value _ c.args.terms.now c.args.bounds.now
    c.loop-term.term-index c.term-item.result
    c.loop-term-test.true c.term-item.is only
    (subst (λ q. product_added c.loop-term.sum q c.in-Some.value ≡ Ok c.add_product.new.self) coefficient
    c.if-not-add_product.ensures)
    c.loop-term.invariant

pub returns : goal.returns
returns c = grind (arith, common_steps)

pub sides-requires : goal.sides-requires
sides-requires c = grind (arith, common_steps)

pub offset_bounds-terms-term-index : goal.offset_bounds-terms-term-index
offset_bounds-terms-term-index c = grind (arith, common_steps)

pub loop-term-preserved-in_default : goal.loop-term-preserved-in_default
loop-term-preserved-in_default c = grind (arith, common_steps)

pub returns-then-not-add_product : goal.returns-then-not-add_product
returns-then-not-add_product c = grind (arith, common_steps)
