use Rattle.std.proofs.lemmas.Grind.{common_steps}
use Rattle.std.proofs.Common.{◌∷◌, [], ◌++◌, List, sym, ap₂, ◌∙◌, take_all, arith}
use Rattle.std.proofs.lemmas.List.{take_more}
use Rattle.cip_problem.specs.Program.{Row}
use Rattle.cip_presolve.proofs.row_copies.copied_rows.Goals as goal

pub loop-row-init : goal.loop-row-init
loop-row-init c = c.new-copy.ensures.items

pub bounds-rows-row-index : goal.bounds-rows-row-index
bounds-rows-row-index c = c.loop-row-test.true

pub loop-row-preserved : goal.loop-row-preserved
loop-row-preserved c =
    c.in_ok-push.ensures.items
    ∙ ap₂ (λ (rows : List Row) (row : Row). rows ++ row ∷ []) c.loop-row.invariant
    (c.in_ok-row_of_terms.ensures
    ∙ (λ i. record { terms = c.terms.ensures.terms i; low = c.low.ensures i; high = c.high.ensures i }) ∙ c.row-item.is)
    ∙ sym (take_more c.args.rows.now c.loop-row.row-index c.row-item.result c.loop-row-test.true)

pub returns : goal.returns
returns c = c.loop-row.invariant ∙ take_all c.loop-row.row-index c.args.rows.now c.loop-row-test.false

pub row_of_terms-requires : goal.row_of_terms-requires
row_of_terms-requires c = grind (arith, common_steps)

pub offset_bounds-rows-row-index : goal.offset_bounds-rows-row-index
offset_bounds-rows-row-index c = grind (arith, common_steps)
