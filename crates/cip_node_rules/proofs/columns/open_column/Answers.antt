use Rattle.std.proofs.lemmas.Grind.{common_steps}
use Rattle.std.proofs.Common.{arith, ◌≡◌, ◌∙◌, ℕ, false, ◌&&◌, ap, sym}
use borrow.Author.Count.{below_more}
use Rattle.cip_problem.specs.Program.{Sides}
use Rattle.cip_problem.specs.Box.{two_wholes_between}
use Rattle.cip_node_rules.specs.OpenColumns.{is_whole_at, is_open_at}
use Rattle.cip_node_rules.proofs.columns.open_column.Goals as goal

pub returns-then-is_open : goal.returns-then-is_open
returns-then-is_open c = grind (arith, common_steps)

pub sides-requires : goal.sides-requires
sides-requires c = grind (arith, common_steps)

pub bounds-whole-column : goal.bounds-whole-column
bounds-whole-column c = grind (arith, common_steps)

pub overflow_cast-column : goal.overflow_cast-column
overflow_cast-column c = grind (arith, common_steps)

pub overflow_cast-column-end : goal.overflow_cast-column-end
overflow_cast-column-end c = grind (arith, common_steps)

pub loop-column-init : goal.loop-column-init
loop-column-init c = grind (arith, common_steps)

pub loop-column-preserved : goal.loop-column-preserved
loop-column-preserved c =
    let column = c.loop-column.column in
    below_more (λ (k : ℕ). is_open_at c.args.whole.now c.args.bounds.now k ≡ false) column c.loop-column.invariant
    (ap (λ (sides : Sides). is_whole_at c.args.whole.now column && two_wholes_between sides.low sides.high)
    (sym c.sides.ensures) ∙ sym c.is_open.ensures ∙ c.if-is_open.false)
