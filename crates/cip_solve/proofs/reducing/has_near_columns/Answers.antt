use Rattle.std.proofs.lemmas.Grind.{common_steps}
use Rattle.std.proofs.Common.{◌≡◌, ◌∙◌, ◌^◌, ℕ, List, true, true≢false, ap, sym, subst, arith}
use borrow.Author.Count.{below_more}
use Rattle.cip_problem.specs.Program.{Sides}
use Rattle.cip_problem.specs.Box.{sides_at}
use Rattle.cip_node_rules.specs.OpenColumns.{is_whole_at}
use Rattle.cip_node_rules.specs.SplitRules.{AreNear}
use Rattle.cip_solve.proofs.reducing.has_near_columns.Goals as goal
use Rattle.cip_solve.proofs.reducing.has_near_columns.Goals.{else-whole-column-via-then-whole-column+else-not-are_near, else-whole-column-via-else-whole-column}

pub returns : goal.returns
returns c = grind (arith, common_steps)

pub returns-then-not-are_near : goal.returns-then-not-are_near
returns-then-not-are_near c = grind (arith, common_steps)

pub sides-requires : goal.sides-requires
sides-requires c = grind (arith, common_steps)

pub bounds-whole-column : goal.bounds-whole-column
bounds-whole-column c = grind (arith, common_steps)

pub loop-column-init : goal.loop-column-init
loop-column-init c = grind (arith, common_steps)

pub overflow_cast-column : goal.overflow_cast-column
overflow_cast-column c = grind (arith, common_steps)

pub overflow_cast-column-end : goal.overflow_cast-column-end
overflow_cast-column-end c = grind (arith, common_steps)

pub loop-column-preserved : goal.loop-column-preserved
loop-column-preserved c =
    let program = c.args.program.now in
    let column = c.loop-column.column in
    below_more (λ (k : ℕ). is_whole_at program.integral k ≡ true → AreNear (2 ^ 100) (sides_at program.bounds k)) column c.loop-column.invariant
    (elim c.else-whole-column.branch [
      | else-whole-column-via-then-whole-column+else-not-are_near w ↦ λ e.
          subst (AreNear (2 ^ 100)) (w.sides.ensures ∙ ap (λ (bounds : List Sides). sides_at bounds column) w.bounds.ensures.bounds) (w.are_near.ensures w.if-not-are_near.false)
      | else-whole-column-via-else-whole-column w ↦ λ e.
          absurd (true≢false (sym e ∙ ap (λ whole. is_whole_at whole column) (sym c.whole-whole.ensures.whole) ∙ w.if-whole-column.false))
    ])
