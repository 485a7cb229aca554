use Rattle.std.proofs.lemmas.Grind.{common_steps}
use Rattle.std.proofs.Common.{arith, ◌≡◌, ◌∙◌, ℕ, ◌<◌, length, false, ◌&&◌, ap, sym}
use borrow.Author.Count.{below_more}
use Rattle.std.proofs.lemmas.Bool.{and_left, and_right}
use Rattle.std.proofs.lemmas.List.{get_or_default}
use Rattle.cip_rational.specs.Rational.{zeroℚ}
use Rattle.cip_problem.specs.Program.{Sides}
use Rattle.cip_problem.specs.Activity.{value_at}
use Rattle.cip_problem.specs.Box.{two_wholes_between}
use Rattle.cip_node_rules.specs.OpenColumns.{is_whole_at, is_open_at, is_fractional, is_fractional_at}
use Rattle.cip_node_rules.proofs.columns.fractional_column.Goals.{else-is_open-via-then-is_open+else-is_fractional, else-is_open-via-else-is_open}
use Rattle.cip_node_rules.proofs.columns.fractional_column.Goals as goal

pub bounds-point-at : goal.bounds-point-at
bounds-point-at c = grind (arith, common_steps)

pub offset_bounds-point-at : goal.offset_bounds-point-at
offset_bounds-point-at c = grind (arith, common_steps)

pub returns-then-is_fractional : goal.returns-then-is_fractional
returns-then-is_fractional c = grind (arith, common_steps)

pub sides-requires : goal.sides-requires
sides-requires c = grind (arith, common_steps)

pub bounds-whole-at : goal.bounds-whole-at
bounds-whole-at c = grind (arith, common_steps)

pub overflow_cast-at : goal.overflow_cast-at
overflow_cast-at c = grind (arith, common_steps)

pub overflow_cast-column-end : goal.overflow_cast-column-end
overflow_cast-column-end c = grind (arith, common_steps)

pub loop-column-init : goal.loop-column-init
loop-column-init c = grind (arith, common_steps)

pub loop-column-preserved : goal.loop-column-preserved
loop-column-preserved c =
    let column = c.loop-column.column in
    let whole = c.args.whole.now in
    let box = c.args.bounds.now in
    let point = c.args.point.now in
    let open_is : is_open_at whole box column ≡ c.is_open.result =
    ap (λ (sides : Sides). is_whole_at whole column && two_wholes_between sides.low sides.high)
    (sym c.sides.ensures) ∙ sym c.is_open.ensures in
    below_more (λ (k : ℕ). is_fractional_at whole box point k ≡ false) column c.loop-column.invariant
    (elim c.else-is_open.branch [
      | else-is_open-via-then-is_open+else-is_fractional w ↦
          let valued : column < length point =
          omega (arith, c.loop-column-test.true, c.requires.long, c.requires.values) in
          let here : w.index-point-at.result ≡ value_at point column =
          w.index-point-at.is ∙ get_or_default point column w.index-point-at.result zeroℚ valued in
          and_right (is_open_at whole box column) (is_fractional (value_at point column))
          (ap is_fractional (sym here) ∙ sym w.is_fractional.ensures ∙ w.if-is_fractional.false)
      | else-is_open-via-else-is_open w ↦
          and_left (is_open_at whole box column) (is_fractional (value_at point column))
          (open_is ∙ w.if-is_open.false)
    ])
