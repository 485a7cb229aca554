use Rattle.std.proofs.lemmas.Grind.{common_steps}
use Rattle.std.proofs.Common.{◌<◌, ◌≤◌, ◌+◌, ◌∙◌, arith, length, get_or, sym}
use Rattle.std.proofs.lemmas.List.{get_or_default}
use Rattle.cip_rational.specs.Rational.{zeroℚ}
use Rattle.cip_problem.specs.Box.{no_sides}
use Rattle.cip_cert.proofs.Steps.{untouched, coming_up, rests_more, rests_fail, rests_end, passed_more}
use Rattle.cip_cert.proofs.walks.rests.Goals as goal

pub loop-column-preserved-then-column-next : goal.loop-column-preserved-then-column-next
loop-column-preserved-then-column-next c = record {
  steps = c.loop-column.invariant.steps;
  within = c.loop-column.invariant.within;
  passed = passed_more (λ m. m < c.loop-column.next) c.args.touched.now (length c.args.sides.now) c.loop-column.column-index c.loop-column.invariant.passed (λ h. c.if-column-next.true);
}

pub loop-column-preserved-then-column-sides : goal.loop-column-preserved-then-column-sides
loop-column-preserved-then-column-sides c = record {
  steps = c.loop-column.invariant.steps;
  within = c.loop-column.invariant.within;
  passed = passed_more (λ m. m < c.loop-column.next) c.args.touched.now (length c.args.sides.now) c.loop-column.column-index c.loop-column.invariant.passed (λ h. absurd (omega (arith, h, c.if-column-sides.true)));
}

pub loop-column-preserved : goal.loop-column-preserved
loop-column-preserved c =
    let touched = c.args.touched.now in
    let sides = c.args.sides.now in
    let entries = c.args.entries.now in
    let i = c.loop-column.column-index in
    let column = get_or touched i 0 in
    let inside : column < length sides = omega (arith, c.if-column-sides.false) in
    let within : column < length entries = omega (arith, inside, c.requires.room) in
    let not_before : c.loop-column.next ≤ column = omega (arith, c.if-column-next.false) in
    record {
      steps =
          rests_more c.args.named c.loop-column.next column c.loop-column.sum c.in-Ok.value c.index-entries-column.result c.index-sides-column.result entries sides _ c.loop-column.invariant.steps not_before within inside
          (λ k a b. untouched entries touched c.loop-column.next i column (length sides) c.requires.tells c.loop-column.invariant.passed (coming_up touched i c.requires.sorted) k a b (omega (arith, b, inside)))
          (c.index-entries-column.is ∙ get_or_default entries column _ zeroℚ within)
          (c.index-sides-column.is ∙ get_or_default sides column _ no_sides inside)
          (sym c.in-Ok.ensures);
      within = omega (arith, inside);
      passed = passed_more (λ m. m < column + 1) touched (length sides) i (λ j h l. omega (arith, c.loop-column.invariant.passed j h l, not_before)) (λ h. omega arith);
    }

pub returns-in-Err : goal.returns-in-Err
returns-in-Err c =
    let touched = c.args.touched.now in
    let sides = c.args.sides.now in
    let entries = c.args.entries.now in
    let i = c.loop-column.column-index in
    let column = get_or touched i 0 in
    let inside : column < length sides = omega (arith, c.if-column-sides.false) in
    let within : column < length entries = omega (arith, inside, c.requires.room) in
    let not_before : c.loop-column.next ≤ column = omega (arith, c.if-column-next.false) in
    rests_fail c.args.named c.loop-column.next column c.loop-column.sum c.index-entries-column.result c.in-Err.fault c.index-sides-column.result entries sides _ c.loop-column.invariant.steps not_before within inside
    (λ k a b. untouched entries touched c.loop-column.next i column (length sides) c.requires.tells c.loop-column.invariant.passed (coming_up touched i c.requires.sorted) k a b (omega (arith, b, inside)))
    (c.index-entries-column.is ∙ get_or_default entries column _ zeroℚ within)
    (c.index-sides-column.is ∙ get_or_default sides column _ no_sides inside)
    (sym c.in-Err.ensures)

pub returns : goal.returns
returns c =
    rests_end c.args.named c.loop-column.next c.loop-column.sum c.args.entries.now c.args.sides.now _ c.loop-column.invariant.steps c.loop-column.invariant.within
    (λ k a b. untouched c.args.entries.now c.args.touched.now c.loop-column.next c.loop-column.column-index (length c.args.sides.now) (length c.args.sides.now) c.requires.tells c.loop-column.invariant.passed (λ j h l. absurd (omega (arith, h, l, c.loop-column-test.false))) k a b b)

pub bounds-entries-column : goal.bounds-entries-column
bounds-entries-column c = omega arith

pub bounds-sides-column : goal.bounds-sides-column
bounds-sides-column c = omega arith

pub loop-column-init : goal.loop-column-init
loop-column-init c = grind (arith, common_steps)

pub offset_bounds-entries-column : goal.offset_bounds-entries-column
offset_bounds-entries-column c = omega arith

pub offset_bounds-sides-column : goal.offset_bounds-sides-column
offset_bounds-sides-column c = omega arith

pub overflow_add-next : goal.overflow_add-next
overflow_add-next c = grind (arith, common_steps)

pub offset_bounds-touched-column-index : goal.offset_bounds-touched-column-index
offset_bounds-touched-column-index c = grind (arith, common_steps)
