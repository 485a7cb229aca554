use Rattle.std.proofs.lemmas.Grind.{common_steps}
use Rattle.std.proofs.Common.{◌≡◌, ◌<◌, false, ◌∙◌, arith, length, get_or, sym, refl}
use Rattle.std.proofs.lemmas.List.{get_or_default}
use Rattle.cip_rational.specs.Rational.{zeroℚ}
use Rattle.cip_cert.proofs.Steps.{stops_at, first_found, none_found, passed_more}
use Rattle.cip_cert.proofs.walks.first_stop.Goals as goal

pub loop-column-preserved-then-column-whole : goal.loop-column-preserved-then-column-whole
loop-column-preserved-then-column-whole c =
    passed_more (λ m. stops_at c.args.whole.now c.args.entries.now m ≡ false) c.args.touched.now (length c.args.whole.now) c.loop-column.column-index c.loop-column.invariant (λ h. absurd (omega (arith, h, c.if-column-whole.true)))

pub loop-column-preserved : goal.loop-column-preserved
loop-column-preserved c =
    let whole = c.args.whole.now in
    let entries = c.args.entries.now in
    let column = get_or c.args.touched.now c.loop-column.column-index 0 in
    let inside : column < length whole = omega (arith, c.if-column-whole.false) in
    let within : column < length entries = omega (arith, inside, c.requires.room) in
    passed_more (λ m. stops_at whole entries m ≡ false) c.args.touched.now (length whole) c.loop-column.column-index c.loop-column.invariant
    (λ h. rw (← get_or_default entries column c.index-entries-column.result zeroℚ within, ← c.index-entries-column.is) (sym c.stops.ensures ∙ c.if-stops.false))

pub returns-then-stops : goal.returns-then-stops
returns-then-stops c =
    let whole = c.args.whole.now in
    let entries = c.args.entries.now in
    let column = get_or c.args.touched.now c.loop-column.column-index 0 in
    let inside : column < length whole = omega (arith, c.if-column-whole.false) in
    let within : column < length entries = omega (arith, inside, c.requires.room) in
    sym (first_found whole entries c.args.touched.now c.loop-column.column-index column c.requires.tells c.requires.sorted c.loop-column.invariant refl inside within
    (rw (← get_or_default entries column c.index-entries-column.result zeroℚ within, ← c.index-entries-column.is) (sym c.stops.ensures ∙ c.if-stops.true)))

pub returns : goal.returns
returns c = sym (none_found c.args.whole.now c.args.entries.now c.args.touched.now c.loop-column.column-index c.requires.tells c.loop-column-test.false c.loop-column.invariant)

pub bounds-entries-column : goal.bounds-entries-column
bounds-entries-column c = grind (arith, common_steps)

pub bounds-whole-column : goal.bounds-whole-column
bounds-whole-column c = grind (arith, common_steps)

pub offset_bounds-entries-column : goal.offset_bounds-entries-column
offset_bounds-entries-column c = grind (arith, common_steps)

pub offset_bounds-touched-column-index : goal.offset_bounds-touched-column-index
offset_bounds-touched-column-index c = grind (arith, common_steps)

pub loop-column-init : goal.loop-column-init
loop-column-init c = grind (arith, common_steps)
