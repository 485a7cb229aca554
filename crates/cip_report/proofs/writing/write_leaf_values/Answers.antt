use Rattle.std.proofs.lemmas.Grind.{common_steps}
use Rattle.std.proofs.Common.{◌<◌, ◌∙◌, ap, refl, take, length, append_assoc, rules, arith}
use Rattle.cip_rational.specs.NumberText.{fraction_text}
use Rattle.cip_search.specs.Leaf.{at_wholes}
use Rattle.cip_report.proofs.WritingLemmas.{second_of_three, counts_failed}
use Rattle.cip_report.proofs.LeafLines.{value_lines, values_are_lines, place_below, lines_around, step_passes, same_passes, step_placed, same_placed}
use Rattle.cip_report.proofs.writing.write_leaf_values.Goals as goal
use Rattle.cip_report.proofs.writing.write_leaf_values.Goals.{then-whole-column+in_ok-write_number, else-whole-column}

pub bounds-leaf-place : goal.bounds-leaf-place
bounds-leaf-place g c =
    place_below c.args.whole.now c.args.names.now c.loop-column.column c.name.result.now c.loop-column.place c.args.leaf.now c.loop-column-test.true c.if-whole-column.true c.name.ensures c.loop-column.invariant.placed c.requires.fits

pub offset_bounds-leaf-place : goal.offset_bounds-leaf-place
offset_bounds-leaf-place g c =
    let below : c.loop-column.place < length c.args.leaf.now = place_below c.args.whole.now c.args.names.now c.loop-column.column c.name.result.now c.loop-column.place c.args.leaf.now c.loop-column-test.true c.if-whole-column.true c.name.ensures c.loop-column.invariant.placed c.requires.fits in
    search rules

pub overflow_add-place : goal.overflow_add-place
overflow_add-place g c =
    let below : c.loop-column.place < length c.args.leaf.now = place_below c.args.whole.now c.args.names.now c.loop-column.column c.name.result.now c.loop-column.place c.args.leaf.now c.loop-column-test.true c.if-whole-column.true c.name.ensures c.loop-column.invariant.placed c.requires.fits in
    search rules

pub returns-in_err-write_number-clause-taken : goal.returns-in_err-write_number-clause-taken
returns-in_err-write_number-clause-taken g c =
    let below : c.loop-column.place < length c.args.leaf.now = place_below c.args.whole.now c.args.names.now c.loop-column.column c.name.result.now c.loop-column.place c.args.leaf.now c.loop-column-test.true c.if-whole-column.true c.name.ensures c.loop-column.invariant.placed c.requires.fits in
    let parts = lines_around fraction_text value_lines values_are_lines c.args.whole.now c.args.names.now c.loop-column.column c.name.result.now c.loop-column.place c.args.leaf.now c.index-leaf-place.result c.loop-column-test.true c.if-whole-column.true c.name.ensures c.loop-column.invariant.placed below c.index-leaf-place.is in
    rw (parts, ← append_assoc (value_lines (at_wholes (take c.loop-column.column c.args.whole.now) (take c.loop-column.column c.args.names.now)) (take c.loop-column.place c.args.leaf.now)) _ _)
    (second_of_three c.from_residual.result _ _ _ c.args.buffer.now _ _ _ _ _ c.from_residual.ensures.0 c.loop-column.invariant.passes c.in_err-write_number.ensures.taken)

pub loop-column-preserved : goal.loop-column-preserved
loop-column-preserved g c = elim c.if-whole-column.branch [
  | then-whole-column+in_ok-write_number w ↦
      let old = c.loop-column.invariant in
      let below : c.loop-column.place < length c.args.leaf.now = place_below c.args.whole.now c.args.names.now c.loop-column.column w.name.result.now c.loop-column.place c.args.leaf.now c.loop-column-test.true w.if-whole-column.true w.name.ensures old.placed c.requires.fits in
      record {
        passes = step_passes fraction_text value_lines values_are_lines (λ o. g.K.Sink.tells o) (g.K.Sink.tells c.args.out.now) c.loop-column.out w.write_number.new.out _ c.args.buffer.now _ _ _ _ c.args.whole.now c.args.names.now c.loop-column.column w.name.result.now c.loop-column.place _ c.args.leaf.now w.index-leaf-place.result c.loop-column-test.true w.if-whole-column.true w.name.ensures old.placed below
            w.index-leaf-place.is w.out-is w.buffer-is w.place-is refl old.passes w.in_ok-write_number.ensures.taken;
        same = ap (λ o. (g.K.Sink.tells o).faults) w.out-is ∙ (w.in_ok-write_number.ensures.faults.0 ∙ old.same);
        placed = step_placed c.args.whole.now c.args.names.now c.loop-column.column w.name.result.now c.loop-column.place _ c.loop-column-test.true w.if-whole-column.true w.name.ensures w.place-is old.placed;
      }
  | else-whole-column w ↦
      let old = c.loop-column.invariant in
      record {
        passes = same_passes fraction_text value_lines values_are_lines (λ o. g.K.Sink.tells o) (g.K.Sink.tells c.args.out.now) c.loop-column.out _ c.args.buffer.now _ _ c.args.whole.now c.args.names.now c.loop-column.column c.loop-column.place _ c.args.leaf.now c.loop-column-test.true w.if-whole-column.false w.out-is w.buffer-is w.place-is old.passes;
        same = ap (λ o. (g.K.Sink.tells o).faults) w.out-is ∙ old.same;
        placed = same_placed c.args.whole.now c.args.names.now c.loop-column.column c.loop-column.place _ c.loop-column-test.true w.if-whole-column.false w.place-is old.placed;
      }
]

pub loop-column-init : goal.loop-column-init
loop-column-init g c = grind (arith, common_steps)

pub name-requires : goal.name-requires
name-requires g c = omega arith

pub returns-clause-taken : goal.returns-clause-taken
returns-clause-taken g c = grind (arith, common_steps)

pub bounds-whole-column : goal.bounds-whole-column
bounds-whole-column g c = grind (arith, common_steps)

pub returns-clause-faults : goal.returns-clause-faults
returns-clause-faults g c = grind (arith, common_steps)

pub returns-in_err-write_number-clause-faults : goal.returns-in_err-write_number-clause-faults
returns-in_err-write_number-clause-faults g c = counts_failed c.from_residual.result _ _ _ c.from_residual.ensures.0 c.loop-column.invariant.same c.in_err-write_number.ensures.faults.1
