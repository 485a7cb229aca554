use Rattle.std.proofs.lemmas.Grind.{common_steps}
use Rattle.std.proofs.Common.{◌<◌, ◌≤◌, ◌++◌, ◌∙◌, ap, subst, false, map, get_or, take, length, append_assoc, rules, arith}
use Rattle.std.proofs.lemmas.List.{get_or_default}
use Rattle.cip_problem.specs.Choices.{is_open}
use Rattle.cip_search.specs.Leaf.{at_wholes}
use Rattle.cip_search.specs.Figures.{choice_text}
use Rattle.cip_report.specs.Writing.{Passes}
use Rattle.cip_report.proofs.WritingLemmas.{second_of_three, counts_failed}
use Rattle.cip_report.proofs.LeafLines.{on_lines, choices_are_lines, place_below, lines_around, step_passes, same_passes, step_placed, same_placed, open_flag, few_flags, all_lines, open_at}
use Rattle.cip_report.proofs.writing.write_leaf_choices.Goals as goal
use Rattle.cip_report.proofs.writing.write_leaf_choices.Goals.{then-is_open+in_ok-write_line, else-is_open}

pub bounds-on-place : goal.bounds-on-place
bounds-on-place g c =
    let few = few_flags c.args.choices.now c.loop-column.column c.loop-column-test.true in
    let flag = open_flag c.args.choices.now c.loop-column.column c.index-choices-column.result c.is_open.result c.loop-column-test.true c.index-choices-column.is c.is_open.ensures ∙ c.if-is_open.true in
    place_below (map is_open c.args.choices.now) c.args.names.now c.loop-column.column c.name-name.result.now c.loop-column.place c.args.on.now few flag c.name-name.ensures c.loop-column.invariant.placed c.requires.fits

pub overflow_add-place : goal.overflow_add-place
overflow_add-place g c =
    let few = few_flags c.args.choices.now c.loop-column.column c.loop-column-test.true in
    let flag = open_flag c.args.choices.now c.loop-column.column c.index-choices-column.result c.is_open.result c.loop-column-test.true c.index-choices-column.is c.is_open.ensures ∙ c.if-is_open.true in
    let below : c.loop-column.place < length c.args.on.now = place_below (map is_open c.args.choices.now) c.args.names.now c.loop-column.column c.name-name.result.now c.loop-column.place c.args.on.now few flag c.name-name.ensures c.loop-column.invariant.placed c.requires.fits in
    search rules

pub returns-in_err-write_line-clause-taken : goal.returns-in_err-write_line-clause-taken
returns-in_err-write_line-clause-taken g c =
    let flags = map is_open c.args.choices.now in
    let few = few_flags c.args.choices.now c.loop-column.column c.loop-column-test.true in
    let flag = open_flag c.args.choices.now c.loop-column.column c.index-choices-column.result c.is_open.result c.loop-column-test.true c.index-choices-column.is c.is_open.ensures ∙ c.if-is_open.true in
    let below : c.loop-column.place < length c.args.on.now = place_below flags c.args.names.now c.loop-column.column c.name-name.result.now c.loop-column.place c.args.on.now few flag c.name-name.ensures c.loop-column.invariant.placed c.requires.fits in
    let parts = lines_around choice_text on_lines choices_are_lines flags c.args.names.now c.loop-column.column c.name-name.result.now c.loop-column.place c.args.on.now (get_or c.args.on.now c.loop-column.place false) few flag c.name-name.ensures c.loop-column.invariant.placed below (get_or_default c.args.on.now c.loop-column.place false (get_or c.args.on.now c.loop-column.place false) below) in
    let word = c.as_bytes-word.ensures.value ∙ c.choice_word.ensures in
    rw (parts, ← append_assoc (on_lines (at_wholes (take c.loop-column.column flags) (take c.loop-column.column c.args.names.now)) (take c.loop-column.place c.args.on.now)) _ _)
    (second_of_three c.from_residual.result _ _ _ c.args.buffer.now _ _ _ _ _ c.from_residual.ensures.0 c.loop-column.invariant.passes (rw word at c.in_err-write_line.ensures.taken))

pub loop-column-preserved : goal.loop-column-preserved
loop-column-preserved g c =
    let flags = map is_open c.args.choices.now in
    let few = few_flags c.args.choices.now c.loop-column.column c.loop-column-test.true in
    let flag = open_flag c.args.choices.now c.loop-column.column c.index-choices-column.result c.is_open.result c.loop-column-test.true c.index-choices-column.is c.is_open.ensures in
    let old = c.loop-column.invariant in
    elim c.if-is_open.branch [
      | then-is_open+in_ok-write_line w ↦
          let at = flag ∙ w.if-is_open.true in
          let below : c.loop-column.place < length c.args.on.now = place_below flags c.args.names.now c.loop-column.column w.name-name.result.now c.loop-column.place c.args.on.now few at w.name-name.ensures old.placed c.requires.fits in
          record {
            passes = step_passes choice_text on_lines choices_are_lines (λ o. g.K.Sink.tells o) (g.K.Sink.tells c.args.out.now) c.loop-column.out w.write_line.new.out _ c.args.buffer.now _ _ _ _ flags c.args.names.now c.loop-column.column w.name-name.result.now c.loop-column.place _ c.args.on.now (get_or c.args.on.now c.loop-column.place false) few at w.name-name.ensures old.placed below
                (get_or_default c.args.on.now c.loop-column.place false (get_or c.args.on.now c.loop-column.place false) below) w.out-is w.buffer-is w.place-is (w.as_bytes-word.ensures.value ∙ w.choice_word.ensures) old.passes w.in_ok-write_line.ensures.taken;
            same = ap (λ o. (g.K.Sink.tells o).faults) w.out-is ∙ (w.in_ok-write_line.ensures.faults.0 ∙ old.same);
            placed = step_placed flags c.args.names.now c.loop-column.column w.name-name.result.now c.loop-column.place _ few at w.name-name.ensures w.place-is old.placed;
          }
      | else-is_open w ↦
          let off = flag ∙ w.if-is_open.false in
          record {
            passes = same_passes choice_text on_lines choices_are_lines (λ o. g.K.Sink.tells o) (g.K.Sink.tells c.args.out.now) c.loop-column.out _ c.args.buffer.now _ _ flags c.args.names.now c.loop-column.column c.loop-column.place _ c.args.on.now few off w.out-is w.buffer-is w.place-is old.passes;
            same = ap (λ o. (g.K.Sink.tells o).faults) w.out-is ∙ old.same;
            placed = same_placed flags c.args.names.now c.loop-column.column c.loop-column.place _ few off w.place-is old.placed;
          }
    ]

pub returns-clause-taken : goal.returns-clause-taken
returns-clause-taken g c =
    let past : length c.args.choices.now ≤ c.loop-column.column = omega (arith, c.loop-column-test.false) in
    let end = all_lines c.args.choices.now c.args.names.now c.args.on.now c.loop-column.column c.loop-column.place past c.requires.fits c.loop-column.invariant.placed in
    subst (λ text. Passes (g.K.Sink.tells c.args.out.now) (g.K.Sink.tells c.loop-column.out) (c.args.buffer.now ++ text) c.loop-column.buffer) end c.loop-column.invariant.passes

pub loop-column-init : goal.loop-column-init
loop-column-init g c = grind (arith, common_steps)

pub bounds-choices-column : goal.bounds-choices-column
bounds-choices-column g c = grind (arith, common_steps)

pub offset_bounds-choices-column : goal.offset_bounds-choices-column
offset_bounds-choices-column g c = grind (arith, common_steps)

pub returns-clause-faults : goal.returns-clause-faults
returns-clause-faults g c = grind (arith, common_steps)

pub returns-in_err-write_line-clause-faults : goal.returns-in_err-write_line-clause-faults
returns-in_err-write_line-clause-faults g c = counts_failed c.from_residual.result _ _ _ c.from_residual.ensures.0 c.loop-column.invariant.same c.in_err-write_line.ensures.faults.1

pub name-name-requires : goal.name-name-requires
name-name-requires g c =
    c.requires.among c.loop-column.column (open_at c.args.choices.now c.loop-column.column c.index-choices-column.result c.is_open.result c.loop-column-test.true c.index-choices-column.is c.is_open.ensures c.if-is_open.true)
