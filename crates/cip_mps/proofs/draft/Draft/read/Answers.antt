use Rattle.std.proofs.lemmas.Grind.{common_steps}
use Rattle.std.proofs.Common.{refl, sym, subst, arith}
use Rattle.std.specs.Prelude.{IfOk, None, Some}
use Rattle.cip_mps_lines.specs.MpsLines.{saying_of}
use Rattle.cip_mps_lines.specs.declared.line.Line.{Line}
use Rattle.cip_mps.specs.DraftStates.{kept}
use Rattle.cip_mps.specs.DraftSteps.{IsStep}
use Rattle.cip_mps.proofs.TakenLaws.{taken_skipped, taken_marker}
use Rattle.cip_mps.proofs.draft.Draft.read.Goals as goal

pub returns-in-UnknownSection : goal.returns-in-UnknownSection
returns-in-UnknownSection c =
    let state = kept c.args.self.now in
    subst (λ (line : Line). IsStep state state (saying_of line) (Some 1)) (sym c.in-UnknownSection.is) (record { is_fault = sym (c.lines_have_tests.ensures.unknown_section state); is_kept = refl })

pub returns-in-Misplaced : goal.returns-in-Misplaced
returns-in-Misplaced c =
    let state = kept c.args.self.now in
    subst (λ (line : Line). IsStep state state (saying_of line) (Some 2)) (sym c.in-Misplaced.is) (record { is_fault = sym (c.lines_have_tests.ensures.misplaced state); is_kept = refl })

pub returns-in-Miscounted : goal.returns-in-Miscounted
returns-in-Miscounted c =
    let state = kept c.args.self.now in
    subst (λ (line : Line). IsStep state state (saying_of line) (Some 4)) (sym c.in-Miscounted.is) (record { is_fault = sym (c.lines_have_tests.ensures.miscounted state); is_kept = refl })

pub returns-in-BadMarker : goal.returns-in-BadMarker
returns-in-BadMarker c =
    let state = kept c.args.self.now in
    subst (λ (line : Line). IsStep state state (saying_of line) (Some 15)) (sym c.in-BadMarker.is) (record { is_fault = sym (c.lines_have_tests.ensures.bad_marker state); is_kept = refl })

pub returns-in-BadBound : goal.returns-in-BadBound
returns-in-BadBound c =
    let state = kept c.args.self.now in
    subst (λ (line : Line). IsStep state state (saying_of line) (Some 14)) (sym c.in-BadBound.is) (record { is_fault = sym (c.lines_have_tests.ensures.bad_bound state); is_kept = refl })

pub returns-in-Skipped : goal.returns-in-Skipped
returns-in-Skipped c =
    let state = kept c.args.self.now in
    subst (λ (line : Line). IsStep state state (saying_of line) None) (sym c.in-Skipped.is)
    (record { is_fault = sym (c.lines_have_tests.ensures.skipped state); is_kept = sym (taken_skipped state) })

pub returns-in-Marker : goal.returns-in-Marker
returns-in-Marker c =
    let state = kept c.args.self.now in
    let begins = c.in-Marker.begins in
    subst (λ (line : Line). IsStep state state (saying_of line) None) (sym c.in-Marker.is)
    (record { is_fault = sym (c.lines_have_tests.ensures.marker state begins); is_kept = sym (taken_marker state begins) })

pub returns-in-Opens : goal.returns-in-Opens
returns-in-Opens c = subst (λ (line : Line). IfOk c.read_section.result (IsStep (kept c.args.self.now) (kept c.read_section.new.self) (saying_of line))) (sym c.in-Opens.is) c.read_section.ensures

pub returns-in-SenseLine : goal.returns-in-SenseLine
returns-in-SenseLine c = subst (λ (line : Line). IsStep (kept c.args.self.now) (kept c.read_sense.new.self) (saying_of line) c.read_sense.result) (sym c.in-SenseLine.is) c.read_sense.ensures

pub returns-in-RowLine : goal.returns-in-RowLine
returns-in-RowLine c = subst (λ (line : Line). IfOk c.read_row.result (IsStep (kept c.args.self.now) (kept c.read_row.new.self) (saying_of line))) (sym c.in-RowLine.is) c.read_row.ensures

pub returns-in-ColumnLine : goal.returns-in-ColumnLine
returns-in-ColumnLine c = subst (λ (line : Line). IfOk c.read_column.result (IsStep (kept c.args.self.now) (kept c.read_column.new.self) (saying_of line))) (sym c.in-ColumnLine.is) c.read_column.ensures

pub returns-in-RightSideLine : goal.returns-in-RightSideLine
returns-in-RightSideLine c = subst (λ (line : Line). IsStep (kept c.args.self.now) (kept c.read_right_sides.new.self) (saying_of line) c.read_right_sides.result) (sym c.in-RightSideLine.is) c.read_right_sides.ensures

pub returns-in-RangeLine : goal.returns-in-RangeLine
returns-in-RangeLine c = subst (λ (line : Line). IsStep (kept c.args.self.now) (kept c.read_ranges.new.self) (saying_of line) c.read_ranges.result) (sym c.in-RangeLine.is) c.read_ranges.ensures

pub returns-in-BoundLine : goal.returns-in-BoundLine
returns-in-BoundLine c = subst (λ (line : Line). IsStep (kept c.args.self.now) (kept c.read_bound.new.self) (saying_of line) c.read_bound.result) (sym c.in-BoundLine.is) c.read_bound.ensures

pub slice_bounds-read_bound-end-in-BoundLine : goal.slice_bounds-read_bound-end-in-BoundLine
slice_bounds-read_bound-end-in-BoundLine c = grind (arith, common_steps)

pub slice_bounds-read_bound-end : goal.slice_bounds-read_bound-end
slice_bounds-read_bound-end c = grind (arith, common_steps)

pub slice_bounds-read_ranges-end : goal.slice_bounds-read_ranges-end
slice_bounds-read_ranges-end c = grind (arith, common_steps)

pub slice_bounds-read_column-end : goal.slice_bounds-read_column-end
slice_bounds-read_column-end c = grind (arith, common_steps)

pub slice_bounds-read_right_sides-end : goal.slice_bounds-read_right_sides-end
slice_bounds-read_right_sides-end c = grind (arith, common_steps)

pub slice_bounds-read_row-end : goal.slice_bounds-read_row-end
slice_bounds-read_row-end c = grind (arith, common_steps)
