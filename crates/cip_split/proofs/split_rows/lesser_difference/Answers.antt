use Rattle.std.proofs.lemmas.Grind.{common_steps}
use Rattle.std.proofs.Common.{◌∙◌, arith, refl, sym}
use Rattle.cip_split.proofs.Differences.{apart_at, same_at}
use Rattle.cip_split.proofs.split_rows.lesser_difference.Goals as goal
use Rattle.cip_split.proofs.split_rows.lesser_difference.Goals.{else-column-least-via-then-column-least+else-ne, else-column-least-via-else-column-least}

pub returns-then-ne-clause-differs : goal.returns-then-ne-clause-differs
returns-then-ne-clause-differs c h =
    (refl, apart_at c.args.entries.now c.args.others.now c.args.column c.index-entries-column.result c.index-others-column.result (omega (arith, h, c.requires.within)) c.requires.same c.index-entries-column.is c.index-others-column.is (sym c.ne.ensures ∙ c.if-ne.true))

pub returns-else-column-least-clause-agrees : goal.returns-else-column-least-clause-agrees
returns-else-column-least-clause-agrees c h = elim c.else-column-least.branch [
  | else-column-least-via-then-column-least+else-ne w ↦ same_at c.args.entries.now c.args.others.now c.args.column w.index-entries-column.result w.index-others-column.result (omega (arith, h, c.requires.within)) c.requires.same w.index-entries-column.is w.index-others-column.is (sym w.ne.ensures ∙ w.if-ne.false)
  | else-column-least-via-else-column-least w ↦ absurd (omega (arith, h, w.if-column-least.false))
]

pub returns-then-ne-clause-agrees : goal.returns-then-ne-clause-agrees
returns-then-ne-clause-agrees c = grind (arith, common_steps)

pub returns-then-ne-clause-below : goal.returns-then-ne-clause-below
returns-then-ne-clause-below c = grind (arith, common_steps)

pub bounds-others-column : goal.bounds-others-column
bounds-others-column c = grind (arith, common_steps)

pub bounds-entries-column : goal.bounds-entries-column
bounds-entries-column c = grind (arith, common_steps)

pub offset_bounds-others-column : goal.offset_bounds-others-column
offset_bounds-others-column c = grind (arith, common_steps)

pub offset_bounds-entries-column : goal.offset_bounds-entries-column
offset_bounds-entries-column c = grind (arith, common_steps)
