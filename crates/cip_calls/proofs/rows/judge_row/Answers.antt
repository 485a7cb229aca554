use Rattle.std.proofs.lemmas.Grind.{common_steps}
use Rattle.std.proofs.Common.{sym, subst, arith}
use Rattle.cip_calls.specs.RowsJudged.{IsRowJudged}
use Rattle.cip_calls.proofs.RowsTold.{row_judged}
use Rattle.cip_calls.proofs.rows.judge_row.Goals as goal

pub returns-in-Ok-Told-clause-judged : goal.returns-in-Ok-Told-clause-judged
returns-in-Ok-Told-clause-judged c =
    subst (IsRowJudged c.args.core.now c.add_row.new.self c.args.combo.now c.args.round c.args.local) (sym c.judged_row.ensures)
    (row_judged c.args.core.now c.add_row.new.self c.args.combo.now c.args.round c.args.local c.in-Ok-Told.added (rw c.in-Ok-Told.field-0-is at c.in-Ok-Told.ensures.asked))

pub returns-in-Err-clause-judged : goal.returns-in-Err-clause-judged
returns-in-Err-clause-judged c = grind (arith, common_steps)

pub returns-in-Ok-Refused-clause-judged : goal.returns-in-Ok-Refused-clause-judged
returns-in-Ok-Refused-clause-judged c = grind (arith, common_steps)

pub returns-in-Ok-Refused-clause-frame : goal.returns-in-Ok-Refused-clause-frame
returns-in-Ok-Refused-clause-frame c = grind (arith, common_steps)

pub returns-in-Ok-Refused-clause-later : goal.returns-in-Ok-Refused-clause-later
returns-in-Ok-Refused-clause-later c = grind (arith, common_steps)

pub returns-in-Ok-Told-clause-frame : goal.returns-in-Ok-Told-clause-frame
returns-in-Ok-Told-clause-frame c = grind (arith, common_steps)

pub returns-in-Ok-Told-clause-later : goal.returns-in-Ok-Told-clause-later
returns-in-Ok-Told-clause-later c = grind (arith, common_steps)

pub returns-in-Err-clause-frame : goal.returns-in-Err-clause-frame
returns-in-Err-clause-frame c = grind (arith, common_steps)

pub returns-in-Err-clause-later : goal.returns-in-Err-clause-later
returns-in-Err-clause-later c = grind (arith, common_steps)
