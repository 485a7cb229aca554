use Rattle.cip_dict.specs.Written.{entered_form}
use Rattle.cip_rational.specs.Rational.{ℚ}
use Rattle.cip_dict.specs.Row.{row_in}
use Rattle.cip_dict.proofs.RowLists.{entered_long}
use Rattle.std.proofs.lemmas.Grind.{common_steps}
use Rattle.std.proofs.Common.{arith, ◌∙◌, ap, length, cond, Bool, List}
use Rattle.cip_dict.proofs.exchange.take_over_rows.Goals as goal

pub enter_row-requires-clause-apart : goal.enter_row-requires-clause-apart
enter_row-requires-clause-apart c = grind (arith, common_steps)

pub swap_rows-requires-clause-apart : goal.swap_rows-requires-clause-apart
swap_rows-requires-clause-apart c = grind (arith, common_steps)

pub swap_rows-requires-clause-entering : goal.swap_rows-requires-clause-entering
swap_rows-requires-clause-entering c = grind (arith, common_steps)

pub swap_rows-requires-clause-leaving : goal.swap_rows-requires-clause-leaving
swap_rows-requires-clause-leaving c = grind (arith, common_steps)

pub take_rows-requires-clause-other_long : goal.take_rows-requires-clause-other_long
take_rows-requires-clause-other_long c = grind (arith, common_steps)

pub take_rows-requires-clause-rows_long : goal.take_rows-requires-clause-rows_long
take_rows-requires-clause-rows_long c = grind (arith, common_steps)

pub enter_row-requires-clause-entering : goal.enter_row-requires-clause-entering
enter_row-requires-clause-entering c = grind (arith, common_steps)

pub enter_row-requires-clause-leaving : goal.enter_row-requires-clause-leaving
enter_row-requires-clause-leaving c = grind (arith, common_steps)

pub take_rows-requires-clause-marked : goal.take_rows-requires-clause-marked
take_rows-requires-clause-marked c = grind (arith, common_steps)

pub returns-clause-rows_long : goal.returns-clause-rows_long
returns-clause-rows_long c =
    entered_long c.args.standing.now c.args.asked.leaving c.args.asked.entering c.take_rows.new.rows c.enter_row.new.rows c.args.entering.now c.take_rows.ensures.rows_long c.requires.entering c.requires.nonbasic c.requires.entering_long c.enter_row.ensures.count c.enter_row.ensures.entered

pub returns-clause-other_long : goal.returns-clause-other_long
returns-clause-other_long c =
    entered_long c.args.standing.now c.args.asked.leaving c.args.asked.entering c.take_rows.new.other c.swap_rows.new.rows (row_in c.take_rows.new.other c.args.asked.leaving) c.take_rows.ensures.other_long c.requires.entering c.requires.nonbasic (c.take_rows.ensures.other_long.long c.args.asked.leaving c.requires.leaving ∙ ap (λ (t : Bool). cond t (length c.args.standing.now) 0) c.requires.basic) c.swap_rows.ensures.count c.swap_rows.ensures.swapped

pub returns-clause-entering_long : goal.returns-clause-entering_long
returns-clause-entering_long c =
    ap length c.enter_row.ensures.left ∙ c.take_rows.ensures.rows_long.long c.args.asked.leaving c.requires.leaving ∙ ap (λ (t : Bool). cond t (length c.args.standing.now) 0) c.requires.basic

pub returns-clause-rows : goal.returns-clause-rows
returns-clause-rows c =
    λ v l. c.enter_row.ensures.entered v (rw c.take_rows.ensures.rows_long.each_one l) ∙ ap (λ (rows : List (List ℚ)). entered_form c.args.asked.leaving c.args.asked.entering rows c.args.entering.now v) c.take_rows.ensures.taken
