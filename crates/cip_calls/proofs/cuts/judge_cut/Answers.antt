use Rattle.std.proofs.lemmas.Grind.{common_steps}
use Rattle.std.proofs.Common.{arith}
use Rattle.cip_calls.proofs.cuts.judge_cut.Goals as goal

pub judge_split_cut-requires-clause-at_work : goal.judge_split_cut-requires-clause-at_work
judge_split_cut-requires-clause-at_work c = c.requires.at_work

pub judge_split_cut-requires-clause-room : goal.judge_split_cut-requires-clause-room
judge_split_cut-requires-clause-room c = (c.requires.room.first, c.requires.room.second)

pub returns-in-Some-clause-judged : goal.returns-in-Some-clause-judged
returns-in-Some-clause-judged c = grind (arith, common_steps)

pub returns-in-None-clause-judged : goal.returns-in-None-clause-judged
returns-in-None-clause-judged c = grind (arith, common_steps)

pub returns-in-Some-clause-frame : goal.returns-in-Some-clause-frame
returns-in-Some-clause-frame c = grind (arith, common_steps)

pub returns-in-Some-clause-later : goal.returns-in-Some-clause-later
returns-in-Some-clause-later c = grind (arith, common_steps)

pub returns-in-None-clause-frame : goal.returns-in-None-clause-frame
returns-in-None-clause-frame c = grind (arith, common_steps)

pub returns-in-None-clause-later : goal.returns-in-None-clause-later
returns-in-None-clause-later c = grind (arith, common_steps)

pub judge_row-requires : goal.judge_row-requires
judge_row-requires c = grind (arith, common_steps)

pub returns-in-None-clause-scratches : goal.returns-in-None-clause-scratches
returns-in-None-clause-scratches c = grind (arith, common_steps)
