use Rattle.std.proofs.lemmas.Grind.{common_steps}
use Rattle.std.proofs.Common.{arith, refl}
use Rattle.cip_calls.proofs.verdicts.judge_word.Goals as goal

pub returns-in-Emptied-clause-scratch : goal.returns-in-Emptied-clause-scratch
returns-in-Emptied-clause-scratch c = grind (arith, common_steps)

pub returns-in-None-clause-verdict : goal.returns-in-None-clause-verdict
returns-in-None-clause-verdict c = grind (arith, common_steps)

pub returns-in-Some-clause-verdict : goal.returns-in-Some-clause-verdict
returns-in-Some-clause-verdict c = grind (arith, common_steps)

pub returns-in_default-judge_cutoff : goal.returns-in_default-judge_cutoff
returns-in_default-judge_cutoff c = grind (arith, common_steps)

pub returns-in_default : goal.returns-in_default
returns-in_default c = grind (arith, common_steps)

pub returns-in-Some-clause-scratch : goal.returns-in-Some-clause-scratch
returns-in-Some-clause-scratch c = grind (arith, common_steps)

pub judge_cutoff-requires-clause-room : goal.judge_cutoff-requires-clause-room
judge_cutoff-requires-clause-room c = grind (arith, common_steps)

pub returns-in-None-clause-scratch : goal.returns-in-None-clause-scratch
returns-in-None-clause-scratch c = grind (arith, common_steps)

pub judge_cutoff-requires-clause-at_work : goal.judge_cutoff-requires-clause-at_work
judge_cutoff-requires-clause-at_work c = grind (arith, common_steps)

pub returns-in-Emptied-clause-verdict : goal.returns-in-Emptied-clause-verdict
returns-in-Emptied-clause-verdict c = c.in-Emptied.ensures.emptied refl

pub split_refusal-requires : goal.split_refusal-requires
split_refusal-requires c = record { at_work = c.requires.at_work }
