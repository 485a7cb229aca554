use Rattle.std.proofs.lemmas.Grind.{common_steps}
use Rattle.std.proofs.Common.{inl, arith}
use Rattle.cip_leaf.proofs.Sums.{part_overflows}
use Rattle.cip_leaf.proofs.leaves.values_answer.Goals as goal

pub returns-in-Err-Wide : goal.returns-in-Err-Wide
returns-in-Err-Wide c =
    let fault = rw c.in-Err-Wide.field-0-is at c.in-Err-Wide.ensures in
    rw c.in-Err-Wide.number-is (inl (part_overflows c.args.program.now c.args.wholes.now c.in-Err-Wide.number c.columns-columns.ensures.formed c.requires fault))

pub tested-requires-clause-whole : goal.tested-requires-clause-whole
tested-requires-clause-whole c = grind (arith, common_steps)

pub answer_on-answer-requires-clause-formed : goal.answer_on-answer-requires-clause-formed
answer_on-answer-requires-clause-formed c = grind (arith, common_steps)

pub returns-in-Ok : goal.returns-in-Ok
returns-in-Ok c = grind (arith, common_steps)

pub returns-then-are_all_whole : goal.returns-then-are_all_whole
returns-then-are_all_whole c = grind (arith, common_steps)

pub answer_on-answer-requires-clause-parts : goal.answer_on-answer-requires-clause-parts
answer_on-answer-requires-clause-parts c = grind (arith, common_steps)

pub returns-in-Err-NoMemory : goal.returns-in-Err-NoMemory
returns-in-Err-NoMemory c = grind (arith, common_steps)
