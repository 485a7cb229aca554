use Rattle.std.proofs.lemmas.Grind.{common_steps}
use Rattle.std.proofs.Common.{arith}
use Rattle.cip_blocks.proofs.block_words.BlockWords.open.Goals as goal

pub returns-in_default : goal.returns-in_default
returns-in_default c = grind (arith, common_steps)

pub returns-in-Block-2-clause-taken : goal.returns-in-Block-2-clause-taken
returns-in-Block-2-clause-taken c = grind (arith, common_steps)

pub returns-in-BlockCount-2-clause-taken : goal.returns-in-BlockCount-2-clause-taken
returns-in-BlockCount-2-clause-taken c = grind (arith, common_steps)

pub returns-in-BlockCount-clause-taken : goal.returns-in-BlockCount-clause-taken
returns-in-BlockCount-clause-taken c = grind (arith, common_steps)

pub returns-in-Block-clause-taken : goal.returns-in-Block-clause-taken
returns-in-Block-clause-taken c = grind (arith, common_steps)

pub returns-in-Master-clause-taken : goal.returns-in-Master-clause-taken
returns-in-Master-clause-taken c = grind (arith, common_steps)

pub returns-in-Presolved-clause-taken : goal.returns-in-Presolved-clause-taken
returns-in-Presolved-clause-taken c = grind (arith, common_steps)

pub invariant_of-self-in-BlockCount-2 : goal.invariant_of-self-in-BlockCount-2
invariant_of-self-in-BlockCount-2 c = grind (arith, common_steps)

pub invariant_of-self-in-Block-2 : goal.invariant_of-self-in-Block-2
invariant_of-self-in-Block-2 c = grind (arith, common_steps)

pub invariant_of-self-in-Master : goal.invariant_of-self-in-Master
invariant_of-self-in-Master c = grind (arith, common_steps)

pub invariant_of-self : goal.invariant_of-self
invariant_of-self c = grind (arith, common_steps)

pub returns-in-BlockCount-clause-kinds : goal.returns-in-BlockCount-clause-kinds
returns-in-BlockCount-clause-kinds c = grind (arith, common_steps)

pub returns-in-Block-clause-kinds : goal.returns-in-Block-clause-kinds
returns-in-Block-clause-kinds c = grind (arith, common_steps)

pub returns-in-BlockCount-2-clause-kinds : goal.returns-in-BlockCount-2-clause-kinds
returns-in-BlockCount-2-clause-kinds c = grind (arith, common_steps)

pub returns-in-Block-2-clause-kinds : goal.returns-in-Block-2-clause-kinds
returns-in-Block-2-clause-kinds c = grind (arith, common_steps)

pub returns-in-Presolved-clause-kinds : goal.returns-in-Presolved-clause-kinds
returns-in-Presolved-clause-kinds c = grind (arith, common_steps)

pub returns-in-Master-clause-kinds : goal.returns-in-Master-clause-kinds
returns-in-Master-clause-kinds c = grind (arith, common_steps)

pub returns-in-Block-2-clause-same : goal.returns-in-Block-2-clause-same
returns-in-Block-2-clause-same c = grind (arith, common_steps)

pub returns-in-BlockCount-2-clause-same : goal.returns-in-BlockCount-2-clause-same
returns-in-BlockCount-2-clause-same c = grind (arith, common_steps)

pub returns-in-Master-clause-same : goal.returns-in-Master-clause-same
returns-in-Master-clause-same c = grind (arith, common_steps)

pub returns-in-Block-clause-same : goal.returns-in-Block-clause-same
returns-in-Block-clause-same c = grind (arith, common_steps)

pub returns-in-BlockCount-clause-same : goal.returns-in-BlockCount-clause-same
returns-in-BlockCount-clause-same c = grind (arith, common_steps)

pub returns-in-Presolved-clause-same : goal.returns-in-Presolved-clause-same
returns-in-Presolved-clause-same c = grind (arith, common_steps)
