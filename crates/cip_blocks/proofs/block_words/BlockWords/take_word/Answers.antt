use Rattle.std.proofs.lemmas.Grind.{common_steps}
use Rattle.std.proofs.Common.{arith}
use Rattle.cip_blocks.proofs.block_words.BlockWords.take_word.Goals as goal

pub returns-in-CountDue-clause-taken : goal.returns-in-CountDue-clause-taken
returns-in-CountDue-clause-taken c = grind (arith, common_steps)

pub returns-in-KeywordDue-clause-taken : goal.returns-in-KeywordDue-clause-taken
returns-in-KeywordDue-clause-taken c = grind (arith, common_steps)

pub returns-in-ZeroDue-clause-taken : goal.returns-in-ZeroDue-clause-taken
returns-in-ZeroDue-clause-taken c = grind (arith, common_steps)

pub returns-in-NamesOf-clause-taken : goal.returns-in-NamesOf-clause-taken
returns-in-NamesOf-clause-taken c = grind (arith, common_steps)

pub returns-in-BlockDue-clause-taken : goal.returns-in-BlockDue-clause-taken
returns-in-BlockDue-clause-taken c = grind (arith, common_steps)

pub invariant_of-self : goal.invariant_of-self
invariant_of-self c = grind (arith, common_steps)

pub returns-in-Some-clause-taken : goal.returns-in-Some-clause-taken
returns-in-Some-clause-taken c = grind (arith, common_steps)

pub returns-in-KeywordDue-2-clause-taken : goal.returns-in-KeywordDue-2-clause-taken
returns-in-KeywordDue-2-clause-taken c = grind (arith, common_steps)

pub returns-in-NamesOf-clause-same : goal.returns-in-NamesOf-clause-same
returns-in-NamesOf-clause-same c = grind (arith, common_steps)

pub returns-in-BlockDue-clause-same : goal.returns-in-BlockDue-clause-same
returns-in-BlockDue-clause-same c = grind (arith, common_steps)

pub returns-in-CountDue-clause-same : goal.returns-in-CountDue-clause-same
returns-in-CountDue-clause-same c = grind (arith, common_steps)

pub returns-in-ZeroDue-clause-same : goal.returns-in-ZeroDue-clause-same
returns-in-ZeroDue-clause-same c = grind (arith, common_steps)

pub returns-in-KeywordDue-clause-same : goal.returns-in-KeywordDue-clause-same
returns-in-KeywordDue-clause-same c = grind (arith, common_steps)

pub returns-in-Some-clause-same : goal.returns-in-Some-clause-same
returns-in-Some-clause-same c = grind (arith, common_steps)

pub returns-in-NamesOf-clause-kinds : goal.returns-in-NamesOf-clause-kinds
returns-in-NamesOf-clause-kinds c = grind (arith, common_steps)

pub returns-in-BlockDue-clause-kinds : goal.returns-in-BlockDue-clause-kinds
returns-in-BlockDue-clause-kinds c = grind (arith, common_steps)

pub returns-in-CountDue-clause-kinds : goal.returns-in-CountDue-clause-kinds
returns-in-CountDue-clause-kinds c = grind (arith, common_steps)

pub take_count-requires : goal.take_count-requires
take_count-requires c = grind (arith, common_steps)

pub returns-in-Some-clause-kinds : goal.returns-in-Some-clause-kinds
returns-in-Some-clause-kinds c = grind (arith, common_steps)

pub returns-in-KeywordDue-clause-kinds : goal.returns-in-KeywordDue-clause-kinds
returns-in-KeywordDue-clause-kinds c = grind (arith, common_steps)

pub take_name-requires : goal.take_name-requires
take_name-requires c = grind (arith, common_steps)

pub returns-in-ZeroDue-clause-kinds : goal.returns-in-ZeroDue-clause-kinds
returns-in-ZeroDue-clause-kinds c = grind (arith, common_steps)

pub returns-in-KeywordDue-2-clause-kinds : goal.returns-in-KeywordDue-2-clause-kinds
returns-in-KeywordDue-2-clause-kinds c = grind (arith, common_steps)

pub returns-in-KeywordDue-2-clause-same : goal.returns-in-KeywordDue-2-clause-same
returns-in-KeywordDue-2-clause-same c = grind (arith, common_steps)
