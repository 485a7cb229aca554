use Rattle.std.proofs.Common.{arith}
use Rattle.std.proofs.lemmas.Grind.{common_steps}
use Rattle.std.proofs.Common.{lit<}
use Rattle.std.proofs.lemmas.Iterator.Consumers.{map_from_collect}
use Rattle.std.proofs.lemmas.Iterator.Splits.{YieldsList-from_str_split}
use Rattle.cip_input.proofs.words.off_in.Goals as goal

pub returns-in-Some : goal.returns-in-Some
returns-in-Some c = rw c.in-Some.is (map_from_collect _ c.collect.ensures.ran (YieldsList-from_str_split 44 c.in-Some.text.now (lit< tt) c.split.ensures.text c.split.ensures.has_more c.split.ensures.pattern))

pub returns-in-None : goal.returns-in-None
returns-in-None c = grind (arith, common_steps)

pub split-requires-text-self : goal.split-requires-text-self
split-requires-text-self c = grind (arith, common_steps)

pub collect-requires-clause-can : goal.collect-requires-clause-can
collect-requires-clause-can c = grind (arith, common_steps)

pub collect-requires-clause-finite : goal.collect-requires-clause-finite
collect-requires-clause-finite c = grind (arith, common_steps)
