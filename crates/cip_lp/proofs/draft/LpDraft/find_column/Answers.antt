use Rattle.std.proofs.lemmas.Grind.{common_steps}
use Rattle.std.proofs.Common.{length, arith}
use Rattle.cip_lp.proofs.KeptLaws.{small_number}
use Rattle.cip_lp.proofs.draft.LpDraft.find_column.Goals as goal

pub returns-clause-small : goal.returns-clause-small
returns-clause-small c = small_number c.find_near.result (length c.self.inside.column_names) c.find_near.ensures.within c.self.invariant.sound.few_columns

pub returns-clause-within : goal.returns-clause-within
returns-clause-within c = grind (arith, common_steps)

pub returns-clause-number : goal.returns-clause-number
returns-clause-number c = grind (arith, common_steps)
