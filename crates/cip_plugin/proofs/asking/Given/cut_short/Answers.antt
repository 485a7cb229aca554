use Rattle.std.proofs.lemmas.Grind.{common_steps}
use Rattle.std.proofs.Common.{arith}
use Rattle.cip_plugin.proofs.Parts.{cuts_first, cuts_past, guesses_first, guesses_past, priced_first, priced_past, reductions_first, reductions_past}
use Rattle.cip_plugin.proofs.asking.Given.cut_short.Goals as goal

pub returns-in-Cuts-clause-first : goal.returns-in-Cuts-clause-first
returns-in-Cuts-clause-first c =
    rw c.in-Cuts.is (cuts_first c.in-Cuts.cuts.items c.first_part_of.new.list.items c.first_part_of.ensures.first)

pub returns-in-Cuts-clause-past : goal.returns-in-Cuts-clause-past
returns-in-Cuts-clause-past c =
    rw c.in-Cuts.is (cuts_past c.in-Cuts.cuts.items c.first_part_of.result c.first_part_of.ensures.past)

pub returns-in-Reductions-clause-first : goal.returns-in-Reductions-clause-first
returns-in-Reductions-clause-first c =
    rw c.in-Reductions.is (reductions_first c.in-Reductions.reductions.items
    c.first_part_of-in-Reductions.new.list.items c.first_part_of-in-Reductions.ensures.first)

pub returns-in-Reductions-clause-past : goal.returns-in-Reductions-clause-past
returns-in-Reductions-clause-past c =
    rw c.in-Reductions.is (reductions_past c.in-Reductions.reductions.items c.first_part_of-in-Reductions.result
    c.first_part_of-in-Reductions.ensures.past)

pub returns-in-Priced-clause-first : goal.returns-in-Priced-clause-first
returns-in-Priced-clause-first c =
    rw c.in-Priced.is (priced_first c.in-Priced.priced c.first_part_of-in-Priced.new.list.items
    c.first_part_of-in-Priced.ensures.first)

pub returns-in-Priced-clause-past : goal.returns-in-Priced-clause-past
returns-in-Priced-clause-past c =
    rw c.in-Priced.is (priced_past c.in-Priced.priced c.first_part_of-in-Priced.result
    c.first_part_of-in-Priced.ensures.past)

pub returns-in-Guesses-clause-first : goal.returns-in-Guesses-clause-first
returns-in-Guesses-clause-first c =
    rw c.in-Guesses.is (guesses_first c.in-Guesses.guesses.items
    c.first_part_of-in-Guesses.new.list.items c.first_part_of-in-Guesses.ensures.first)

pub returns-in-Guesses-clause-past : goal.returns-in-Guesses-clause-past
returns-in-Guesses-clause-past c =
    rw c.in-Guesses.is (guesses_past c.in-Guesses.guesses.items c.first_part_of-in-Guesses.result
    c.first_part_of-in-Guesses.ensures.past)

pub returns-in-Enforced-clause-first : goal.returns-in-Enforced-clause-first
returns-in-Enforced-clause-first c = grind (arith, common_steps)

pub returns-in-Split-clause-first : goal.returns-in-Split-clause-first
returns-in-Split-clause-first c = grind (arith, common_steps)

pub returns-in-Wishes-clause-first : goal.returns-in-Wishes-clause-first
returns-in-Wishes-clause-first c = grind (arith, common_steps)

pub returns-in-Wishes-clause-past : goal.returns-in-Wishes-clause-past
returns-in-Wishes-clause-past c = grind (arith, common_steps)

pub returns-in-Enforced-clause-past : goal.returns-in-Enforced-clause-past
returns-in-Enforced-clause-past c = grind (arith, common_steps)

pub returns-in-Split-clause-past : goal.returns-in-Split-clause-past
returns-in-Split-clause-past c = grind (arith, common_steps)
