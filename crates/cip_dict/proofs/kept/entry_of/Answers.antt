use Rattle.std.proofs.lemmas.Grind.{common_steps}
use Rattle.std.proofs.Common.{arith}
use Rattle.cip_dict.proofs.Places.{rising_kept}
use Rattle.cip_dict.proofs.kept.entry_of.Goals as goal

pub place_from-requires : goal.place_from-requires
place_from-requires c = rising_kept c.args.entries.now 0 c.requires.0 c.requires.1

pub entry_from-requires-clause-at : goal.entry_from-requires-clause-at
entry_from-requires-clause-at c = grind (arith, common_steps)

pub returns : goal.returns
returns c = grind (arith, common_steps)
