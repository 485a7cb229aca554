use Rattle.std.proofs.Common.{◌≡◌, take}
use Rattle.cip_dict.specs.WholeLines.{over}
use Rattle.cip_dict.proofs.whole.spell_wholes.Given as goal

abbrev pub invariant-loop-at : goal.invariant-loop-at
invariant-loop-at l = l.out.items ≡ over l.below (take l.at l.wholes)
