use Rattle.std.proofs.Common.{◌≡◌, take}
use Rattle.cip_text_rules.specs.MpsState.{kept_names}
use Rattle.cip_mps.proofs.program.names_of.Given as goal

abbrev pub invariant-loop-number : goal.invariant-loop-number
invariant-loop-number l = l.kept ≡ kept_names (take l.number l.names) (take l.number l.rows)
