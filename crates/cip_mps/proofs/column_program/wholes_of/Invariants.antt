use Rattle.std.proofs.Common.{◌≡◌, map, take}
use Rattle.cip_text_rules.specs.MpsBounds.{settled}
use Rattle.cip_mps.proofs.column_program.wholes_of.Given as goal

abbrev pub invariant-loop-column : goal.invariant-loop-column
invariant-loop-column l = l.wholes.items ≡ map (λ column. (settled column).whole) (take l.column-index l.columns)
