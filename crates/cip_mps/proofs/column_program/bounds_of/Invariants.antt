use Rattle.std.proofs.Common.{◌≡◌, map, take}
use Rattle.cip_text_rules.specs.MpsBounds.{settled, column_sides}
use Rattle.cip_mps.proofs.column_program.bounds_of.Given as goal

abbrev pub invariant-loop-column : goal.invariant-loop-column
invariant-loop-column l = l.bounds ≡ map (λ column. column_sides (settled column)) (take l.column-index l.columns)
