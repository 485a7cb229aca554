use Rattle.std.proofs.Common.{◌≡◌, map, take}
use Rattle.cip_text_rules.specs.MpsBounds.{settled, choice_of}
use Rattle.cip_mps.proofs.column_program.choices_of.Given as goal

abbrev pub invariant-loop-column : goal.invariant-loop-column
invariant-loop-column l = l.choices ≡ map (λ column. choice_of (settled column)) (take l.column-index l.columns)
