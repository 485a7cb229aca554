use Rattle.std.proofs.Common.{◌≡◌, take, false}
use Rattle.std.specs.List.{list_any}
use Rattle.cip_text_rules.specs.MpsBounds.{settled, is_semi}
use Rattle.cip_mps.proofs.column_program.any_semi.Given as goal

abbrev pub invariant-loop-column : goal.invariant-loop-column
invariant-loop-column l = list_any (λ column. is_semi (settled column)) (take l.column-index l.columns) ≡ false
