use Rattle.std.proofs.Common.{◌≡◌, take, false}
use Rattle.std.specs.List.{list_any}
use Rattle.cip_text_rules.specs.MpsBounds.{settled, lacks_sides}
use Rattle.cip_mps.proofs.draft.Draft.lacks_sides.Given as goal

abbrev pub invariant-loop-column : goal.invariant-loop-column
invariant-loop-column l = list_any (λ column. lacks_sides (settled column)) (take l.column-index l.self.columns.items) ≡ false
