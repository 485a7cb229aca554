use Rattle.std.proofs.Common.{◌≡◌, take, false}
use Rattle.std.specs.List.{list_any}
use Rattle.cip_mps_lines.specs.MpsKinds.{part_of}
use Rattle.cip_text_rules.specs.MpsRules.{stands_behind}
use Rattle.cip_mps.proofs.draft.Draft.is_late.Given as goal

abbrev pub invariant-loop-before : goal.invariant-loop-before
invariant-loop-before l = list_any (λ before. stands_behind (part_of l.part) (part_of before)) (take l.before-index l.self.opened.items) ≡ false
