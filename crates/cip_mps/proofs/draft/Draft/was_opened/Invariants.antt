use Rattle.std.proofs.Common.{◌≡◌, ◌==◌, take, false}
use Rattle.std.specs.List.{list_any}
use Rattle.cip_mps_lines.specs.MpsKinds.{part_of}
use Rattle.cip_text_rules.specs.MpsWords.{part_number}
use Rattle.cip_mps.proofs.draft.Draft.was_opened.Given as goal

abbrev pub invariant-loop-before : goal.invariant-loop-before
invariant-loop-before l = list_any (λ before. part_number (part_of before) == part_number (part_of l.part)) (take l.before-index l.self.opened.items) ≡ false
