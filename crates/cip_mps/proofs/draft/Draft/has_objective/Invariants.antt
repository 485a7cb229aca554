use Rattle.std.proofs.Common.{◌≡◌, take, false}
use Rattle.std.specs.List.{list_any}
use Rattle.cip_text_rules.specs.MpsProgram.{is_free}
use Rattle.cip_mps.proofs.draft.Draft.has_objective.Given as goal

abbrev pub invariant-loop-number : goal.invariant-loop-number
invariant-loop-number l = list_any (λ row. is_free row.kind) (take l.number l.self.rows) ≡ false
