use Rattle.std.proofs.lemmas.Result.{IfOk-from_err}
use Rattle.std.proofs.lemmas.Grind.{common_steps}
use Rattle.cip_mps.proofs.RowLaws.{last_pushed}
use Rattle.cip_text_rules.specs.MpsState.{RowRead, no_row}
use Rattle.std.specs.Prelude.{slice_index_or}
use Rattle.cip_mps_lines.specs.MpsKinds.{row_kind_in}
use Rattle.cip_text_rules.specs.MpsSteps.{new_row}
use Rattle.std.proofs.lemmas.List.{length_push}
use Rattle.std.proofs.Common.{arith, ap, length, ℕ, List, ◌≡◌, ◌-◌, ◌++◌, ◌∷◌, [], ◌∙◌}
use Rattle.cip_mps.proofs.row_lines.put_row.Goals as goal

pub pop-requires-clause-some : goal.pop-requires-clause-some
pop-requires-clause-some c = omega (arith, ap length c.in_ok-push.ensures.ok, length_push c.args.rows.now (new_row (row_kind_in c.args.kind)))

pub pop-requires-clause-empty : goal.pop-requires-clause-empty
pop-requires-clause-empty c =
    let row = new_row (row_kind_in c.args.kind) in
    let before = c.args.rows.now in
    let last : length c.push.new.self - 1 ≡ length before = omega (arith, ap length c.in_ok-push.ensures.ok, length_push before row) in
    ap (λ (rs : List RowRead). (slice_index_or rs (length c.push.new.self - 1) no_row).held) c.in_ok-push.ensures.ok
    ∙ ap (λ (k : ℕ). (slice_index_or (before ++ row ∷ []) k no_row).held) last ∙ ap (λ (r : RowRead). r.held) (last_pushed before row)

pub add-added-requires : goal.add-added-requires
add-added-requires c = grind (arith, common_steps)

pub returns-else-is_err-clause-err : goal.returns-else-is_err-clause-err
returns-else-is_err-clause-err c = grind (arith, common_steps)

pub returns-else-is_err-clause-ok : goal.returns-else-is_err-clause-ok
returns-else-is_err-clause-ok c = grind (arith, common_steps)

pub returns-then-is_err-clause-err : goal.returns-then-is_err-clause-err
returns-then-is_err-clause-err c = grind (arith, common_steps)

pub returns-then-is_err-clause-ok : goal.returns-then-is_err-clause-ok
returns-then-is_err-clause-ok c = grind (arith, common_steps)

pub returns-in_err-owned-clause-ok : goal.returns-in_err-owned-clause-ok
returns-in_err-owned-clause-ok c = IfOk-from_err c.from_residual.result _ c.from_residual.ensures.0

pub returns-in_err-push-clause-ok : goal.returns-in_err-push-clause-ok
returns-in_err-push-clause-ok c = IfOk-from_err c.from_residual-in_err-push.result _ c.from_residual-in_err-push.ensures.0
