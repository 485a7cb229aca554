use Rattle.cip_bland.specs.Tables.{each}
use Rattle.cip_simplex.specs.LpAnswers.{row_multiple}
use Rattle.cip_bland.specs.EndAnswers.{any_multiple}
use Rattle.cip_problem.specs.Activity.{value_at}
use Rattle.std.proofs.lemmas.List.{get_or_read}
use Rattle.cip_simplex.proofs.Listed.{listed_none, listed_more, any_none, any_some}
use Rattle.std.proofs.lemmas.Result.{IfOk-from_err}
use Rattle.std.proofs.lemmas.Grind.{common_steps}
use Rattle.std.proofs.Common.{◌≡◌, true, false, sym, ◌∙◌, arith, ◌+◌, map, ap}
use Rattle.cip_rational.specs.Rational.{is_zero, zeroℚ}
use Rattle.cip_dict.proofs.Formed.{same_test}
use Rattle.cip_simplex.proofs.combos.rows_with.Goals as goal

pub loop-r-preserved-then-is_zero : goal.loop-r-preserved-then-is_zero
loop-r-preserved-then-is_zero c =
    let read : c.index-multipliers-columns.result ≡ value_at c.args.multipliers.now (c.args.columns + c.loop-r.r) = get_or_read c.args.multipliers.now (c.args.columns + c.loop-r.r) c.index-multipliers-columns.result (omega (arith, c.loop-r-test.true, c.saturating_sub-r-end.ensures)) c.index-multipliers-columns.is zeroℚ in
    let z : is_zero c.index-multipliers-columns.result ≡ true = sym (same_test c.index-multipliers-columns.result c.is_zero.result c.is_zero.ensures) ∙ c.if-is_zero.true in
    listed_none row_multiple (λ r. any_multiple r (value_at c.args.multipliers.now (c.args.columns + r))) c.loop-r.r c.loop-r.rows.items c.loop-r.invariant (any_none c.loop-r.r c.index-multipliers-columns.result (value_at c.args.multipliers.now (c.args.columns + c.loop-r.r)) read z)

pub loop-r-preserved : goal.loop-r-preserved
loop-r-preserved c =
    let read : c.index-multipliers-columns.result ≡ value_at c.args.multipliers.now (c.args.columns + c.loop-r.r) = get_or_read c.args.multipliers.now (c.args.columns + c.loop-r.r) c.index-multipliers-columns.result (omega (arith, c.loop-r-test.true, c.saturating_sub-r-end.ensures)) c.index-multipliers-columns.is zeroℚ in
    let z : is_zero c.index-multipliers-columns.result ≡ false = sym (same_test c.index-multipliers-columns.result c.is_zero.result c.is_zero.ensures) ∙ c.if-is_zero.false in
    listed_more row_multiple (λ r. any_multiple r (value_at c.args.multipliers.now (c.args.columns + r))) c.loop-r.r c.loop-r.rows.items c.loop-r.invariant c.push.new.self.items _ c.in_ok-push.ensures.items (sym (ap (map row_multiple) (any_some c.loop-r.r c.index-multipliers-columns.result (value_at c.args.multipliers.now (c.args.columns + c.loop-r.r)) read z)))

pub returns : goal.returns
returns c =
    let end : c.loop-r.r ≡ c.saturating_sub-r-end.result = omega (arith, c.loop-r-test.false, c.loop-r.auto.r-end) in
    c.loop-r.invariant ∙ ap (λ n. map row_multiple (each n (λ r. any_multiple r (value_at c.args.multipliers.now (c.args.columns + r))))) (end ∙ c.saturating_sub-r-end.ensures)

pub overflow_cast-row : goal.overflow_cast-row
overflow_cast-row c = grind (arith, common_steps)

pub bounds-multipliers-columns : goal.bounds-multipliers-columns
bounds-multipliers-columns c = grind (arith, common_steps)

pub offset_bounds-multipliers-columns : goal.offset_bounds-multipliers-columns
offset_bounds-multipliers-columns c = grind (arith, common_steps)

pub overflow_add-factor : goal.overflow_add-factor
overflow_add-factor c = grind (arith, common_steps)

pub loop-r-init : goal.loop-r-init
loop-r-init c = grind (arith, common_steps)

pub returns-in_err-push : goal.returns-in_err-push
returns-in_err-push c = IfOk-from_err c.from_residual.result _ c.from_residual.ensures.0
