use Rattle.std.proofs.lemmas.Grind.{common_steps}
use Rattle.std.proofs.Common.{sym, ◌∙◌, arith}
use Rattle.cip_text.specs.Readings.{said}
use Rattle.cip_text.proofs.TextParts.{not_number, is_number, exponent_digits}
use Rattle.cip_text.proofs.number_text.unsigned_numeral.Goals as goal

pub returns-else-make_number : goal.returns-else-make_number
returns-else-make_number c =
    not_number c.args.negative c.args.body.now c.cut_at_mark-has_exponent.result.0.now c.cut.result.0.now c.cut.result.1.now c.cut_at_mark-has_exponent.result.1.now c.without_sign-amount.result.now c.cut_at_mark-has_exponent.result.2
    c.cut_at_mark-has_exponent.ensures.before c.cut_at_mark-has_exponent.ensures.after c.cut_at_mark-has_exponent.ensures.found c.cut.ensures.before c.cut.ensures.after c.without_sign-amount.ensures
    (sym c.make_number.ensures ∙ c.if-make_number.false)

pub with_exponent-requires-clause-is_exponent : goal.with_exponent-requires-clause-is_exponent
with_exponent-requires-clause-is_exponent c =
    exponent_digits c.args.negative c.args.body.now c.cut_at_mark-has_exponent.result.0.now c.cut.result.0.now c.cut.result.1.now c.cut_at_mark-has_exponent.result.1.now c.without_sign-amount.result.now c.cut_at_mark-has_exponent.result.2
    c.cut_at_mark-has_exponent.ensures.before c.cut_at_mark-has_exponent.ensures.after c.cut_at_mark-has_exponent.ensures.found c.cut.ensures.before c.cut.ensures.after c.without_sign-amount.ensures
    (sym c.make_number.ensures ∙ c.if-make_number.true)

pub returns-then-make_number : goal.returns-then-make_number
returns-then-make_number c =
    is_number c.args.negative c.args.body.now c.cut_at_mark-has_exponent.result.0.now c.cut.result.0.now c.cut.result.1.now c.cut_at_mark-has_exponent.result.1.now c.without_sign-amount.result.now c.cut_at_mark-has_exponent.result.2
    c.cut_at_mark-has_exponent.ensures.before c.cut_at_mark-has_exponent.ensures.after c.cut_at_mark-has_exponent.ensures.found c.cut.ensures.before c.cut.ensures.after c.without_sign-amount.ensures
    (said c.with_exponent.result) c.is_minus.result (sym c.make_number.ensures ∙ c.if-make_number.true) c.is_minus.ensures c.with_exponent.ensures

pub with_exponent-requires-clause-are_digits : goal.with_exponent-requires-clause-are_digits
with_exponent-requires-clause-are_digits c = grind (arith, common_steps)
