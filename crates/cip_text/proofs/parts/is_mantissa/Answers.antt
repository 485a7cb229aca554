use Rattle.std.proofs.lemmas.Grind.{common_steps}
use Rattle.std.proofs.Common.{sym, ◌∙◌, arith}
use Rattle.cip_text.proofs.TextParts.{mantissa_left, mantissa_none}
use Rattle.cip_text.proofs.parts.is_mantissa.Goals as goal

pub returns-then-all_digits : goal.returns-then-all_digits
returns-then-all_digits c =
    c.all_digits-then-all_digits.ensures
    ∙ mantissa_left c.args.whole.now c.args.decimals.now (sym c.is_empty.ensures ∙ c.if-is_empty.false) (sym c.all_digits.ensures ∙ c.if-all_digits.true)

pub returns-else-all_digits : goal.returns-else-all_digits
returns-else-all_digits c =
    c.if-all_digits.false
    ∙ mantissa_none c.args.whole.now c.args.decimals.now (sym c.is_empty.ensures ∙ c.if-is_empty.false) (sym c.all_digits.ensures ∙ c.if-all_digits.false)

pub returns-then-is_empty : goal.returns-then-is_empty
returns-then-is_empty c = grind (arith, common_steps)
