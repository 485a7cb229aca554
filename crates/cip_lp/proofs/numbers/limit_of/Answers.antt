use Rattle.std.proofs.Common.{sym, ap, ◌∙◌}
use Rattle.cip_text_rules.specs.MpsWords.{is_too_fine}
use Rattle.cip_lp.proofs.ValueLaws.{too_fine_read, limit_read}
use Rattle.cip_lp.proofs.numbers.limit_of.Goals as goal

pub returns-then-is_too_fine : goal.returns-then-is_too_fine
returns-then-is_too_fine c = too_fine_read c.args.text.now (ap is_too_fine (sym c.of-number.ensures) ∙ sym c.is_too_fine.ensures ∙ c.if-is_too_fine.true)

pub returns : goal.returns
returns c = limit_read c.args.minus c.args.text.now c.of-number.result c.value.result c.signed_side-value.result c.of-number.ensures (sym c.is_too_fine.ensures ∙ c.if-is_too_fine.false) c.value.ensures c.signed_side-value.ensures
