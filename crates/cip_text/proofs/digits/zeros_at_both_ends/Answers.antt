use Rattle.std.proofs.lemmas.Grind.{common_steps}
use Rattle.std.proofs.Common.{ap, ◌∙◌, ◌+◌, arith}
use Rattle.cip_rational.specs.Numeral.{zeros_at_end}
use Rattle.cip_text.proofs.Grown.{zeros_behind, zeros_through}
use Rattle.cip_text.proofs.digits.zeros_at_both_ends.Goals as goal

pub returns-then-behind-decimals-clause-value : goal.returns-then-behind-decimals-clause-value
returns-then-behind-decimals-clause-value c =
    c.zeros_at_end-behind.ensures.value ∙ zeros_behind c.args.whole.now c.args.decimals.now (omega (arith, c.zeros_at_end-behind.ensures.value, c.if-behind-decimals.true))

pub returns-else-behind-decimals-clause-value : goal.returns-else-behind-decimals-clause-value
returns-else-behind-decimals-clause-value c =
    ap (λ n. n + c.zeros_at_end.result) c.zeros_at_end-behind.ensures.value
    ∙ ap (λ n. zeros_at_end c.args.decimals.now + n) c.zeros_at_end.ensures.value
    ∙ zeros_through c.args.whole.now c.args.decimals.now
    (omega (arith, c.zeros_at_end-behind.ensures.value, c.zeros_at_end-behind.ensures.within))
    (omega (arith, c.zeros_at_end-behind.ensures.value, c.if-behind-decimals.false))

pub overflow_add-result : goal.overflow_add-result
overflow_add-result c = grind (arith, common_steps)

pub returns-else-behind-decimals-clause-within : goal.returns-else-behind-decimals-clause-within
returns-else-behind-decimals-clause-within c = grind (arith, common_steps)

pub returns-then-behind-decimals-clause-within : goal.returns-then-behind-decimals-clause-within
returns-then-behind-decimals-clause-within c = grind (arith, common_steps)
