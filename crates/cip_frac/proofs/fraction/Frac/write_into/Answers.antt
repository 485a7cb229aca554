use Rattle.std.proofs.lemmas.Grind.{common_steps}
use Rattle.std.proofs.Common.{◌++◌, ◌∷◌, [], arith, ap, ◌∙◌}
use Rattle.cip_frac.proofs.TextParts.{same_after, whole_text, quotient_text}
use Rattle.cip_frac.proofs.fraction.Frac.write_into.Goals as goal

pub returns-then-denominator-eq1-clause-text : goal.returns-then-denominator-eq1-clause-text
returns-then-denominator-eq1-clause-text c =
    c.put-end.ensures.text ∙ whole_text c.args.self.now _ _ c.terms-numerator.ensures.over c.terms-numerator.ensures.under c.terms-numerator.ensures.lowest c.if-denominator-eq1.true c.args.buffer.now _ (c.as_bytes.ensures.value ∙ c.format.ensures.text)

pub returns-clause-text : goal.returns-clause-text
returns-clause-text c =
    c.put.ensures.text ∙ ap (λ l. l ++ c.as_bytes-2.result.now) (c.put-start.ensures.text ∙ ap (λ l. l ++ 47 ∷ []) c.put-end.ensures.text)
    ∙ quotient_text c.args.self.now _ _ c.terms-numerator.ensures.over c.terms-numerator.ensures.under c.terms-numerator.ensures.lowest c.if-denominator-eq1.false c.args.buffer.now _ _ (c.as_bytes.ensures.value ∙ c.format.ensures.text) (c.as_bytes-2.ensures.value ∙ c.format-2.ensures.text)

pub returns-clause-rest : goal.returns-clause-rest
returns-clause-rest c =
    let third = c.put.ensures.rest in
    let second = same_after _ _ c.put-start.result c.put.result (omega (arith, c.put.ensures.end)) c.put-start.ensures.rest in
    let first = same_after _ _ c.put-end.result c.put.result (omega (arith, c.put.ensures.end, c.put-start.ensures.end)) c.put-end.ensures.rest in
    third ∙ second ∙ first

pub returns-clause-within : goal.returns-clause-within
returns-clause-within c = omega arith

pub returns-then-denominator-eq1-clause-rest : goal.returns-then-denominator-eq1-clause-rest
returns-then-denominator-eq1-clause-rest c = grind (arith, common_steps)

pub put-requires : goal.put-requires
put-requires c = omega arith

pub returns-then-denominator-eq1-clause-within : goal.returns-then-denominator-eq1-clause-within
returns-then-denominator-eq1-clause-within c = omega arith

pub put-start-requires : goal.put-start-requires
put-start-requires c = omega arith

pub put-end-requires : goal.put-end-requires
put-end-requires c = grind (arith, common_steps)
