use Rattle.std.proofs.lemmas.Grind.{common_steps}
use Rattle.std.proofs.Common.{◌≡◌, ◌∙◌, ap, rules, arith}
use Rattle.std.specs.Prelude.{decimal}
use Rattle.cip_search.specs.Figures.{refusal_text}
use Rattle.cip_rational.specs.NumberText.{natural_text}
use Rattle.cip_input.specs.Refusals.{text_name, line_of}
use Rattle.cip_input.proofs.RefusalTexts.{written, line_text}
use Rattle.cip_input.proofs.plain.Plain.write_into.Goals as goal

pub returns-in-Refused-clause-text : goal.returns-in-Refused-clause-text
returns-in-Refused-clause-text c =
    let digits : c.as_bytes.result.now ≡ decimal c.line.result = search rules in
    rw c.in-Refused.is (
    written _ _ _ _ _ _ _ _ _ _ c.put-end.ensures.text c.put-end-in-Refused.ensures.text c.put-end-in-Refused-2.ensures.text c.put-end-in-Refused-3.ensures.text c.put-end-in-Refused-4.ensures.text c.put-end-in-Refused-5.ensures.text c.put-in-Refused.ensures.text
    ∙ ap (λ text. refusal_text text c.as_bytes.result.now c.kind.result.now) c.text.ensures.text
    ∙ ap (λ number. refusal_text (text_name c.in-Refused.fault) number c.kind.result.now) (digits ∙ line_text c.line.result (search rules) ∙ ap natural_text c.line.ensures)
    ∙ ap (refusal_text (text_name c.in-Refused.fault) (natural_text (line_of c.in-Refused.fault))) c.kind.ensures.text
    )

pub returns-in-Refused-clause-within : goal.returns-in-Refused-clause-within
returns-in-Refused-clause-within c = omega arith

pub returns-in-NoMemory-clause-text : goal.returns-in-NoMemory-clause-text
returns-in-NoMemory-clause-text c = grind (arith, common_steps)

pub returns-in-ReadFault-clause-text : goal.returns-in-ReadFault-clause-text
returns-in-ReadFault-clause-text c = grind (arith, common_steps)

pub returns-in-Usage-clause-text : goal.returns-in-Usage-clause-text
returns-in-Usage-clause-text c = grind (arith, common_steps)

pub returns-in-NoMemory-clause-within : goal.returns-in-NoMemory-clause-within
returns-in-NoMemory-clause-within c = grind (arith, common_steps)

pub returns-in-ReadFault-clause-within : goal.returns-in-ReadFault-clause-within
returns-in-ReadFault-clause-within c = grind (arith, common_steps)

pub returns-in-Usage-clause-within : goal.returns-in-Usage-clause-within
returns-in-Usage-clause-within c = grind (arith, common_steps)

pub put-requires-in-NoMemory : goal.put-requires-in-NoMemory
put-requires-in-NoMemory c = grind (arith, common_steps)

pub put-requires-in-ReadFault : goal.put-requires-in-ReadFault
put-requires-in-ReadFault c = grind (arith, common_steps)

pub put-requires : goal.put-requires
put-requires c = grind (arith, common_steps)

pub put-end-requires-in-Refused-2 : goal.put-end-requires-in-Refused-2
put-end-requires-in-Refused-2 c = grind (arith, common_steps)

pub put-end-requires-in-Refused : goal.put-end-requires-in-Refused
put-end-requires-in-Refused c = grind (arith, common_steps)

pub put-end-requires : goal.put-end-requires
put-end-requires c = grind (arith, common_steps)
