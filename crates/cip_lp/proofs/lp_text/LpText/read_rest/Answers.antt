use Rattle.std.proofs.lemmas.Grind.{common_steps}
use Rattle.std.proofs.Common.{◌+◌, ap, ◌∙◌, arith}
use Rattle.cip_text_rules.specs.LineStream.{Going}
use Rattle.cip_text_rules.specs.LpTokens.{tokens_from}
use Rattle.cip_text_rules.specs.LpBytes.{tokens_read}
use Rattle.cip_lp.specs.LpTexts.{stage_of}
use Rattle.cip_lp.proofs.lp_text.LpText.read_rest.Goals as goal

pub returns-clause-read : goal.returns-clause-read
returns-clause-read c =
    let now = c.args.self.now in
    let number = now.ended + 1 in
    c.in-Ok.ensures.read
    ∙ ap (tokens_read number (Going (stage_of now))) c.of-tokens.ensures
    ∙ ap (λ bytes. tokens_read number (Going (stage_of now)) (tokens_from now.front bytes)) c.as_slice.ensures.value

pub returns-clause-rest : goal.returns-clause-rest
returns-clause-rest c = grind (arith, common_steps)

pub overflow_add-self : goal.overflow_add-self
overflow_add-self c = grind (arith, common_steps)
