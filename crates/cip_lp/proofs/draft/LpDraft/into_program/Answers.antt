use Rattle.std.proofs.lemmas.Grind.{common_steps}
use Rattle.std.proofs.Common.{ap, ◌∙◌, arith}
use Rattle.cip_text_rules.specs.LpFacts.{LpFacts}
use Rattle.cip_lp.proofs.draft.LpDraft.into_program.Goals as goal

pub into_bounded-requires : goal.into_bounded-requires
into_bounded-requires c = c.in-Ok.ensures ∙ c.as_slice.ensures.value ∙ ap (λ (f : LpFacts). f.bounds) c.self.view_is

pub returns-in-Ok : goal.returns-in-Ok
returns-in-Ok c = grind (arith, common_steps)

pub same-self : goal.same-self
same-self c = grind (arith, common_steps)

pub same-self-in-Err : goal.same-self-in-Err
same-self-in-Err c = grind (arith, common_steps)
