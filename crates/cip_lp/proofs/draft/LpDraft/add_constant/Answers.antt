use Rattle.cip_lp.specs.LpDrafts.{facts_in}
use Rattle.cip_lp.proofs.KeptLaws.{constant_kept}
use Rattle.std.proofs.Common.{ap, ◌∙◌}
use Rattle.cip_text_rules.specs.LpPlaces.{Amount}
use Rattle.cip_text_rules.specs.LpFacts.{minimized}
use Rattle.cip_lp.proofs.draft.LpDraft.add_constant.Goals as goal

pub invariant_of-self : goal.invariant_of-self
invariant_of-self c = constant_kept (facts_in c.self.inside) c.minimized-self-inside.result c.self.invariant

pub returns : goal.returns
returns c =
    let value = c.minimized-self-inside.ensures ∙ ap (λ (a : Amount). minimized c.args.self.now a.value)
    c.amount.view_is in
    λ i. record (c.self.view_is i) { constant = value i }
