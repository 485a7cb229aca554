use Rattle.std.proofs.Common.{refl, ap, ◌∙◌}
use Rattle.cip_lp.specs.LpKinds.{relation_shown}
use Rattle.cip_lp.specs.LpStages.{where_of}
use Rattle.cip_lp.proofs.ReadLaws.{done, yes, no, too_fine, refused, bound_quiet}
use Rattle.cip_text_rules.specs.LpFacts.{facts_with}
use Rattle.cip_text_rules.specs.LpPlaces.{Limit}
use Rattle.cip_text_rules.specs.LpGrammar.{bound_set, limit_in, is_wrong}
use Rattle.cip_lp.proofs.statements.Statements.last_limit.Goals as goal

pub returns-else-is_wrong : goal.returns-else-is_wrong
returns-else-is_wrong c =
    let place = c.args.self.now.place in
    let h = c.in-Some.ensures in
    done c.args.self.now _ _ (bound_set place.name.items (relation_shown place.relation) (limit_in c.args.minus
    c.args.text.now)) _
    (h.some (where_of c.args.self.now) _
    ∙ no _ _ _ (c.if-is_wrong.ensures ∙ ap (λ (l : Limit). is_wrong (relation_shown place.relation) l) h.is))
    (bound_quiet c.args.self.now.draft _ _ _)
    (c.set_bound.ensures
    ∙ (λ i. facts_with c.args.self.now.draft (bound_set (c.as_slice.ensures.value i) (relation_shown place.relation)
    (h.is i)))) refl

pub returns-then-is_wrong : goal.returns-then-is_wrong
returns-then-is_wrong c =
    refused c.args.self.now _ _ (where_of c.args.self.now)
    (c.in-Some.ensures.some (where_of c.args.self.now) _
    ∙ yes _ _ _ (c.if-is_wrong.ensures
    ∙ ap (λ (l : Limit). is_wrong (relation_shown c.args.self.now.place.relation) l) c.in-Some.ensures.is))

pub returns-in-None : goal.returns-in-None
returns-in-None c = too_fine c.args.self.now _ _ (where_of c.args.self.now)
    (c.in-None.ensures (where_of c.args.self.now) _)
