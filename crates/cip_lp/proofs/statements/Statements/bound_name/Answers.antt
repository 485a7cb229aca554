use Rattle.std.proofs.Common.{refl, sym, ap, ◌∙◌, List, ℕ}
use Rattle.cip_text_rules.specs.LpPlaces.{Mentions, at, BoundName as BoundNamed, BoundedName as BoundedNamed}
use Rattle.cip_text_rules.specs.LpTokens.{Name}
use Rattle.cip_lp.specs.LpKinds.{relation_shown}
use Rattle.cip_lp.specs.LpStages.{where_of}
use Rattle.cip_lp.specs.declared.places.Stage.TheVariants.{LimitDue}
use Rattle.cip_lp.proofs.ReadLaws.{said, first_failed, both_done, bound_by, bound_front_by, bound_quiet, misplaced}
use Rattle.cip_text_rules.specs.LpFacts.{facts_with}
use Rattle.cip_text_rules.specs.LpWords.{Relation as RelationRead}
use Rattle.cip_text_rules.specs.LpGrammar.{bound_set}
use Rattle.cip_lp.specs.LpLimits.{limit_shown}
use Rattle.cip_lp.proofs.StrayLaws.{bound_name_stray}
use Rattle.cip_lp.proofs.statements.Statements.bound_name.Goals as goal

pub returns-in_ok-set_name-in-Start : goal.returns-in_ok-set_name-in-Start
returns-in_ok-set_name-in-Start c =
    said c.args.self.now _ _ (Mentions c.args.name.now) _ c.in-Ok.kind
    (bound_front_by c.args.self.now (Name c.args.name.now) refl c.in-Start.is) c.in-Ok.ensures
    (ap (λ (m : List ℕ). at (where_of c.args.self.now) (BoundNamed m)) c.in_ok-set_name-in-Start.ensures)

pub returns-then-is_some : goal.returns-then-is_some
returns-then-is_some c =
    first_failed c.args.self.now _ _ (Mentions c.args.name.now) _ _ c.in-Ok-mention.kind
    (bound_by c.args.self.now (Name c.args.name.now) LimitDue c.in-LimitDue.is)
    (sym c.is_some.ensures ∙ c.if-is_some.true) c.in-Ok-mention.ensures

pub returns-in_ok-set_name-in-LimitDue : goal.returns-in_ok-set_name-in-LimitDue
returns-in_ok-set_name-in-LimitDue c =
    let place = c.args.self.now.place in
    both_done c.args.self.now _ _ c.mention-in-LimitDue.new.self (Mentions c.args.name.now) _ _ c.in-Ok-mention.kind
    (bound_by c.args.self.now (Name c.args.name.now) LimitDue c.in-LimitDue.is)
    (sym c.is_some.ensures ∙ c.if-is_some.false)
    c.in-Ok-mention.ensures (bound_quiet (facts_with c.args.self.now.draft (Mentions c.args.name.now)) _ _ _)
    (c.set_bound.ensures
    ∙ ap (λ (r : RelationRead). facts_with c.mention-in-LimitDue.new.self
    (bound_set c.args.name.now r (limit_shown place.limit)))
    c.flipped-relation.ensures)
    (ap (λ (m : List ℕ). at (where_of c.args.self.now) (BoundedNamed m (relation_shown place.relation)))
    c.in_ok-set_name-in-LimitDue.ensures)

pub returns-in_default : goal.returns-in_default
returns-in_default c =
    misplaced c.args.self.now _ _ (where_of c.args.self.now)
    (bound_name_stray (where_of c.args.self.now) c.args.self.now.place.stage c.args.self.now.place c.args.name.now
    c.in_default.not-Start c.in_default.not-LimitDue c.in_default.not-BoundedName)
