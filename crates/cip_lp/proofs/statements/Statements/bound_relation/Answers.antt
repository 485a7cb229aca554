use Rattle.std.proofs.Common.{refl, ap, ◌∙◌}
use Rattle.cip_text_rules.specs.LpTokens.{Relates}
use Rattle.cip_lp.specs.LpKinds.{relation_shown}
use Rattle.cip_lp.specs.LpStages.{where_of}
use Rattle.cip_lp.specs.declared.places.Stage.TheVariants.{BoundName, LimitRead, BoundedName}
use Rattle.cip_lp.proofs.ReadLaws.{misplaced, moved, yes, no, bound_by, refused}
use Rattle.cip_text_rules.specs.LpWords.{Relation as RelationRead}
use Rattle.cip_text_rules.specs.LpGrammar.{is_wrong}
use Rattle.cip_lp.specs.LpLimits.{limit_shown}
use Rattle.cip_lp.proofs.StrayLaws.{bound_relation_stray}
use Rattle.cip_lp.proofs.statements.Statements.bound_relation.Goals as goal

pub returns-else-is_wrong : goal.returns-else-is_wrong
returns-else-is_wrong c =
    moved c.args.self.now _ _ _
    (bound_by c.args.self.now (Relates (relation_shown c.args.relation)) LimitRead c.in-LimitRead.is
    ∙ no _ _ _ (c.if-is_wrong.ensures
    ∙ ap (λ (r : RelationRead). is_wrong r (limit_shown c.args.self.now.place.limit)) c.flipped.ensures)) refl refl

pub returns-then-is_wrong : goal.returns-then-is_wrong
returns-then-is_wrong c =
    refused c.args.self.now _ _ (where_of c.args.self.now)
    (bound_by c.args.self.now (Relates (relation_shown c.args.relation)) LimitRead c.in-LimitRead.is
    ∙ yes _ _ _ (c.if-is_wrong.ensures
    ∙ ap (λ (r : RelationRead). is_wrong r (limit_shown c.args.self.now.place.limit)) c.flipped.ensures))

pub returns-else-not-agree : goal.returns-else-not-agree
returns-else-not-agree c =
    moved c.args.self.now _ _ _
    (bound_by c.args.self.now (Relates (relation_shown c.args.relation)) BoundedName c.in-BoundedName.is ∙ yes _ _ _
    c.if-not-agree.ensures) refl refl

pub returns-then-not-agree : goal.returns-then-not-agree
returns-then-not-agree c =
    misplaced c.args.self.now _ _ (where_of c.args.self.now)
    (bound_by c.args.self.now (Relates (relation_shown c.args.relation)) BoundedName c.in-BoundedName.is ∙ no _ _ _
    c.if-not-agree.ensures)

pub returns-in-BoundName : goal.returns-in-BoundName
returns-in-BoundName c =
    moved c.args.self.now _ _ _ (bound_by c.args.self.now (Relates (relation_shown c.args.relation)) BoundName
    c.in-BoundName.is) refl refl

pub returns-in_default : goal.returns-in_default
returns-in_default c =
    misplaced c.args.self.now _ _ (where_of c.args.self.now)
    (bound_relation_stray (where_of c.args.self.now) c.args.self.now.place.stage c.args.self.now.place
    (relation_shown c.args.relation) c.in_default.not-BoundName c.in_default.not-LimitRead c.in_default.not-BoundedName)
