use Rattle.std.proofs.Common.{refl, sym, ap, ◌∙◌, Some, None, cond, Bool, not}
use Rattle.cip_text_rules.specs.LpTokens.{Relates}
use Rattle.cip_lp.specs.LpKinds.{relation_shown}
use Rattle.cip_lp.specs.LpStages.{where_of, first_of}
use Rattle.cip_lp.specs.declared.places.Stage.TheVariants.{FirstNumber, SecondNumber, AfterTerm}
use Rattle.cip_lp.proofs.ReadLaws.{misplaced, moved, row_by, yes, no, both_true}
use Rattle.cip_text_rules.specs.LpPlaces.{goes_on}
use Rattle.cip_lp.proofs.StrayLaws.{row_relation_stray}
use Rattle.cip_lp.proofs.statements.Statements.row_relation.Goals as goal

pub returns-else-not-agree : goal.returns-else-not-agree
returns-else-not-agree c =
    moved c.args.self.now _ _ _
    (row_by c.args.self.now (Relates (relation_shown c.args.relation)) SecondNumber c.in-SecondNumber.is
    ∙ yes _ _ _ (both_true _ _ c.if-not-is_zero-2.ensures c.if-not-agree.ensures)) refl refl

pub returns-then-not-is_zero : goal.returns-then-not-is_zero
returns-then-not-is_zero c =
    misplaced c.args.self.now _ _ (where_of c.args.self.now)
    (row_by c.args.self.now (Relates (relation_shown c.args.relation)) FirstNumber c.in-FirstNumber.is
    ∙ yes _ _ _ (both_true _ _ c.if-is_equality.ensures (ap not c.if-not-is_zero.ensures)))

pub returns-then-not-agree-2 : goal.returns-then-not-agree-2
returns-then-not-agree-2 c =
    let goes : Bool → Bool = λ b. goes_on (cond b (Some (first_of c.args.self.now.place)) None)
    (relation_shown c.args.relation) in
    misplaced c.args.self.now _ _ (where_of c.args.self.now)
    (row_by c.args.self.now (Relates (relation_shown c.args.relation)) AfterTerm c.in-AfterTerm.is ∙ no _ _ _
    (c.if-not-agree-2.ensures ∙ ap goes (sym c.if-self.true)))

pub returns-in_default : goal.returns-in_default
returns-in_default c =
    misplaced c.args.self.now _ _ (where_of c.args.self.now)
    (row_relation_stray (where_of c.args.self.now) c.args.self.now.place.stage c.args.self.now.place
    (relation_shown c.args.relation) c.in_default.not-FirstNumber c.in_default.not-SecondNumber
    c.in_default.not-AfterTerm)
