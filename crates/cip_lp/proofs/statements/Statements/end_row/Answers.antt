use Rattle.std.proofs.Common.{ap, ◌∙◌, Some, refl}
use Rattle.cip_lp.specs.LpKinds.{relation_shown}
use Rattle.cip_lp.specs.LpStages.{first_of}
use Rattle.std.proofs.lemmas.Result.{on_ok_weaker}
use Rattle.cip_lp.proofs.ReadLaws.{row_event, plain_ends, least_ends, other_ends}
use Rattle.cip_lp.specs.declared.statements.Statements.{Statements}
use Rattle.cip_text_rules.specs.LpPlaces.{Ends}
use Rattle.cip_lp.proofs.statements.Statements.end_row.Goals as goal

pub returns-then-not-given-clause-draft : goal.returns-then-not-given-clause-draft
returns-then-not-given-clause-draft c =
    row_event c.end_row.result _ c.args.self.now c.end_row.new.self _ _ c.self.view_is
    (plain_ends c.args.given (first_of c.args.self.now.place) (relation_shown c.args.relation) c.args.value _ _
    c.if-not-given.true
    c.low_side.ensures c.high_side.ensures) c.end_row.ensures

pub returns-then-not-given-clause-same : goal.returns-then-not-given-clause-same
returns-then-not-given-clause-same c =
    on_ok_weaker c.end_row.result (λ _. λ i. record (c.self.view_is i) { draft = c.end_row.new.self }) c.end_row.ensures

pub returns-in_default : goal.returns-in_default
returns-in_default c = record {
  draft = row_event c.end_row-in_default.result c.args.self.now c.args.self.now c.end_row-in_default.new.self _ _ refl
      (ap (λ (s : Statements). Ends (Some c.args.value) (Some s.place.first.value)) c.self.view_is
      ∙ other_ends c.args.given (first_of c.args.self.now.place) c.args.relation c.args.value c.if-not-given.false
      c.in_default.not-AtMost) c.end_row-in_default.ensures;
  same = on_ok_weaker c.end_row-in_default.result (λ _. refl) c.end_row-in_default.ensures;
}

pub returns-in-AtMost-clause-same : goal.returns-in-AtMost-clause-same
returns-in-AtMost-clause-same c =
    on_ok_weaker c.end_row-in-AtMost.result (λ _. refl) c.end_row-in-AtMost.ensures

pub returns-in-AtMost-clause-draft : goal.returns-in-AtMost-clause-draft
returns-in-AtMost-clause-draft c =
    row_event c.end_row-in-AtMost.result c.args.self.now c.args.self.now c.end_row-in-AtMost.new.self _ _ refl
    (ap (λ (s : Statements). Ends (Some s.place.first.value) (Some c.args.value)) c.self.view_is
    ∙ least_ends c.args.given (first_of c.args.self.now.place) c.args.relation c.args.value c.if-not-given.false
    c.in-AtMost.is)
    c.end_row-in-AtMost.ensures
