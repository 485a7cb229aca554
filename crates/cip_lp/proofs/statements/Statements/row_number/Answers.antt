use Rattle.std.proofs.Common.{ap, ◌∙◌, Some, None}
use Rattle.cip_text_rules.specs.LpPlaces.{Amount, Begins, at, FirstNumber as FirstNumbered}
use Rattle.cip_text_rules.specs.LpTokens.{Number}
use Rattle.cip_lp.specs.LpStages.{where_of}
use Rattle.cip_lp.specs.declared.places.Stage.TheVariants.{Start, Labelled, FirstSign, SecondStart, SecondSign, TermSign, LastDue, LastSign}
use Rattle.cip_lp.proofs.ReadLaws.{said, read_as, taken_as, numberless, row_by, misplaced}
use Rattle.cip_lp.proofs.StrayLaws.{row_number_stray}
use Rattle.cip_lp.proofs.statements.Statements.row_number.Goals as goal

pub returns-in-Labelled : goal.returns-in-Labelled
returns-in-Labelled c =
    taken_as c.args.self.now c.number.new.self c.number.result _ _
    (row_by c.args.self.now (Number c.args.text.now) Labelled c.in-Labelled.is) c.number.ensures

pub returns-in-FirstSign : goal.returns-in-FirstSign
returns-in-FirstSign c =
    taken_as c.args.self.now c.number-in-FirstSign.new.self c.number-in-FirstSign.result _ _
    (row_by c.args.self.now (Number c.args.text.now) FirstSign c.in-FirstSign.is) c.number-in-FirstSign.ensures

pub returns-in-SecondStart : goal.returns-in-SecondStart
returns-in-SecondStart c =
    taken_as c.args.self.now c.number-in-SecondStart.new.self c.number-in-SecondStart.result _ _
    (row_by c.args.self.now (Number c.args.text.now) SecondStart c.in-SecondStart.is) c.number-in-SecondStart.ensures

pub returns-in-SecondSign : goal.returns-in-SecondSign
returns-in-SecondSign c =
    taken_as c.args.self.now c.number-in-SecondSign.new.self c.number-in-SecondSign.result _ _
    (row_by c.args.self.now (Number c.args.text.now) SecondSign c.in-SecondSign.is) c.number-in-SecondSign.ensures

pub returns-in-TermSign : goal.returns-in-TermSign
returns-in-TermSign c =
    taken_as c.args.self.now c.number-in-TermSign.new.self c.number-in-TermSign.result _ _
    (row_by c.args.self.now (Number c.args.text.now) TermSign c.in-TermSign.is) c.number-in-TermSign.ensures

pub returns-in-LastDue : goal.returns-in-LastDue
returns-in-LastDue c =
    read_as c.last_number.result c.args.self.now c.last_number.new.self _ _
    (row_by c.args.self.now (Number c.args.text.now) LastDue c.in-LastDue.is) c.last_number.ensures

pub returns-in-LastSign : goal.returns-in-LastSign
returns-in-LastSign c =
    read_as c.last_number-in-LastSign.result c.args.self.now c.last_number-in-LastSign.new.self _ _
    (row_by c.args.self.now (Number c.args.text.now) LastSign c.in-LastSign.is) c.last_number-in-LastSign.ensures

pub returns-in-Err : goal.returns-in-Err
returns-in-Err c =
    taken_as c.args.self.now _ (Some c.in-Err.kind) _ _
    (row_by c.args.self.now (Number c.args.text.now) Start c.in-Start.is)
    (numberless c.args.self.now _ (where_of c.args.self.now) c.args.text.now _ c.in-Err.kind c.in-Err.ensures)

pub returns-in_ok-kind-in-Ok : goal.returns-in_ok-kind-in-Ok
returns-in_ok-kind-in-Ok c =
    said c.args.self.now _ _ (Begins None) _ c.in_ok-kind-in-Ok.kind
    (row_by c.args.self.now (Number c.args.text.now) Start c.in-Start.is ∙ c.in-Ok.ensures.some _ _)
    c.in_ok-kind-in-Ok.ensures
    (ap (λ (a : Amount). at (where_of c.args.self.now) (FirstNumbered a)) c.in-Ok.ensures.is)

pub returns-in_default : goal.returns-in_default
returns-in_default c =
    misplaced c.args.self.now _ _ (where_of c.args.self.now)
    (row_number_stray (where_of c.args.self.now) c.args.self.now.place.stage c.args.self.now.place c.args.text.now
    c.in_default.not-Start c.in_default.not-Labelled c.in_default.not-FirstSign c.in_default.not-SecondStart
    c.in_default.not-SecondSign c.in_default.not-TermSign c.in_default.not-LastDue c.in_default.not-LastSign)
