use Rattle.cip_text_rules.specs.LpTokens.{Name}
use Rattle.cip_lp.specs.LpStages.{first_of, where_of}
use Rattle.cip_lp.specs.declared.places.Stage.TheVariants.{Start, Labelled, FirstSign, FirstNumber, SecondStart, SecondSign, TermSign, TermNumber}
use Rattle.cip_lp.proofs.ReadLaws.{read_as, row_term, row_second, row_by, second_by, second_kept, misplaced}
use Rattle.std.proofs.Common.{refl, ap, List, ℕ}
use Rattle.cip_text_rules.specs.LpPlaces.{at, SecondName as SecondNamed}
use Rattle.cip_lp.proofs.StrayLaws.{row_name_stray}
use Rattle.cip_lp.proofs.statements.Statements.row_name.Goals as goal

pub returns-in-SecondSign : goal.returns-in-SecondSign
returns-in-SecondSign c =
    row_second c.second_term-in-SecondSign.result c.args.self.now c.second_term-in-SecondSign.new.self c.args.name.now
    c.unit-in-SecondSign.result _ (first_of c.args.self.now.place) _ c.unit-in-SecondSign.ensures
    (row_by c.args.self.now (Name c.args.name.now) SecondSign c.in-SecondSign.is) c.second_term-in-SecondSign.ensures

pub returns-in-SecondStart : goal.returns-in-SecondStart
returns-in-SecondStart c =
    row_second c.second_term.result c.args.self.now c.second_term.new.self c.args.name.now c.unit-in-SecondStart.result
    _ (first_of c.args.self.now.place) _ c.unit-in-SecondStart.ensures
    (row_by c.args.self.now (Name c.args.name.now) SecondStart c.in-SecondStart.is) c.second_term.ensures

pub returns-in-TermSign : goal.returns-in-TermSign
returns-in-TermSign c =
    row_term c.term-in-TermSign.result c.args.self.now c.term-in-TermSign.new.self c.args.name.now
    c.unit-in-TermSign.result _ _ _ c.unit-in-TermSign.ensures
    (row_by c.args.self.now (Name c.args.name.now) TermSign c.in-TermSign.is) c.term-in-TermSign.ensures

pub returns-in-FirstSign : goal.returns-in-FirstSign
returns-in-FirstSign c =
    row_term c.term-in-FirstSign.result c.args.self.now c.term-in-FirstSign.new.self c.args.name.now
    c.unit-in-FirstSign.result _ _ _ c.unit-in-FirstSign.ensures
    (row_by c.args.self.now (Name c.args.name.now) FirstSign c.in-FirstSign.is) c.term-in-FirstSign.ensures

pub returns-in-Labelled : goal.returns-in-Labelled
returns-in-Labelled c =
    row_term c.term.result c.args.self.now c.term.new.self c.args.name.now c.unit.result _ _ _ c.unit.ensures
    (row_by c.args.self.now (Name c.args.name.now) Labelled c.in-Labelled.is) c.term.ensures

pub returns-in-TermNumber : goal.returns-in-TermNumber
returns-in-TermNumber c =
    read_as c.term-in-TermNumber.result c.args.self.now c.term-in-TermNumber.new.self _ _
    (row_by c.args.self.now (Name c.args.name.now) TermNumber c.in-TermNumber.is) c.term-in-TermNumber.ensures

pub returns-in-FirstNumber : goal.returns-in-FirstNumber
returns-in-FirstNumber c =
    read_as c.term-in-FirstNumber.result c.args.self.now c.term-in-FirstNumber.new.self _ _
    (row_by c.args.self.now (Name c.args.name.now) FirstNumber c.in-FirstNumber.is) c.term-in-FirstNumber.ensures

pub returns-in-Start : goal.returns-in-Start
returns-in-Start c =
    read_as c.keep_name.result c.args.self.now c.keep_name.new.self _ _
    (row_by c.args.self.now (Name c.args.name.now) Start c.in-Start.is)
    c.keep_name.ensures

pub returns-else-is_zero : goal.returns-else-is_zero
returns-else-is_zero c =
    read_as c.second_term-in-SecondNumber.result c.args.self.now c.second_term-in-SecondNumber.new.self _ _
    (second_by c.args.self.now c.args.name.now c.in-SecondNumber.is c.if-is_zero.ensures)
    c.second_term-in-SecondNumber.ensures

pub returns-then-is_zero : goal.returns-then-is_zero
returns-then-is_zero c =
    let place = c.args.self.now.place in
    second_kept c.args.self.now _ c.args.name.now c.in-SecondNumber.is c.if-is_zero.ensures refl
    (ap (λ (n : List ℕ). at (where_of c.args.self.now) (SecondNamed (first_of place) place.amount n))
    c.in_ok-set_name-in-SecondNumber.ensures)

pub returns-in_default : goal.returns-in_default
returns-in_default c =
    misplaced c.args.self.now _ _ (where_of c.args.self.now)
    (row_name_stray (where_of c.args.self.now) c.args.self.now.place.stage c.args.self.now.place c.args.name.now
    c.in_default.not-Start c.in_default.not-Labelled c.in_default.not-FirstSign c.in_default.not-FirstNumber
    c.in_default.not-SecondStart c.in_default.not-SecondSign c.in_default.not-SecondNumber c.in_default.not-TermSign
    c.in_default.not-TermNumber)
