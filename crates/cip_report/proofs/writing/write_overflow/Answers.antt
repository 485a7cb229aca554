use Rattle.std.proofs.Common.{◌≡◌, ◌∙◌, length, ap, subst}
use Rattle.std.proofs.lemmas.Option.{get_or_from_slice_get}
use Rattle.cip_model.specs.declared.verdicts.Place.{Place}
use Rattle.cip_model.specs.declared.verdicts.Place.TheVariants.{Row, Cost}
use Rattle.cip_leaf.specs.declared.answers.Shown.{Shown}
use Rattle.cip_leaf.specs.declared.answers.Shown.TheVariants.{Place as AtPlace}
use Rattle.cip_report.specs.Answers.{StandsAmong}
use Rattle.cip_report.proofs.WritingLemmas.{no_name}
use Rattle.cip_report.proofs.writing.write_overflow.Goals as goal

pub name-requires : goal.name-requires
name-requires g c =
    let shown : c.args.shown ≡ AtPlace (Row c.in-Place-Row.number) = c.in-Place-Row.is ∙ ap (λ (p : Place). AtPlace p) (rw c.in-Place-Row.is at c.in-Place-Row.field-0-is) in
    subst (λ (s : Shown). StandsAmong (length c.args.names.now) s) shown c.requires

pub returns-in-Place-Row-clause-taken : goal.returns-in-Place-Row-clause-taken
returns-in-Place-Row-clause-taken g c =
    let shown : c.args.shown ≡ AtPlace (Row c.in-Place-Row.number) = c.in-Place-Row.is ∙ ap (λ (p : Place). AtPlace p) (rw c.in-Place-Row.is at c.in-Place-Row.field-0-is) in
    let name = get_or_from_slice_get c.args.names.now c.in-Place-Row.number c.name.result.now no_name c.name.ensures in
    rw (shown, name) c.write_line.ensures.taken

pub returns-in-Place-Row-clause-faults : goal.returns-in-Place-Row-clause-faults
returns-in-Place-Row-clause-faults g c = c.write_line.ensures.faults

pub returns-in-Place-Cost-clause-taken : goal.returns-in-Place-Cost-clause-taken
returns-in-Place-Cost-clause-taken g c =
    let shown : c.args.shown ≡ AtPlace Cost = c.in-Place-Cost.is ∙ ap (λ (p : Place). AtPlace p) (rw c.in-Place-Cost.is at c.in-Place-Cost.field-0-is) in
    rw shown c.write_line-in-Place-Cost.ensures.taken

pub returns-in-Place-Cost-clause-faults : goal.returns-in-Place-Cost-clause-faults
returns-in-Place-Cost-clause-faults g c = c.write_line-in-Place-Cost.ensures.faults

pub returns-in-Moves-clause-taken : goal.returns-in-Moves-clause-taken
returns-in-Moves-clause-taken g c = rw c.in-Moves.is c.write_count.ensures.taken

pub returns-in-Moves-clause-faults : goal.returns-in-Moves-clause-faults
returns-in-Moves-clause-faults g c = c.write_count.ensures.faults
