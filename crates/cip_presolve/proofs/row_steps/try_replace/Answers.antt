use Rattle.std.proofs.lemmas.Grind.{common_steps}
use Rattle.std.proofs.Common.{arith}
use Rattle.cip_presolve.specs.ColumnForms.{IsReplacedIn}
use Rattle.cip_presolve.proofs.FormsSubstituted.{replaced_by, still_substitute, still_gives, new_stands}
use Rattle.cip_search.proofs.Pairing.{exact_self}
use Rattle.cip_presolve.proofs.row_steps.try_replace.Goals as goal

pub returns-clause-step : goal.returns-clause-step
returns-clause-step c =
    let replaced : IsReplacedIn c.row.result.now c.args.column c.args.form.now c.in-Some.row = rw c.in-Some.is at c.in_ok-row.ensures in
    replaced_by c.args.draft.now c.set_row.new.self c.args.number c.args.place c.args.column c.args.form.now c.row.result.now c.in-Some.row
    c.if-number-place.false c.requires.there c.row.ensures.row c.requires.gives replaced c.set_row.ensures

pub returns-in_err-row-clause-step : goal.returns-in_err-row-clause-step
returns-in_err-row-clause-step c = exact_self c.args.draft.now

pub returns-in_default-clause-step : goal.returns-in_default-clause-step
returns-in_default-clause-step c = exact_self c.args.draft.now

pub returns-clause-rows : goal.returns-clause-rows
returns-clause-rows c = grind (arith, common_steps)

pub set_row-requires-clause-inside : goal.set_row-requires-clause-inside
set_row-requires-clause-inside c = grind (arith, common_steps)

pub returns-in_default-clause-substitute : goal.returns-in_default-clause-substitute
returns-in_default-clause-substitute c = grind (arith, common_steps)

pub row-requires : goal.row-requires
row-requires c = grind (arith, common_steps)

pub returns-in_default-clause-rows : goal.returns-in_default-clause-rows
returns-in_default-clause-rows c = grind (arith, common_steps)

pub returns-then-number-place-clause-substitute : goal.returns-then-number-place-clause-substitute
returns-then-number-place-clause-substitute c = grind (arith, common_steps)

pub returns-in_err-row-clause-rows : goal.returns-in_err-row-clause-rows
returns-in_err-row-clause-rows c = grind (arith, common_steps)

pub set_row-requires-clause-stands : goal.set_row-requires-clause-stands
set_row-requires-clause-stands c =
    let replaced : IsReplacedIn c.row.result.now c.args.column c.args.form.now c.in-Some.row =
    rw c.in-Some.is at c.in_ok-row.ensures in
    new_stands c.args.draft.now c.args.column c.args.form.now c.row.result.now c.in-Some.row replaced
    c.row.ensures.stands c.requires.substitute

pub returns-clause-gives : goal.returns-clause-gives
returns-clause-gives c =
    still_gives c.args.draft.now c.set_row.new.self c.args.number c.args.place c.args.column c.args.form.now
    c.in-Some.row
    c.if-number-place.false c.requires.there c.requires.gives c.set_row.ensures

pub returns-then-number-place-clause-step : goal.returns-then-number-place-clause-step
returns-then-number-place-clause-step c = exact_self c.args.draft.now

pub returns-clause-substitute : goal.returns-clause-substitute
returns-clause-substitute c =
    still_substitute c.args.draft.now c.set_row.new.self c.args.number c.args.column c.args.form.now c.in-Some.row
    c.requires.substitute c.set_row.ensures
