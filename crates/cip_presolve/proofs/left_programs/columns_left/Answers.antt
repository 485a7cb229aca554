use Rattle.std.proofs.lemmas.Grind.{common_steps}
use Rattle.std.proofs.Common.{◌≡◌, ℕ, Bool, List, length, sym, ap, ◌∙◌, arith}
use Rattle.cip_problem.specs.Program.{Row, Sides, Choice, Program}
use Rattle.cip_presolve.specs.LeftProgram.{dropped_rows, left_columns}
use Rattle.cip_rational.specs.Rational.{ℚ}
use Rattle.cip_presolve.specs.EntriesLeft.{entries_left}
use Rattle.cip_presolve.proofs.Leftovers.{length_map}
use Rattle.cip_presolve.proofs.PartsRead.{same_program}
use Rattle.cip_presolve.proofs.left_programs.columns_left.Goals as goal

pub returns : goal.returns
returns c =
    let p : Program = left_columns c.args.program.now c.args.draft.now c.args.gone.now in
    let column_names : c.in-Ok-names_left.column_names ≡ p.column_names = c.in-Ok-names_left.ensures ∙ ap (λ (ns : List (List ℕ)). entries_left c.args.gone.now ns) c.column_names.ensures.names in
    let dropped : c.as_slice-3.result.now ≡ dropped_rows c.args.gone.now c.args.draft.now.rows = c.as_slice-3.ensures.value ∙ c.in-Ok-dropped_rows.ensures ∙ ap (λ (rs : List Row). dropped_rows c.args.gone.now rs) c.rows.ensures in
    let row_names : c.in-Ok-names_left-2.row_names ≡ p.row_names = c.in-Ok-names_left-2.ensures ∙ ap (λ (ds : List Bool). entries_left ds c.row_names.result.now) dropped ∙ ap (λ (ns : List (List ℕ)). entries_left (dropped_rows c.args.gone.now c.args.draft.now.rows) ns) c.row_names.ensures.names in
    let rows : c.new.result.items ≡ p.rows = c.new.ensures.items in
    let costs : c.in-Ok.costs.items ≡ p.costs = c.in-Ok.ensures ∙ ap (λ (qs : List ℚ). entries_left c.args.gone.now qs) c.costs.ensures in
    let constant : c.constant.result ≡ p.constant = c.constant.ensures in
    let integral : c.in-Ok-items_left.whole.items ≡ p.integral = c.in-Ok-items_left.ensures
    ∙ ap (λ (bs : List Bool). entries_left c.args.gone.now bs) c.whole.ensures in
    let bounds : c.in-Ok-bounds_left.bounds ≡ p.bounds = c.in-Ok-bounds_left.ensures
    ∙ ap (λ (ss : List Sides). entries_left c.args.gone.now ss) (c.as_slice.ensures ∙ c.bounds.ensures.bounds) in
    let choices : c.in-Ok-choices_left.choices ≡ p.choices = c.in-Ok-choices_left.ensures
    ∙ ap (λ (cs : List Choice). entries_left c.args.gone.now cs) (c.as_slice-2.ensures ∙ c.choices.ensures) in
    same_program _ p column_names row_names rows costs constant c.sense.ensures integral bounds choices

pub names_left-requires : goal.names_left-requires
names_left-requires c = c.requires.column_names ∙ sym (ap (λ (ns : List (List ℕ)). length ns) c.column_names.ensures.names)

pub bounds_left-requires : goal.bounds_left-requires
bounds_left-requires c = grind (arith, common_steps)

pub items_left-requires : goal.items_left-requires
items_left-requires c = grind (arith, common_steps)

pub items_left-requires-2 : goal.items_left-requires-2
items_left-requires-2 c = grind (arith, common_steps)

pub same-bounds : goal.same-bounds
same-bounds c = grind (arith, common_steps)

pub same-choices : goal.same-choices
same-choices c = grind (arith, common_steps)

pub names_left-requires-2 : goal.names_left-requires-2
names_left-requires-2 c =
    ap (λ (ds : List Bool). length ds) (c.as_slice-3.ensures.value ∙ c.in-Ok-dropped_rows.ensures ∙ ap (λ (rs : List Row). dropped_rows c.args.gone.now rs) c.rows.ensures)
    ∙ length_map _ c.args.draft.now.rows ∙ c.requires.row_names ∙ sym (ap (λ (ns : List (List ℕ)). length ns) c.row_names.ensures.names)

pub returns-in_default-names_left-2 : goal.returns-in_default-names_left-2
returns-in_default-names_left-2 c = grind (arith, common_steps)
