use Rattle.std.proofs.lemmas.Grind.{common_steps}
use Rattle.std.proofs.Common.{◌≡◌, ◌∙◌, sym, subst, arith}
use Rattle.cip_problem.specs.Program.{Program}
use Rattle.cip_problem.specs.WellFormed.{IsWellFormed}
use Rattle.cip_presolve.proofs.PartsRead.{same_program}
use Rattle.cip_presolve.proofs.left_programs.copied.Goals as goal

pub new-requires : goal.new-requires
new-requires c =
    let p : Program = c.args.program.now in
    let column_names : c.in-Ok-copied_names.column_names ≡ p.column_names = c.in-Ok-copied_names.ensures ∙ c.column_names.ensures.names in
    let row_names : c.in-Ok-copied_names-2.row_names ≡ p.row_names = c.in-Ok-copied_names-2.ensures ∙ c.row_names.ensures.names in
    let rows : c.in-Ok-copied_rows.rows.items ≡ p.rows = c.in-Ok-copied_rows.ensures ∙ c.rows.ensures.rows in
    let same_costs : c.in-Ok.costs.items ≡ c.costs.result.now = c.in-Ok.ensures.items_if_clones_equal (λ x y e. e) in
    let same_flags : c.in-Ok-to_vec.whole.items ≡ c.whole.result.now = c.in-Ok-to_vec.ensures.items_if_clones_equal
    (λ x y e. e) in
    let costs : c.in-Ok.costs.items ≡ p.costs = same_costs ∙ c.costs.ensures.costs in
    let integral : c.in-Ok-to_vec.whole.items ≡ p.integral = same_flags ∙ c.whole.ensures.whole in
    let bounds : c.in-Ok-copied.bounds ≡ p.bounds = c.in-Ok-copied.ensures ∙ c.bounds.ensures.bounds in
    let choices : c.in-Ok-copied-2.choices ≡ p.choices = c.in-Ok-copied-2.ensures ∙ c.choices.ensures.choices in
    subst IsWellFormed (sym (same_program _ p column_names row_names rows costs c.constant.ensures c.sense.ensures
    integral bounds choices)) c.column_names.ensures.formed

pub returns : goal.returns
returns c =
    let p : Program = c.args.program.now in
    let column_names : c.in-Ok-copied_names.column_names ≡ p.column_names = c.in-Ok-copied_names.ensures ∙ c.column_names.ensures.names in
    let row_names : c.in-Ok-copied_names-2.row_names ≡ p.row_names = c.in-Ok-copied_names-2.ensures ∙ c.row_names.ensures.names in
    let rows : c.in-Ok-copied_rows.rows.items ≡ p.rows = c.in-Ok-copied_rows.ensures ∙ c.rows.ensures.rows in
    let same_costs : c.in-Ok.costs.items ≡ c.costs.result.now = c.in-Ok.ensures.items_if_clones_equal (λ x y e. e) in
    let same_flags : c.in-Ok-to_vec.whole.items ≡ c.whole.result.now = c.in-Ok-to_vec.ensures.items_if_clones_equal
    (λ x y e. e) in
    let costs : c.in-Ok.costs.items ≡ p.costs = same_costs ∙ c.costs.ensures.costs in
    let integral : c.in-Ok-to_vec.whole.items ≡ p.integral = same_flags ∙ c.whole.ensures.whole in
    let bounds : c.in-Ok-copied.bounds ≡ p.bounds = c.in-Ok-copied.ensures ∙ c.bounds.ensures.bounds in
    let choices : c.in-Ok-copied-2.choices ≡ p.choices = c.in-Ok-copied-2.ensures ∙ c.choices.ensures.choices in
    c.new.ensures ∙ (same_program _ p column_names row_names rows costs c.constant.ensures c.sense.ensures integral
    bounds choices)

pub same-bounds : goal.same-bounds
same-bounds c = grind (arith, common_steps)

pub same-choices : goal.same-choices
same-choices c = grind (arith, common_steps)

pub returns-in_default-copied_names-2 : goal.returns-in_default-copied_names-2
returns-in_default-copied_names-2 c = grind (arith, common_steps)

pub returns-in_default-to_vec : goal.returns-in_default-to_vec
returns-in_default-to_vec c = grind (arith, common_steps)
