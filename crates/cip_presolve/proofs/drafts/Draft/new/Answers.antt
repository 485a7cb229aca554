use Rattle.std.proofs.lemmas.Grind.{common_steps}
use Rattle.std.proofs.Common.{◌≡◌, ◌∙◌, subst, sym, arith}
use Rattle.cip_presolve.specs.DraftParts.{IsDraft}
use Rattle.cip_presolve.proofs.Drafted.{drafted, same_draft}
use Rattle.cip_presolve.proofs.drafts.Draft.new.Goals as goal

pub invariant_of-result : goal.invariant_of-result
invariant_of-result c =
    let program = c.args.program.now in
    let rows : c.in-Ok-copied_rows.rows.items ≡ program.rows = c.in-Ok-copied_rows.ensures ∙ c.rows.ensures.rows in
    let same_costs : c.in-Ok-to_vec-2.costs.items ≡ c.costs.result.now =
    c.in-Ok-to_vec-2.ensures.items_if_clones_equal (λ x y e. e) in
    let same_flags : c.in-Ok-to_vec.whole.items ≡ c.whole.result.now = c.in-Ok-to_vec.ensures.items_if_clones_equal
    (λ x y e. e) in
    let same =
    same_draft program c.in-Ok-copied_rows.rows.items c.in-Ok-to_vec-2.costs.items c.constant.result
    c.in-Ok-to_vec.whole.items c.in-Ok.bounds c.in-Ok-copied.choices rows (same_costs ∙ c.costs.ensures.costs)
    c.constant.ensures (same_flags ∙ c.whole.ensures.whole) (c.in-Ok.ensures ∙ c.bounds.ensures.bounds)
    (c.in-Ok-copied.ensures ∙ c.choices.ensures.choices) in
    subst IsDraft (sym same) (drafted program c.bounds.ensures.formed)

pub returns-in-Ok-copied_rows : goal.returns-in-Ok-copied_rows
returns-in-Ok-copied_rows c =
    let program = c.args.program.now in
    let rows : c.in-Ok-copied_rows.rows.items ≡ program.rows = c.in-Ok-copied_rows.ensures ∙ c.rows.ensures.rows in
    let same_costs : c.in-Ok-to_vec-2.costs.items ≡ c.costs.result.now =
    c.in-Ok-to_vec-2.ensures.items_if_clones_equal (λ x y e. e) in
    let same_flags : c.in-Ok-to_vec.whole.items ≡ c.whole.result.now = c.in-Ok-to_vec.ensures.items_if_clones_equal
    (λ x y e. e) in
    let same =
    same_draft program c.in-Ok-copied_rows.rows.items c.in-Ok-to_vec-2.costs.items c.constant.result
    c.in-Ok-to_vec.whole.items c.in-Ok.bounds c.in-Ok-copied.choices rows (same_costs ∙ c.costs.ensures.costs)
    c.constant.ensures (same_flags ∙ c.whole.ensures.whole) (c.in-Ok.ensures ∙ c.bounds.ensures.bounds)
    (c.in-Ok-copied.ensures ∙ c.choices.ensures.choices) in
    same

pub same-bounds : goal.same-bounds
same-bounds c = grind (arith, common_steps)

pub same-choices : goal.same-choices
same-choices c = grind (arith, common_steps)

pub returns-in_default-to_vec-2 : goal.returns-in_default-to_vec-2
returns-in_default-to_vec-2 c = grind (arith, common_steps)

pub returns-in_default-to_vec : goal.returns-in_default-to_vec
returns-in_default-to_vec c = grind (arith, common_steps)
