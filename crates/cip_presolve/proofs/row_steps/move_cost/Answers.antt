use Rattle.std.proofs.lemmas.Grind.{common_steps}
use Rattle.std.proofs.Common.{◌≡◌, Ok, ap, ◌∙◌, subst, ◌<◌, length, sym, arith}
use Rattle.cip_problem.specs.Activity.{value_at}
use Rattle.cip_frac.specs.Outcomes.{product_added}
use Rattle.cip_presolve.specs.NarrowedPrograms.{with_cost}
use Rattle.cip_presolve.specs.Forms.{Form}
use Rattle.cip_presolve.proofs.FormsSubstituted.{cost_moved_by}
use Rattle.cip_search.proofs.Pairing.{exact_self}
use Rattle.cip_problem.specs.Program.{Program}
use Rattle.cip_presolve.proofs.row_steps.move_cost.Goals as goal

pub returns-clause-step : goal.returns-clause-step
returns-clause-step c =
    let constant : c.form.inside.constant ≡ c.args.form.now.constant = ap (λ (f : Form). f.constant) c.form.view_is in
    let factor : c.form.inside.factor ≡ c.args.form.now.factor = ap (λ (f : Form). f.factor) c.form.view_is in
    let source : c.form.inside.source ≡ c.args.form.now.source = ap (λ (f : Form). f.source) c.form.view_is in
    let first : product_added c.args.draft.now.constant c.cost-cost.result c.args.form.now.constant ≡ Ok c.add_product.new.self =
    subst (λ q. product_added c.args.draft.now.constant c.cost-cost.result q ≡ Ok c.add_product.new.self) constant
    (subst (λ q. product_added q c.cost-cost.result c.form.inside.constant ≡ Ok c.add_product.new.self) c.constant-constant.ensures c.if-not-add_product.ensures) in
    let second : product_added c.cost-more.result c.cost-cost.result c.args.form.now.factor ≡ Ok c.add_product-else-not-add_product.new.self =
    subst (λ q. product_added c.cost-more.result c.cost-cost.result q ≡ Ok c.add_product-else-not-add_product.new.self) factor c.if-not-add_product-2.ensures in
    cost_moved_by c.args.draft.now c.set_cost.new.self c.set_cost-2.new.self c.args.place c.args.column c.args.form.now c.cost-cost.result c.zero.result c.add_product.new.self c.cost-more.result c.add_product-else-not-add_product.new.self
    c.requires.there c.bounds-bounds.ensures.formed.costs c.requires.gives c.requires.substitute c.cost-cost.ensures
    (c.cost-more.ensures ∙ ap (λ n. value_at c.args.draft.now.costs n) source) c.zero.ensures first second c.set_cost.ensures
    (c.set_cost-2.ensures ∙ ap (λ n. with_cost c.set_cost.new.self n c.add_product-else-not-add_product.new.self c.add_product.new.self) source)

pub returns-then-is_zero-clause-step : goal.returns-then-is_zero-clause-step
returns-then-is_zero-clause-step c = exact_self c.args.draft.now

pub set_cost-requires-2 : goal.set_cost-requires-2
set_cost-requires-2 c =
    subst (λ (p : Program). c.form.inside.source < length p.bounds) (sym c.set_cost.ensures)
    (subst (λ n. n < length c.args.draft.now.bounds) (sym (ap (λ (f : Form). f.source) c.form.view_is)) c.requires.substitute.source)

pub cost-more-requires : goal.cost-more-requires
cost-more-requires c = grind (arith, common_steps)

pub set_cost-requires : goal.set_cost-requires
set_cost-requires c = omega arith

pub returns-clause-bounds : goal.returns-clause-bounds
returns-clause-bounds c = grind (arith, common_steps)

pub returns-clause-rows : goal.returns-clause-rows
returns-clause-rows c = grind (arith, common_steps)

pub cost-cost-requires : goal.cost-cost-requires
cost-cost-requires c = grind (arith, common_steps)

pub returns-then-is_zero-clause-rows : goal.returns-then-is_zero-clause-rows
returns-then-is_zero-clause-rows c = grind (arith, common_steps)

pub returns-then-is_zero-clause-bounds : goal.returns-then-is_zero-clause-bounds
returns-then-is_zero-clause-bounds c = grind (arith, common_steps)
