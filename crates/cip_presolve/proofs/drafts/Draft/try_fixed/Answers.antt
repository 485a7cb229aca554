use Rattle.std.proofs.lemmas.Grind.{common_steps}
use Rattle.std.proofs.Common.{Ok, subst, ◌≡◌, List, Some, length, refl, sym, ap, ◌∙◌, arith, true≢false}
use Rattle.cip_frac.specs.Outcomes.{product_added}
use Rattle.cip_problem.specs.Activity.{value_at}
use Rattle.cip_problem.specs.Program.{Sides, Program}
use Rattle.cip_problem.specs.Box.{sides_at}
use Rattle.cip_presolve.specs.NarrowedPrograms.{with_cost}
use Rattle.cip_presolve.specs.RowReading.{only_value}
use Rattle.cip_presolve.proofs.Recosted.{recosted_by, fractional_by}
use Rattle.cip_presolve.proofs.drafts.Draft.try_fixed.Goals as goal
use Rattle.cip_search.proofs.Pairing.{exact_self}

pub returns-clause-step : goal.returns-clause-step
returns-clause-step c =
    let only : Some c.in-Some.value ≡ only_value (sides_at c.args.self.now.bounds c.args.column) =
    sym c.in-Some.is ∙ c.only_value.ensures ∙ ap only_value c.sides.ensures ∙ ap (λ (box : List Sides). only_value (sides_at box c.args.column)) c.bounds.ensures.bounds in
    let sum : product_added c.args.self.now.constant (value_at c.args.self.now.costs c.args.column) c.in-Some.value ≡ Ok c.add_product.new.self =
    subst (λ q. product_added c.args.self.now.constant q c.in-Some.value ≡ Ok c.add_product.new.self) c.cost-cost.ensures
    (subst (λ q. product_added q c.cost-cost.result c.in-Some.value ≡ Ok c.add_product.new.self) c.constant-constant.ensures c.if-not-add_product.ensures) in
    recosted_by c.args.self.now c.set_cost.new.self c.args.column c.in-Some.value c.add_product.new.self only sum
    (c.set_cost.ensures ∙ ap (λ z. with_cost c.args.self.now c.args.column z c.add_product.new.self) c.zero.ensures)

pub returns-in_default-clause-step : goal.returns-in_default-clause-step
returns-in_default-clause-step c = exact_self c.args.self.now

pub returns-in_default-clause-rows : goal.returns-in_default-clause-rows
returns-in_default-clause-rows c = refl

pub returns-in_default-clause-columns : goal.returns-in_default-clause-columns
returns-in_default-clause-columns c = refl

pub returns-then-not-is_whole-clause-step : goal.returns-then-not-is_whole-clause-step
returns-then-not-is_whole-clause-step c = exact_self c.args.self.now

pub returns-then-not-is_whole-clause-rows : goal.returns-then-not-is_whole-clause-rows
returns-then-not-is_whole-clause-rows c = refl

pub returns-then-not-is_whole-clause-columns : goal.returns-then-not-is_whole-clause-columns
returns-then-not-is_whole-clause-columns c = refl

pub returns-then-is_zero-clause-step : goal.returns-then-is_zero-clause-step
returns-then-is_zero-clause-step c = exact_self c.args.self.now

pub returns-then-is_zero-clause-rows : goal.returns-then-is_zero-clause-rows
returns-then-is_zero-clause-rows c = refl

pub returns-then-is_zero-clause-columns : goal.returns-then-is_zero-clause-columns
returns-then-is_zero-clause-columns c = refl

pub returns-clause-rows : goal.returns-clause-rows
returns-clause-rows c = ap (λ (p : Program). length p.rows) c.set_cost.ensures

pub returns-clause-columns : goal.returns-clause-columns
returns-clause-columns c = ap (λ (p : Program). length p.bounds) c.set_cost.ensures

pub sides-requires : goal.sides-requires
sides-requires c = omega (arith, ap length c.bounds.ensures.bounds, c.requires)

pub set_cost-requires : goal.set_cost-requires
set_cost-requires c = c.requires

pub returns-clause-end : goal.returns-clause-end
returns-clause-end c = grind (arith, common_steps)

pub returns-then-is_zero-clause-end : goal.returns-then-is_zero-clause-end
returns-then-is_zero-clause-end c = grind (arith, common_steps)

pub returns-in_default-clause-end : goal.returns-in_default-clause-end
returns-in_default-clause-end c = grind (arith, common_steps)

pub returns-then-not-is_whole-clause-end : goal.returns-then-not-is_whole-clause-end
returns-then-not-is_whole-clause-end c =
    let only : Some c.in-Some.value ≡ only_value (sides_at c.args.self.now.bounds c.args.column) =
    sym c.in-Some.is ∙ c.only_value.ensures ∙ ap only_value c.sides.ensures
    ∙ ap (λ (box : List Sides). only_value (sides_at box c.args.column)) c.bounds.ensures.bounds in
    fractional_by c.args.self.now c.args.column c.in-Some.value only c.if-is_whole.ensures
    (λ w. true≢false (sym (c.is_whole-then-is_whole.ensures.1 w) ∙ c.if-not-is_whole.true))
