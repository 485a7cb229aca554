use Rattle.std.proofs.lemmas.Result.{IfOk-from_err}
use Rattle.std.proofs.lemmas.Grind.{common_steps}
use Rattle.std.proofs.lemmas.List.{append-nil}
use Rattle.std.proofs.Common.{◌≡◌, arith, sym, ap, add-one, subst, true, ℕ, ◌++◌, ◌-◌, ◌∙◌}
use Rattle.cip_text_rules.specs.MpsState.{costs_from}
use Rattle.cip_mps.specs.Costs.{held_behind}
use Rattle.cip_mps.proofs.CostLaws.{from, one_cost, behind_rises, behind_later, from_zero}
use Rattle.cip_mps.proofs.column_program.costs_of.Goals as goal

pub loop-column-init : goal.loop-column-init
loop-column-init c = record {
  costs = rw c.new-costs.ensures.items (ap (costs_from c.args.sense c.args.held.now 0) (omega arith));
  rising = c.requires.rising;
  from = from_zero c.args.held.now;
}

pub loop-column-preserved : goal.loop-column-preserved
loop-column-preserved c =
    let at = c.loop-column in
    let rest = c.value_at-cost.ensures.rest in
    record {
      costs =
          one_cost c.args.sense c.args.held.now at.rest.now at.column c.args.columns at.costs.items c.push.new.self.items c.value_at-cost.result.0 c.minimized.result c.value_at-cost.result.1.now
          c.loop-column-test.true at.invariant.costs c.value_at-cost.ensures.value c.minimized.ensures rest c.in_ok-push.ensures.items;
      rising = rw rest (behind_rises at.rest.now at.column at.invariant.rising);
      from = rw rest (subst (λ (n : ℕ). from n (held_behind at.rest.now at.column) ≡ true) (sym (add-one at.column)) (behind_later at.rest.now at.column at.invariant.rising at.invariant.from));
    }

pub returns : goal.returns
returns c =
    let at = c.loop-column in
    let none : c.args.columns - at.column ≡ 0 = omega (arith, c.loop-column-test.false) in
    sym (append-nil at.costs.items) ∙ ap (λ (n : ℕ). at.costs.items ++ costs_from c.args.sense at.rest.now at.column n) (sym none) ∙ at.invariant.costs

pub overflow_cast-column : goal.overflow_cast-column
overflow_cast-column c = grind (arith, common_steps)

pub value_at-cost-requires-clause-from : goal.value_at-cost-requires-clause-from
value_at-cost-requires-clause-from c = grind (arith, common_steps)

pub value_at-cost-requires-clause-rising : goal.value_at-cost-requires-clause-rising
value_at-cost-requires-clause-rising c = grind (arith, common_steps)

pub returns-in_err-push : goal.returns-in_err-push
returns-in_err-push c = IfOk-from_err c.from_residual.result _ c.from_residual.ensures.0
