use Rattle.std.proofs.lemmas.Grind.{common_steps}
use Rattle.std.proofs.Common.{◌≡◌, ℕ, ◌+◌, ◌%◌, List, [], ◌∷◌, ◌++◌, map, sym, subst, ap, ◌∙◌, zero-add, arith}
use Rattle.std.specs.List.{range_with_len}
use Rattle.std.proofs.lemmas.List.FromFn.{map-range_with_len_more}
use Rattle.cip_rational.specs.Rational.{ℚ, negate}
use Rattle.cip_input.specs.Generated.{next_state, drawn_at, draw, natural, cost_from, state_after}
use Rattle.cip_input.proofs.DrawLaws.{state_after_next}
use Rattle.cip_input.proofs.columns.drawn_costs.Goals as goal

pub loop-column-preserved : goal.loop-column-preserved
loop-column-preserved c =
    let k : ℕ = c.loop-column._column in
    let start : ℕ = c.args.draws.now.state in
    let drawn : c.draw.result ≡ draw start k = c.draw.ensures.drawn ∙ ap (λ s. drawn_at (next_state s)) c.loop-column.invariant.state in
    let drawn_cost : c.neg.result ≡ negate (natural (1 + c.draw.result % 20)) = grind (arith, common_steps) in
    let cost : c.neg.result ≡ cost_from start k =
    subst (λ (d : ℕ). c.neg.result ≡ negate (natural (1 + d % 20))) drawn drawn_cost in
    let put : c.push.new.self.items ≡ c.loop-column.costs.items ++ c.neg.result ∷ [] = c.in_ok-push.ensures.items in
    record {
      costs =
          put ∙ ap (λ (xs : List ℚ). xs ++ c.neg.result ∷ []) c.loop-column.invariant.costs
          ∙ ap (λ (q : ℚ). map (cost_from start) (range_with_len 0 k) ++ q ∷ []) cost
          ∙ sym (map-range_with_len_more (cost_from start) 0 k k (zero-add k));
      state = c.draw.ensures.state ∙ ap next_state c.loop-column.invariant.state ∙ sym (state_after_next k start);
    }

pub returns-clause-costs : goal.returns-clause-costs
returns-clause-costs c =
    let all : c.loop-column._column ≡ c.args.columns = omega (arith, c.loop-column-test.false, c.loop-column.auto._column-end) in
    c.loop-column.invariant.costs ∙ ap (λ (n : ℕ). map (cost_from c.args.draws.now.state) (range_with_len 0 n)) all

pub returns-clause-state : goal.returns-clause-state
returns-clause-state c =
    let all : c.loop-column._column ≡ c.args.columns = omega (arith, c.loop-column-test.false, c.loop-column.auto._column-end) in
    c.loop-column.invariant.state ∙ ap (λ (n : ℕ). state_after n c.args.draws.now.state) all

pub loop-column-init : goal.loop-column-init
loop-column-init c = grind (arith, common_steps)

pub overflow_add-cost : goal.overflow_add-cost
overflow_add-cost c = grind (arith, common_steps)

pub overflow_cast-cost : goal.overflow_cast-cost
overflow_cast-cost c = grind (arith, common_steps)
