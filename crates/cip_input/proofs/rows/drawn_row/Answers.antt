use Rattle.std.proofs.lemmas.Grind.{common_steps}
use Rattle.std.proofs.Common.{◌≡◌, ℕ, ◌+◌, ◌%◌, ◌++◌, List, None, sym, ap, ap₂, ◌∙◌, subst, arith}
use Rattle.cip_problem.specs.Program.{Term, Row}
use Rattle.cip_problem.specs.Activity.{StandsBelow}
use Rattle.cip_input.specs.Generated.{next_state, drawn_at, draw, coefficient_from, state_after}
use Rattle.cip_input.proofs.DrawLaws.{state_after_next, entry_on, terms_more, total_more, terms_below}
use Rattle.cip_input.proofs.rows.drawn_row.Goals as goal

pub put_term-requires-clause-below : goal.put_term-requires-clause-below
put_term-requires-clause-below c =
    subst (λ (r : Row). StandsBelow c.loop-column.column r.terms) (sym c.loop-column.invariant.row)
    (terms_below c.loop-column.column c.loop-column.column c.args.draws.now.state (omega arith))

pub loop-column-preserved : goal.loop-column-preserved
loop-column-preserved c =
    let k : ℕ = c.loop-column.column in
    let start : ℕ = c.args.draws.now.state in
    let drawn : c.draw-coefficient.result ≡ draw start k =
    c.draw-coefficient.ensures.drawn ∙ ap (λ s. drawn_at (next_state s)) c.loop-column.invariant.state in
    let coefficient : c.draw-coefficient.result % 10 ≡ coefficient_from start k = ap (λ d. d % 10) drawn in
    record {
      row =
          c.in_ok-put_term.ensures
          ∙ ap (λ (n : ℕ). record c.loop-column.row { terms = c.loop-column.row.terms ++ entry_on k n }) coefficient
          ∙ ap (λ (r : Row). record r { terms = r.terms ++ entry_on k (coefficient_from start k) }) c.loop-column.invariant.row
          ∙ ap (λ (ts : List Term). let r : Row = record { terms = ts; low = None; high = None } in r) (terms_more k start);
      total = ap₂ ◌+◌ c.loop-column.invariant.total coefficient ∙ total_more k start;
      small = omega arith;
      state =
          c.draw-coefficient.ensures.state ∙ ap next_state c.loop-column.invariant.state ∙ sym (state_after_next k start);
    }

pub returns-clause-state : goal.returns-clause-state
returns-clause-state c =
    let all : c.loop-column.column ≡ c.args.columns = omega (arith, c.loop-column-test.false, c.loop-column.auto.column-end) in
    c.loop-column.invariant.state ∙ ap (λ (n : ℕ). state_after n c.args.draws.now.state) all

pub overflow_add-total : goal.overflow_add-total
overflow_add-total c = omega arith

pub returns-clause-row : goal.returns-clause-row
returns-clause-row c = grind (arith, common_steps)

pub overflow_cast-column : goal.overflow_cast-column
overflow_cast-column c = grind (arith, common_steps)

pub loop-column-init : goal.loop-column-init
loop-column-init c = grind (arith, common_steps)

pub overflow_cast-total : goal.overflow_cast-total
overflow_cast-total c = grind (arith, common_steps)

pub put_term-requires-clause-small : goal.put_term-requires-clause-small
put_term-requires-clause-small c = grind (arith, common_steps)

pub same-row : goal.same-row
same-row c = grind (arith, common_steps)
