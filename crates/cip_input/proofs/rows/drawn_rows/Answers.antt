use Rattle.std.proofs.lemmas.Grind.{common_steps}
use Rattle.std.proofs.Common.{◌≡◌, ℕ, ◌*◌, List, [], ◌∷◌, ◌++◌, sym, ap, ap₂, ◌∙◌, zero-add, arith}
use Rattle.std.proofs.lemmas.List.FromFn.{map-range_with_len_more}
use Rattle.cip_problem.specs.Program.{Row}
use Rattle.cip_input.specs.Generated.{row_from, state_after}
use Rattle.cip_input.proofs.DrawLaws.{state_after_row}
use Rattle.cip_input.proofs.rows.drawn_rows.Goals as goal

pub loop-number-preserved : goal.loop-number-preserved
loop-number-preserved c =
    let k : ℕ = c.loop-number._number in
    let start : ℕ = c.args.draws.now.state in
    let made : c.in_ok-drawn_row.field-0 ≡ row_from c.args.columns (state_after (k * c.args.columns) start) =
    c.in_ok-drawn_row.ensures.row ∙ ap (row_from c.args.columns) c.loop-number.invariant.state in
    record {
      rows =
          c.in_ok-push.ensures.items
          ∙ ap₂ (λ (xs : List Row) (x : Row). xs ++ x ∷ []) c.loop-number.invariant.rows made
          ∙ sym (map-range_with_len_more (λ row. row_from c.args.columns (state_after (row * c.args.columns) start)) 0 k k (zero-add k));
      state =
          c.in_ok-drawn_row.ensures.state ∙ ap (state_after c.args.columns) c.loop-number.invariant.state
          ∙ state_after_row c.args.columns k start;
    }

pub loop-number-init : goal.loop-number-init
loop-number-init c = grind (arith, common_steps)

pub returns : goal.returns
returns c = grind (arith, common_steps)
