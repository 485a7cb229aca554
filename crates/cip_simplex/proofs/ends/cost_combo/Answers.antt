use Rattle.std.proofs.lemmas.Result.{IfOk-from_err}
use Rattle.std.proofs.lemmas.Grind.{common_steps}
use Rattle.std.proofs.Common.{◌∙◌, ◌++◌, ◌∷◌, [], sym, ap₂, arith, ◌≡◌, subst, IfOk, ap, ◌+◌}
use Rattle.cip_bland.specs.Dictionary.{size, cost_entry}
use Rattle.cip_dict.specs.SparseLines.{Kept, kept_of, IsPlace}
use Rattle.cip_dict.proofs.Grown.{table_none, table_more}
use Rattle.cip_dict.proofs.Places.{place_zero}
use Rattle.cip_bland.specs.Tables.{table}
use Rattle.cip_simplex.specs.LpAnswers.{IsCombo}
use Rattle.cip_simplex.proofs.Cursors.{on_entry, past_entry, on_none, past_none}
use Rattle.cip_simplex.proofs.Tabled.{long, same_certificate}
use Rattle.cip_simplex.proofs.ends.cost_combo.Goals as goal
use Rattle.cip_simplex.proofs.ends.cost_combo.Goals.{then-at-costs_len+then-k-v, then-at-costs_len+else-k-v, else-at-costs_len}
use Rattle.cip_bland.specs.EndAnswers as def

pub combination-requires-clause-few : goal.combination-requires-clause-few
combination-requires-clause-few c =
    let end : c.loop-v.v ≡ size c.args.dict.now = omega arith in
    let e : c.as_slice.result.now ≡ table (size c.args.dict.now) (cost_entry c.args.dict.now) = c.as_slice.ensures.value ∙ c.loop-v.invariant.so_far ∙ ap (λ n. table n (cost_entry c.args.dict.now)) end in
    omega (arith, long c.as_slice.result.now c.args.columns c.args.rows (size c.args.dict.now) (cost_entry c.args.dict.now) e c.requires.variables, c.requires.few, c.requires.variables)

pub combination-requires-clause-within : goal.combination-requires-clause-within
combination-requires-clause-within c =
    let end : c.loop-v.v ≡ size c.args.dict.now = omega arith in
    let e : c.as_slice.result.now ≡ table (size c.args.dict.now) (cost_entry c.args.dict.now) = c.as_slice.ensures.value ∙ c.loop-v.invariant.so_far ∙ ap (λ n. table n (cost_entry c.args.dict.now)) end in
    omega (arith, long c.as_slice.result.now c.args.columns c.args.rows (size c.args.dict.now) (cost_entry c.args.dict.now) e c.requires.variables)

pub returns : goal.returns
returns c =
    let end : c.loop-v.v ≡ size c.args.dict.now = omega arith in
    let e : c.as_slice.result.now ≡ table (size c.args.dict.now) (cost_entry c.args.dict.now) = c.as_slice.ensures.value ∙ c.loop-v.invariant.so_far ∙ ap (λ n. table n (cost_entry c.args.dict.now)) end in
    subst (λ (k : def.Certificate). IfOk c.combination.result (IsCombo k)) (same_certificate c.as_slice.result.now c.args.columns c.args.rows (size c.args.dict.now) (cost_entry c.args.dict.now) e c.requires.variables) c.combination.ensures

pub loop-v-init : goal.loop-v-init
loop-v-init c = record {
  so_far = c.in_ok-multipliers.ensures.items ∙ table_none _;
  place = place_zero (kept_of (size c.args.dict.now) (cost_entry c.args.dict.now));
}

pub loop-v-preserved : goal.loop-v-preserved
loop-v-preserved c =
    let both : (c.if-at-costs_len.entry ≡ cost_entry c.args.dict.now c.loop-v.v) × IsPlace (c.loop-v.v + 1) (kept_of (size c.args.dict.now) (cost_entry c.args.dict.now)) c.if-at-costs_len.at =
    elim c.if-at-costs_len.branch [
      | then-at-costs_len+then-k-v w ↦ (
        w.entry-is ∙ on_entry (size c.args.dict.now) (cost_entry c.args.dict.now) c.loop-v.v c.loop-v.at (omega (arith, c.loop-v-test.true, c.len-v-end.ensures.variables)) c.loop-v.invariant.place w.cost_at-k.result (omega (arith, w.if-at-costs_len.true, c.costs_len.ensures)) w.cost_at-k.ensures w.if-k-v.true,
        subst (IsPlace (c.loop-v.v + 1) (kept_of (size c.args.dict.now) (cost_entry c.args.dict.now))) (sym w.at-is) (past_entry (size c.args.dict.now) (cost_entry c.args.dict.now) c.loop-v.v c.loop-v.at (omega (arith, c.loop-v-test.true, c.len-v-end.ensures.variables)) c.loop-v.invariant.place w.cost_at-k.result (omega (arith, w.if-at-costs_len.true, c.costs_len.ensures)) w.cost_at-k.ensures w.if-k-v.true),
      )
      | then-at-costs_len+else-k-v w ↦ (
        w.entry-is ∙ c.zero-entry.ensures ∙ on_none (size c.args.dict.now) (cost_entry c.args.dict.now) c.loop-v.v c.loop-v.at (omega (arith, c.loop-v-test.true, c.len-v-end.ensures.variables)) c.loop-v.invariant.place (λ x l s. w.if-k-v.false (ap (λ (p : Kept). p.0) (w.cost_at-k.ensures x) ∙ s)),
        subst (IsPlace (c.loop-v.v + 1) (kept_of (size c.args.dict.now) (cost_entry c.args.dict.now))) (sym w.at-is) (past_none (size c.args.dict.now) (cost_entry c.args.dict.now) c.loop-v.v c.loop-v.at (omega (arith, c.loop-v-test.true, c.len-v-end.ensures.variables)) c.loop-v.invariant.place (λ x l s. w.if-k-v.false (ap (λ (p : Kept). p.0) (w.cost_at-k.ensures x) ∙ s))),
      )
      | else-at-costs_len w ↦ (
        w.entry-is ∙ c.zero-entry.ensures ∙ on_none (size c.args.dict.now) (cost_entry c.args.dict.now) c.loop-v.v c.loop-v.at (omega (arith, c.loop-v-test.true, c.len-v-end.ensures.variables)) c.loop-v.invariant.place (λ x l. absurd (omega (arith, l, w.if-at-costs_len.false, c.costs_len.ensures))),
        subst (IsPlace (c.loop-v.v + 1) (kept_of (size c.args.dict.now) (cost_entry c.args.dict.now))) (sym w.at-is) (past_none (size c.args.dict.now) (cost_entry c.args.dict.now) c.loop-v.v c.loop-v.at (omega (arith, c.loop-v-test.true, c.len-v-end.ensures.variables)) c.loop-v.invariant.place (λ x l. absurd (omega (arith, l, w.if-at-costs_len.false, c.costs_len.ensures)))),
      )
    ] in
    record {
      so_far = c.in_ok-push.ensures.items ∙ ap₂ (λ xs x. xs ++ x ∷ []) c.loop-v.invariant.so_far both.0 ∙ sym (table_more c.loop-v.v _);
      place = both.1;
    }

pub cost_at-k-requires : goal.cost_at-k-requires
cost_at-k-requires c = grind (arith, common_steps)

pub overflow_add-at : goal.overflow_add-at
overflow_add-at c = grind (arith, common_steps)

pub overflow_cast-v : goal.overflow_cast-v
overflow_cast-v c = grind (arith, common_steps)

pub returns-in_err-push : goal.returns-in_err-push
returns-in_err-push c = IfOk-from_err c.from_residual-in_err-push.result _ c.from_residual-in_err-push.ensures.0
