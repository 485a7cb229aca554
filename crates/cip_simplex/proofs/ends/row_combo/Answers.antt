use Rattle.std.proofs.lemmas.Result.{IfOk-from_err}
use Rattle.std.proofs.lemmas.Grind.{common_steps}
use Rattle.std.proofs.Common.{◌∙◌, ◌++◌, ◌∷◌, [], sym, ap₂, arith, ◌≡◌, subst, IfOk, ap, ◌+◌}
use Rattle.cip_bland.specs.Dictionary.{size, entry}
use Rattle.cip_dict.specs.SparseLines.{Kept, kept_of, IsPlace}
use Rattle.cip_dict.proofs.Grown.{table_none, table_more}
use Rattle.cip_dict.proofs.Places.{place_zero}
use Rattle.std.proofs.lemmas.Bool.{eq-eqb, ne_eqb}
use Rattle.cip_bland.specs.Headings.{along, back_of}
use Rattle.cip_bland.specs.Tables.{table}
use Rattle.cip_bland.specs.EndAnswers.{row_multiplier}
use Rattle.cip_simplex.specs.LpAnswers.{IsCombo}
use Rattle.cip_simplex.proofs.Cursors.{on_entry, past_entry, on_none, past_none}
use Rattle.cip_simplex.proofs.Tabled.{long, same_certificate}
use Rattle.cip_simplex.proofs.ends.row_combo.Goals as goal
use Rattle.cip_simplex.proofs.ends.row_combo.Goals.{then-at-row_len+then-k-v, then-at-row_len+else-k-v, else-at-row_len, then-v-i, else-v-i}
use Rattle.cip_bland.specs.EndAnswers as def

pub combination-requires-clause-few : goal.combination-requires-clause-few
combination-requires-clause-few c =
    let end : c.loop-v.v ≡ size c.args.dict.now = omega arith in
    let e : c.as_slice.result.now ≡ table (size c.args.dict.now) (row_multiplier c.args.dict.now c.args.i) = c.as_slice.ensures.value ∙ c.loop-v.invariant.so_far ∙ ap (λ n. table n (row_multiplier c.args.dict.now c.args.i)) end in
    omega (arith, long c.as_slice.result.now c.args.columns c.args.rows (size c.args.dict.now) (row_multiplier c.args.dict.now c.args.i) e c.requires.variables, c.requires.few, c.requires.variables)

pub combination-requires-clause-within : goal.combination-requires-clause-within
combination-requires-clause-within c =
    let end : c.loop-v.v ≡ size c.args.dict.now = omega arith in
    let e : c.as_slice.result.now ≡ table (size c.args.dict.now) (row_multiplier c.args.dict.now c.args.i) = c.as_slice.ensures.value ∙ c.loop-v.invariant.so_far ∙ ap (λ n. table n (row_multiplier c.args.dict.now c.args.i)) end in
    omega (arith, long c.as_slice.result.now c.args.columns c.args.rows (size c.args.dict.now) (row_multiplier c.args.dict.now c.args.i) e c.requires.variables)

pub returns : goal.returns
returns c =
    let end : c.loop-v.v ≡ size c.args.dict.now = omega arith in
    let e : c.as_slice.result.now ≡ table (size c.args.dict.now) (row_multiplier c.args.dict.now c.args.i) = c.as_slice.ensures.value ∙ c.loop-v.invariant.so_far ∙ ap (λ n. table n (row_multiplier c.args.dict.now c.args.i)) end in
    subst (λ (k : def.Certificate). IfOk c.combination.result (IsCombo k)) (same_certificate c.as_slice.result.now c.args.columns c.args.rows (size c.args.dict.now) (row_multiplier c.args.dict.now c.args.i) e c.requires.variables) c.combination.ensures

pub loop-v-init : goal.loop-v-init
loop-v-init c = record {
  so_far = c.in_ok-multipliers.ensures.items ∙ table_none _;
  place = place_zero (kept_of (size c.args.dict.now) (entry c.args.dict.now c.args.i));
}

pub loop-v-preserved : goal.loop-v-preserved
loop-v-preserved c =
    let both : (c.if-at-row_len.entry ≡ entry c.args.dict.now c.args.i c.loop-v.v) × IsPlace (c.loop-v.v + 1) (kept_of (size c.args.dict.now) (entry c.args.dict.now c.args.i)) c.if-at-row_len.at =
    elim c.if-at-row_len.branch [
      | then-at-row_len+then-k-v w ↦ (
        w.entry-is ∙ on_entry (size c.args.dict.now) (entry c.args.dict.now c.args.i) c.loop-v.v c.loop-v.at (omega (arith, c.loop-v-test.true, c.len-v-end.ensures.variables)) c.loop-v.invariant.place w.row_entry-k.result (omega (arith, w.if-at-row_len.true, c.row_len.ensures)) w.row_entry-k.ensures w.if-k-v.true,
        subst (IsPlace (c.loop-v.v + 1) (kept_of (size c.args.dict.now) (entry c.args.dict.now c.args.i))) (sym w.at-is) (past_entry (size c.args.dict.now) (entry c.args.dict.now c.args.i) c.loop-v.v c.loop-v.at (omega (arith, c.loop-v-test.true, c.len-v-end.ensures.variables)) c.loop-v.invariant.place w.row_entry-k.result (omega (arith, w.if-at-row_len.true, c.row_len.ensures)) w.row_entry-k.ensures w.if-k-v.true),
      )
      | then-at-row_len+else-k-v w ↦ (
        w.entry-is ∙ c.zero-entry.ensures ∙ on_none (size c.args.dict.now) (entry c.args.dict.now c.args.i) c.loop-v.v c.loop-v.at (omega (arith, c.loop-v-test.true, c.len-v-end.ensures.variables)) c.loop-v.invariant.place (λ x l s. w.if-k-v.false (ap (λ (p : Kept). p.0) (w.row_entry-k.ensures x) ∙ s)),
        subst (IsPlace (c.loop-v.v + 1) (kept_of (size c.args.dict.now) (entry c.args.dict.now c.args.i))) (sym w.at-is) (past_none (size c.args.dict.now) (entry c.args.dict.now c.args.i) c.loop-v.v c.loop-v.at (omega (arith, c.loop-v-test.true, c.len-v-end.ensures.variables)) c.loop-v.invariant.place (λ x l s. w.if-k-v.false (ap (λ (p : Kept). p.0) (w.row_entry-k.ensures x) ∙ s))),
      )
      | else-at-row_len w ↦ (
        w.entry-is ∙ c.zero-entry.ensures ∙ on_none (size c.args.dict.now) (entry c.args.dict.now c.args.i) c.loop-v.v c.loop-v.at (omega (arith, c.loop-v-test.true, c.len-v-end.ensures.variables)) c.loop-v.invariant.place (λ x l. absurd (omega (arith, l, w.if-at-row_len.false, c.row_len.ensures))),
        subst (IsPlace (c.loop-v.v + 1) (kept_of (size c.args.dict.now) (entry c.args.dict.now c.args.i))) (sym w.at-is) (past_none (size c.args.dict.now) (entry c.args.dict.now c.args.i) c.loop-v.v c.loop-v.at (omega (arith, c.loop-v-test.true, c.len-v-end.ensures.variables)) c.loop-v.invariant.place (λ x l. absurd (omega (arith, l, w.if-at-row_len.false, c.row_len.ensures)))),
      )
    ] in
    let here : c.if-v-i.multiplier ≡ row_multiplier c.args.dict.now c.args.i c.loop-v.v =
    elim c.if-v-i.branch [
      | then-v-i w ↦ rw (eq-eqb c.loop-v.v c.args.i w.if-v-i.true) (w.multiplier-is ∙ w.change_along-multiplier.ensures ∙ ap₂ along (w.back_of.ensures ∙ ap back_of c.outside_heading-heading.ensures) w.one.ensures)
      | else-v-i w ↦ rw (ne_eqb c.loop-v.v c.args.i w.if-v-i.false) (w.multiplier-is ∙ w.change_along-multiplier-else-v-i.ensures ∙ ap₂ along c.outside_heading-heading.ensures both.0)
    ] in
    record {
      so_far = c.in_ok-push.ensures.items ∙ ap₂ (λ xs x. xs ++ x ∷ []) c.loop-v.invariant.so_far here ∙ sym (table_more c.loop-v.v _);
      place = both.1;
    }

pub row_entry-k-requires-clause-there : goal.row_entry-k-requires-clause-there
row_entry-k-requires-clause-there c = grind (arith, common_steps)

pub row_entry-k-requires-clause-within : goal.row_entry-k-requires-clause-within
row_entry-k-requires-clause-within c = grind (arith, common_steps)

pub overflow_add-at : goal.overflow_add-at
overflow_add-at c = grind (arith, common_steps)

pub row_len-requires-clause-within : goal.row_len-requires-clause-within
row_len-requires-clause-within c = grind (arith, common_steps)

pub row_entry-k-requires-clause-basic : goal.row_entry-k-requires-clause-basic
row_entry-k-requires-clause-basic c = grind (arith, common_steps)

pub overflow_cast-v-in-loop-v : goal.overflow_cast-v-in-loop-v
overflow_cast-v-in-loop-v c = grind (arith, common_steps)

pub row_len-requires-clause-basic : goal.row_len-requires-clause-basic
row_len-requires-clause-basic c = grind (arith, common_steps)

pub outside_heading-heading-requires : goal.outside_heading-heading-requires
outside_heading-heading-requires c = grind (arith, common_steps)

pub returns-in_err-push : goal.returns-in_err-push
returns-in_err-push c = IfOk-from_err c.from_residual-in_err-push.result _ c.from_residual-in_err-push.ensures.0
