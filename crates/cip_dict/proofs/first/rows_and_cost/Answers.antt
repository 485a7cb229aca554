use Rattle.std.proofs.lemmas.Grind.{common_steps}
use Rattle.std.proofs.Common.{◌≡◌, ◌<◌, ◌+◌, ◌∙◌, length, arith, ◌++◌, ◌∷◌, [], refl, sym, ap, ap₂, append_assoc, append-nil}
use Rattle.cip_bland.specs.Tables.{table}
use Rattle.cip_bland.proofs.Overflow.{first_more, first_at, overflow-append, overflow-found}
use Rattle.cip_dict.specs.FirstLists.{row_form}
use Rattle.cip_dict.proofs.RowLists.{row_read}
use Rattle.cip_dict.proofs.Grown.{table_none, table_more}
use Rattle.cip_dict.proofs.first.rows_and_cost.Goals as goal

pub loop-r-init : goal.loop-r-init
loop-r-init c = record { fits = refl; so_far = sym (append-nil c.args.values.now.items) ∙ ap (λ xs. c.args.values.now.items ++ xs) (table_none _) }

pub returns-in-Err : goal.returns-in-Err
returns-in-Err c =
    let there : c.args.columns + c.loop-r.r < length c.args.rows.now = omega (arith, c.requires.count, c.loop-r-test.true) in
    let row = row_read c.args.rows.now (c.args.columns + c.loop-r.r) c.index-rows-columns.result there c.index-rows-columns.is in
    overflow-found _ _ c.in-Err.fault.place (first_at c.args.m c.loop-r.r _ c.in-Err.fault.place c.loop-r-test.true c.loop-r.invariant.fits (rw row at c.in-Err.ensures))

pub loop-r-preserved : goal.loop-r-preserved
loop-r-preserved c =
    let there : c.args.columns + c.loop-r.r < length c.args.rows.now = omega (arith, c.requires.count, c.loop-r-test.true) in
    let row = row_read c.args.rows.now (c.args.columns + c.loop-r.r) c.index-rows-columns.result there c.index-rows-columns.is in
    let here = rw row at c.in-Ok.ensures in
    record {
      fits = first_more c.loop-r.r _ c.loop-r.invariant.fits here.0;
      so_far =
          c.in-Ok-push.ensures.items ∙ ap₂ (λ xs x. xs ++ x ∷ []) c.loop-r.invariant.so_far here.1
          ∙ append_assoc c.args.values.now.items (table c.loop-r.r (row_form c.args.columns c.args.rows.now c.args.at.now)) (row_form c.args.columns c.args.rows.now c.args.at.now c.loop-r.r ∷ [])
          ∙ ap (λ xs. c.args.values.now.items ++ xs) (sym (table_more c.loop-r.r (row_form c.args.columns c.args.rows.now c.args.at.now)));
    }

pub returns-in-Ok-value : goal.returns-in-Ok-value
returns-in-Ok-value c =
    let end : c.loop-r.r ≡ c.args.m = omega arith in
    let fits = rw end at c.loop-r.invariant.fits in
    let so_far = rw end at c.loop-r.invariant.so_far in
    (overflow-append _ _ fits ∙ c.in-Ok-value.ensures.0, so_far, c.in-Ok-value.ensures.1)

pub returns-in-Err-value : goal.returns-in-Err-value
returns-in-Err-value c =
    let end : c.loop-r.r ≡ c.args.m = omega arith in
    let fits = rw end at c.loop-r.invariant.fits in
    overflow-append _ _ fits ∙ c.in-Err-value.ensures

pub value-requires-clause-values_long : goal.value-requires-clause-values_long
value-requires-clause-values_long c = grind (arith, common_steps)

pub value-requires-clause-few : goal.value-requires-clause-few
value-requires-clause-few c = grind (arith, common_steps)

pub bounds-rows-columns : goal.bounds-rows-columns
bounds-rows-columns c = grind (arith, common_steps)

pub offset_bounds-rows-columns : goal.offset_bounds-rows-columns
offset_bounds-rows-columns c = grind (arith, common_steps)

pub overflow_add-columns : goal.overflow_add-columns
overflow_add-columns c = grind (arith, common_steps)

pub overflow_cast-line : goal.overflow_cast-line
overflow_cast-line c = grind (arith, common_steps)

pub value-requires-2-clause-few : goal.value-requires-2-clause-few
value-requires-2-clause-few c = grind (arith, common_steps)

pub overflow_add-line : goal.overflow_add-line
overflow_add-line c = grind (arith, common_steps)

pub value-requires-2-clause-values_long : goal.value-requires-2-clause-values_long
value-requires-2-clause-values_long c = grind (arith, common_steps)

pub value-requires-2-clause-row_long : goal.value-requires-2-clause-row_long
value-requires-2-clause-row_long c = grind (arith, common_steps)

pub returns-in-Err-push : goal.returns-in-Err-push
returns-in-Err-push c = grind (arith, common_steps)
