use Rattle.std.proofs.lemmas.Grind.{common_steps}
use Rattle.std.proofs.Common.{◌≡◌, ◌∙◌, ◌+◌, ◌<◌, sym, ap, subst, length, arith, length-set, set}
use Rattle.cip_dict.specs.Entries.{Entry}
use Rattle.cip_dict.specs.Row.{row_in}
use Rattle.cip_dict.proofs.RowLists.{row_read}
use Rattle.cip_dict.proofs.Puts.{put_more, put_rest, put_long}
use Rattle.cip_dict.proofs.first.put_entries.Goals as goal

pub loop-entry-preserved : goal.loop-entry-preserved
loop-entry-preserved c =
    let e : Entry = c.entry-item.result in
    let within : (e.0 < c.args.m) × (e.1 < c.args.columns) = subst (λ (t : Entry). (t.0 < c.args.m) × (t.1 < c.args.columns)) (sym c.entry-item.is) (c.requires.within c.loop-entry.entry-index e c.loop-entry-test.true) in
    let row_there : c.args.columns + e.0 < length c.loop-entry.rows = omega (arith, within.0, c.requires.count, c.loop-entry.invariant.count) in
    let same_long = c.loop-entry.invariant.long (c.args.columns + e.0) in
    let at_least = c.requires.long (c.args.columns + e.0) (omega arith) (omega (arith, within.0, c.requires.count)) in
    let column_there : e.1 < length (row_in c.loop-entry.rows (c.args.columns + e.0)) = omega (arith, within.1, same_long, at_least) in
    let row = sym c.index-rows-columns.is ∙ row_read c.loop-entry.rows (c.args.columns + e.0) c.index-rows-columns.result row_there c.index-rows-columns.is in
    let new = set c.loop-entry.rows (c.args.columns + e.0) c.set.new.self in
    let is : new ≡ set c.loop-entry.rows (c.args.columns + e.0) (set (row_in c.loop-entry.rows (c.args.columns + e.0)) e.1 e.2) = ap (λ r. set c.loop-entry.rows (c.args.columns + e.0) r) (c.in_ok-set.ensures ∙ ap (λ r. set r e.1 e.2) row) in
    record {
      put = λ v k lv l. put_more c.args.columns e c.loop-entry.rows row_there column_there c.args.entries.now c.loop-entry.entry-index new c.loop-entry-test.true c.entry-item.is is v k lv ∙ c.loop-entry.invariant.put v k lv l;
      rest = λ v l. put_rest c.args.columns e c.loop-entry.rows row_there column_there new is v l ∙ c.loop-entry.invariant.rest v l;
      count = ap length is ∙ length-set c.loop-entry.rows (c.args.columns + e.0) (set (row_in c.loop-entry.rows (c.args.columns + e.0)) e.1 e.2) ∙ c.loop-entry.invariant.count;
      long = λ v. put_long c.args.columns e c.loop-entry.rows row_there column_there new is v ∙ c.loop-entry.invariant.long v;
    }

pub set-requires : goal.set-requires
set-requires c =
    let e : Entry = c.entry-item.result in
    let within : (e.0 < c.args.m) × (e.1 < c.args.columns) = subst (λ (t : Entry). (t.0 < c.args.m) × (t.1 < c.args.columns)) (sym c.entry-item.is) (c.requires.within c.loop-entry.entry-index e c.loop-entry-test.true) in
    let row_there : c.args.columns + e.0 < length c.loop-entry.rows = omega (arith, within.0, c.requires.count, c.loop-entry.invariant.count) in
    let same_long = c.loop-entry.invariant.long (c.args.columns + e.0) in
    let at_least = c.requires.long (c.args.columns + e.0) (omega arith) (omega (arith, within.0, c.requires.count)) in
    rw (sym c.index-rows-columns.is ∙ row_read c.loop-entry.rows (c.args.columns + e.0) c.index-rows-columns.result row_there c.index-rows-columns.is) (omega (arith, within.1, same_long, at_least))

pub returns-in_err-set-clause-count : goal.returns-in_err-set-clause-count
returns-in_err-set-clause-count c = grind (arith, common_steps)

pub returns-clause-put : goal.returns-clause-put
returns-clause-put c = grind (arith, common_steps)

pub returns-clause-long : goal.returns-clause-long
returns-clause-long c = grind (arith, common_steps)

pub offset_bounds-rows-columns : goal.offset_bounds-rows-columns
offset_bounds-rows-columns c = grind (arith, common_steps)

pub returns-clause-rest : goal.returns-clause-rest
returns-clause-rest c = grind (arith, common_steps)

pub overflow_add-row : goal.overflow_add-row
overflow_add-row c = grind (arith, common_steps)

pub returns-clause-count : goal.returns-clause-count
returns-clause-count c = grind (arith, common_steps)

pub loop-entry-init : goal.loop-entry-init
loop-entry-init c = grind (arith, common_steps)

pub offset_bounds-entries-entry-index : goal.offset_bounds-entries-entry-index
offset_bounds-entries-entry-index c = grind (arith, common_steps)
