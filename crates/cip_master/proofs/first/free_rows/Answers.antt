use Rattle.std.proofs.Common.{◌<◌, ℕ, List, length, get_or, ap, ap₂, ◌∙◌, subst}
use Rattle.cip_master.specs.BlockSums.{free_row}
use Rattle.cip_master.proofs.Numbers.{row_of, rows_inside, row_read}
use Rattle.cip_master.proofs.FreeTerms.{rows_next}
use Rattle.cip_master.proofs.first.free_rows.Goals as goal

pub bounds-rows-number : goal.bounds-rows-number
bounds-rows-number c =
    rows_inside c.args.program.now c.args.blocks.now c.requires c.master_rows-number-items.result.now
    c.rows-rows.result.now c.master_rows-number-items.ensures c.rows-rows.ensures.rows c.loop-number.number-index 0
    c.loop-number-test.true

pub free_row-requires-clause-stands : goal.free_row-requires-clause-stands
free_row-requires-clause-stands c =
    let number : ℕ = get_or c.master_rows-number-items.result.now c.loop-number.number-index 0 in
    let inside : number < length c.rows-rows.result.now =
    rows_inside c.args.program.now c.args.blocks.now c.requires c.master_rows-number-items.result.now
    c.rows-rows.result.now c.master_rows-number-items.ensures c.rows-rows.ensures.rows c.loop-number.number-index 0
    c.loop-number-test.true in
    let read = row_read c.args.program.now (length c.as_slice-owners.result.now) c.rows-rows.result.now
    c.index-rows-number.result number c.rows-rows.ensures.formed
    (ap length c.as_slice-owners.ensures.value ∙ c.requires.decomposed.each_column) c.rows-rows.ensures.rows inside
    c.index-rows-number.is in
    read.1

pub loop-number-preserved : goal.loop-number-preserved
loop-number-preserved c =
    let number : ℕ = get_or c.master_rows-number-items.result.now c.loop-number.number-index 0 in
    let inside : number < length c.rows-rows.result.now =
    rows_inside c.args.program.now c.args.blocks.now c.requires c.master_rows-number-items.result.now
    c.rows-rows.result.now c.master_rows-number-items.ensures c.rows-rows.ensures.rows c.loop-number.number-index 0
    c.loop-number-test.true in
    let read = row_read c.args.program.now (length c.as_slice-owners.result.now) c.rows-rows.result.now
    c.index-rows-number.result number c.rows-rows.ensures.formed
    (ap length c.as_slice-owners.ensures.value ∙ c.requires.decomposed.each_column) c.rows-rows.ensures.rows inside
    c.index-rows-number.is in
    let within : c.loop-number.number-index < length c.args.blocks.now.blocks.master_rows =
    subst (λ (ns : List ℕ). c.loop-number.number-index < length ns) c.master_rows-number-items.ensures
    c.loop-number-test.true in
    rows_next c.args.blocks.now.column_owners.items c.args.blocks.now.places.items c.args.program.now.rows
    c.args.blocks.now.blocks.master_rows c.loop-number.number-index c.loop-number.owns.items c.push.new.self.items
    c.in_ok-free_row.field-0 c.index-rows-number.result within c.loop-number.invariant c.in_ok-push.ensures.items
    (c.in_ok-free_row.ensures
    ∙ ap₂ (λ os ps. free_row os ps c.index-rows-number.result) c.as_slice-owners.ensures.value
    c.as_slice-places.ensures.value)
    (read.0 ∙ ap (λ (ns : List ℕ). row_of c.args.program.now.rows (get_or ns c.loop-number.number-index 0))
    c.master_rows-number-items.ensures)
