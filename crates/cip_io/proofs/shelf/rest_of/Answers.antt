use Rattle.std.proofs.Common.{◌≤◌, length, arith, rules}
use Rattle.std.proofs.lemmas.Grind.{common_steps}
use Rattle.cip_io.proofs.FilesLemmas.{text_at_read, text_at-past}
use Rattle.cip_io.proofs.shelf.rest_of.Goals as goal

pub slice_bounds-result-count : goal.slice_bounds-result-count
slice_bounds-result-count c =
    let read = text_at_read c.args.files.now c.args.chosen c.index-files-chosen.result c.deref.result.now c.if-chosen-files.true c.deref.ensures.value in
    rw read c.requires

pub slice_bounds-result-start : goal.slice_bounds-result-start
slice_bounds-result-start c =
    let read = text_at_read c.args.files.now c.args.chosen c.index-files-chosen.result c.deref.result.now c.if-chosen-files.true c.deref.ensures.value in
    let within : c.args.at ≤ length c.deref.result.now = rw read c.requires in
    search rules

pub returns-then-chosen-files-clause-value : goal.returns-then-chosen-files-clause-value
returns-then-chosen-files-clause-value c =
    let read = text_at_read c.args.files.now c.args.chosen c.index-files-chosen.result c.deref.result.now c.if-chosen-files.true c.deref.ensures.value in
    grind (arith, common_steps, read)

pub returns-else-chosen-files-clause-value : goal.returns-else-chosen-files-clause-value
returns-else-chosen-files-clause-value c =
    let none = text_at-past c.args.files.now c.args.chosen c.if-chosen-files.false in
    grind (arith, common_steps, none)

pub returns-then-chosen-files-clause-fits : goal.returns-then-chosen-files-clause-fits
returns-then-chosen-files-clause-fits c = grind (arith, common_steps)

pub bounds-files-chosen : goal.bounds-files-chosen
bounds-files-chosen c = grind (arith, common_steps)

pub returns-else-chosen-files-clause-fits : goal.returns-else-chosen-files-clause-fits
returns-else-chosen-files-clause-fits c = grind (arith, common_steps)

pub offset_bounds-files-chosen : goal.offset_bounds-files-chosen
offset_bounds-files-chosen c = grind (arith, common_steps)
