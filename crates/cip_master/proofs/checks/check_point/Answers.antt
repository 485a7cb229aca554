use Rattle.std.proofs.Common.{◌≡◌, length, Some, slice_get, refl, sym, ◌∙◌, subst, arith}
use Rattle.std.specs.Prelude.{All}
use Rattle.std.proofs.lemmas.Option.{slice_get_read}
use Rattle.cip_problem.specs.Activity.{StandsBelow}
use Rattle.cip_problem.specs.WellFormed.{columns}
use Rattle.cip_lagrange.proofs.Ready.{are_ready, block_sides}
use Rattle.cip_master.proofs.Parts.{few_columns, few_rows, verdict_is, block_says}
use Rattle.cip_master.proofs.checks.check_point.Goals as goal

pub check_part-requires-clause-few : goal.check_part-requires-clause-few
check_part-requires-clause-few c =
    let parts = c.args.blocks.now.subproblems.items in
    few_columns c.args.program.now c.args.blocks.now c.args.block c.index-part.result.now
    c.columns-columns.ensures.formed c.requires.made
    (slice_get_read parts (length parts) c.args.block c.index-part.result.now refl c.requires.block c.index-part.ensures)

pub check_part-requires-clause-few_rows : goal.check_part-requires-clause-few_rows
check_part-requires-clause-few_rows c =
    let parts = c.args.blocks.now.subproblems.items in
    few_rows c.args.program.now c.args.blocks.now c.args.block c.index-part.result.now
    c.columns-columns.ensures.formed c.requires.made
    (slice_get_read parts (length parts) c.args.block c.index-part.result.now refl c.requires.block c.index-part.ensures)

pub check_part-requires-clause-flags : goal.check_part-requires-clause-flags
check_part-requires-clause-flags c =
    let parts = c.args.blocks.now.subproblems.items in
    sym (block_sides c.args.program.now c.args.blocks.now c.columns-columns.ensures.formed c.requires.made c.args.block
    c.index-part.result.now
    (slice_get_read parts (length parts) c.args.block c.index-part.result.now refl c.requires.block
    c.index-part.ensures))

pub check_part-requires-clause-stand : goal.check_part-requires-clause-stand
check_part-requires-clause-stand c =
    let parts = c.args.blocks.now.subproblems.items in
    let part = c.index-part.result.now in
    let part_is : slice_get parts c.args.block ≡ Some part =
    slice_get_read parts (length parts) c.args.block part refl c.requires.block c.index-part.ensures in
    let ready = are_ready c.args.program.now c.args.blocks.now c.columns-columns.ensures.formed c.requires.made
    (columns c.args.program.now) (omega arith) in
    subst (λ n. All (λ row. StandsBelow n row.terms) part.rows.items)
    (sym (block_sides c.args.program.now c.args.blocks.now c.columns-columns.ensures.formed c.requires.made c.args.block
    part part_is))
    (ready.each c.args.block part part_is).can.rows

pub returns-clause-verdict : goal.returns-clause-verdict
returns-clause-verdict c =
    let parts = c.args.blocks.now.subproblems.items in
    c.check_part.ensures
    ∙ verdict_is c.args.program.now c.args.blocks.now c.args.block c.index-part.result.now c.args.point.now
    c.requires.made
    (slice_get_read parts (length parts) c.args.block c.index-part.result.now refl c.requires.block c.index-part.ensures)

pub returns-clause-says : goal.returns-clause-says
returns-clause-says c =
    let parts = c.args.blocks.now.subproblems.items in
    block_says c.args.program.now c.args.blocks.now c.args.block c.args.point.now c.check_part.result
    c.columns-columns.ensures.formed
    (c.check_part.ensures
    ∙ verdict_is c.args.program.now c.args.blocks.now c.args.block c.index-part.result.now c.args.point.now
    c.requires.made
    (slice_get_read parts (length parts) c.args.block c.index-part.result.now refl c.requires.block
    c.index-part.ensures))
