use Rattle.std.proofs.lemmas.Grind.{common_steps}
use Rattle.std.proofs.Common.{arith, ◌∙◌, sym}
use Rattle.cip_model.specs.Grouped.{IsGrouped}
use Rattle.cip_model.proofs.GroupLaws.{many}
use Rattle.cip_model.proofs.blocks.Blocks.new.Goals as goal

pub invariant_of-result : goal.invariant_of-result
invariant_of-result c =
    let rows : IsGrouped c.args.count c.args.row_blocks.now c.in_ok-by_rows.by_rows = c.in_ok-by_rows.ensures in
    let columns : IsGrouped c.args.count c.args.column_blocks.now c.in_ok-by_columns.by_columns =
    c.in_ok-by_columns.ensures in
    many c.args.count c.in_ok-by_rows.by_rows.groups.items c.args.row_blocks.now rows.groups
    ∙ sym (many c.args.count c.in_ok-by_columns.by_columns.groups.items c.args.column_blocks.now columns.groups)

pub of-requires-2-clause-below : goal.of-requires-2-clause-below
of-requires-2-clause-below c = grind (arith, common_steps)

pub returns : goal.returns
returns c = grind (arith, common_steps)

pub of-requires-2-clause-few : goal.of-requires-2-clause-few
of-requires-2-clause-few c = grind (arith, common_steps)

pub of-requires-clause-below : goal.of-requires-clause-below
of-requires-clause-below c = grind (arith, common_steps)

pub of-requires-clause-few : goal.of-requires-clause-few
of-requires-clause-few c = grind (arith, common_steps)
