-- What `Blocks` is to its callers.
use Rattle.std.specs.Prelude.{◌≡◌, length}
use Rattle.cip_problem.specs.BlockParts as shapes
use Rattle.cip_problem.specs.BlockParts.{parts_of}
use Rattle.cip_model.specs.NumberLists.{lists_of}
use Rattle.cip_model.specs.declared.blocks.Blocks.TheInside.{Inside}

abbrev pub blocks_shown : Inside → shapes.Blocks
blocks_shown b = record {
  blocks = parts_of (lists_of b.by_rows.groups.items) (lists_of b.by_columns.groups.items);
  master_rows = b.by_rows.rest.items;
  free_columns = b.by_columns.rest.items;
}

-- there are as many blocks by rows as by columns
abbrev pub AreAsMany : Inside → Type 0
AreAsMany b = length b.by_rows.groups.items ≡ length b.by_columns.groups.items
