use Rattle.std.proofs.lemmas.Grind.{common_steps}
use Rattle.std.proofs.Common.{◌≡◌, [], List, length, Some, slice_get, refl, sym, ap, ◌∙◌, subst, arith}
use Rattle.std.proofs.lemmas.Option.{slice_get_read}
use Rattle.cip_problem.specs.Program.{Row}
use Rattle.cip_problem.specs.Log.{Node}
use Rattle.cip_cert.specs.Lent.{Fits}
use Rattle.cip_lagrange.specs.TreeMeaning.{own_rows}
use Rattle.cip_price.specs.PriceTasks.{task_at}
use Rattle.cip_price.specs.BlockAsks.{block_node, bound_if_ok}
use Rattle.cip_price.proofs.Checked.{part_fits, part_few, flags_long, outcome_is}
use Rattle.cip_price.proofs.asks.BlockAsk.bound_of.Goals as goal

pub tree_bound-requires-clause-fits : goal.tree_bound-requires-clause-fits
tree_bound-requires-clause-fits c =
    let task = task_at c.args.task.now [] in
    let parts = c.args.task.now.blocks.now.subproblems.items in
    let block = c.args.self.now.block in
    let part = c.index-part.result.now in
    let part_is : slice_get parts block ≡ Some part =
    slice_get_read parts (length parts) block part refl c.requires.ask.is_block c.index-part.ensures in
    subst (λ (rows : List Row). Fits (length c.args.self.now.region.bounds) (own_rows rows)) (sym c.as_slice.ensures.value)
    (part_fits task c.columns-columns.ensures.formed c.requires.task block part part_is
    (length c.args.self.now.region.bounds) (ap (λ (d : Node). length d.box) c.requires.ask.region))

pub tree_bound-requires-clause-room : goal.tree_bound-requires-clause-room
tree_bound-requires-clause-room c =
    let task = task_at c.args.task.now [] in
    let parts = c.args.task.now.blocks.now.subproblems.items in
    let block = c.args.self.now.block in
    let part = c.index-part.result.now in
    let part_is : slice_get parts block ≡ Some part =
    slice_get_read parts (length parts) block part refl c.requires.ask.is_block c.index-part.ensures in
    let same : length c.args.self.now.region.bounds ≡ length (block_node task block).box =
    ap (λ (d : Node). length d.box) c.requires.ask.region in
    omega (
      arith,
      same,
      part_few task c.columns-columns.ensures.formed c.requires.task block part part_is,
      c.requires.room,
    )

pub tree_bound-requires-clause-flags : goal.tree_bound-requires-clause-flags
tree_bound-requires-clause-flags c =
    let task = task_at c.args.task.now [] in
    let parts = c.args.task.now.blocks.now.subproblems.items in
    let block = c.args.self.now.block in
    let part = c.index-part.result.now in
    let part_is : slice_get parts block ≡ Some part =
    slice_get_read parts (length parts) block part refl c.requires.ask.is_block c.index-part.ensures in
    ap length c.as_slice-2.ensures.value
    ∙ flags_long task c.columns-columns.ensures.formed c.requires.task block part part_is
    ∙ sym (ap (λ (d : Node). length d.box) c.requires.ask.region)

pub returns-in-Ok-clause-bound : goal.returns-in-Ok-clause-bound
returns-in-Ok-clause-bound c =
    let task = task_at c.args.task.now [] in
    let parts = c.args.task.now.blocks.now.subproblems.items in
    let block = c.args.self.now.block in
    let part = c.index-part.result.now in
    let part_is : slice_get parts block ≡ Some part =
    slice_get_read parts (length parts) block part refl c.requires.ask.is_block c.index-part.ensures in
    ap bound_if_ok c.in-Ok.ensures.steps
    ∙ outcome_is task c.columns-columns.ensures.formed c.requires.task block part part_is c.as_slice.result.now
    c.as_slice-2.result.now c.as_slice-costs.result.now c.args.self.now.costs.items c.args.tree.now _ _
    c.as_slice.ensures.value c.as_slice-2.ensures.value c.as_slice-costs.ensures.value c.requires.ask.region
    c.requires.room

pub returns-in-Err-clause-bound : goal.returns-in-Err-clause-bound
returns-in-Err-clause-bound c =
    let task = task_at c.args.task.now [] in
    let parts = c.args.task.now.blocks.now.subproblems.items in
    let block = c.args.self.now.block in
    let part = c.index-part.result.now in
    let part_is : slice_get parts block ≡ Some part =
    slice_get_read parts (length parts) block part refl c.requires.ask.is_block c.index-part.ensures in
    ap bound_if_ok c.in-Err.ensures.steps
    ∙ outcome_is task c.columns-columns.ensures.formed c.requires.task block part part_is c.as_slice.result.now
    c.as_slice-2.result.now c.as_slice-costs.result.now c.args.self.now.costs.items c.args.tree.now _ _
    c.as_slice.ensures.value c.as_slice-2.ensures.value c.as_slice-costs.ensures.value c.requires.ask.region
    c.requires.room

pub tree_bound-requires-clause-costs : goal.tree_bound-requires-clause-costs
tree_bound-requires-clause-costs c = grind (arith, common_steps)

pub returns-in-Ok-clause-room : goal.returns-in-Ok-clause-room
returns-in-Ok-clause-room c = grind (arith, common_steps)

pub returns-in-Err-clause-room : goal.returns-in-Err-clause-room
returns-in-Err-clause-room c = grind (arith, common_steps)

pub index-part-requires : goal.index-part-requires
index-part-requires c = grind (arith, common_steps)
