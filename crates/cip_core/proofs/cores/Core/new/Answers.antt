use Rattle.std.proofs.lemmas.Grind.{common_steps}
use Rattle.std.proofs.Common.{◌∙◌, ap, arith}
use Rattle.std.specs.Prelude.{replicate}
use Rattle.cip_rational.specs.Rational.{zeroℚ}
use Rattle.cip_core.proofs.Made.{no_rows, plain_row, made_sound, made_begun, made_fitted}
use Rattle.cip_core.proofs.cores.Core.new.Goals as goal

pub invariant_of-result : goal.invariant_of-result
invariant_of-result c = (
  made_sound c.args.program.now c.args.presolved.now c.in-Ok-rooted_tree.tree c.new-3.result c.in_ok-incumbent.incumbent
      (c.new-3.ensures ∙ ap no_rows c.columns-columns.ensures.count) c.in_ok-incumbent.ensures c.requires.back,
  made_fitted c.args.program.now c.args.presolved.now.reduced c.in_ok-incumbent.incumbent c.in-Ok.cutoff c.are_costs_whole.result c.in-Ok-new.scratch.row.entries
      c.in_ok-incumbent.ensures (c.in-Ok.ensures ∙ ap plain_row c.costs.ensures.costs) c.are_costs_whole.ensures
      (c.in-Ok-new.ensures.row ∙ ap (λ n. replicate n zeroℚ) c.columns-columns.ensures.count),
)

pub returns : goal.returns
returns c =
    made_begun c.args.program.now c.args.presolved.now c.in-Ok-rooted_tree.tree c.new-3.result c.in_ok-incumbent.incumbent
    (c.new-3.ensures ∙ ap no_rows c.columns-columns.ensures.count) c.in_ok-incumbent.ensures
    c.in-Ok-rooted_tree.ensures.root c.in-Ok-rooted_tree.ensures.new c.in-Ok-rooted_tree.ensures.kept c.in-Ok-rooted_tree.ensures.boxes

pub open_cutoff-requires : goal.open_cutoff-requires
open_cutoff-requires c = grind (arith, common_steps)

pub rooted_tree-requires-clause-back : goal.rooted_tree-requires-clause-back
rooted_tree-requires-clause-back c = grind (arith, common_steps)

pub rooted_tree-requires-clause-near : goal.rooted_tree-requires-clause-near
rooted_tree-requires-clause-near c = grind (arith, common_steps)

pub new-requires-2 : goal.new-requires-2
new-requires-2 c = grind (arith, common_steps)

pub returns-in_default-rooted_tree : goal.returns-in_default-rooted_tree
returns-in_default-rooted_tree c = grind (arith, common_steps)

pub returns-in_default-new : goal.returns-in_default-new
returns-in_default-new c = grind (arith, common_steps)
