use Rattle.std.proofs.lemmas.Grind.{common_steps}
use Rattle.std.proofs.Common.{ap, sym, ◌∙◌, arith}
use Rattle.std.specs.Prelude.{unwrap_or}
use Rattle.std.specs.List.{list_all}
use Rattle.cip_blocks.specs.WordPlaces.{block_of, is_below}
use Rattle.cip_blocks.proofs.WordLaws.{below_none}
use Rattle.cip_blocks.proofs.block_words.BlockWords.take_count.Goals as goal

pub invariant_of-self-clause-below : goal.invariant_of-self-clause-below
invariant_of-self-clause-below c =
    let rows = c.args.self.now.rows.items in
    below_none c.in-Some.count rows (ap (λ count. list_all (λ row. is_below (unwrap_or count 0) (block_of row)) rows) (sym c.requires) ∙ c.args.self.now.below)

pub invariant_of-self-clause-begun_sized : goal.invariant_of-self-clause-begun_sized
invariant_of-self-clause-begun_sized c = grind (arith, common_steps)

pub returns-in_ok-resize-in-Some-clause-taken : goal.returns-in_ok-resize-in-Some-clause-taken
returns-in_ok-resize-in-Some-clause-taken c = grind (arith, common_steps)

pub invariant_of-self-clause-few : goal.invariant_of-self-clause-few
invariant_of-self-clause-few c = grind (arith, common_steps)

pub returns-in_default-clause-taken : goal.returns-in_default-clause-taken
returns-in_default-clause-taken c = grind (arith, common_steps)

pub invariant_of-self-clause-rows_sized : goal.invariant_of-self-clause-rows_sized
invariant_of-self-clause-rows_sized c = grind (arith, common_steps)

pub returns-in_ok-resize-in-Some-clause-same : goal.returns-in_ok-resize-in-Some-clause-same
returns-in_ok-resize-in-Some-clause-same c = grind (arith, common_steps)

pub returns-in_default-2-clause-taken : goal.returns-in_default-2-clause-taken
returns-in_default-2-clause-taken c = grind (arith, common_steps)

pub returns-in_ok-resize-in-Some-clause-kinds : goal.returns-in_ok-resize-in-Some-clause-kinds
returns-in_ok-resize-in-Some-clause-kinds c = grind (arith, common_steps)

pub returns-in_err-resize-in-Some-clause-same : goal.returns-in_err-resize-in-Some-clause-same
returns-in_err-resize-in-Some-clause-same c = grind (arith, common_steps)

pub overflow_cast-count : goal.overflow_cast-count
overflow_cast-count c = grind (arith, common_steps)

pub returns-in_default-2-clause-kinds : goal.returns-in_default-2-clause-kinds
returns-in_default-2-clause-kinds c = grind (arith, common_steps)

pub returns-in_default-clause-kinds : goal.returns-in_default-clause-kinds
returns-in_default-clause-kinds c = grind (arith, common_steps)

pub returns-in_default-clause-same : goal.returns-in_default-clause-same
returns-in_default-clause-same c = grind (arith, common_steps)

pub returns-in_default-2-clause-same : goal.returns-in_default-2-clause-same
returns-in_default-2-clause-same c = grind (arith, common_steps)
