use Rattle.std.proofs.Common.{◌<◌, ◌++◌, ◌∷◌, [], ℕ, List, length, Some, Ok, sym, ap, ap₂, ◌∙◌, subst, arith}
use Rattle.std.specs.Prelude.{All, slice_index_or, slice_set}
use Rattle.cip_rational.specs.Rational.{ℚ, zeroℚ, oneℚ}
use Rattle.cip_rational.specs.Sums.{dot}
use Rattle.cip_frac.specs.Outcomes.{dot_from}
use Rattle.cip_problem.specs.Program.{Sides, Row, no_row}
use Rattle.cip_pricing.specs.MasterForms.{weight_sides}
use Rattle.cip_problem.specs.BlockMeaning.{part_at}
use Rattle.cip_pricing.specs.Decomposition.{picked}
use Rattle.cip_lagrange.specs.Numbers.{found}
use Rattle.cip_master.specs.BlockSums.{coefficient_in}
use Rattle.cip_master.specs.WeightTerms.{with_weight, weighted}
use Rattle.cip_master.specs.KeptMasters.{Wide_cost}
use Rattle.cip_master.proofs.Numbers.{count_is, block_inside, block_found}
use Rattle.cip_master.proofs.OnePointMore.{puts_point}
use Rattle.cip_master.proofs.masters.MasterProgram.put_point.Goals as goal

pub columns-numbers-requires : goal.columns-numbers-requires
columns-numbers-requires c =
    omega (
      arith,
      count_is c.args.program.now c.args.blocks.now c.requires.made,
      c.block-block.ensures,
      c.requires.block,
    )

pub part_sum-requires : goal.part_sum-requires
part_sum-requires c =
    let inside : c.block-block.result < length c.args.blocks.now.subproblems.items =
    omega (arith, c.block-block.ensures, c.requires.block) in
    subst (All (λ number. number < length c.costs.result.now)) (sym c.columns-numbers.ensures)
    (block_inside c.args.program.now c.args.blocks.now c.requires.made c.block-block.result (length c.costs.result.now)
    inside (ap length c.costs.ensures.costs))

pub returns-in-Err-clause-put : goal.returns-in-Err-clause-put
returns-in-Err-clause-put c =
    let inside : c.block-block.result < length c.args.blocks.now.subproblems.items =
    omega (arith, c.block-block.ensures, c.requires.block) in
    Wide_cost c.in-Err.field-0
    (sym (ap₂ (dot_from zeroℚ)
    (ap₂ found c.costs.ensures.costs c.columns-numbers.ensures
    ∙ block_found c.args.program.now c.args.blocks.now c.requires.made c.block-block.result c.args.program.now.costs
    inside
    ∙ ap (λ k. picked (Some k) c.args.blocks.now.column_owners.items c.args.program.now.costs) c.block-block.ensures)
    c.values.ensures)
    ∙ sym c.in-Err.ensures.steps)

pub returns-clause-put : goal.returns-clause-put
returns-clause-put c =
    puts_point c.args.program.now c.args.blocks.now c.args.held.now c.in-Ok.cost c.args.self.now c.put_last.new.self
    c.columns-columns.ensures.formed c.requires.made c.requires.block
    (record {
      masters =
          ap (λ k. weighted (coefficient_in c.args.blocks.now c.args.held.now) k
          c.args.program.now.rows 0 c.args.blocks.now.blocks.master_rows c.args.self.now.masters.items)
          (sym c.len-column.ensures)
          ∙ c.in_ok-put_in_masters.ensures.masters
          ∙ ap (λ (ms : List Row). Ok ms) (sym c.in_ok-put_last.ensures.masters);
      sums =
          c.in_ok-put_last.ensures.sums
          ∙ ap (λ (ss : List Row). slice_set ss c.block-block.result
          (with_weight c.len-column.result oneℚ (slice_index_or ss c.block-block.result no_row)))
          c.in_ok-put_in_masters.ensures.sums
          ∙ ap₂ (λ b k. slice_set c.args.self.now.sums.items b
          (with_weight k oneℚ (slice_index_or c.args.self.now.sums.items b no_row))) c.block-block.ensures
          c.len-column.ensures;
      bounds =
          c.in_ok-put_last.ensures.bounds
          ∙ ap (λ (ss : List Sides). ss ++ weight_sides ∷ []) c.in_ok-put_in_masters.ensures.bounds;
      costs =
          c.in_ok-put_last.ensures.costs
          ∙ ap (λ (v : List ℚ). v ++ c.in-Ok.cost ∷ []) c.in_ok-put_in_masters.ensures.costs;
      ids =
          c.in_ok-put_last.ensures.ids
          ∙ ap (λ (v : List ℕ). v ++ c.id.result ∷ []) c.in_ok-put_in_masters.ensures.ids
          ∙ ap (λ k. c.args.self.now.ids.items ++ k ∷ []) c.id.ensures;
      cost_is =
          c.in-Ok.ensures.value
          ∙ ap₂ dot
          (ap₂ found c.costs.ensures.costs
          (c.columns-numbers.ensures ∙ ap (λ k. (part_at c.args.blocks.now.blocks k).columns) c.block-block.ensures))
          c.values.ensures;
    })
