use Rattle.std.proofs.Common.{ℕ, List, ◌++◌, ◌∷◌, [], replicate, ap, ap₂, ◌∙◌, arith}
use Rattle.std.proofs.lemmas.List.{replicate_more}
use Rattle.cip_problem.specs.Program.{Row}
use Rattle.cip_master.specs.FirstRows.{sum_row}
use Rattle.cip_master.proofs.first.sum_rows.Goals as goal

pub loop-block-init : goal.loop-block-init
loop-block-init c = c.new-owns.ensures.items

pub loop-block-preserved : goal.loop-block-preserved
loop-block-preserved c =
    c.push_reserved.ensures.items
    ∙ ap₂ (λ (rows : List Row) (row : Row). rows ++ row ∷ []) (c.in-Ok.ensures.items ∙ c.loop-block.invariant)
    c.sum_row.ensures
    ∙ replicate_more c.loop-block._block sum_row

pub returns : goal.returns
returns c = c.loop-block.invariant ∙ ap (λ (n : ℕ). replicate n sum_row) (omega arith)
