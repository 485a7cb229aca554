use Rattle.std.proofs.lemmas.Grind.{common_steps}
use Rattle.std.proofs.Common.{ℕ, ◌<◌, List, length, sym, subst, arith}
use Rattle.std.specs.Prelude.{All}
use Rattle.cip_problem.specs.Program.{Row}
use Rattle.cip_master.proofs.Numbers.{masters_inside}
use Rattle.cip_price.proofs.crossing.has_crossed.Goals as goal

pub crosses_row-requires : goal.crosses_row-requires
crosses_row-requires c =
    subst (λ (rows : List Row). All (λ number. number < length rows) c.master_rows.result.now) (sym c.rows.ensures.rows)
    (subst (λ (numbers : List ℕ). All (λ number. number < length c.args.task.now.program.now.rows) numbers)
    (sym c.master_rows.ensures)
    (masters_inside c.args.task.now.program.now c.args.task.now.blocks.now c.requires.made))

pub returns : goal.returns
returns c = grind (arith, common_steps)

pub returns-then-crosses_column : goal.returns-then-crosses_column
returns-then-crosses_column c = grind (arith, common_steps)
