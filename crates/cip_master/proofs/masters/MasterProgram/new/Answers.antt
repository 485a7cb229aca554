use Rattle.std.proofs.Common.{◌≡◌, ◌<◌, length, replicate, sym, ap, ap₂, ◌∙◌, subst, arith}
use Rattle.std.specs.Prelude.{All}
use Rattle.cip_lagrange.specs.Numbers.{found}
use Rattle.cip_master.specs.FirstRows.{sum_row}
use Rattle.cip_master.proofs.Numbers.{free_inside}
use Rattle.cip_master.proofs.FirstRows.{first_master}
use Rattle.cip_master.proofs.masters.MasterProgram.new.Goals as goal

pub sides_at-requires : goal.sides_at-requires
sides_at-requires c =
    subst (All (λ number. number < length c.args.bounds.now)) (sym c.free_columns-numbers.ensures)
    (free_inside c.args.program.now c.args.blocks.now c.requires.made (length c.args.bounds.now) c.requires.box_)

pub costs_at-requires : goal.costs_at-requires
costs_at-requires c =
    subst (All (λ number. number < length c.costs.result.now)) (sym c.free_columns-numbers.ensures)
    (free_inside c.args.program.now c.args.blocks.now c.requires.made (length c.costs.result.now)
    (ap length c.costs.ensures.costs))

pub returns-clause-made : goal.returns-clause-made
returns-clause-made c =
    let count : c.len.result ≡ length c.args.blocks.now.subproblems.items = omega (arith, c.len.ensures) in
    first_master c.args.program.now c.args.blocks.now c.args.bounds.now _ c.columns-columns.ensures.formed
    c.requires.made c.requires.box_ c.in-Ok.ensures
    (c.in-Ok-sum_rows.ensures ∙ ap (λ n. replicate n sum_row) count)
    (c.in-Ok-sides_at.ensures ∙ ap (found c.args.bounds.now) c.free_columns-numbers.ensures)
    (c.in-Ok-costs_at.ensures ∙ ap₂ found c.costs.ensures.costs c.free_columns-numbers.ensures)
    c.new.ensures.items
