use Rattle.std.proofs.Common.{◌<◌, ℕ, List, length, get_or, refl, sym, ap, ◌∙◌, subst}
use Rattle.cip_problem.specs.WellFormed.{columns}
use Rattle.cip_master.proofs.Numbers.{row_of, rows_inside, row_read}
use Rattle.cip_master.proofs.point_weights.master_row.Goals as goal

pub bounds-rows-numbers : goal.bounds-rows-numbers
bounds-rows-numbers c =
    rows_inside c.args.program.now c.args.blocks.now c.requires.made c.master_rows-numbers.result.now
    c.rows-rows.result.now c.master_rows-numbers.ensures c.rows-rows.ensures.rows c.args.at 0
    (subst (λ (ns : List ℕ). c.args.at < length ns) (sym c.master_rows-numbers.ensures) c.requires.at)

pub returns : goal.returns
returns c =
    let number : ℕ = get_or c.master_rows-numbers.result.now c.args.at 0 in
    let inside : number < length c.rows-rows.result.now =
    rows_inside c.args.program.now c.args.blocks.now c.requires.made c.master_rows-numbers.result.now
    c.rows-rows.result.now c.master_rows-numbers.ensures c.rows-rows.ensures.rows c.args.at 0
    (subst (λ (ns : List ℕ). c.args.at < length ns) (sym c.master_rows-numbers.ensures) c.requires.at) in
    let read = row_read c.args.program.now (columns c.args.program.now) c.rows-rows.result.now
    c.index-rows-numbers.result number c.rows-rows.ensures.formed refl c.rows-rows.ensures.rows inside
    c.index-rows-numbers.is in
    read.0 ∙ ap (λ (ns : List ℕ). row_of c.args.program.now.rows (get_or ns c.args.at 0)) c.master_rows-numbers.ensures
