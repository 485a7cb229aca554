use Rattle.std.proofs.Common.{List, None, Some, ap, sym, ◌∙◌, arith}
use Rattle.cip_text_rules.specs.MpsState.{RowRead, no_row}
use Rattle.cip_text_rules.specs.MpsSteps.{changed, overflows_with, with_range}
use Rattle.cip_mps.specs.Tables.{numbers_at, with_numbers}
use Rattle.cip_mps.proofs.TableLaws.{within, row_is, read_at, rows_changed}
use Rattle.cip_mps.proofs.row_table.RowTable.set_range.Goals as goal

pub index_mut-head-requires : goal.index_mut-head-requires
index_mut-head-requires c =
    let there = within c.self.inside.heads.items c.self.inside.groups.items c.args.self.now c.args.number c.self.view_is c.requires.within in
    omega (arith, there, c.self.inside.heads.ok.0)

pub set_range-requires : goal.set_range-requires
set_range-requires c =
    let row = row_is c.self.inside.heads.items c.self.inside.groups.items c.args.self.now c.args.number c.index_mut-head.result.now c.self.view_is c.requires.within c.index_mut-head.ensures.value in
    ap (λ (r : RowRead). overflows_with None (Some c.args.value) (Some r)) (sym row) ∙ c.requires.fits

pub returns : goal.returns
returns c =
    let heads = c.self.inside.heads.items in
    let groups = c.self.inside.groups.items in
    let number = c.args.number in
    let there = within heads groups c.args.self.now number c.self.view_is c.requires.within in
    let head = read_at heads number c.index_mut-head.result.now no_row there c.index_mut-head.ensures.value in
    let same = ap (λ (r : RowRead). with_numbers (numbers_at groups number) r) (c.set_range.ensures ∙ ap (with_range c.args.value) head) in
    rows_changed heads groups number c.set_range.new.self (with_range c.args.value) there same
    ∙ ap (λ (rs : List RowRead). changed no_row rs (Some number) (with_range c.args.value)) c.self.view_is
