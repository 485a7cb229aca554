use Rattle.std.proofs.Common.{ap, sym, arith}
use Rattle.cip_text_rules.specs.MpsState.{RowRead}
use Rattle.cip_mps.proofs.TableLaws.{row_is, within}
use Rattle.cip_mps.proofs.row_table.RowTable.head.Goals as goal

pub index-requires : goal.index-requires
index-requires c =
    let there = within c.self.inside.heads.items c.self.inside.groups.items c.args.self.now c.args.number c.self.view_is c.requires in
    omega (arith, there, c.self.inside.heads.ok.0)

pub returns : goal.returns
returns c =
    let row = row_is c.self.inside.heads.items c.self.inside.groups.items c.args.self.now c.args.number c.index.result.now c.self.view_is c.requires c.index.ensures in
    record { kind = ap (λ (r : RowRead). r.kind) (sym row); right_side = ap (λ (r : RowRead). r.right_side) (sym row); range = ap (λ (r : RowRead). r.range) (sym row) }
