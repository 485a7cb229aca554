use Rattle.std.proofs.Common.{arith}
use Rattle.cip_mps.proofs.TableLaws.{rows_length}
use Rattle.cip_mps.proofs.row_table.RowTable.len.Goals as goal

pub returns : goal.returns
returns c =
    let same = rows_length c.self.inside.heads.items c.self.inside.groups.items c.args.self.now c.self.view_is in
    omega (arith, c.len.ensures, c.self.inside.heads.ok.0, same)
