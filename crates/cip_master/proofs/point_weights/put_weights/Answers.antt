use Rattle.std.proofs.Common.{◌<◌, length, sym, arith}
use Rattle.cip_master.specs.KeptMasters.{Wide_row}
use Rattle.cip_master.proofs.point_weights.put_weights.Goals as goal

pub returns-in-Err : goal.returns-in-Err
returns-in-Err c =
    let inside : c.loop-at.at < length c.args.blocks.now.blocks.master_rows = omega arith in
    Wide_row c.in-Err.field-0 c.loop-at.at inside (sym c.in-Err.ensures)
