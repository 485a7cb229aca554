use Rattle.std.proofs.lemmas.Grind.{common_steps}
use Rattle.std.proofs.Common.{arith}
use Rattle.cip_mps_lines.proofs.ValuesRead.{zero_read}
use Rattle.cip_mps_lines.proofs.numbers.Number.is_zero.Goals as goal

pub returns-in-Ok : goal.returns-in-Ok
returns-in-Ok c =
    rw (← c.self.view_is) (zero_read c.self.inside.text.now c.in-Ok.value c.is_zero.result (rw c.in-Ok.is at c.self.invariant) c.is_zero.ensures)

pub returns-in-Err : goal.returns-in-Err
returns-in-Err c = grind (arith, common_steps)
