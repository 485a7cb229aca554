use Rattle.std.proofs.lemmas.Grind.{common_steps}
use Rattle.std.proofs.Common.{arith}
use Rattle.cip_mps_lines.proofs.ValuesRead.{negative_read}
use Rattle.cip_mps_lines.proofs.bound_numbers.BoundNumber.is_negative.Goals as goal

pub returns-in-Ok : goal.returns-in-Ok
returns-in-Ok c =
    rw (← c.self.view_is) (negative_read c.self.inside.text.now c.in-Ok.value c.is_negative.result (rw c.in-Ok.is at c.self.invariant) c.is_negative.ensures)

pub returns-in-Err : goal.returns-in-Err
returns-in-Err c = grind (arith, common_steps)

pub returns-in-Err-Huge : goal.returns-in-Err-Huge
returns-in-Err-Huge c = grind (arith, common_steps)
