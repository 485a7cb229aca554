use Rattle.std.proofs.lemmas.Grind.{common_steps}
use Rattle.std.proofs.Common.{arith}
use Rattle.cip_mps_lines.proofs.ValuesRead.{positive_read}
use Rattle.cip_mps_lines.proofs.bound_numbers.BoundNumber.is_positive.Goals as goal

pub returns-in-Ok : goal.returns-in-Ok
returns-in-Ok c =
    rw (← c.self.view_is) (positive_read c.self.inside.text.now c.in-Ok.value c.is_positive.result (rw c.in-Ok.is at c.self.invariant) c.is_positive.ensures)

pub returns-in-Err : goal.returns-in-Err
returns-in-Err c = grind (arith, common_steps)
