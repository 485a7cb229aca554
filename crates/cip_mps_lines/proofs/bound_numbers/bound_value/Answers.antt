use Rattle.std.proofs.lemmas.Grind.{common_steps}
use Rattle.std.proofs.Common.{sym, ◌∙◌, arith}
use Rattle.cip_mps_lines.proofs.ValuesRead.{far_bound, near_bound}
use Rattle.cip_mps_lines.proofs.bound_numbers.bound_value.Goals as goal

pub returns-in-Ok : goal.returns-in-Ok
returns-in-Ok c =
    far_bound c.args.bytes.now c.in-Ok.value c.is_negative.result (sym c.says_infinity.ensures ∙ c.if-says_infinity.false) c.in-Ok.ensures (sym c.if-is_far.ensures) c.is_negative.ensures

pub returns-in_default : goal.returns-in_default
returns-in_default c =
    near_bound c.args.bytes.now c.in-Ok.value (sym c.says_infinity.ensures ∙ c.if-says_infinity.false) c.in-Ok.ensures (sym c.if-is_far.ensures)

pub returns-in_default-2 : goal.returns-in_default-2
returns-in_default-2 c = grind (arith, common_steps)

pub returns-then-says_infinity : goal.returns-then-says_infinity
returns-then-says_infinity c = grind (arith, common_steps)
