use Rattle.std.proofs.lemmas.Grind.{common_steps}
use Rattle.std.proofs.Common.{◌≡◌, sym, ap, length, arith}
use Rattle.cip_bland.specs.MoveOperations.{first_line}
use Rattle.cip_dict.specs.Lists.{basic_in}
use Rattle.cip_dict.proofs.LeastBasic.{least_more, least_at}
use Rattle.cip_dict.proofs.flip.first_basic.Goals as goal

pub returns-then-is_basic : goal.returns-then-is_basic
returns-then-is_basic c = sym (ap first_line (least_at (length c.args.standing.now) c.loop-v.v (basic_in c.args.standing.now) c.loop-v-test.true c.loop-v.invariant (sym c.if-is_basic.ensures)))

pub loop-v-preserved : goal.loop-v-preserved
loop-v-preserved c = least_more c.loop-v.v (basic_in c.args.standing.now) c.loop-v.invariant (sym c.if-is_basic.ensures)

pub returns : goal.returns
returns c =
    let end : c.loop-v.v ≡ length c.args.standing.now = omega arith in
    sym (ap first_line (rw end at c.loop-v.invariant))

pub overflow_cast-result : goal.overflow_cast-result
overflow_cast-result c = grind (arith, common_steps)

pub is_basic-requires : goal.is_basic-requires
is_basic-requires c = grind (arith, common_steps)
