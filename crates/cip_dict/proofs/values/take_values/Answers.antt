use Rattle.cip_dict.proofs.TakenValues.{moved_taken, moved_rest, left_taken, left_rest}
use Rattle.std.proofs.lemmas.Grind.{common_steps}
use Rattle.std.proofs.Common.{◌≡◌, length, arith}
use Rattle.cip_rational.specs.Rational.{zeroℚ}
use Rattle.cip_bland.proofs.Tables.{same_table}
use Rattle.cip_dict.proofs.values.take_values.Goals as goal
use Rattle.cip_dict.proofs.values.take_values.Goals.{then-is_moved, else-is_moved}

pub returns : goal.returns
returns c =
    let end : c.loop-v.v ≡ length c.args.standing.now = omega arith in
    same_table (length c.args.standing.now) _ c.loop-v.values zeroℚ (omega (arith, c.requires.values_long)) (λ m l. c.loop-v.invariant.taken m (omega (arith, l, end)))

pub loop-v-init : goal.loop-v-init
loop-v-init c = grind (arith, common_steps)

pub bounds-values-v : goal.bounds-values-v
bounds-values-v c = grind (arith, common_steps)

pub number_at-requires : goal.number_at-requires
number_at-requires c = grind (arith, common_steps)

pub offset_bounds-values-v : goal.offset_bounds-values-v
offset_bounds-values-v c = grind (arith, common_steps)

pub is_moved-requires : goal.is_moved-requires
is_moved-requires c = grind (arith, common_steps)

pub loop-v-preserved : goal.loop-v-preserved
loop-v-preserved c =
    record {
      taken = elim c.if-is_moved.branch [
        | then-is_moved w ↦ moved_taken c.args.standing.now c.args.j c.args.values.now c.args.other.now c.loop-v.v c.loop-v.values c.if-is_moved.values c.loop-v.invariant.taken c.loop-v.invariant.rest w.number_at.result (omega (arith, c.loop-v-test.true, c.loop-v.auto.values, c.requires.values_long)) w.values-is w.number_at.ensures w.if-is_moved.ensures
        | else-is_moved w ↦ left_taken c.args.standing.now c.args.j c.args.values.now c.args.other.now c.loop-v.v c.loop-v.values c.if-is_moved.values c.loop-v.invariant.taken c.loop-v.invariant.rest w.values-is w.if-is_moved.ensures
      ];
      rest = elim c.if-is_moved.branch [
        | then-is_moved w ↦ moved_rest c.args.standing.now c.args.j c.args.values.now c.args.other.now c.loop-v.v c.loop-v.values c.if-is_moved.values c.loop-v.invariant.taken c.loop-v.invariant.rest w.number_at.result w.values-is
        | else-is_moved w ↦ left_rest c.args.standing.now c.args.j c.args.values.now c.args.other.now c.loop-v.v c.loop-v.values c.if-is_moved.values c.loop-v.invariant.taken c.loop-v.invariant.rest w.values-is
      ];
    }
