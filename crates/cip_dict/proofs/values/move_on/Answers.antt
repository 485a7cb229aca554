use Rattle.cip_bland.specs.declared.places.Line.TheVariants.{Row}
use Rattle.cip_bland.specs.Operations.{value_place}
use Rattle.cip_problem.specs.Activity.{value_at}
use Rattle.std.proofs.lemmas.List.{get_or_default}
use Rattle.std.proofs.lemmas.Grind.{common_steps}
use Rattle.std.proofs.Common.{◌≡◌, ◌==◌, ◌∙◌, true, false, get_or, sym, arith, ◌<◌, [], length, ap}
use Rattle.std.proofs.lemmas.Bool.{true≢false, ne_eqb}
use Rattle.cip_rational.specs.Rational.{is_zero}
use Rattle.cip_dict.specs.Lists.{basic_in, entry_in}
use Rattle.cip_dict.specs.Values.{IsAdded}
use Rattle.cip_dict.proofs.Added.{zero_left, unreached, added_move}
use Rattle.cip_dict.proofs.values.move_on.Goals as goal
use Rattle.cip_dict.proofs.values.move_on.Goals.{then-changed-v, else-changed-v}

pub returns-else-v-pivot-2 : goal.returns-else-v-pivot-2
returns-else-v-pivot-2 c =
    let none : is_zero (entry_in c.args.shift.now.rows.now c.args.v c.args.pivot.now.entering) ≡ true =
    elim c.if-changed-v.branch [
      | then-changed-v w ↦ absurd (true≢false (sym w.if-changed-v.true ∙ sym w.value-is ∙ c.if-v-pivot-2.false))
      | else-changed-v w ↦
          unreached (basic_in c.args.pivot.now.standing.now c.args.v) (c.args.v == c.args.pivot.now.leaving) (is_zero (entry_in c.args.shift.now.rows.now c.args.v c.args.pivot.now.entering)) (get_or c.args.changed.now c.args.v false)
          (sym c.if-is_basic.ensures) (sym w.value-is ∙ c.if-v-pivot-2.false) (c.requires.marked.changes c.args.v c.requires.within) w.if-changed-v.false
    ] in
    let added : IsAdded true c.number_at-then-is_basic.result (entry_in c.args.shift.now.rows.now c.args.v c.args.pivot.now.entering) c.args.shift.now.by c.number_at-then-is_basic.result = zero_left c.number_at-then-is_basic.result (entry_in c.args.shift.now.rows.now c.args.v c.args.pivot.now.entering) c.args.shift.now.by none in
    grind (arith, common_steps, added)

pub add_times-requires : goal.add_times-requires
add_times-requires c = grind (arith, common_steps)

pub returns-else-is_basic : goal.returns-else-is_basic
returns-else-is_basic c = grind (arith, common_steps)

pub returns-then-v-pivot-2 : goal.returns-then-v-pivot-2
returns-then-v-pivot-2 c =
    let within : c.args.v < length c.args.shift.now.rows.now = omega (arith, c.requires.within, c.requires.rows_long.each_one) in
    added_move c.add_times.result (basic_in c.args.pivot.now.standing.now c.args.v) (c.args.v == c.args.pivot.now.entering) (value_place (Row c.args.v)) (value_at c.args.shift.now.values.now c.args.v) c.number_at-then-is_basic.result (entry_in c.args.shift.now.rows.now c.args.v c.args.pivot.now.entering) _ c.args.shift.now.by c.add_times.new.value
    (sym c.if-is_basic.ensures) (ne_eqb c.args.v c.args.pivot.now.entering c.if-v-pivot.false) c.number_at-then-is_basic.ensures (ap (λ row. value_at row c.args.pivot.now.entering) (get_or_default c.args.shift.now.rows.now c.args.v c.index-shift-v.result [] within)) c.add_times.ensures

pub returns-then-v-pivot : goal.returns-then-v-pivot
returns-then-v-pivot c = grind (arith, common_steps)

pub bounds-shift-v : goal.bounds-shift-v
bounds-shift-v c = grind (arith, common_steps)

pub number_at-requires-then-is_basic : goal.number_at-requires-then-is_basic
number_at-requires-then-is_basic c = grind (arith, common_steps)

pub bounds-changed-v : goal.bounds-changed-v
bounds-changed-v c = grind (arith, common_steps)

pub offset_bounds-shift-v : goal.offset_bounds-shift-v
offset_bounds-shift-v c = grind (arith, common_steps)

pub number_at-requires : goal.number_at-requires
number_at-requires c = grind (arith, common_steps)

pub is_basic-requires : goal.is_basic-requires
is_basic-requires c = grind (arith, common_steps)
