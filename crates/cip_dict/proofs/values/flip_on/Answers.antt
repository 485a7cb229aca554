use Rattle.cip_dict.specs.Lists.{basic_in, entry_in}
use Rattle.cip_bland.specs.declared.places.Line.TheVariants.{Row}
use Rattle.cip_bland.specs.Operations.{value_place}
use Rattle.cip_problem.specs.Activity.{value_at}
use Rattle.std.proofs.lemmas.List.{get_or_default}
use Rattle.std.proofs.lemmas.Bool.{ne_eqb}
use Rattle.cip_dict.proofs.Added.{added_flip}
use Rattle.std.proofs.lemmas.Grind.{common_steps}
use Rattle.std.proofs.Common.{arith, ◌<◌, ◌==◌, [], length, sym, ap, ◌∙◌, Bool, cond}
use Rattle.cip_dict.proofs.values.flip_on.Goals as goal

pub add_times-requires : goal.add_times-requires
add_times-requires c =
    let within : c.args.v < length c.args.shift.now.rows.now = omega (arith, c.requires.within, c.requires.rows_long.each_one) in
    let long = ap length (get_or_default c.args.shift.now.rows.now c.args.v c.index-shift-v.result [] within) ∙ c.requires.rows_long.long c.args.v (omega (arith, c.requires.within)) ∙ ap (λ (t : Bool). cond t (length c.args.standing.now) 0) (sym c.if-is_basic.ensures) in
    omega (arith, long, c.requires.flips)

pub returns-else-is_basic : goal.returns-else-is_basic
returns-else-is_basic c = grind (arith, common_steps)

pub returns-then-is_basic : goal.returns-then-is_basic
returns-then-is_basic c =
    let within : c.args.v < length c.args.shift.now.rows.now = omega (arith, c.requires.within, c.requires.rows_long.each_one) in
    added_flip c.add_times.result (basic_in c.args.standing.now c.args.v) (c.args.v == c.args.j) (value_place (Row c.args.v)) (value_at c.args.shift.now.values.now c.args.v) c.number_at.result (entry_in c.args.shift.now.rows.now c.args.v c.args.j) _ c.args.shift.now.by c.add_times.new.value
    (sym c.if-is_basic.ensures) (ne_eqb c.args.v c.args.j c.if-v-j.false) c.number_at.ensures (ap (λ row. value_at row c.args.j) (get_or_default c.args.shift.now.rows.now c.args.v c.index-shift-v.result [] within)) c.add_times.ensures

pub returns-then-v-j : goal.returns-then-v-j
returns-then-v-j c = grind (arith, common_steps)

pub bounds-shift-v : goal.bounds-shift-v
bounds-shift-v c = grind (arith, common_steps)

pub number_at-requires : goal.number_at-requires
number_at-requires c = grind (arith, common_steps)

pub offset_bounds-shift-v : goal.offset_bounds-shift-v
offset_bounds-shift-v c = grind (arith, common_steps)

pub is_basic-requires : goal.is_basic-requires
is_basic-requires c = grind (arith, common_steps)
