use Rattle.std.proofs.lemmas.Grind.{common_steps}
use Rattle.std.proofs.Common.{◌≡◌, ◌+◌, ◌<◌, ◌^◌, length, map, None, Some, ap, ◌∙◌, subst, arith}
use Rattle.std.proofs.lemmas.List.{length-map}
use Rattle.cip_problem.specs.LinearProgram.{LinearProgram}
use Rattle.cip_problem.specs.Multipliers.{row_sides}
use Rattle.cip_bland.specs.Operations.{first_overflow}
use Rattle.cip_bland.specs.FirstState.{System, first_operations}
use Rattle.cip_bland.specs.ProgramState.{system_of}
use Rattle.cip_simplex.specs.Entries.{system_in}
use Rattle.cip_simplex.specs.LpEntries.{entries_in}
use Rattle.cip_simplex.proofs.Systems.{same_system, entries_within}
use Rattle.cip_leaf.proofs.FirstPlaces.{first_place, overflows_there, some_overflows}
use Rattle.cip_leaf.proofs.first_values.first_wide.Goals as goal

pub first-first-requires-clause-few : goal.first-first-requires-clause-few
first-first-requires-clause-few c =
    let m : length c.as_slice-2.result.now ≡ length c.args.rows.now = ap length (c.as_slice-2.ensures.value ∙ c.in_ok-sides.ensures) ∙ length-map c.args.rows.now row_sides in
    let n : length c.as_slice-3.result.now ≡ length c.args.bounds.now = ap length c.as_slice-3.ensures in
    let f : length c.args.bounds.now + length c.args.rows.now < 2 ^ 32 = c.requires.solvable.few in
    omega (arith, m, n, f)

pub first-first-requires-clause-within : goal.first-first-requires-clause-within
first-first-requires-clause-within c =
    let linear : LinearProgram = record { rows = c.args.rows.now; bounds = c.args.bounds.now; costs = c.args.costs.now } in
    let e : c.as_slice.result.now ≡ entries_in c.args.rows.now = c.as_slice.ensures.value ∙ c.in_ok-entries.ensures.0 in
    let m : length c.as_slice-2.result.now ≡ length c.args.rows.now = ap length (c.as_slice-2.ensures.value ∙ c.in_ok-sides.ensures) ∙ length-map c.args.rows.now row_sides in
    let n : length c.as_slice-3.result.now ≡ length c.args.bounds.now = ap length c.as_slice-3.ensures in
    rw (e, m, n) (entries_within linear c.requires.solvable.proper)

pub unreachable-requires : goal.unreachable-requires
unreachable-requires c =
    let linear : LinearProgram = record { rows = c.args.rows.now; bounds = c.args.bounds.now; costs = c.args.costs.now } in
    let e : c.as_slice.result.now ≡ entries_in c.args.rows.now = c.as_slice.ensures.value ∙ c.in_ok-entries.ensures.0 in
    let s : c.as_slice-2.result.now ≡ map row_sides c.args.rows.now = c.as_slice-2.ensures.value ∙ c.in_ok-sides.ensures in
    let b : c.as_slice-3.result.now ≡ c.args.bounds.now = c.as_slice-3.ensures in
    let same : system_in c.as_slice.result.now c.as_slice-2.result.now c.as_slice-3.result.now c.args.costs.now ≡ system_of linear = rw (e, s, b) (same_system linear c.in_ok-entries.ensures.1) in
    some_overflows linear c.requires.wide (subst (λ (p : System). first_overflow (first_operations p) ≡ None) same c.in-Ok.ensures.0)

pub place_in-requires : goal.place_in-requires
place_in-requires c =
    let linear : LinearProgram = record { rows = c.args.rows.now; bounds = c.args.bounds.now; costs = c.args.costs.now } in
    let e : c.as_slice.result.now ≡ entries_in c.args.rows.now = c.as_slice.ensures.value ∙ c.in_ok-entries.ensures.0 in
    let s : c.as_slice-2.result.now ≡ map row_sides c.args.rows.now = c.as_slice-2.ensures.value ∙ c.in_ok-sides.ensures in
    let b : c.as_slice-3.result.now ≡ c.args.bounds.now = c.as_slice-3.ensures in
    let same : system_in c.as_slice.result.now c.as_slice-2.result.now c.as_slice-3.result.now c.args.costs.now ≡ system_of linear = rw (e, s, b) (same_system linear c.in_ok-entries.ensures.1) in
    let at = rw c.in-OutOfRange.is at c.in-Err.ensures in
    rw c.len.ensures (first_place (system_of linear) c.in-OutOfRange.place (subst (λ (p : System). first_overflow (first_operations p) ≡ Some c.in-OutOfRange.place) same at)).is_line

pub returns-in-OutOfRange : goal.returns-in-OutOfRange
returns-in-OutOfRange c =
    let linear : LinearProgram = record { rows = c.args.rows.now; bounds = c.args.bounds.now; costs = c.args.costs.now } in
    let e : c.as_slice.result.now ≡ entries_in c.args.rows.now = c.as_slice.ensures.value ∙ c.in_ok-entries.ensures.0 in
    let s : c.as_slice-2.result.now ≡ map row_sides c.args.rows.now = c.as_slice-2.ensures.value ∙ c.in_ok-sides.ensures in
    let b : c.as_slice-3.result.now ≡ c.args.bounds.now = c.as_slice-3.ensures in
    let same : system_in c.as_slice.result.now c.as_slice-2.result.now c.as_slice-3.result.now c.args.costs.now ≡ system_of linear = rw (e, s, b) (same_system linear c.in_ok-entries.ensures.1) in
    let at = rw c.in-OutOfRange.is at c.in-Err.ensures in
    overflows_there linear c.in-OutOfRange.place c.place_in.result (subst (λ (p : System). first_overflow (first_operations p) ≡ Some c.in-OutOfRange.place) same at) (rw c.len.ensures at c.place_in.ensures)

pub first-first-requires-clause-costs_long : goal.first-first-requires-clause-costs_long
first-first-requires-clause-costs_long c = grind (arith, common_steps)

pub overflow_cast-len : goal.overflow_cast-len
overflow_cast-len c = omega arith

pub unreachable-unreachable : goal.unreachable-unreachable
unreachable-unreachable c = grind (arith, common_steps)

pub returns : goal.returns
returns c = grind (arith, common_steps)

pub entries_of-requires : goal.entries_of-requires
entries_of-requires c = grind (arith, common_steps)
