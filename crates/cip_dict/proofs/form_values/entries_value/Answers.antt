use Rattle.std.proofs.lemmas.Grind.{common_steps}
use Rattle.std.proofs.Common.{◌≡◌, ◌<◌, refl, length, get_or, arith, add-one, suc}
use Rattle.cip_problem.specs.Activity.{value_at}
use Rattle.cip_dict.specs.SparseLines.{Kept, entry_on}
use Rattle.cip_dict.proofs.Places.{place_zero, entry_between}
use Rattle.cip_dict.proofs.FormSums.{form_gap, next_place, next_sum, next_wide}
use Rattle.cip_dict.proofs.form_values.entries_value.Goals as goal

pub places-init : goal.places-init
places-init c = (0, omega arith, place_zero c.args.entries.now, refl, c.zero-total.ensures)

pub places-preserved : goal.places-preserved
places-preserved c =
    let s = c.places.invariant in
    let e : Kept = c.index-entries-place.result in
    let l : c.places.place < length c.args.entries.now = c.is_within.ensures.within c.places-test.true in
    let is : e ≡ get_or c.args.entries.now c.places.place e = c.index-entries-place.is in
    let below : e.0 < c.args.n = rw (← is) at (c.is_within.ensures.below c.places-test.true e) in
    let place = next_place c.args.line c.args.n c.args.entries.now (value_at c.args.values.now) c.requires.kept.0 c.requires.kept.1 c.places.place s.0 e s.2 s.3 c.places.total s.4 l is below in
    let here = rw (c.value_of.ensures, c.number_at-value.ensures) at c.in-Ok.ensures in
    let sum = next_sum c.args.line c.args.n c.args.entries.now (value_at c.args.values.now) c.requires.kept.0 c.requires.kept.1 c.places.place s.0 e s.2 s.3 c.places.total s.4 l is below c.in-Ok.value here.0 here.1 in
    (suc e.0, omega (arith, below), rw add-one place, sum.0, sum.1)

pub returns-in-Err : goal.returns-in-Err
returns-in-Err c =
    let s = c.places.invariant in
    let e : Kept = c.index-entries-place.result in
    let l : c.places.place < length c.args.entries.now = c.is_within.ensures.within c.places-test.true in
    let is : e ≡ get_or c.args.entries.now c.places.place e = c.index-entries-place.is in
    let below : e.0 < c.args.n = rw (← is) at (c.is_within.ensures.below c.places-test.true e) in
    next_wide c.args.line c.args.n c.args.entries.now (value_at c.args.values.now) c.requires.kept.0 c.requires.kept.1 c.places.place s.0 e s.2 s.3 c.places.total s.4 l is below c.in-Err.fault.place (rw (c.value_of.ensures, c.number_at-value.ensures) at c.in-Err.ensures)

pub returns : goal.returns
returns c =
    let s = c.places.invariant in
    form_gap c.args.line s.0 c.args.n (entry_on c.args.entries.now) (value_at c.args.values.now) c.places.total s.1 s.3 s.4
    (λ k a b. entry_between s.0 k c.args.entries.now c.places.place 0 c.requires.kept.0 c.requires.kept.1 s.2 a (λ d w. let r = c.is_within.ensures.past c.places-test.false d w in omega (arith, b, r)))

pub overflow_add-place : goal.overflow_add-place
overflow_add-place c = omega arith

pub places-smaller : goal.places-smaller
places-smaller c = omega arith

pub number_at-value-requires : goal.number_at-value-requires
number_at-value-requires c = grind (arith, common_steps)

pub bounds-entries-place : goal.bounds-entries-place
bounds-entries-place c = grind (arith, common_steps)

pub offset_bounds-entries-place : goal.offset_bounds-entries-place
offset_bounds-entries-place c = grind (arith, common_steps)

pub overflow_cast-entry : goal.overflow_cast-entry
overflow_cast-entry c = grind (arith, common_steps)
