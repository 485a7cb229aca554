use Rattle.std.proofs.lemmas.Grind.{common_steps}
use Rattle.std.proofs.Common.{◌≡◌, ◌<◌, pos, to_z, of_z, refl, sym, ap, length, get_or, arith, add-one, suc, ◌^◌}
use Rattle.std.specs.Int.{w64}
use Rattle.cip_rational.specs.Rational.{ratio}
use Rattle.cip_problem.specs.Activity.{value_at}
use Rattle.cip_dict.specs.SparseLines.{Kept, entry_on}
use Rattle.cip_dict.specs.WholeLines.{Whole, over}
use Rattle.cip_dict.proofs.Places.{place_zero, entry_between}
use Rattle.cip_dict.proofs.FormSums.{form_gap, next_place, next_sum, next_wide}
use Rattle.cip_dict.proofs.WholeParts.{at_over, length_over, read_small, item_below}
use Rattle.cip_dict.proofs.whole_entries.wholes_value.Goals as goal

pub places-init : goal.places-init
places-init c = (0, omega arith, place_zero (over c.args.below c.args.wholes.now), refl, c.zero-total.ensures)

pub places-preserved : goal.places-preserved
places-preserved c =
    let s = c.places.invariant in
    let es = over c.args.below c.args.wholes.now in
    let w : Whole = get_or c.args.wholes.now c.places.place (0, pos 0) in
    let e : Kept = (w.0, ratio w.1 c.args.below) in
    let l : c.places.place < length c.args.wholes.now = c.is_within.ensures.within c.places-test.true in
    let is : e ≡ get_or es c.places.place e = sym (at_over c.args.below c.args.wholes.now c.places.place e (0, pos 0) l) in
    let below : e.0 < c.args.n = c.is_within.ensures.below c.places-test.true (0, pos 0) in
    let le : c.places.place < length es = omega (arith, l, length_over c.args.below c.args.wholes.now) in
    let n : to_z w64 (of_z w64 w.1) ≡ w.1 = read_small w.1 (item_below (2 ^ 42) c.args.wholes.now c.places.place (0, pos 0) c.requires.whole.numbers l) in
    let here = rw n at c.in-Ok.ensures in
    let place = next_place c.args.line c.args.n es (value_at c.args.values.now) c.requires.kept.0 c.requires.kept.1 c.places.place s.0 e s.2 s.3 c.places.total s.4 le is below in
    let sum = next_sum c.args.line c.args.n es (value_at c.args.values.now) c.requires.kept.0 c.requires.kept.1 c.places.place s.0 e s.2 s.3 c.places.total s.4 le is below c.in-Ok.value here.0 here.1 in
    (suc e.0, omega (arith, below), rw add-one place, sum.0, sum.1)

pub returns-in-Err : goal.returns-in-Err
returns-in-Err c =
    let s = c.places.invariant in
    let es = over c.args.below c.args.wholes.now in
    let w : Whole = get_or c.args.wholes.now c.places.place (0, pos 0) in
    let e : Kept = (w.0, ratio w.1 c.args.below) in
    let l : c.places.place < length c.args.wholes.now = c.is_within.ensures.within c.places-test.true in
    let is : e ≡ get_or es c.places.place e = sym (at_over c.args.below c.args.wholes.now c.places.place e (0, pos 0) l) in
    let below : e.0 < c.args.n = c.is_within.ensures.below c.places-test.true (0, pos 0) in
    let le : c.places.place < length es = omega (arith, l, length_over c.args.below c.args.wholes.now) in
    let n : to_z w64 (of_z w64 w.1) ≡ w.1 = read_small w.1 (item_below (2 ^ 42) c.args.wholes.now c.places.place (0, pos 0) c.requires.whole.numbers l) in
    next_wide c.args.line c.args.n es (value_at c.args.values.now) c.requires.kept.0 c.requires.kept.1 c.places.place s.0 e s.2 s.3 c.places.total s.4 le is below c.in-Err.fault.place (rw n at c.in-Err.ensures)

pub returns : goal.returns
returns c =
    let s = c.places.invariant in
    let es = over c.args.below c.args.wholes.now in
    form_gap c.args.line s.0 c.args.n (entry_on es) (value_at c.args.values.now) c.places.total s.1 s.3 s.4
    (λ k a b. entry_between s.0 k es c.places.place 0 c.requires.kept.0 c.requires.kept.1 s.2 a (λ d w.
    let l : c.places.place < length c.args.wholes.now = omega (arith, w, length_over c.args.below c.args.wholes.now) in
    let r = c.is_within.ensures.past c.places-test.false (0, pos 0) l in
    let q : (get_or es c.places.place d).0 ≡ (get_or c.args.wholes.now c.places.place (0, pos 0)).0 = ap (λ (x : Kept). x.0) (at_over c.args.below c.args.wholes.now c.places.place d (0, pos 0) l) in
    omega (arith, b, r, q)))

pub bounds-wholes-place : goal.bounds-wholes-place
bounds-wholes-place c = omega arith

pub bounds-wholes-place-in-places : goal.bounds-wholes-place-in-places
bounds-wholes-place-in-places c = omega arith

pub offset_bounds-wholes-place : goal.offset_bounds-wholes-place
offset_bounds-wholes-place c = omega arith

pub overflow_add-place : goal.overflow_add-place
overflow_add-place c = omega arith

pub places-smaller : goal.places-smaller
places-smaller c = omega (arith, c.places-test.ensures.within refl)

pub whole_step-requires-clause-there : goal.whole_step-requires-clause-there
whole_step-requires-clause-there c = grind (arith, common_steps)

pub whole_step-requires-clause-positive : goal.whole_step-requires-clause-positive
whole_step-requires-clause-positive c = grind (arith, common_steps)

pub whole_step-requires-clause-small : goal.whole_step-requires-clause-small
whole_step-requires-clause-small c = grind (arith, common_steps)
