use Rattle.std.proofs.Common.{◌≡◌, ◌<◌, ℕ, List, length, Some, slice_get, refl, sym, ap, ◌∙◌, subst, arith}
use Rattle.std.specs.Prelude.{All}
use Rattle.std.proofs.lemmas.Option.{same_Some, slice_get_read}
use Rattle.cip_rational.specs.Rational.{ℚ}
use Rattle.cip_problem.specs.BlockMeaning.{part_at}
use Rattle.cip_lagrange.specs.Numbers.{found}
use Rattle.cip_lagrange.specs.declared.parts.Subproblem.{Subproblem}
use Rattle.cip_lagrange.specs.LagrangeOutcomes.{block_outcome, block_added}
use Rattle.cip_lagrange.proofs.Ready.{filled_fits, filled_outcome, fitting_set}
use Rattle.cip_lagrange.proofs.lagrangian.add_block.Goals as goal

pub bound_block-requires-clause-fits : goal.bound_block-requires-clause-fits
bound_block-requires-clause-fits c =
    let parts = c.args.blocks.now.subproblems.items in
    let works = c.args.scratch.now.blocks.items in
    let part_is : slice_get parts c.args.at ≡ Some c.index-part.result.now =
    slice_get_read parts (length parts) c.args.at c.index-part.result.now refl c.requires.inside c.index-part.ensures in
    let inside : c.args.at < length works = omega (arith, c.requires.inside, c.requires.fits.long) in
    let work_is : slice_get works c.args.at ≡ Some c.index_mut-work.result.now =
    slice_get_read works (length works) c.args.at c.index_mut-work.result.now refl inside c.index_mut-work.ensures.value
    in
    let numbers : List ℕ = (part_at c.args.blocks.now.blocks c.args.at).columns in
    filled_fits (length c.args.bounds.now) (length c.args.scratch.now.row.entries) c.index-part.result.now
    c.args.scratch.now.rests.items c.args.bounds.now numbers c.index_mut-work.result.now c.fill.new.self
    c.requires.rests refl (c.requires.ready.each c.args.at c.index-part.result.now part_is)
    (c.requires.fits.each c.args.at c.index-part.result.now c.index_mut-work.result.now part_is work_is)
    (c.fill.ensures.costs ∙ ap (λ (xs : List ℚ). found xs c.columns-numbers.result.now) c.as_slice.ensures.value
    ∙ ap (found c.args.scratch.now.rests.items) c.columns-numbers.ensures)
    (c.fill.ensures.box_ ∙ ap (found c.args.bounds.now) c.columns-numbers.ensures)
    c.fill.ensures.choices

pub returns-in-Ok-clause-fits : goal.returns-in-Ok-clause-fits
returns-in-Ok-clause-fits c =
    let parts = c.args.blocks.now.subproblems.items in
    fitting_set parts c.args.scratch.now.blocks.items c.args.at c.index-part.result.now c.bound_block.new.work
    c.requires.fits
    (slice_get_read parts (length parts) c.args.at c.index-part.result.now refl c.requires.inside c.index-part.ensures)
    c.in-Ok.ensures.fits

pub returns-in-Err-clause-fits : goal.returns-in-Err-clause-fits
returns-in-Err-clause-fits c =
    let parts = c.args.blocks.now.subproblems.items in
    fitting_set parts c.args.scratch.now.blocks.items c.args.at c.index-part.result.now c.bound_block.new.work
    c.requires.fits
    (slice_get_read parts (length parts) c.args.at c.index-part.result.now refl c.requires.inside c.index-part.ensures)
    c.in-Err.ensures.fits

pub returns-in-Ok-clause-steps : goal.returns-in-Ok-clause-steps
returns-in-Ok-clause-steps c = λ part e.
    let parts = c.args.blocks.now.subproblems.items in
    let works = c.args.scratch.now.blocks.items in
    let room : ℕ = length c.args.scratch.now.row.entries in
    let part_is : slice_get parts c.args.at ≡ Some c.index-part.result.now =
    slice_get_read parts (length parts) c.args.at c.index-part.result.now refl c.requires.inside c.index-part.ensures in
    let inside : c.args.at < length works = omega (arith, c.requires.inside, c.requires.fits.long) in
    let work_is : slice_get works c.args.at ≡ Some c.index_mut-work.result.now =
    slice_get_read works (length works) c.args.at c.index_mut-work.result.now refl inside c.index_mut-work.ensures.value
    in
    let before = c.requires.fits.each c.args.at c.index-part.result.now c.index_mut-work.result.now part_is work_is in
    let numbers : List ℕ = (part_at c.args.blocks.now.blocks c.args.at).columns in
    let same : c.index-part.result.now ≡ part = same_Some c.index-part.result.now part (sym part_is ∙ e) in
    c.sum_of.ensures
    ∙ ap (λ o. block_added c.args.at o c.args.bound)
    (c.in-Ok.ensures.steps
    ∙ filled_outcome room numbers c.index-part.result.now c.args.scratch.now.rests.items c.args.bounds.now
    c.args.tree.now c.fill.new.self
    (c.fill.ensures.costs ∙ ap (λ (xs : List ℚ). found xs c.columns-numbers.result.now) c.as_slice.ensures.value
    ∙ ap (found c.args.scratch.now.rests.items) c.columns-numbers.ensures)
    (c.fill.ensures.box_ ∙ ap (found c.args.bounds.now) c.columns-numbers.ensures)
    (c.fill.ensures.choices ∙ before.choices)
    ∙ ap (λ (p : Subproblem). block_outcome room numbers p c.args.scratch.now.rests.items c.args.bounds.now
    c.args.tree.now) same)

pub returns-in-Err-clause-steps : goal.returns-in-Err-clause-steps
returns-in-Err-clause-steps c = λ part e.
    let parts = c.args.blocks.now.subproblems.items in
    let works = c.args.scratch.now.blocks.items in
    let room : ℕ = length c.args.scratch.now.row.entries in
    let part_is : slice_get parts c.args.at ≡ Some c.index-part.result.now =
    slice_get_read parts (length parts) c.args.at c.index-part.result.now refl c.requires.inside c.index-part.ensures in
    let inside : c.args.at < length works = omega (arith, c.requires.inside, c.requires.fits.long) in
    let work_is : slice_get works c.args.at ≡ Some c.index_mut-work.result.now =
    slice_get_read works (length works) c.args.at c.index_mut-work.result.now refl inside c.index_mut-work.ensures.value
    in
    let before = c.requires.fits.each c.args.at c.index-part.result.now c.index_mut-work.result.now part_is work_is in
    let numbers : List ℕ = (part_at c.args.blocks.now.blocks c.args.at).columns in
    let same : c.index-part.result.now ≡ part = same_Some c.index-part.result.now part (sym part_is ∙ e) in
    ap (λ o. block_added c.args.at o c.args.bound)
    (c.in-Err.ensures.steps
    ∙ filled_outcome room numbers c.index-part.result.now c.args.scratch.now.rests.items c.args.bounds.now
    c.args.tree.now c.fill.new.self
    (c.fill.ensures.costs ∙ ap (λ (xs : List ℚ). found xs c.columns-numbers.result.now) c.as_slice.ensures.value
    ∙ ap (found c.args.scratch.now.rests.items) c.columns-numbers.ensures)
    (c.fill.ensures.box_ ∙ ap (found c.args.bounds.now) c.columns-numbers.ensures)
    (c.fill.ensures.choices ∙ before.choices)
    ∙ ap (λ (p : Subproblem). block_outcome room numbers p c.args.scratch.now.rests.items c.args.bounds.now
    c.args.tree.now) same)

pub columns-numbers-requires : goal.columns-numbers-requires
columns-numbers-requires c = omega (arith, c.requires.inside, c.requires.ready.blocks)

pub fill-requires-clause-costs : goal.fill-requires-clause-costs
fill-requires-clause-costs c =
    let parts = c.args.blocks.now.subproblems.items in
    let works = c.args.scratch.now.blocks.items in
    let part_is : slice_get parts c.args.at ≡ Some c.index-part.result.now =
    slice_get_read parts (length parts) c.args.at c.index-part.result.now refl c.requires.inside c.index-part.ensures in
    let ready = c.requires.ready.each c.args.at c.index-part.result.now part_is in
    let inside : c.args.at < length works = omega (arith, c.requires.inside, c.requires.fits.long) in
    let work_is : slice_get works c.args.at ≡ Some c.index_mut-work.result.now =
    slice_get_read works (length works) c.args.at c.index_mut-work.result.now refl inside c.index_mut-work.ensures.value
    in
    let before = c.requires.fits.each c.args.at c.index-part.result.now c.index_mut-work.result.now part_is work_is in
    before.costs ∙ ready.long ∙ sym (ap length c.columns-numbers.ensures)

pub fill-requires-clause-box_ : goal.fill-requires-clause-box_
fill-requires-clause-box_ c =
    let parts = c.args.blocks.now.subproblems.items in
    let works = c.args.scratch.now.blocks.items in
    let part_is : slice_get parts c.args.at ≡ Some c.index-part.result.now =
    slice_get_read parts (length parts) c.args.at c.index-part.result.now refl c.requires.inside c.index-part.ensures in
    let ready = c.requires.ready.each c.args.at c.index-part.result.now part_is in
    let inside : c.args.at < length works = omega (arith, c.requires.inside, c.requires.fits.long) in
    let work_is : slice_get works c.args.at ≡ Some c.index_mut-work.result.now =
    slice_get_read works (length works) c.args.at c.index_mut-work.result.now refl inside c.index_mut-work.ensures.value
    in
    let before = c.requires.fits.each c.args.at c.index-part.result.now c.index_mut-work.result.now part_is work_is in
    before.bounds ∙ ready.long ∙ sym (ap length c.columns-numbers.ensures)

pub fill-requires-clause-few : goal.fill-requires-clause-few
fill-requires-clause-few c =
    let parts = c.args.blocks.now.subproblems.items in
    let works = c.args.scratch.now.blocks.items in
    let part_is : slice_get parts c.args.at ≡ Some c.index-part.result.now =
    slice_get_read parts (length parts) c.args.at c.index-part.result.now refl c.requires.inside c.index-part.ensures in
    let ready = c.requires.ready.each c.args.at c.index-part.result.now part_is in
    omega (arith, ready.few, ap length c.columns-numbers.ensures)

pub fill-requires-clause-each : goal.fill-requires-clause-each
fill-requires-clause-each c = sym (ap length c.as_slice.ensures.value ∙ c.requires.rests)

pub fill-requires-clause-numbers : goal.fill-requires-clause-numbers
fill-requires-clause-numbers c =
    let parts = c.args.blocks.now.subproblems.items in
    let works = c.args.scratch.now.blocks.items in
    let part_is : slice_get parts c.args.at ≡ Some c.index-part.result.now =
    slice_get_read parts (length parts) c.args.at c.index-part.result.now refl c.requires.inside c.index-part.ensures in
    let ready = c.requires.ready.each c.args.at c.index-part.result.now part_is in
    let count : length c.args.bounds.now ≡ length c.as_slice.result.now =
    sym (ap length c.as_slice.ensures.value ∙ c.requires.rests) in
    subst (λ n. All (λ number. number < n) c.columns-numbers.result.now) count
    (subst (All (λ number. number < length c.args.bounds.now)) (sym c.columns-numbers.ensures) ready.within)

pub bound_block-requires-clause-can : goal.bound_block-requires-clause-can
bound_block-requires-clause-can c =
    let parts = c.args.blocks.now.subproblems.items in
    let works = c.args.scratch.now.blocks.items in
    let part_is : slice_get parts c.args.at ≡ Some c.index-part.result.now =
    slice_get_read parts (length parts) c.args.at c.index-part.result.now refl c.requires.inside c.index-part.ensures in
    let ready = c.requires.ready.each c.args.at c.index-part.result.now part_is in
    ready.can

pub overflow_cast-result : goal.overflow_cast-result
overflow_cast-result c = omega (arith, c.requires.inside, c.requires.ready.few)

pub returns-in-Ok-clause-rests : goal.returns-in-Ok-clause-rests
returns-in-Ok-clause-rests c = refl

pub returns-in-Err-clause-rests : goal.returns-in-Err-clause-rests
returns-in-Err-clause-rests c = refl

pub returns-in-Ok-clause-row : goal.returns-in-Ok-clause-row
returns-in-Ok-clause-row c = c.in-Ok.ensures.columns

pub returns-in-Err-clause-row : goal.returns-in-Err-clause-row
returns-in-Err-clause-row c = c.in-Err.ensures.columns
