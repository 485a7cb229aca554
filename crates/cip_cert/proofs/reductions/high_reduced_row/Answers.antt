use Rattle.std.proofs.lemmas.Grind.{common_steps}
use Rattle.std.proofs.Common.{◌≡◌, ◌<◌, false, List, length, get_or, Option, Result, arith, sym, ap, ◌∙◌}
use Rattle.std.proofs.lemmas.List.{get_or_default}
use Rattle.cip_rational.specs.Rational.{ℚ, zeroℚ}
use Rattle.cip_problem.specs.Activity.{value_at}
use Rattle.cip_cert.specs.Checks.{chain, implied_high, high_allowed}
use Rattle.cip_cert.specs.declared.faults.CutFault.{CutFault}
use Rattle.cip_cert.proofs.reductions.high_reduced_row.Goals as goal

pub returns-in-Err-clause-steps : goal.returns-in-Err-clause-steps
returns-in-Err-clause-steps c = sym (c.in-Err.ensures.next (λ (ds : List ℚ) (bound : ℚ). chain
    (implied_high c.args.column (get_or c.args.rows.now.whole.now c.args.column false)
    (value_at ds c.args.column) bound) (high_allowed c.args.value)))

pub returns-in-Err-high_side-clause-steps : goal.returns-in-Err-high_side-clause-steps
returns-in-Err-high_side-clause-steps c =
    let whole = get_or c.args.rows.now.whole.now c.args.column false in
    let row = c.rests_row.new.row.entries in
    let inside : c.args.column < length row = omega (
      arith,
      c.requires.inside,
      c.requires.room,
      c.rests_row.ensures.columns,
    ) in
    let coefficient : value_at row c.args.column ≡ c.index-entries-column.result =
    get_or_default row c.args.column zeroℚ c.index-entries-column.result inside
    ∙ sym (c.index-entries-column.is ∙ ap (λ (ds : List ℚ). get_or ds c.args.column c.index-entries-column.result)
    c.entries.ensures.entries) in
    sym (c.in-Ok.ensures.next (λ (ds : List ℚ) (bound : ℚ). chain (implied_high c.args.column whole
    (value_at ds c.args.column) bound) (high_allowed c.args.value))
    ∙ ap (λ (q : ℚ). chain (implied_high c.args.column whole q c.in-Ok.bound) (high_allowed c.args.value)) coefficient
    ∙ ap (λ (r : Result (Option ℚ) CutFault). chain r (high_allowed c.args.value)) (sym c.in-Err-high_side.ensures))

pub returns-in-Ok-high_side-clause-steps : goal.returns-in-Ok-high_side-clause-steps
returns-in-Ok-high_side-clause-steps c =
    let whole = get_or c.args.rows.now.whole.now c.args.column false in
    let row = c.rests_row.new.row.entries in
    let inside : c.args.column < length row = omega (
      arith,
      c.requires.inside,
      c.requires.room,
      c.rests_row.ensures.columns,
    ) in
    let coefficient : value_at row c.args.column ≡ c.index-entries-column.result =
    get_or_default row c.args.column zeroℚ c.index-entries-column.result inside
    ∙ sym (c.index-entries-column.is ∙ ap (λ (ds : List ℚ). get_or ds c.args.column c.index-entries-column.result)
    c.entries.ensures.entries) in
    c.allow_high.ensures
    ∙ sym (c.in-Ok.ensures.next (λ (ds : List ℚ) (bound : ℚ). chain (implied_high c.args.column whole
    (value_at ds c.args.column) bound) (high_allowed c.args.value))
    ∙ ap (λ (q : ℚ). chain (implied_high c.args.column whole q c.in-Ok.bound) (high_allowed c.args.value)) coefficient
    ∙ ap (λ (r : Result (Option ℚ) CutFault). chain r (high_allowed c.args.value)) (sym c.in-Ok-high_side.ensures))

pub rests_row-requires-clause-fits : goal.rests_row-requires-clause-fits
rests_row-requires-clause-fits c = c.requires.fits

pub rests_row-requires-clause-room : goal.rests_row-requires-clause-room
rests_row-requires-clause-room c = c.requires.room

pub returns-in-Err-clause-columns : goal.returns-in-Err-clause-columns
returns-in-Err-clause-columns c = c.in-Err.ensures.columns

pub bounds-entries-column : goal.bounds-entries-column
bounds-entries-column c = omega (
  arith,
  ap length c.entries.ensures.entries,
  c.requires.inside,
  c.requires.room,
  c.rests_row.ensures.columns,
)

pub bounds-rows-column : goal.bounds-rows-column
bounds-rows-column c = omega (arith, c.requires.flags, c.requires.inside)

pub returns-in-Ok-high_side-clause-columns : goal.returns-in-Ok-high_side-clause-columns
returns-in-Ok-high_side-clause-columns c = c.in-Ok.ensures.columns

pub returns-in-Err-high_side-clause-columns : goal.returns-in-Err-high_side-clause-columns
returns-in-Err-high_side-clause-columns c = c.in-Ok.ensures.columns

pub offset_bounds-entries-column : goal.offset_bounds-entries-column
offset_bounds-entries-column c = grind (arith, common_steps)
