use Rattle.std.proofs.lemmas.Grind.{common_steps}
use Rattle.std.proofs.Common.{◌+◌, refl, sym, ◌∙◌, arith, add-one}
use Rattle.cip_cert.specs.Lent.{lent_of}
use Rattle.cip_cert.specs.Checks.{add_row, add_rows}
use Rattle.cip_cert.proofs.Stepwise.{entry_added, entry_failed, entries_added}
use Rattle.cip_cert.proofs.entries.add_rows.Goals as goal

pub loop-at-init : goal.loop-at-init
loop-at-init c = record { steps = refl; columns = refl }

pub bounds-multiples-at : goal.bounds-multiples-at
bounds-multiples-at c = c.loop-at-test.true

pub add_row-requires-clause-fits : goal.add_row-requires-clause-fits
add_row-requires-clause-fits c = c.requires.fits

pub add_row-requires-clause-room : goal.add_row-requires-clause-room
add_row-requires-clause-room c = omega (arith, c.loop-at.invariant.columns, c.requires.room)

pub returns-in-Err-clause-steps : goal.returns-in-Err-clause-steps
returns-in-Err-clause-steps c =
    entry_failed (add_row (lent_of c.args.rows.now) c.args.bounds.now) (add_rows
    (lent_of c.args.rows.now) c.args.bounds.now) (λ n m ms i. refl)
    (λ n i. refl) c.loop-at.at c.loop-at.at c.args.multiples.now _ _ c.loop-at.invariant.steps
    c.index-multiples-at.result c.in-Err.fault c.loop-at-test.true c.index-multiples-at.is c.in-Err.ensures.steps

pub returns-in-Err-clause-columns : goal.returns-in-Err-clause-columns
returns-in-Err-clause-columns c = c.in-Err.ensures.columns ∙ c.loop-at.invariant.columns

pub loop-at-preserved : goal.loop-at-preserved
loop-at-preserved c = record {
  steps =
      entry_added (add_row (lent_of c.args.rows.now) c.args.bounds.now) (add_rows
      (lent_of c.args.rows.now) c.args.bounds.now) (λ n m ms i. refl)
      (λ n i. refl) c.loop-at.at c.loop-at.at c.args.multiples.now _ _ c.loop-at.invariant.steps
      c.index-multiples-at.result _ (c.loop-at.at + 1) (sym (add-one c.loop-at.at)) c.loop-at-test.true
      c.index-multiples-at.is c.in-Ok.ensures.steps;
  columns = c.in-Ok.ensures.columns ∙ c.loop-at.invariant.columns;
}

pub returns-clause-steps : goal.returns-clause-steps
returns-clause-steps c =
    entries_added (add_row (lent_of c.args.rows.now) c.args.bounds.now) (add_rows
    (lent_of c.args.rows.now) c.args.bounds.now) (λ n m ms i. refl)
    (λ n i. refl) c.loop-at.at c.loop-at.at c.args.multiples.now _ _ c.loop-at.invariant.steps c.loop-at-test.false

pub returns-clause-columns : goal.returns-clause-columns
returns-clause-columns c = c.loop-at.invariant.columns

pub offset_bounds-multiples-at : goal.offset_bounds-multiples-at
offset_bounds-multiples-at c = grind (arith, common_steps)
