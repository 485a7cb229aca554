use Rattle.std.proofs.lemmas.Grind.{common_steps}
use Rattle.std.proofs.Common.{◌≡◌, ◌+◌, refl, ap, ◌∙◌, arith}
use Rattle.cip_problem.specs.Aggregate.{Inequality}
use Rattle.cip_cert.specs.Checks.{add_high, add_highs}
use Rattle.cip_cert.proofs.Stepwise.{entry_added, entry_failed, entries_added}
use Rattle.cip_cert.proofs.entries.add_highs.Goals as goal

pub loop-at-init : goal.loop-at-init
loop-at-init c =
    let same : c.args.first + 0 ≡ c.args.first = omega arith in
    record {
      steps = ap (λ n. add_highs c.args.bounds.now n c.args.multiples.now
          (let row : Inequality = record { coefficients = c.args.row.now.entries; least = c.args.start } in row)) same;
      columns = refl;
    }

pub bounds-multiples-at : goal.bounds-multiples-at
bounds-multiples-at c = c.loop-at-test.true

pub add_high-requires : goal.add_high-requires
add_high-requires c = omega (arith, c.loop-at.invariant.columns, c.requires.room)

pub returns-in-Err-clause-steps : goal.returns-in-Err-clause-steps
returns-in-Err-clause-steps c =
    entry_failed (add_high c.args.bounds.now) (add_highs c.args.bounds.now) (λ n m ms i. refl) (λ n i. refl)
    (c.args.first + c.loop-at.at) c.loop-at.at c.args.multiples.now _ _ c.loop-at.invariant.steps
    c.index-multiples-at.result c.in-Err.fault c.loop-at-test.true c.index-multiples-at.is c.in-Err.ensures.steps

pub returns-in-Err-clause-columns : goal.returns-in-Err-clause-columns
returns-in-Err-clause-columns c = c.in-Err.ensures.columns ∙ c.loop-at.invariant.columns

pub loop-at-preserved : goal.loop-at-preserved
loop-at-preserved c = record {
  steps =
      entry_added (add_high c.args.bounds.now) (add_highs c.args.bounds.now) (λ n m ms i. refl) (λ n i. refl)
      (c.args.first + c.loop-at.at) c.loop-at.at c.args.multiples.now _ _ c.loop-at.invariant.steps
      c.index-multiples-at.result _ (c.args.first + (c.loop-at.at + 1))
      (omega arith) c.loop-at-test.true c.index-multiples-at.is c.in-Ok.ensures.steps;
  columns = c.in-Ok.ensures.columns ∙ c.loop-at.invariant.columns;
}

pub returns-clause-steps : goal.returns-clause-steps
returns-clause-steps c =
    entries_added (add_high c.args.bounds.now) (add_highs c.args.bounds.now) (λ n m ms i. refl) (λ n i. refl)
    (c.args.first + c.loop-at.at) c.loop-at.at c.args.multiples.now _ _ c.loop-at.invariant.steps
    c.loop-at-test.false

pub returns-clause-columns : goal.returns-clause-columns
returns-clause-columns c = c.loop-at.invariant.columns

pub offset_bounds-multiples-at : goal.offset_bounds-multiples-at
offset_bounds-multiples-at c = grind (arith, common_steps)

pub overflow_add-first : goal.overflow_add-first
overflow_add-first c = grind (arith, common_steps)
