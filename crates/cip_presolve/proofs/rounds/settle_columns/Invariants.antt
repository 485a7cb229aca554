use Rattle.std.proofs.Common.{◌≡◌, length}
use Rattle.cip_search.specs.NarrowedPrograms.{IsExactStep}
use Rattle.cip_presolve.proofs.rounds.settle_columns.Given as goal

abbrev pub invariant-loop-column : goal.invariant-loop-column
invariant-loop-column l = record {
  step : IsExactStep l.initial.draft l.draft;
  rows : length l.draft.rows ≡ length l.initial.draft.rows;
  columns : length l.draft.bounds ≡ length l.initial.draft.bounds;
}
