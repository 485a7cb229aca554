use Rattle.std.proofs.Common.{◌≡◌}
use Rattle.cip_search.specs.NarrowedPrograms.{IsExactStep}
use Rattle.cip_presolve.specs.Taken.{IsEnclosed}
use Rattle.cip_presolve.proofs.row_looks.imply.Given as goal

abbrev pub invariant-loop-at : goal.invariant-loop-at
invariant-loop-at l = record {
  step : IsExactStep l.initial.draft l.draft;
  rows : l.draft.rows ≡ l.initial.draft.rows;
  enclosed : IsEnclosed l.draft l.row l.extent;
}
