use Rattle.std.proofs.Common.{◌≡◌, length}
use Rattle.cip_search.specs.NarrowedPrograms.{IsExactStep}
use Rattle.cip_presolve.proofs.rounds.merge_rows.Given as goal

abbrev pub invariant-loop-at : goal.invariant-loop-at
invariant-loop-at l = record {
  step : IsExactStep l.initial.draft l.draft;
  rows : length l.draft.rows ≡ length l.initial.draft.rows;
}
