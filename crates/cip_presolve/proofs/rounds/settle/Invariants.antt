use Rattle.std.proofs.Common.{◌≡◌, length}
use Rattle.cip_search.specs.NarrowedPrograms.{IsExactStep}
use Rattle.cip_presolve.proofs.rounds.settle.Given as goal

abbrev pub invariant-loop : goal.invariant-loop
invariant-loop l = record {
  step : IsExactStep l.initial.draft l.draft;
  rows : length l.draft.rows ≡ length l.initial.draft.rows;
}
