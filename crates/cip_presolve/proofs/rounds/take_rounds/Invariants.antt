use Rattle.std.proofs.Common.{◌≡◌, length}
use Rattle.cip_search.specs.NarrowedPrograms.{IsStep}
use Rattle.cip_presolve.proofs.rounds.take_rounds.Given as goal

abbrev pub invariant-loop : goal.invariant-loop
invariant-loop l = record {
  step : IsStep l.initial.draft l.draft;
  rows : length l.draft.rows ≡ length l.initial.draft.rows;
}
