use Rattle.std.proofs.Common.{◌≡◌, length}
use Rattle.cip_search.specs.NarrowedPrograms.{IsExactStep}
use Rattle.cip_presolve.proofs.substituting.substitute_all.Given as goal

abbrev pub invariant-loop-row : goal.invariant-loop-row
invariant-loop-row l = record {
  step : IsExactStep l.initial.draft l.draft;
  rows : length l.draft.rows ≡ length l.initial.draft.rows;
}
