use Rattle.std.proofs.Common.{◌≡◌, length}
use Rattle.cip_search.specs.NarrowedPrograms.{IsExactStep}
use Rattle.cip_presolve.specs.Substitutions.{IsFound}
use Rattle.cip_presolve.proofs.substituting.substitute.Given as goal

abbrev pub invariant-loop-at : goal.invariant-loop-at
invariant-loop-at l = record {
  step : IsExactStep l.initial.draft l.draft;
  found : IsFound l.draft l.found;
  rows : length l.draft.rows ≡ length l.initial.draft.rows;
}
