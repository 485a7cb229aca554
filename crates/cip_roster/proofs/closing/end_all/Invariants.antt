use Rattle.cip_roster.specs.Turns.{IsSound}
use Rattle.cip_roster.proofs.Ending.{EndedSoFar}
use Rattle.cip_roster.proofs.closing.end_all.Given as goal

abbrev pub invariant-loop-place : goal.invariant-loop-place
invariant-loop-place g l = record {
  so_far : EndedSoFar l.place (g.R.Seated.state l.initial.roster) (g.R.Seated.state l.roster)
      (g.R.Seated.room l.roster).lines;
  sound : IsSound (g.R.Seated.state l.roster) (g.R.Seated.room l.roster);
}
