use Rattle.std.proofs.Common.{◌≡◌, ◌+◌, ◌*◌, ◌≤◌}
use Rattle.cip_roster.proofs.Beginning.{BegunSoFar}
use Rattle.cip_roster.proofs.starting.begin_all.Given as goal

abbrev pub invariant-loop-id : goal.invariant-loop-id
invariant-loop-id g l = record {
  so_far : BegunSoFar l.id (g.R.Seated.state l.initial.roster) (g.R.Seated.state l.roster);
  room : (g.R.Seated.room l.initial.roster).lines ≤ (g.R.Seated.room l.roster).lines + 4 * l.id;
  rankings : (g.R.Seated.room l.roster).rankings ≡ (g.R.Seated.room l.initial.roster).rankings;
}
