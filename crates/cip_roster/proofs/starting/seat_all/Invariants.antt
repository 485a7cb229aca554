use Rattle.std.proofs.Common.{◌≡◌, ◌≤◌, length, map}
use Rattle.std.specs.Vec.Iter.{drain_items}
use Rattle.cip_roster.proofs.Beginning.{SeatedSoFar}
use Rattle.cip_roster.proofs.starting.seat_all.Given as goal

abbrev pub invariant-loop-plugin : goal.invariant-loop-plugin
invariant-loop-plugin g l = record {
  so_far : SeatedSoFar (map g.P.Tells.who (drain_items l.plugin-iterator))
      (map g.P.Tells.who (drain_items l.initial.plugin-iterator)) (g.R.Seated.state l.initial.roster)
      (g.R.Seated.state l.roster);
  room : g.R.Seated.room l.roster ≡ g.R.Seated.room l.initial.roster;
  spare : length (drain_items l.plugin-iterator) ≤ g.R.Seats.spare l.roster;
}
