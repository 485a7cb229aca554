use Rattle.std.proofs.Common.{take}
use Rattle.cip_roster.specs.Turns.{IsSound}
use Rattle.cip_roster.specs.Wished.{TookQuietly}
use Rattle.cip_roster.proofs.delivering.grant.Given as goal

abbrev pub invariant-loop-wish : goal.invariant-loop-wish
invariant-loop-wish g l = record {
  took : TookQuietly l.id l.view.node (take l.wish-index l.wishes) (g.R.Seated.state l.initial.roster)
      (g.R.Seated.state l.roster) l.initial.queue l.queue;
  sound : IsSound (g.R.Seated.state l.roster) (g.R.Seated.room l.roster);
}
