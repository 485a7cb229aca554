use Rattle.std.proofs.Common.{◌+◌, List, length}
use Rattle.cip_events.specs.declared.events.Event.{Event}
use Rattle.cip_plugin.proofs.Counting.{left_over}
use Rattle.cip_roster.specs.Turns.{IsSound}
use Rattle.cip_roster.proofs.Throughout.{ToldSoFar}
use Rattle.cip_roster.proofs.delivering.deliver.Given as goal

abbrev pub invariant-loop-event : goal.invariant-loop-event
invariant-loop-event g l = record {
  told : (told : List Event) × ToldSoFar l.view.node l.initial.queue told (g.R.Seated.state l.initial.roster)
      (g.R.Seated.state l.roster) l.queue;
  sound : IsSound (g.R.Seated.state l.roster) (g.R.Seated.room l.roster);
}

abbrev pub decreases-loop-event : goal.decreases-loop-event
decreases-loop-event g l = left_over (g.R.Seated.state l.roster) + length l.queue
