use Rattle.std.proofs.Common.{take, All}
use Rattle.std.specs.Prelude.{slice_get, IsSome}
use Rattle.cip_plugin.specs.Calling.{ids_of}
use Rattle.cip_roster.specs.Turns.{IsSound}
use Rattle.cip_roster.proofs.OneEvent.{ToldTo}
use Rattle.cip_roster.proofs.delivering.tell_each.Given as goal

abbrev pub invariant-loop-key : goal.invariant-loop-key
invariant-loop-key g l = record {
  told : ToldTo l.view.node l.event (ids_of (take l.key-index l.keys)) (g.R.Seated.state l.initial.roster)
      (g.R.Seated.state l.roster) l.initial.queue l.queue;
  seated : All (λ k. IsSome (slice_get (g.R.Seated.state l.initial.roster).seats k.id)) l.keys;
  sound : IsSound (g.R.Seated.state l.roster) (g.R.Seated.room l.roster);
}
