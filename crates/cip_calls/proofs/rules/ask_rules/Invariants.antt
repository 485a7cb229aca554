use Rattle.std.proofs.Common.{◌≡◌, length}
use Rattle.cip_plugin.specs.Calls.{Branch}
use Rattle.cip_calls.specs.Turns.{IsSound}
use Rattle.cip_calls.specs.Waiting.{waiting}
use Rattle.cip_calls.proofs.SoFar.{SoFar}
use Rattle.cip_calls.proofs.rules.ask_rules.Given as goal

abbrev pub invariant-loop-id : goal.invariant-loop-id
invariant-loop-id g l = record {
  sound : IsSound (g.R.Seated.state l.plugins.roster) (g.R.Seated.room l.plugins.roster);
  so_far : SoFar Branch (g.R.Seated.state l.initial.plugins.roster) l.initial.plugins.judged.items (g.R.Seated.state l.plugins.roster) l.plugins.judged.items l.after;
  scratches : l.plugins.scratches ≡ l.initial.plugins.scratches;
}

abbrev pub decreases-loop-id : goal.decreases-loop-id
decreases-loop-id g l = length (waiting Branch (g.R.Seated.state l.plugins.roster).seats l.after)
