use Rattle.std.proofs.Common.{length}
use Rattle.cip_plugin.specs.Calls.{Enforce}
use Rattle.cip_calls.specs.Noted.{HasCome}
use Rattle.cip_calls.specs.Waiting.{waiting}
use Rattle.cip_calls.specs.Enforcing.{IsLeftAlone}
use Rattle.cip_calls.proofs.SoFar.{SoFar}
use Rattle.cip_calls.proofs.enforcing.enforce.Given as goal

abbrev pub invariant-loop-id : goal.invariant-loop-id
invariant-loop-id g l = record {
  come : HasCome l.initial.core l.initial.node (g.R.Seated.state l.initial.plugins.roster) l.core l.node l.plugins.scratches (g.R.Seated.state l.plugins.roster) (g.R.Seated.room l.plugins.roster);
  so_far : SoFar Enforce (g.R.Seated.state l.initial.plugins.roster) l.initial.plugins.judged.items (g.R.Seated.state l.plugins.roster) l.plugins.judged.items l.after;
  alone : IsLeftAlone l.initial.core l.core l.initial.node l.node;
}

abbrev pub decreases-loop-id : goal.decreases-loop-id
decreases-loop-id g l = length (waiting Enforce (g.R.Seated.state l.plugins.roster).seats l.after)
