use Rattle.std.proofs.Common.{◌≡◌, ◌≢◌, ◌∷◌, []}
use Rattle.cip_plugin.specs.Calls.{Propagate}
use Rattle.cip_calls.specs.ProposalsJudged.{IsShownEmpty}
use Rattle.cip_calls.specs.Noted.{HasCome}
use Rattle.cip_calls.specs.Served.{Used}
use Rattle.cip_calls.specs.declared.judging.Came.TheVariants.{Emptied}
use Rattle.cip_calls.proofs.plugins.Plugins.propagate.Given as goal

abbrev pub invariant-loop : goal.invariant-loop
invariant-loop g l = record {
  come : HasCome l.fn.core l.fn.node (g.R.Seated.state l.fn.self.roster) l.core l.node l.self.scratches (g.R.Seated.state l.self.roster) (g.R.Seated.room l.self.roster);
  used : l.newest ≢ Emptied → Used (Propagate ∷ []) (g.R.Seated.state l.fn.self.roster) l.fn.self.judged.items (g.R.Seated.state l.self.roster) l.self.judged.items;
  emptied : l.newest ≡ Emptied → IsShownEmpty l.core l.node;
  pool : l.core.pool ≡ l.fn.core.pool;
}
