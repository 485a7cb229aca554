use Rattle.std.proofs.Common.{◌∷◌, []}
use Rattle.cip_events.specs.Events.{event_at}
use Rattle.cip_events.specs.declared.events.EventKind.TheVariants.{NodeFocused}
use Rattle.cip_plugin.specs.Calls.{OnEvent}
use Rattle.cip_calls.specs.Noted.{HasCome}
use Rattle.cip_calls.specs.Served.{Used}
use Rattle.cip_solve.proofs.node_turns.focus_and_turn.Given as goal

abbrev pub invariant-loop : goal.invariant-loop
invariant-loop g l = record {
  come : HasCome l.fn.work.core l.fn.node (g.R.Seated.state l.fn.plugins.roster) l.work.core l.node l.plugins.scratches (g.R.Seated.state l.plugins.roster) (g.R.Seated.room l.plugins.roster);
  used : Used (OnEvent (event_at l.fn.node.number NodeFocused) ∷ []) (g.R.Seated.state l.fn.plugins.roster) l.fn.plugins.judged.items (g.R.Seated.state l.plugins.roster) l.plugins.judged.items;
}
