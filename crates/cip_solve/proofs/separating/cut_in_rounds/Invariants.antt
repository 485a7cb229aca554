use Rattle.std.proofs.Common.{◌≡◌, []}
use Rattle.cip_tree.specs.Nodes.{region_of}
use Rattle.cip_calls.specs.Noted.{HasCome}
use Rattle.cip_calls.specs.Served.{Used}
use Rattle.cip_solve.specs.NodesReached.{IsFoundAt}
use Rattle.cip_solve.proofs.separating.cut_in_rounds.Given as goal

abbrev pub invariant-loop : goal.invariant-loop
invariant-loop g l = record {
  come : HasCome l.fn.work.core l.fn.node (g.R.Seated.state l.fn.plugins.roster) l.work.core l.node l.plugins.scratches (g.R.Seated.state l.plugins.roster) (g.R.Seated.room l.plugins.roster);
  used : Used [] (g.R.Seated.state l.fn.plugins.roster) l.fn.plugins.judged.items (g.R.Seated.state l.plugins.roster) l.plugins.judged.items;
  region : region_of l.work.core.tree l.node ≡ region_of l.fn.work.core.tree l.fn.node;
  found : IsFoundAt l.work.core l.node l.found;
}
