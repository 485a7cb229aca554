use Rattle.std.proofs.Common.{◌≡◌, IsSome}
use Rattle.std.specs.Prelude.{slice_get}
use Rattle.cip_tree.specs.Nodes.{region_of}
use Rattle.cip_calls.specs.Noted.{HasGone, HasJudged}
use Rattle.cip_calls.proofs.plugins.Plugins.take_points.Given as goal

abbrev pub invariant-loop-guess : goal.invariant-loop-guess
invariant-loop-guess g l = record {
  gone : HasGone l.initial.core l.initial.node (g.R.Seated.state l.initial.self.roster) l.core l.node l.self.scratches (g.R.Seated.state l.self.roster) (g.R.Seated.room l.self.roster);
  seat : IsSome (slice_get (g.R.Seated.state l.self.roster).seats l.id);
  judged : HasJudged l.id l.guess-index l.initial.self.judged.items l.self.judged.items;
  region : region_of l.core.tree l.node ≡ region_of l.initial.core.tree l.initial.node;
  pool : l.core.pool ≡ l.initial.core.pool;
}
