use Rattle.std.proofs.Common.{◌≡◌, ◌≢◌, ◌++◌, false, take}
use Rattle.cip_calls.specs.Asked.{ask_in, told, proposers, AreSeated}
use Rattle.cip_calls.specs.Noted.{HasGone, IsSameNode, makers}
use Rattle.cip_calls.specs.declared.asks.Round.TheVariants as round
use Rattle.cip_calls.proofs.plugins.Plugins.take_all.Given as goal

abbrev pub invariant-loop-id : goal.invariant-loop-id
invariant-loop-id g l = record {
  gone : HasGone l.initial.core l.initial.node (g.R.Seated.state l.initial.self.roster) l.core l.node l.self.scratches (g.R.Seated.state l.self.roster) (g.R.Seated.room l.self.roster);
  seated : AreSeated (g.R.Seated.state l.self.roster) l.gave;
  judged : makers l.self.judged.items ≡ makers l.initial.self.judged.items ++ proposers (ask_in l.round) (told (take l.id-index l.gave));
  node : l.round ≢ round.Sides → IsSameNode l.initial.core l.core l.initial.node l.node;
  rows : l.any ≡ false → l.core.pool ≡ l.initial.core.pool;
  pool : l.round ≢ round.Cuts → l.core.pool ≡ l.initial.core.pool;
}
