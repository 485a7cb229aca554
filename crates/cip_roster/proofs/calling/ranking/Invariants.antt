use Rattle.cip_plugin.specs.Calling.{is_ready}
use Rattle.cip_roster.proofs.Ranking.{Ranked}
use Rattle.cip_roster.proofs.calling.ranking.Given as goal

abbrev pub invariant-loop-id : goal.invariant-loop-id
invariant-loop-id g l = Ranked (is_ready l.kind) l.id (g.R.Seated.state l.roster).seats l.keys.items
