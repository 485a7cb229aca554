use Rattle.std.proofs.Common.{true≢false, sym}
use Rattle.cip_calls.proofs.rosters.RosterAsks.has_none.Goals as goal

pub returns : goal.returns
returns g c = λ e. absurd (true≢false (sym e))
