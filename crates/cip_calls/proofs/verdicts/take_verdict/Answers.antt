use Rattle.std.proofs.Common.{refl}
use Rattle.cip_calls.proofs.Noting.{gone_none}
use Rattle.cip_calls.proofs.Said.{alone_none, none_judged, one_judged_on}
use Rattle.cip_calls.proofs.verdicts.take_verdict.Goals as goal

pub returns-in-None-clause-gone : goal.returns-in-None-clause-gone
returns-in-None-clause-gone g c =
    gone_none c.args.core.now c.args.node.now (g.R.Seated.state c.args.plugins.now.roster) (g.R.Seated.room c.args.plugins.now.roster) c.args.plugins.now.scratches c.requires.ready c.requires.sound

pub returns-in-None-clause-verdict : goal.returns-in-None-clause-verdict
returns-in-None-clause-verdict g c = alone_none c.args.core.now c.args.node.now

pub returns-in-None-clause-judged : goal.returns-in-None-clause-judged
returns-in-None-clause-judged g c = none_judged _ c.args.id c.args.given _ refl c.in-None.is

pub returns-in-Some-clause-judged : goal.returns-in-Some-clause-judged
returns-in-Some-clause-judged g c =
    one_judged_on c.take_said-verdict.result _ c.args.id c.args.given c.in-Some.said _ _ refl c.in-Some.is c.take_said-verdict.ensures.judged

pub returns-in-Some-clause-verdict : goal.returns-in-Some-clause-verdict
returns-in-Some-clause-verdict g c = c.take_said-verdict.ensures.verdict

pub returns-in-Some-clause-gone : goal.returns-in-Some-clause-gone
returns-in-Some-clause-gone g c = c.take_said-verdict.ensures.gone

pub take_said-verdict-requires-clause-ready : goal.take_said-verdict-requires-clause-ready
take_said-verdict-requires-clause-ready g c = c.requires.ready

pub take_said-verdict-requires-clause-seat : goal.take_said-verdict-requires-clause-seat
take_said-verdict-requires-clause-seat g c = c.requires.seat

pub take_said-verdict-requires-clause-sound : goal.take_said-verdict-requires-clause-sound
take_said-verdict-requires-clause-sound g c = c.requires.sound
