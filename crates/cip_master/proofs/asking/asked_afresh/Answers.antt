use Rattle.cip_master.proofs.Answered.{from_slack}
use Rattle.cip_master.proofs.asking.asked_afresh.Goals as goal

pub returns : goal.returns
returns c = from_slack c.args.limit c.args.lp.now c.in_ok-slack.slack c.in_ok-found.found c.in_ok-slack.ensures.stands c.in_ok-found.ensures.answer.0 c.in_ok-found.ensures.right
