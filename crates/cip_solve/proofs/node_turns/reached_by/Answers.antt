use Rattle.std.proofs.Common.{sym, ap}
use Rattle.cip_solve.specs.NodesReached.{reached_by}
use Rattle.cip_solve.proofs.node_turns.reached_by.Goals as goal

pub returns-in-Quiet : goal.returns-in-Quiet
returns-in-Quiet c = sym (ap (reached_by c.args.found) c.in-Quiet.is)

pub returns-in-Emptied : goal.returns-in-Emptied
returns-in-Emptied c = sym (ap (reached_by c.args.found) c.in-Emptied.is)

pub returns-in-Changed : goal.returns-in-Changed
returns-in-Changed c = sym (ap (reached_by c.args.found) c.in-Changed.is)

pub returns-in-Place : goal.returns-in-Place
returns-in-Place c = sym (ap (reached_by c.args.found) c.in-Place.is)
