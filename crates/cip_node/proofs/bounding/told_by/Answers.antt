use Rattle.std.proofs.Common.{sym, ap}
use Rattle.cip_node.specs.Bounding.{told_of}
use Rattle.cip_node.proofs.bounding.told_by.Goals as goal

pub returns-in-Empty : goal.returns-in-Empty
returns-in-Empty c = sym (ap told_of c.in-Empty.is)

pub returns-in-Bound : goal.returns-in-Bound
returns-in-Bound c = rw c.found_at.ensures (sym (ap told_of c.in-Bound.is))

pub returns-in-Near : goal.returns-in-Near
returns-in-Near c = rw c.found_at-in-Near.ensures (sym (ap told_of c.in-Near.is))

pub returns-in-Falls : goal.returns-in-Falls
returns-in-Falls c = rw c.found_at-in-Falls.ensures (sym (ap told_of c.in-Falls.is))

pub returns-in-Unsolved : goal.returns-in-Unsolved
returns-in-Unsolved c = sym (ap told_of c.in-Unsolved.is)
