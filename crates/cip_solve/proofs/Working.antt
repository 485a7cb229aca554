-- How the work on a node ends, with plugins or without, is what a search needs of it.
use Rattle.std.proofs.Common.{Bool, true, false, Option, Result, Ok, Err, sym, subst}
use Rattle.std.specs.Prelude.{MatchResult}
use Rattle.cip_problem.specs.Log.{Node}
use Rattle.cip_tree.specs.Nodes.{TakenNode}
use Rattle.cip_solve.specs.Mark.{Mark}
use Rattle.cip_solve.specs.CoreStates.{CoreState}
use Rattle.cip_solve.specs.NodeEnds.{IsEnd, HasEnded}
use Rattle.cip_solve.specs.NodeEnd.{NodeEnd}
use Rattle.cip_solve.specs.NodeEnd.TheVariants as by
use Rattle.cip_solve.specs.NodeRecord.{NodeRecord}
use Rattle.cip_solve.specs.NodesDone.{HasParted, HasEndedBy, IsDone}
use Rattle.cip_solve.specs.declared.ends.Done.{Done}
use Rattle.cip_solve.specs.NodesWorked.{IsWorkedEnd, HasWorked}

worked_end : (old new : CoreState) (node : TakenNode) (ended : Node) (mark : Option Mark) (end : NodeEnd) → IsEnd old new node ended mark end → IsWorkedEnd old new ended mark end
worked_end old new node ended mark by.Pruned h = record { entry = h.entry; kept = h.kept }
worked_end old new node ended mark by.Empty h = record { entry = h.entry; kept = h.kept }
worked_end old new node ended mark by.Solved h = record { entry = h.entry; kept = h.kept }
worked_end old new node ended mark (by.Split low high) h = record { column = h.column; at = h.at; entry = h.entry; kept = h.kept; good = h.good }
worked_end old new node ended mark (by.Parked leaf on bound shown) h = h
worked_end old new node ended mark (by.Ray point ray) h = h

-- without plugins
pub ended_worked : (old new : CoreState) (node : TakenNode) (mark : Option Mark) (end : NodeEnd) → HasEnded old new node mark end → HasWorked old new node mark end
ended_worked old new node mark end h = record {
  ended = h.ended;
  narrower = h.narrower;
  same = h.same;
  later = h.later;
  few = h.few;
  end_ = worked_end old new node h.ended mark end h.end_;
  met = h.met;
}

pub all_worked : {E : Type 0} (old new : CoreState) (node : TakenNode) (r : Result (NodeEnd × NodeRecord) E) (Back : Type 0) → MatchResult r (λ done. HasEnded old new node done.1.mark done.0) (λ _. Back) → MatchResult r (λ done. HasWorked old new node done.1.mark done.0) (λ _. Back)
all_worked old new node (Ok done) Back h = ended_worked old new node done.1.mark done.0 h
all_worked old new node (Err error) Back h = h

-- with plugins
parted_worked : (old new : CoreState) (node : TakenNode) (mark : Option Mark) (end : NodeEnd) → HasParted old new node mark end → HasWorked old new node mark end
parted_worked old new node mark end h = record {
  ended = h.ended;
  narrower = h.narrower;
  same = h.same;
  later = h.later;
  few = h.few;
  end_ = subst (IsWorkedEnd old new h.ended mark) (sym h.end_) (record { column = h.column; at = h.at; entry = h.entry; kept = h.kept; good = h.good });
  met = h.met;
}

by_worked : (proposed : Bool) (old new : CoreState) (node : TakenNode) (mark : Option Mark) (end : NodeEnd) → HasEndedBy proposed old new node mark end → HasWorked old new node mark end
by_worked false old new node mark end h = ended_worked old new node mark end h
by_worked true old new node mark end h = parted_worked old new node mark end h

pub done_worked : (old new : CoreState) (node : TakenNode) (done : Done) → IsDone old new node done → HasWorked old new node done.mark done.end
done_worked old new node done h = by_worked done.proposed old new node done.mark done.end h
