-- How a node ends with plugins, from what its last step left, and seen from before the steps of its work.
use Rattle.std.proofs.Common.{◌≡◌, ◌++◌, ℕ, ℤ, ◌+◌, ◌≤◌, Bool, true, false, Option, None, Result, Ok, Err, refl, sym, ap, ◌∙◌, subst}
use Rattle.std.specs.Prelude.{MatchResult}
use Rattle.cip_rational.specs.Rational.{ℚ}
use Rattle.cip_problem.specs.Log.{Split, Closed, Node, matters}
use Rattle.cip_problem.specs.Program.{Program}
use Rattle.cip_problem.specs.WellFormed.{columns}
use Rattle.cip_problem.specs.Improving.{HasNoImproving}
use Rattle.cip_domain.specs.Changes.{Region}
use Rattle.cip_node.specs.Mark.{Mark}
use Rattle.cip_rows.specs.RowPools.{Pool}
use Rattle.cip_tree.specs.Nodes.{TakenNode, Nodes, box_of, shown}
use Rattle.cip_calls.specs.CoreStates.{CoreState, reduced_of, held_of, IsTakenUp, IsGivenBound}
use Rattle.cip_calls.specs.Later.{IsLater, IsLaterAt}
use Rattle.cip_calls.specs.Steps.{HasLeft, IsBack, aged}
use Rattle.cip_calls.proofs.PassedOn.{with_tree}
use Rattle.cip_calls.proofs.PassedOn.{later_further, narrower_itself, narrower_further}
use Rattle.cip_calls.specs.Searched.{nodes_given}
use Rattle.cip_problem.specs.Log.{node_of}
use Rattle.cip_node.specs.Bounding.{point_of}
use Rattle.cip_node.specs.NodeEnds.{HasEnded}
use Rattle.cip_node.specs.declared.bounding.Found.{Found}
use Rattle.cip_node.specs.declared.ends.NodeEnd.{NodeEnd}
use Rattle.cip_node.specs.declared.ends.NodeEnd.TheVariants as by
use Rattle.cip_node.proofs.EndLaws.{Leads, leads_looked, looked_core, entry_before, ended_led, back_led, emptied, none_kept, pruned_ended, met_of}
use Rattle.cip_plugin.specs.Seats.{State}
use Rattle.cip_plugin.proofs.Running.{Runs-append}
use Rattle.cip_roster.specs.KeptRankings.{Room}
use Rattle.cip_roster.specs.Turns.{IsSound}
use Rattle.cip_roster.specs.Wished.{Ran}
use Rattle.cip_calls.specs.ProposalsJudged.{HaveRoom}
use Rattle.cip_calls.specs.declared.scratches.Scratches.{Scratches}
use Rattle.cip_calls.specs.Noted.{HasMoreRows}
use Rattle.cip_solve.specs.NodesDone.{HasParted, HasEndedBy, IsDone, HasAged}
use Rattle.cip_solve.specs.NodesReached.{HasMoved, IsFoundAt}
use Rattle.cip_solve.specs.declared.ends.Done.{Done}

-- ---- steps of a node

leads_moved : (old new : CoreState) (had has : TakenNode) → HasMoved old had new has → Leads old had new has
leads_moved old new had has h = record { later = h.later; narrower = h.narrower; log = h.log; parked = h.parked; ids = h.ids; same = h.same }

-- rows of the pool went, and another region is in work
pub moved_looked : (core : CoreState) (pool : Pool) (work : Region) (node : TakenNode) → IsTakenUp (looked_core core pool work) node → HasMoved core node (looked_core core pool work) node
moved_looked core pool work node up =
    let l = leads_looked core pool work node in
    record { later = l.later; up = up; narrower = l.narrower; log = l.log; parked = l.parked; ids = l.ids; same = l.same }

pub moved_further : (old mid new : CoreState) (had node has : TakenNode) → HasMoved old had mid node → IsLaterAt mid node new has → HasMoved old had new has
moved_further old mid new had node has h k = record {
  later = later_further old mid new h.later k.later;
  up = k.at_work.up;
  narrower = narrower_further mid new (shown old.tree had) (shown mid.tree node) (shown new.tree has) k.later h.narrower k.narrower;
  log = k.log ∙ h.log;
  parked = k.parked ∙ h.parked;
  ids = k.ids ∙ h.ids;
  same = λ e. k.same e ∙ h.same (k.later.untouched e);
}

-- the bound that the log gave a node
pub given_moved : (old new : CoreState) (had has : TakenNode) (bound : Option ℚ) → HasMoved old had new has → IsGivenBound old had.number bound → IsGivenBound new has.number bound
given_moved old new had has bound l h = λ given e.
    let same : nodes_given (reduced_of new) new.tree.root.bound new.tree.log ≡ nodes_given (reduced_of old) old.tree.root.bound old.tree.log =
    ap (λ p. nodes_given p new.tree.root.bound new.tree.log) l.later.reduced
    ∙ ap (λ (r : Node). nodes_given (reduced_of old) r.bound new.tree.log) l.later.root
    ∙ ap (nodes_given (reduced_of old) old.tree.root.bound) l.log in
    h given (sym (ap (λ ns. node_of ns has.number) same ∙ ap (node_of (nodes_given (reduced_of old) old.tree.root.bound old.tree.log)) l.narrower.number) ∙ e)

-- ---- seen from before

parted_before : (old mid new : CoreState) (node has : TakenNode) (mark : Option Mark) (end : NodeEnd) → Leads old node mid has → HasParted mid new has mark end → HasParted old new node mark end
parted_before old mid new node has mark end l h = record {
  ended = h.ended;
  narrower = narrower_further mid new (shown old.tree node) (shown mid.tree has) h.ended h.later l.narrower h.narrower;
  same = λ u. h.same u ∙ ap (λ (r : Region). r.box) (l.same (h.later.untouched u));
  later = later_further old mid new l.later h.later;
  few = subst (λ n. new.tree.ids ≤ n + 2) l.ids h.few;
  low = h.low;
  high = h.high;
  end_ = h.end_;
  column = h.column;
  at = h.at;
  entry = entry_before old mid new node has l h.later h.ended (Split h.column h.at h.low h.high) h.entry;
  kept = h.kept;
  good = h.good;
  point = h.point;
  tried = h.tried;
  met = h.met;
}

by_before : (proposed : Bool) (old mid new : CoreState) (node has : TakenNode) (mark : Option Mark) (end : NodeEnd) → Leads old node mid has → HasEndedBy proposed mid new has mark end → HasEndedBy proposed old new node mark end
by_before false old mid new node has mark end l h = ended_led old mid new node has mark end l h
by_before true old mid new node has mark end l h = parted_before old mid new node has mark end l h

-- a node has ended, or is open again, behind steps of its work
pub done_or_back : {E : Type 0} (old mid new : CoreState) (node has : TakenNode) (bound : Option ℚ) (r : Result Done E) → HasMoved old node mid has → MatchResult r (IsDone mid new has) (λ _. IsBack mid new has.number bound) → MatchResult r (IsDone old new node) (λ _. IsBack old new node.number bound)
done_or_back old mid new node has bound (Ok done) l h = by_before done.proposed old mid new node has done.mark done.end (leads_moved old mid node has l) h
done_or_back old mid new node has bound (Err error) l h =
    subst (λ n. IsBack old new n bound) l.narrower.number (back_led old mid new node has has.number bound (leads_moved old mid node has l) h)

pub back_moved : (old mid new : CoreState) (node has : TakenNode) (bound : Option ℚ) → HasMoved old node mid has → IsBack mid new has.number bound → IsBack old new node.number bound
back_moved old mid new node has bound l h =
    subst (λ n. IsBack old new n bound) l.narrower.number (back_led old mid new node has has.number bound (leads_moved old mid node has l) h)

-- ---- ends

-- a node was split where a plugin proposed it
pub parted_here : (core : CoreState) (tree : Nodes) (node : TakenNode) (found : Found) (column : ℕ) (at : ℤ) (low high : ℕ) → IsFoundAt core node found → HasLeft core (with_tree core tree) node (Split column at low high) → HasParted core (with_tree core tree) node found.mark (by.Split low high)
parted_here core tree node found column at low high is_found h = record {
  ended = shown core.tree node;
  narrower = narrower_itself (with_tree core tree) (shown core.tree node);
  same = λ u. refl;
  later = h.later;
  few = h.few;
  low = low;
  high = high;
  end_ = refl;
  column = column;
  at = at;
  entry = h.entry;
  kept = h.kept;
  good = is_found.good;
  point = point_of found;
  tried = is_found.tried;
  met = met_of core (box_of core.tree node) node.bound found.mark is_found.good;
}

-- it was closed, as its bound isn't below the cost held
pub pruned_here : (core new : CoreState) (node : TakenNode) (found : Found) → new ≡ record core { tree = new.tree } → IsFoundAt core node found → HasLeft core new node Closed → matters (held_of core) node.bound ≡ false → HasEnded core new node found.mark by.Pruned
pruned_here core new node found frame is_found left passed =
    subst (λ (k : CoreState). HasEnded core k node found.mark by.Pruned) (sym frame)
    (pruned_ended core new.tree node found is_found (subst (λ (k : CoreState). HasLeft core k node Closed) frame left) passed)

-- or as its box has no improving point
pub emptied_here : (core new : CoreState) (node : TakenNode) → HasLeft core new node Closed → HasNoImproving (reduced_of core) (held_of core) (box_of core.tree node) → HasEnded core new node None by.Empty
emptied_here core new node left none = emptied core new node left (none_kept core new (box_of core.tree node) left.later none)

-- ---- what is kept

by_later : (proposed : Bool) (old new : CoreState) (node : TakenNode) (mark : Option Mark) (end : NodeEnd) → HasEndedBy proposed old new node mark end → IsLater old new
by_later false old new node mark end h = h.later
by_later true old new node mark end h = h.later

pub later_done : {E : Type 0} (old new : CoreState) (node : TakenNode) (bound : Option ℚ) (r : Result Done E) → MatchResult r (IsDone old new node) (λ _. IsBack old new node.number bound) → IsLater old new
later_done old new node bound (Ok done) h = by_later done.proposed old new node done.mark done.end h
later_done old new node bound (Err error) h = h.later

pub aged_further : (old mid new : CoreState) (a b c : State) (first second : Scratches) (some room : Room) → HasAged old a mid first b some → IsLater mid new → new.pool ≡ mid.pool → second ≡ first → IsSound c room → Ran b c → HasAged old a new second c room
aged_further old mid new a b c first second some room h later pool same sound run = record {
  space = subst (λ (p : Program). HaveRoom second (columns p)) (sym later.reduced) (subst (λ (t : Scratches). HaveRoom t (columns (reduced_of mid))) (sym same) h.space);
  sound = sound;
  run = record { steps = h.run.steps ++ run.steps; run = Runs-append h.run.steps run.steps a b c h.run.run run.run };
  rows = subst (HasMoreRows (aged old.pool)) (sym pool) h.rows;
}
