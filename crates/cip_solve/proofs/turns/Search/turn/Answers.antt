use Rattle.std.proofs.lemmas.Grind.{common_steps}
use Rattle.std.specs.Prelude.{OnOk, is_err}
use Rattle.std.proofs.Common.{◌≡◌, ◌+◌, ◌≤◌, ◌∙◌, ◌++◌, [], MatchOption, refl, add-zero, ap, sym, subst, arith, length, true≢false, false, Result, Ok, Err}
use Rattle.cip_endings.specs.LeastBounds.{least_of, bound_held, flat}
use Rattle.cip_endings.specs.Worst.{worst_bound}
use Rattle.cip_tree.specs.Moves.{IsLeastBound}
use Rattle.cip_tree.specs.Nodes.{Nodes}
use Rattle.cip_problem.specs.WellFormed.{columns}
use Rattle.cip_solve.specs.CoreStates.{CoreState, reduced_of, way_of}
use Rattle.cip_solve.specs.NodeWork.{NodeWork}
use Rattle.cip_solve.specs.Logs.{marks_by}
use Rattle.cip_solve.specs.FirstStops.{IsLongerLog}
use Rattle.cip_solve.specs.Searching.{IsSameSearch, IsWritten}
use Rattle.cip_solve.specs.Stops.{StopsAt}
use Rattle.cip_solve.specs.declared.turns.Stop.TheVariants.{Still}
use Rattle.cip_solve.proofs.FirstLaws.{same_log_longer}
use Rattle.cip_solve.proofs.SameSearches.{same_itself}
use Rattle.cip_solve.proofs.TurnLaws.{longer_itself, longer_log, some_there, none_there, nothing_open, refused_before, same_search, written_still, no_longer, longer_by, same_log, refused_turn, turned_by, written_turn}
use Rattle.cip_solve.specs.SplitsServed.{splits_in, splits_by, HasServed}
use Rattle.cip_solve.proofs.Serving.{served_further, splits_more}
use Rattle.cip_solve.proofs.turns.Search.turn.Goals as goal

-- ---- before a node is taken up

pub returns-then-is_none-clause-turned : goal.returns-then-is_none-clause-turned
returns-then-is_none-clause-turned g c = λ nodes asked.
    let core = c.args.self.now.work.core in
    let waiting = subst (λ (t : Nodes). MatchOption c.bound-waiting.result (t.open_ ≡ []) (λ b. IsLeastBound b t.open_)) c.tree.ensures c.bound-waiting.ensures in
    nothing_open core.program (reduced_of core) (way_of core) core.tree.root.bound nodes asked core.tree core.incumbent c.args.self.now.worst
    (none_there c.bound-waiting.result c.is_none.result (core.tree.open_ ≡ []) (λ b. IsLeastBound b core.tree.open_) c.is_none.ensures c.if-is_none.true waiting) c.requires.standing.still

pub returns-then-is_err-clause-turned : goal.returns-then-is_err-clause-turned
returns-then-is_err-clause-turned g c = λ nodes asked.
    let core = c.args.self.now.work.core in
    let waiting = subst (λ (t : Nodes). MatchOption c.bound-waiting.result (t.open_ ≡ []) (λ b. IsLeastBound b t.open_)) c.tree.ensures c.bound-waiting.ensures in
    refused_before core.program (reduced_of core) (way_of core) core.tree core.incumbent c.args.self.now.worst c.bound-waiting.result c.flat-bound.result c.requires.standing.still waiting
    (some_there c.bound-waiting.result c.is_none.result c.is_none.ensures c.if-is_none.false)
    (c.flat-bound.ensures ∙ ap flat (c.least_left.ensures ∙ ap (λ h. least_of (bound_held h) (least_of c.bound-waiting.result (worst_bound c.args.self.now.worst))) c.held_cost.ensures))

pub take-requires : goal.take-requires
take-requires g c = record { kept = c.requires.standing.still.kept; matter = c.requires.standing.still.matter; boxes = c.requires.standing.boxes }

pub returns-then-is_none-clause-same : goal.returns-then-is_none-clause-same
returns-then-is_none-clause-same g c = (same_itself c.args.self.now.work.core, λ a. refl)

pub returns-then-is_none-clause-longer : goal.returns-then-is_none-clause-longer
returns-then-is_none-clause-longer g c = longer_itself c.args.self.now.work.core.tree.log

pub returns-then-is_none-clause-grown : goal.returns-then-is_none-clause-grown
returns-then-is_none-clause-grown g c = λ entries few. refl

pub returns-then-is_none-clause-written : goal.returns-then-is_none-clause-written
returns-then-is_none-clause-written g c = c.requires.written

pub returns-then-is_err-clause-same : goal.returns-then-is_err-clause-same
returns-then-is_err-clause-same g c = (same_itself c.args.self.now.work.core, λ a. refl)

pub returns-then-is_err-clause-longer : goal.returns-then-is_err-clause-longer
returns-then-is_err-clause-longer g c = longer_itself c.args.self.now.work.core.tree.log

pub returns-then-is_err-clause-grown : goal.returns-then-is_err-clause-grown
returns-then-is_err-clause-grown g c = λ entries few. refl

pub returns-then-is_err-clause-written : goal.returns-then-is_err-clause-written
returns-then-is_err-clause-written g c = subst (IsWritten c.args.self.now.work.core) (sym c.reserve.ensures.items) c.requires.written

-- ---- no node is there

pub returns-in_default-clause-same : goal.returns-in_default-clause-same
returns-in_default-clause-same g c =
    let core = c.args.self.now.work.core in (
      subst (IsSameSearch core) (sym c.in_default.ensures.first.1) (same_itself core),
      λ a. ap (λ (k : CoreState). k.touched) c.in_default.ensures.first.1,
    )

pub returns-in_default-clause-longer : goal.returns-in_default-clause-longer
returns-in_default-clause-longer g c =
    let log = c.args.self.now.work.core.tree.log in
    subst (λ (k : CoreState). length k.tree.log ≤ length log + 1) (sym c.in_default.ensures.first.1) (longer_itself log)

pub returns-in_default-clause-grown : goal.returns-in_default-clause-grown
returns-in_default-clause-grown g c =
    let log = c.args.self.now.work.core.tree.log in
    subst (λ (k : CoreState). IsLongerLog log k.tree.log) (sym c.in_default.ensures.first.1) (λ entries few. refl)

pub returns-in_default-clause-written : goal.returns-in_default-clause-written
returns-in_default-clause-written g c =
    subst (IsWritten c.take.new.self) (sym c.reserve.ensures.items)
    (subst (λ (k : CoreState). IsWritten k c.args.self.now.marks.items) (sym c.in_default.ensures.first.1) c.requires.written)

pub returns-in_default-clause-turned : goal.returns-in_default-clause-turned
returns-in_default-clause-turned g c = λ nodes asked.
    let core = c.args.self.now.work.core in
    subst (λ (k : CoreState). StopsAt k nodes asked c.args.self.now.worst Still) (sym c.in_default.ensures.first.1)
    (nothing_open core.program (reduced_of core) (way_of core) core.tree.root.bound nodes asked core.tree core.incumbent c.args.self.now.worst c.in_default.ensures.first.0 c.requires.standing.still)

pub returns-in_default-clause-asked : goal.returns-in_default-clause-asked
returns-in_default-clause-asked g c =
    let works = c.args.works.now in (
      subst (λ (k : CoreState). g.W.Works.is_ready works (columns (reduced_of k))) (sym c.in_default.ensures.first.1) c.requires.ready,
      λ first s. subst (λ (k : CoreState). HasServed (splits_in k.tree.log) first (g.W.Works.state works)) (sym c.in_default.ensures.first.1) s,
    )

-- ---- a node is worked on

pub work_on-ended-requires-clause-ready : goal.work_on-ended-requires-clause-ready
work_on-ended-requires-clause-ready g c =
    subst (λ (k : CoreState). g.W.Works.is_ready c.args.works.now (columns (reduced_of k))) (sym c.take.ensures.frame) c.requires.ready

-- ---- memory is refused

pub returns-in-Err-clause-turned : goal.returns-in-Err-clause-turned
returns-in-Err-clause-turned g c = λ nodes asked.
    let core = c.args.self.now.work.core in
    let node = c.in-Some.node in
    let back = c.in-Err.ensures.ended in
    let waiting = subst (λ (t : Nodes). MatchOption c.bound-waiting.result (t.open_ ≡ []) (λ b. IsLeastBound b t.open_)) c.tree.ensures c.bound-waiting.ensures in
    refused_turn core c.take.new.self c.work_on-ended.new.work.core node c.args.self.now.worst c.take.ensures.frame c.in-Some.ensures.first c.requires.standing.still back.later c.is_sound.ensures.sound.is_held
    node.number node.bound c.flat-bound.result c.bound-waiting.result back waiting
    (some_there c.bound-waiting.result c.is_none.result c.is_none.ensures c.if-is_none.false)
    (c.flat-bound.ensures ∙ ap flat (c.least_left.ensures ∙ ap (λ h. least_of (bound_held h) (least_of c.bound-waiting.result (worst_bound c.args.self.now.worst))) c.held_cost.ensures))

pub returns-in-Err-clause-same : goal.returns-in-Err-clause-same
returns-in-Err-clause-same g c = (
  same_search c.args.self.now.work.core c.take.new.self c.work_on-ended.new.work.core c.in-Some.node c.args.self.now.worst c.take.ensures.frame c.in-Some.ensures.first c.requires.standing.still c.in-Err.ensures.ended.later c.is_sound.ensures.sound.is_held,
  λ a. c.work_on-ended.ensures.plain a ∙ ap (λ (k : CoreState). k.touched) c.take.ensures.frame,
)

pub returns-in-Err-clause-longer : goal.returns-in-Err-clause-longer
returns-in-Err-clause-longer g c = no_longer c.args.self.now.work.core c.take.new.self c.work_on-ended.new.work.core c.in-Some.node c.args.self.now.worst c.take.ensures.frame c.in-Some.ensures.first c.requires.standing.still c.in-Err.ensures.ended.later c.is_sound.ensures.sound.is_held c.in-Err.ensures.ended.log

pub returns-in-Err-clause-grown : goal.returns-in-Err-clause-grown
returns-in-Err-clause-grown g c =
    same_log_longer c.args.self.now.work.core.tree.log c.work_on-ended.new.work.core.tree.log
    (c.in-Err.ensures.ended.log ∙ same_log c.args.self.now.work.core c.take.new.self c.work_on-ended.new.work.core c.in-Some.node c.args.self.now.worst c.take.ensures.frame c.in-Some.ensures.first c.requires.standing.still c.in-Err.ensures.ended.later c.is_sound.ensures.sound.is_held)

pub returns-in-Err-clause-written : goal.returns-in-Err-clause-written
returns-in-Err-clause-written g c =
    let core = c.work_on-ended.new.work.core in
    subst (IsWritten core) (sym c.reserve.ensures.items)
    (written_still c.args.self.now.work.core c.take.new.self core c.in-Some.node c.args.self.now.worst c.take.ensures.frame c.in-Some.ensures.first c.requires.standing.still c.in-Err.ensures.ended.later c.is_sound.ensures.sound.is_held c.args.self.now.marks.items c.in-Err.ensures.ended.log c.requires.written)

-- ---- the node has ended

pub returns-in-Ok-clause-same : goal.returns-in-Ok-clause-same
returns-in-Ok-clause-same g c =
    let later = c.in-Ok.ensures.ended.later in (
      subst (λ (w : NodeWork). IsSameSearch c.args.self.now.work.core w.core) (sym c.settle.ensures.work)
          (same_search c.args.self.now.work.core c.take.new.self c.work_on-ended.new.work.core c.in-Some.node c.args.self.now.worst c.take.ensures.frame c.in-Some.ensures.first c.requires.standing.still later c.is_sound.ensures.sound.is_held),
      λ a. ap (λ (w : NodeWork). w.core.touched) c.settle.ensures.work ∙ (c.work_on-ended.ensures.plain a ∙ ap (λ (k : CoreState). k.touched) c.take.ensures.frame),
    )

pub returns-in-Ok-clause-longer : goal.returns-in-Ok-clause-longer
returns-in-Ok-clause-longer g c =
    let h = c.in-Ok.ensures.ended in
    let l = longer_by c.args.self.now.work.core c.take.new.self c.work_on-ended.new.work.core c.in-Some.node c.args.self.now.worst c.take.ensures.frame c.in-Some.ensures.first c.requires.standing.still h.later c.is_sound.ensures.sound.is_held h.ended c.in-Ok.done.1.mark c.in-Ok.done.0 h.end_ in
    omega (arith, l, ap (λ (w : NodeWork). length w.core.tree.log) c.settle.ensures.work)

pub returns-in-Ok-clause-grown : goal.returns-in-Ok-clause-grown
returns-in-Ok-clause-grown g c =
    let h = c.in-Ok.ensures.ended in
    subst (λ (w : NodeWork). IsLongerLog c.args.self.now.work.core.tree.log w.core.tree.log) (sym c.settle.ensures.work)
    (longer_log c.args.self.now.work.core c.take.new.self c.work_on-ended.new.work.core c.in-Some.node c.args.self.now.worst c.take.ensures.frame c.in-Some.ensures.first c.requires.standing.still h.later c.is_sound.ensures.sound.is_held h.ended c.in-Ok.done.1.mark c.in-Ok.done.0 h.end_)

pub returns-in-Ok-clause-turned : goal.returns-in-Ok-clause-turned
returns-in-Ok-clause-turned g c = λ nodes asked.
    let h = c.in-Ok.ensures.ended in
    rw c.settle.ensures.work
    (turned_by c.args.self.now.work.core c.take.new.self c.work_on-ended.new.work.core c.in-Some.node c.args.self.now.worst c.take.ensures.frame c.in-Some.ensures.first c.requires.standing.still h.later c.is_sound.ensures.sound.is_held
    h.ended h.few nodes asked c.in-Ok.done.1.mark c.settle.new.self.worst c.settle.result c.in-Ok.done.0 c.settle.ensures.kept h.end_)

pub returns-in-Ok-clause-written : goal.returns-in-Ok-clause-written
returns-in-Ok-clause-written g c =
    let core = c.work_on-ended.new.work.core in
    let mark = c.in-Ok.done.1.mark in
    let old = c.args.self.now.marks.items in
    let h = c.in-Ok.ensures.ended in
    let t = written_turn c.args.self.now.work.core c.take.new.self core c.in-Some.node c.args.self.now.worst c.take.ensures.frame c.in-Some.ensures.first c.requires.standing.still h.later c.is_sound.ensures.sound.is_held
    mark c.in-Ok.done.0 old c.in-Some.ensures.up h c.is_sound.ensures.sound.bare c.requires.written in
    let e : c.settle.new.self.marks.items ≡ old ++ marks_by c.in-Some.node.number mark =
    c.settle.ensures.marked ∙ (ap (λ l. l ++ marks_by c.id-number.result mark) c.reserve.ensures.items ∙ ap (λ n. old ++ marks_by n mark) c.id-number.ensures) in
    subst (λ (w : NodeWork). IsWritten w.core c.settle.new.self.marks.items) (sym c.settle.ensures.work)
    (subst (IsWritten core) (sym e) t)

pub returns-in-Ok-clause-asked : goal.returns-in-Ok-clause-asked
returns-in-Ok-clause-asked g c =
    let old = c.args.self.now.work.core.tree.log in
    let mid = c.take.new.self in
    let core = c.work_on-ended.new.work.core in
    let a = g.W.Works.state c.args.works.now in
    let b = g.W.Works.state c.work_on-ended.new.self in
    let h = c.in-Ok.ensures.ended in
    let before : mid.tree.log ≡ old = ap (λ (t : Nodes). t.log) c.in-Some.ensures.first.rest in
    let more : splits_in core.tree.log ≡ splits_in old + splits_by c.in-Ok.done.0 =
    splits_more mid core h.ended c.in-Ok.done.1.mark c.in-Ok.done.0 h.end_ ∙ ap (λ l. splits_in l + splits_by c.in-Ok.done.0) before in (
      subst (λ (w : NodeWork). g.W.Works.is_ready c.work_on-ended.new.self (columns (reduced_of w.core))) (sym c.settle.ensures.work) c.work_on-ended.ensures.ready,
      λ first s. subst (λ (w : NodeWork). HasServed (splits_in w.core.tree.log) first b) (sym c.settle.ensures.work)
          (subst (λ n. HasServed n first b) (sym more)
          (served_further (splits_in old) (splits_by c.in-Ok.done.0) first a b c.work_on-ended.ensures.settled s c.in-Ok.ensures.served)),
    )

pub returns-in-Err-clause-asked : goal.returns-in-Err-clause-asked
returns-in-Err-clause-asked g c =
    let old = c.args.self.now.work.core.tree.log in
    let core = c.work_on-ended.new.work.core in
    let a = g.W.Works.state c.args.works.now in
    let b = g.W.Works.state c.work_on-ended.new.self in
    let same : core.tree.log ≡ old = c.in-Err.ensures.ended.log ∙ ap (λ (t : Nodes). t.log) c.in-Some.ensures.first.rest in (
      c.work_on-ended.ensures.ready,
      λ first s. subst (λ n. HasServed n first b) (add-zero (splits_in old) ∙ ap splits_in (sym same))
          (served_further (splits_in old) 0 first a b c.work_on-ended.ensures.settled s c.in-Err.ensures.served),
    )

pub returns-then-is_none-clause-asked : goal.returns-then-is_none-clause-asked
returns-then-is_none-clause-asked g c = (c.requires.ready, λ first s. s)

pub returns-then-is_err-clause-asked : goal.returns-then-is_err-clause-asked
returns-then-is_err-clause-asked g c = (c.requires.ready, λ first s. s)

when_ok : {A E : Type 0} (r : Result A E) (P : Type 0) → is_err r ≡ false → OnOk r P → P
when_ok (Ok x) P e h = h
when_ok (Err x) P e h = absurd (true≢false e)

pub settle-requires : goal.settle-requires
settle-requires g c =
    let room = when_ok c.reserve.result _ (sym c.is_err.ensures.value ∙ c.if-is_err.false) c.reserve.ensures.ok in
    omega (arith, c.reserve.ensures.len, room)

pub work_on-ended-requires-clause-can : goal.work_on-ended-requires-clause-can
work_on-ended-requires-clause-can g c = grind (arith, common_steps)
