use Rattle.std.proofs.lemmas.Grind.{common_steps}
use Rattle.std.proofs.Common.{◌+◌, ◌∙◌, None, ap, arith, length, inl, inr, refl, sym, subst}
use Rattle.cip_solve.specs.SplitsServed.{splits_in, HasServed}
use Rattle.cip_solve.proofs.SameSearches.{same_itself, same_further, still_of}
use Rattle.cip_solve.proofs.Serving.{served_none}
use Rattle.cip_solve.proofs.FirstLaws.{first_stop, short_more, none_short}
use Rattle.cip_solve.proofs.TurnLaws.{longer_itself}
use Rattle.cip_solve.specs.CoreStates.{reduced_of, way_of}
use Rattle.cip_solve.proofs.turns.Search.explore.Goals as goal

pub returns-in-Some-clause-same : goal.returns-in-Some-clause-same
returns-in-Some-clause-same g c =
    let same = c.turn.ensures.same in
    (same_further c.args.self.now.work.core c.loop.self.work.core c.turn.new.self.work.core c.loop.invariant.same same.0, λ a. same.1 a ∙ c.loop.invariant.plain a)

pub returns-in-Some-clause-stopped : goal.returns-in-Some-clause-stopped
returns-in-Some-clause-stopped g c = c.in-Some.ensures.turned c.args.nodes c.args.asked.now

pub returns-in-Some-clause-first : goal.returns-in-Some-clause-first
returns-in-Some-clause-first g c =
    let core = c.args.self.now.work.core in
    first_stop core.program (reduced_of core) (way_of core) core.tree.root.bound c.args.asked.now c.loop.self.work.core.tree.log c.turn.new.self.work.core.tree.log c.turn.ensures.grown c.turn.ensures.longer c.loop.invariant.short

pub returns-in-Some-clause-asked : goal.returns-in-Some-clause-asked
returns-in-Some-clause-asked g c =
    (c.turn.ensures.asked.0, c.turn.ensures.asked.1 (g.W.Works.state c.args.works.now) c.loop.invariant.served)

pub returns-then-has_reached_gap-clause-same : goal.returns-then-has_reached_gap-clause-same
returns-then-has_reached_gap-clause-same g c =
    let same = c.turn.ensures.same in
    (same_further c.args.self.now.work.core c.loop.self.work.core c.turn.new.self.work.core c.loop.invariant.same same.0, λ a. same.1 a ∙ c.loop.invariant.plain a)

pub returns-then-has_reached_gap-clause-first : goal.returns-then-has_reached_gap-clause-first
returns-then-has_reached_gap-clause-first g c =
    let core = c.args.self.now.work.core in
    first_stop core.program (reduced_of core) (way_of core) core.tree.root.bound c.args.asked.now c.loop.self.work.core.tree.log c.turn.new.self.work.core.tree.log c.turn.ensures.grown c.turn.ensures.longer c.loop.invariant.short

pub returns-then-has_reached_gap-clause-asked : goal.returns-then-has_reached_gap-clause-asked
returns-then-has_reached_gap-clause-asked g c =
    (c.turn.ensures.asked.0, c.turn.ensures.asked.1 (g.W.Works.state c.args.works.now) c.loop.invariant.served)

pub loop-preserved : goal.loop-preserved
loop-preserved g c =
    let next = c.in_default.ensures.turned 0 None in
    let core = c.args.self.now.work.core in
    let new = c.turn.new.self in
    let same = same_further core c.loop.self.work.core new.work.core c.loop.invariant.same c.turn.ensures.same.0 in
    record {
      short = short_more core.program (reduced_of core) (way_of core) core.tree.root.bound c.args.asked.now c.loop.self.work.core.tree.log new.work.core.tree new.work.core.incumbent new.worst c.turn.ensures.grown next.1
          (still_of core new.work.core new.worst same next.0.still)
          (c.has_reached_gap.ensures.short c.if-has_reached_gap.false) c.loop.invariant.short;
      standing = next.0;
      written = c.turn.ensures.written;
      same = same;
      plain = λ a. c.turn.ensures.same.1 a ∙ c.loop.invariant.plain a;
      longer = next.1 ∙ ap (λ n. n + 1) c.loop.invariant.longer;
      ready = c.turn.ensures.asked.0;
      served = c.turn.ensures.asked.1 (g.W.Works.state c.args.works.now) c.loop.invariant.served;
    }

pub has_reached_gap-requires : goal.has_reached_gap-requires
has_reached_gap-requires g c = (c.in_default.ensures.turned 0 None).0.still

pub returns-then-has_reached_gap-clause-stopped : goal.returns-then-has_reached_gap-clause-stopped
returns-then-has_reached_gap-clause-stopped g c =
    let next = c.in_default.ensures.turned 0 None in
    record {
      still = next.0.still;
      spent = λ n. inr (λ e. absurd (omega (arith, next.1, ap length e)), c.has_reached_gap.ensures.reached c.if-has_reached_gap.true);
    }

pub loop-init : goal.loop-init
loop-init g c =
    let core = c.args.self.now.work.core in
    let log = core.tree.log in
    let a = g.W.Works.state c.args.works.now in
    record {
      standing = c.requires.standing;
      written = c.requires.written;
      same = same_itself core;
      plain = λ e. refl;
      short = none_short core.program (reduced_of core) (way_of core) core.tree.root.bound c.args.asked.now log c.requires.empty;
      longer = ap length c.requires.empty;
      ready = c.requires.ready;
      served = subst (λ l. HasServed (splits_in l) a a) (sym c.requires.empty) (served_none a);
    }

pub returns-in-Some-clause-most : goal.returns-in-Some-clause-most
returns-in-Some-clause-most g c = omega arith

pub returns-in-Some-clause-written : goal.returns-in-Some-clause-written
returns-in-Some-clause-written g c = grind (arith, common_steps)

pub returns-then-has_reached_gap-clause-most : goal.returns-then-has_reached_gap-clause-most
returns-then-has_reached_gap-clause-most g c = omega arith

pub returns-then-has_reached_gap-clause-written : goal.returns-then-has_reached_gap-clause-written
returns-then-has_reached_gap-clause-written g c = grind (arith, common_steps)

pub returns-clause-asked : goal.returns-clause-asked
returns-clause-asked g c = grind (arith, common_steps)

pub returns-clause-same : goal.returns-clause-same
returns-clause-same g c = grind (arith, common_steps)

pub turn-requires-clause-standing : goal.turn-requires-clause-standing
turn-requires-clause-standing g c = grind (arith, common_steps)

pub returns-clause-written : goal.returns-clause-written
returns-clause-written g c = grind (arith, common_steps)

pub turn-requires-clause-ready : goal.turn-requires-clause-ready
turn-requires-clause-ready g c = grind (arith, common_steps)

pub turn-requires-clause-written : goal.turn-requires-clause-written
turn-requires-clause-written g c = grind (arith, common_steps)

pub returns-clause-first : goal.returns-clause-first
returns-clause-first g c =
    let core = c.args.self.now.work.core in
    let log = c.loop.self.work.core.tree.log in
    first_stop core.program (reduced_of core) (way_of core) core.tree.root.bound c.args.asked.now log log (λ n h. refl) (longer_itself log) c.loop.invariant.short

pub returns-clause-stopped : goal.returns-clause-stopped
returns-clause-stopped g c = record { still = c.loop.invariant.standing.still; spent = λ n. inl (omega (arith, c.loop.invariant.longer)) }
