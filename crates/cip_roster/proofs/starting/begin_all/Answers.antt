use Rattle.cip_roster.proofs.Asked.{fresh_at}
use Rattle.std.proofs.lemmas.Grind.{common_steps}
use Rattle.std.proofs.Common.{ℕ, add-one, arith, subst, sym, ◌∙◌}
use Rattle.cip_roster.proofs.Beginning.{BegunSoFar, begun_all, begun_more}
use Rattle.cip_roster.proofs.starting.begin_all.Goals as goal

pub loop-id-preserved : goal.loop-id-preserved
loop-id-preserved g c = record {
  so_far = subst (λ (n : ℕ). BegunSoFar n (g.R.Seated.state c.args.roster.now) (g.R.Seated.state c.begin.new.roster))
      (sym (add-one c.loop-id.id))
      (begun_more c.loop-id.id (g.R.Seated.state c.args.roster.now) (g.R.Seated.state c.loop-id.roster)
      (g.R.Seated.state c.begin.new.roster) c.begin.ensures.run.0.0 c.begin.ensures.run.0.1
      c.loop-id.invariant.so_far c.begin.ensures.run.1 c.begin.ensures.at);
  room = omega (arith, c.loop-id.invariant.room, c.begin.ensures.room);
  rankings = c.begin.ensures.rankings ∙ c.loop-id.invariant.rankings;
}

pub returns-clause-playing : goal.returns-clause-playing
returns-clause-playing g c =
    begun_all c.loop-id.id (g.R.Seated.state c.args.roster.now) (g.R.Seated.state c.loop-id.roster)
    (omega (arith, c.loop-id-test.false, c.count-id-end.ensures)) c.loop-id.invariant.so_far

pub loop-id-init : goal.loop-id-init
loop-id-init g c = grind (arith, common_steps)

pub returns-clause-run : goal.returns-clause-run
returns-clause-run g c = grind (arith, common_steps)

pub returns-clause-rankings : goal.returns-clause-rankings
returns-clause-rankings g c = grind (arith, common_steps)

pub returns-clause-places : goal.returns-clause-places
returns-clause-places g c = grind (arith, common_steps)

pub begin-requires-clause-room : goal.begin-requires-clause-room
begin-requires-clause-room g c = grind (arith, common_steps)

pub returns-clause-room : goal.returns-clause-room
returns-clause-room g c = grind (arith, common_steps)

pub returns-clause-seats : goal.returns-clause-seats
returns-clause-seats g c = grind (arith, common_steps)

pub overflow_cast-id : goal.overflow_cast-id
overflow_cast-id g c = grind (arith, common_steps)

pub begin-requires-clause-at : goal.begin-requires-clause-at
begin-requires-clause-at g c =
    fresh_at c.loop-id.id (g.R.Seated.state c.args.roster.now) (g.R.Seated.state c.loop-id.roster)
    c.loop-id.invariant.so_far
    c.requires.fresh (omega (arith, c.loop-id-test.true, c.count-id-end.ensures))
