use Rattle.std.proofs.lemmas.Grind.{common_steps}
use Rattle.std.proofs.Common.{◌≡◌, ℕ, suc, ◌+◌, [], sym, subst, arith}
use Rattle.std.proofs.lemmas.Result.{MatchResult-from_err}
use Rattle.cip_price.specs.PriceTasks.{task_at}
use Rattle.cip_price.proofs.Offered.{grows_none, grows_by}
use Rattle.cip_price.specs.PriceAnswers.{PriceHolds}
use Rattle.cip_price.specs.Worked.{BestHolds, StandsBehind}
use Rattle.cip_price.specs.declared.answers.PriceCause.TheVariants.{Rounds}
use Rattle.cip_price.proofs.Standing.{cause_holds}
use Rattle.cip_price.proofs.Led.{ran_begun, IsRanTo, ran_out, ComesTo, step_on, cut_short}
use Rattle.cip_price.proofs.pricing.price_in_rounds.Goals as goal

pub loop-round-init : goal.loop-round-init
loop-round-init g c = record {
  ran =
      ran_begun c.args.limits.moves (task_at c.args.task.now []) (g.A.AskPricer.told c.args.asker.now) c.args.pool.now
      c.args.work.now.best c.requires.best;
  ready = c.requires.ready;
  best = subst (BestHolds (task_at c.args.task.now [])) (sym c.requires.best) tt;
  grows = grows_none c.args.pool.now;
  task = c.requires.task;
}

pub returns-in_err-answer-clause-by : goal.returns-in_err-answer-clause-by
returns-in_err-answer-clause-by g c =
    MatchResult-from_err c.from_residual.result _ _ c.from_residual.ensures.0
    (λ _. cut_short c.args.limits.moves (task_at c.args.task.now []) (g.A.AskPricer.told c.args.asker.now)
    (g.A.AskPricer.told c.loop-round.asker) (g.A.AskPricer.told c.one_round.new.asker) c.args.pool.now c.loop-round.pool
    c.loop-round.work.best c.loop-round._round c.loop-round.invariant.ran c.in_err-answer.ensures.step)

pub returns-in-Some-clause-by : goal.returns-in-Some-clause-by
returns-in-Some-clause-by g c =
    subst (ComesTo c.args.limits.moves c.args.limits.rounds (task_at c.args.task.now [])
    (g.A.AskPricer.told c.args.asker.now) (g.A.AskPricer.told c.one_round.new.asker) c.args.pool.now c.one_round.new.pool
    c.one_round.new.work.best c.loop-round._round) c.in-Some.is
    (step_on c.args.limits.moves c.args.limits.rounds (task_at c.args.task.now []) (g.A.AskPricer.told c.args.asker.now)
    (g.A.AskPricer.told c.loop-round.asker) (g.A.AskPricer.told c.one_round.new.asker) c.args.pool.now c.loop-round.pool
    c.one_round.new.pool c.loop-round.work.best c.one_round.new.work.best c.loop-round._round c.in_ok-answer.field-0
    c.loop-round-test.true c.loop-round.invariant.ran c.in_ok-answer.ensures.step)

pub returns-in_err-answer-clause-grows : goal.returns-in_err-answer-clause-grows
returns-in_err-answer-clause-grows g c =
    grows_by c.args.pool.now c.loop-round.pool c.one_round.new.pool c.loop-round.invariant.grows
    c.in_err-answer.ensures.grows

pub returns-in-Some-clause-grows : goal.returns-in-Some-clause-grows
returns-in-Some-clause-grows g c =
    grows_by c.args.pool.now c.loop-round.pool c.one_round.new.pool c.loop-round.invariant.grows
    c.in_ok-answer.ensures.grows

pub loop-round-preserved : goal.loop-round-preserved
loop-round-preserved g c =
    let task = task_at c.args.task.now [] in
    let stands = subst (StandsBehind task c.one_round.new.pool c.one_round.new.work) c.in_default.is
    c.in_ok-answer.ensures.stands in
    let next : suc c.loop-round._round ≡ c.loop-round._round + 1 = omega arith in
    record {
      ran =
          subst (λ (n : ℕ). IsRanTo c.args.limits.moves task (g.A.AskPricer.told c.args.asker.now)
          (g.A.AskPricer.told c.one_round.new.asker) c.args.pool.now c.one_round.new.pool c.one_round.new.work.best n) next
          (subst (ComesTo c.args.limits.moves c.args.limits.rounds task (g.A.AskPricer.told c.args.asker.now)
          (g.A.AskPricer.told c.one_round.new.asker) c.args.pool.now c.one_round.new.pool c.one_round.new.work.best
          c.loop-round._round) c.in_default.is
          (step_on c.args.limits.moves c.args.limits.rounds task (g.A.AskPricer.told c.args.asker.now)
          (g.A.AskPricer.told c.loop-round.asker) (g.A.AskPricer.told c.one_round.new.asker) c.args.pool.now
          c.loop-round.pool c.one_round.new.pool c.loop-round.work.best c.one_round.new.work.best c.loop-round._round
          c.in_ok-answer.field-0 c.loop-round-test.true c.loop-round.invariant.ran c.in_ok-answer.ensures.step));
      ready = stands.0;
      best = stands.1;
      grows =
          grows_by c.args.pool.now c.loop-round.pool c.one_round.new.pool c.loop-round.invariant.grows
          c.in_ok-answer.ensures.grows;
      task = c.in_ok-answer.ensures.task;
    }

pub returns-clause-by : goal.returns-clause-by
returns-clause-by g c =
    ran_out c.args.limits.moves c.args.limits.rounds (task_at c.args.task.now []) (g.A.AskPricer.told c.args.asker.now)
    (g.A.AskPricer.told c.loop-round.asker) c.args.pool.now c.loop-round.pool c.loop-round.work.best c.loop-round._round
    c.with_cause.result (omega arith) c.with_cause.ensures c.loop-round.invariant.ran

pub returns-clause-holds : goal.returns-clause-holds
returns-clause-holds g c =
    subst (PriceHolds (task_at c.args.task.now []) c.loop-round.pool) (sym c.with_cause.ensures)
    (cause_holds (task_at c.args.task.now []) c.loop-round.pool c.loop-round.work.best Rounds
    c.loop-round.invariant.best)

pub returns-in-Some-clause-holds : goal.returns-in-Some-clause-holds
returns-in-Some-clause-holds g c = grind (arith, common_steps)

pub returns-in-Some-clause-task : goal.returns-in-Some-clause-task
returns-in-Some-clause-task g c = grind (arith, common_steps)

pub returns-in_err-answer-clause-task : goal.returns-in_err-answer-clause-task
returns-in_err-answer-clause-task g c = grind (arith, common_steps)

pub returns-clause-task : goal.returns-clause-task
returns-clause-task g c = grind (arith, common_steps)

pub returns-clause-grows : goal.returns-clause-grows
returns-clause-grows g c = grind (arith, common_steps)

pub one_round-requires-clause-best : goal.one_round-requires-clause-best
one_round-requires-clause-best g c = grind (arith, common_steps)

pub one_round-requires-clause-ready : goal.one_round-requires-clause-ready
one_round-requires-clause-ready g c = grind (arith, common_steps)

pub one_round-requires-clause-task : goal.one_round-requires-clause-task
one_round-requires-clause-task g c = grind (arith, common_steps)
