use Rattle.std.proofs.Common.{◌≡◌, List, replicate, sym, ap, ◌∙◌, subst, true≢false}
use Rattle.cip_rational.specs.Rational.{ℚ, zeroℚ, ◌<ℚ◌}
use Rattle.cip_problem.specs.WellFormed.{columns}
use Rattle.cip_master.specs.MasterTasks.{Task, task_of}
use Rattle.cip_master.specs.MasterAnswers.{ShowsOther, IsMasterAnswer}
use Rattle.cip_master.proofs.Answered.{other_sum, no_sum, emptiness_unshown, is_farkas}
use Rattle.cip_master.proofs.reading.emptied.Goals as goal

pub returns-in_default : goal.returns-in_default
returns-in_default c = λ limit.
    let task : Task = task_of c.args.task.now in
    let zeros : List ℚ = replicate (columns task.program) zeroℚ in
    let given : c.in_ok-shown.shown.rests.items ≡ zeros =
    c.in_ok-shown.ensures.rests ∙ c.in_ok-zeros.ensures ∙ ap (λ n. replicate n zeroℚ) c.columns.ensures.count in
    subst (IsMasterAnswer limit task) (sym c.unshown.ensures)
    (emptiness_unshown task c.args.master.now c.args.combo.now c.requires.whole c.requires.empty
    (subst (λ q. ShowsOther task q zeros c.args.combo.now (λ sum. zeroℚ <ℚ sum)) c.zero.ensures
    (no_sum task c.zero.result zeros c.in_ok-shown.shown.multipliers.items c.in_ok-shown.shown.prices.items
    c.args.combo.now c.in_ok-shown.ensures.multipliers c.in_ok-shown.ensures.prices c.in_ok-shown.shown.rests.items given
    (λ sum. zeroℚ <ℚ sum) c.in_default.field-0 c.in_default.ensures.steps)))

pub returns-then-is_positive : goal.returns-then-is_positive
returns-then-is_positive c = λ limit.
    let task : Task = task_of c.args.task.now in
    let zeros : List ℚ = replicate (columns task.program) zeroℚ in
    let given : c.in_ok-shown.shown.rests.items ≡ zeros =
    c.in_ok-shown.ensures.rests ∙ c.in_ok-zeros.ensures ∙ ap (λ n. replicate n zeroℚ) c.columns.ensures.count in
    is_farkas task c.in-Ok.sum c.zero.result c.show.new.shown c.in_ok-shown.shown.rests.items
    (c.is_positive.ensures.0 c.if-is_positive.true) c.zero.ensures given c.in-Ok.ensures.shows

pub returns-else-is_positive : goal.returns-else-is_positive
returns-else-is_positive c = λ limit.
    let task : Task = task_of c.args.task.now in
    let zeros : List ℚ = replicate (columns task.program) zeroℚ in
    let given : c.in_ok-shown.shown.rests.items ≡ zeros =
    c.in_ok-shown.ensures.rests ∙ c.in_ok-zeros.ensures ∙ ap (λ n. replicate n zeroℚ) c.columns.ensures.count in
    subst (IsMasterAnswer limit task) (sym c.unshown-else-is_positive.ensures)
    (emptiness_unshown task c.args.master.now c.args.combo.now c.requires.whole c.requires.empty
    (subst (λ q. ShowsOther task q zeros c.args.combo.now (λ sum. zeroℚ <ℚ sum)) c.zero.ensures
    (other_sum task c.zero.result zeros c.in_ok-shown.shown.multipliers.items c.in_ok-shown.shown.prices.items
    c.args.combo.now c.in_ok-shown.ensures.multipliers c.in_ok-shown.ensures.prices c.in_ok-shown.shown.rests.items given
    (λ sum. zeroℚ <ℚ sum)
    (record {
      rests = c.show.new.shown.rests.items;
      prices = c.show.new.shown.prices.items;
      sum = c.in-Ok.sum;
    })
    c.in-Ok.ensures.steps (λ w. true≢false (sym (c.is_positive.ensures.1 w) ∙ c.if-is_positive.false)))))
