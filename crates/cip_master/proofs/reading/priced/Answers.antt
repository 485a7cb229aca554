use Rattle.std.proofs.Common.{◌≡◌, ℕ, ◌-◌, ◌≤◌, true, List, length, take, drop, refl, sym, ap, ◌∙◌, subst, true≢false}
use Rattle.cip_rational.specs.Rational.{ℚ, ◌+ℚ◌}
use Rattle.cip_rational.specs.Range.{sum_overflows}
use Rattle.cip_master.specs.MasterTasks.{Task, task_of}
use Rattle.cip_master.specs.MasterAnswers.{ShowsOther, IsMasterAnswer}
use Rattle.cip_master.proofs.Answered.{other_sum, no_sum, total_overflows, optimum_unshown, is_priced, ids_fit}
use Rattle.cip_master.proofs.reading.priced.Goals as goal

pub returns-in_default : goal.returns-in_default
returns-in_default c = λ limit.
    let task : Task = task_of c.args.task.now in
    subst (IsMasterAnswer limit task) (sym c.unshown.ensures)
    (total_overflows task c.args.master.now c.args.point.now c.args.combo.now c.args.cost c.requires.whole
    c.requires.optimum
    (subst (λ q. sum_overflows q c.args.cost ≡ true) c.constant.ensures c.in_default.ensures.0))

pub returns-in_default-show : goal.returns-in_default-show
returns-in_default-show c = λ limit.
    let task : Task = task_of c.args.task.now in
    let costs : List ℚ = task.program.costs in
    let Wanted : ℚ → Type 0 = λ sum. sum ≡ task.program.constant +ℚ c.args.cost in
    let given : c.in_ok-shown.shown.rests.items ≡ costs =
    c.in_ok-shown.ensures.rests ∙ c.in_ok-costs.ensures.items ∙ c.costs.ensures.costs in
    subst (IsMasterAnswer limit task) (sym c.unshown-in_default-show.ensures)
    (optimum_unshown task c.args.master.now c.args.point.now c.args.combo.now c.args.cost c.requires.whole
    c.requires.optimum
    (subst (λ q. ShowsOther task q costs c.args.combo.now Wanted) c.constant-2.ensures
    (no_sum task c.constant-2.result costs c.in_ok-shown.shown.multipliers.items c.in_ok-shown.shown.prices.items
    c.args.combo.now c.in_ok-shown.ensures.multipliers c.in_ok-shown.ensures.prices c.in_ok-shown.shown.rests.items given
    Wanted c.in_default-show.field-0 c.in_default-show.ensures.steps)))

pub returns-then-not-is_same : goal.returns-then-not-is_same
returns-then-not-is_same c = λ limit.
    let task : Task = task_of c.args.task.now in
    let costs : List ℚ = task.program.costs in
    let Wanted : ℚ → Type 0 = λ sum. sum ≡ task.program.constant +ℚ c.args.cost in
    let given : c.in_ok-shown.shown.rests.items ≡ costs =
    c.in_ok-shown.ensures.rests ∙ c.in_ok-costs.ensures.items ∙ c.costs.ensures.costs in
    let total_is : c.in-Ok.total ≡ task.program.constant +ℚ c.args.cost =
    c.in-Ok.ensures.1 ∙ ap (λ q. q +ℚ c.args.cost) c.constant.ensures in
    subst (IsMasterAnswer limit task) (sym c.unshown-then-not-is_same.ensures)
    (optimum_unshown task c.args.master.now c.args.point.now c.args.combo.now c.args.cost c.requires.whole
    c.requires.optimum
    (subst (λ q. ShowsOther task q costs c.args.combo.now Wanted) c.constant-2.ensures
    (other_sum task c.constant-2.result costs c.in_ok-shown.shown.multipliers.items c.in_ok-shown.shown.prices.items
    c.args.combo.now c.in_ok-shown.ensures.multipliers c.in_ok-shown.ensures.prices c.in_ok-shown.shown.rests.items given
    Wanted
    (record {
      rests = c.show.new.shown.rests.items;
      prices = c.show.new.shown.prices.items;
      sum = c.in-Ok-show.sum;
    })
    c.in-Ok-show.ensures.steps
    (λ w. true≢false (sym (c.if-not-is_same.ensures.1 (w ∙ sym total_is)))))))

pub weights_of-requires : goal.weights_of-requires
weights_of-requires c =
    subst (λ (ids : List ℕ). length ids ≤ length c.args.point.now) (sym c.as_slice.ensures.value)
    (ids_fit (task_of c.args.task.now) c.args.master.now c.args.point.now c.args.combo.now c.args.cost c.requires.whole
    c.requires.optimum)

pub returns : goal.returns
returns c = λ limit.
    let task : Task = task_of c.args.task.now in
    let point : List ℚ = c.args.point.now in
    let given : c.in_ok-shown.shown.rests.items ≡ task.program.costs =
    c.in_ok-shown.ensures.rests ∙ c.in_ok-costs.ensures.items ∙ c.costs.ensures.costs in
    let total_is : c.in-Ok.total ≡ task.program.constant +ℚ c.args.cost =
    c.in-Ok.ensures.1 ∙ ap (λ q. q +ℚ c.args.cost) c.constant.ensures in
    is_priced task c.args.master.now point c.args.combo.now c.args.cost c.in-Ok.total c.in-Ok-show.sum
    c.constant-2.result c.show.new.shown c.in-Ok-weights_of.weights c.in_ok-shown.shown.rests.items c.requires.task
    c.requires.whole c.requires.optimum total_is (c.if-not-is_same.ensures.0 refl) c.constant-2.ensures given
    c.in-Ok-show.ensures.shows (c.in-Ok-weights_of.ensures.ids ∙ c.as_slice.ensures.value)
    (c.in-Ok-weights_of.ensures.free
    ∙ ap (λ (ids : List ℕ). take (length point - length ids) point) c.as_slice.ensures.value)
    (c.in-Ok-weights_of.ensures.points
    ∙ ap (λ (ids : List ℕ). drop (length point - length ids) point) c.as_slice.ensures.value)
