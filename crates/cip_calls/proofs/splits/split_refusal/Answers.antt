use Rattle.std.proofs.lemmas.Int.{ints}
use Rattle.std.proofs.lemmas.Grind.{common_steps}
use Rattle.std.proofs.Common.{◌≡◌, inl, inr, true, false, Some, sym, ap, ◌∙◌, subst, to_z, of_z, ◌<◌, length, arith}
use Rattle.std.specs.Int.{w128}
use Rattle.cip_problem.specs.Program.{Program}
use Rattle.cip_problem.specs.Choices.{choice_at, is_open}
use Rattle.cip_problem.specs.Box.{sides_at}
use Rattle.cip_problem.specs.WellFormed.{IsWellFormed, columns}
use Rattle.cip_problem.specs.Log.{CanSplitAt}
use Rattle.cip_domain.specs.Halves.{CanHalve}
use Rattle.cip_core.specs.CoreStates.{reduced_of}
use Rattle.cip_core.proofs.CoreSteps.{work_long}
use Rattle.cip_calls.specs.SplitsJudged.{IsNamed}
use Rattle.cip_calls.proofs.SplitParts.{near_itself, kind_of, whole_not_splittable, continuous_not_splittable, both_left}
use Rattle.cip_calls.proofs.splits.split_refusal.Goals as goal
use Rattle.cip_tree.proofs.Halving.{plain_of}

pub returns-then-not-is_plain : goal.returns-then-not-is_plain
returns-then-not-is_plain c =
    let named : IsNamed c.args.core.now c.args.split.col c.args.split.at = record { inside = subst (λ n. c.args.split.col < n) (c.columns.ensures.count ∙ ap columns c.reduced.ensures) c.if-split-columns.false; near = omega (arith, ints) } in
    let core = c.args.core.now in
    let col = c.args.split.col in
    let choice : c.at-choice.result ≡ choice_at core.tree.work.choices col = c.at-choice.ensures ∙ ap (λ cs. choice_at cs col) c.choices.ensures in
    let kinds : c.whole.result.now ≡ (reduced_of core).integral = c.whole.ensures.whole ∙ ap (λ (p : Program). p.integral) c.reduced-2.ensures in
    let kind = kind_of (reduced_of core) c.whole.result.now col true kinds (subst IsWellFormed c.reduced-2.ensures c.whole.ensures.formed) named.inside c.if-whole.true in (
      named,
      subst (λ x. ¬ CanSplitAt (choice_at core.tree.work.choices col) x) (sym kind)
          (subst (λ x. ¬ CanSplitAt x (Some true)) choice (whole_not_splittable c.at-choice.result (sym c.is_plain.ensures ∙ c.if-not-is_plain.true))),
    )

pub returns-then-can_halve : goal.returns-then-can_halve
returns-then-can_halve c =
    let named : IsNamed c.args.core.now c.args.split.col c.args.split.at = record { inside = subst (λ n. c.args.split.col < n) (c.columns.ensures.count ∙ ap columns c.reduced.ensures) c.if-split-columns.false; near = omega (arith, ints) } in
    let core = c.args.core.now in
    let col = c.args.split.col in
    let choice : c.at-choice.result ≡ choice_at core.tree.work.choices col = c.at-choice.ensures ∙ ap (λ cs. choice_at cs col) c.choices.ensures in
    let kinds : c.whole.result.now ≡ (reduced_of core).integral = c.whole.ensures.whole ∙ ap (λ (p : Program). p.integral) c.reduced-2.ensures in
    let at : to_z w128 (of_z w128 c.args.split.at) ≡ c.args.split.at = near_itself c.args.split.at named.near in
    let sides : c.sides.result ≡ sides_at core.tree.work.box col = c.sides.ensures ∙ ap (λ b. sides_at b col) c.bounds.ensures in
    record {
      named = named;
      place = inl (record {
        whole = kind_of (reduced_of core) c.whole.result.now col true kinds (subst IsWellFormed c.reduced-2.ensures c.whole.ensures.formed) named.inside c.if-whole.true;
        plain = sym choice ∙ plain_of c.at-choice.result (sym c.is_plain.ensures ∙ c.if-not-is_plain.false);
        both = both_left (sides_at core.tree.work.box col) core.tree.ids c.args.split.at named.near
            (subst (λ s. CanHalve s c.args.split.at) sides (subst (CanHalve c.sides.result) at (c.can_halve.ensures.0 c.if-can_halve.true)));
      });
    }

pub returns-then-whole : goal.returns-then-whole
returns-then-whole c =
    let named : IsNamed c.args.core.now c.args.split.col c.args.split.at = record { inside = subst (λ n. c.args.split.col < n) (c.columns.ensures.count ∙ ap columns c.reduced.ensures) c.if-split-columns.false; near = omega (arith, ints) } in
    let core = c.args.core.now in
    let col = c.args.split.col in
    let choice : c.at-choice.result ≡ choice_at core.tree.work.choices col = c.at-choice.ensures ∙ ap (λ cs. choice_at cs col) c.choices.ensures in
    let kinds : c.whole.result.now ≡ (reduced_of core).integral = c.whole.ensures.whole ∙ ap (λ (p : Program). p.integral) c.reduced-2.ensures in
    let at : to_z w128 (of_z w128 c.args.split.at) ≡ c.args.split.at = near_itself c.args.split.at named.near in
    let sides : c.sides.result ≡ sides_at core.tree.work.box col = c.sides.ensures ∙ ap (λ b. sides_at b col) c.bounds.ensures in (
      named,
      (
        sym choice ∙ plain_of c.at-choice.result (sym c.is_plain.ensures ∙ c.if-not-is_plain.false),
        kind_of (reduced_of core) c.whole.result.now col true kinds (subst IsWellFormed c.reduced-2.ensures c.whole.ensures.formed) named.inside c.if-whole.true,
        λ h. absurd (let g : false ≡ true = sym c.if-can_halve.false ∙ c.can_halve.ensures.1 (subst (CanHalve c.sides.result) (sym at) (subst (λ s. CanHalve s c.args.split.at) (sym sides) h)) in cc),
      ),
    )

pub returns-then-is_open : goal.returns-then-is_open
returns-then-is_open c =
    let named : IsNamed c.args.core.now c.args.split.col c.args.split.at = record { inside = subst (λ n. c.args.split.col < n) (c.columns.ensures.count ∙ ap columns c.reduced.ensures) c.if-split-columns.false; near = omega (arith, ints) } in
    let core = c.args.core.now in
    let col = c.args.split.col in
    let choice : c.at-choice.result ≡ choice_at core.tree.work.choices col = c.at-choice.ensures ∙ ap (λ cs. choice_at cs col) c.choices.ensures in
    let kinds : c.whole.result.now ≡ (reduced_of core).integral = c.whole.ensures.whole ∙ ap (λ (p : Program). p.integral) c.reduced-2.ensures in
    record {
      named = named;
      place = inr (record {
        continuous = kind_of (reduced_of core) c.whole.result.now col false kinds (subst IsWellFormed c.reduced-2.ensures c.whole.ensures.formed) named.inside c.if-whole.false;
        open_ = ap is_open (sym choice) ∙ sym c.is_open.ensures ∙ c.if-is_open.true;
      });
    }

pub returns-else-is_open : goal.returns-else-is_open
returns-else-is_open c =
    let named : IsNamed c.args.core.now c.args.split.col c.args.split.at = record { inside = subst (λ n. c.args.split.col < n) (c.columns.ensures.count ∙ ap columns c.reduced.ensures) c.if-split-columns.false; near = omega (arith, ints) } in
    let core = c.args.core.now in
    let col = c.args.split.col in
    let choice : c.at-choice.result ≡ choice_at core.tree.work.choices col = c.at-choice.ensures ∙ ap (λ cs. choice_at cs col) c.choices.ensures in
    let kinds : c.whole.result.now ≡ (reduced_of core).integral = c.whole.ensures.whole ∙ ap (λ (p : Program). p.integral) c.reduced-2.ensures in
    let kind = kind_of (reduced_of core) c.whole.result.now col false kinds (subst IsWellFormed c.reduced-2.ensures c.whole.ensures.formed) named.inside c.if-whole.false in (
      named,
      subst (λ x. ¬ CanSplitAt (choice_at core.tree.work.choices col) x) (sym kind)
          (subst (λ x. ¬ CanSplitAt x (Some false)) choice (continuous_not_splittable c.at-choice.result (sym c.is_open.ensures ∙ c.if-is_open.false))),
    )

pub sides-requires : goal.sides-requires
sides-requires c =
    subst (λ n. c.args.split.col < n)
    (sym (ap length c.bounds.ensures ∙ work_long c.args.core.now c.args.node.now c.is_sound.ensures.reduced c.requires.at_work))
    (subst (λ n. c.args.split.col < n) (c.columns.ensures.count ∙ ap columns c.reduced.ensures) c.if-split-columns.false)

pub bounds-whole-split : goal.bounds-whole-split
bounds-whole-split c =
    subst (λ n. c.args.split.col < n)
    (sym (ap length c.whole.ensures.whole ∙ c.whole.ensures.formed.integral ∙ ap columns c.reduced-2.ensures))
    (subst (λ n. c.args.split.col < n) (c.columns.ensures.count ∙ ap columns c.reduced.ensures) c.if-split-columns.false)

pub returns-then-split-columns : goal.returns-then-split-columns
returns-then-split-columns c = grind (arith, common_steps)

pub overflow_cast-whole : goal.overflow_cast-whole
overflow_cast-whole c = grind (arith, common_steps)

pub overflow_cast-split : goal.overflow_cast-split
overflow_cast-split c = grind (arith, common_steps)
