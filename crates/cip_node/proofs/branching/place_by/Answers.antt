use Rattle.cip_problem.specs.WellFormed.{columns}
use Rattle.std.proofs.lemmas.Grind.{common_steps}
use Rattle.std.proofs.Common.{◌≡◌, ◌∙◌, ℕ, ℤ, Option, None, Some, Vec, Global, length, sym, ap, subst, arith, IfSome}
use Rattle.std.specs.Prelude.{MatchOption, option_map}
use Rattle.cip_rational.specs.Rational.{ℚ}
use Rattle.cip_problem.specs.Program.{Program}
use Rattle.cip_node_rules.specs.OpenChoices.{IsSettledBox}
use Rattle.cip_node_rules.specs.declared.splits.SplitPlace.{SplitPlace}
use Rattle.cip_core.specs.CoreStates.{reduced_of}
use Rattle.cip_node.specs.Bounding.{IsSplitBy}
use Rattle.cip_node.proofs.Ruled.{placed, placed_by, placed_past}
use Rattle.cip_node.proofs.branching.place_by.Goals as goal

pub chosen_place-requires-clause-long : goal.chosen_place-requires-clause-long
chosen_place-requires-clause-long c =
    ap length (c.whole-whole.ensures.whole ∙ ap (λ (p : Program). p.integral) c.reduced-reduced.ensures) ∙ c.is_sound.ensures.reduced.integral ∙ sym c.requires.columns ∙ sym (ap length c.bounds-bounds.ensures)

pub chosen_place-requires-in-None-clause-long : goal.chosen_place-requires-in-None-clause-long
chosen_place-requires-in-None-clause-long c =
    ap length (c.whole-whole.ensures.whole ∙ ap (λ (p : Program). p.integral) c.reduced-reduced.ensures) ∙ c.is_sound.ensures.reduced.integral ∙ sym c.requires.columns ∙ sym (ap length c.bounds-bounds.ensures)

pub returns-in-Some : goal.returns-in-Some
returns-in-Some c =
    let core = c.args.core.now in
    let work = core.tree.work in
    let integral = (reduced_of core).integral in
    let whole : c.whole-whole.result.now ≡ integral = c.whole-whole.ensures.whole ∙ ap (λ (p : Program). p.integral) c.reduced-reduced.ensures in
    let col : SplitPlace → ℕ = λ p. p.col in
    let at : SplitPlace → ℤ = λ p. p.at in
    let point = c.as_slice.result.now in
    let given : option_map (λ (v : Vec ℚ Global). v.items) c.args.found.now.point ≡ Some point = ap (λ (o : Option (Vec ℚ Global)). option_map (λ (v : Vec ℚ Global). v.items) o) c.in-Some.is ∙ ap Some (sym c.as_slice.ensures.value) in
    placed_by col at c.chosen_place.result integral work (option_map (λ (v : Vec ℚ Global). v.items) c.args.found.now.point) point given
    (placed col at c.chosen_place.result integral work c.whole-whole.result.now c.bounds-bounds.result.now c.choices-choices.result.now (Some point) whole c.bounds-bounds.ensures c.choices-choices.ensures c.chosen_place.ensures)

pub returns-in-None : goal.returns-in-None
returns-in-None c =
    let core = c.args.core.now in
    let work = core.tree.work in
    let integral = (reduced_of core).integral in
    let whole : c.whole-whole.result.now ≡ integral = c.whole-whole.ensures.whole ∙ ap (λ (p : Program). p.integral) c.reduced-reduced.ensures in
    let col : SplitPlace → ℕ = λ p. p.col in
    let at : SplitPlace → ℤ = λ p. p.at in
    let given : option_map (λ (v : Vec ℚ Global). v.items) c.args.found.now.point ≡ None = ap (λ (o : Option (Vec ℚ Global)). option_map (λ (v : Vec ℚ Global). v.items) o) c.in-None.is in
    subst (λ (g : Option _). MatchOption c.chosen_place-in-None.result (IsSettledBox integral work.box work.choices) (λ place. IsSplitBy integral work g (col place) (at place))) (sym given)
    (placed_past col at c.chosen_place-in-None.result integral work _
    (placed col at c.chosen_place-in-None.result integral work c.whole-whole.result.now c.bounds-bounds.result.now c.choices-choices.result.now _ whole c.bounds-bounds.ensures c.choices-choices.ensures c.chosen_place-in-None.ensures))

pub chosen_place-requires-clause-columns : goal.chosen_place-requires-clause-columns
chosen_place-requires-clause-columns c = grind (arith, common_steps)

pub chosen_place-requires-clause-values : goal.chosen_place-requires-clause-values
chosen_place-requires-clause-values c = grind (arith, common_steps)

pub chosen_place-requires-in-None-clause-columns : goal.chosen_place-requires-in-None-clause-columns
chosen_place-requires-in-None-clause-columns c = grind (arith, common_steps)

pub chosen_place-requires-in-None-clause-values : goal.chosen_place-requires-in-None-clause-values
chosen_place-requires-in-None-clause-values c =
    let long = c.columns-columns.ensures.count ∙ ap columns c.reduced-reduced.ensures ∙ sym c.requires.columns ∙ sym (ap length c.bounds-bounds.ensures) in
    subst (λ n. IfSome c.last_values.result (λ values. length values.now ≡ n)) long c.last_values.ensures
