use Rattle.std.proofs.lemmas.Grind.{common_steps}
use Rattle.std.proofs.Common.{◌≡◌, Bool, List, true, false, get_or, refl, sym, subst, arith, ℕ, ◌<◌, length, ◌∙◌, ap}
use Rattle.std.specs.Bool.{MatchBool, IsTrue}
use Rattle.cip_rational.specs.Rational.{ℚ, zeroℚ, IsWhole}
use Rattle.cip_problem.specs.Cuts.{CanRound, CanRoundAt}
use Rattle.cip_problem.proofs.Zips.{zip_from, zip_at}
use borrow.Author.Count.{below_more}
use Rattle.std.proofs.lemmas.List.{get_or_default}
use Rattle.cip_model.proofs.whole_costs.are_costs_whole.Goals as goal

pub loop-at-init : goal.loop-at-init
loop-at-init c = grind (arith, common_steps)

pub returns-then-not-can_round : goal.returns-then-not-can_round
returns-then-not-can_round c = λ h.
    let whole : List Bool = c.whole-whole.result.now in
    let costs : List ℚ = c.costs-costs.result.now in
    let all : CanRound whole costs =
    subst (λ flags. CanRound flags costs) (sym c.whole-whole.ensures.whole)
    (subst (CanRound c.args.program.now.integral) (sym c.costs-costs.ensures.costs) h.costs) in
    c.if-not-can_round.ensures
    (subst (CanRoundAt (get_or whole c.loop-at.at false)) (sym c.index-costs-at.is)
    (zip_at CanRoundAt whole costs false c.index-costs-at.result c.loop-at.at all c.loop-at-test.true))

-- a test of the second of two parts, where the first is known
second_decides : {A B : Type 0} (result : Bool) → (IsTrue result → B) → (B → IsTrue result) → (B → A) → (A → B) → MatchBool result A (¬ A)
second_decides true gives given all part = all (gives refl)
second_decides false gives given all part = λ a. let no : false ≡ true = given (part a) in absurd (cc)

pub returns : goal.returns
returns c =
    let program = c.args.program.now in
    let flags : List Bool = c.whole-whole.result.now in
    let numbers : List ℚ = c.costs-costs.result.now in
    let all : CanRound flags numbers =
    zip_from CanRoundAt flags numbers false zeroℚ (grind (arith, common_steps))
    (λ k l. c.loop-at.invariant k (omega (arith, l, c.loop-at-test.false))) in
    let costs : CanRound program.integral program.costs =
    subst (λ wholes. CanRound wholes program.costs) c.whole-whole.ensures.whole (subst (CanRound flags) c.costs-costs.ensures.costs all) in
    second_decides c.is_whole.result c.is_whole.ensures.0 c.is_whole.ensures.1
    (λ whole. record { costs = costs; constant = subst IsWhole c.constant.ensures whole })
    (λ h. subst IsWhole (sym c.constant.ensures) h.constant)

pub bounds-costs-at : goal.bounds-costs-at
bounds-costs-at c = grind (arith, common_steps)

pub offset_bounds-costs-at : goal.offset_bounds-costs-at
offset_bounds-costs-at c = grind (arith, common_steps)

pub bounds-whole-at : goal.bounds-whole-at
bounds-whole-at c = grind (arith, common_steps)

pub loop-at-preserved : goal.loop-at-preserved
loop-at-preserved c =
    let whole = c.whole-whole.result.now in
    let costs = c.costs-costs.result.now in
    let at = c.loop-at.at in
    let costed : at < length costs =
    omega (
      arith,
      c.loop-at-test.true,
      ap length c.whole-whole.ensures.whole,
      ap length c.costs-costs.ensures.costs,
      c.costs-costs.ensures.formed.integral,
    ) in
    below_more (λ (k : ℕ). CanRoundAt (get_or whole k false) (get_or costs k zeroℚ)) at c.loop-at.invariant
    (subst (CanRoundAt (get_or whole at false))
    (c.index-costs-at.is ∙ get_or_default costs at c.index-costs-at.result zeroℚ costed)
    c.if-not-can_round.ensures)
