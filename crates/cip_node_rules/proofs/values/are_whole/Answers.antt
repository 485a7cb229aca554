use Rattle.std.proofs.lemmas.Grind.{common_steps}
use Rattle.std.proofs.Common.{◌≡◌, true, false, Bool, get_or, sym, subst, arith, ◌∙◌, ℕ, ◌<◌, length}
use Rattle.cip_rational.specs.Rational.{ℚ, zeroℚ, IsWhole}
use Rattle.cip_problem.proofs.Zips.{zip_from, zip_at}
use borrow.Author.Count.{below_more}
use Rattle.std.proofs.lemmas.List.{get_or_default}
use Rattle.cip_node_rules.proofs.values.are_whole.Goals as goal

pub returns-then-not-is_right : goal.returns-then-not-is_right
returns-then-not-is_right c = λ h.
    c.if-not-is_right.ensures
    (subst (λ v. get_or c.args.whole.now c.loop-at.at false ≡ true → IsWhole v) (sym c.index-point-at.is)
    (zip_at (λ (whole : Bool) (value : ℚ). whole ≡ true → IsWhole value) c.args.whole.now c.args.point.now false c.index-point-at.result c.loop-at.at h c.loop-at-test.true))

pub returns : goal.returns
returns c =
    zip_from (λ (whole : Bool) (value : ℚ). whole ≡ true → IsWhole value) c.args.whole.now c.args.point.now false zeroℚ c.requires
    (λ k l. c.loop-at.invariant k (omega (arith, l)))

pub loop-at-preserved : goal.loop-at-preserved
loop-at-preserved c =
    let at = c.loop-at.at in
    let valued : at < length c.args.point.now = omega (arith, c.loop-at-test.true, c.requires) in
    below_more (λ (k : ℕ). get_or c.args.whole.now k false ≡ true → IsWhole (get_or c.args.point.now k zeroℚ)) at
    c.loop-at.invariant
    (λ e. subst IsWhole
    (c.index-point-at.is ∙ get_or_default c.args.point.now at c.index-point-at.result zeroℚ valued)
    (c.if-not-is_right.ensures e))

pub loop-at-init : goal.loop-at-init
loop-at-init c = grind (arith, common_steps)

pub bounds-point-at : goal.bounds-point-at
bounds-point-at c = grind (arith, common_steps)

pub bounds-whole-at : goal.bounds-whole-at
bounds-whole-at c = grind (arith, common_steps)

pub offset_bounds-point-at : goal.offset_bounds-point-at
offset_bounds-point-at c = grind (arith, common_steps)
