use Rattle.std.proofs.lemmas.Result.{IfOk-from_err}
use Rattle.std.proofs.lemmas.Grind.{common_steps}
use Rattle.std.proofs.Common.{◌≡◌, ◌++◌, ◌∷◌, [], pos, get_or, take, length, sym, ap, ap₂, ◌∙◌, arith, ◌^◌}
use Rattle.std.proofs.Math.Seq.{take-length}
use Rattle.std.proofs.lemmas.List.{take_more}
use Rattle.cip_rational.specs.Rational.{ℚ, ratio}
use Rattle.cip_dict.specs.WholeLines.{over}
use Rattle.cip_dict.proofs.WholeParts.{read_small, over_append, item_below}
use Rattle.cip_dict.proofs.whole.spell_wholes.Goals as goal

pub loop-at-preserved : goal.loop-at-preserved
loop-at-preserved c =
    let number : c.fraction.result ≡ ratio (get_or c.args.wholes.now c.loop-at.at (0, pos 0)).1 c.args.below =
    c.fraction.ensures ∙ ap (λ n. ratio n c.args.below) (read_small (get_or c.args.wholes.now c.loop-at.at (0, pos 0)).1 (item_below (2 ^ 42) c.args.wholes.now c.loop-at.at (0, pos 0) c.requires.numbers c.loop-at-test.true)) in
    c.in_ok-push.ensures.items
    ∙ ap₂ (λ (xs : _) (q : ℚ). xs ++ ((get_or c.args.wholes.now c.loop-at.at (0, pos 0)).0, q) ∷ []) c.loop-at.invariant number
    ∙ sym (ap (over c.args.below) (take_more c.args.wholes.now c.loop-at.at (0, pos 0) c.loop-at-test.true) ∙ over_append c.args.below (take c.loop-at.at c.args.wholes.now) (get_or c.args.wholes.now c.loop-at.at (0, pos 0) ∷ []))

pub returns : goal.returns
returns c =
    let end : c.loop-at.at ≡ length c.args.wholes.now = omega arith in
    c.loop-at.invariant ∙ ap (λ n. over c.args.below (take n c.args.wholes.now)) end ∙ ap (over c.args.below) (take-length c.args.wholes.now)

pub fraction-requires-clause-positive : goal.fraction-requires-clause-positive
fraction-requires-clause-positive c = grind (arith, common_steps)

pub bounds-wholes-at-in-loop-at : goal.bounds-wholes-at-in-loop-at
bounds-wholes-at-in-loop-at c = grind (arith, common_steps)

pub fraction-requires-clause-small : goal.fraction-requires-clause-small
fraction-requires-clause-small c = grind (arith, common_steps)

pub bounds-wholes-at : goal.bounds-wholes-at
bounds-wholes-at c = grind (arith, common_steps)

pub offset_bounds-wholes-at-in-loop-at : goal.offset_bounds-wholes-at-in-loop-at
offset_bounds-wholes-at-in-loop-at c = grind (arith, common_steps)

pub offset_bounds-wholes-at : goal.offset_bounds-wholes-at
offset_bounds-wholes-at c = grind (arith, common_steps)

pub loop-at-init : goal.loop-at-init
loop-at-init c = grind (arith, common_steps)

pub returns-in_err-push : goal.returns-in_err-push
returns-in_err-push c = IfOk-from_err c.from_residual.result _ c.from_residual.ensures.0
