use Rattle.std.proofs.lemmas.Grind.{common_steps}
use Rattle.std.proofs.Common.{◌≡◌, ◌<◌, ◌∙◌, ◌++◌, ◌∷◌, [], true, All, None, get_or, length, sym, ap, subst, arith}
use Rattle.std.proofs.lemmas.List.{take_all}
use Rattle.std.proofs.lemmas.List.Elements.{All-push}
use Rattle.cip_rational.specs.Rational.{ℚ}
use Rattle.cip_rational.specs.Range.{fits_range}
use Rattle.cip_problem.specs.Program.{Sides}
use Rattle.cip_node.specs.LeafValues.{least_above, least_values}
use Rattle.cip_node.proofs.OneLeaf.{least_true, least_false}
use Rattle.cip_node.proofs.leaves.values_in.Goals as goal

pub loop-at-preserved-then-not-whole-at : goal.loop-at-preserved-then-not-whole-at
loop-at-preserved-then-not-whole-at c =
    let within : c.loop-at.at < length c.args.whole.now = omega arith in
    let below : c.loop-at.at < length c.args.sides.now = omega (arith, c.requires) in
    record {
      least = c.loop-at.invariant.least ∙ sym (least_false c.args.whole.now c.args.sides.now c.loop-at.at (record { low = None; high = None }) within below c.if-not-whole-at.true);
      in_range = c.loop-at.invariant.in_range;
    }

pub loop-at-preserved : goal.loop-at-preserved
loop-at-preserved c =
    let within : c.loop-at.at < length c.args.whole.now = omega arith in
    let below : c.loop-at.at < length c.args.sides.now = omega (arith, c.requires) in
    record {
      least =
          c.in_ok-push.ensures.items ∙ ap (λ t. c.loop-at.values.items ++ t ∷ []) (c.in_range.ensures.same ∙ c.least_whole.ensures ∙ ap (λ (s : Sides). least_above s.low) c.index-sides-at.is)
          ∙ ap (λ t. t ++ least_above (get_or c.args.sides.now c.loop-at.at c.index-sides-at.result).low ∷ []) c.loop-at.invariant.least
          ∙ sym (least_true c.args.whole.now c.args.sides.now c.loop-at.at c.index-sides-at.result within below c.if-not-whole-at.false);
      in_range = subst (All (λ (v : ℚ). fits_range v ≡ true)) (sym c.in_ok-push.ensures.items)
          (All-push (λ (v : ℚ). fits_range v ≡ true) c.loop-at.values.items c.in_range.result c.loop-at.invariant.in_range c.in_range.ensures.in_range);
    }

pub returns-clause-least : goal.returns-clause-least
returns-clause-least c =
    let long = take_all c.loop-at.at c.args.whole.now (omega arith) in
    let box = take_all c.loop-at.at c.args.sides.now (omega (arith, c.requires)) in
    c.loop-at.invariant.least ∙ (λ i. least_values (long i) (box i))

pub returns-clause-in_range : goal.returns-clause-in_range
returns-clause-in_range c = c.loop-at.invariant.in_range

pub loop-at-init : goal.loop-at-init
loop-at-init c = grind (arith, common_steps)

pub bounds-sides-at : goal.bounds-sides-at
bounds-sides-at c = grind (arith, common_steps)

pub bounds-whole-at : goal.bounds-whole-at
bounds-whole-at c = grind (arith, common_steps)

pub offset_bounds-sides-at : goal.offset_bounds-sides-at
offset_bounds-sides-at c = grind (arith, common_steps)
