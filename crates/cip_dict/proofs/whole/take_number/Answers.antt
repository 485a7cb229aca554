use Rattle.std.proofs.lemmas.Grind.{common_steps}
use Rattle.std.proofs.Common.{◌<◌, ◌∙◌, add-one, pos, sym, ap, length, arith}
use Rattle.cip_rational.specs.Rational.{zeroℚ}
use Rattle.cip_dict.specs.WholeLines.{Whole, over}
use Rattle.cip_dict.proofs.Places.{place_hit, place_miss}
use Rattle.cip_dict.proofs.WholeParts.{number_hit, number_miss, read_small, yes_over, no_over, length_over}
use Rattle.cip_dict.proofs.whole.take_number.Goals as goal

pub returns-then-head-k-clause-value : goal.returns-then-head-k-clause-value
returns-then-head-k-clause-value c =
    let w : c.args.place < length c.args.wholes.now = c.requires.there c.if-head-k.true in
    let at = c.requires.at (0, pos 0) w in
    λ i. read_small c.args.head.1 c.requires.small
    ∙ ap (λ (e : Whole). e.1) at
    ∙ sym (number_hit c.args.k c.args.wholes.now c.args.place (0, pos 0) i w (sym (ap (λ (e : Whole). e.0) at) ∙ c.if-head-k.true))

pub returns-then-head-k-clause-past : goal.returns-then-head-k-clause-past
returns-then-head-k-clause-past c =
    let w : c.args.place < length c.args.wholes.now = c.requires.there c.if-head-k.true in
    λ i. rw add-one (place_hit c.args.k (over 1 c.args.wholes.now) c.args.place 0 c.requires.kept.0 (0, zeroℚ) c.requires.kept.1 i (omega (arith, w, length_over 1 c.args.wholes.now)) (yes_over c.args.wholes.now c.args.place c.args.k w (λ b. sym (ap (λ (e : Whole). e.0) (c.requires.at b w)) ∙ c.if-head-k.true) (0, zeroℚ)))

pub returns-else-head-k-clause-value : goal.returns-else-head-k-clause-value
returns-else-head-k-clause-value c =
    λ i. sym (number_miss c.args.k c.args.wholes.now c.args.place c.requires.kept.0 c.requires.kept.1 i (λ d w s. c.if-head-k.false (ap (λ (e : Whole). e.0) (c.requires.at d w) ∙ s)))

pub returns-else-head-k-clause-past : goal.returns-else-head-k-clause-past
returns-else-head-k-clause-past c =
    λ i. place_miss c.args.k (over 1 c.args.wholes.now) c.args.place i (no_over c.args.wholes.now c.args.place c.args.k (λ d w s. c.if-head-k.false (ap (λ (e : Whole). e.0) (c.requires.at d w) ∙ s)))

pub returns-then-head-k-clause-small : goal.returns-then-head-k-clause-small
returns-then-head-k-clause-small c = grind (arith, common_steps)

pub overflow_add-result : goal.overflow_add-result
overflow_add-result c = grind (arith, common_steps)
