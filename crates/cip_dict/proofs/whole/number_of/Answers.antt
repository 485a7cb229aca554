use Rattle.std.proofs.lemmas.Grind.{common_steps}
use Rattle.std.proofs.Common.{◌<◌, ◌∙◌, pos, sym, length, get_or, ◌^◌, arith}
use Rattle.cip_dict.proofs.WholeParts.{rising_over, over_place, number_hit, number_miss, read_small, item_below}
use Rattle.cip_dict.proofs.whole.number_of.Goals as goal

pub place_from-place-requires : goal.place_from-place-requires
place_from-place-requires c = rising_over 1 0 c.requires.kept.0 c.args.wholes.now c.requires.kept.1

pub returns-then-stands_at-clause-value : goal.returns-then-stands_at-clause-value
returns-then-stands_at-clause-value c =
    let w : c.place_from-place.result < length c.args.wholes.now = c.stands_at.ensures.within c.if-stands_at.true in
    read_small (get_or c.args.wholes.now c.place_from-place.result (0, pos 0)).1 (item_below (2 ^ 42) c.args.wholes.now c.place_from-place.result (0, pos 0) c.requires.small w)
    ∙ sym (number_hit c.args.k c.args.wholes.now c.place_from-place.result (0, pos 0) (over_place 1 c.args.k c.args.wholes.now c.place_from-place.result c.place_from-place.ensures) w (c.stands_at.ensures.yes c.if-stands_at.true (0, pos 0)))

pub returns-then-stands_at-clause-small : goal.returns-then-stands_at-clause-small
returns-then-stands_at-clause-small c =
    let w : c.place_from-place.result < length c.args.wholes.now = c.stands_at.ensures.within c.if-stands_at.true in
    rw (read_small (get_or c.args.wholes.now c.place_from-place.result (0, pos 0)).1 (item_below (2 ^ 42) c.args.wholes.now c.place_from-place.result (0, pos 0) c.requires.small w)) (item_below (2 ^ 42) c.args.wholes.now c.place_from-place.result (0, pos 0) c.requires.small w)

pub returns-else-stands_at-clause-value : goal.returns-else-stands_at-clause-value
returns-else-stands_at-clause-value c =
    sym (number_miss c.args.k c.args.wholes.now c.place_from-place.result c.requires.kept.0 c.requires.kept.1 (over_place 1 c.args.k c.args.wholes.now c.place_from-place.result c.place_from-place.ensures) (λ d w. c.stands_at.ensures.no c.if-stands_at.false d w))

pub bounds-wholes-place : goal.bounds-wholes-place
bounds-wholes-place c = grind (arith, common_steps)

pub offset_bounds-wholes-place : goal.offset_bounds-wholes-place
offset_bounds-wholes-place c = grind (arith, common_steps)
