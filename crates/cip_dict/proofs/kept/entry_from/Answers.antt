use Rattle.std.proofs.lemmas.Grind.{common_steps}
use Rattle.std.proofs.Common.{◌∙◌, sym, arith}
use Rattle.cip_dict.proofs.Places.{entry_hit, entry_miss}
use Rattle.cip_dict.proofs.kept.entry_from.Goals as goal

pub returns-then-stands_at : goal.returns-then-stands_at
returns-then-stands_at c =
    sym (entry_hit c.args.k c.args.entries.now c.args.place c.index-entries-place.result c.requires.at (c.stands_at.ensures.within c.if-stands_at.true) (c.stands_at.ensures.yes c.if-stands_at.true c.index-entries-place.result))

pub returns-else-stands_at : goal.returns-else-stands_at
returns-else-stands_at c =
    c.zero.ensures ∙ sym (entry_miss c.args.k c.args.entries.now c.args.place 0 c.requires.kept.0 c.requires.kept.1 c.requires.at (λ d w. c.stands_at.ensures.no c.if-stands_at.false d w))

pub bounds-entries-place-then-stands_at : goal.bounds-entries-place-then-stands_at
bounds-entries-place-then-stands_at c = grind (arith, common_steps)

pub bounds-entries-place : goal.bounds-entries-place
bounds-entries-place c = grind (arith, common_steps)

pub offset_bounds-entries-place : goal.offset_bounds-entries-place
offset_bounds-entries-place c = grind (arith, common_steps)
