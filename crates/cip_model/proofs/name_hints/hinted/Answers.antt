use Rattle.std.proofs.lemmas.Grind.{common_steps}
use Rattle.std.proofs.Common.{arith, ◌∙◌, Some, ap, sym}
use Rattle.cip_model.proofs.NamePlaces.{same}
use Rattle.cip_model.proofs.name_hints.hinted.Goals as goal

pub bounds-hints-place_of : goal.bounds-hints-place_of
bounds-hints-place_of c = grind (arith, common_steps)

pub place_of-requires : goal.place_of-requires
place_of-requires c = grind (arith, common_steps)

pub piece-requires-clause-there : goal.piece-requires-clause-there
piece-requires-clause-there c = grind (arith, common_steps)

pub overflow_sub-result : goal.overflow_sub-result
overflow_sub-result c = grind (arith, common_steps)

pub overflow_sub-behind : goal.overflow_sub-behind
overflow_sub-behind c = grind (arith, common_steps)

pub offset_bounds-hints-place_of : goal.offset_bounds-hints-place_of
offset_bounds-hints-place_of c = grind (arith, common_steps)

pub loop-look-preserved : goal.loop-look-preserved
loop-look-preserved c = grind (arith, common_steps)

pub returns-then-hint-eq0 : goal.returns-then-hint-eq0
returns-then-hint-eq0 c = grind (arith, common_steps)

pub returns : goal.returns
returns c = grind (arith, common_steps)

pub returns-then-count-eq0 : goal.returns-then-count-eq0
returns-then-count-eq0 c = grind (arith, common_steps)

pub loop-look-preserved-then-hint-marked : goal.loop-look-preserved-then-hint-marked
loop-look-preserved-then-hint-marked c = grind (arith, common_steps)

pub returns-then-eq : goal.returns-then-eq
returns-then-eq c =
    c.piece.ensures ∙ ap Some (same c.piece.result.now c.args.name.now (sym c.eq.ensures ∙ c.if-eq.true))
