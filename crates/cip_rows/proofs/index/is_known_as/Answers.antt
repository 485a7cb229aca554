use Rattle.std.proofs.lemmas.Grind.{common_steps}
use Rattle.std.proofs.Common.{arith, IsTrue, ◌↔◌}
use Rattle.cip_rows.specs.RowPools.{Serves}
use Rattle.cip_rows.proofs.IndexedRows.{known_tested}
use Rattle.cip_rows.proofs.index.is_known_as.Goals as goal

pub returns-then-is_same : goal.returns-then-is_same
returns-then-is_same c =
    let serves : IsTrue c.inside.result ↔ Serves c.args.row.now c.args.scope.now c.index-rows-place.result = grind (arith, common_steps) in
    known_tested _ _ _ _ c.in-Some.place c.index-rows-place.result c.requires.rising c.in-Some.ensures.0 c.in-Some.ensures.1 c.index-rows-place.is c.inside.result serves

pub returns-else-is_same : goal.returns-else-is_same
returns-else-is_same c =
    let serves : IsTrue c.is_same.result ↔ Serves c.args.row.now c.args.scope.now c.index-rows-place.result = grind (arith, common_steps) in
    known_tested _ _ _ _ c.in-Some.place c.index-rows-place.result c.requires.rising c.in-Some.ensures.0 c.in-Some.ensures.1 c.index-rows-place.is c.is_same.result serves

pub place_of-requires : goal.place_of-requires
place_of-requires c = grind (arith, common_steps)

pub returns-in-None : goal.returns-in-None
returns-in-None c = grind (arith, common_steps)

pub inside-requires : goal.inside-requires
inside-requires c = grind (arith, common_steps)

pub bounds-rows-place-then-is_same : goal.bounds-rows-place-then-is_same
bounds-rows-place-then-is_same c = grind (arith, common_steps)

pub offset_bounds-rows-place-then-is_same : goal.offset_bounds-rows-place-then-is_same
offset_bounds-rows-place-then-is_same c = grind (arith, common_steps)

pub bounds-rows-place : goal.bounds-rows-place
bounds-rows-place c = grind (arith, common_steps)

pub offset_bounds-rows-place : goal.offset_bounds-rows-place
offset_bounds-rows-place c = grind (arith, common_steps)
