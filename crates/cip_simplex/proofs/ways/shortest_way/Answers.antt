use Rattle.cip_bland.specs.MoveList.{first_wide_way}
use Rattle.cip_bland.specs.Rule.{way_of, shortest}
use Rattle.cip_simplex.proofs.Shortest.{shortest_more, first_wide_more}
use Rattle.std.proofs.lemmas.Grind.{common_steps}
use Rattle.std.proofs.Common.{arith, ◌≡◌, ◌∙◌, sym, ap}
use Rattle.cip_bland.specs.Dictionary.{size}
use Rattle.cip_bland.proofs.Searches.{wide_found}
use Rattle.cip_simplex.proofs.ways.shortest_way.Goals as goal

pub returns-in-Err-clause-shortest : goal.returns-in-Err-clause-shortest
returns-in-Err-clause-shortest c = wide_found c.args.dict.now c.args.j (size c.args.dict.now) c.loop-v.v c.in-Err.wide (omega arith) c.loop-v.invariant.fits c.in-Err.ensures

pub way_to-requires-clause-within : goal.way_to-requires-clause-within
way_to-requires-clause-within c = grind (arith, common_steps)

pub way_to-requires-clause-entering : goal.way_to-requires-clause-entering
way_to-requires-clause-entering c = grind (arith, common_steps)

pub falling_heading-heading-requires : goal.falling_heading-heading-requires
falling_heading-heading-requires c = grind (arith, common_steps)

pub overflow_cast-v : goal.overflow_cast-v
overflow_cast-v c = grind (arith, common_steps)

pub way_to-requires-clause-falls : goal.way_to-requires-clause-falls
way_to-requires-clause-falls c = grind (arith, common_steps)

pub loop-v-init : goal.loop-v-init
loop-v-init c = grind (arith, common_steps)

pub loop-v-preserved : goal.loop-v-preserved
loop-v-preserved c = record {
  fits = first_wide_more c.args.dict.now c.args.j c.loop-v.v c.loop-v.invariant.fits c.in-Ok.ensures.0;
  best = shortest_more c.loop-v.v (way_of c.args.dict.now c.args.j) c.loop-v.best c.in-Ok.found c.shorter_way-best.result c.loop-v.invariant.best c.in-Ok.ensures.1 c.shorter_way-best.ensures;
}

pub returns-clause-shortest : goal.returns-clause-shortest
returns-clause-shortest c =
    let end : c.loop-v.v ≡ size c.args.dict.now = omega (arith, c.loop-v-test.false, c.loop-v.auto.v-end, c.len-v-end.ensures.variables) in
    (sym (ap (first_wide_way c.args.dict.now c.args.j) end) ∙ c.loop-v.invariant.fits, c.loop-v.invariant.best ∙ ap (λ n. shortest n (way_of c.args.dict.now c.args.j)) end)
