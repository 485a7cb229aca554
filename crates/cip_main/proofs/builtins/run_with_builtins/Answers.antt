use Rattle.std.proofs.lemmas.Grind.{common_steps}
use Rattle.std.proofs.Common.{arith}
use Rattle.cip_main.proofs.builtins.run_with_builtins.Goals as goal

pub put-requires : goal.put-requires
put-requires g c =
    omega (
      arith,
      c.in_ok-start.ensures.len,
      c.in_ok-start.ensures.exact,
    )

pub put-requires-2 : goal.put-requires-2
put-requires-2 g c =
    omega (
      arith,
      c.in_ok-start.ensures.len,
      c.in_ok-start.ensures.exact,
      c.put.ensures.len,
      c.put.ensures.capacity,
    )

pub put-requires-3 : goal.put-requires-3
put-requires-3 g c =
    omega (
      arith,
      c.in_ok-start.ensures.len,
      c.in_ok-start.ensures.exact,
      c.put.ensures.len,
      c.put.ensures.capacity,
      c.put-2.ensures.len,
      c.put-2.ensures.capacity,
    )

pub into_dyn_box-requires-15-after_bounds : goal.into_dyn_box-requires-15-after_bounds
into_dyn_box-requires-15-after_bounds g c = grind (arith, common_steps)

pub into_dyn_box-requires-14-after_bounds : goal.into_dyn_box-requires-14-after_bounds
into_dyn_box-requires-14-after_bounds g c = grind (arith, common_steps)

pub into_dyn_box-requires-13-after_bounds : goal.into_dyn_box-requires-13-after_bounds
into_dyn_box-requires-13-after_bounds g c = grind (arith, common_steps)

pub into_dyn_box-requires-12-after_bounds : goal.into_dyn_box-requires-12-after_bounds
into_dyn_box-requires-12-after_bounds g c = grind (arith, common_steps)

pub into_dyn_box-requires-11-after_bounds : goal.into_dyn_box-requires-11-after_bounds
into_dyn_box-requires-11-after_bounds g c = grind (arith, common_steps)

pub into_dyn_box-requires-8-after_bounds : goal.into_dyn_box-requires-8-after_bounds
into_dyn_box-requires-8-after_bounds g c = grind (arith, common_steps)

pub into_dyn_box-requires-9-after_bounds : goal.into_dyn_box-requires-9-after_bounds
into_dyn_box-requires-9-after_bounds g c = grind (arith, common_steps)

pub into_dyn_box-requires-10-after_bounds : goal.into_dyn_box-requires-10-after_bounds
into_dyn_box-requires-10-after_bounds g c = grind (arith, common_steps)

pub into_dyn_box-requires-7-after_bounds : goal.into_dyn_box-requires-7-after_bounds
into_dyn_box-requires-7-after_bounds g c = grind (arith, common_steps)

pub into_dyn_box-requires-4-after_bounds : goal.into_dyn_box-requires-4-after_bounds
into_dyn_box-requires-4-after_bounds g c = grind (arith, common_steps)

pub into_dyn_box-requires-3-after_bounds : goal.into_dyn_box-requires-3-after_bounds
into_dyn_box-requires-3-after_bounds g c = grind (arith, common_steps)

pub into_dyn_box-requires-6-after_bounds : goal.into_dyn_box-requires-6-after_bounds
into_dyn_box-requires-6-after_bounds g c = grind (arith, common_steps)

pub into_dyn_box-requires-5-after_bounds : goal.into_dyn_box-requires-5-after_bounds
into_dyn_box-requires-5-after_bounds g c = grind (arith, common_steps)

pub into_dyn_box-requires-2-after_bounds : goal.into_dyn_box-requires-2-after_bounds
into_dyn_box-requires-2-after_bounds g c = grind (arith, common_steps)

pub into_dyn_box-requires-after_bounds : goal.into_dyn_box-requires-after_bounds
into_dyn_box-requires-after_bounds g c = grind (arith, common_steps)
