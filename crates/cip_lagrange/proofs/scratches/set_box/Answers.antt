use Rattle.std.proofs.Common.{◌≡◌, ◌+◌, ◌<◌, length, take, ap, ◌∙◌, arith}
use Rattle.std.proofs.lemmas.List.{length-set}
use Rattle.cip_lagrange.proofs.Ready.{box_step}
use Rattle.cip_lagrange.proofs.scratches.set_box.Goals as goal

pub loop-at-preserved : goal.loop-at-preserved
loop-at-preserved c =
    let inside : c.loop-at.at < length c.args.numbers.now = omega arith in
    let long : length c.loop-at.own ≡ length c.args.numbers.now = c.loop-at.invariant.long ∙ c.requires.long in
    record {
      set =
          ap (take (c.loop-at.at + 1)) c.set_sides.ensures
          ∙ box_step c.loop-at.own c.args.bounds.now c.args.numbers.now c.loop-at.at c.sides.result long inside
          (c.requires.numbers c.loop-at.at 0 inside) c.sides.ensures c.loop-at.invariant.set;
      long =
          ap length c.set_sides.ensures ∙ length-set c.loop-at.own c.loop-at.at c.sides.result
          ∙ c.loop-at.invariant.long;
    }
