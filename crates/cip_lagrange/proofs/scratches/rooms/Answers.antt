use Rattle.std.proofs.Common.{◌<◌, ◌+◌, List, ◌++◌, ◌∷◌, [], length, refl, sym, ap, subst, ◌∙◌, arith}
use Rattle.std.proofs.lemmas.Option.{slice_get_read}
use Rattle.cip_lagrange.specs.declared.scratches.BlockScratch.{BlockScratch}
use Rattle.cip_lagrange.proofs.Ready.{AreFittingTo, fitting_more}
use Rattle.cip_lagrange.proofs.scratches.rooms.Goals as goal

pub loop-part-preserved : goal.loop-part-preserved
loop-part-preserved c =
    let inside : c.loop-part.part-index < length c.args.parts.now = omega arith in
    subst (λ (works : List BlockScratch). AreFittingTo (c.loop-part.part-index + 1) c.args.parts.now works)
    (sym (c.push_reserved.ensures.items
    ∙ ap (λ (works : List BlockScratch). works ++ c.in-Ok-new.room ∷ []) c.in-Ok.ensures.items))
    (fitting_more c.loop-part.part-index c.args.parts.now c.loop-part.rooms.items c.part-item.result c.in-Ok-new.room
    c.loop-part.invariant
    (slice_get_read c.args.parts.now (length c.args.parts.now) c.loop-part.part-index c.part-item.result refl inside
    c.part-item.is)
    c.in-Ok-new.ensures)

pub push_reserved-requires : goal.push_reserved-requires
push_reserved-requires c = omega (arith, c.in-Ok.ensures.ok)
