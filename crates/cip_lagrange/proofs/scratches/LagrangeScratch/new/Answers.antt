use Rattle.std.proofs.Common.{◌≡◌, length, get_or, sym, subst}
use Rattle.std.specs.Prelude.{All}
use Rattle.std.proofs.lemmas.Option.{slice_get-get_or}
use Rattle.cip_lagrange.specs.declared.parts.Subproblem.{Subproblem}
use Rattle.cip_lagrange.proofs.Ready.{block_sides}
use Rattle.cip_lagrange.proofs.scratches.LagrangeScratch.new.Goals as goal

pub rooms-requires : goal.rooms-requires
rooms-requires c =
    subst (All (λ (part : Subproblem). length part.bounds ≡ length part.whole.items)) (sym c.as_slice.ensures.value)
    (λ k d l.
    block_sides c.args.program.now c.args.blocks.now c.columns-columns.ensures.formed c.requires k
    (get_or c.args.blocks.now.subproblems.items k d) (slice_get-get_or c.args.blocks.now.subproblems.items k d l))
