use Rattle.std.proofs.lemmas.Grind.{common_steps}
use Rattle.std.proofs.Common.{Some, length, arith, ap, sym, ◌∙◌}
use Rattle.std.specs.Prelude.{slice_index, slice_range}
use Rattle.cip_model.proofs.NamePieces.{piece_at, piece_within}
use Rattle.cip_model.proofs.name_hints.piece.Goals as goal

pub slice_bounds-result-count : goal.slice_bounds-result-count
slice_bounds-result-count c =
    let within = piece_within 0 c.args.ends.now (length c.args.bytes.now) c.args.number c.requires.rising c.requires.there in
    omega (arith, c.start_of-start.ensures, within.0)

pub slice_bounds-result-start : goal.slice_bounds-result-start
slice_bounds-result-start c =
    let within = piece_within 0 c.args.ends.now (length c.args.bytes.now) c.args.number c.requires.rising c.requires.there in
    omega (arith, c.start_of-start.ensures, within.0)

pub slice_bounds-result-end : goal.slice_bounds-result-end
slice_bounds-result-end c =
    let within = piece_within 0 c.args.ends.now (length c.args.bytes.now) c.args.number c.requires.rising c.requires.there in
    omega (arith, within.1)

pub returns : goal.returns
returns c =
    piece_at 0 c.args.bytes.now c.args.ends.now c.args.number c.requires.there
    ∙ ap (λ start. Some (slice_range c.args.bytes.now start (slice_index c.args.ends.now c.args.number))) (sym c.start_of-start.ensures)

pub start_of-start-requires : goal.start_of-start-requires
start_of-start-requires c = grind (arith, common_steps)

pub bounds-ends-number : goal.bounds-ends-number
bounds-ends-number c = grind (arith, common_steps)

pub offset_bounds-ends-number : goal.offset_bounds-ends-number
offset_bounds-ends-number c = grind (arith, common_steps)
