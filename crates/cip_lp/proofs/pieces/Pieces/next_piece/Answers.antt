use Rattle.std.proofs.lemmas.Grind.{common_steps}
use Rattle.std.proofs.Common.{sym, ◌∙◌, arith}
use Rattle.cip_lp.specs.LpPieces.{piece_shown}
use Rattle.cip_lp.proofs.PieceLaws.{first_cut}
use Rattle.cip_lp.proofs.pieces.Pieces.next_piece.Goals as goal

pub returns-in-len1-up : goal.returns-in-len1-up
returns-in-len1-up c =
    sym c.without_blanks-rest.ensures.same
    ∙ first_cut c.without_blanks-rest.result.now (piece_shown c.cut_first.result.0) c.cut_first.result.1.now (omega (arith, c.in-len1-up.len_at_least)) c.without_blanks-rest.ensures.starts
    c.cut_first.ensures.piece c.cut_first.ensures.rest

pub bounds-rest-0 : goal.bounds-rest-0
bounds-rest-0 c = omega arith

pub cut_first-requires : goal.cut_first-requires
cut_first-requires c = grind (arith, common_steps)

pub slice_bounds-behind-count : goal.slice_bounds-behind-count
slice_bounds-behind-count c = grind (arith, common_steps)

pub slice_bounds-behind-start : goal.slice_bounds-behind-start
slice_bounds-behind-start c = grind (arith, common_steps)

pub returns-in-empty : goal.returns-in-empty
returns-in-empty c = grind (arith, common_steps)
