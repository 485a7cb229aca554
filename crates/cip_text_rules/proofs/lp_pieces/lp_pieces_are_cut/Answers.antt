use Rattle.std.proofs.Common.{refl}
use Rattle.cip_text_rules.proofs.LpPieceLaws.{blank_cut, comment_cut, piece_cut}
use Rattle.cip_text_rules.proofs.lp_pieces.lp_pieces_are_cut.Goals as goal

pub returns : goal.returns
returns c = record { none = refl; blank = blank_cut; comment = comment_cut; piece = piece_cut }
