use Rattle.cip_problem.proofs.Covers.{cover_start, cover_step, cover_later, cover_reordered}
use Rattle.cip_problem.proofs.cuts.covers_go_on.Goals as goal

pub returns : goal.returns
returns c = record { start = cover_start; step = cover_step; later = cover_later; reordered = cover_reordered }
