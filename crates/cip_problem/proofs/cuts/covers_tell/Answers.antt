use Rattle.cip_problem.proofs.Covers.{nothing_cheaper, no_point, cover_bound}
use Rattle.cip_problem.proofs.cuts.covers_tell.Goals as goal

pub returns : goal.returns
returns c = record { nothing_cheaper = nothing_cheaper; no_point = no_point; bound = cover_bound }
