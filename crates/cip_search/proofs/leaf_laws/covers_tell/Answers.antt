use Rattle.cip_search.proofs.Covers.{bound_holds, nothing_cheaper, no_point, wide_leaf}
use Rattle.cip_search.proofs.leaf_laws.covers_tell.Goals as goal

pub returns : goal.returns
returns c = record { bound = bound_holds; nothing_cheaper = nothing_cheaper; no_point = no_point; wide = wide_leaf }
