use Rattle.cip_search.proofs.LeafProgramsTried as law
use Rattle.cip_search.proofs.leaf_programs.examples.Goals as goal

pub returns : goal.returns
returns c = law.examples
