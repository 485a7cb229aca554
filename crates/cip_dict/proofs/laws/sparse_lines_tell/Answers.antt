use Rattle.cip_dict.proofs.SparseLines as law
use Rattle.cip_dict.proofs.laws.sparse_lines_tell.Goals as goal

pub returns : goal.returns
returns c = law.sparse_lines_tell
