use Rattle.cip_dict.proofs.WholeLines as law
use Rattle.cip_dict.proofs.laws.whole_lines_tell.Goals as goal

pub returns : goal.returns
returns c = law.whole_lines_tell
