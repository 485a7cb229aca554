use Rattle.cip_bland.proofs.DictionaryTried as tried
use Rattle.cip_bland.proofs.dictionaries.examples.Goals as goal

pub returns : goal.returns
returns c = tried.examples
