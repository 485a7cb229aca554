use Rattle.std.proofs.Common.{refl}
use Rattle.cip_text.proofs.laws.star_begins_comments.Goals as goal

pub returns : goal.returns
returns c = λ number lines. refl
