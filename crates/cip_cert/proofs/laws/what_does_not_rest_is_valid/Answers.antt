use Rattle.cip_cert.proofs.Released.{same_without, follows_without, derived_valid, lent_without}
use Rattle.cip_cert.proofs.laws.what_does_not_rest_is_valid.Goals as goal

pub returns : goal.returns
returns c = record { same = same_without; follows = follows_without; valid = derived_valid; left = lent_without }
