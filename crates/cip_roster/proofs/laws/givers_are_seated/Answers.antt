use Rattle.cip_roster.proofs.Giving.{both_seated, kind_seated, next_by, stays_seated}
use Rattle.cip_roster.proofs.laws.givers_are_seated.Goals as goal

pub returns : goal.returns
returns c = record { kind = kind_seated; both = both_seated; next = next_by; stays = stays_seated }
