use Rattle.cip_rows.proofs.ValidPools.{more_valid, derived_added, fewer_valid, last_valid, later_valid, released_others}
use Rattle.cip_rows.proofs.laws.pools_stay_valid.Goals as goal

pub returns : goal.returns
returns c = record {
  more = more_valid;
  derived = derived_added;
  fewer = fewer_valid;
  last = last_valid;
  later = later_valid;
  released = released_others;
}
