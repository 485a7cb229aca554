use Rattle.cip_search.specs.Wide.{IsWide}
use Rattle.cip_search.proofs.Logs.{is_log, covered, least, open_matter, parked_matter, short}
use Rattle.cip_search.proofs.search_logs_tell.Goals as goal

pub returns : goal.returns
returns c = λ program reduced way start. record {
  is_log = is_log program reduced way IsWide start;
  covered = covered program reduced way IsWide start;
  least = least program reduced way IsWide start;
  open_matters = open_matter program reduced way IsWide start;
  parked_matters = parked_matter program reduced way IsWide start;
  short = short program reduced way IsWide start;
}
