use Rattle.cip_search.proofs.Kept.{begun, taken, raised, tightened, offered, closed_from, put_back, reordered}
use Rattle.cip_search.proofs.Ended.{closed, pruned, parked, split}
use Rattle.cip_search.specs.Wide.{IsWide}
use Rattle.cip_search.proofs.steps_keep_searches.Goals as goal

pub returns : goal.returns
returns c = λ program reduced way start. record {
  begun = begun program reduced way IsWide start;
  taken = taken program reduced way IsWide start;
  raised = raised program reduced way IsWide start;
  tightened = tightened program reduced way IsWide start;
  closed = closed program reduced way IsWide start;
  pruned = pruned program reduced way IsWide start;
  parked = parked program reduced way IsWide start;
  split = split program reduced way IsWide start;
  offered = offered program reduced way IsWide start;
  closed_from = closed_from program reduced way IsWide start;
  put_back = put_back program reduced way IsWide start;
  reordered = reordered program reduced way IsWide start;
}
