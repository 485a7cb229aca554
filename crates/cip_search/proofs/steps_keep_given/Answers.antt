use Rattle.cip_search.specs.Wide.{IsWide}
use Rattle.cip_search.proofs.AsGiven.{begun, taken, raised, closed, parked, split, offered, closed_from, put_back}
use Rattle.cip_search.proofs.steps_keep_given.Goals as goal

pub returns : goal.returns
returns c = λ program reduced way start. record {
  begun = begun reduced start;
  taken = taken reduced start;
  raised = raised reduced start;
  closed = closed program reduced way IsWide start;
  parked = parked program reduced way IsWide start;
  split = split program reduced way IsWide start;
  offered = offered reduced start;
  closed_from = closed_from reduced start;
  put_back = put_back reduced start;
}
