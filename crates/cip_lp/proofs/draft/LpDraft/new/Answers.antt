use Rattle.std.proofs.Common.{None, false}
use Rattle.cip_lp.proofs.KeptLaws.{nothing_kept}
use Rattle.cip_lp.proofs.draft.LpDraft.new.Goals as goal

pub returns : goal.returns
returns c = λ i. record {
  maximized = false;
  objective = None;
  row_names = c.new.ensures i;
  rows = c.new-2.ensures.items i;
  row_name = None;
  column_names = c.new-3.ensures i;
  costs = c.new-4.ensures.items i;
  bounds = c.new-5.ensures.items i;
  integral = c.new-6.ensures.items i;
  constant = c.zero.ensures i;
  form = c.new-7.ensures i;
  entries = 0;
}

pub invariant_of-result : goal.invariant_of-result
invariant_of-result c =
    nothing_kept c.new.result c.new-2.result.items c.new-3.result c.new-4.result.items c.new-5.result.items
    c.new-6.result.items c.zero.result c.new-7.result c.new.ensures c.new-2.ensures.items c.new-3.ensures
    c.new-4.ensures.items c.new-5.ensures.items c.new-6.ensures.items c.zero.ensures c.new-7.ensures
