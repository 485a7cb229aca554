use Rattle.cip_calls.proofs.Serving.{used_further, used_first, used_last, used_none}
use Rattle.cip_calls.proofs.laws.uses_join.Goals as goal

pub returns : goal.returns
returns c = record {
  further = used_further;
  parts = λ xs ys a b h m used. (used_first xs ys a b h m used, used_last xs ys a b h m used);
  none = used_none;
}
