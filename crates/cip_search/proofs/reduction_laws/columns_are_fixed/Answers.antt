use Rattle.cip_search.proofs.Replacing.{sides_replaced}
use Rattle.cip_search.proofs.RowSteps.{shifted, recosted, crossed, not_whole}
use Rattle.cip_search.proofs.reduction_laws.columns_are_fixed.Goals as goal

pub returns : goal.returns
returns c = record {
  shifted = shifted;
  recosted = λ program column value f. recosted program column value f.low f.high;
  taken = sides_replaced;
  crossed = crossed;
  not_whole = λ program column value w f n. not_whole program column value w f.low f.high n;
}
