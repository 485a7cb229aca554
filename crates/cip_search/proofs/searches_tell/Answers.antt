use Rattle.cip_search.specs.Wide.{IsWide}
use Rattle.cip_search.proofs.Told.{no_point, no_reduced_point, nothing_cheaper, bound, wide}
use Rattle.cip_search.proofs.searches_tell.Goals as goal

pub returns : goal.returns
returns c = λ program reduced way start. record {
  no_point = no_point program reduced way IsWide start;
  no_reduced_point = no_reduced_point program reduced way IsWide start;
  nothing_cheaper = nothing_cheaper program reduced way IsWide start;
  bound = bound program reduced way IsWide start;
  wide = wide program reduced way IsWide start;
}
