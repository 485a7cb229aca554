use Rattle.cip_search.proofs.Equalities.{first_follows, first_holds, second_follows, second_holds, substituted, ends_keep, ends_assign}
use Rattle.cip_search.proofs.reduction_laws.equalities_tell.Goals as goal

pub returns : goal.returns
returns c = record {
  first_follows = first_follows;
  first_holds = first_holds;
  second_follows = second_follows;
  second_holds = second_holds;
  substituted = substituted;
  keeps = ends_keep;
  assigns = ends_assign;
}
