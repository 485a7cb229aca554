use Rattle.std.proofs.Common.{refl}
use Rattle.cip_search.proofs.AnswersTried as tried
use Rattle.cip_search.proofs.answer_laws.examples.Goals as goal

pub returns : goal.returns
returns c = record {
  optimal = tried.optimal;
  no_point = tried.no_point;
  negative_ratio = tried.negative_ratio;
  infeasible = refl;
  wide = tried.wide;
  wide_by_moves = tried.wide_by_moves;
  wide_with_choices = tried.wide_with_choices;
  unbounded = tried.unbounded;
  usage = refl;
}
