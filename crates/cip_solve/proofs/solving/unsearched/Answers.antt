use Rattle.std.proofs.Common.{[], refl}
use Rattle.cip_solve.proofs.BegunLaws.{nothing_searched, none_met, no_ray}
use Rattle.cip_solve.proofs.FirstLaws.{first_of_none}
use Rattle.cip_solve.proofs.solving.unsearched.Goals as goal

pub returns-clause-solved : goal.returns-clause-solved
returns-clause-solved c = λ nodes asked. record {
  start = c.root_bound.result;
  root = c.root_bound.ensures.root;
  right = nothing_searched c.args.program.now c.root_bound.result c.root_bound.ensures.holds nodes asked;
  shown = λ ray e. absurd (no_ray ray e);
  taken = λ a e. refl;
  met = λ a b. none_met c.args.program.now c.root_bound.result [];
}

pub returns-clause-first : goal.returns-clause-first
returns-clause-first c = λ asked. record {
  start = c.root_bound.result;
  root = c.root_bound.ensures.root;
  first = first_of_none c.args.program.now c.root_bound.result asked;
}
