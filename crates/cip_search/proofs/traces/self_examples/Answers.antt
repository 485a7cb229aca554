use Rattle.std.proofs.Common.{refl, ap, ◌++◌}
use lib.Chars.{codes}
use Rattle.cip_search.specs.Figures.{line, end_line}
use Rattle.cip_search.specs.SelfTexts.{drawn_lines}
use Rattle.cip_search.specs.TraceStatements.{drawn_as}
use Rattle.cip_search.proofs.TraceTexts.{whole_text}
use Rattle.cip_search.proofs.traces.self_examples.Goals as goal

pub returns : goal.returns
returns c = record {
  optimal = ap (λ text. drawn_lines (drawn_as 0 1 0 0) ++ (line (codes "status") (codes "optimal") ++ (line (codes "cost") text ++ line (codes "bound") text)) ++ end_line) (whole_text 45);
  infeasible = refl;
}
