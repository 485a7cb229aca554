-- What a combination comes to that is to show that a node has no improving point.
use Rattle.std.specs.Prelude.{Result, Ok, Err}
use Rattle.cip_rational.specs.Rational.{ℚ}
use Rattle.cip_problem.specs.WellFormed.{columns}
use Rattle.cip_cert.specs.Checks.{emptied}
use Rattle.cip_cert.specs.Lent.{Multiples}
use Rattle.cip_cert.specs.declared.faults.CutFault.{CutFault}
use Rattle.cip_core.specs.CoreStates.{CoreState, reduced_of, all_lent}
use Rattle.cip_calls.specs.declared.judged.JudgeFault.TheVariants.{Check as OfCheck}
use Rattle.cip_calls.specs.declared.judged.Judged.{Judged}
use Rattle.cip_calls.specs.declared.judged.Judged.TheVariants as judged

-- what the check says
abbrev pub by_emptied : Result ℚ CutFault → Judged
by_emptied (Ok bound) = judged.Emptied
by_emptied (Err fault) = judged.Refused (OfCheck fault)

-- the answer: that of the check in the box in work
abbrev pub cutoff_answer : CoreState → Multiples → Judged
cutoff_answer core combo =
    by_emptied (emptied (all_lent core) core.tree.work.box (columns (reduced_of core)) combo)
