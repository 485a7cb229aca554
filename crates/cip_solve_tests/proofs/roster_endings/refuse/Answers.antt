use Rattle.cip_solve_tests.proofs.Ends.{ran_notes}
use Rattle.cip_solve_tests.proofs.roster_endings.refuse.Goals as goal

pub returns-clause-ran : goal.returns-clause-ran
returns-clause-ran g c =
    ran_notes _ _ _ _ _ _ _ c.refused-2.result c.in_ok-refused.ensures.noted c.refused-2.ensures.noted
