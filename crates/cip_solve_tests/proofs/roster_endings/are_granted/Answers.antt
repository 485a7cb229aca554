use Rattle.cip_solve_tests.proofs.Ends.{ran_wish}
use Rattle.cip_solve_tests.proofs.roster_endings.are_granted.Goals as goal
use Rattle.cip_calls.proofs.Noting.{run_further}

pub returns-clause-ran : goal.returns-clause-ran
returns-clause-ran g c =
    run_further _ _ _ (ran_wish _ _ _ _ c.wish-first.ensures.came) (ran_wish _ _ _ _ c.wish-second.ensures.came)
