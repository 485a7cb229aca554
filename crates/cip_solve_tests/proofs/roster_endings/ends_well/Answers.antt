use Rattle.std.proofs.Common.{[], arith}
use Rattle.cip_roster.proofs.Giving.{kind_seated}
use Rattle.cip_solve_tests.proofs.Ends.{called_count, ran_count, seated_lent}
use Rattle.cip_solve_tests.proofs.roster_endings.ends_well.Goals as goal

pub refuse-requires-clause-seated : goal.refuse-requires-clause-seated
refuse-requires-clause-seated g c =
    seated_lent _ _ _ c.deref.ensures.value (kind_seated _ _ _ _ _ c.in_ok-given.ensures.called)

pub close-requires-clause-room : goal.close-requires-clause-room
close-requires-clause-room g c =
    omega (
      arith,
      c.requires.room,
      ran_count _ _ c.are_granted-granted.ensures.ran,
      called_count _ _ _ _ [] _ c.in_ok-given.ensures.called,
      ran_count _ _ c.in_ok-refuse.ensures.ran,
    )
