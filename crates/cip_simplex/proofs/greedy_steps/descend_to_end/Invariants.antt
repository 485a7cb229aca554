use Rattle.cip_bland.specs.Rule.{is_crossed}
use Rattle.cip_bland.specs.Statements.{IsStateOf}
use Rattle.cip_bland.specs.StateEnds.{NonePasses}
use Rattle.cip_simplex.proofs.greedy_steps.descend_to_end.Given as goal

abbrev pub invariant-loop-made : goal.invariant-loop-made
invariant-loop-made l = record {
  state : IsStateOf l.lp l.dict;
  uncrossed : NonePasses l.dict (is_crossed l.dict);
}
