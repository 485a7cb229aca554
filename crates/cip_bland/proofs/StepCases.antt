-- Each outcome of the rule with its reasons, and that it is sound.
use Rattle.std.proofs.Common.{◌≡◌, ℕ, ◌<◌, Option, None, Some, refl, ◌∙◌, subst}
use Rattle.std.specs.Bool.{⊤}
use Rattle.cip_bland.specs.LinearProgram.{LinearProgram, IsProper}
use Rattle.cip_bland.specs.Tables.{least}
use Rattle.cip_bland.specs.Dictionary.{Dictionary, size, IsConsistent}
use Rattle.cip_bland.specs.Exchange.{CanMove}
use Rattle.cip_bland.specs.DictionaryStatements.{KeepsSolutions}
use Rattle.cip_bland.specs.ProgramState.{system_of, first_of_program}
use Rattle.cip_bland.specs.declared.moves.Move.{Move}
use Rattle.cip_bland.specs.declared.moves.Move.TheVariants.{Exchange, Flip}
use Rattle.cip_bland.proofs.Kept.{exchanges_keep, flips_keep}
use Rattle.cip_bland.proofs.First.{first_states_tell}
use Rattle.cip_bland.specs.Headings.{stand_ahead}
use Rattle.cip_bland.specs.Rule.{is_crossed, is_outside, outside_heading, repairs, improves, Way, way_of, shortest, move_by, going, improving, repairing, least_outside, step_inside, step_of, next}
use Rattle.cip_bland.specs.Statements.{IsStateOf, Leads, IsSound, MovesCanBeMade, StepsAreSound, FirstIsState}
use Rattle.cip_bland.specs.declared.steps.Step.{Step}
use Rattle.cip_bland.specs.declared.steps.Step.TheVariants.{Crossed, Infeasible, Optimum, Ray, Makes}
use Rattle.cip_bland.proofs.Searches.{IsLeast, NoneOf, least_none, least_some, IsShortest, shortest_none, shortest_some}
use Rattle.cip_bland.proofs.StateFacts.{is_point}
use Rattle.cip_bland.proofs.Optima.{shows_optimum}
use Rattle.cip_bland.proofs.Emptiness.{shows_no_point}
use Rattle.cip_bland.proofs.CrossedSides.{shows_crossed}
use Rattle.cip_bland.proofs.RayEnds.{is_ray}
use Rattle.cip_bland.proofs.MovesMade.{can_repair, can_go}

-- no sides cross, i is the least variable outside, and j the least that repairs it
pub record IsRepair (d : Dictionary) (i j : ℕ) : Type 0 where
  pub uncrossed : NoneOf (size d) (is_crossed d)
  pub outside : IsLeast (size d) (is_outside d) i
  pub enters : IsLeast (size d) (repairs d i) j

-- no sides cross, none is outside, j is the least variable that improves, and this is the shortest of its ways
pub record IsDescent (d : Dictionary) (j v : ℕ) (way : Way) : Type 0 where
  pub uncrossed : NoneOf (size d) (is_crossed d)
  pub inside : NoneOf (size d) (is_outside d)
  pub enters : IsLeast (size d) (improves d) j
  pub way_is : IsShortest (size d) (way_of d j) v way

-- the outcomes
pub data Reason (d : Dictionary) : Step → Type 0 where
  crossed : (v : ℕ) → IsLeast (size d) (is_crossed d) v → Reason d (Crossed v)
  infeasible : (i : ℕ) → NoneOf (size d) (is_crossed d) → IsLeast (size d) (is_outside d) i → NoneOf (size d) (repairs d i) → Reason d (Infeasible i)
  optimum : NoneOf (size d) (is_crossed d) → NoneOf (size d) (is_outside d) → NoneOf (size d) (improves d) → Reason d Optimum
  ray : (j : ℕ) → NoneOf (size d) (is_crossed d) → NoneOf (size d) (is_outside d) → IsLeast (size d) (improves d) j → ((v : ℕ) → v < size d → way_of d j v ≡ None) → Reason d (Ray j)
  repair : (i j : ℕ) → IsRepair d i j → Reason d (Makes (Exchange i j (stand_ahead (outside_heading d i))))
  descent : (j v : ℕ) (way : Way) → IsDescent d j v way → Reason d (Makes (move_by j way))

module _ (d : Dictionary) (uncrossed : NoneOf (size d) (is_crossed d)) where
  repair_case : (i : ℕ) → IsLeast (size d) (is_outside d) i → (o : Option ℕ) → least (size d) (repairs d i) ≡ o → Reason d (repairing d i o)
  repair_case i out None e = infeasible i uncrossed out (least_none (size d) (repairs d i) e)
  repair_case i out (Some j) e = repair i j (record { uncrossed = uncrossed; outside = out; enters = least_some (size d) (repairs d i) j e })

  way_case : (j : ℕ) → NoneOf (size d) (is_outside d) → IsLeast (size d) (improves d) j → (o : Option Way) → shortest (size d) (way_of d j) ≡ o → Reason d (going j o)
  way_case j inside enters None e = ray j uncrossed inside enters (shortest_none (size d) (way_of d j) e)
  way_case j inside enters (Some way) e =
      let s = shortest_some (size d) (way_of d j) way e in
      descent j s.0 way (record { uncrossed = uncrossed; inside = inside; enters = enters; way_is = s.1 })

  improve_case : NoneOf (size d) (is_outside d) → (o : Option ℕ) → least (size d) (improves d) ≡ o → Reason d (improving d o)
  improve_case inside None e = optimum uncrossed inside (least_none (size d) (improves d) e)
  improve_case inside (Some j) e = way_case j inside (least_some (size d) (improves d) j e) (shortest (size d) (way_of d j)) refl

  inside_case : (o : Option ℕ) → least (size d) (is_outside d) ≡ o → Reason d (step_inside d o)
  inside_case None e = improve_case (least_none (size d) (is_outside d) e) (least (size d) (improves d)) refl
  inside_case (Some i) e = repair_case i (least_some (size d) (is_outside d) i e) (least (size d) (repairs d i)) refl

reason_case : (d : Dictionary) (o : Option ℕ) → least (size d) (is_crossed d) ≡ o → Reason d (step_of d o)
reason_case d None e = inside_case d (least_none (size d) (is_crossed d) e) (least_outside d) refl
reason_case d (Some v) e = crossed v (least_some (size d) (is_crossed d) v e)

pub reason : (d : Dictionary) → Reason d (next d)
reason d = reason_case d (least (size d) (is_crossed d)) refl

-- ---- moves

-- the move of a step can be made
abbrev CanFollow : Dictionary → Step → Type 0
CanFollow d (Makes move) = CanMove d move
CanFollow d (Crossed v) = ⊤
CanFollow d (Infeasible i) = ⊤
CanFollow d Optimum = ⊤
CanFollow d (Ray j) = ⊤

can_follow : (d : Dictionary) (step : Step) → IsConsistent d → Reason d step → CanFollow d step
can_follow d step c (crossed v h) = tt
can_follow d step c (infeasible i uncrossed h none) = tt
can_follow d step c (optimum uncrossed inside none) = tt
can_follow d step c (ray j uncrossed inside h none) = tt
can_follow d step c (repair i j h) = can_repair d i j h.outside.below h.enters.below h.outside.passes h.enters.passes
can_follow d step c (descent j v way h) = can_go d c j h.enters.below h.enters.passes v way h.way_is.below h.way_is.is_way

pub moves_can_be_made : MovesCanBeMade
moves_can_be_made d move c e = subst (CanFollow d) e (can_follow d (next d) c (reason d))

-- ---- states of a program

pub first_is_state : FirstIsState
first_is_state program = record {
  consistent = (first_states_tell (system_of program)).consistent;
  same = record { same_sides = refl; onto = λ x s. s; back = λ x s. s; same_cost = λ x s. refl };
}

kept_on : (first d e : Dictionary) → KeepsSolutions first d → KeepsSolutions d e → KeepsSolutions first e
kept_on first d e h k = record {
  consistent = k.consistent;
  same = record {
    same_sides = h.same.same_sides ∙ k.same.same_sides;
    onto = λ x s. k.same.onto x (h.same.onto x s);
    back = λ x s. h.same.back x (k.same.back x s);
    same_cost = λ x s. h.same.same_cost x s ∙ k.same.same_cost x (h.same.onto x s);
  };
}

-- a move that can be made leads to a state of the program
pub moves_lead : (program : LinearProgram) (d : Dictionary) (move : Move) → IsStateOf program d → CanMove d move → Leads program d move
moves_lead program d (Exchange i j to) st can = record { can = can; state = kept_on (first_of_program program) d _ st (exchanges_keep d i j to st.consistent can) }
moves_lead program d (Flip j) st can = record { can = can; state = kept_on (first_of_program program) d _ st (flips_keep d j st.consistent can) }

sound_by : (program : LinearProgram) (d : Dictionary) (step : Step) → IsProper program → IsStateOf program d → Reason d step → IsSound program d step
sound_by program d step proper st (crossed v h) = shows_crossed program d v st h.below h.passes
sound_by program d step proper st (infeasible i uncrossed h none) = shows_no_point program d proper st i h.below h.passes none
sound_by program d step proper st (optimum uncrossed inside none) = shows_optimum program d proper st uncrossed inside none
sound_by program d step proper st (ray j uncrossed inside h none) = record {
  is_point = is_point program d proper st uncrossed inside;
  is_ray = is_ray program d proper st j h.below h.passes none;
}
sound_by program d step proper st (repair i j h) =
    moves_lead program d _ st (can_repair d i j h.outside.below h.enters.below h.outside.passes h.enters.passes)
sound_by program d step proper st (descent j v way h) =
    moves_lead program d (move_by j way) st (can_go d st.consistent j h.enters.below h.enters.passes v way h.way_is.below h.way_is.is_way)

pub steps_are_sound : StepsAreSound
steps_are_sound program d proper st = sound_by program d (next d) proper st (reason d)
