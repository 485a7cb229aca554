-- The start of the first state has no moves of its own.
use Rattle.std.proofs.Common.{◌≡◌, ℕ, zero, suc, ◌<◌, true, false, cond, ◌||◌, ◌&&◌, not, is_some, [], length, Option, None, Some, refl, sym, ap, ◌∙◌, arith}
use Rattle.std.proofs.lemmas.Bool.{lt-ltb}
use Rattle.cip_problem.specs.Program.{Sides}
use Rattle.cip_problem.specs.Box.{sides_at}
use Rattle.cip_problem.specs.LinearProgram.{LinearProgram}
use Rattle.cip_bland.specs.Tables.{least}
use Rattle.cip_bland.specs.Dictionary.{Dictionary, size, stand, is_basic, CanStand}
use Rattle.cip_bland.specs.FirstState.{first_operations}
use Rattle.cip_bland.specs.ProgramState.{system_of, first_of_program}
use Rattle.cip_bland.specs.declared.moves.Stand.{Stand}
use Rattle.cip_bland.specs.declared.moves.Stand.TheVariants.{Low, High, Zero}
use Rattle.cip_bland.specs.declared.moves.Move.{Move}
use Rattle.cip_bland.specs.declared.moves.Move.TheVariants.{Flip}
use Rattle.cip_bland.proofs.Tables.{at_table}
use Rattle.cip_dict.specs.FirstLists.{stand_in}
use Rattle.cip_bland.specs.MoveList.{is_out_of_range}
use Rattle.cip_bland.specs.EndAnswers.{OutOfRange, answer}
use Rattle.cip_bland.proofs.StepCases.{first_is_state}
use Rattle.cip_simplex.specs.LpShape.{variables}
use Rattle.cip_simplex.specs.Starts.{Stands, wish, stands_of, has_stand, may_leave, exchange_for, entering_move, are_opposite, flip_with, flipping_move, Begun, begun_at, begun_unless, begun_by, begun_through, begun, answer_on, answer_from}
use Rattle.cip_simplex.specs.StartLaws.{SlackIsFirst}
use Rattle.cip_simplex.proofs.Solved.{first_size, slack_is}

-- without moves nothing changes
idle : (choice : Dictionary → ℕ → Option Move) (n : ℕ) (d : Dictionary) → ((k : ℕ) → k < n → choice d k ≡ None) → begun_through n choice (begun_at d) ≡ begun_at d
idle choice zero d h = refl
idle choice (suc n) d h =
    ap (λ (b : Begun). begun_unless b.wide b (choice b.last n)) (idle choice n d (λ k l. h k (omega (arith, l)))) ∙ ap (begun_by (begun_at d)) (h n (omega arith))

-- a variable doesn't go over to where it stands
has_own : (sides : Sides) (at : Stand) → CanStand sides at → has_stand sides at ≡ true
has_own sides Low h = h
has_own sides High h = h
has_own sides Zero h = ap (λ o. not (is_some o) && not (is_some sides.high)) h.0 ∙ ap (λ o. not (is_some o)) h.1

not_opposite : (at : Stand) → are_opposite at at ≡ false
not_opposite Low = refl
not_opposite High = refl
not_opposite Zero = refl

stays : (v : ℕ) (sides : Sides) (o : Option Stand) → ((at : Stand) → o ≡ Some at → CanStand sides at) → flip_with v sides o o ≡ None
stays v sides None h = refl
stays v sides (Some at) h =
    ap (λ b. cond (are_opposite at (cond b at (Rattle.cip_bland.specs.FirstState.first_stand sides))) (Some (Flip v)) None) (has_own sides at (h at refl))
    ∙ ap (λ b. cond b (Some (Flip v)) None) (not_opposite at)

module _ (program : LinearProgram) where
  abbrev first_d : Dictionary
  first_d = first_of_program program

  own_wish : (v : ℕ) → v < variables program → wish (stands_of first_d) v ≡ stand first_d v
  own_wish v l = at_table (size first_d) (stand first_d) v None (omega (arith, l, first_size program))

  -- columns stand
  column_stands : (k : ℕ) → k < length program.bounds → is_some (wish (stands_of first_d) k) ≡ true
  column_stands k l =
      ap (λ (s : Stands). is_some (wish s k)) (sym (slack_is program))
      ∙ ap is_some (at_table (variables program) (stand_in program.bounds) k None (omega (arith, l)))
      ∙ ap (λ b. is_some (cond b (Some (Rattle.cip_bland.specs.FirstState.first_stand (sides_at program.bounds k))) None)) (lt-ltb k (length program.bounds) l)

  none_enters : (k : ℕ) → k < length program.bounds → entering_move (stands_of first_d) first_d k ≡ None
  none_enters k l =
      ap (λ b. cond (b || is_basic first_d k) None (exchange_for (stands_of first_d) first_d k (least (size first_d) (may_leave (stands_of first_d) first_d k)))) (column_stands k l)

  none_flips : (v : ℕ) → v < variables program → flipping_move (stands_of first_d) first_d v ≡ None
  none_flips v l =
      ap (flip_with v (sides_at first_d.sides v) (stand first_d v)) (own_wish v l)
      ∙ stays v (sides_at first_d.sides v) (stand first_d v)
      (λ at e. ((first_is_state program).consistent.stands v at (omega (arith, l, first_size program)) e).can_stand)

  none_begun : begun program (stands_of first_d) ≡ begun_at first_d
  none_begun =
      ap (begun_through (variables program) (flipping_move (stands_of first_d))) (idle (entering_move (stands_of first_d)) (length program.bounds) first_d none_enters)
      ∙ idle (flipping_move (stands_of first_d)) (variables program) first_d none_flips

pub slack_is_first : SlackIsFirst
unfolding answer answer_from
slack_is_first program limit =
    ap (λ (b : Begun). cond (is_out_of_range (first_operations (system_of program))) (OutOfRange []) (answer_on program limit b.wide b)) (none_begun program)
