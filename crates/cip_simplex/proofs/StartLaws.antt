-- Starts lead to states of the program, and what is answered from them is right.
use Rattle.std.proofs.Common.{◌≡◌, ℕ, zero, suc, ◌<◌, Bool, true, false, cond, ◌||◌, is_some, List, [], ◌∷◌, ◌++◌, length, Option, None, Some, refl, sym, ap, ◌∙◌, arith}
use Rattle.cip_problem.specs.Box.{sides_at}
use Rattle.cip_problem.specs.LinearProgram.{LinearProgram, IsProper}
use Rattle.cip_bland.specs.Tables.{least}
use Rattle.cip_bland.specs.Dictionary.{Dictionary, size, stand, is_basic, IsConsistent}
use Rattle.cip_bland.specs.Exchange.{after, CanMove}
use Rattle.cip_bland.specs.MoveOperations.{move_operations}
use Rattle.cip_bland.specs.FirstState.{first_operations}
use Rattle.cip_bland.specs.ProgramState.{system_of, first_of_program}
use Rattle.cip_bland.specs.declared.moves.Stand.{Stand}
use Rattle.cip_bland.specs.declared.moves.Move.{Move}
use Rattle.cip_bland.specs.MoveList as list
use Rattle.cip_bland.specs.EndAnswers.{Answer, OutOfRange, answer_after}
use Rattle.cip_bland.specs.Statements.{IsStateOf, IsRight}
use Rattle.cip_bland.proofs.StepCases.{first_is_state, moves_lead}
use Rattle.cip_bland.proofs.RunFacts.{last_is_state, right_answer}
use Rattle.cip_simplex.specs.LpShape.{variables}
use Rattle.cip_simplex.specs.Starts.{Stands, wish, stand_for, may_leave, leaving_stand, exchange_for, entering_move, are_opposite, flip_with, flipping_move, Begun, begun_at, begun_by, begun_unless, begun_through, begun, answer_on, answer_from, last_on, last_from, CanMake}
use Rattle.cip_simplex.specs.StartLaws.{StartsAreRight}
use Rattle.cip_simplex.proofs.Begins.{can_enter, can_flip_over}
use Rattle.cip_simplex.proofs.Solved.{first_size}

-- ---- each move can be made

exchange_can : (start : Stands) (d : Dictionary) (k : ℕ) (o : Option ℕ) → k < size d → is_basic d k ≡ false → o ≡ least (size d) (may_leave start d k) → CanMake d (exchange_for start d k o)
exchange_can start d k None lk nonbasic e = tt
exchange_can start d k (Some v) lk nonbasic e = can_enter start d k v (leaving_stand start d v) lk nonbasic e refl

basic_or : (a b : Bool) → a || b ≡ false → b ≡ false
basic_or true b e = absurd (cc)
basic_or false b e = e

entering_by : (start : Stands) (d : Dictionary) (k : ℕ) (b : Bool) → k < size d → (is_some (wish start k) || is_basic d k) ≡ b → CanMake d (cond b None (exchange_for start d k (least (size d) (may_leave start d k))))
entering_by start d k true lk e = tt
entering_by start d k false lk e = exchange_can start d k (least (size d) (may_leave start d k)) lk (basic_or (is_some (wish start k)) (is_basic d k) e) refl

can_entering : (start : Stands) (d : Dictionary) (k : ℕ) → k < size d → CanMake d (entering_move start d k)
can_entering start d k lk = entering_by start d k (is_some (wish start k) || is_basic d k) lk refl

flip_can : (d : Dictionary) (v : ℕ) (at to : Stand) (b : Bool) → v < size d → IsConsistent d → stand d v ≡ Some at → are_opposite at (stand_for (sides_at d.sides v) to) ≡ b → CanMake d (cond b (Some (Rattle.cip_bland.specs.declared.moves.Move.TheVariants.Flip v)) None)
flip_can d v at to true l consistent e o = can_flip_over d v at to l consistent e o
flip_can d v at to false l consistent e o = tt

flipping_by : (d : Dictionary) (v : ℕ) (o w : Option Stand) → v < size d → IsConsistent d → stand d v ≡ o → CanMake d (flip_with v (sides_at d.sides v) o w)
flipping_by d v None w l consistent e = tt
flipping_by d v (Some at) None l consistent e = tt
flipping_by d v (Some at) (Some to) l consistent e = flip_can d v at to (are_opposite at (stand_for (sides_at d.sides v) to)) l consistent e refl

can_flipping : (start : Stands) (d : Dictionary) (v : ℕ) → v < size d → IsConsistent d → CanMake d (flipping_move start d v)
can_flipping start d v l consistent = flipping_by d v (stand d v) (wish start v) l consistent refl

-- ---- states of the program

abbrev begun_cond : Begun → Move → Bool → Begun
begun_cond b move wide =
    cond wide (record { moves = b.moves; last = b.last; wide = Some move }) (record { moves = b.moves ++ move ∷ []; last = after b.last move; wide = None })

module _ (program : LinearProgram) where
  pub state_size : (d : Dictionary) → IsStateOf program d → size d ≡ variables program
  state_size d st = sym (ap length st.same.same_sides) ∙ first_size program

  state_cond : (b : Begun) (move : Move) (wide : Bool) → IsStateOf program b.last → CanMove b.last move → IsStateOf program (begun_cond b move wide).last
  state_cond b move true st can = st
  state_cond b move false st can = (moves_lead program b.last move st can).state

  state_by : (b : Begun) (o : Option Move) → IsStateOf program b.last → CanMake b.last o → IsStateOf program (begun_by b o).last
  state_by b None st can = st
  state_by b (Some move) st can = state_cond b move (list.is_out_of_range (move_operations b.last move)) st can

  state_unless : (w o : Option Move) (b : Begun) → IsStateOf program b.last → CanMake b.last o → IsStateOf program (begun_unless w b o).last
  state_unless None o b st can = state_by b o st can
  state_unless (Some wide) o b st can = st

  state_through : (choice : Dictionary → ℕ → Option Move) (n : ℕ) (b : Begun) → ((d : Dictionary) (k : ℕ) → IsStateOf program d → k < n → CanMake d (choice d k)) → IsStateOf program b.last → IsStateOf program (begun_through n choice b).last
  state_through choice zero b can st = st
  state_through choice (suc n) b can st =
      let before : Begun = begun_through n choice b in
      let h : IsStateOf program before.last = state_through choice n b (λ d k s l. can d k s (omega (arith, l))) st in
      state_unless before.wide (choice before.last n) before h (can before.last n h (omega arith))

  pub start_state : (start : Stands) → IsStateOf program (begun program start).last
  start_state start =
      state_through (flipping_move start) (variables program) _
      (λ d k st l. can_flipping start d k (omega (arith, l, state_size d st)) st.consistent)
      (state_through (entering_move start) (length program.bounds) (begun_at (first_of_program program))
      (λ d k st l. can_entering start d k (omega (arith, l, state_size d st)))
      (first_is_state program))

  -- ---- answers

  -- what an end answers doesn't rest on the moves before
  moves_free : (some all : List Move) (d : Dictionary) (ending : list.Ending) → IsRight program (answer_after program some d ending) → IsRight program (answer_after program all d ending)
  moves_free some all d (list.Ends step) h = h
  moves_free some all d (list.Overflows move) h = tt
  moves_free some all d list.Stops h = tt

  right_on : IsProper program → (limit : ℕ) (wide : Option Move) (b : Begun) → IsStateOf program b.last → IsRight program (answer_on program limit wide b)
  right_on proper limit None b st =
      let r = list.run limit b.last in
      moves_free r.moves (b.moves ++ r.moves) r.last r.ending (right_answer program proper limit b.last st)
  right_on proper limit (Some wide) b st = tt

  right_unless : (b : Bool) (other : Answer) → IsRight program other → IsRight program (cond b (OutOfRange []) other)
  right_unless true other h = tt
  right_unless false other h = h

  pub start_right : IsProper program → (start : Stands) (limit : ℕ) → IsRight program (answer_from limit program start)
  unfolding answer_from
  start_right proper start limit =
      right_unless (list.is_out_of_range (first_operations (system_of program))) _
      (right_on proper limit (begun program start).wide (begun program start) (start_state start))

  last_state_on : IsProper program → (limit : ℕ) (wide : Option Move) (b : Begun) → IsStateOf program b.last → IsStateOf program (last_on limit wide b)
  last_state_on proper limit None b st = last_is_state program proper limit b.last st
  last_state_on proper limit (Some wide) b st = st

  last_unless : (b : Bool) (other : Dictionary) → IsStateOf program other → IsStateOf program (cond b (first_of_program program) other)
  last_unless true other h = first_is_state program
  last_unless false other h = h

  pub start_last : IsProper program → (start : Stands) (limit : ℕ) → IsStateOf program (last_from limit program start)
  unfolding last_from
  start_last proper start limit =
      last_unless (list.is_out_of_range (first_operations (system_of program))) _
      (last_state_on proper limit (begun program start).wide (begun program start) (start_state start))

pub starts_are_right : StartsAreRight
starts_are_right = record {
  states = λ program start. start_state program start;
  last = λ program start limit proper. start_last program proper start limit;
  answers = λ program start limit proper. start_right program proper start limit;
}
