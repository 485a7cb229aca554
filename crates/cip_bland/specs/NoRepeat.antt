-- No state comes twice in the list of moves from a state of a program: so it ends, whatever the limit.
use Rattle.std.specs.Prelude.{◌≡◌, ◌≢◌, ℕ, suc, ◌+◌, ◌^◌, ◌<◌, ◌≤◌, None, length}
use Rattle.cip_bland.specs.LinearProgram.{LinearProgram, IsProper}
use Rattle.cip_bland.specs.Dictionary.{Dictionary, size, stand}
use Rattle.cip_bland.specs.Exchange.{after}
use Rattle.cip_bland.specs.declared.moves.Move.{Move}
use Rattle.cip_bland.specs.Rule.{next}
use Rattle.cip_bland.specs.MoveList.{wide_move, Stops, Run, run, state_after}
use Rattle.cip_bland.specs.EndAnswers.{Answer, LimitReached, answer}
use Rattle.cip_bland.specs.Statements.{IsStateOf, IsRight}
use Rattle.cip_bland.specs.declared.steps.Step.TheVariants.{Makes}

-- at least so many moves come, whatever is out of range
abbrev pub Lasts : ℕ → Dictionary → Type 0
Lasts n d = (k : ℕ) → k < n → (move : Move) × (next (state_after k d) ≡ Makes move)

-- two states are one: the same variables are basic, and the others stand at the same sides
abbrev pub IsSameState : Dictionary → Dictionary → Type 0
IsSameState d e = (v : ℕ) → v < size d → stand d v ≡ stand e v

-- more moves than any list has: each variable is basic or stands at one of three places
abbrev pub enough_moves : Dictionary → ℕ
enough_moves d = 4 ^ size d

-- the list without a limit
unfoldable pub whole_run : Dictionary → Run
whole_run d = run (enough_moves d) d

-- how many moves are left
abbrev pub moves_left : Dictionary → ℕ
moves_left d = length (whole_run d).moves

-- a list is short, no state comes twice in it, and each limit above its length gives the whole of it; so a loop that
-- makes its moves ends
pub record EndsOf (d : Dictionary) : Type 0 where
  pub no_state_twice : (i j : ℕ) → Lasts j d → i < j → ¬ IsSameState (state_after i d) (state_after j d)
  pub few : (n : ℕ) → Lasts n d → n < enough_moves d
  pub ends : (whole_run d).ending ≢ Stops
  pub whole : (limit : ℕ) → moves_left d < limit → run limit d ≡ whole_run d
  pub short : moves_left d < enough_moves d
  pub falls : (move : Move) → next d ≡ Makes move → wide_move d move ≡ None
      → moves_left d ≡ suc (moves_left (after d move))

-- so it is from each state of a program
abbrev pub ListsEnd : Type 0
ListsEnd = (program : LinearProgram) (d : Dictionary) → IsProper program → IsStateOf program d → EndsOf d

-- the answer on a linear program without a limit
unfoldable pub whole_answer : LinearProgram → Answer
whole_answer program = answer (4 ^ (length program.bounds + length program.rows)) program

-- it isn't that the limit is reached, it is right, and it is the answer with each limit that is large enough
pub record WholeAnswerHolds (program : LinearProgram) : Type 0 where
  pub ends : whole_answer program ≢ LimitReached
  pub right : IsRight program (whole_answer program)
  pub limits : (limit : ℕ) → 4 ^ (length program.bounds + length program.rows) ≤ limit
      → answer limit program ≡ whole_answer program

abbrev pub AnswersEnd : Type 0
AnswersEnd = (program : LinearProgram) → IsProper program → WholeAnswerHolds program
