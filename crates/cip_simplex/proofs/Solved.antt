-- The answer from the first state of a linear program.
use Rattle.std.proofs.Common.{◌≡◌, ℕ, ◌+◌, ◌^◌, List, [], length, length-append, cond, is_some, None, Some, Option, Result, Ok, Err, IfOk, arith, sym, ap, ◌∙◌, subst}
use Rattle.std.proofs.lemmas.List.{length-map}
use Rattle.cip_problem.specs.LinearProgram.{LinearProgram}
use Rattle.cip_problem.specs.Multipliers.{row_sides}
use Rattle.cip_bland.specs.Dictionary.{Dictionary, size, stand}
use Rattle.cip_bland.specs.Operations.{first_overflow}
use Rattle.cip_bland.specs.FirstState.{is_column, variables_of, first_stand, first, first_operations}
use Rattle.cip_bland.specs.ProgramState.{system_of, first_of_program}
use Rattle.cip_bland.specs.declared.places.EntryPlace.{EntryPlace}
use Rattle.cip_bland.specs.declared.moves.Move.{Move}
use Rattle.cip_bland.specs.MoveList.{run}
use Rattle.cip_bland.specs.NoRepeat.{whole_run, whole_answer}
use Rattle.cip_bland.specs.EndAnswers.{OutOfRange, answer_of, answer}
use Rattle.cip_bland.specs.EndAnswers as def
use Rattle.cip_simplex.specs.Advances.{run_behind}
use Rattle.cip_problem.specs.Box.{sides_at}
use Rattle.cip_bland.specs.Tables.{table}
use Rattle.cip_bland.specs.declared.moves.Stand.{Stand}
use Rattle.cip_bland.proofs.Tables.{at_table, table_same}
use Rattle.cip_dict.specs.FirstLists.{stand_in}
use Rattle.cip_simplex.specs.Starts.{Stands, stands_of, begun, answer_on, answer_from, last_on, last_from}
use Rattle.cip_simplex.specs.LpShape.{variables}
use Rattle.cip_simplex.specs.LpAnswers.{IsAnswer}
use Rattle.cip_simplex.specs.declared.answers.LpAnswer.{LpAnswer}

-- the first state has the columns and the rows
pub first_size : (program : LinearProgram) → size (first_of_program program) ≡ variables program
unfolding first
first_size program =
    length-append program.bounds (system_of program).rows ∙ ap (λ m. length program.bounds + m) (length-map program.rows row_sides)

pub answer_in_range : (program : LinearProgram) (limit : ℕ) → first_overflow (first_operations (system_of program)) ≡ None → answer limit program ≡ answer_of program (run limit (first_of_program program))
unfolding answer
answer_in_range program limit e =
    ap (λ o. cond (is_some o) (OutOfRange []) (answer_of program (run limit (first_of_program program)))) e

pub answer_out_of_range : (program : LinearProgram) (limit : ℕ) (place : EntryPlace) → first_overflow (first_operations (system_of program)) ≡ Some place → answer limit program ≡ OutOfRange []
unfolding answer
answer_out_of_range program limit place e =
    ap (λ o. cond (is_some o) (OutOfRange []) (answer_of program (run limit (first_of_program program)))) e

-- what is answered from the first state on is the answer
pub answered : {E : Type 0} (program : LinearProgram) (limit : ℕ) (moves : List Move) (d later : Dictionary) (result : Result LpAnswer E) → first_overflow (first_operations (system_of program)) ≡ None → d ≡ first_of_program program → moves ≡ []
    → IfOk result (λ found. IsAnswer (answer_of program (run_behind moves (run limit d))) found × (later ≡ (run limit d).last)) → IfOk result (IsAnswer (answer limit program))
answered program limit moves d later (Err e) fits is_first none h = h
answered program limit moves d later (Ok found) fits is_first none h =
    subst (λ (a : def.Answer). IsAnswer a found)
    (ap (λ s. answer_of program (run_behind moves (run limit s))) is_first ∙ ap (λ ms. answer_of program (run_behind ms (run limit (first_of_program program)))) none ∙ sym (answer_in_range program limit fits))
    h.0

-- where the variables stand in the first state
pub slack_is : (program : LinearProgram) → table (variables program) (stand_in program.bounds) ≡ stands_of (first_of_program program)
unfolding first
slack_is program =
    let p = system_of program in
    let rows : length p.rows ≡ length program.rows = length-map program.rows row_sides in
    let places : ℕ → Option Stand = λ v. cond (is_column p v) (Some (first_stand (sides_at p.columns v))) None in
    table_same (variables program) (stand_in program.bounds) (stand (first_of_program program)) None
    (λ v l. sym (at_table (variables_of p) places v None (omega (arith, l, rows))))
    ∙ ap (λ n. table n (stand (first_of_program program))) (sym (first_size program))

-- ---- from a start

pub from_in_range : (program : LinearProgram) (start : Stands) (limit : ℕ) → first_overflow (first_operations (system_of program)) ≡ None
    → (answer_from limit program start ≡ answer_on program limit (begun program start).wide (begun program start)) × (last_from limit program start ≡ last_on limit (begun program start).wide (begun program start))
unfolding answer_from last_from
from_in_range program start limit e = (
  ap (λ o. cond (is_some o) (OutOfRange []) (answer_on program limit (begun program start).wide (begun program start))) e,
  ap (λ o. cond (is_some o) (first_of_program program) (last_on limit (begun program start).wide (begun program start))) e,
)

pub from_out_of_range : (program : LinearProgram) (start : Stands) (limit : ℕ) (place : EntryPlace) → first_overflow (first_operations (system_of program)) ≡ Some place → (answer_from limit program start ≡ OutOfRange []) × (last_from limit program start ≡ first_of_program program)
unfolding answer_from last_from
from_out_of_range program start limit place e = (
  ap (λ o. cond (is_some o) (OutOfRange []) (answer_on program limit (begun program start).wide (begun program start))) e,
  ap (λ o. cond (is_some o) (first_of_program program) (last_on limit (begun program start).wide (begun program start))) e,
)

-- ---- without a limit

pub whole_in_range : (program : LinearProgram) → first_overflow (first_operations (system_of program)) ≡ None → whole_answer program ≡ answer_of program (whole_run (first_of_program program))
unfolding whole_answer whole_run
whole_in_range program e =
    answer_in_range program (4 ^ variables program) e ∙ ap (λ n. answer_of program (run (4 ^ n) (first_of_program program))) (sym (first_size program))

pub whole_out_of_range : (program : LinearProgram) (place : EntryPlace) → first_overflow (first_operations (system_of program)) ≡ Some place → whole_answer program ≡ OutOfRange []
unfolding whole_answer
whole_out_of_range program place e = answer_out_of_range program (4 ^ variables program) place e

pub wholly_answered : {E : Type 0} (program : LinearProgram) (d : Dictionary) (result : Result LpAnswer E) → first_overflow (first_operations (system_of program)) ≡ None → d ≡ first_of_program program
    → IfOk result (IsAnswer (answer_of program (run_behind [] (whole_run d)))) → IfOk result (IsAnswer (whole_answer program))
wholly_answered program d (Err e) fits is_first h = h
wholly_answered program d (Ok found) fits is_first h =
    subst (λ (a : def.Answer). IsAnswer a found) (ap (λ s. answer_of program (whole_run s)) is_first ∙ sym (whole_in_range program fits)) h
