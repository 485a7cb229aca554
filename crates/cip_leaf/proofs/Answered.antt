-- What the answer on a leaf's program says of the leaf.
use Rattle.std.proofs.Common.{◌≡◌, ◌≢◌, ℕ, ◌+◌, ◌≤◌, ◌^◌, Bool, true, false, cond, List, [], ◌∷◌, ◌++◌, length, refl, sym, ap, ◌∙◌, arith}
use Rattle.std.proofs.lemmas.List.{length-map, length-append}
use Rattle.cip_rational.specs.Rational.{ℚ}
use Rattle.cip_problem.specs.Program.{Program}
use Rattle.cip_problem.specs.WellFormed.{IsWellFormed}
use Rattle.cip_problem.specs.LinearProgram.{LinearProgram}
use Rattle.cip_bland.specs.Dictionary.{Dictionary}
use Rattle.cip_bland.specs.FirstState.{first_operations}
use Rattle.cip_bland.specs.ProgramState.{system_of, first_of_program}
use Rattle.cip_bland.specs.declared.moves.Move.{Move}
use Rattle.cip_bland.specs.MoveList.{is_out_of_range, Ending, Ends, Overflows, Stops, Run, run}
use Rattle.cip_bland.specs.EndAnswers as def
use Rattle.cip_bland.specs.NoRepeat.{whole_answer}
use Rattle.cip_bland.specs.Statements.{IsRight}
use Rattle.cip_bland.proofs.ListEnds.{answers_end}
use Rattle.cip_bland.specs.declared.steps.Step.TheVariants as step
use Rattle.cip_simplex.specs.LpAnswers.{IsAnswer}
use Rattle.cip_simplex.specs.LpShape.{IsSolvable}
use Rattle.cip_simplex.specs.declared.answers.LpAnswer.TheVariants.{Optimal, Infeasible, Unbounded, Wide, Limit}
use Rattle.cip_search.specs.Leaf.{IsPointOf}
use Rattle.cip_search.specs.LeafProgram.{at_continuous, row_of_leaf, program_of_leaf}
use Rattle.cip_search.proofs.Merged.{leaf_proper, point_on}
use Rattle.cip_leaf.specs.LeafAnswers.{EndsInOptimum, EndsInRay, EndsOutOfRange}

-- ---- the program can be solved

continuous_fewer : {X : Type 0} (integral : List Bool) (xs : List X) → length (at_continuous integral xs) ≤ length xs
continuous_fewer [] xs = omega arith
continuous_fewer (w ∷ ws) [] = omega arith
continuous_fewer (true ∷ ws) (x ∷ xs) = let h = continuous_fewer ws xs in omega (arith, h)
continuous_fewer (false ∷ ws) (x ∷ xs) = let h = continuous_fewer ws xs in omega (arith, h)

pub leaf_solvable : (program : Program) (leaf : List ℚ) → IsWellFormed program → IsSolvable (program_of_leaf program leaf)
leaf_solvable program leaf formed = record {
  proper = leaf_proper program leaf formed;
  few =
      let c = continuous_fewer program.integral program.bounds in
      let r = length-map program.rows (row_of_leaf program leaf) in
      omega (arith, c, r, formed.bounds, formed.few_columns, formed.few_rows);
}

-- ---- answers in code

pub optimum_of : (program : Program) (leaf : List ℚ) (a : def.Answer) (values : _) (combo : _) (number : ℚ) → whole_answer (program_of_leaf program leaf) ≡ a → IsAnswer a (Optimal values combo number) → EndsInOptimum program leaf values.items
optimum_of program leaf (def.Optimal point c cost) values combo number e h =
    record { certificate = c; cost = cost; is_answer = e ∙ ap (λ x. def.Optimal x c cost) (sym h.0) }
optimum_of program leaf (def.NoPoint c) values combo number e h = absurd h
optimum_of program leaf (def.Unbounded point ray) values combo number e h = absurd h
optimum_of program leaf (def.OutOfRange moves) values combo number e h = absurd h
optimum_of program leaf def.LimitReached values combo number e h = absurd h

pub ray_of : (program : Program) (leaf : List ℚ) (a : def.Answer) (values changes : _) → whole_answer (program_of_leaf program leaf) ≡ a → IsAnswer a (Unbounded values changes) → EndsInRay program leaf values.items changes.items
ray_of program leaf (def.Optimal point c cost) values changes e h = absurd h
ray_of program leaf (def.NoPoint c) values changes e h = absurd h
ray_of program leaf (def.Unbounded point ray) values changes e h =
    record { is_answer = e ∙ (ap (λ x. def.Unbounded x ray) (sym h.0) ∙ ap (def.Unbounded values.items) (sym h.1)) }
ray_of program leaf (def.OutOfRange moves) values changes e h = absurd h
ray_of program leaf def.LimitReached values changes e h = absurd h

pub moves_of : (linear : LinearProgram) (a : def.Answer) (made : _) → whole_answer linear ≡ a → IsAnswer a (Wide made) → EndsOutOfRange linear (length made.items)
moves_of linear (def.Optimal point c cost) made e h = absurd h
moves_of linear (def.NoPoint c) made e h = absurd h
moves_of linear (def.Unbounded point ray) made e h = absurd h
moves_of linear (def.OutOfRange moves) made e h = record { moves = moves; count = sym (ap length h); is_answer = e }
moves_of linear def.LimitReached made e h = absurd h

pub never_limit : (linear : LinearProgram) (a : def.Answer) → whole_answer linear ≡ a → whole_answer linear ≢ def.LimitReached → ¬ IsAnswer a Limit
never_limit linear (def.Optimal point c cost) e n h = h
never_limit linear (def.NoPoint c) e n h = h
never_limit linear (def.Unbounded point ray) e n h = h
never_limit linear (def.OutOfRange moves) e n h = h
never_limit linear def.LimitReached e n h = n e

-- where there is no point of the program there is none of the leaf
empty_by : (program : Program) (leaf : List ℚ) (a : def.Answer) (combo : _) → IsRight (program_of_leaf program leaf) a → IsAnswer a (Infeasible combo) → IsWellFormed program → (point : List ℚ) → ¬ IsPointOf program leaf point
empty_by program leaf (def.NoPoint c) combo r h formed point k =
    r.no_point (at_continuous program.integral point) (point_on program leaf point formed k).is_point
empty_by program leaf (def.Optimal point c cost) combo r h formed other k = absurd h
empty_by program leaf (def.Unbounded point ray) combo r h formed other k = absurd h
empty_by program leaf (def.OutOfRange moves) combo r h formed other k = absurd h
empty_by program leaf def.LimitReached combo r h formed other k = absurd h

pub no_point_of : (program : Program) (leaf : List ℚ) (combo : _) → IsWellFormed program → IsAnswer (whole_answer (program_of_leaf program leaf)) (Infeasible combo) → (point : List ℚ) → ¬ IsPointOf program leaf point
no_point_of program leaf combo formed h =
    empty_by program leaf (whole_answer (program_of_leaf program leaf)) combo (answers_end (program_of_leaf program leaf) (leaf_proper program leaf formed)).right h formed

-- ---- out of range without a move

some_move : (linear : LinearProgram) (moves : List Move) (last : Dictionary) (ending : Ending) → ¬ (def.answer_after linear moves last ending ≡ def.OutOfRange [])
some_move linear moves last (Ends (step.Crossed v)) h = cc
some_move linear moves last (Ends (step.Infeasible v)) h = cc
some_move linear moves last (Ends step.Optimum) h = cc
some_move linear moves last (Ends (step.Ray v)) h = cc
some_move linear moves last (Ends (step.Makes move)) h = cc
some_move linear moves last (Overflows move) h = let e : moves ++ move ∷ [] ≡ [] = cc in absurd (omega (arith, ap length e, length-append moves (move ∷ [])))
some_move linear moves last Stops h = cc

first_case : (linear : LinearProgram) (limit : ℕ) (test : Bool) → is_out_of_range (first_operations (system_of linear)) ≡ test → cond test (def.OutOfRange []) (def.answer_of linear (run limit (first_of_program linear))) ≡ def.OutOfRange [] → is_out_of_range (first_operations (system_of linear)) ≡ true
first_case linear limit true e h = e
first_case linear limit false e h =
    absurd (let r : Run = run limit (first_of_program linear) in some_move linear r.moves r.last r.ending h)

first_of_none : (linear : LinearProgram) → whole_answer linear ≡ def.OutOfRange [] → is_out_of_range (first_operations (system_of linear)) ≡ true
unfolding whole_answer def.answer
first_of_none linear h =
    first_case linear (4 ^ (length linear.bounds + length linear.rows)) (is_out_of_range (first_operations (system_of linear))) refl h

no_moves : (moves : List Move) → length moves ≡ 0 → moves ≡ []
no_moves [] e = refl
no_moves (m ∷ ms) e = absurd (omega (arith, e))

pub first_is_wide : (linear : LinearProgram) (number : ℕ) → EndsOutOfRange linear number → number ≤ 0 → is_out_of_range (first_operations (system_of linear)) ≡ true
first_is_wide linear number h l =
    first_of_none linear (h.is_answer ∙ ap def.OutOfRange (no_moves h.moves (omega (arith, h.count, l))))
