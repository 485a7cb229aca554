-- Leaves without continuous columns: their programs have no columns, and so no first value and no move out of range.
use Rattle.std.proofs.Common.{◌≡◌, inl, inr, ℕ, zero, suc, ◌+◌, ◌<◌, ◌^◌, Bool, true, false, List, [], ◌∷◌, ◌++◌, map, length, None, Some, All, refl, sym, ap, ◌∙◌, subst, arith, true≢false, cond}
use Rattle.std.specs.Prelude.{◌↔◌, is_some}
use Rattle.std.proofs.lemmas.List.Elements.{All-head, All-tail}
use Rattle.std.proofs.lemmas.Option.{none-some}
use Rattle.std.proofs.lemmas.Bool.{le-ltb}
use Rattle.cip_rational.specs.Rational.{ℚ, zeroℚ, ◌<ℚ◌}
use Rattle.cip_rational.proofs.Rational.Order.{<ℚ_irrefl}
use Rattle.cip_rational.specs.Sums.{dot}
use Rattle.cip_problem.specs.Program.{Sides, Program}
use Rattle.cip_problem.specs.WellFormed.{IsWellFormed}
use Rattle.cip_problem.specs.LinearProgram.{LinearProgram}
use Rattle.cip_bland.specs.Tables.{each}
use Rattle.cip_bland.specs.Dictionary.{Dictionary, size, is_basic}
use Rattle.cip_bland.specs.Exchange.{CanMove}
use Rattle.cip_bland.specs.Operations.{Placed, first_overflow}
use Rattle.cip_bland.specs.FirstState.{System, is_column, first_value, first_operations, form_operations}
use Rattle.cip_bland.specs.ProgramState.{system_of, first_of_program}
use Rattle.cip_bland.proofs.PassedOn.{first-size, first-stand}
use Rattle.cip_bland.specs.declared.moves.Move.{Move}
use Rattle.cip_bland.specs.declared.moves.Move.TheVariants.{Exchange, Flip}
use Rattle.cip_bland.specs.declared.places.Line.{Line}
use Rattle.cip_bland.specs.declared.places.Line.TheVariants as line
use Rattle.cip_bland.specs.Rule.{next}
use Rattle.cip_bland.specs.MoveList.{Ending, Ends, Overflows, Stops, Run, run, is_out_of_range, state_after}
use Rattle.cip_bland.specs.EndAnswers.{Answer, Optimal, NoPoint, Unbounded, OutOfRange, LimitReached, answer_of, answer_after, answer}
use Rattle.cip_bland.specs.NoRepeat.{whole_answer}
use Rattle.cip_bland.specs.Statements.{IsRight, IsRun}
use Rattle.cip_bland.proofs.StepCases.{first_is_state, moves_can_be_made}
use Rattle.cip_bland.proofs.RunFacts.{runs_are_right}
use Rattle.cip_bland.proofs.ListEnds.{answers_end}
use Rattle.cip_bland.specs.declared.steps.Step.TheVariants as step
use Rattle.cip_search.specs.Leaf.{IsLeaf, IsLeafIn}
use Rattle.cip_search.specs.Wide.{Place, InRow, InCost, fixed_values, IsWideAt}
use Rattle.cip_search.specs.LeafProgram.{at_continuous, merged, program_of_leaf}
use Rattle.cip_search.specs.WideLeaf.{AtPlace, AfterMoves, SumOverflows, EndOverflows, IsWideBy}
use Rattle.cip_search.proofs.Merged.{leaf_proper}

-- ---- no columns

pub nothing_continuous : {X : Type 0} (integral : List Bool) (xs : List X) → All (λ whole. whole ≡ true) integral → at_continuous integral xs ≡ []
nothing_continuous [] xs h = refl
nothing_continuous (w ∷ ws) [] h = refl
nothing_continuous (true ∷ ws) (x ∷ xs) h = nothing_continuous ws xs (All-tail (λ whole. whole ≡ true) true ws h)
nothing_continuous (false ∷ ws) (x ∷ xs) h = let f : false ≡ true = All-head (λ whole. whole ≡ true) false ws h in absurd (cc)

each_none : (m : ℕ) → each {X = Placed} m (λ r. []) ≡ []
each_none zero = refl
each_none (suc m) = ap (λ t. t ++ []) (each_none m)

no_operations : (n m : ℕ) (at : ℕ → Line) (row : ℕ → ℕ → ℚ) (costs x : ℕ → ℚ) → n ≡ 0 → first_overflow (each m (λ r. form_operations (at r) n (row r) x) ++ form_operations line.Cost n costs x) ≡ None
no_operations zero m at row costs x e = ap (λ t. first_overflow (t ++ [])) (each_none m)
no_operations (suc n) m at row costs x e = absurd (omega (arith, e))

pub no_first_overflow : (linear : LinearProgram) → length linear.bounds ≡ 0 → first_overflow (first_operations (system_of linear)) ≡ None
no_first_overflow linear e =
    let p : System = system_of linear in
    no_operations (length linear.bounds) (length p.rows) (λ r. line.Row (length linear.bounds + r)) p.coefficient p.costs (first_value p) e

-- ---- no moves

all_basic : (linear : LinearProgram) (v : ℕ) → length linear.bounds ≡ 0 → v < size (first_of_program linear) → is_basic (first_of_program linear) v ≡ true
all_basic linear v e l =
    let p : System = system_of linear in
    let s = first-stand p v (subst (λ n. v < n) (first-size p) l) in
    let n : is_column p v ≡ false = le-ltb v (length linear.bounds) (omega (arith, e)) in
    rw (s, n) refl

no_move : (linear : LinearProgram) (move : Move) → length linear.bounds ≡ 0 → CanMove (first_of_program linear) move → ⊥
no_move linear (Exchange i j to) e h = true≢false (sym (all_basic linear j e h.entering) ∙ h.nonbasic)
no_move linear (Flip j) e h = true≢false (sym (all_basic linear j e h.within) ∙ h.nonbasic)

never_next : (linear : LinearProgram) (move : Move) → length linear.bounds ≡ 0 → ¬ (next (first_of_program linear) ≡ step.Makes move)
never_next linear move e h =
    no_move linear move e (moves_can_be_made (first_of_program linear) move (first_is_state linear).consistent h)

-- a list without moves doesn't end out of range
ends_here : (linear : LinearProgram) (limit : ℕ) (moves : List Move) (last : Dictionary) (ending : Ending) (found : List Move) → length linear.bounds ≡ 0 → IsRun limit (first_of_program linear) (record { moves = moves; last = last; ending = ending }) → ¬ (answer_after linear moves last ending ≡ OutOfRange found)
unfolding state_after
ends_here linear limit (move ∷ moves) last ending found e h k = never_next linear move e (h.made 0 move refl).chosen
ends_here linear limit [] last (Ends (step.Crossed v)) found e h k = cc
ends_here linear limit [] last (Ends (step.Infeasible v)) found e h k = cc
ends_here linear limit [] last (Ends step.Optimum) found e h k = cc
ends_here linear limit [] last (Ends (step.Ray v)) found e h k = cc
ends_here linear limit [] last (Ends (step.Makes move)) found e h k = cc
ends_here linear limit [] last (Overflows move) found e h k =
    let n = h.ending.1 in
    never_next linear n.0 e (subst (λ d. next d ≡ step.Makes n.0) h.last n.1)
ends_here linear limit [] last Stops found e h k = cc

answer_case : (linear : LinearProgram) (limit : ℕ) (found : List Move) (test : Bool) → length linear.bounds ≡ 0 → test ≡ false → ¬ (cond test (OutOfRange []) (answer_of linear (run limit (first_of_program linear))) ≡ OutOfRange found)
answer_case linear limit found true e f h = true≢false f
answer_case linear limit found false e f h =
    let r : Run = run limit (first_of_program linear) in
    ends_here linear limit r.moves r.last r.ending found e (runs_are_right.lists limit (first_of_program linear)) h

pub never_out_of_range : (linear : LinearProgram) (found : List Move) → length linear.bounds ≡ 0 → ¬ (whole_answer linear ≡ OutOfRange found)
unfolding whole_answer answer
never_out_of_range linear found e h =
    answer_case linear (4 ^ (length linear.bounds + length linear.rows)) found (is_out_of_range (first_operations (system_of linear))) e (ap is_some (no_first_overflow linear e)) h

-- ---- the only point

pub all_fixed : (integral : List Bool) (leaf : List ℚ) → All (λ whole. whole ≡ true) integral → length leaf ≡ length integral → fixed_values integral leaf ≡ map Some leaf
all_fixed [] [] h e = refl
all_fixed [] (v ∷ vs) h e = absurd (omega (arith, e))
all_fixed (true ∷ ws) [] h e = absurd (omega (arith, e))
all_fixed (true ∷ ws) (v ∷ vs) h e = ap (λ t. Some v ∷ t) (all_fixed ws vs (All-tail (λ whole. whole ≡ true) true ws h) (omega (arith, e)))
all_fixed (false ∷ ws) leaf h e = let f : false ≡ true = All-head (λ whole. whole ≡ true) false ws h in absurd (cc)

only_point : (integral : List Bool) (leaf others : List ℚ) → All (λ whole. whole ≡ true) integral → length leaf ≡ length integral → merged integral leaf others ≡ leaf
only_point [] [] others h e = refl
only_point [] (v ∷ vs) others h e = absurd (omega (arith, e))
only_point (true ∷ ws) [] others h e = absurd (omega (arith, e))
only_point (true ∷ ws) (v ∷ vs) others h e = ap (λ t. v ∷ t) (only_point ws vs others (All-tail (λ whole. whole ≡ true) true ws h) (omega (arith, e)))
only_point (false ∷ ws) leaf others h e = let f : false ≡ true = All-head (λ whole. whole ≡ true) false ws h in absurd (cc)

pub leaf-long : (integral : List Bool) (box : List Sides) (leaf : List ℚ) → All (λ whole. whole ≡ true) integral → length integral ≡ length box → IsLeafIn integral box leaf → length leaf ≡ length integral
leaf-long [] box [] h e k = refl
leaf-long [] box (v ∷ vs) h e k = absurd k
leaf-long (w ∷ ws) [] leaf h e k = absurd (omega (arith, e))
leaf-long (true ∷ ws) (s ∷ ss) [] h e k = absurd k
leaf-long (true ∷ ws) (s ∷ ss) (v ∷ vs) h e k = ap suc (leaf-long ws ss vs (All-tail (λ whole. whole ≡ true) true ws h) (omega (arith, e)) k.1)
leaf-long (false ∷ ws) (s ∷ ss) leaf h e k = let f : false ≡ true = All-head (λ whole. whole ≡ true) false ws h in absurd (cc)

module _ (program : Program) (leaf : List ℚ) (formed : IsWellFormed program) (whole : All (λ whole. whole ≡ true) program.integral) where
  no_columns : length (program_of_leaf program leaf).bounds ≡ 0
  no_columns = ap length (nothing_continuous program.integral program.bounds whole)

  sum_wide : (place : Place) → length leaf ≡ length program.integral → SumOverflows program program.constant leaf place → IsWideAt program leaf place
  sum_wide (InRow number) e h = record { row = h.row; is_row = h.is_row; wide = (let f = all_fixed program.integral leaf whole e in let o = h.overflows in rw (f, o) refl) }
  sum_wide InCost e h = let f = all_fixed program.integral leaf whole e in rw f h

  end_wide : (place : Place) (a : Answer) → length leaf ≡ length program.integral → IsRight (program_of_leaf program leaf) a → EndOverflows program leaf place a → IsWideAt program leaf place
  end_wide place (Optimal others c cost) e r h =
      sum_wide place e (subst (λ x. SumOverflows program program.constant x place) (only_point program.integral leaf others whole e) h)
  end_wide place (NoPoint c) e r h = absurd h
  end_wide place (Unbounded others direction) e r h =
      let none : dot (program_of_leaf program leaf).costs direction ≡ zeroℚ = ap (λ t. dot t direction) (nothing_continuous program.integral program.costs whole) in
      absurd (<ℚ_irrefl zeroℚ (subst (λ t. t <ℚ zeroℚ) none r.is_ray.falls))
  end_wide place (OutOfRange moves) e r h = absurd h
  end_wide place LimitReached e r h = absurd h

  pub place_agrees : (place : Place) → IsLeaf program leaf → IsWideBy program leaf (AtPlace place) ↔ IsWideAt program leaf place
  place_agrees place h = (
    λ w. elim w [
      | inl fixed ↦ fixed
      | inr later ↦ elim later [
        | inl value ↦ absurd (none-some _ (sym (no_first_overflow (program_of_leaf program leaf) no_columns) ∙ value))
        | inr sum ↦ end_wide place (whole_answer (program_of_leaf program leaf)) (leaf-long program.integral program.bounds leaf whole (formed.integral ∙ sym formed.bounds) h) (answers_end (program_of_leaf program leaf) (leaf_proper program leaf formed)).right sum
      ]
    ],
    λ fixed. inl fixed,
  )

  pub moves_agree : (number : ℕ) → ¬ IsWideBy program leaf (AfterMoves number)
  moves_agree number h = never_out_of_range (program_of_leaf program leaf) h.moves no_columns h.is_answer
