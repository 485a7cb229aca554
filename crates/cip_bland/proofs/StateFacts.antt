-- What a state of a program says of its variables, and the side that each uses which doesn't drive a form.
use Rattle.std.proofs.Common.{◌≡◌, ℕ, ◌<◌, Bool, true, false, not, ◌&&◌, is_some, length, Option, None, Some, refl, sym, ap, ◌∙◌, subst}
use Rattle.std.proofs.lemmas.Bool.{true≢false}
use Rattle.cip_rational.specs.Rational.{ℚ, zeroℚ}
use Rattle.cip_bland.specs.Box.{Between, sides_at, is_between}
use Rattle.cip_problem.proofs.PassedOn.{between_of_test}
use Rattle.cip_bland.specs.LinearProgram.{LinearProgram, IsProper, IsPoint}
use Rattle.cip_bland.specs.Multipliers.{IsUsed}
use Rattle.cip_bland.specs.Tables.{table, form}
use Rattle.cip_bland.specs.Dictionary.{Dictionary, size, stand, is_basic, cost_entry, value, standing_value, CanStand, Solves, IsConsistent}
use Rattle.cip_bland.specs.ProgramState.{first_of_program}
use Rattle.cip_bland.specs.declared.moves.Stand.{Stand}
use Rattle.cip_bland.specs.Headings.{back_of, along}
use Rattle.cip_bland.specs.Rule.{is_crossed, is_outside, drives}
use Rattle.cip_bland.specs.Statements.{IsStateOf}
use Rattle.cip_bland.specs.declared.steps.Heading.{Heading}
use Rattle.cip_bland.proofs.Searches.{NoneOf}
use Rattle.cip_bland.proofs.SideCases.{standing_between, stuck_used}
use Rattle.cip_bland.proofs.PointsOf.{point_by}

-- ---- one state

pub basic_at : (d : Dictionary) (v : ℕ) → stand d v ≡ None → is_basic d v ≡ true
basic_at d v e = ap (λ s. not (is_some s)) e

pub nonbasic_at : (d : Dictionary) (v : ℕ) (at : Stand) → stand d v ≡ Some at → is_basic d v ≡ false
nonbasic_at d v at e = ap (λ s. not (is_some s)) e

pub stand_of_basic : (d : Dictionary) (v : ℕ) → is_basic d v ≡ true → stand d v ≡ None
stand_of_basic d v b = go (stand d v) b
  where
    go : (s : Option Stand) → not (is_some s) ≡ true → s ≡ None
    go None e = refl
    go (Some at) e = absurd (true≢false (sym e))

pub stand_of_nonbasic : (d : Dictionary) (v : ℕ) → is_basic d v ≡ false → (at : Stand) × (stand d v ≡ Some at)
stand_of_nonbasic d v b = go (stand d v) b
  where
    go : (s : Option Stand) → not (is_some s) ≡ false → (at : Stand) × (s ≡ Some at)
    go None e = absurd (true≢false e)
    go (Some at) e = (at, refl)

-- no basic variable stands in a form
abbrev pub IsFreeRow : Dictionary → (ℕ → ℚ) → Type 0
IsFreeRow d row = (k : ℕ) → k < size d → is_basic d k ≡ true → row k ≡ zeroℚ

module _ (d : Dictionary) (c : IsConsistent d) where
  pub at_stand : (v : ℕ) (at : Stand) → v < size d → stand d v ≡ Some at → CanStand (sides_at d.sides v) at × (value d v ≡ standing_value (sides_at d.sides v) at)
  at_stand v at l e = let s = c.stands v at l e in (s.can_stand, s.has_value)

  pub stuck_at : (row : ℕ → ℚ) (heading : Heading) → IsFreeRow d row → (v : ℕ) → v < size d → drives d row heading v ≡ false → IsUsed (along (back_of heading) (row v)) (sides_at d.sides v) (value d v)
  stuck_at row heading free v l stuck =
      stuck_used heading (row v) (sides_at d.sides v) (stand d v) (value d v) stuck (λ e. free v l (basic_at d v e)) (λ at e. at_stand v at l e)

  pub stuck_row : (row : ℕ → ℚ) (heading : Heading) → IsFreeRow d row → NoneOf (size d) (drives d row heading) → (v : ℕ) → v < size d → IsUsed (along (back_of heading) (row v)) (sides_at d.sides v) (value d v)
  stuck_row row heading free none v l = stuck_at row heading free v l (none.fails v l)

  -- a basic variable that isn't outside lies between its sides, and a nonbasic one does where they don't cross
  pub between_at : (v : ℕ) → v < size d → is_crossed d v ≡ false → is_outside d v ≡ false → Between (sides_at d.sides v).low (sides_at d.sides v).high (value d v)
  between_at v l uncrossed inside = go (stand d v) refl
    where
      inner : (b t : Bool) → b ≡ true → (b && not t) ≡ false → t ≡ true
      inner true true e f = refl
      inner true false e f = absurd (true≢false f)
      inner false t e f = absurd (true≢false (sym e))

      go : (s : Option Stand) → stand d v ≡ s → Between (sides_at d.sides v).low (sides_at d.sides v).high (value d v)
      go None e =
          between_of_test (sides_at d.sides v).low (sides_at d.sides v).high (value d v)
          (inner (is_basic d v) (is_between (sides_at d.sides v).low (sides_at d.sides v).high (value d v)) (basic_at d v e) inside)
      go (Some at) e =
          standing_between (sides_at d.sides v).low (sides_at d.sides v).high at (value d v) uncrossed (at_stand v at l e).0 (at_stand v at l e).1

  pub all_between : NoneOf (size d) (is_crossed d) → NoneOf (size d) (is_outside d) → (v : ℕ) → v < size d → Between (sides_at d.sides v).low (sides_at d.sides v).high (value d v)
  all_between uncrossed inside v l = between_at v l (uncrossed.fails v l) (inside.fails v l)

-- ---- a state of a program
module _ (program : LinearProgram) (d : Dictionary) (proper : IsProper program) (st : IsStateOf program d) where
  pub sizes : size (first_of_program program) ≡ size d
  sizes = ap length st.same.same_sides

  pub values_solve : Solves (first_of_program program) (value d)
  values_solve = st.same.back (value d) st.consistent.solved

  pub is_point : NoneOf (size d) (is_crossed d) → NoneOf (size d) (is_outside d) → IsPoint program (table (length program.bounds) (value d))
  is_point uncrossed inside =
      point_by program proper (value d) values_solve
      (λ v l. subst (λ sides. Between (sides_at sides v).low (sides_at sides v).high (value d v)) (sym st.same.same_sides) (all_between d st.consistent uncrossed inside v (subst (λ n. v < n) sizes l)))

  -- the form of the cost at the values
  pub first_cost : form (size (first_of_program program)) (cost_entry (first_of_program program)) (value d) ≡ d.cost
  first_cost = st.same.same_cost (value d) values_solve ∙ sym st.consistent.cost_value
