-- The point held, and what offering a point comes to.
use Rattle.std.specs.Prelude.{◌≡◌, ℕ, Bool, true, List, Option, None, Some, IfSome, if◌then◌else◌, refl}
use Rattle.std.specs.Coded.{Coded, code_by, coded×, coded_ℕ, coded_list, coded_option}
use Rattle.cip_rational.specs.Rational.{ℚ, lt_test, coded_ℚ}
use Rattle.cip_problem.specs.Program.{Program}
use Rattle.cip_problem.specs.Points.{IsFeasible, cost_of}
use Rattle.cip_model.specs.declared.verdicts.Verdict.{Verdict}
use Rattle.cip_model.specs.declared.verdicts.Verdict.TheVariants.{Feasible, BreaksBound, BreaksWhole, BreaksRow, Wide}
use Rattle.cip_incumbent.specs.declared.offers.Offered.{Offered}
use Rattle.cip_incumbent.specs.declared.offers.Offered.TheVariants.{Taken, NotBetter, Breaks}

-- a point with its cost in the minimised form
pub record HeldPoint : Type 0 where
  pub cost : ℚ
  pub point : List ℚ

-- cost and point
abbrev pub held_code : Coded HeldPoint
held_code =
    code_by (ℚ × List ℚ) (coded× coded_ℚ (coded_list coded_ℚ)) (λ h. (h.cost, h.point))
    (λ p. record { cost = p.0; point = p.1 }) (λ _. refl)

-- for points of how many columns there is room, and the point held, if there is one
pub record Holding : Type 0 where
  pub columns : ℕ
  pub best : Option HeldPoint

-- nothing is held
abbrev pub nothing_held : ℕ → Holding
nothing_held columns = record { columns = columns; best = None }

-- a cost is less than that of the point held; each is where none is held
abbrev pub is_cheaper : ℚ → Option HeldPoint → Bool
is_cheaper cost None = true
is_cheaper cost (Some held) = lt_test cost held.cost

-- a feasible point is taken where it is cheaper
abbrev pub taken_if : Bool → Offered
taken_if cheaper = if cheaper then Taken else NotBetter

-- what a verdict on the point that is offered comes to
abbrev pub offered : Option HeldPoint → Verdict → Offered
offered best (Feasible cost) = taken_if (is_cheaper cost best)
offered best (BreaksBound column) = Breaks (BreaksBound column)
offered best (BreaksWhole column) = Breaks (BreaksWhole column)
offered best (BreaksRow row value) = Breaks (BreaksRow row value)
offered best (Wide place) = Breaks (Wide place)

-- a point that is taken is held at this cost, and else all is as it was
abbrev pub after_taking : Offered → ℚ → List ℚ → Holding → Holding
after_taking Taken cost point before =
    record { columns = before.columns; best = Some (record { cost = cost; point = point }) }
after_taking NotBetter cost point before = before
after_taking (Breaks verdict) cost point before = before

-- after an offer a point that is taken is held at its own cost
abbrev pub after_offer : Offered → Program → List ℚ → Holding → Holding
after_offer answer program point before = after_taking answer (cost_of program point) point before

-- the point held is feasible, at the cost that is held
pub record IsHeldOf (program : Program) (held : HeldPoint) : Type 0 where
  pub feasible : IsFeasible program held.point
  pub cost : held.cost ≡ cost_of program held.point

-- so it is, if there is one
abbrev pub HoldsPointOf : Program → Holding → Type 0
HoldsPointOf program holding = IfSome holding.best (IsHeldOf program)

-- columns, and the point held
abbrev pub holding_code : Coded Holding
holding_code =
    code_by (ℕ × Option HeldPoint) (coded× coded_ℕ (coded_option held_code)) (λ h. (h.columns, h.best))
    (λ p. record { columns = p.0; best = p.1 }) (λ _. refl)
