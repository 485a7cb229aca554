-- What a point that is taken means for a search.
use Rattle.std.proofs.Common.{◌≡◌, ◌∙◌, ℕ, Bool, true, false, List, length, Option, None, Some, refl, sym, ap, subst}
use Rattle.cip_rational.specs.Rational.{ℚ, ◌≤ℚ◌}
use Rattle.cip_rational.proofs.Rational.Order.{≤ℚ_refl, ≤ℚ_of_lt, lt_of_test, le_of_lt_test}
use Rattle.cip_problem.specs.Program.{Program}
use Rattle.cip_problem.specs.Points.{IsFeasible, cost_of}
use Rattle.cip_problem.specs.WellFormed.{IsWellFormed, columns}
use Rattle.cip_problem.specs.Improving.{IsNoDearer}
use Rattle.cip_model.specs.Meaning.{VerdictHolds}
use Rattle.cip_model.specs.Verdicts.{verdict_of}
use Rattle.cip_model.proofs.Meaning.Point.{verdict_holds}
use Rattle.cip_model.specs.declared.verdicts.Verdict.{Verdict}
use Rattle.cip_model.specs.declared.verdicts.Verdict.TheVariants.{Feasible, BreaksBound, BreaksWhole, BreaksRow, Wide}
use Rattle.cip_incumbent.specs.HeldPoint.{HeldPoint, Holding, is_cheaper, taken_if, offered, after_taking, after_offer, IsHeldOf, HoldsPointOf}
use Rattle.cip_incumbent.specs.declared.offers.Offered.{Offered}
use Rattle.cip_incumbent.specs.declared.offers.Offered.TheVariants.{Taken, NotBetter, Breaks}
use Rattle.cip_search.specs.SearchState.{WayBack, IsAttained}
use Rattle.cip_problem.specs.Log.{Node}
use Rattle.cip_tree.specs.Nodes.{Nodes}
use Rattle.cip_core.specs.Steps.{IsTried}
use Rattle.cip_core.specs.KeptNodes.{cost_held, IsKept}
use Rattle.cip_core.proofs.KeptSteps.{kept_offered}

-- the cost of a point that is held is attained
pub attained : (program : Program) (held : HeldPoint) → IsHeldOf program held → IsAttained program held.cost
attained program held h = record { point = held.point; feasible = h.feasible; is_cost = h.cost }

cheaper_case : (best : Option HeldPoint) (columns : ℕ) (cost own : ℚ) → is_cheaper cost best ≡ true → cost ≡ own → IsNoDearer (Some own) (cost_held (record { columns = columns; best = best }))
cheaper_case None columns cost own e f = tt
cheaper_case (Some held) columns cost own e f = subst (λ t. t ≤ℚ held.cost) f (≤ℚ_of_lt (lt_of_test e))

if_taken : (best : Option HeldPoint) (columns : ℕ) (cost own : ℚ) (t : Bool) → is_cheaper cost best ≡ t → taken_if t ≡ Taken → cost ≡ own → IsNoDearer (Some own) (cost_held (record { columns = columns; best = best }))
if_taken best columns cost own true e g f = cheaper_case best columns cost own e f
if_taken best columns cost own false e g f = absurd (cc)

-- what is taken costs no more than what was held
pub taken_no_dearer : (program : Program) (point : List ℚ) (holding : Holding) (verdict : Verdict) → VerdictHolds program point verdict → offered holding.best verdict ≡ Taken → IsNoDearer (Some (cost_of program point)) (cost_held holding)
taken_no_dearer program point holding (Feasible cost) h e = if_taken holding.best holding.columns cost (cost_of program point) (is_cheaper cost holding.best) refl e h.1
taken_no_dearer program point holding (BreaksBound column) h e = absurd (cc)
taken_no_dearer program point holding (BreaksWhole column) h e = absurd (cc)
taken_no_dearer program point holding (BreaksRow row value) h e = absurd (cc)
taken_no_dearer program point holding (Wide place) h e = absurd (cc)

-- a search goes on beside what is held after an offer
pub kept_after : (program reduced : Program) (way : WayBack) (tree : Nodes) (work : List Node) (old new : Holding) (answer : Offered) (point : List ℚ) (verdict : Verdict) → VerdictHolds program point verdict → answer ≡ offered old.best verdict → new ≡ after_offer answer program point old → HoldsPointOf program new → IsKept program reduced way tree (cost_held old) work → IsKept program reduced way tree (cost_held new) work
kept_after program reduced way tree work old new Taken point verdict h e f g k =
    subst (λ t. IsKept program reduced way tree (cost_held t) work) (sym f)
    (kept_offered program reduced way tree (cost_held old) work (cost_of program point) (attained program (record { cost = cost_of program point; point = point }) (subst (HoldsPointOf program) f g)) (taken_no_dearer program point old verdict h (sym e)) k)
kept_after program reduced way tree work old new NotBetter point verdict h e f g k = subst (λ t. IsKept program reduced way tree (cost_held t) work) (sym f) k
kept_after program reduced way tree work old new (Breaks v) point verdict h e f g k = subst (λ t. IsKept program reduced way tree (cost_held t) work) (sym f) k

pub itself : (held : Option ℚ) → IsNoDearer held held
itself None = tt
itself (Some cost) = ≤ℚ_refl cost

pub no_dearer_after : (program : Program) (old new : Holding) (answer : Offered) (point : List ℚ) (verdict : Verdict) → VerdictHolds program point verdict → answer ≡ offered old.best verdict → new ≡ after_offer answer program point old → IsNoDearer (cost_held new) (cost_held old)
no_dearer_after program old new Taken point verdict h e f = subst (λ t. IsNoDearer (cost_held t) (cost_held old)) (sym f) (taken_no_dearer program point old verdict h (sym e))
no_dearer_after program old new NotBetter point verdict h e f = subst (λ t. IsNoDearer (cost_held t) (cost_held old)) (sym f) (itself (cost_held old))
no_dearer_after program old new (Breaks v) point verdict h e f = subst (λ t. IsNoDearer (cost_held t) (cost_held old)) (sym f) (itself (cost_held old))

-- the point held is still one of the program
pub holding_after : (program : Program) (old new : Holding) (answer : Offered) (point : List ℚ) → IsFeasible program point → new ≡ after_offer answer program point old → HoldsPointOf program old → HoldsPointOf program new
holding_after program old new Taken point h f k = subst (HoldsPointOf program) (sym f) (record { feasible = h; cost = refl })
holding_after program old new NotBetter point h f k = subst (HoldsPointOf program) (sym f) k
holding_after program old new (Breaks v) point h f k = subst (HoldsPointOf program) (sym f) k

-- so it has as much room
pub room_after : (program : Program) (old new : Holding) (answer : Offered) (point : List ℚ) → new ≡ after_offer answer program point old → old.columns ≡ columns program → new.columns ≡ columns program
room_after program old new Taken point f r = ap (λ (t : Holding). t.columns) f ∙ r
room_after program old new NotBetter point f r = ap (λ (t : Holding). t.columns) f ∙ r
room_after program old new (Breaks v) point f r = ap (λ (t : Holding). t.columns) f ∙ r

-- a point that is feasible at this cost is offered: that is what a test of it comes to
module _ (program : Program) (old new : Holding) (answer : Offered) (point : List ℚ) (cost : ℚ) (formed : IsWellFormed program) (long : length point ≡ columns program) (found : verdict_of program point ≡ Feasible cost) (is_answer : answer ≡ taken_if (is_cheaper cost old.best)) (is_after : new ≡ after_taking answer cost point old) where
  pub known : VerdictHolds program point (Feasible cost)
  known = subst (VerdictHolds program point) found (verdict_holds program point formed long)

  pub known_answer : answer ≡ offered old.best (verdict_of program point)
  known_answer = is_answer ∙ ap (offered old.best) (sym found)

  pub known_after : new ≡ after_offer answer program point old
  known_after = subst (λ t. new ≡ after_taking answer t point old) known.1 is_after

-- ---- what is held costs no more than a point that was offered

tried_case : (best : Option HeldPoint) (columns : ℕ) (cost own : ℚ) (point : List ℚ) (cheaper : Bool) → is_cheaper cost best ≡ cheaper → cost ≡ own → IsNoDearer (cost_held (after_taking (taken_if cheaper) own point (record { columns = columns; best = best }))) (Some cost)
tried_case best columns cost own point true e f = subst (λ t. t ≤ℚ cost) f (≤ℚ_refl cost)
tried_case None columns cost own point false e f = absurd (cc)
tried_case (Some held) columns cost own point false e f = le_of_lt_test e

pub tried_after : (program : Program) (old new : Holding) (answer : Offered) (point : List ℚ) → VerdictHolds program point (verdict_of program point) → answer ≡ offered old.best (verdict_of program point) → new ≡ after_offer answer program point old → IsTried program (cost_held new) point
tried_after program old new answer point h e f = λ cost found.
    let k = subst (VerdictHolds program point) found h in
    subst (λ t. IsNoDearer (cost_held t) (Some cost)) (sym (f ∙ ap (λ a. after_offer a program point old) (e ∙ ap (offered old.best) found)))
    (tried_case old.best old.columns cost (cost_of program point) point (is_cheaper cost old.best) refl k.1)
