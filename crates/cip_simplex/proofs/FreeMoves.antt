-- Candidates one after another, and moves by a rule that chooses as it likes.
use Rattle.std.proofs.Common.{◌≡◌, ℕ, ◌+◌, ◌<◌, Bool, true, false, List, Option, None, Some, IfSome, length, sym, ap, ◌∙◌, subst, inl, inr, arith}
use Rattle.std.proofs.lemmas.Bool.{cases_eq}
use Rattle.cip_problem.specs.Program.{Sides}
use Rattle.cip_problem.specs.Box.{sides_at}
use Rattle.cip_problem.specs.LinearProgram.{LinearProgram}
use Rattle.cip_bland.specs.Tables.{least}
use Rattle.cip_bland.specs.Dictionary.{Dictionary, size, stand, IsConsistent}
use Rattle.cip_bland.specs.Exchange.{after, CanExchange, CanMove}
use Rattle.cip_bland.specs.declared.moves.Move.{Move}
use Rattle.cip_bland.specs.declared.moves.Stand.{Stand}
use Rattle.cip_bland.proofs.Tables.{length-table}
use Rattle.cip_bland.specs.Headings.{stand_ahead}
use Rattle.cip_bland.specs.Rule.{sides_cross, is_crossed, is_outside, outside_heading, repairs, Way, way_of, shortest, move_by}
use Rattle.cip_bland.specs.Statements.{IsStateOf}
use Rattle.cip_bland.specs.StateEnds.{Passes, NonePasses, FallsFreely}
use Rattle.cip_bland.proofs.Searches.{least_none, least_some, shortest_none, shortest_some}
use Rattle.cip_bland.proofs.MovesMade.{can_repair, can_go}
use Rattle.cip_bland.proofs.StepCases.{moves_lead}
use Rattle.cip_simplex.specs.Starts.{Stands, stands_of, Begun, begun}
use Rattle.cip_simplex.specs.Reached.{IsEndAnswer, IsReached}
use Rattle.cip_simplex.specs.FreeMoves.{IsCandidate, IsOneOf, IsFound, variable_of, IsPicked, IsImprover}
use Rattle.cip_simplex.specs.declared.answers.LpAnswer.{LpAnswer}
use Rattle.cip_simplex.specs.declared.candidates.Candidate.{Candidate}
use Rattle.cip_simplex.proofs.StartLaws.{state_size, start_state}

-- ---- candidates

none_more : (test : ℕ → Bool) (n : ℕ) → IsFound test n None → test n ≡ false → IsFound test (n + 1) None
none_more test n before here v l =
    elim (cases_eq v n) [
      | inl same ↦ subst (λ k. test k ≡ false) (sym same) here
      | inr other ↦ before v (omega (arith, l, other))
    ]

of_next : (test : ℕ → Bool) (n : ℕ) (c : Candidate) → IsCandidate test n (Some c) → IsFound test (n + 1) (Some c)
of_next test n c h = (omega (arith, h.0), subst (λ k. test k ≡ true) (sym h.0) h.1)

-- the better of what was found and the next one is found
pub found_more : (test : ℕ → Bool) (n : ℕ) (best next chosen : Option Candidate) → IsFound test n best → IsCandidate test n next → IsOneOf best next chosen → IsFound test (n + 1) chosen
found_more test n best next None before here both =
    none_more test n (subst (IsFound test n) both.0 before) (subst (IsCandidate test n) both.1 here)
found_more test n best next (Some c) before here (inl e) =
    let h : IsFound test n (Some c) = subst (IsFound test n) e before in
    (omega (arith, h.0), h.1)
found_more test n best next (Some c) before here (inr e) = of_next test n c (subst (IsCandidate test n) e here)

-- and where the next one doesn't pass, what was found is found
pub found_less : (test : ℕ → Bool) (n : ℕ) (best : Option Candidate) → IsFound test n best → test n ≡ false → IsFound test (n + 1) best
found_less test n None before here = none_more test n before here
found_less test n (Some c) before here = (omega (arith, before.0), before.1)

-- what is found among all
pub picked : (d : Dictionary) (test : ℕ → Bool) (n : ℕ) (best : Option Candidate) (v : Option ℕ) → n ≡ size d → IsFound test n best → v ≡ variable_of best → IsPicked d test v
picked d test n best v all h e = subst (IsPicked d test) (sym e) (go best (subst (λ k. IsFound test k best) all h))
  where
    go : (o : Option Candidate) → IsFound test (size d) o → IsPicked d test (variable_of o)
    go None h = h
    go (Some c) h = record { within = h.0; passes = h.1 }

-- the least one that passes is one that does
pub least_passes : (d : Dictionary) (test : ℕ → Bool) (v : ℕ) → Some v ≡ least (size d) test → Passes d test v
least_passes d test v e =
    let h = least_some (size d) test v (sym e) in
    record { within = h.below; passes = h.passes }

-- where there is no least one, none passes
pub none_passes : (d : Dictionary) (test : ℕ → Bool) → None ≡ least (size d) test → NonePasses d test
none_passes d test e = (least_none (size d) test (sym e)).fails

-- ---- moves

pub repair_can : (d : Dictionary) (i j : ℕ) (to : Stand) → Passes d (is_outside d) i → Passes d (repairs d i) j → to ≡ stand_ahead (outside_heading d i) → CanExchange d i j to
repair_can d i j to out good e =
    subst (CanExchange d i j) (sym e) (can_repair d i j out.within good.within out.passes good.passes)

module _ (d : Dictionary) (j : ℕ) (h : IsImprover d j) where
  pub descent_can : (way : Way) (move : Move) → IsConsistent d → Some way ≡ shortest (size d) (way_of d j) → move ≡ move_by j way → CanMove d move
  descent_can way move consistent e m =
      let s = shortest_some (size d) (way_of d j) way (sym e) in
      subst (CanMove d) (sym m) (can_go d consistent j h.improving.within h.improving.passes s.0 way s.1.below s.1.is_way)

  pub falls_freely : None ≡ shortest (size d) (way_of d j) → FallsFreely d j
  falls_freely e = record {
    point = h.point;
    improving = h.improving;
    endless = shortest_none (size d) (way_of d j) (sym e);
  }

-- a move that can be made leads from a state of the program to one
pub state_made : (program : LinearProgram) (d later : Dictionary) (move : Move) → IsStateOf program d → CanMove d move × (later ≡ after d move) → IsStateOf program later
state_made program d later move st h = subst (IsStateOf program) (sym h.1) (moves_lead program d move st h.0).state

-- and sides that don't cross don't cross then
same_sides : (d later : Dictionary) → d.sides ≡ later.sides → NonePasses d (is_crossed d) → NonePasses later (is_crossed later)
same_sides d later e h =
    subst (λ (sides : List Sides). (v : ℕ) → v < length sides → sides_cross (sides_at sides v).low (sides_at sides v).high ≡ false) e h

pub uncrossed_made : (program : LinearProgram) (d later : Dictionary) (move : Move) → IsStateOf program d → NonePasses d (is_crossed d) → CanMove d move × (later ≡ after d move) → NonePasses later (is_crossed later)
uncrossed_made program d later move st h made =
    same_sides d later (sym st.same.same_sides ∙ (state_made program d later move st made).same.same_sides) h

-- the moves of a start lead to one
pub begun_state : (program : LinearProgram) (start : Stands) (moves : List Move) (last : Dictionary) (wide : Option Move) → begun program start ≡ record { moves = moves; last = last; wide = wide } → IsStateOf program last
begun_state program start moves last wide e = subst (IsStateOf program) (ap (λ (b : Begun). b.last) e) (start_state program start)

-- ---- what was reached

pub reached : (program : LinearProgram) (d : Dictionary) (last : Stands) (found : Option LpAnswer) → IsStateOf program d → last ≡ stands_of d → IfSome found (IsEndAnswer program d) → IsReached program found last
reached program d last found st e h = record {
  state = d;
  is_state = st;
  stands = e;
  long = ap length e ∙ length-table (size d) (stand d) ∙ state_size program d st;
  answered = h;
}
