-- What the last linear program of a node found stays so, while the node and the pool stay as they are.
use Rattle.std.proofs.Common.{◌≡◌, ◌≢◌, ℕ, List, length, Option, None, Some, IfSome, refl, sym, ap, ◌∙◌, subst}
use Rattle.std.specs.Prelude.{option_map}
use Rattle.cip_rational.specs.Rational.{ℚ}
use Rattle.cip_problem.specs.Program.{Sides, Program}
use Rattle.cip_problem.specs.WellFormed.{columns, IsWellFormed}
use Rattle.cip_problem.specs.LinearProgram.{IsPoint}
use Rattle.cip_calls.specs.Relaxation.{IsRelaxedBound}
use Rattle.cip_domain.specs.Changes.{Region}
use Rattle.cip_rows.specs.RowPools.{Pool}
use Rattle.cip_tree.specs.Nodes.{TakenNode, box_of}
use Rattle.cip_node.specs.NodeRows.{usable_rows}
use Rattle.cip_node.specs.Relaxing.{node_program, IsMark}
use Rattle.cip_node.specs.Mark.{Mark}
use Rattle.cip_calls.specs.CoreStates.{CoreState, reduced_of, held_of, rows_lent, IsAtWork}
use Rattle.cip_calls.specs.StepsBack.{StepsTaken, point_back, FitsBack}
use Rattle.cip_calls.specs.Later.{IsLater, IsLaterAt}
use Rattle.cip_calls.specs.Steps.{IsTried, IsTriedBack}
use Rattle.cip_calls.proofs.PassedOn.{work_long}
use Rattle.cip_calls.proofs.PassedOn.{no_dearer_trans}
use Rattle.cip_node.specs.Bounding.{IsAsGood, HasTried, point_of, IsFound, IsBounded}
use Rattle.cip_node_rules.specs.declared.looks.Looked.{Looked}
use Rattle.cip_node_rules.specs.declared.looks.Looked.TheVariants as look
use Rattle.cip_node.specs.Looking.{IsLook, IsOpenNode}
use Rattle.cip_node.specs.declared.bounding.Found.{Found}
use Rattle.cip_node.proofs.Looked.{look_empty, open_after}
use Rattle.cip_calls.specs.Noted.{IsSameNode}
use Rattle.cip_calls.specs.declared.asks.Round.TheVariants as rounds
use Rattle.cip_calls.specs.declared.judging.Came.{Came}
use Rattle.cip_calls.specs.declared.judging.Came.TheVariants as came
use Rattle.cip_calls.specs.Enforcing.{IsVerdict}
use Rattle.cip_calls.specs.declared.enforcing.Verdict.{Verdict}
use Rattle.cip_calls.specs.declared.enforcing.Verdict.TheVariants as said
use Rattle.cip_solve.specs.NodesReached.{IsFoundAt, IsFoundBy, IsOpenBounded, left_by, IsReachedIf, reached_by, IsSeen}

module _ (old new : CoreState) (later : IsLater old new) (pool : new.pool ≡ old.pool) (box : List Sides) where
  good_later : (bound : Option ℚ) (mark : Option Mark) → IsAsGood old box bound mark → IsAsGood new box bound mark
  good_later bound None h =
      subst (λ (p : Program). IsRelaxedBound p (usable_rows box new.pool.rows) box bound) (sym later.reduced)
      (subst (λ (q : Pool). IsRelaxedBound (reduced_of old) (usable_rows box q.rows) box bound) (sym pool) h)
  good_later bound (Some mark) h =
      subst (λ (p : Program). IsMark p (record { own = p.rows; pool = new.pool.rows; cutoff = None }) box (columns p) mark) (sym later.reduced)
      (subst (λ (q : Pool). IsMark (reduced_of old) (record { own = (reduced_of old).rows; pool = q.rows; cutoff = None }) box (columns (reduced_of old)) mark) (sym pool) h)

  point_later : (point : List ℚ) → IsPoint (node_program (reduced_of old) (rows_lent old) box) point → IsPoint (node_program (reduced_of new) (rows_lent new) box) point
  point_later point h =
      subst (λ (p : Program). IsPoint (node_program p (record { own = p.rows; pool = new.pool.rows; cutoff = None }) box) point) (sym later.reduced)
      (subst (λ (q : Pool). IsPoint (node_program (reduced_of old) (record { own = (reduced_of old).rows; pool = q.rows; cutoff = None }) box) point) (sym pool) h)

  back_later : (point : List ℚ) → IsTriedBack old point → IsTriedBack new point
  back_later point h = λ fits cost e.
      let fitted : FitsBack old.steps point = subst (λ (s : StepsTaken). FitsBack s point) later.steps fits in
      let tried : IsTried new.program (held_of old) (point_back new.steps point) =
      subst (λ (p : Program). IsTried p (held_of old) (point_back new.steps point)) (sym later.program)
      (subst (λ (s : StepsTaken). IsTried old.program (held_of old) (point_back s point)) (sym later.steps) (h fitted)) in
      no_dearer_trans (held_of new) (held_of old) (Some cost) later.no_dearer (tried cost e)

  tried_later : (point : Option (List ℚ)) (mark : Option Mark) → HasTried old box point mark → HasTried new box point mark
  tried_later None mark h = h
  tried_later (Some point) mark h = (point_later point h.0, back_later point h.1)

  pub found_later : (bound : Option ℚ) (found : Found) → IsFound old box bound found → IsFound new box bound found
  found_later bound found h = record {
    long = h.long;
    good = good_later bound found.mark h.good;
    tried = tried_later (point_of found) found.mark h.tried;
  }

-- the node and the pool are as they were
pub found_stays : (old new : CoreState) (had has : TakenNode) (found : Found) → IsLaterAt old had new has → new.pool ≡ old.pool → IsSameNode old new had has → IsFoundAt old had found → IsFoundAt new has found
found_stays old new had has found l pool same h =
    let box : box_of new.tree has ≡ box_of old.tree had = ap (λ (r : Region). r.box) same.region in
    subst (λ b. IsFound new b has.bound found) (sym box)
    (subst (λ (n : TakenNode). IsFound new (box_of old.tree had) n.bound found) (sym same.node)
    (found_later old new l.later pool (box_of old.tree had) had.bound found h))

pub open_stays : (old new : CoreState) (had has : TakenNode) → IsLaterAt old had new has → IsSameNode old new had has → IsOpenNode old had → IsOpenNode new has
open_stays old new had has l same h = open_after old new had has l same.region h

pub some_map : {A B : Type 0} (p : Option A) (f : A → B) (Q : B → Type 0) → IfSome (option_map f p) Q → IfSome p (λ a. Q (f a))
some_map None f Q h = tt
some_map (Some a) f Q h = h

-- the point that was found has a value for each column
pub found_long : (core : CoreState) (node : TakenNode) (found : Found) → IsWellFormed (reduced_of core) → IsAtWork core node → IsFoundAt core node found → IfSome (point_of found) (λ values. length values ≡ columns (reduced_of core))
found_long core node found formed at_work h =
    subst (λ (n : ℕ). IfSome (point_of found) (λ values. length values ≡ n))
    (sym (ap (λ (r : Region). length r.box) at_work.region) ∙ work_long core node formed at_work) h.long

-- ---- by what handlers said

pub decided : (old new : CoreState) (had has : TakenNode) (found : Found) (verdict : Verdict) → IsLaterAt old had new has → IsOpenNode old had → IsFoundAt old had found → IsVerdict old new had has verdict → IsReachedIf new has (reached_by found verdict)
decided old new had has found said.Quiet l o f v = (open_stays old new had has l v.same o, found_stays old new had has found l v.pool v.same f)
decided old new had has found said.Emptied l o f v = v
decided old new had has found said.Changed l o f v = tt
decided old new had has found (said.Place split) l o f v = (open_stays old new had has l v.0.same o, found_stays old new had has found l v.0.pool v.0.same f, v.1)

-- ---- by what came of a round

pub found_open : (what : Came) (core : CoreState) (node : TakenNode) (found : Found) → what ≢ came.Emptied → IsFoundBy what core node found → IsFoundAt core node found
found_open came.Emptied core node found other h = absurd (other refl)
found_open came.Quiet core node found other h = h
found_open came.Accepted core node found other h = h

pub found_by : (what : Came) (core : CoreState) (node : TakenNode) (found : Found) → what ≢ came.Emptied → IsFoundAt core node found → IsFoundBy what core node found
found_by came.Emptied core node found other h = absurd (other refl)
found_by came.Quiet core node found other h = h
found_by came.Accepted core node found other h = h

-- what rounds leave is what their last linear program leaves
pub bounded_by : (what : Came) (core : CoreState) (node : TakenNode) (found : Found) → IsFoundBy what core node found → IsBounded core node (left_by what found)
bounded_by came.Emptied core node found h = h
bounded_by came.Quiet core node found h = h
bounded_by came.Accepted core node found h = h

-- it is left open where none showed that it has no improving point
pub open_by : (what : Came) (found : Found) → IsOpenBounded (left_by what found) → what ≢ came.Emptied
open_by came.Emptied found h = absurd h
open_by came.Quiet found h = λ e. cc
open_by came.Accepted found h = λ e. cc

-- ---- looks

pub seen_of : (core : CoreState) (node : TakenNode) (looked : Looked) → IsLook core node looked → IsSeen core node looked
seen_of core node look.Empty h = look_empty core node h
seen_of core node look.Leaf h = h
seen_of core node look.Open h = h

-- ---- rounds are told apart

pub points_not_cuts : rounds.Points ≢ rounds.Cuts
points_not_cuts e = cc
