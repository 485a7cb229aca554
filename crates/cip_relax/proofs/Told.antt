-- What the linear program of a node says of the improving points in its box.
use Rattle.std.proofs.Common.{List, [], ◌∷◌, Option, Some, Contains, sym, subst}
use Rattle.std.specs.List.{AllByRecursion}
use Rattle.cip_rational.specs.Rational.{ℚ, ◌+ℚ◌, ◌≤ℚ◌, integer, ceil}
use Rattle.cip_rational.specs.Sums.{dot}
use Rattle.cip_rational.proofs.Rational.Order.{not_le_of_lt, ≤ℚ_refl, ≤ℚ_trans}
use Rattle.cip_rational.proofs.Rational.Monotone.{+ℚ_mono}
use Rattle.cip_problem.specs.Program.{Sides, Row, Program}
use Rattle.cip_problem.specs.Box.{IsInBox, box_inside}
use Rattle.cip_problem.specs.Points.{IsSatisfied, cost_of}
use Rattle.cip_problem.proofs.Box.SideTests.{inner_box_holds}
use Rattle.cip_problem.specs.LinearProgram.{IsPoint, HasNoPoint}
use Rattle.cip_problem.proofs.Rays.{ray_unbounded}
use Rattle.cip_problem.specs.Improving.{IsImproving, IsBoundIn, HasNoImproving}
use Rattle.cip_problem.proofs.Log.Entering.{contains_here, contains_later}
use Rattle.cip_cert.specs.declared.rows.PoolRow.{PoolRow}
use Rattle.cip_cert.specs.Lent.{Lent}
use Rattle.cip_rows.specs.RowPools.{usable_in}
use Rattle.cip_search.specs.Relaxation.{IsRelaxedBound}
use Rattle.cip_search.proofs.Members.{kept_was_there, kept_passes, of_mapped}
use Rattle.cip_relax.specs.NodeRows.{usable_rows}
use Rattle.cip_relax.specs.Relaxing.{node_program, ShowsLeast, ShowsBound, ShowsNear, ShowsFalling}
use Rattle.cip_relax.specs.Telling.{IsValidPool, AllNodeProgramsTell}
use Rattle.cip_basis.proofs.Points.{all_appended}

all_members : {X : Type 0} (P : X → Type 0) (xs : List X) → ((x : X) → Contains xs x → P x) → AllByRecursion P xs
all_members P [] h = tt
all_members P (x ∷ xs) h = (h x (contains_here x xs), all_members P xs (λ y c. h y (contains_later x y xs c)))

module _ (program : Program) (held : Option ℚ) (lent : Lent) (box : List Sides) (v : IsValidPool program held box lent.pool) where
  usable_satisfied : (point : List ℚ) → IsImproving program held point → IsInBox box point → (row : Row) → Contains (usable_rows box lent.pool) row → IsSatisfied row point
  usable_satisfied point i w row c =
      let f = of_mapped (λ (kept : PoolRow). kept.row) (usable_in box lent.pool) row c in
      let there = kept_was_there (λ (kept : PoolRow). box_inside box kept.scope) lent.pool f.from f.among in
      let inside = kept_passes (λ (kept : PoolRow). box_inside box kept.scope) lent.pool f.from f.among in
      subst (λ r. IsSatisfied r point) f.is (v.valid f.from there point i (inner_box_holds box f.from.scope point (v.long f.from there) inside w))

  pub is_point : (point : List ℚ) → IsImproving program held point → IsInBox box point → IsPoint (node_program program lent box) point
  is_point point i w = record {
    within = w;
    rows = all_appended (λ row. IsSatisfied row point) program.rows (usable_rows box lent.pool) i.feasible.rows (all_members (λ row. IsSatisfied row point) (usable_rows box lent.pool) (usable_satisfied point i w));
  }

  pub empty : HasNoPoint (node_program program lent box) → HasNoImproving program held box
  empty h = λ point i w. h point (is_point point i w)

  with_constant : (a b : ℚ) → a ≤ℚ b → program.constant +ℚ a ≤ℚ program.constant +ℚ b
  with_constant a b l = +ℚ_mono (≤ℚ_refl program.constant) l

  pub safe : (b : ℚ) → ShowsBound program lent box b → IsBoundIn program held box b
  safe b s = λ other i w. subst (λ t. t ≤ℚ cost_of program other) (sym s.is_bound) (with_constant s.cost (dot program.costs other) (s.least other (is_point other i w)))

  pub bound : (point : List ℚ) (b : ℚ) → ShowsLeast program lent box point b → IsBoundIn program held box b
  bound point b s = safe b (record { cost = s.cost; least = s.optimal.least; is_bound = s.is_bound })

  pub relaxed : (point : List ℚ) (b : ℚ) → ShowsLeast program lent box point b → IsRelaxedBound program (usable_rows box lent.pool) box (Some b)
  relaxed point b s = record {
    feasible = record { point = point; is_point = s.optimal.is_point };
    reached = λ least c. subst (λ t. program.constant +ℚ least ≤ℚ t) (sym s.is_bound) (with_constant least s.cost (subst (λ t. least ≤ℚ t) s.optimal.cost_is (c point s.optimal.is_point)));
  }

  pub near : (point : List ℚ) (b : ℚ) → ShowsNear program lent box point b → IsRelaxedBound program (usable_rows box lent.pool) box (Some (integer (ceil b)))
  near point b s = record {
    feasible = record { point = point; is_point = s.is_point };
    reached = λ least c. ≤ℚ_trans (with_constant least (dot program.costs point) (c point s.is_point)) s.good.reached;
  }

  pub falling : (point : List ℚ) (other : Option ℚ) → ShowsFalling program lent box point → IsRelaxedBound program (usable_rows box lent.pool) box other
  falling point other s = record {
    feasible = record { point = point; is_point = s.is_point };
    reached = λ least c.
        let below = ray_unbounded (node_program program lent box) point s.ray least s.is_point s.is_ray in
        absurd (not_le_of_lt below.cheaper (c below.point below.is_point));
  }

pub told : AllNodeProgramsTell
told program held lent box e v = record {
  points = is_point program held lent box v;
  empty = empty program held lent box v;
  safe = safe program held lent box v;
  bound = bound program held lent box v;
  relaxed = relaxed program held lent box v;
  near = near program held lent box v;
  falling = falling program held lent box v;
}
