-- Bounds of the linear program of a box.
use Rattle.std.proofs.Common.{List, [], ◌∷◌, ◌++◌, Option, Some, sym, subst}
use Rattle.std.specs.List.{AllByRecursion}
use Rattle.std.proofs.lemmas.List.{append-nil}
use Rattle.cip_rational.specs.Rational.{ℚ, ◌+ℚ◌}
use Rattle.cip_problem.specs.Program.{Sides, Row, Program}
use Rattle.cip_problem.specs.Box.{IsInBox}
use Rattle.cip_problem.specs.Points.{IsSatisfied}
use Rattle.cip_search.specs.LinearProgram.{IsPoint, IsOptimal}
use Rattle.cip_search.specs.Searched.{NoMore}
use Rattle.cip_search.specs.Relaxation.{relaxation, IsRelaxedBound}
use Rattle.cip_search.proofs.Roots.{no_more}

pub all_first : {X : Type 0} (P : X → Type 0) (xs ys : List X) → AllByRecursion P (xs ++ ys) → AllByRecursion P xs
all_first P [] ys h = tt
all_first P (x ∷ xs) ys h = (h.0, all_first P xs ys h.1)

-- a point of the linear program is one with fewer rows in a wider box
wider_point : (program : Program) (rows : List Row) (inner outer : List Sides) (point : List ℚ) → ((p : List ℚ) → IsInBox inner p → IsInBox outer p) → IsPoint (relaxation program rows inner) point → IsPoint (relaxation program [] outer) point
wider_point program rows inner outer point f h = record {
  within = f point h.within;
  rows = subst (AllByRecursion (λ row. IsSatisfied row point)) (sym (append-nil program.rows)) (all_first (λ row. IsSatisfied row point) program.rows rows h.rows);
}

pub optimum : (program : Program) (rows : List Row) (box : List Sides) (bound : Option ℚ) (point : List ℚ) (cost : ℚ) → IsRelaxedBound program rows box bound → IsOptimal (relaxation program rows box) point cost → NoMore (Some (program.constant +ℚ cost)) bound
optimum program rows box bound point cost h o = h.reached cost o.least

pub greater : (program : Program) (rows : List Row) (box : List Sides) (bound more : Option ℚ) → NoMore bound more → IsRelaxedBound program rows box bound → IsRelaxedBound program rows box more
greater program rows box bound more l h = record {
  feasible = h.feasible;
  reached = λ least c. no_more (Some (program.constant +ℚ least)) bound more (h.reached least c) l;
}

pub wider : (program : Program) (rows : List Row) (inner outer : List Sides) (bound : Option ℚ) → ((point : List ℚ) → IsInBox inner point → IsInBox outer point) → IsRelaxedBound program rows inner bound → IsRelaxedBound program [] outer bound
wider program rows inner outer bound f h = record {
  feasible = record { point = h.feasible.point; is_point = wider_point program rows inner outer h.feasible.point f h.feasible.is_point };
  reached = λ least c. h.reached least (λ point k. c point (wider_point program rows inner outer point f k));
}
