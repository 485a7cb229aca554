-- Points in boxes that mirror each other: a feasible point of the program lies in the one where a point near it lies in
-- the other; and a point of the reduced program comes back as one there.
use Rattle.std.proofs.Common.{◌≡◌, ◌⊎◌, inl, inr, ℕ, ◌<◌, false, List, length, Option, None, Some, IfSome, sym, ◌∙◌, subst, arith}
use Rattle.std.proofs.lemmas.Bool.{cases_Bool}
use Rattle.cip_rational.specs.Rational.{ℚ, ◌≤ℚ◌, ◌<ℚ◌}
use Rattle.cip_rational.proofs.Rational.Order.{≤ℚ_trans, <ℚ_of_le_of_lt}
use Rattle.cip_problem.specs.Program.{Sides, Choice, Program}
use Rattle.cip_problem.specs.Activity.{value_at}
use Rattle.cip_problem.specs.Box.{Between, IsInBox, sides_at}
use Rattle.cip_problem.specs.Choices.{choice_at, is_open}
use Rattle.cip_problem.specs.Points.{IsFeasible, cost_of}
use Rattle.cip_problem.proofs.Points.AtPlaces.{in_box_at, IsInBox-long}
use Rattle.cip_problem.specs.Improving.{IsImproving, IsBoundIn}
use Rattle.cip_problem.specs.Reduced.{IsRelaxed}
use Rattle.cip_search.specs.Pairs.{IsHeldFast, HasNear, IsPair}
use Rattle.cip_search.proofs.SeenColumns.{in_box, of_one, of_none, is_place}
use Rattle.cip_search.proofs.Agreeing.{agree_there, agree_back}
use Rattle.cip_search.proofs.Mirrors.{Mirrors}

module _ (program reduced : Program) (post : List ℚ → List ℚ) (kept : ℕ → ℕ) (pair : IsPair program reduced post kept) (box : List Sides) (choices : List Choice) (other : List Sides) (others : List Choice) (mirror : Mirrors program reduced kept box choices other others) where
  -- a point in the box of the program, where it lies in this at each column of the reduced program, and in the
  -- program's own at the others
  in_other : (point : List ℚ) → IsInBox program.bounds point → ((column : ℕ) → column < length reduced.bounds → Between (sides_at other (kept column)).low (sides_at other (kept column)).high (value_at point (kept column))) → IsInBox other point
  in_other point h f =
      let l = mirror.other_long in
      in_box other point (IsInBox-long program.bounds point h ∙ sym l)
      (λ column k. elim (is_place kept (length reduced.bounds) column) [
        | of_one own i e ↦ subst (λ c. Between (sides_at other c).low (sides_at other c).high (value_at point c)) e (f own i)
        | of_none g ↦ subst (λ (s : Sides). Between s.low s.high (value_at point column)) (sym (mirror.apart column g)) (in_box_at program.bounds point column h)
      ])

  -- ---- points near each other

  module _ (point : List ℚ) (feasible : IsFeasible program point) (n : HasNear program reduced kept point) where
    base : (column : ℕ) → Between (sides_at reduced.bounds column).low (sides_at reduced.bounds column).high (value_at n.other column)
    base column = in_box_at reduced.bounds n.other column n.feasible.within

    own_base : (column : ℕ) → Between (sides_at program.bounds column).low (sides_at program.bounds column).high (value_at point column)
    own_base column = in_box_at program.bounds point column feasible.within

    -- equal values, or a column held fast that isn't semi-continuous
    same_or_held : (column : ℕ) → column < length reduced.bounds → (value_at n.other column ≡ value_at point (kept column)) ⊎ ((is_open (choice_at reduced.choices column) ≡ false) × IsHeldFast reduced column)
    same_or_held column l = elim (n.near column l) [
      | inl e ↦ inl e
      | inr h ↦ elim (cases_Bool (is_open (choice_at reduced.choices column))) [
        | inl o ↦ inl (n.semi column l o)
        | inr o ↦ inr (o, h)
      ]
    ]

    inward_at : (column : ℕ) → column < length reduced.bounds → Between (sides_at other (kept column)).low (sides_at other (kept column)).high (value_at point (kept column)) → Between (sides_at box column).low (sides_at box column).high (value_at n.other column)
    inward_at column l h = elim (same_or_held column l) [
      | inl e ↦
          agree_back (sides_at reduced.bounds column) (sides_at box column) (sides_at other (kept column)) (value_at n.other column) (mirror.agree column l) (base column)
          (subst (Between (sides_at other (kept column)).low (sides_at other (kept column)).high) (sym e) h)
      | inr k ↦ subst (λ (s : Sides). Between s.low s.high (value_at n.other column)) (sym (mirror.held column l k.0 k.1).0) (base column)
    ]

    pub inward : IsInBox other point → IsInBox box n.other
    inward h =
        let l = mirror.long in
        in_box box n.other (IsInBox-long reduced.bounds n.other n.feasible.within ∙ sym l)
        (λ column k. inward_at column (omega (arith, k, l)) (in_box_at other point (kept column) h))

    outward_at : (column : ℕ) → column < length reduced.bounds → Between (sides_at box column).low (sides_at box column).high (value_at n.other column) → Between (sides_at other (kept column)).low (sides_at other (kept column)).high (value_at point (kept column))
    outward_at column l h = elim (same_or_held column l) [
      | inl e ↦
          subst (Between (sides_at other (kept column)).low (sides_at other (kept column)).high) e
          (agree_there (sides_at reduced.bounds column) (sides_at box column) (sides_at other (kept column)) (value_at n.other column) (mirror.agree column l) h)
      | inr k ↦ subst (λ (s : Sides). Between s.low s.high (value_at point (kept column))) (sym (mirror.held column l k.0 k.1).1) (own_base (kept column))
    ]

    pub outward : IsInBox box n.other → IsInBox other point
    outward h = in_other point feasible.within (λ column l. outward_at column l (in_box_at box n.other column h))

  -- ---- points that come back

  pub comes_back : (point : List ℚ) → IsRelaxed reduced point → IsInBox box point → IsInBox other (post point)
  comes_back point r h =
      in_other (post point) (pair.relaxed point r).within
      (λ column l.
      subst (Between (sides_at other (kept column)).low (sides_at other (kept column)).high) (sym ((pair.columns column l).value point (IsInBox-long reduced.bounds point r.within)))
      (agree_there (sides_at reduced.bounds column) (sides_at box column) (sides_at other (kept column)) (value_at point column) (mirror.agree column l) (in_box_at box point column h)))

-- ---- improving points

pub still_cheaper : (held : Option ℚ) (a b : ℚ) → a ≤ℚ b → IfSome held (λ cost. b <ℚ cost) → IfSome held (λ cost. a <ℚ cost)
still_cheaper None a b l h = tt
still_cheaper (Some cost) a b l h = <ℚ_of_le_of_lt l h

pub near_improves : (program reduced : Program) (kept : ℕ → ℕ) (held : Option ℚ) (point : List ℚ) (n : HasNear program reduced kept point) → IsImproving program held point → IsImproving reduced held n.other
near_improves program reduced kept held point n i = record {
  feasible = n.feasible;
  cheaper = still_cheaper held (cost_of reduced n.other) (cost_of program point) n.no_dearer i.cheaper;
}

-- a bound of the improving points of a box holds in one that mirrors it
pub bound_there : (program reduced : Program) (post : List ℚ → List ℚ) (kept : ℕ → ℕ) (pair : IsPair program reduced post kept) (box : List Sides) (choices : List Choice) (other : List Sides) (others : List Choice) → Mirrors program reduced kept box choices other others → (held bound : Option ℚ) → IfSome bound (IsBoundIn reduced held box) → IfSome bound (IsBoundIn program held other)
bound_there program reduced post kept pair box choices other others mirror held None h = tt
bound_there program reduced post kept pair box choices other others mirror held (Some b) h = λ point i w.
    let n = pair.none_lost point i.feasible in
    ≤ℚ_trans (h n.other (near_improves program reduced kept held point n i) (inward program reduced post kept pair box choices other others mirror point i.feasible n w)) n.no_dearer
