-- The figures that are printed of a right answer fit the names of the program.
use Rattle.std.proofs.Common.{◌≡◌, ◌<◌, map, suc, Bool, true, false, List, [], ◌∷◌, length, Option, None, Some, IfSome, refl, sym, ap, ◌∙◌, subst, arith}
use Rattle.std.specs.Prelude.{ℕ, option_map}
use Rattle.std.proofs.lemmas.Option.{slice_get_within}
use Rattle.std.proofs.lemmas.Slice.Zip.{AllZip-long}
use Rattle.cip_rational.specs.Rational.{ℚ}
use Rattle.cip_problem.specs.Program.{Sides, Choice, Plain, Open, Off, On, Program}
use Rattle.cip_problem.specs.WellFormed.{IsChoice, IsWellFormed, columns}
use Rattle.cip_problem.specs.Choices.{choice_at, is_open, open_count, decided}
use Rattle.cip_problem.proofs.Choices.Decided.{decided_formed}
use Rattle.cip_problem.specs.Points.{printed}
use Rattle.cip_problem.proofs.Points.AtPlaces.{IsInBox-long}
use Rattle.cip_problem.specs.Log.{Entry}
use Rattle.cip_search.specs.Leaf.{at_wholes, IsWholeBetween, Leaf, IsLeafOf}
use Rattle.cip_search.specs.WideLeaf.{Shown}
use Rattle.cip_search.specs.SearchEnds.{Ended, Optimal, Infeasible, Unbounded, NodeLimit, Gap, Wide, NoMemory, Held, Answer, IsHeldPoint, EndsAs, IsSettled, EndHolds}
use Rattle.cip_search.specs.Figures.{EndFits, FitNames, names_of}
use Rattle.cip_search.specs.Printed.{IsPrintable, status_of, printed_held, figures_of}

pub none_held : {A B : Type 0} (f : A → B) (o : Option A) → o ≡ None → option_map f o ≡ None
none_held f None e = refl
none_held f (Some x) e = absurd (cc)

point_fits : (program : Program) (held : Option Held) → IsWellFormed program → IfSome held (IsHeldPoint program) → IfSome (option_map (printed_held program) held) (λ held. length held.point ≡ length (names_of program).columns)
point_fits program None formed h = tt
point_fits program (Some held) formed h = IsInBox-long program.bounds held.point h.feasible.within ∙ formed.bounds ∙ sym formed.column_names

-- as many names of whole columns as sides of such
as_many : {X Y : Type 0} (integral : List Bool) (xs : List X) (ys : List Y) → length xs ≡ length ys → length (at_wholes integral xs) ≡ length (at_wholes integral ys)
as_many [] xs ys e = refl
as_many (w ∷ ws) [] [] e = refl
as_many (w ∷ ws) [] (y ∷ ys) e = absurd (omega (arith, e))
as_many (w ∷ ws) (x ∷ xs) [] e = absurd (omega (arith, e))
as_many (true ∷ ws) (x ∷ xs) (y ∷ ys) e = ap suc (as_many ws xs ys (omega (arith, e)))
as_many (false ∷ ws) (x ∷ xs) (y ∷ ys) e = as_many ws xs ys (omega (arith, e))

-- a leaf has a value for each whole column
pub leaf_values : (program : Program) (leaf : Leaf) → IsWellFormed program → IsLeafOf program leaf → length leaf.values ≡ length (names_of program).wholes
leaf_values program leaf formed h =
    let left = decided program leaf.on in
    let long : length leaf.values ≡ length (at_wholes program.integral left.bounds) = AllZip-long IsWholeBetween (at_wholes program.integral left.bounds) leaf.values h.values in
    long ∙ as_many program.integral left.bounds program.column_names ((decided_formed program leaf.on formed).bounds ∙ sym formed.column_names)

-- choices past the last name aren't open
none_open : (choices : List Choice) → ((column : ℕ) → is_open (choice_at choices column) ≡ true → ⊥) → 0 ≡ open_count choices
none_open [] f = refl
none_open (Plain ∷ cs) f = none_open cs (λ column. f (suc column))
none_open (Open own ∷ cs) f = absurd (f 0 refl)
none_open (Off ∷ cs) f = none_open cs (λ column. f (suc column))
none_open (On ∷ cs) f = none_open cs (λ column. f (suc column))

-- as many names of open columns as open choices
open_names : {X : Type 0} (choices : List Choice) (names : List X) → ((column : ℕ) → is_open (choice_at choices column) ≡ true → column < length names) → length (at_wholes (map is_open choices) names) ≡ open_count choices
open_names [] names f = refl
open_names (c ∷ cs) [] f = none_open (c ∷ cs) (λ column e. let l = f column e in omega (arith, l))
open_names (Plain ∷ cs) (x ∷ xs) f = open_names cs xs (λ column e. let l = f (suc column) e in omega (arith, l))
open_names (Open own ∷ cs) (x ∷ xs) f = ap suc (open_names cs xs (λ column e. let l = f (suc column) e in omega (arith, l)))
open_names (Off ∷ cs) (x ∷ xs) f = open_names cs xs (λ column e. let l = f (suc column) e in omega (arith, l))
open_names (On ∷ cs) (x ∷ xs) f = open_names cs xs (λ column e. let l = f (suc column) e in omega (arith, l))

-- an open column isn't whole, and so has a place
pub open_continuous : (choice : Choice) (whole : Option Bool) (bounds : Sides) → IsChoice choice whole bounds → is_open choice ≡ true → whole ≡ Some false
open_continuous Plain whole bounds h e = absurd (cc)
open_continuous (Open own) whole bounds h e = h.continuous
open_continuous Off whole bounds h e = absurd h
open_continuous On whole bounds h e = absurd h

-- and a choice for each semi-continuous one
pub leaf_choices : (program : Program) (leaf : Leaf) → IsWellFormed program → IsLeafOf program leaf → length leaf.on ≡ length (names_of program).semis
leaf_choices program leaf formed h =
    h.each
    ∙ sym (open_names program.choices program.column_names (λ column e.
    let l = slice_get_within program.integral column false (open_continuous (choice_at program.choices column) _ _ (formed.choices column) e) in
    omega (arith, l, formed.integral, formed.column_names)))

module _ (program : Program) (box start : Option ℚ) (nodes : ℕ) (asked : Option ℚ) (log : List Entry) (answer : Answer) (formed : IsWellFormed program) where
  infeasible_held : answer.ended ≡ Infeasible → IsSettled program start nodes asked log answer → answer.held ≡ None
  infeasible_held e s = (subst (EndsAs program start nodes log answer.held) e s.ends).1

  shown_leaf : (leaf : Leaf) (shown : Shown) → answer.ended ≡ Wide leaf shown → IsSettled program start nodes asked log answer → IsLeafOf program leaf
  shown_leaf leaf shown e s = (subst (EndsAs program start nodes log answer.held) e s.ends).2.is_leaf

  end_fits : (ended : Ended) → answer.ended ≡ ended → EndHolds program start nodes asked log answer ended → ((ray : List ℚ) → ended ≡ Unbounded ray → length ray ≡ columns program) → EndFits (names_of program) (figures_of program answer) (status_of program.row_names ended)
  end_fits Optimal e h n = tt
  end_fits Infeasible e h n = (none_held (printed_held program) answer.held (infeasible_held e h), none_held (printed program) answer.bound (h.no_bound e))
  end_fits (Unbounded ray) e h n = (n ray refl ∙ sym formed.column_names, none_held (printed program) answer.bound h.no_bound)
  end_fits NodeLimit e h n = tt
  end_fits Gap e h n = tt
  end_fits (Wide leaf shown) e h n =
      let is_leaf = shown_leaf leaf shown e h in
      (leaf_values program leaf formed is_leaf, leaf_choices program leaf formed is_leaf)
  end_fits NoMemory e h n = tt

  pub fits : IsPrintable program box start nodes asked log answer → FitNames (names_of program) (figures_of program answer)
  fits p = record {
    point = point_fits program answer.held formed p.right.point;
    end_ = end_fits answer.ended refl p.right.end_ p.ray;
  }
