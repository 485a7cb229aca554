-- Choices that are made: the points of a program are those of the programs that are left.
use Rattle.std.proofs.Common.{◌≡◌, inl, inr, ℕ, zero, suc, Bool, true, false, List, [], ◌∷◌, length, Option, None, Some, IfSome, IsSomeAnd, slice_get, refl, sym, ap, ◌∙◌, subst, arith, true≢false}
use Rattle.std.specs.Prelude.{IsSome}
use Rattle.cip_rational.specs.Rational.{ℚ, zeroℚ, ◌≤ℚ◌, le_test}
use Rattle.cip_rational.proofs.Rational.Order.{≤ℚ_trans, ≤ℚ_refl, ≤ℚ_of_lt, le_of_test, lt_of_le_test}
use Rattle.cip_problem.specs.Program.{Sides, Choice, Plain, Open, Off, On, Program}
use Rattle.cip_problem.specs.Box.{Between, IsInBox, sides_at}
use Rattle.cip_problem.specs.Points.{IsFeasible}
use Rattle.cip_problem.specs.WellFormed.{IsSemi, IsChoice, IsWellFormed}
use Rattle.cip_problem.specs.Choices.{choice_at, Allows, KeepsChoices, greater, open_sides, open_count, decided_box, decided, made_on}
use Rattle.cip_problem.specs.Statements.{IsDecided}
use Rattle.cip_problem.proofs.Choices.Meeting.{zero_between, zero_of_between}

-- ---- a point where the choices are made

-- choices that a point of a box keeps, one for each open column
record HasMade (choices : List Choice) (box : List Sides) (point : List ℚ) : Type 0 where
  pub on : List Bool
  pub each : length on ≡ open_count choices
  pub within : IsInBox (decided_box choices box on) point

-- a column that is plain
made_more : (choices : List Choice) (sides : Sides) (box : List Sides) (value : ℚ) (point : List ℚ) → Between sides.low sides.high value → HasMade choices box point → HasMade (Plain ∷ choices) (sides ∷ box) (value ∷ point)
made_more choices sides box value point h k = record { on = k.on; each = k.each; within = (h, k.within) }

-- a column whose choice is open
open_more : (own : Sides) (choices : List Choice) (sides : Sides) (box : List Sides) (value : ℚ) (point : List ℚ) → Allows (Open own) value → HasMade choices box point → HasMade (Open own ∷ choices) (sides ∷ box) (value ∷ point)
open_more own choices sides box value point (inl e) k = record { on = false ∷ k.on; each = ap (λ n. suc n) k.each; within = (zero_between value e, k.within) }
open_more own choices sides box value point (inr h) k = record { on = true ∷ k.on; each = ap (λ n. suc n) k.each; within = (h, k.within) }

-- where there is no column
made_past : (choices : List Choice) → HasMade choices [] []
made_past [] = record { on = []; each = refl; within = tt }
made_past (Plain ∷ choices) = let k = made_past choices in record { on = k.on; each = k.each; within = tt }
made_past (Open own ∷ choices) = let k = made_past choices in record { on = false ∷ k.on; each = ap (λ n. suc n) k.each; within = tt }
made_past (Off ∷ choices) = let k = made_past choices in record { on = k.on; each = k.each; within = tt }
made_past (On ∷ choices) = let k = made_past choices in record { on = k.on; each = k.each; within = tt }

has_made : (choices : List Choice) (box : List Sides) (point : List ℚ) → IsInBox box point → KeepsChoices choices point → HasMade choices box point
has_made [] box point h k = record { on = []; each = refl; within = h }
has_made (c ∷ cs) [] [] h k = made_past (c ∷ cs)
has_made (c ∷ cs) [] (v ∷ vs) h k = absurd h
has_made (c ∷ cs) (s ∷ ss) [] h k = absurd h
has_made (Plain ∷ cs) (s ∷ ss) (v ∷ vs) h k = made_more cs s ss v vs h.0 (has_made cs ss vs h.1 (λ column. k (suc column)))
has_made (Open own ∷ cs) (s ∷ ss) (v ∷ vs) h k = open_more own cs s ss v vs (k 0) (has_made cs ss vs h.1 (λ column. k (suc column)))
has_made (Off ∷ cs) (s ∷ ss) (v ∷ vs) h k = let m = has_made cs ss vs h.1 (λ column. k (suc column)) in record { on = m.on; each = m.each; within = (h.0, m.within) }
has_made (On ∷ cs) (s ∷ ss) (v ∷ vs) h k = let m = has_made cs ss vs h.1 (λ column. k (suc column)) in record { on = m.on; each = m.each; within = (h.0, m.within) }

pub made : (program : Program) (point : List ℚ) → IsFeasible program point → IsDecided program point
made program point f =
    let m = has_made program.choices program.bounds point f.within f.choices in
    record {
      on = m.on;
      each = m.each;
      feasible = record { within = m.within; whole = f.whole; choices = λ column. tt; rows = f.rows };
    }

-- ---- such a point is one of the program

-- a point of the box, whose values the choices allow
record IsKept (choices : List Choice) (box : List Sides) (point : List ℚ) : Type 0 where
  pub within : IsInBox box point
  pub keeps : KeepsChoices choices point

pub zero_allowed : (choice : Choice) → Allows choice zeroℚ
zero_allowed Plain = tt
zero_allowed (Open own) = inl refl
zero_allowed Off = tt
zero_allowed On = tt

-- what lies between the own sides lies between those at Open
below_greater : (high : Option ℚ) (value : ℚ) → IsSome high → IfSome high (λ side. value ≤ℚ side) → IfSome (greater (Some zeroℚ) high) (λ side. value ≤ℚ side)
below_greater None value s h = absurd (true≢false (sym s))
below_greater (Some high) value s h = tested (le_test zeroℚ high) refl
  where
    tested : (t : Bool) → le_test zeroℚ high ≡ t → IfSome (greater (Some zeroℚ) (Some high)) (λ side. value ≤ℚ side)
    tested true e = rw e h
    tested false e = rw e (≤ℚ_trans h (≤ℚ_of_lt (lt_of_le_test e)))

pub zero_below_greater : (high : Option ℚ) → IfSome (greater (Some zeroℚ) high) (λ side. zeroℚ ≤ℚ side)
zero_below_greater None = ≤ℚ_refl zeroℚ
zero_below_greater (Some high) = tested (le_test zeroℚ high) refl
  where
    tested : (t : Bool) → le_test zeroℚ high ≡ t → IfSome (greater (Some zeroℚ) (Some high)) (λ side. zeroℚ ≤ℚ side)
    tested true e = rw e (le_of_test e)
    tested false e = rw e (≤ℚ_refl zeroℚ)

above_zero : (low : Option ℚ) (value : ℚ) → IsSomeAnd low (λ side. zeroℚ ≤ℚ side) → IfSome low (λ side. side ≤ℚ value) → zeroℚ ≤ℚ value
above_zero None value s h = absurd s
above_zero (Some low) value s h = ≤ℚ_trans s h

pub own_open : (own sides : Sides) (whole : Option Bool) (value : ℚ) → IsSemi own whole sides → Between own.low own.high value → Between sides.low sides.high value
own_open own sides whole value semi h =
    subst (λ (s : Sides). Between s.low s.high value) (sym semi.open_)
    (record { above = above_zero own.low value semi.low h.above; below = below_greater own.high value semi.high h.below })

pub zero_open : (own sides : Sides) (whole : Option Bool) (value : ℚ) → IsSemi own whole sides → value ≡ zeroℚ → Between sides.low sides.high value
zero_open own sides whole value semi e =
    subst (λ (s : Sides). Between s.low s.high value) (sym semi.open_)
    (subst (λ v. Between (open_sides own).low (open_sides own).high v) (sym e) (record { above = ≤ℚ_refl zeroℚ; below = zero_below_greater own.high }))

kept_more : (choice : Choice) (choices : List Choice) (sides : Sides) (box : List Sides) (value : ℚ) (point : List ℚ) → Between sides.low sides.high value → Allows choice value → IsKept choices box point → IsKept (choice ∷ choices) (sides ∷ box) (value ∷ point)
kept_more choice choices sides box value point h a k = record { within = (h, k.within); keeps = each }
  where
    each : KeepsChoices (choice ∷ choices) (value ∷ point)
    each zero = a
    each (suc column) = k.keeps column

open_kept : (own : Sides) (choices : List Choice) (sides : Sides) (box : List Sides) (on : Bool) (whole : Option Bool) (value : ℚ) (point : List ℚ) → IsSemi own whole sides → IsInBox (decided_box (Open own ∷ []) (sides ∷ []) (on ∷ [])) (value ∷ []) → IsKept choices box point → IsKept (Open own ∷ choices) (sides ∷ box) (value ∷ point)
open_kept own choices sides box true whole value point semi h k =
    kept_more (Open own) choices sides box value point (own_open own sides whole value semi h.0) (inr h.0) k
open_kept own choices sides box false whole value point semi h k =
    let e = zero_of_between value h.0 in
    kept_more (Open own) choices sides box value point (zero_open own sides whole value semi e) (inl e) k

kept : (choices : List Choice) (wholes : ℕ → Option Bool) (box : List Sides) (on : List Bool) (point : List ℚ) → ((column : ℕ) → IsChoice (choice_at choices column) (wholes column) (sides_at box column)) → length on ≡ open_count choices → IsInBox (decided_box choices box on) point → IsKept choices box point
kept [] wholes box on point f e h = record { within = h; keeps = λ column. tt }
kept (c ∷ cs) wholes [] on [] f e h = record { within = tt; keeps = λ column. zero_allowed (choice_at (c ∷ cs) column) }
kept (c ∷ cs) wholes [] on (v ∷ vs) f e h = absurd h
kept (Plain ∷ cs) wholes (s ∷ ss) on [] f e h = absurd h
kept (Plain ∷ cs) wholes (s ∷ ss) on (v ∷ vs) f e h =
    kept_more Plain cs s ss v vs h.0 tt (kept cs (λ column. wholes (suc column)) ss on vs (λ column. f (suc column)) e h.1)
kept (Open own ∷ cs) wholes (s ∷ ss) [] point f e h = absurd (omega (arith, e))
kept (Open own ∷ cs) wholes (s ∷ ss) (o ∷ on) [] f e h = absurd h
kept (Open own ∷ cs) wholes (s ∷ ss) (o ∷ on) (v ∷ vs) f e h =
    open_kept own cs s ss o (wholes 0) v vs (f 0) (h.0, tt)
    (kept cs (λ column. wholes (suc column)) ss on vs (λ column. f (suc column)) (omega (arith, e)) h.1)
kept (Off ∷ cs) wholes (s ∷ ss) on point f e h = absurd (f 0)
kept (On ∷ cs) wholes (s ∷ ss) on point f e h = absurd (f 0)

pub feasible : (program : Program) (on : List Bool) (point : List ℚ) → IsWellFormed program → length on ≡ open_count program.choices → IsFeasible (decided program on) point → IsFeasible program point
feasible program on point formed e f =
    let k = kept program.choices (λ column. slice_get program.integral column) program.bounds on point formed.choices e f.within in
    record { within = k.within; whole = f.whole; choices = k.keeps; rows = f.rows }

-- ---- what is left is well-formed

length-decided_box : (choices : List Choice) (box : List Sides) (on : List Bool) → length (decided_box choices box on) ≡ length box
length-decided_box [] box on = refl
length-decided_box (c ∷ cs) [] on = refl
length-decided_box (Plain ∷ cs) (s ∷ ss) on = ap (λ n. suc n) (length-decided_box cs ss on)
length-decided_box (Open own ∷ cs) (s ∷ ss) [] = ap (λ n. suc n) (length-decided_box cs ss [])
length-decided_box (Open own ∷ cs) (s ∷ ss) (o ∷ on) = ap (λ n. suc n) (length-decided_box cs ss on)
length-decided_box (Off ∷ cs) (s ∷ ss) on = ap (λ n. suc n) (length-decided_box cs ss on)
length-decided_box (On ∷ cs) (s ∷ ss) on = ap (λ n. suc n) (length-decided_box cs ss on)

pub decided_formed : (program : Program) (on : List Bool) → IsWellFormed program → IsWellFormed (decided program on)
decided_formed program on formed = record {
  column_names = formed.column_names;
  integral = formed.integral;
  bounds = length-decided_box program.choices program.bounds on ∙ formed.bounds;
  row_names = formed.row_names;
  few_columns = formed.few_columns;
  few_rows = formed.few_rows;
  rows = formed.rows;
  choices = λ column. tt;
}

-- ---- the choices of a node, for each open column of the program

pub length-made_on : (own now : List Choice) → length (made_on own now) ≡ open_count own
length-made_on [] now = refl
length-made_on (Plain ∷ others) [] = length-made_on others []
length-made_on (Plain ∷ others) (choice ∷ choices) = length-made_on others choices
length-made_on (Open own ∷ others) [] = ap (λ n. suc n) (length-made_on others [])
length-made_on (Open own ∷ others) (choice ∷ choices) = ap (λ n. suc n) (length-made_on others choices)
length-made_on (Off ∷ others) [] = length-made_on others []
length-made_on (Off ∷ others) (choice ∷ choices) = length-made_on others choices
length-made_on (On ∷ others) [] = length-made_on others []
length-made_on (On ∷ others) (choice ∷ choices) = length-made_on others choices
