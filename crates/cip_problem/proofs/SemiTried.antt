-- The definitions tried on a program with a semi-continuous column.
use Rattle.std.proofs.Common.{◌≡◌, ℕ, zero, suc, ◌<◌, pos, true, false, [], ◌∷◌, None, Some, Contains, inl, inr, ◌⊎◌, refl, sym, ap, ◌∙◌, subst, arith, lit<, lit≤, true≢false, slice_get}
use Rattle.std.proofs.lemmas.List.Elements.{All-from_recursion}
use Rattle.std.proofs.lemmas.Option.{same_Some}
use Rattle.cip_rational.specs.Rational.{whole, zeroℚ, le_test, ◌≤ℚ◌, ◌<ℚ◌}
use Rattle.cip_rational.proofs.Rational.Order.{≤ℚ_refl, ≤ℚ_of_eq, test_of_le, le_test_of_lt}
use Rattle.cip_rational.proofs.Rational.Ring.{zero_is}
use Rattle.cip_rational.proofs.Rational.Monotone.{whole_le, le_whole, whole_lt}
use Rattle.cip_rational.proofs.Linear.{linear_le, linear_same}
use Rattle.cip_problem.specs.Program.{Sides}
use Rattle.cip_problem.specs.Activity.{activity, StandsBelow}
use Rattle.cip_problem.specs.Box.{Between, sides_at}
use Rattle.cip_problem.specs.Choices.{choice_at, KeepsChoices}
use Rattle.cip_problem.specs.Points.{IsFeasible, cost_of}
use Rattle.cip_problem.specs.WellFormed.{IsChoice, IsWellFormed}
use Rattle.cip_problem.specs.Wholes.{AllHaveWholes}
use Rattle.cip_problem.specs.Log.{Node, Split, root, low_node, high_node, leaf_count, CanSplitAt, CanSplit, IsLog, IsOpen}
use Rattle.cip_problem.specs.Examples.{closed, two_to_five, semi_example, at_x, off_and_on, off_node, on_node}
use Rattle.cip_problem.proofs.Tried.{not_in_nothing, not_the_only}

-- ---- tests of numbers

zero_le : (n : ℕ) → le_test zeroℚ (whole n 0) ≡ true
zero_le n = test_of_le (subst (λ t. t ≤ℚ whole n 0) (sym zero_is) (whole_le 0 0 n 0 (omega arith)))

five_not_le_zero : le_test (whole 5 0) zeroℚ ≡ false
five_not_le_zero = le_test_of_lt (subst (λ t. t <ℚ whole 5 0) (sym zero_is) (whole_lt 0 0 5 0 (omega arith)))

five_le : le_test (whole 5 0) (whole 5 0) ≡ true
five_le = test_of_le (≤ℚ_refl (whole 5 0))

zero_le_zero : le_test zeroℚ zeroℚ ≡ true
zero_le_zero = test_of_le (≤ℚ_refl zeroℚ)

-- ---- the program

choices_formed : (column : ℕ) → IsChoice (choice_at semi_example.choices column) (slice_get semi_example.integral column) (sides_at semi_example.bounds column)
choices_formed zero = record {
  continuous = refl;
  low = subst (λ t. t ≤ℚ whole 2 0) (sym zero_is) (whole_le 0 0 2 0 (omega arith));
  high = refl;
  open_ = rw (zero_le 5) refl;
}
choices_formed (suc column) = tt

one_term : StandsBelow 1 (record { column = 0; coefficient = whole 1 0 } ∷ [])
one_term = All-from_recursion (λ t. t.column < 1) (record { column = 0; coefficient = whole 1 0 } ∷ []) (lit< tt, tt)

pub well_formed : IsWellFormed semi_example
well_formed = record {
  column_names = refl;
  integral = refl;
  bounds = refl;
  row_names = refl;
  few_columns = lit≤ tt;
  few_rows = lit≤ tt;
  rows = All-from_recursion (λ row. StandsBelow 1 row.terms) semi_example.rows (one_term, tt);
  choices = choices_formed;
}

-- ---- points

two_allowed : KeepsChoices semi_example.choices (at_x (whole 2 0))
two_allowed zero = inr (record { above = ≤ℚ_refl (whole 2 0); below = whole_le 2 0 5 0 (omega arith) })
two_allowed (suc column) = tt

pub feasible : IsFeasible semi_example (at_x (whole 2 0))
feasible = record {
  within = (record { above = subst (λ t. t ≤ℚ whole 2 0) (sym zero_is) (whole_le 0 0 2 0 (omega arith)); below = whole_le 2 0 5 0 (omega arith) }, tt);
  whole = (λ e. absurd (true≢false (sym e)), tt);
  choices = two_allowed;
  rows = (record { above = linear_le [] (λ s w. omega arith); below = tt }, tt);
}

pub cost : cost_of semi_example (at_x (whole 2 0)) ≡ whole 2 0
cost = linear_same [] (λ s w. omega arith)

nothing : activity (record { column = 0; coefficient = whole 1 0 } ∷ []) (at_x zeroℚ) ≡ whole 0 0
nothing = linear_same [] (λ s w. omega arith)

pub row_broken : ¬ IsFeasible semi_example (at_x zeroℚ)
row_broken h = absurd (omega (arith, le_whole 1 0 0 0 (subst (λ t. whole 1 0 ≤ℚ t) nothing h.rows.0.above)))

one_not_allowed : ¬ ((whole 1 0 ≡ zeroℚ) ⊎ Between two_to_five.low two_to_five.high (whole 1 0))
one_not_allowed (inl e) = absurd (omega (arith, le_whole 1 0 0 0 (≤ℚ_of_eq (e ∙ zero_is))))
one_not_allowed (inr b) = absurd (omega (arith, le_whole 2 0 1 0 b.above))

pub neither : ¬ IsFeasible semi_example (at_x (whole 1 0))
neither h = one_not_allowed (h.choices 0)

pub leaves : leaf_count semi_example.integral (root semi_example) ≡ Some 2
leaves = refl

-- ---- logs

pub off : record (low_node (root semi_example) 0 (pos 0)) { number = 1; bound = None } ≡ off_node
off = rw (zero_le_zero, five_not_le_zero) refl

pub on : record (high_node (root semi_example) 0 (pos 0)) { number = 2; bound = None } ≡ on_node
on = rw (zero_le 2, five_le) refl

no_wholes : (sides : Sides) → AllHaveWholes (false ∷ []) (sides ∷ [])
no_wholes sides = (λ e. absurd (true≢false (sym e)), tt)

can_split : CanSplit semi_example.integral (root semi_example) 0 (pos 0)
can_split = record { kind = refl; low = no_wholes _; high = no_wholes _ }

pub choice_made : IsLog semi_example (off_and_on ∷ closed 1 ∷ [])
choice_made = (
  record {
    node = root semi_example;
    given_before = refl;
    once = not_in_nothing 0;
    right = (can_split, refl, refl, λ e. absurd (omega (arith, e)));
  },
  (
    record {
      node = off_node;
      given_before = ap Some off;
      once = not_the_only 0 1 (λ e. absurd (omega (arith, e)));
      right = tt;
    },
    tt,
  ),
)

not_those : ¬ Contains {X = ℕ} (0 ∷ 1 ∷ []) 2
not_those (zero, h, k) = absurd (omega (arith, k))
not_those (suc zero, h, k) = absurd (omega (arith, k))
not_those (suc (suc j), h, k) = absurd (omega (arith, h))

pub on_open : IsOpen semi_example (off_and_on ∷ closed 1 ∷ []) on_node
on_open = record { given = ap Some on; not_taken = not_those }

not_again : (node : Node) → off_node ≡ node → ¬ CanSplitAt (choice_at node.choices 0) (Some false)
not_again node e h = subst (λ (n : Node). CanSplitAt (choice_at n.choices 0) (Some false)) (sym e) h

pub made_twice : ¬ IsLog semi_example (off_and_on ∷ record { node = 1; bound = None; end = Split 0 (pos 0) 3 4 } ∷ [])
made_twice h = not_again h.1.0.node (sym off ∙ same_Some _ _ h.1.0.given_before) h.1.0.right.0.kind
