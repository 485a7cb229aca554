-- The place of a split, by the values that its code has read.
use lib.Dec.{T}
use Rattle.std.proofs.Common.{◌≡◌, ◌∙◌, inl, inr, ℕ, ℤ, ◌+ℤ◌, ◌<ℤ◌, Bool, true, List, length, Option, None, Some, sym, ap, ap₂, subst}
use Rattle.cip_rational.specs.Rational.{ℚ, floor, ceil}
use Rattle.cip_problem.specs.Program.{Sides}
use Rattle.cip_problem.specs.Activity.{value_at}
use Rattle.cip_problem.specs.Box.{sides_at, two_wholes_between}
use Rattle.cip_node_rules.specs.OpenColumns.{is_fractional_at, IsFirstColumn, PassesNowhere}
use Rattle.cip_node_rules.specs.SplitRules.{moved, IsHalf, IsMiddle, IsAtMiddle, IsSplitRule}

pub halves_below : (low high : Option ℚ) (l h : ℚ) (x y : ℤ) → low ≡ Some l → high ≡ Some h → x ≡ ceil l → y ≡ floor h → two_wholes_between low high ≡ true → x <ℤ y
halves_below low high l h x y el eh ex ey t =
    rw (ex, ey) (record { lt = subst T (sym (ap₂ two_wholes_between (sym el) (sym eh) ∙ t)) tt })

pub middle_is : (low high : Option ℚ) (l h : ℚ) (x y r at : ℤ) → low ≡ Some l → high ≡ Some h → x ≡ ceil l → y ≡ floor h → at ≡ r → IsHalf (x +ℤ y) r → IsMiddle low high at
middle_is low high l h x y r at el eh ex ey er p =
    rw (el, eh, er) (subst (λ (sum : ℤ). IsHalf sum r) (ap₂ (λ (a b : ℤ). a +ℤ b) ex ey) p)

pub middle_of_sides : (sides own : Sides) (r at : ℤ) → sides ≡ own → at ≡ r → IsMiddle sides.low sides.high r → IsMiddle own.low own.high at
middle_of_sides sides own r at es er p =
    subst (λ (at : ℤ). IsMiddle own.low own.high at) (sym er)
    (subst (λ (sides : Sides). IsMiddle sides.low sides.high r) es p)

module _ (integral : List Bool) (box : List Sides) (point : Option (List ℚ)) where
  pub at_fraction : (values : List ℚ) (column : ℕ) (sides : Sides) (v : ℚ) (f r at : ℤ) → point ≡ Some values → IsFirstColumn (is_fractional_at integral box values) (length integral) column → sides ≡ sides_at box column → v ≡ value_at values column → f ≡ floor v → r ≡ moved sides f → at ≡ r → IsSplitRule integral box point column at
  at_fraction values column sides v f r at e first es ev ef er ea =
      let place : at ≡ moved (sides_at box column) (floor (value_at values column)) =
      ea ∙ er ∙ ap₂ moved es (ef ∙ ap floor ev) in
      subst (λ (point : Option (List ℚ)). IsSplitRule integral box point column at) (sym e)
      (inl (record { first = first; place = place }))

  pub at_middle_past : (values : List ℚ) (column : ℕ) (at : ℤ) → point ≡ Some values → PassesNowhere (is_fractional_at integral box values) (length integral) → IsAtMiddle integral box column at → IsSplitRule integral box point column at
  at_middle_past values column at e none middle =
      subst (λ (point : Option (List ℚ)). IsSplitRule integral box point column at) (sym e) (inr (none, middle))

  pub at_middle : (column : ℕ) (at : ℤ) → point ≡ None → IsAtMiddle integral box column at → IsSplitRule integral box point column at
  at_middle column at e middle =
      subst (λ (point : Option (List ℚ)). IsSplitRule integral box point column at) (sym e) middle
