-- The examples, worked out by the laws.
use Rattle.std.proofs.Common.{◌≡◌, ℕ, ◌+◌, ◌^◌, ◌<◌, lit<, lit≤, true, false, not, is_some, pos, negsuc, List, [], ◌∷◌, None, Some, refl, sym, ap, ◌∙◌, arith}
use Rattle.cip_rational.specs.Rational.{◌+ℚ◌, ◌-ℚ◌, ◌*ℚ◌, zeroℚ, oneℚ, negate, integer, ratio, inverse}
use Rattle.cip_rational.proofs.Rational.Ring.{one-*ℚ, zero-+ℚ, one_is, zero_is, integer_is, same_whole}
use Rattle.cip_rational.proofs.Rational.Inverse.{inverse_unique}
use Rattle.cip_rational.proofs.Rational.Ratio.{ratio-add, ratio-mul, ratio_same, ratio-negate, integer_ratio}
use Rattle.cip_rational.proofs.Linear.{linear_same}
use Rattle.cip_rational.proofs.Tried as tried
use Rattle.cip_problem.specs.Program.{Sides}
use Rattle.cip_problem.specs.Box.{sides_at}
use Rattle.cip_bland.specs.Dictionary.{Dictionary, size, stand, is_basic, entry, cost_entry, value, standing_value, Stands}
use Rattle.cip_bland.specs.Exchange.{pivot, entering, step, CanExchange}
use Rattle.cip_bland.specs.Operations.{first_overflow, value_place}
use Rattle.cip_bland.specs.FirstState.{first, first_operations}
use Rattle.cip_bland.specs.DictionaryExamples.{from, small, turned, large, Examples}
use Rattle.cip_bland.specs.declared.moves.Stand.TheVariants.{Low}
use Rattle.cip_bland.specs.declared.places.Line.TheVariants.{Row}
use Rattle.cip_bland.proofs.Kept.{exchanges_keep}
use Rattle.cip_bland.proofs.Forms.{solved_absent, solved_kept, substituted_kept, absent_entering, absent_other}
use Rattle.cip_bland.proofs.Values.{moved_here}
use Rattle.cip_bland.proofs.Zeros.{is_zero_false, product_first}
use Rattle.cip_bland.proofs.States.{exchanged-sides, entered-entry, exchanged-cost_entry, exchanged-value, exchanged-cost, left_stand, entered_stand}
use Rattle.cip_bland.proofs.First.{first_states_tell, first-size, first-entry, first-cost_entry, first-value, first-stand}

-- ---- the numbers

two : integer (pos 2) ≡ ratio (pos 2) 1
two = sym (integer_ratio (pos 2))

one : oneℚ ≡ ratio (pos 1) 1
one = one_is ∙ sym (integer_is (pos 1)) ∙ sym (integer_ratio (pos 1))

half : inverse (integer (pos 2)) ≡ ratio (pos 1) 2
half =
    inverse_unique (integer (pos 2)) (ratio (pos 1) 2)
    (ap (λ q. q *ℚ ratio (pos 1) 2) two ∙ ratio-mul (pos 2) (pos 1) 1 2 (lit< tt) (lit< tt)
    ∙ ratio_same (pos 2) (pos 1) 2 1 (lit< tt) (lit< tt) refl ∙ sym one)

three_halves : negate (integer (negsuc 2)) *ℚ ratio (pos 1) 2 ≡ ratio (pos 3) 2
three_halves =
    ap (λ q. q *ℚ ratio (pos 1) 2) (ap negate (sym (integer_ratio (negsuc 2))) ∙ ratio-negate (negsuc 2) 1)
    ∙ ratio-mul (pos 3) (pos 1) 1 2 (lit< tt) (lit< tt)

five_halves : oneℚ +ℚ ratio (pos 3) 2 ≡ ratio (pos 5) 2
five_halves = ap (λ q. q +ℚ ratio (pos 3) 2) one ∙ ratio-add (pos 1) (pos 3) 1 2 (lit< tt) (lit< tt)

not_zero : (n : ℕ) → 0 < n → ¬ (integer (pos n) ≡ zeroℚ)
not_zero n h e = let same : n + 0 ≡ 0 + 0 = same_whole n 0 0 0 (sym (integer_is (pos n)) ∙ e ∙ zero_is) in omega (arith, h, same)

-- ---- the first state

d : Dictionary
d = first small

long : size d ≡ 3
unfolding d
long = first-size small

entry_x : entry d 2 0 ≡ integer (pos 2)
unfolding d
entry_x = first-entry small 2 0 (lit< tt) (lit≤ tt) (lit< tt)

entry_y : entry d 2 1 ≡ integer (negsuc 2)
unfolding d
entry_y = first-entry small 2 1 (lit< tt) (lit≤ tt) (lit< tt)

cost_x : cost_entry d 0 ≡ oneℚ
unfolding d
cost_x = first-cost_entry small 0 (lit< tt)

cost_y : cost_entry d 1 ≡ oneℚ
unfolding d
cost_y = first-cost_entry small 1 (lit< tt)

y_is_nonbasic : is_basic d 1 ≡ false
unfolding d
y_is_nonbasic = ap (λ s. not (is_some s)) (first-stand small 1 (lit< tt))

x_is_nonbasic : is_basic d 0 ≡ false
unfolding d
x_is_nonbasic = ap (λ s. not (is_some s)) (first-stand small 0 (lit< tt))

r_is_basic : is_basic d 2 ≡ true
unfolding d
r_is_basic = ap (λ s. not (is_some s)) (first-stand small 2 (lit< tt))

low_of_r : sides_at d.sides 2 ≡ from oneℚ
unfolding d first
low_of_r = refl

value_x : value d 0 ≡ zeroℚ
unfolding d
value_x = first-value small 0 (lit< tt)

value_r : value d 2 ≡ zeroℚ
unfolding d
value_r =
    first-value small 2 (lit< tt)
    ∙ linear_same [] (λ s w. let m = s.products tt in omega arith)

cost_d : d.cost ≡ zeroℚ
unfolding d first
cost_d = linear_same [] (λ s w. let m = s.products tt in omega arith)

-- ---- the exchange

can : CanExchange d 2 0 Low
can = record {
  leaving = omega (arith, long);
  basic = r_is_basic;
  entering = omega (arith, long);
  nonbasic = x_is_nonbasic;
  nonzero = λ (e : entry d 2 0 ≡ zeroℚ). not_zero 2 (omega arith) (sym entry_x ∙ e);
  can_stand = ap (λ (s : Sides). is_some s.low) low_of_r;
}

pivot_is : pivot d 2 0 ≡ ratio (pos 1) 2
pivot_is = ap inverse entry_x ∙ half

on_r : entry turned 0 2 ≡ ratio (pos 1) 2
unfolding d
on_r = entered-entry d 2 0 Low 2 (λ (e : 0 ≡ 2). omega (arith, e)) (omega (arith, long)) (omega (arith, long)) ∙ pivot_is

on_x : entry turned 0 0 ≡ zeroℚ
unfolding d
on_x =
    entered-entry d 2 0 Low 0 (λ (e : 0 ≡ 2). omega (arith, e)) (omega (arith, long)) (omega (arith, long))
    ∙ solved_absent (is_basic d) 2 0 (pivot d 2 0) (entry d 2) 0 (λ (e : 0 ≡ 2). omega (arith, e)) (absent_entering (is_basic d) 0)

entering_y : entering d 2 0 1 ≡ ratio (pos 3) 2
entering_y =
    solved_kept (is_basic d) 2 0 (pivot d 2 0) (entry d 2) 1 (λ (e : 1 ≡ 2). omega (arith, e)) (absent_other (is_basic d) 0 1 y_is_nonbasic (λ (e : 1 ≡ 0). omega (arith, e)))
    ∙ ap (λ q. negate q *ℚ pivot d 2 0) entry_y ∙ ap (λ q. negate (integer (negsuc 2)) *ℚ q) pivot_is ∙ three_halves

on_y : entry turned 0 1 ≡ ratio (pos 3) 2
unfolding d
on_y =
    entered-entry d 2 0 Low 1 (λ (e : 0 ≡ 2). omega (arith, e)) (omega (arith, long)) (omega (arith, long))
    ∙ entering_y

cost_on_r : cost_entry turned 2 ≡ ratio (pos 1) 2
unfolding d
cost_on_r =
    exchanged-cost_entry d 2 0 Low 2 (omega (arith, long))
    ∙ ap (λ q. q *ℚ pivot d 2 0) cost_x ∙ one-*ℚ (pivot d 2 0) ∙ pivot_is

cost_on_y : cost_entry turned 1 ≡ ratio (pos 5) 2
unfolding d
cost_on_y =
    exchanged-cost_entry d 2 0 Low 1 (omega (arith, long))
    ∙ substituted_kept (is_basic d) 2 0 (pivot d 2 0) (entering d 2 0) (cost_entry d) 1 (λ (e : 1 ≡ 2). omega (arith, e)) (absent_other (is_basic d) 0 1 y_is_nonbasic (λ (e : 1 ≡ 0). omega (arith, e)))
    ∙ rw (cost_x, cost_y, entering_y) (ap (λ q. oneℚ +ℚ q) (one-*ℚ (ratio (pos 3) 2)) ∙ five_halves)

step_is : step d 2 0 Low ≡ ratio (pos 1) 2
step_is =
    ap (λ (s : Sides). (standing_value s Low -ℚ value d 2) *ℚ pivot d 2 0) low_of_r
    ∙ ap (λ q. (oneℚ -ℚ q) *ℚ pivot d 2 0) value_r
    ∙ ap (λ q. q *ℚ pivot d 2 0) (linear_same (oneℚ ∷ []) (λ s w. omega arith))
    ∙ one-*ℚ (pivot d 2 0) ∙ pivot_is

value_of_x : value turned 0 ≡ ratio (pos 1) 2
unfolding d
value_of_x =
    exchanged-value d 2 0 Low 0 (omega (arith, long)) ∙ moved_here d 0 (step d 2 0 Low)
    ∙ rw (value_x, step_is) (zero-+ℚ (ratio (pos 1) 2))

value_of_r : value turned 2 ≡ oneℚ
unfolding d
value_of_r =
    let kept = exchanges_keep d 2 0 Low (first_states_tell small).consistent can in
    let at : Stands turned 2 Low = kept.consistent.stands 2 Low (rw (exchanged-sides d 2 0 Low) (omega (arith, long))) (left_stand d 2 0 Low (omega (arith, long))) in
    at.has_value ∙ ap (λ (s : List Sides). standing_value (sides_at s 2) Low) (exchanged-sides d 2 0 Low) ∙ ap (λ (s : Sides). standing_value s Low) low_of_r

cost_is : turned.cost ≡ ratio (pos 1) 2
unfolding d
cost_is =
    exchanged-cost d 2 0 Low
    ∙ rw (cost_d, cost_x, step_is) (ap (λ q. zeroℚ +ℚ q) (one-*ℚ (ratio (pos 1) 2)) ∙ zero-+ℚ (ratio (pos 1) 2))

r_is_low : stand turned 2 ≡ Some Low
unfolding d
r_is_low = left_stand d 2 0 Low (omega (arith, long))

x_is_basic : stand turned 0 ≡ None
unfolding d
x_is_basic = entered_stand d 2 0 Low (λ (e : 0 ≡ 2). omega (arith, e)) (omega (arith, long))

-- ---- the large program

too_large : first_overflow (first_operations large) ≡ Some (value_place (Row 1))
too_large =
    product_first (value_place (Row 1)) zeroℚ (integer (pos (2 ^ 64))) (integer (pos (2 ^ 63))) _
    (is_zero_false (integer (pos (2 ^ 64))) (not_zero (2 ^ 64) (lit< tt))) (is_zero_false (integer (pos (2 ^ 63))) (not_zero (2 ^ 63) (lit< tt))) tried.large_product

pub examples : Examples
examples = record {
  on_r = on_r;
  on_x = on_x;
  on_y = on_y;
  cost_on_r = cost_on_r;
  cost_on_y = cost_on_y;
  value_of_x = value_of_x;
  value_of_r = value_of_r;
  cost = cost_is;
  r_is_low = r_is_low;
  x_is_basic = x_is_basic;
  too_large = too_large;
}
