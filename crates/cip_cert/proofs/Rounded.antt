-- Rows are rounded exactly where each coefficient lets them, and single bounds are the implied sides, rounded inward.
use Rattle.std.proofs.Common.{◌≡◌, ℕ, suc, ◌<◌, ◌≤◌, Bool, true, false, not, cond, ◌&&◌, ◌||◌, List, [], ◌∷◌, length, Option, None, Some, Ok, IfOk, refl, sym, ap, ◌∙◌, subst, arith}
use Rattle.std.specs.Prelude.{◌↔◌}
use Rattle.cip_rational.specs.Rational.{ℚ, ◌*ℚ◌, inverse, integer, zeroℚ, lt_test, is_whole, IsWhole, floor, ceil}
use Rattle.cip_rational.specs.Range.{quotient_overflows}
use Rattle.cip_rational.proofs.Rational.Whole.{IsWhole-zero, IsWhole_of_test, test_of_IsWhole}
use Rattle.cip_frac.specs.Order.{same_rational, same_from_equal, equal_from_same}
use Rattle.cip_problem.specs.Program.{Sides}
use Rattle.cip_problem.specs.Activity.{value_at}
use Rattle.cip_problem.specs.Aggregate.{Inequality, bound_of, only, quotient_of, single_bound, implied_sides}
use Rattle.cip_problem.specs.Cuts.{CanRoundAt, CanRound}
use Rattle.cip_cert.specs.Checks.{chain, first_stop, rests_from, quotient_at, round_up_if, round_down_if, implied_low, implied_high}
use Rattle.cip_node_rules.specs.RowRules.{stops_rounding}
use Rattle.cip_cert.specs.Statements.{inward_low, inward_high}
use Rattle.cip_cert.proofs.Sums.{ok_chain, ok_cond}
use Rattle.cip_cert.proofs.Values.{one_value}
use Rattle.cip_cert.proofs.Meaning.{first_none}

-- ---- rounding

can_round : (w : Bool) (d : ℚ) (same whole : Bool) → same_rational d zeroℚ ≡ same → is_whole d ≡ whole → (not same && (not w || not whole)) ≡ false → CanRoundAt w d
can_round w d true whole e f h =
    let z : d ≡ zeroℚ = equal_from_same d zeroℚ e in
    record { coefficient_whole = subst IsWhole (sym z) IsWhole-zero; column_whole = λ other. absurd (other z) }
can_round true d false true e f h = record { coefficient_whole = IsWhole_of_test d f; column_whole = λ _. refl }
can_round true d false false e f h = absurd (cc)
can_round false d false whole e f h = absurd (cc)

false_is_not : false ≡ true → ⊥
false_is_not k = cc

lets_round : (w : Bool) (d : ℚ) (same whole : Bool) → same_rational d zeroℚ ≡ same → is_whole d ≡ whole → CanRoundAt w d → (not same && (not w || not whole)) ≡ false
lets_round w d true whole e f h = refl
lets_round true d false true e f h = refl
lets_round true d false false e f h = absurd (false_is_not (sym f ∙ test_of_IsWhole d h.coefficient_whole))
lets_round false d false whole e f h = absurd (false_is_not (h.column_whole (λ z. false_is_not (sym e ∙ same_from_equal d zeroℚ z))))

none_first : (column : ℕ) (t : Bool) (rest : Option ℕ) → t ≡ false → rest ≡ None → cond t (Some column) rest ≡ None
none_first column true rest e f = absurd (cc)
none_first column false rest e f = f

all_can : (column : ℕ) (integral : List Bool) (ds : List ℚ) → length integral ≡ length ds → first_stop column integral ds ≡ None → CanRound integral ds
all_can column [] [] l e = tt
all_can column [] (d ∷ ds) l e = absurd (omega (arith, l))
all_can column (w ∷ ws) [] l e = absurd (omega (arith, l))
all_can column (w ∷ ws) (d ∷ ds) l e =
    let parts = first_none column (stops_rounding w d) (first_stop (suc column) ws ds) e in
    (can_round w d (same_rational d zeroℚ) (is_whole d) refl refl parts.0, all_can (suc column) ws ds (omega (arith, l)) parts.1)

none_stops : (column : ℕ) (integral : List Bool) (ds : List ℚ) → CanRound integral ds → first_stop column integral ds ≡ None
none_stops column [] ds h = refl
none_stops column (w ∷ ws) [] h = absurd h
none_stops column (w ∷ ws) (d ∷ ds) h =
    none_first column (stops_rounding w d) (first_stop (suc column) ws ds) (lets_round w d (same_rational d zeroℚ) (is_whole d) refl refl h.0) (none_stops (suc column) ws ds h.1)

pub rounds_where_it_can : (integral : List Bool) (ds : List ℚ) → length integral ≡ length ds → (first_stop 0 integral ds ≡ None) ↔ CanRound integral ds
rounds_where_it_can integral ds l = (all_can 0 integral ds l, none_stops 0 integral ds)

-- ---- single bounds

low_some : (whole : Bool) (q r : ℚ) → q ≡ r → Some (round_up_if whole q) ≡ inward_low whole (Some r)
low_some true q r e = ap (λ t. Some (integer (ceil t))) e
low_some false q r e = ap Some e

low_none : (whole : Bool) → None ≡ inward_low whole None
low_none true = refl
low_none false = refl

high_some : (whole : Bool) (q r : ℚ) → q ≡ r → Some (round_down_if whole q) ≡ inward_high whole (Some r)
high_some true q r e = ap (λ t. Some (integer (floor t))) e
high_some false q r e = ap Some e

high_none : (whole : Bool) → None ≡ inward_high whole None
high_none true = refl
high_none false = refl

quotient_is : (column : ℕ) (b d : ℚ) → IfOk (quotient_at column b d) (λ q. q ≡ b *ℚ inverse d)
quotient_is column b d = ok_cond (λ q. q ≡ b *ℚ inverse d) (quotient_overflows b d) _ _ (λ _. tt) (λ _. refl)

module _ (row : Inequality) (box : List Sides) (column : ℕ) (whole : Bool) where
  IsBound : ℚ → Type 0
  IsBound b = bound_of row (only column (value_at row.coefficients column)) box ≡ Some b

  low_at : (b : ℚ) → IsBound b → IfOk (implied_low column whole (value_at row.coefficients column) b) (λ side. side ≡ inward_low whole (implied_sides row box column).low)
  unfolding IsBound
  low_at b e =
      let own = value_at row.coefficients column in
      ok_cond (λ side. side ≡ inward_low whole (implied_sides row box column).low) (lt_test zeroℚ own) _ _
      (λ positive.
      let side : (implied_sides row box column).low ≡ Some (b *ℚ inverse own) =
      ap (λ t. cond t (single_bound row box column) None) positive ∙ ap (λ o. quotient_of o own) e in
      ok_chain (λ q. q ≡ b *ℚ inverse own) (λ side. side ≡ inward_low whole (implied_sides row box column).low) (quotient_at column b own) (λ q. Ok (Some (round_up_if whole q))) (quotient_is column b own)
      (λ q f. low_some whole q (b *ℚ inverse own) f ∙ ap (inward_low whole) (sym side)))
      (λ other. low_none whole ∙ ap (λ t. inward_low whole (cond t (single_bound row box column) None)) (sym other))

  high_at : (b : ℚ) → IsBound b → IfOk (implied_high column whole (value_at row.coefficients column) b) (λ side. side ≡ inward_high whole (implied_sides row box column).high)
  unfolding IsBound
  high_at b e =
      let own = value_at row.coefficients column in
      ok_cond (λ side. side ≡ inward_high whole (implied_sides row box column).high) (lt_test own zeroℚ) _ _
      (λ negative.
      let side : (implied_sides row box column).high ≡ Some (b *ℚ inverse own) =
      ap (λ t. cond t (single_bound row box column) None) negative ∙ ap (λ o. quotient_of o own) e in
      ok_chain (λ q. q ≡ b *ℚ inverse own) (λ side. side ≡ inward_high whole (implied_sides row box column).high) (quotient_at column b own) (λ q. Ok (Some (round_down_if whole q))) (quotient_is column b own)
      (λ q f. high_some whole q (b *ℚ inverse own) f ∙ ap (inward_high whole) (sym side)))
      (λ other. high_none whole ∙ ap (λ t. inward_high whole (cond t (single_bound row box column) None)) (sym other))

  module _ (long : length box ≤ length row.coefficients) (inside : column < length box) where
    pub low_is : IfOk (chain (rests_from (Some column) 0 row.least row.coefficients box) (implied_low column whole (value_at row.coefficients column))) (λ side. side ≡ inward_low whole (implied_sides row box column).low)
    unfolding IsBound
    low_is = ok_chain IsBound _ _ _ (one_value row box column long inside) low_at

    pub high_is : IfOk (chain (rests_from (Some column) 0 row.least row.coefficients box) (implied_high column whole (value_at row.coefficients column))) (λ side. side ≡ inward_high whole (implied_sides row box column).high)
    unfolding IsBound
    high_is = ok_chain IsBound _ _ _ (one_value row box column long inside) high_at
