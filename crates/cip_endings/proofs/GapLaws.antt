-- A gap is reached exactly where the test says so.
use Rattle.std.proofs.Common.{◌≡◌, Bool, true, false, not, ◌&&◌, Option, None, Some, refl, sym, ap, ◌∙◌, true≢false}
use Rattle.std.proofs.lemmas.Bool.{and_parts}
use Rattle.cip_rational.specs.Rational.{ℚ, ◌-ℚ◌, lt_test, le_test}
use Rattle.cip_rational.specs.Range.{difference_overflows}
use Rattle.cip_rational.proofs.Rational.Order.{test_of_lt, lt_of_test, test_of_le, le_of_test}
use Rattle.cip_search.specs.SearchEnds.{ReachesGap}
use Rattle.cip_endings.specs.Gaps.{is_near_enough, reaches_gap}

not_true : (a : Bool) → not a ≡ true → a ≡ false
not_true true e = absurd (true≢false (sym e))
not_true false e = refl

all_true : (a b c : Bool) → a ≡ false → b ≡ true → c ≡ true → (not a && (b && c)) ≡ true
all_true a b c e f g = ap (λ t. not t && (b && c)) e ∙ (ap (λ t. t && c) f ∙ g)

pub gap_reached : (asked held bound : Option ℚ) → reaches_gap asked held bound ≡ true → ReachesGap asked held bound
gap_reached None held bound e = absurd (true≢false (sym e))
gap_reached (Some gap) None bound e = absurd (true≢false (sym e))
gap_reached (Some gap) (Some cost) None e = absurd (true≢false (sym e))
gap_reached (Some gap) (Some cost) (Some bound) e =
    let first = and_parts (not (difference_overflows cost bound)) (lt_test bound cost && le_test (cost -ℚ bound) gap) e in
    let second = and_parts (lt_test bound cost) (le_test (cost -ℚ bound) gap) first.1 in
    record {
      fits = not_true (difference_overflows cost bound) first.0;
      above = lt_of_test second.0;
      most = le_of_test second.1;
    }

pub reached_gap : (asked held bound : Option ℚ) → ReachesGap asked held bound → reaches_gap asked held bound ≡ true
reached_gap None held bound r = absurd r
reached_gap (Some gap) None bound r = absurd r
reached_gap (Some gap) (Some cost) None r = absurd r
reached_gap (Some gap) (Some cost) (Some bound) r =
    all_true (difference_overflows cost bound) (lt_test bound cost) (le_test (cost -ℚ bound) gap) r.fits (test_of_lt r.above) (test_of_le r.most)

-- the test, where the difference is in range
pub near_is : (gap cost bound difference : ℚ) (lt le : Bool) → difference_overflows cost bound ≡ false → difference ≡ cost -ℚ bound → lt ≡ lt_test bound cost → le ≡ le_test difference gap → is_near_enough gap cost bound ≡ (lt && le)
near_is gap cost bound difference lt le e f g h =
    ap (λ t. not t && (lt_test bound cost && le_test (cost -ℚ bound) gap)) e
    ∙ (ap (λ t. t && le_test (cost -ℚ bound) gap) (sym g) ∙ ap (λ t. lt && t) (ap (λ d. le_test d gap) (sym f) ∙ sym h))
