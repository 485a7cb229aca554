-- Crossed sides, the low one with factor 1 and the high one with factor -1, show that there is no point.
use Rattle.std.proofs.Common.{◌≡◌, ◌≢◌, ℕ, zero, suc, ◌+◌, ◌-◌, ◌<◌, Bool, true, false, nat_lt, cond, List, [], ◌∷◌, length, replicate, get_or, unwrap_or, Option, None, Some, IfSome, refl, sym, ap, ap₂, ◌∙◌, subst, inl, inr, arith}
use Rattle.std.proofs.lemmas.Bool.{true≢false, lt-ltb, le-ltb, cases_lt}
use Rattle.std.proofs.lemmas.List.Elements.{All-from_recursion}
use Rattle.std.proofs.lemmas.Option.{slice_get-get_or}
use Rattle.cip_rational.specs.Rational.{ℚ, ◌+ℚ◌, ◌*ℚ◌, negate, zeroℚ, oneℚ, ◌≤ℚ◌, ◌<ℚ◌}
use Rattle.cip_rational.proofs.Rational.Order.{≤ℚ_trans, not_le_of_lt, lt_of_test, ne_of_lt}
use Rattle.cip_rational.proofs.Linear.{linear_lt, linear_same}
use Rattle.cip_bland.specs.Program.{Term, Sides, no_row}
use Rattle.cip_bland.specs.Activity.{activity, value_at}
use Rattle.cip_bland.specs.Box.{Between, sides_at}
use Rattle.cip_problem.proofs.PassedOn.{in_box_at, satisfied_at}
use Rattle.cip_bland.specs.LinearProgram.{LinearProgram}
use Rattle.cip_bland.specs.Aggregate.{Part, table, coefficient_on, combined, aggregate, bound_of, Empties}
use Rattle.cip_bland.specs.Multipliers.{Of_row, Of_column, ArePartsOf, column_part, row_sides}
use Rattle.cip_problem.proofs.Parts.{used_low, used_high}
use Rattle.cip_problem.proofs.Aggregates.{length-table, listed, table_listed}
use Rattle.cip_problem.proofs.Certificates.{bound_of_same}
use Rattle.cip_bland.specs.Dictionary.{Dictionary, size}
use Rattle.cip_bland.specs.ProgramState.{first_of_program}
use Rattle.cip_bland.specs.Rule.{sides_cross, is_crossed}
use Rattle.cip_bland.specs.EndAnswers.{Multiple, Certificate, parts_of, crossed_certificate}
use Rattle.cip_bland.specs.Statements.{IsStateOf, ShowsNoPoint}
use Rattle.cip_bland.proofs.PointsOf.{size_is, sides_of_column, sides_of_row}
use Rattle.cip_bland.proofs.Emptiness.{no_costs}

-- ---- two sides of one sum of terms

abbrev two_parts : List Term → ℚ → ℚ → List Part
two_parts terms low high =
    record { factor = oneℚ; terms = terms; side = low } ∷ record { factor = negate oneℚ; terms = terms; side = high } ∷ []

zeros_listed : (n : ℕ) (f : ℕ → ℚ) → ((k : ℕ) → f k ≡ zeroℚ) → listed n f ≡ replicate n zeroℚ
zeros_listed zero f h = refl
zeros_listed (suc n) f h = ap₂ (λ q qs. q ∷ qs) (h 0) (zeros_listed n (λ k. f (suc k)) (λ k. h (suc k)))

zero_table : (n : ℕ) (f : ℕ → ℚ) → ((k : ℕ) → f k ≡ zeroℚ) → table n f ≡ replicate n zeroℚ
zero_table n f h = table_listed n f ∙ zeros_listed n f h

cancels : (a : ℚ) → oneℚ *ℚ a +ℚ (negate oneℚ *ℚ a +ℚ zeroℚ) ≡ zeroℚ
cancels a = linear_same (a ∷ []) (λ s w. let m = s.products tt in omega arith)

two_sides_empty : (terms : List Term) (low high : ℚ) (box : List Sides) → high <ℚ low → Empties (aggregate (length box) (two_parts terms low high)) box
two_sides_empty terms low high box h =
    let n = length box in
    let ps = two_parts terms low high in
    let least = oneℚ *ℚ low +ℚ (negate oneℚ *ℚ high +ℚ zeroℚ) in
    let zeros : table n (combined ps) ≡ replicate n zeroℚ = zero_table n (combined ps) (λ k. cancels (coefficient_on terms k)) in
    record {
      bound = least;
      is_bound =
          no_costs (aggregate n ps) box least (length-table n (combined ps))
          (ap (λ cs. bound_of (record { coefficients = cs; least = least }) (replicate n zeroℚ) box) zeros ∙ bound_of_same (replicate n zeroℚ) least box);
      positive = linear_lt (low ∷ high ∷ []) (λ s w. let m = s.products tt in omega (arith, s.lt_out));
    }

one_positive : zeroℚ <ℚ oneℚ
one_positive = linear_lt [] (λ s w. omega arith)

minus_one_negative : negate oneℚ <ℚ zeroℚ
minus_one_negative = linear_lt [] (λ s w. omega arith)

-- sides that cross, as numbers
pub record Cross (sides : Sides) : Type 0 where
  pub low : ℚ
  pub high : ℚ
  pub low_is : sides.low ≡ Some low
  pub high_is : sides.high ≡ Some high
  pub above : high <ℚ low

crossing : (low high : Option ℚ) → sides_cross low high ≡ true → Cross (record { low = low; high = high })
crossing None high e = absurd (true≢false (sym e))
crossing (Some l) None e = absurd (true≢false (sym e))
crossing (Some l) (Some h) e = record { low = l; high = h; low_is = refl; high_is = refl; above = lt_of_test e }

no_value : (sides : Sides) (x : ℚ) → Cross sides → ¬ Between sides.low sides.high x
no_value sides x c b =
    let l : c.low ≤ℚ x = subst (λ o. IfSome o (λ side. side ≤ℚ x)) c.low_is b.above in
    let h : x ≤ℚ c.high = subst (λ o. IfSome o (λ side. x ≤ℚ side)) c.high_is b.below in
    not_le_of_lt c.above (≤ℚ_trans l h)

-- ---- of a column and of a row
module _ (program : LinearProgram) where
  abbrev column_certificate : ℕ → Certificate
  column_certificate v = record { rows = []; lows = record { number = v; factor = oneℚ } ∷ []; highs = record { number = v; factor = negate oneℚ } ∷ [] }

  abbrev row_certificate : ℕ → Certificate
  row_certificate r = record { rows = record { number = r; factor = oneℚ } ∷ record { number = r; factor = negate oneℚ } ∷ []; lows = []; highs = [] }

  column_parts : (v : ℕ) (c : Cross (sides_at program.bounds v)) → parts_of program (column_certificate v) ≡ two_parts (record { column = v; coefficient = oneℚ } ∷ []) c.low c.high
  column_parts v c =
      ap₂ (λ a b. column_part v oneℚ (unwrap_or a zeroℚ) ∷ column_part v (negate oneℚ) (unwrap_or b zeroℚ) ∷ []) c.low_is c.high_is

  row_parts_are : (r : ℕ) (c : Cross (row_sides (get_or program.rows r no_row))) → parts_of program (row_certificate r) ≡ two_parts (get_or program.rows r no_row).terms c.low c.high
  row_parts_are r c =
      let row = get_or program.rows r no_row in
      ap₂ (λ a b. record { factor = oneℚ; terms = row.terms; side = unwrap_or a zeroℚ } ∷ record { factor = negate oneℚ; terms = row.terms; side = unwrap_or b zeroℚ } ∷ [])
      (used_low oneℚ row.low row.high one_positive ∙ c.low_is) (used_high (negate oneℚ) row.low row.high minus_one_negative ∙ c.high_is)

  column_shows : (v : ℕ) → v < length program.bounds → Cross (sides_at program.bounds v) → ShowsNoPoint program (column_certificate v)
  column_shows v l c =
      let s = sides_at program.bounds v in
      let ts = record { column = v; coefficient = oneℚ } ∷ [] in
      record {
        no_point = λ point h. no_value s (value_at point v) c (in_box_at program.bounds point v h.within);
        certificate = record {
          parts =
              subst (ArePartsOf program) (sym (column_parts v c)) (
                Of_column v l (record { terms = refl; side = used_low oneℚ s.low s.high one_positive ∙ c.low_is }),
                (Of_column v l (record { terms = refl; side = used_high (negate oneℚ) s.low s.high minus_one_negative ∙ c.high_is }), tt),
              );
          rows = All-from_recursion (λ (m : Multiple). m.factor ≢ zeroℚ) [] tt;
          lows = All-from_recursion (λ (m : Multiple). zeroℚ <ℚ m.factor) (column_certificate v).lows (one_positive, tt);
          highs = All-from_recursion (λ (m : Multiple). m.factor <ℚ zeroℚ) (column_certificate v).highs (minus_one_negative, tt);
        };
        empty = subst (λ ps. Empties (aggregate (length program.bounds) ps) program.bounds) (sym (column_parts v c)) (two_sides_empty ts c.low c.high program.bounds c.above);
      }

  row_shows : (r : ℕ) → r < length program.rows → Cross (row_sides (get_or program.rows r no_row)) → ShowsNoPoint program (row_certificate r)
  row_shows r l c =
      let row = get_or program.rows r no_row in
      let at = slice_get-get_or program.rows r no_row l in
      record {
        no_point = λ point h. no_value (row_sides row) (activity row.terms point) c (satisfied_at program.rows point r row h.rows at);
        certificate = record {
          parts =
              subst (ArePartsOf program) (sym (row_parts_are r c)) (
                Of_row r row at (record { terms = refl; side = used_low oneℚ row.low row.high one_positive ∙ c.low_is }),
                (Of_row r row at (record { terms = refl; side = used_high (negate oneℚ) row.low row.high minus_one_negative ∙ c.high_is }), tt),
              );
          rows = All-from_recursion (λ (m : Multiple). m.factor ≢ zeroℚ) (row_certificate r).rows (λ e. ne_of_lt one_positive (sym e), (λ e. ne_of_lt minus_one_negative e, tt));
          lows = All-from_recursion (λ (m : Multiple). zeroℚ <ℚ m.factor) [] tt;
          highs = All-from_recursion (λ (m : Multiple). m.factor <ℚ zeroℚ) [] tt;
        };
        empty = subst (λ ps. Empties (aggregate (length program.bounds) ps) program.bounds) (sym (row_parts_are r c)) (two_sides_empty row.terms c.low c.high program.bounds c.above);
      }

  by_number : (v : ℕ) (t : Bool) → nat_lt v (length program.bounds) ≡ t → ShowsNoPoint program (cond t (column_certificate v) (row_certificate (v - length program.bounds))) → ShowsNoPoint program (crossed_certificate program v)
  by_number v t e h = subst (λ b. ShowsNoPoint program (cond b (column_certificate v) (row_certificate (v - length program.bounds)))) (sym e) h

  pub shows_crossed : (d : Dictionary) (v : ℕ) → IsStateOf program d → v < size d → is_crossed d v ≡ true → ShowsNoPoint program (crossed_certificate program v)
  shows_crossed d v st l e =
      let c = crossing (sides_at d.sides v).low (sides_at d.sides v).high e in
      let first : Cross (sides_at (first_of_program program).sides v) = subst (λ ss. Cross (sides_at ss v)) (sym st.same.same_sides) c in
      let lv : v < length program.bounds + length program.rows = omega (arith, l, size_is program, ap length st.same.same_sides) in
      elim (cases_lt v (length program.bounds)) [
        | inl low ↦ by_number v true (lt-ltb v (length program.bounds) low) (column_shows v low (subst Cross (sides_of_column program v low) first))
        | inr high ↦
            (let r : ℕ = v - length program.bounds in
            let number : length program.bounds + (v - length program.bounds) ≡ v = omega (arith, high) in
            let lr : v - length program.bounds < length program.rows = omega (arith, high, lv) in
            let row = get_or program.rows (v - length program.bounds) no_row in
            by_number v false (le-ltb v (length program.bounds) high)
            (row_shows (v - length program.bounds) lr (subst Cross (sides_of_row program (v - length program.bounds) row (slice_get-get_or program.rows (v - length program.bounds) no_row lr)) (subst (λ w. Cross (sides_at (first_of_program program).sides w)) (sym number) first))))
      ]
