-- Entries, terms and columns one after another.
use Rattle.std.proofs.Common.{◌≡◌, ℕ, suc, ◌+◌, ◌<◌, ◌≤◌, List, [], ◌∷◌, length, get_or, set, drop, Result, Ok, Err, refl, sym, ap, ap₂, ◌∙◌, add-one, Bool, true, false, cond, Option, None, Some, subst}
use Rattle.std.specs.Prelude.{IsErr}
use Rattle.std.specs.Bool.{MatchBool}
use Rattle.std.proofs.lemmas.Bool.{false_from_ne_true}
use Rattle.std.proofs.Math.ListN.{drop_of_length-le}
use Rattle.std.proofs.lemmas.List.{drop_more, get_or_default}
use Rattle.cip_rational.specs.Rational.{ℚ, ◌-ℚ◌, zeroℚ, ◌<ℚ◌, lt_test}
use Rattle.cip_rational.specs.Range.{difference_overflows}
use Rattle.cip_rational.proofs.Rational.Order.{test_of_lt, lt_of_test}
use Rattle.cip_frac.specs.declared.operations.Wide.{Wide as Overflow}
use Rattle.cip_frac.specs.Outcomes.{product_added}
use Rattle.cip_problem.specs.Program.{Term, Sides}
use Rattle.cip_problem.specs.Activity.{value_at}
use Rattle.cip_cert.specs.Checks.{chain, placed, add_terms, rest_of, rest_added, side_added, bound_from}
use Rattle.cip_cert.specs.declared.faults.CutFault.{CutFault}
use Rattle.cip_cert.specs.declared.faults.CutFault.TheVariants.{Wide}
use Rattle.cip_cert.specs.declared.faults.FaultPlace.{FaultPlace}
use Rattle.cip_cert.specs.declared.faults.FaultPlace.TheVariants.{Entry, Column}

-- ---- entries, the first of which has a number

module _ {M I : Type 0} (one : ℕ → M → I → Result I CutFault) (all : ℕ → List M → I
    → Result I CutFault) (step : (n : ℕ) (m : M) (ms : List M) (i : I) → all n (m ∷ ms) i
    ≡ chain (one n m i) (all (suc n) ms)) (none : (n : ℕ) (i : I) → all n [] i
    ≡ Ok i) (number at : ℕ) (ms : List M) (i : I) (total : Result I CutFault) (so_far : all number (drop at ms) i
    ≡ total) where
  opened : (m : M) → at < length ms → m ≡ get_or ms at m → all number (drop at ms) i
      ≡ chain (one number m i) (all (suc number) (drop (at + 1) ms))
  opened m l e =
      ap (λ xs. all number xs i) (drop_more ms at m l ∙ ap (λ x. x ∷ drop (at + 1) ms) (sym e))
      ∙ step number m (drop (at + 1) ms) i

  pub entry_added : (m : M) (more : I) (behind : ℕ) → suc number ≡ behind → at < length ms → m ≡ get_or ms at m
      → one number m i ≡ Ok more → all behind (drop (at + 1) ms) more ≡ total
  entry_added m more behind n l e a =
      ap (λ k. all k (drop (at + 1) ms) more) (sym n)
      ∙ ap (λ r. chain r (all (suc number) (drop (at + 1) ms))) (sym a) ∙ sym (opened m l e) ∙ so_far

  pub entry_failed : (m : M) (fault : CutFault) → at < length ms → m ≡ get_or ms at m → one number m i ≡ Err fault
      → total ≡ Err fault
  entry_failed m fault l e a = sym so_far ∙ opened m l e ∙ ap (λ r. chain r (all (suc number) (drop (at + 1) ms))) a

  pub entries_added : length ms ≤ at → total ≡ Ok i
  entries_added l = sym so_far ∙ ap (λ xs. all number xs i) (drop_of_length-le ms l) ∙ none number i

-- what was read twice at a place is the same
pub same_item : {X : Type 0} (xs : List X) (at : ℕ) (x y : X) → at < length xs → x ≡ get_or xs at x → y
    ≡ get_or xs at y → x ≡ y
same_item xs at x y l e f = e ∙ get_or_default xs at x y l ∙ sym f

-- ---- the terms of a part

module _ (entry : ℕ) (factor : ℚ) (at : ℕ) (ts : List Term) (ds : List ℚ) (total : Result (List ℚ) CutFault)
    (so_far : add_terms entry factor (drop at ts) ds ≡ total) where
  module _ (t : Term) (column : ℕ) (coefficient before : ℚ) (inside : at < length ts) (is : t
      ≡ get_or ts at t) (column_is : column ≡ t.column) (coefficient_is : coefficient
      ≡ t.coefficient) (below : column < length ds) (before_is : before ≡ get_or ds column before) where
    term_opened : add_terms entry factor (drop at ts) ds ≡ chain (placed (Entry entry)
        (product_added before factor coefficient)) (λ d. add_terms entry factor (drop (at + 1) ts) (set ds column d))
    term_opened =
        ap (λ xs. add_terms entry factor xs ds) (drop_more ts at t inside ∙ ap (λ x. x ∷ drop (at + 1) ts) (sym is))
        ∙ ap₂ (λ (k : ℕ) (q : ℚ). chain (placed (Entry entry) (product_added (value_at ds k) factor q))
        (λ d. add_terms entry factor (drop (at + 1) ts) (set ds k d))) (sym column_is) (sym coefficient_is)
        ∙ ap (λ q. chain (placed (Entry entry) (product_added q factor coefficient)) (λ d. add_terms entry factor (drop
        (at + 1) ts) (set ds column d))) (get_or_default ds column zeroℚ before below ∙ sym before_is)

    pub term_added : (value : ℚ) (others : List ℚ) → Ok value ≡ placed (Entry entry)
        (product_added before factor coefficient) → others ≡ set ds column value
        → add_terms entry factor (drop (at + 1) ts) others ≡ total
    term_added value others a e =
        ap (λ xs. add_terms entry factor (drop (at + 1) ts) xs) e
        ∙ ap (λ r. chain r (λ d. add_terms entry factor (drop (at + 1) ts) (set ds column d))) a
        ∙ sym term_opened ∙ so_far

    pub term_failed : (fault : CutFault) → Err fault ≡ placed (Entry entry) (product_added before factor coefficient)
        → total ≡ Err fault
    term_failed fault a = sym so_far ∙ term_opened ∙ ap (λ r. chain r (λ d. add_terms entry factor (drop (at + 1) ts)
        (set ds column d))) (sym a)

  pub terms_added : length ts ≤ at → total ≡ Ok ds
  terms_added l = sym so_far ∙ ap (λ xs. add_terms entry factor xs ds) (drop_of_length-le ts l)

-- ---- the columns of a bound

failed_stays : (r : Result ℚ CutFault) (next : ℚ → Result ℚ CutFault) → IsErr r → chain r next ≡ r
failed_stays (Err fault) next h = refl
failed_stays (Ok value) next h = absurd (cc)

module _ (at : ℕ) (sum : ℚ) (costs ds : List ℚ) (box : List Sides) (total : Result ℚ CutFault)
    (so_far : bound_from at sum (drop at costs) (drop at ds) (drop at box) ≡ total) where
  module _ (cost d : ℚ) (sides : Sides) (has_cost : at < length costs) (has_entry : at < length ds)
      (has_sides : at < length box) (cost_is : cost ≡ get_or costs at cost) (entry_is : d
      ≡ get_or ds at d) (sides_are : sides ≡ get_or box at sides) where
    column_opened : bound_from at sum (drop at costs) (drop at ds) (drop at box)
        ≡ chain (chain (rest_of at cost d) (λ rest. rest_added at sum rest sides)) (λ more. bound_from (at + 1) more
        (drop (at + 1) costs) (drop (at + 1) ds) (drop (at + 1) box))
    column_opened =
        ap₂ (λ (cs es : List ℚ). bound_from at sum cs es (drop at box)) (drop_more costs at cost has_cost
        ∙ ap (λ x. x ∷ drop (at + 1) costs) (sym cost_is)) (drop_more ds at d has_entry
        ∙ ap (λ x. x ∷ drop (at + 1) ds) (sym entry_is))
        ∙ ap (λ (ss : List Sides). bound_from at sum (cost ∷ drop (at + 1) costs) (d ∷ drop (at + 1) ds) ss)
        (drop_more box at sides has_sides ∙ ap (λ x. x ∷ drop (at + 1) box) (sym sides_are))
        ∙ ap (λ n. chain (chain (rest_of at cost d) (λ rest. rest_added at sum rest sides)) (λ more. bound_from n more
        (drop (at + 1) costs) (drop (at + 1) ds) (drop (at + 1) box))) (sym (add-one at))

    pub column_added : (more : ℚ) → chain (rest_of at cost d) (λ rest. rest_added at sum rest sides) ≡ Ok more
        → bound_from (at + 1) more (drop (at + 1) costs) (drop (at + 1) ds) (drop (at + 1) box) ≡ total
    column_added more a = ap (λ r. chain r (λ more. bound_from (at + 1) more (drop (at + 1) costs) (drop (at + 1) ds)
        (drop (at + 1) box))) (sym a) ∙ sym column_opened ∙ so_far

    pub column_failed : IsErr (chain (rest_of at cost d) (λ rest. rest_added at sum rest sides))
        → chain (rest_of at cost d) (λ rest. rest_added at sum rest sides) ≡ total
    column_failed h = sym (failed_stays _ _ h) ∙ sym column_opened ∙ so_far

  pub columns_added : length costs ≤ at → Ok sum ≡ total
  columns_added l = sym (ap (λ (cs : List ℚ). bound_from at sum cs (drop at ds) (drop at box))
      (drop_of_length-le costs l)) ∙ so_far

-- ---- the rest of a column

pub rest_wide : (column : ℕ) (sum cost d : ℚ) (sides : Sides) → difference_overflows cost d ≡ true
    → IsErr (chain (rest_of column cost d) (λ rest. rest_added column sum rest sides))
rest_wide column sum cost d sides e =
    subst (λ t. IsErr (chain (cond t (Err (Wide (Column column))) (Ok (cost -ℚ d)))
    (λ rest. rest_added column sum rest sides))) (sym e) refl

pub rest_made : (column : ℕ) (sum cost d rest : ℚ) (sides : Sides) → difference_overflows cost d ≡ false
    → rest ≡ cost -ℚ d
    → chain (rest_of column cost d) (λ rest. rest_added column sum rest sides) ≡ rest_added column sum rest sides
rest_made column sum cost d rest sides e f =
    ap (λ t. chain (cond t (Err (Wide (Column column))) (Ok (cost -ℚ d)))
    (λ rest. rest_added column sum rest sides)) e
    ∙ ap (λ q. rest_added column sum q sides) (sym f)

pub rest_low : (column : ℕ) (sum rest : ℚ) (sides : Sides) → zeroℚ <ℚ rest
    → rest_added column sum rest sides ≡ side_added column sum rest sides.low
rest_low column sum rest sides h =
    ap (λ t. cond t (side_added column sum rest sides.low)
    (cond (lt_test rest zeroℚ) (side_added column sum rest sides.high) (Ok sum))) (test_of_lt h)

pub rest_high : (column : ℕ) (sum rest : ℚ) (sides : Sides) → ¬ (zeroℚ <ℚ rest) → rest <ℚ zeroℚ
    → rest_added column sum rest sides ≡ side_added column sum rest sides.high
rest_high column sum rest sides n h =
    ap₂ (λ t u. cond t (side_added column sum rest sides.low)
    (cond u (side_added column sum rest sides.high) (Ok sum)))
    (false_from_ne_true _ (λ e. n (lt_of_test e))) (test_of_lt h)

pub rest_zero : (column : ℕ) (sum rest : ℚ) (sides : Sides) → ¬ (zeroℚ <ℚ rest) → ¬ (rest <ℚ zeroℚ)
    → rest_added column sum rest sides ≡ Ok sum
rest_zero column sum rest sides n m =
    ap₂ (λ t u. cond t (side_added column sum rest sides.low)
    (cond u (side_added column sum rest sides.high) (Ok sum)))
    (false_from_ne_true _ (λ e. n (lt_of_test e))) (false_from_ne_true _ (λ e. m (lt_of_test e)))

pub no_side : (result : Result ℚ CutFault) (column : ℕ) (sum rest : ℚ) (side : Option ℚ)
    → result ≡ side_added column sum rest side → side ≡ None → IsErr result
no_side result column sum rest side e n = subst IsErr (sym (e ∙ ap (side_added column sum rest) n)) refl

side_stepped : (t : Bool) (p : Result ℚ Overflow) (place : FaultPlace) (v s : ℚ)
    → MatchBool t (p ≡ Ok v) (IsErr p × (v ≡ s))
    → MatchBool t (placed place p ≡ Ok v) (IsErr (placed place p) × (v ≡ s))
side_stepped true p place v s h = ap (placed place) h
side_stepped false (Ok q) place v s h = absurd (let e : false ≡ true = h.0 in cc)
side_stepped false (Err wide) place v s h = (refl, h.1)

pub side_taken : (result : Result ℚ CutFault) (t : Bool) (column : ℕ) (sum rest : ℚ) (side : Option ℚ) (value new : ℚ)
    → result ≡ side_added column sum rest side → side ≡ Some value
    → MatchBool t (product_added sum rest value ≡ Ok new) (IsErr (product_added sum rest value) × (new ≡ sum))
    → MatchBool t (result ≡ Ok new) (IsErr result × (new ≡ sum))
side_taken result t column sum rest side value new e n h =
    subst (λ (a : Result ℚ CutFault). MatchBool t (a ≡ Ok new) (IsErr a × (new ≡ sum)))
    (sym (e ∙ ap (side_added column sum rest) n)) (side_stepped t (product_added sum rest value) (Column column) new sum h)
