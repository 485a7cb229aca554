-- Rows that are built term by term, and the sums of their products.
use Rattle.std.proofs.Common.{◌≡◌, ℕ, ◌+◌, ◌<◌, List, ◌++◌, [], ◌∷◌, length, get_or, take, drop, Option, Result, Ok, Err, IsErr, refl, sym, ap, subst, ◌∙◌, inl, inr, arith}
use Rattle.std.proofs.lemmas.Bool.{cases_eq}
use Rattle.std.proofs.lemmas.List.{length-take-le, get_or-take, get_or_read, take_more, drop_more}
use Rattle.cip_frac.specs.Rational.{ℚ, zeroℚ}
use Rattle.cip_frac.specs.Outcomes.{and_then, product_added}
use Rattle.cip_frac.specs.declared.operations.Wide.{Wide}
use Rattle.cip_problem.specs.Program.{Term, Row}
use Rattle.cip_problem.specs.Activity.{value_at}
use Rattle.cip_problem.specs.RowTerms.{no_term, column_at, coefficient_at, AreTermsTo}
use Rattle.cip_lin.specs.declared.rows.RowFault.{RowFault}
use Rattle.cip_lin.specs.declared.rows.RowFault.TheVariants.{NotRising, ZeroTerm, NoMemory}
use Rattle.cip_lin.specs.RowFaults.{CanStandAfter, IsAppendFault, IsBuildFault}
use Rattle.cip_lin.specs.RowSums.{activity_from}

pub none_built : (terms : List Term) → AreTermsTo 0 terms
none_built terms = record {
  rising = λ k (l : k + 1 < 0). absurd (omega (arith, l));
  nonzero = λ k (l : k < 0). absurd (omega (arith, l));
}

module _ (n : ℕ) (terms : List Term) (term : Term) (l : n < length terms) (e : term ≡ get_or terms n term) where
  is_next : term ≡ get_or terms n no_term
  is_next = get_or_read terms n term l e no_term

  next_column : term.column ≡ column_at terms n
  next_column = ap (λ t. t.column) is_next

  front_long : length (take n terms) ≡ n
  front_long = length-take-le n terms (omega (arith, l))

  front_column : (k : ℕ) → k < n → column_at (take n terms) k ≡ column_at terms k
  front_column k lk = ap (λ t. t.column) (get_or-take n terms k no_term lk)

  -- the term at n is above the one before it
  rises : ((k : ℕ) → k + 1 ≡ length (take n terms) → column_at (take n terms) k < term.column) → (k m : ℕ) → k + 1 ≡ m → m ≡ n → column_at terms k < column_at terms m
  rises h k m ek em =
      let before : column_at (take n terms) k < term.column = h k (ek ∙ em ∙ sym front_long) in
      omega (arith, before, front_column k (omega (arith, ek, em)), next_column, ap (column_at terms) em)

  pub more_built : AreTermsTo n terms → CanStandAfter (take n terms) term → AreTermsTo (n + 1) terms
  more_built h s = record {
    rising = λ k (lk : k + 1 < n + 1). elim (cases_eq (k + 1) n) [
      | inl same ↦ rises s.above.above k (k + 1) refl same
      | inr other ↦ h.rising k (omega (arith, lk, other))
    ];
    nonzero = λ k (lk : k < n + 1). elim (cases_eq k n) [
      | inl same ↦ λ (z : coefficient_at terms k ≡ zeroℚ). s.nonzero (ap (λ t. t.coefficient) is_next ∙ ap (coefficient_at terms) (sym same) ∙ z)
      | inr other ↦ h.nonzero k (omega (arith, lk, other))
    ];
  }

  pub fault_built : (fault : RowFault) → AreTermsTo n terms → IsAppendFault (take n terms) term fault → IsBuildFault terms fault
  fault_built (NotRising at) h f =
      let is : at ≡ n = f.0 ∙ front_long in
      let last : f.1.last + 1 ≡ n = f.1.is_last ∙ front_long in (
        omega (arith, l, is),
        subst (λ k. AreTermsTo k terms) (sym is) h,
        record {
          before = f.1.last;
          is_before = last ∙ sym is;
          not_above = omega (arith, f.1.not_above, front_column f.1.last (omega (arith, last)), next_column, ap (column_at terms) is);
        },
      )
  fault_built (ZeroTerm at) h f =
      let is : at ≡ n = f.0 ∙ front_long in (
        omega (arith, l, is),
        subst (λ k. AreTermsTo k terms) (sym is) h,
        record { above = λ k (ek : k + 1 ≡ at). rises f.1.above k at ek is },
        ap (coefficient_at terms) is ∙ sym (ap (λ t. t.coefficient) is_next) ∙ f.2,
      )
  fault_built NoMemory h f = (n, l, more_built h f)

  pub more_terms : (low high : Option ℚ) (row next : Row) → row ≡ record { terms = take n terms; low = low; high = high } → next ≡ record row { terms = row.terms ++ term ∷ [] } → next ≡ record { terms = take (n + 1) terms; low = low; high = high }
  more_terms low high row next is e' =
      let at : row.terms ++ term ∷ [] ≡ take (n + 1) terms = ap (λ r. r.terms ++ term ∷ []) is ∙ ap (λ t. take n terms ++ t ∷ []) e ∙ sym (take_more terms n term l) in
      e' ∙ (λ k. record { terms = at k; low = (is k).low; high = (is k).high })

  -- a sum from here on
  sum_from : (sum : ℚ) (point : List ℚ) → activity_from sum (drop n terms) point ≡ and_then (product_added sum term.coefficient (value_at point term.column)) (λ more. activity_from more (drop (n + 1) terms) point)
  sum_from sum point = ap (λ ts. activity_from sum ts point) (drop_more terms n term l ∙ ap (λ t. t ∷ drop (n + 1) terms) (sym e))

  pub sum_more : (sum more : ℚ) (point : List ℚ) → product_added sum term.coefficient (value_at point term.column) ≡ Ok more → activity_from more (drop (n + 1) terms) point ≡ activity_from sum (drop n terms) point
  sum_more sum more point p = sym (sum_from sum point ∙ ap (λ r. and_then r (λ q. activity_from q (drop (n + 1) terms) point)) p)

  err_stays : (r : Result ℚ Wide) (next : ℚ → Result ℚ Wide) → IsErr r → and_then r next ≡ r
  err_stays (Ok q) next h = cc
  err_stays (Err wide) next h = refl

  pub sum_ends : (sum : ℚ) (point : List ℚ) → IsErr (product_added sum term.coefficient (value_at point term.column)) → product_added sum term.coefficient (value_at point term.column) ≡ activity_from sum (drop n terms) point
  sum_ends sum point h = sym (sum_from sum point ∙ err_stays _ (λ q. activity_from q (drop (n + 1) terms) point) h)
