-- Terms made of coefficients, one after another.
use Rattle.std.proofs.Common.{◌≡◌, ℕ, zero, suc, ◌+◌, ◌<◌, Bool, true, false, cond, List, [], ◌∷◌, ◌++◌, length, get_or, drop, refl, sym, ap, ◌∙◌, subst, arith, append_assoc, add-one, Some, None}
use Rattle.std.proofs.lemmas.List.{drop_more}
use Rattle.cip_rational.specs.Rational.{ℚ, zeroℚ, is_zero}
use Rattle.cip_problem.specs.Program.{Term, Row}
use Rattle.cip_problem.specs.RowTerms.{column_at}
use Rattle.cip_problem.specs.Cuts.{terms_from}
use Rattle.cip_rational.proofs.Rational.Order.{test_of_le, ≤ℚ_refl}
use Rattle.cip_problem.proofs.Rows.{zero_of_test}

-- a coefficient that isn't 0 gives a term, and 0 gives none
test_of_zero : is_zero zeroℚ ≡ true
unfolding is_zero
test_of_zero = rw (test_of_le (≤ℚ_refl zeroℚ)) refl

pub none_for_zero : (column : ℕ) (d : ℚ) (ds : List ℚ) → d ≡ zeroℚ → terms_from column (d ∷ ds) ≡ terms_from (suc column) ds
none_for_zero column d ds e = ap (λ q. terms_from column (q ∷ ds)) e ∙ ap (λ t. cond t (terms_from (suc column) ds) (record { column = column; coefficient = zeroℚ } ∷ terms_from (suc column) ds)) test_of_zero

pub one_for_other : (column : ℕ) (d : ℚ) (ds : List ℚ) → ¬ (d ≡ zeroℚ) → terms_from column (d ∷ ds) ≡ record { column = column; coefficient = d } ∷ terms_from (suc column) ds
one_for_other column d ds n = chosen (is_zero d) refl
  where
    chosen : (t : Bool) → is_zero d ≡ t → terms_from column (d ∷ ds) ≡ record { column = column; coefficient = d } ∷ terms_from (suc column) ds
    chosen true e = absurd (n (zero_of_test d e))
    chosen false e = rw (e) refl

-- the terms so far, with those of the coefficients from a place on, are all terms
pub record Begun (coefficients : List ℚ) (at : ℕ) (terms : List Term) : Type 0 where
  pub all : terms ++ terms_from at (drop at coefficients) ≡ terms_from 0 coefficients
  pub below : (k : ℕ) → k < length terms → column_at terms k < at

pub begun : (coefficients : List ℚ) → Begun coefficients 0 []
begun coefficients = record { all = refl; below = λ k l. absurd (omega (arith, l)) }

pub begun_zero : (coefficients : List ℚ) (at : ℕ) (terms : List Term) (d : ℚ) → at < length coefficients → d ≡ get_or coefficients at d → d ≡ zeroℚ → Begun coefficients at terms → Begun coefficients (at + 1) terms
begun_zero coefficients at terms d l r z b = record {
  all = ap (λ ts. terms ++ ts) (sym (ap (terms_from at) (drop_more coefficients at d l) ∙ ap (λ e. terms_from at (e ∷ drop (at + 1) coefficients)) (sym r) ∙ none_for_zero at d (drop (at + 1) coefficients) z ∙ ap (λ n. terms_from n (drop (at + 1) coefficients)) (sym (add-one at)))) ∙ b.all;
  below = λ k h. omega (arith, b.below k h);
}

pub begun_other : (coefficients : List ℚ) (at : ℕ) (terms : List Term) (d : ℚ) → at < length coefficients → d ≡ get_or coefficients at d → ¬ (d ≡ zeroℚ) → Begun coefficients at terms → Begun coefficients (at + 1) (terms ++ record { column = at; coefficient = d } ∷ [])
begun_other coefficients at terms d l r n b = record {
  all =
      append_assoc terms (record { column = at; coefficient = d } ∷ []) (terms_from (at + 1) (drop (at + 1) coefficients))
      ∙ ap (λ ts. terms ++ ts) (sym (ap (terms_from at) (drop_more coefficients at d l) ∙ ap (λ e. terms_from at (e ∷ drop (at + 1) coefficients)) (sym r) ∙ one_for_other at d (drop (at + 1) coefficients) n ∙ ap (λ m. record { column = at; coefficient = d } ∷ terms_from m (drop (at + 1) coefficients)) (sym (add-one at))))
      ∙ b.all;
  below = λ k h. below_pushed terms at d k b.below h;
}
  where
    below_pushed : (ts : List Term) (at : ℕ) (d : ℚ) (k : ℕ) → ((j : ℕ) → j < length ts → column_at ts j < at) → k < length (ts ++ record { column = at; coefficient = d } ∷ []) → column_at (ts ++ record { column = at; coefficient = d } ∷ []) k < at + 1
    below_pushed [] at d zero h l = omega arith
    below_pushed [] at d (suc k) h l = absurd (omega (arith, l))
    below_pushed (t ∷ ts) at d zero h l = omega (arith, h 0 (omega arith))
    below_pushed (t ∷ ts) at d (suc k) h l = below_pushed ts at d k (λ j m. h (suc j) (omega (arith, m))) (omega (arith, l))

-- a row that is built, with its sides
pub record RowBegun (coefficients : List ℚ) (least : ℚ) (at : ℕ) (row : Row) : Type 0 where
  pub begun : Begun coefficients at row.terms
  pub low : row.low ≡ Some least
  pub high : row.high ≡ None

pub row_same : (coefficients : List ℚ) (least : ℚ) (at : ℕ) (row other : Row) → other ≡ row → RowBegun coefficients least at row → RowBegun coefficients least at other
row_same coefficients least at row other e b = subst (RowBegun coefficients least at) (sym e) b

pub row_zero : (coefficients : List ℚ) (least : ℚ) (at : ℕ) (row : Row) (d : ℚ) → at < length coefficients → d ≡ get_or coefficients at d → d ≡ zeroℚ → RowBegun coefficients least at row → RowBegun coefficients least (at + 1) row
row_zero coefficients least at row d l r z b = record { begun = begun_zero coefficients at row.terms d l r z b.begun; low = b.low; high = b.high }

pub row_other : (coefficients : List ℚ) (least : ℚ) (at : ℕ) (row : Row) (d : ℚ) → at < length coefficients → d ≡ get_or coefficients at d → ¬ (d ≡ zeroℚ) → RowBegun coefficients least at row → RowBegun coefficients least (at + 1) (record row { terms = row.terms ++ record { column = at; coefficient = d } ∷ [] })
row_other coefficients least at row d l r n b = record { begun = begun_other coefficients at row.terms d l r n b.begun; low = b.low; high = b.high }
