-- A line that keeps whole numbers, or fractions.
use Rattle.std.proofs.Common.{◌≡◌, ℕ, ◌<◌, Bool, true, false, ℤ, List, length, refl, sym, ap, ◌∙◌, subst, lit<}
use Rattle.std.proofs.lemmas.Bool.{true≢false}
use Rattle.cip_rational.specs.Rational.{ℚ, ratio}
use Rattle.cip_problem.specs.Activity.{value_at}
use Rattle.cip_dict.specs.SparseLines.{Kept, dense, kept_of, AreKept}
use Rattle.cip_dict.specs.WholeLines.{Whole, over, number_on, kept_in, IsWhole, IsForm, IsSpelled}
use Rattle.cip_dict.proofs.Dense.{dense_len, dense_read}
use Rattle.cip_dict.proofs.KeptLoops.{kept_back}
use Rattle.cip_dict.proofs.WholeParts.{kept_over, entry_over}

module _ (len : ℕ) (b : Bool) (below : ℕ) (ws : List Whole) (es : List Kept) (row : List ℚ) (h : IsForm len b below ws es) (view : dense len (kept_in b below ws es) ≡ row) where
  pub whole_kept : b ≡ true → AreKept 0 len (over below ws)
  whole_kept t = subst (λ (c : Bool). AreKept 0 len (kept_in c below ws es)) t h.kept

  pub whole_view : b ≡ true → dense len (over below ws) ≡ row
  whole_view t = subst (λ (c : Bool). dense len (kept_in c below ws es) ≡ row) t view

  pub one_kept : b ≡ true → AreKept 0 len (over 1 ws)
  one_kept t = kept_over below 1 0 len ws (h.whole t).positive (lit< tt) (whole_kept t)

  pub whole_read : (k : ℕ) → b ≡ true → k < length row → ratio (number_on ws k) below ≡ value_at row k
  whole_read k t l = sym (entry_over below ws k (h.whole t).positive) ∙ sym (dense_read len (over below ws) row k (whole_view t) l)

  -- what is said of the number on a variable over any denominator holds of the entry
  pub whole_test : (says : ℚ → Bool) (n : ℤ) (t : Bool) (k : ℕ) → b ≡ true → k < length row → n ≡ number_on ws k → ((d : ℕ) → 0 < d → t ≡ says (ratio n d)) → t ≡ says (value_at row k)
  whole_test says n t k e l is test = test below (h.whole e).positive ∙ ap says (ap (λ m. ratio m below) is ∙ whole_read k e l)

  pub parted_kept : b ≡ false → AreKept 0 len es
  parted_kept f = subst (λ (c : Bool). AreKept 0 len (kept_in c below ws es)) f h.kept

  pub parted_view : b ≡ false → dense len es ≡ row
  parted_view f = subst (λ (c : Bool). dense len (kept_in c below ws es) ≡ row) f view

  pub kept_all : kept_in b below ws es ≡ kept_of (length row) (value_at row)
  kept_all =
      kept_back len (length row) (kept_in b below ws es) (value_at row) (dense_len len (length row) (kept_in b below ws es) row view refl) h.kept
      (λ k l. dense_read len (kept_in b below ws es) row k view l)

  pub whole_all : b ≡ true → over below ws ≡ kept_of (length row) (value_at row)
  whole_all t = subst (λ (c : Bool). kept_in c below ws es ≡ kept_of (length row) (value_at row)) t kept_all

  pub parted_all : b ≡ false → es ≡ kept_of (length row) (value_at row)
  parted_all f = subst (λ (c : Bool). kept_in c below ws es ≡ kept_of (length row) (value_at row)) f kept_all

-- a copy of the entries of a line spells it
pub spelled_as : (len : ℕ) (es : List Kept) (row : List ℚ) → AreKept 0 len es → dense len es ≡ row → (out : List Kept) → out ≡ es → IsSpelled (length row) row out
spelled_as len es row h view out e =
    let n : len ≡ length row = dense_len len (length row) es row view refl in
    record {
      kept = rw e (subst (λ m. AreKept 0 m es) n h);
      same = rw e (subst (λ m. dense m es ≡ row) n view);
    }

module _ (len : ℕ) (b : Bool) (below : ℕ) (ws : List Whole) (new : List Kept) (f : b ≡ false) where
  pub parted_form : AreKept 0 len new → IsForm len b below ws new
  parted_form h = record {
    kept = subst (λ (c : Bool). AreKept 0 len (kept_in c below ws new)) (sym f) h;
    whole = λ (t : b ≡ true). absurd (true≢false (sym t ∙ f));
  }

  pub parted_dense : (row : List ℚ) → dense len new ≡ row → dense len (kept_in b below ws new) ≡ row
  parted_dense row h = subst (λ (c : Bool). dense len (kept_in c below ws new) ≡ row) (sym f) h

module _ (len : ℕ) (b : Bool) (below : ℕ) (new : List Whole) (es : List Kept) (t : b ≡ true) where
  pub numbers_form : AreKept 0 len (over below new) → IsWhole below new → IsForm len b below new es
  numbers_form h w = record {
    kept = subst (λ (c : Bool). AreKept 0 len (kept_in c below new es)) (sym t) h;
    whole = λ _. w;
  }

  pub numbers_dense : (row : List ℚ) → dense len (over below new) ≡ row → dense len (kept_in b below new es) ≡ row
  numbers_dense row h = subst (λ (c : Bool). dense len (kept_in c below new es) ≡ row) (sym t) h

pub length_len : (len : ℕ) (es : List Kept) (row : List ℚ) → dense len es ≡ row → length row ≡ len
length_len len es row view = sym (dense_len len (length row) es row view refl)
