-- Rows without an entry on the variable that enters stay as they are, and nothing is formed for them.
use Rattle.std.proofs.Common.{◌≡◌, ℕ, zero, suc, ◌==◌, Bool, true, false, cond, not, ◌&&◌, ◌||◌, List, [], length, Option, None, refl, sym, ap, ◌∙◌}
use Rattle.cip_rational.specs.Rational.{ℚ, zeroℚ, negate, is_zero}
use Rattle.cip_problem.specs.Activity.{value_at}
use Rattle.cip_problem.proofs.Rows.{zero_of_test}
use Rattle.cip_bland.specs.Tables.{each}
use Rattle.cip_bland.specs.Exchange.{is_absent, solved_at, solved, substituted_at, substituted}
use Rattle.cip_bland.specs.Operations.{Placed, first_overflow}
use Rattle.cip_bland.specs.MoveOperations.{solved_operations_at, solved_operations, substituted_operations_at, substituted_operations}
use Rattle.cip_rational.proofs.Rational.Ring.{negate_zero}
use Rattle.cip_bland.proofs.Zeros.{is_zero_of}
use Rattle.cip_bland.specs.declared.places.Line.{Line}
use Rattle.cip_bland.specs.declared.places.EntryPlace.{EntryPlace}
use Rattle.cip_bland.specs.declared.moves.Stand.{Stand}
use Rattle.cip_bland.proofs.Overflow.{overflow-append}
use Rattle.cip_dict.proofs.Formed.{product_zero_left, sum_zero_right}
use Rattle.cip_dict.specs.Lists.{basic_in}
use Rattle.cip_dict.specs.Row.{form_changes, form_operations_in, written_form}

entry_none : (place : EntryPlace) (leaving absent : Bool) (q a b c : ℚ) → is_zero b ≡ true → first_overflow (substituted_operations_at place leaving absent q a b c) ≡ None
entry_none place true absent q a b c e = rw e refl
entry_none place false true q a b c e = refl
entry_none place false false q a b c e = rw e refl

zero_line : (n : ℕ) (line : Line) (basic : ℕ → Bool) (i j : ℕ) (q : ℚ) (new row : ℕ → ℚ) → is_zero (row j) ≡ true → first_overflow (each n (substituted_operations line basic i j q new row)) ≡ None
zero_line zero line basic i j q new row e = refl
zero_line (suc n) line basic i j q new row e =
    overflow-append (each n (substituted_operations line basic i j q new row)) _ (zero_line n line basic i j q new row e)
    ∙ entry_none _ (n == i) (is_absent basic j n) q (row n) (row j) (new n) e

by_cases : (basic leaves none : Bool) (ops : List Placed) → (basic && (not leaves && not none)) ≡ false → (none ≡ true → first_overflow ops ≡ None) → first_overflow (cond (basic && not leaves) ops []) ≡ None
by_cases false leaves none ops e f = refl
by_cases true true none ops e f = refl
by_cases true false true ops e f = f refl
by_cases true false false ops e f = absurd (cc)

first_of : (a b : Bool) → true ≡ (a && b) → a ≡ true
first_of true b e = refl
first_of false b e = sym e

pub changed_basic : (standing : List (Option Stand)) (i j v : ℕ) (row : List ℚ) → true ≡ form_changes standing i j v row → basic_in standing v ≡ true
changed_basic standing i j v row e = first_of (basic_in standing v) _ e

pub unchanged_fits : (standing : List (Option Stand)) (i j : ℕ) (q : ℚ) (new : ℕ → ℚ) (v : ℕ) (row : List ℚ) → form_changes standing i j v row ≡ false → first_overflow (form_operations_in standing i j q new v row) ≡ None
unchanged_fits standing i j q new v row e =
    by_cases (basic_in standing v) (v == i) (is_zero (value_at row j)) _ e
    (λ z. zero_line (length standing) _ (basic_in standing) i j q new (value_at row) z)

pub unchanged_stays : (standing : List (Option Stand)) (i j : ℕ) (q : ℚ) (new : ℕ → ℚ) (v : ℕ) (row out : List ℚ) → form_changes standing i j v row ≡ false → out ≡ written_form standing i j q new v row out
unchanged_stays standing i j q new v row out e = rw e refl

-- an entry on a variable that stays nonbasic stays as it is where that of the row which enters is 0
kept_at : (place : EntryPlace) (none basic leaving entering : Bool) (q a b c : ℚ) → is_zero c ≡ none → (none && (not basic && (not leaving && not entering))) ≡ true → (first_overflow (substituted_operations_at place leaving (basic || entering) q a b c) ≡ None) × (a ≡ substituted_at leaving (basic || entering) q a b c)
kept_at place true false false false q a b c z e = sum_zero_right place a b c z
kept_at place true false false true q a b c z e = absurd (cc)
kept_at place true false true entering q a b c z e = absurd (cc)
kept_at place true true leaving entering q a b c z e = absurd (cc)
kept_at place false basic leaving entering q a b c z e = absurd (cc)

pub kept : (line : Line) (standing : List (Option Stand)) (i j : ℕ) (q : ℚ) (new row : ℕ → ℚ) (k : ℕ) → (is_zero (new k) && (not (basic_in standing k) && (not (k == i) && not (k == j)))) ≡ true → (first_overflow (substituted_operations line (basic_in standing) i j q new row k) ≡ None) × (row k ≡ substituted (basic_in standing) i j q new row k)
kept line standing i j q new row k e = kept_at _ _ (basic_in standing k) (k == i) (k == j) q (row k) (row j) (new k) refl e

-- nothing is written where the row that is solved has no entry
none_at : (place : EntryPlace) (none leaving absent : Bool) (q a : ℚ) → is_zero a ≡ none → (none && not leaving) ≡ true → (first_overflow (solved_operations_at place leaving absent q a) ≡ None) × (zeroℚ ≡ solved_at leaving absent q a)
none_at place true false true q a z e = (refl, refl)
none_at place true false false q a z e = product_zero_left place (negate a) q (is_zero_of (negate a) (ap negate (zero_of_test a z) ∙ negate_zero))
none_at place true true absent q a z e = absurd (cc)
none_at place false leaving absent q a z e = absurd (cc)

pub solved_none : (line : Line) (basic : ℕ → Bool) (i j : ℕ) (q : ℚ) (row : ℕ → ℚ) (k : ℕ) → (is_zero (row k) && not (k == i)) ≡ true → (first_overflow (solved_operations line basic i j q row k) ≡ None) × (zeroℚ ≡ solved basic i j q row k)
solved_none line basic i j q row k e = none_at _ _ (k == i) (is_absent basic j k) q (row k) refl e
