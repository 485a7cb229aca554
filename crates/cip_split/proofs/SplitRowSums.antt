-- The row of a split cut that is accepted is the split row of its two sums.
use Rattle.std.proofs.Common.{◌≡◌, ℕ, zero, suc, ◌<◌, ◌≤◌, ℤ, pos, ◌+ℤ◌, Bool, true, false, cond, List, [], ◌∷◌, length, get_or, set, map, Option, None, Some, Result, Ok, Err, IfOk, MatchResult, refl, sym, ap, ◌∙◌, subst, arith, slice_get, nat_lt}
use Rattle.std.specs.Prelude.{All}
use Rattle.std.specs.List.{AllByRecursion}
use Rattle.std.proofs.lemmas.Bool.{ltb-true}
use Rattle.std.proofs.lemmas.Option.{none-some}
use Rattle.std.proofs.lemmas.List.{length-set}
use Rattle.std.proofs.lemmas.List.Elements.{All-from_recursion, recursion_from_All}
use Rattle.cip_rational.specs.Rational.{ℚ, ◌+ℚ◌, ◌*ℚ◌, negate, integer, zeroℚ, minimum, ◌≤ℚ◌, lt_test}
use Rattle.cip_rational.specs.Range.{too_large}
use Rattle.cip_rational.specs.Sums.{dot}
use Rattle.cip_rational.proofs.Rational.Order.{le_of_lt_test}
use Rattle.cip_rational.proofs.Rational.Whole.{IsWhole-integer}
use Rattle.cip_frac.specs.declared.operations.Wide.{Wide as Overflow}
use Rattle.cip_frac.specs.Order.{same_rational, equal_from_same}
use Rattle.cip_frac.specs.Outcomes.{product_added}
use Rattle.cip_frac.proofs.Outcomes.{product_added-value}
use Rattle.cip_problem.specs.Program.{Sides}
use Rattle.cip_problem.specs.Activity.{activity, value_at}
use Rattle.cip_problem.specs.Aggregate.{Part, Inequality, Holds}
use Rattle.cip_problem.proofs.Aggregates.{aggregate_holds}
use Rattle.cip_problem.specs.Splits.{IsWholeForm, left_part, right_part, IsWithPart}
use Rattle.cip_problem.proofs.Splits.{split_holds}
use Rattle.cip_cert.specs.declared.faults.CutFault.{CutFault}
use Rattle.cip_cert.specs.declared.splits.FormTerm.{FormTerm}
use Rattle.cip_cert.specs.declared.splits.SplitCut.{SplitCut}
use Rattle.cip_cert.specs.declared.splits.SplitFormFault.{SplitFormFault}
use Rattle.cip_cert.specs.declared.splits.SplitFormFault.TheVariants.{FormOrder, UnknownColumn, NotWhole, Left, Right, Differs}
use Rattle.cip_cert.specs.Lent.{Lent, Fits, Multiples, multiples_of}
use Rattle.cip_cert.specs.Checks.{aggregate_of}
use Rattle.cip_cert.specs.Follows.{FollowsAt, RowFollows, IsSum}
use Rattle.cip_split.specs.SplitChecks.{followed, unless, named_fault, on_side, with_form, first_out_of_order, first_unknown, first_fractional, form_fault, sign_fault, number_of, whole_product_added, form_added, side_added, left_row, right_row, first_difference, joined, split_of}
use Rattle.cip_split.specs.SplitMeaning.{term_of, split_form_of, IsRowOf}
use Rattle.cip_cert.proofs.Sums.{Added, added_none, added_more, aggregate_sum}

-- ---- outcomes

pub ok_followed : {A B : Type 0} (P : A → Type 0) (Q : B → Type 0) (r : Result A SplitFormFault) (next : A → Result B SplitFormFault) → IfOk r P → ((a : A) → P a → IfOk (next a) Q) → IfOk (followed r next) Q
ok_followed P Q (Ok a) next h f = f a h
ok_followed P Q (Err fault) next h f = tt

pub ok_unless : {A : Type 0} (Q : A → Type 0) (o : Option SplitFormFault) (r : Result A SplitFormFault) → (o ≡ None → IfOk r Q) → IfOk (unless o r) Q
ok_unless Q None r f = f refl
ok_unless Q (Some fault) r f = tt

pub ok_on_side : {A : Type 0} (name : CutFault → SplitFormFault) (r : Result A CutFault) → IfOk (on_side name r) (λ a. r ≡ Ok a)
ok_on_side name (Ok a) = refl
ok_on_side name (Err fault) = tt

pub ok_less : {A : Type 0} (P Q : A → Type 0) (r : Result A SplitFormFault) → ((a : A) → P a → Q a) → IfOk r P → IfOk r Q
ok_less P Q (Ok a) f h = f a h
ok_less P Q (Err fault) f h = tt

pub named_none : (name : ℕ → SplitFormFault) (o : Option ℕ) (other : Option SplitFormFault) → named_fault name o other ≡ None → (o ≡ None) × (other ≡ None)
named_none name None other e = (refl, e)
named_none name (Some n) other e = absurd (none-some (name n) (sym e))

-- ---- the form

some_cond : (t : Bool) (n : ℕ) (rest : Option ℕ) → cond t rest (Some n) ≡ None → (t ≡ true) × (rest ≡ None)
some_cond true n rest e = (refl, e)
some_cond false n rest e = absurd (none-some n (sym e))

known_below : (columns : ℕ) (form : List FormTerm) → first_unknown columns form ≡ None → AllByRecursion (λ (t : FormTerm). t.col < columns) form
known_below columns [] e = tt
known_below columns (t ∷ ts) e =
    let parts = some_cond (nat_lt t.col columns) t.col (first_unknown columns ts) e in
    (ltb-true t.col columns parts.0, known_below columns ts parts.1)

flag_at : (integral : List Bool) (n : ℕ) → get_or integral n false ≡ true → slice_get integral n ≡ Some true
flag_at [] n e = absurd (true_is_not_false e)
  where
    true_is_not_false : false ≡ true → ⊥
    true_is_not_false f = absurd (cc)
flag_at (w ∷ ws) zero e = ap Some e
flag_at (w ∷ ws) (suc n) e = flag_at ws n e

form_whole : (integral : List Bool) (form : List FormTerm) → first_fractional integral form ≡ None → IsWholeForm integral (map term_of form)
form_whole integral [] e = tt
form_whole integral (t ∷ ts) e =
    let parts = some_cond (get_or integral t.col false) t.col (first_fractional integral ts) e in
    (record { coefficient = IsWhole-integer t.coef; column = flag_at integral t.col parts.0 }, form_whole integral ts parts.1)

-- the columns of a form that isn't refused are there
pub form_below : (integral : List Bool) (form : List FormTerm) → form_fault integral form ≡ None → All (λ (t : FormTerm). t.col < length integral) form
form_below integral form e =
    let first = named_none FormOrder (first_out_of_order 0 0 form) (named_fault UnknownColumn (first_unknown (length integral) form) (named_fault NotWhole (first_fractional integral form) None)) e in
    let second = named_none UnknownColumn (first_unknown (length integral) form) (named_fault NotWhole (first_fractional integral form) None) first.1 in
    All-from_recursion (λ (t : FormTerm). t.col < length integral) form (known_below (length integral) form second.0)

pub form_within : (integral : List Bool) (form : List FormTerm) (n : ℕ) → form_fault integral form ≡ None → length integral ≤ n → All (λ (t : FormTerm). t.col < n) form
form_within integral form n e h k d l = omega (arith, h, form_below integral form e k d l)

form_is_whole : (integral : List Bool) (form : List FormTerm) → form_fault integral form ≡ None → IsWholeForm integral (map term_of form)
form_is_whole integral form e =
    let first = named_none FormOrder (first_out_of_order 0 0 form) (named_fault UnknownColumn (first_unknown (length integral) form) (named_fault NotWhole (first_fractional integral form) None)) e in
    let second = named_none UnknownColumn (first_unknown (length integral) form) (named_fault NotWhole (first_fractional integral form) None) first.1 in
    form_whole integral form (named_none NotWhole (first_fractional integral form) None second.1).0

-- ---- the factors

record AreSigned (left right : ℚ) : Type 0 where
  pub left_sign : zeroℚ ≤ℚ left
  pub right_sign : zeroℚ ≤ℚ right

fault_cond : (t : Bool) (fault : SplitFormFault) (rest : Option SplitFormFault) → cond t (Some fault) rest ≡ None → (t ≡ false) × (rest ≡ None)
fault_cond true fault rest e = absurd (none-some fault (sym e))
fault_cond false fault rest e = (refl, e)

signed : (left right : ℚ) → sign_fault left right ≡ None → AreSigned left right
signed left right e =
    let first = fault_cond (lt_test left zeroℚ) _ _ e in
    let second = fault_cond (lt_test right zeroℚ) _ _ first.1 in
    record { left_sign = le_of_lt_test first.0; right_sign = le_of_lt_test second.0 }

-- ---- sums

form_value : (r : Result ℚ Overflow) (q : ℚ) → IfOk r (λ v. v ≡ q) → IfOk (with_form r) (λ v. v ≡ q)
form_value (Ok v) q h = h
form_value (Err overflow) q h = tt

number_value : (z : ℤ) → IfOk (number_of z) (λ q. q ≡ integer z)
number_value z = either (too_large z)
  where
    either : (t : Bool) → IfOk (cond t (Err SplitFormFault.FormWide) (Ok (integer z))) (λ q. q ≡ integer z)
    either true = tt
    either false = refl

whole_product_value : (sum factor : ℚ) (z : ℤ) → IfOk (whole_product_added sum factor z) (λ v. v ≡ sum +ℚ factor *ℚ integer z)
whole_product_value sum factor z =
    ok_followed (λ q. q ≡ integer z) (λ v. v ≡ sum +ℚ factor *ℚ integer z) (number_of z) (λ number. with_form (product_added sum factor number)) (number_value z)
    (λ q e. subst (λ n. IfOk (with_form (product_added sum factor q)) (λ v. v ≡ sum +ℚ factor *ℚ n)) e (form_value (product_added sum factor q) (sum +ℚ factor *ℚ q) (product_added-value sum factor q)))

form_sum : (factor : ℚ) (form : List FormTerm) (ds : List ℚ) → AllByRecursion (λ (t : FormTerm). t.col < length ds) form → IfOk (form_added factor form ds) (Added ds factor (map term_of form))
form_sum factor [] ds h = added_none ds factor
form_sum factor (t ∷ ts) ds h =
    ok_followed (λ v. v ≡ value_at ds t.col +ℚ factor *ℚ integer t.coef) (Added ds factor (map term_of (t ∷ ts))) (whole_product_added (value_at ds t.col) factor t.coef) (λ d. form_added factor ts (set ds t.col d))
    (whole_product_value (value_at ds t.col) factor t.coef)
    (λ d e.
    ok_less (Added (set ds t.col d) factor (map term_of ts)) (Added ds factor (map term_of (t ∷ ts))) (form_added factor ts (set ds t.col d)) (λ es a. added_more ds es factor d (term_of t) (map term_of ts) h.0 e a)
    (form_sum factor ts (set ds t.col d) (subst (λ n. AllByRecursion (λ (t : FormTerm). t.col < n) ts) (sym (length-set ds t.col d)) h.1)))

-- a row with a side of the form added
record IsSided (before : Inequality) (part : Part) (after : Inequality) : Type 0 where
  pub long : length after.coefficients ≡ length before.coefficients
  pub with : IsWithPart before part after

side_sum : (factor : ℚ) (form : List FormTerm) (side : ℤ) (row : Inequality) → AllByRecursion (λ (t : FormTerm). t.col < length row.coefficients) form → IfOk (side_added factor form side row) (IsSided row (record { factor = factor; terms = map term_of form; side = integer side }))
side_sum factor form side row h =
    let part : Part = record { factor = factor; terms = map term_of form; side = integer side } in
    ok_followed (Added row.coefficients factor (map term_of form)) (IsSided row part) (form_added factor form row.coefficients) (λ ds. followed (whole_product_added row.least factor side) (λ more. Ok (record { coefficients = ds; least = more })))
    (form_sum factor form row.coefficients h)
    (λ ds a.
    ok_followed (λ v. v ≡ row.least +ℚ factor *ℚ integer side) (IsSided row part) (whole_product_added row.least factor side) (λ more. Ok (record { coefficients = ds; least = more }))
    (whole_product_value row.least factor side)
    (λ v e. record { long = a.long; with = record { form = a.form; least = e } }))

-- ---- both rows

no_difference : (column : ℕ) (ds es : List ℚ) → length es ≡ length ds → first_difference column ds es ≡ None → es ≡ ds
no_difference column [] [] l e = refl
no_difference column [] (q ∷ es) l e = absurd (omega (arith, l))
no_difference column (d ∷ ds) [] l e = absurd (omega (arith, l))
no_difference column (d ∷ ds) (q ∷ es) l e =
    let parts = some_cond (same_rational d q) column (first_difference (suc column) ds es) e in
    let rest : es ≡ ds = no_difference (suc column) ds es (omega (arith, l)) parts.1 in
    let first : d ≡ q = equal_from_same d q parts.0 in
    ap (λ t. t ∷ es) (sym first) ∙ ap (λ ts. d ∷ ts) rest

record IsJoined (left right row : Inequality) : Type 0 where
  pub of_left : left.coefficients ≡ row.coefficients
  pub of_right : right.coefficients ≡ row.coefficients
  pub least : row.least ≡ minimum left.least right.least

join_same : (left right : Inequality) → length right.coefficients ≡ length left.coefficients → IfOk (joined left right) (IsJoined left right)
join_same left right l =
    ok_unless (IsJoined left right) (named_fault Differs (first_difference 0 left.coefficients right.coefficients) None) (Ok (record { coefficients = left.coefficients; least = minimum left.least right.least }))
    (λ e. record { of_left = refl; of_right = no_difference 0 left.coefficients right.coefficients l (named_none Differs (first_difference 0 left.coefficients right.coefficients) None e).0; least = refl })

part_of_same : (before after : Inequality) (part : Part) (ds : List ℚ) → after.coefficients ≡ ds → IsWithPart before part after → IsWithPart before part (record { coefficients = ds; least = after.least })
part_of_same before after part ds e w = record {
  form = λ point. subst (λ cs. dot cs point ≡ dot before.coefficients point +ℚ part.factor *ℚ activity part.terms point) e (w.form point);
  least = w.least;
}

-- ---- the row

module _ (lent : Lent) (integral : List Bool) (box : List Sides) (columns : ℕ) (cut : SplitCut) (fits : Fits (length box) lent) (room : length box ≤ columns) (flags : length integral ≡ length box) where
  -- a side's row: the sum of its combination with its part
  record IsSideOf (combo : Multiples) (part : Part) (row : Inequality) : Type 0 where
    pub sum : Inequality
    pub is_sum : aggregate_of lent box columns combo ≡ Ok sum
    pub long : length row.coefficients ≡ columns
    pub with : IsWithPart sum part row

  sum_long : (combo : Multiples) (sum : Inequality) → aggregate_of lent box columns combo ≡ Ok sum → length sum.coefficients ≡ columns
  sum_long combo sum e = (subst (λ o. IfOk o (IsSum lent box columns)) e (aggregate_sum lent box columns combo fits room)).sum.long

  below_columns : form_fault integral cut.form.items ≡ None → (sum : Inequality) → length sum.coefficients ≡ columns → AllByRecursion (λ (t : FormTerm). t.col < length sum.coefficients) cut.form.items
  below_columns e sum l = widened cut.form.items (recursion_from_All (λ (t : FormTerm). t.col < length integral) cut.form.items (form_below integral cut.form.items e))
    where
      widened : (form : List FormTerm) → AllByRecursion (λ (t : FormTerm). t.col < length integral) form → AllByRecursion (λ (t : FormTerm). t.col < length sum.coefficients) form
      widened [] h = tt
      widened (t ∷ ts) h = (omega (arith, h.0, flags, room, l), widened ts h.1)

  side_of : form_fault integral cut.form.items ≡ None → (name : CutFault → SplitFormFault) (combo : Multiples) (factor : ℚ) (side : ℤ) → IfOk (followed (on_side name (aggregate_of lent box columns combo)) (side_added factor cut.form.items side)) (IsSideOf combo (record { factor = factor; terms = map term_of cut.form.items; side = integer side }))
  side_of e name combo factor side =
      let part : Part = record { factor = factor; terms = map term_of cut.form.items; side = integer side } in
      ok_followed (λ sum. aggregate_of lent box columns combo ≡ Ok sum) (IsSideOf combo part) (on_side name (aggregate_of lent box columns combo)) (side_added factor cut.form.items side)
      (ok_on_side name (aggregate_of lent box columns combo))
      (λ sum is.
      ok_less (IsSided sum part) (IsSideOf combo part) (side_added factor cut.form.items side sum)
      (λ row s. record { sum = sum; is_sum = is; long = s.long ∙ sum_long combo sum is; with = s.with })
      (side_sum factor cut.form.items side sum (below_columns e sum (sum_long combo sum is))))

  row_of_sides : form_fault integral cut.form.items ≡ None → AreSigned cut.left_factor cut.right_factor → (left right row : Inequality) → IsSideOf (multiples_of cut.left) (left_part (split_form_of cut)) left → IsSideOf (multiples_of cut.right) (right_part (split_form_of cut)) right → IsJoined left right row → IsRowOf lent integral box columns cut row
  row_of_sides e s left right row l r j = record {
    left = l.sum;
    right = r.sum;
    left_sum = l.is_sum;
    right_sum = r.is_sum;
    split = record {
      whole = form_is_whole integral cut.form.items e;
      left_sign = s.left_sign;
      right_sign = s.right_sign;
      left_least = left.least;
      right_least = right.least;
      left_sum = part_of_same l.sum left (left_part (split_form_of cut)) row.coefficients j.of_left l.with;
      right_sum = part_of_same r.sum right (right_part (split_form_of cut)) row.coefficients j.of_right r.with;
      least = j.least;
    };
  }

  pub split_is_row : IfOk (split_of lent integral box columns cut) (IsRowOf lent integral box columns cut)
  split_is_row =
      ok_unless (IsRowOf lent integral box columns cut) (form_fault integral cut.form.items) _
      (λ e. ok_unless (IsRowOf lent integral box columns cut) (sign_fault cut.left_factor cut.right_factor) _
      (λ f. ok_followed (λ q. q ≡ integer (cut.k +ℤ pos 1)) (IsRowOf lent integral box columns cut) (number_of (cut.k +ℤ pos 1)) _ (number_value (cut.k +ℤ pos 1))
      (λ next _. ok_followed (IsSideOf (multiples_of cut.left) (left_part (split_form_of cut))) (IsRowOf lent integral box columns cut) (left_row lent box columns cut) _ (side_of e Left (multiples_of cut.left) (negate cut.left_factor) cut.k)
      (λ left l. ok_followed (IsSideOf (multiples_of cut.right) (right_part (split_form_of cut))) (IsRowOf lent integral box columns cut) (right_row lent box columns cut) (joined left) (side_of e Right (multiples_of cut.right) cut.right_factor (cut.k +ℤ pos 1))
      (λ right r. ok_less (IsJoined left right) (IsRowOf lent integral box columns cut) (joined left right) (λ row j. row_of_sides e (signed cut.left_factor cut.right_factor f) left right row l r j) (join_same left right (r.long ∙ sym l.long)))))))

  -- ---- what follows

  sum_follows : (combo : Multiples) (sum : Inequality) → aggregate_of lent box columns combo ≡ Ok sum → FollowsAt lent box (Holds sum)
  sum_follows combo sum e point r w =
      let s : IsSum lent box columns sum = subst (λ o. IfOk o (IsSum lent box columns)) e (aggregate_sum lent box columns combo fits room) in
      aggregate_holds columns s.parts sum point s.sum (s.kept point r w)

  pub split_follows : IfOk (split_of lent integral box columns cut) (RowFollows lent integral box true)
  split_follows =
      ok_less (IsRowOf lent integral box columns cut) (RowFollows lent integral box true) (split_of lent integral box columns cut)
      (λ row s point r w whole. split_holds integral (split_form_of cut) s.left s.right row point s.split (whole refl) (sum_follows (multiples_of cut.left) s.left s.left_sum point r w) (sum_follows (multiples_of cut.right) s.right s.right_sum point r w))
      split_is_row

  pub follows_so : (ds : List ℚ) (result : Result ℚ SplitFormFault) → MatchResult result (λ least. split_of lent integral box columns cut ≡ Ok (record { coefficients = ds; least = least })) (λ fault. split_of lent integral box columns cut ≡ Err fault) → IfOk result (λ least. RowFollows lent integral box true (record { coefficients = ds; least = least }))
  follows_so ds (Ok least) e = subst (λ o. IfOk o (RowFollows lent integral box true)) e split_follows
  follows_so ds (Err fault) e = tt
