-- What the steps of a split cut come to.
use Rattle.std.proofs.Common.{◌≡◌, ℕ, suc, ◌+◌, ◌<◌, ℤ, pos, ◌+ℤ◌, Bool, true, false, true≢false, if◌then◌else◌, List, length, get_or, set, drop, Option, None, Some, Result, Ok, Err, MatchResult, is_err, refl, sym, ap, ◌∙◌, subst, drop-cons, add-one}
use Rattle.cip_rational.specs.Rational.{ℚ, negate, integer}
use Rattle.cip_rational.specs.Range.{too_large}
use Rattle.cip_problem.specs.Program.{Sides}
use Rattle.cip_problem.specs.Activity.{value_at}
use Rattle.cip_problem.specs.Aggregate.{Inequality}
use Rattle.cip_frac.specs.declared.operations.Wide.{Wide as Overflow}
use Rattle.cip_frac.specs.Outcomes.{product_added}
use Rattle.cip_cert.specs.Lent.{Lent, multiples_of}
use Rattle.cip_cert.specs.Checks.{aggregate_of}
use Rattle.cip_cert.specs.declared.faults.CutFault.{CutFault}
use Rattle.cip_cert.specs.declared.splits.FormTerm.{FormTerm}
use Rattle.cip_cert.specs.declared.splits.SplitCut.{SplitCut}
use Rattle.cip_cert.specs.declared.splits.SplitFormFault.{SplitFormFault}
use Rattle.cip_cert.specs.declared.splits.SplitFormFault.TheVariants.{FormWide, Left, Right}
use Rattle.cip_split.specs.SplitChecks.{followed, unless, on_side, with_form, form_fault, sign_fault, number_of, whole_product_added, form_added, side_added, left_row, right_row, joined, split_of}

-- what comes to another outcome is answered as that is
pub answered_as : (outcome other : Result Inequality SplitFormFault) (coefficients : List ℚ) (r : Result ℚ SplitFormFault) → outcome ≡ other
    → MatchResult r (λ least. other ≡ Ok (record { coefficients = coefficients; least = least })) (λ fault. other ≡ Err fault)
    → MatchResult r (λ least. outcome ≡ Ok (record { coefficients = coefficients; least = least })) (λ fault. outcome ≡ Err fault)
answered_as outcome other coefficients r same = subst (λ (x : Result Inequality SplitFormFault). MatchResult r (λ least. x ≡ Ok (record { coefficients = coefficients; least = least })) (λ fault. x ≡ Err fault)) (sym same)

-- ---- sums that come one after the other

abbrev inequality : List ℚ → ℚ → Inequality
inequality coefficients least = record { coefficients = coefficients; least = least }

abbrev with_least : List ℚ → ℚ → Result Inequality SplitFormFault
with_least coefficients more = Ok (inequality coefficients more)

least_comes : (coefficients : List ℚ) (r : Result ℚ SplitFormFault) → MatchResult r (λ more. followed r (with_least coefficients) ≡ Ok (record { coefficients = coefficients; least = more })) (λ fault. followed r (with_least coefficients) ≡ Err fault)
least_comes coefficients (Ok more) = refl
least_comes coefficients (Err fault) = refl

-- once a form is added, its side is
pub side_from : (factor : ℚ) (form : List FormTerm) (side read : ℤ) (row : Inequality) (coefficients : List ℚ) (r : Result ℚ SplitFormFault) → read ≡ side → form_added factor form row.coefficients ≡ Ok coefficients → r ≡ whole_product_added row.least factor read
    → MatchResult r (λ more. side_added factor form side row ≡ Ok (record { coefficients = coefficients; least = more })) (λ fault. side_added factor form side row ≡ Err fault)
side_from factor form side read row coefficients r same h e =
    answered_as (side_added factor form side row) (followed r (with_least coefficients)) coefficients r
    (ap (λ (o : Result (List ℚ) SplitFormFault). followed o (λ (ds : List ℚ). followed (whole_product_added row.least factor side) (with_least ds))) h
    ∙ ap (λ (z : ℤ). followed (whole_product_added row.least factor z) (with_least coefficients)) (sym same)
    ∙ ap (λ (o : Result ℚ SplitFormFault). followed o (with_least coefficients)) (sym e))
    (least_comes coefficients r)

-- a multiple of a form in other words
same_side : (row : Inequality) (factor named_factor : ℚ) (form named_form : List FormTerm) (side named_side : ℤ) → factor ≡ named_factor → form ≡ named_form → side ≡ named_side → side_added named_factor named_form named_side row ≡ side_added factor form side row
same_side row factor named_factor form named_form side named_side f t z =
    ap (λ (q : ℚ). side_added q named_form named_side row) (sym f)
    ∙ ap (λ (ts : List FormTerm). side_added factor ts named_side row) (sym t)
    ∙ ap (λ (n : ℤ). side_added factor form n row) (sym z)

-- once its combination comes, the left row does
pub left_from : (lent : Lent) (box : List Sides) (n : ℕ) (cut : SplitCut) (row : Inequality) (factor : ℚ) (form : List FormTerm) (side : ℤ) (coefficients : List ℚ) (r : Result ℚ SplitFormFault) → aggregate_of lent box n (multiples_of cut.left) ≡ Ok row → factor ≡ negate cut.left_factor → form ≡ cut.form.items → side ≡ cut.k
    → MatchResult r (λ least. side_added factor form side row ≡ Ok (record { coefficients = coefficients; least = least })) (λ fault. side_added factor form side row ≡ Err fault)
    → MatchResult r (λ least. left_row lent box n cut ≡ Ok (record { coefficients = coefficients; least = least })) (λ fault. left_row lent box n cut ≡ Err fault)
left_from lent box n cut row factor form side coefficients r h f t z =
    answered_as (left_row lent box n cut) (side_added factor form side row) coefficients r
    (ap (λ (o : Result Inequality CutFault). followed (on_side Left o) (side_added (negate cut.left_factor) cut.form.items cut.k)) h
    ∙ same_side row factor (negate cut.left_factor) form cut.form.items side cut.k f t z)

-- and the right one
pub right_from : (lent : Lent) (box : List Sides) (n : ℕ) (cut : SplitCut) (row : Inequality) (factor : ℚ) (form : List FormTerm) (side : ℤ) (coefficients : List ℚ) (r : Result ℚ SplitFormFault) → aggregate_of lent box n (multiples_of cut.right) ≡ Ok row → factor ≡ cut.right_factor → form ≡ cut.form.items → side ≡ cut.k +ℤ pos 1
    → MatchResult r (λ least. side_added factor form side row ≡ Ok (record { coefficients = coefficients; least = least })) (λ fault. side_added factor form side row ≡ Err fault)
    → MatchResult r (λ least. right_row lent box n cut ≡ Ok (record { coefficients = coefficients; least = least })) (λ fault. right_row lent box n cut ≡ Err fault)
right_from lent box n cut row factor form side coefficients r h f t z =
    answered_as (right_row lent box n cut) (side_added factor form side row) coefficients r
    (ap (λ (o : Result Inequality CutFault). followed (on_side Right o) (side_added cut.right_factor cut.form.items (cut.k +ℤ pos 1))) h
    ∙ same_side row factor cut.right_factor form cut.form.items side (cut.k +ℤ pos 1) f t z)

-- ---- products

pub number_is_wide : (sum factor : ℚ) (z : ℤ) (fault : SplitFormFault) → Err fault ≡ number_of z → Err fault ≡ whole_product_added sum factor z
number_is_wide sum factor z fault h = ap (λ (r : Result ℚ SplitFormFault). followed r (λ (n : ℚ). with_form (product_added sum factor n))) h

pub product_comes : (sum factor number value : ℚ) (z : ℤ) → number_of z ≡ Ok number → product_added sum factor number ≡ Ok value → whole_product_added sum factor z ≡ Ok value
product_comes sum factor number value z h k =
    ap (λ (r : Result ℚ SplitFormFault). followed r (λ (n : ℚ). with_form (product_added sum factor n))) h
    ∙ ap with_form k

form_wide : (r : Result ℚ Overflow) → is_err r ≡ true → with_form r ≡ Err FormWide
form_wide (Ok q) h = absurd (true≢false (sym h))
form_wide (Err overflow) h = refl

pub product_fails : (sum factor number : ℚ) (z : ℤ) → number_of z ≡ Ok number → is_err (product_added sum factor number) ≡ true → whole_product_added sum factor z ≡ Err FormWide
product_fails sum factor number z h k =
    ap (λ (r : Result ℚ SplitFormFault). followed r (λ (n : ℚ). with_form (product_added sum factor n))) h
    ∙ form_wide (product_added sum factor number) k

-- ---- forms

form_from : (factor : ℚ) (form : List FormTerm) (i : ℕ) (blank : FormTerm) (ds : List ℚ) → i < length form → form_added factor (drop i form) ds ≡ followed (whole_product_added (value_at ds (get_or form i blank).col) factor (get_or form i blank).coef) (λ (d : ℚ). form_added factor (drop (suc i) form) (set ds (get_or form i blank).col d))
form_from factor form i blank ds l = ap (λ (ts : List FormTerm). form_added factor ts ds) (drop-cons form i blank l)

-- a term of a form that is added
pub term_added : (factor : ℚ) (form : List FormTerm) (i : ℕ) (blank : FormTerm) (ds : List ℚ) (d : ℚ) → i < length form → whole_product_added (value_at ds (get_or form i blank).col) factor (get_or form i blank).coef ≡ Ok d → form_added factor (drop i form) ds ≡ form_added factor (drop (i + 1) form) (set ds (get_or form i blank).col d)
term_added factor form i blank ds d l h =
    form_from factor form i blank ds l
    ∙ ap (λ (r : Result ℚ SplitFormFault). followed r (λ (q : ℚ). form_added factor (drop (suc i) form) (set ds (get_or form i blank).col q))) h
    ∙ ap (λ (n : ℕ). form_added factor (drop n form) (set ds (get_or form i blank).col d)) (sym (add-one i))

-- one that isn't
pub term_fails : (factor : ℚ) (form : List FormTerm) (i : ℕ) (blank : FormTerm) (ds : List ℚ) (fault : SplitFormFault) → i < length form → whole_product_added (value_at ds (get_or form i blank).col) factor (get_or form i blank).coef ≡ Err fault → form_added factor (drop i form) ds ≡ Err fault
term_fails factor form i blank ds fault l h =
    form_from factor form i blank ds l
    ∙ ap (λ (r : Result ℚ SplitFormFault). followed r (λ (q : ℚ). form_added factor (drop (suc i) form) (set ds (get_or form i blank).col q))) h

-- ---- rows

module _ (lent : Lent) (integral : List Bool) (box : List Sides) (n : ℕ) (cut : SplitCut) where
  abbrev rows_from : Option SplitFormFault → Option SplitFormFault → Bool → Result Inequality SplitFormFault → Result Inequality SplitFormFault → Result Inequality SplitFormFault
  rows_from form signs wide left right = unless form (unless signs (followed (if wide then Err FormWide else Ok (integer (cut.k +ℤ pos 1))) (λ (next : ℚ). followed left (λ (row : Inequality). followed right (joined row)))))

  -- the form is wrong
  pub form_fails : (fault : SplitFormFault) → form_fault integral cut.form.items ≡ Some fault → split_of lent integral box n cut ≡ Err fault
  form_fails fault h = ap (λ o. rows_from o (sign_fault cut.left_factor cut.right_factor) (too_large (cut.k +ℤ pos 1)) (left_row lent box n cut) (right_row lent box n cut)) h

  module _ (formed : form_fault integral cut.form.items ≡ None) where
    signed : split_of lent integral box n cut ≡ rows_from None (sign_fault cut.left_factor cut.right_factor) (too_large (cut.k +ℤ pos 1)) (left_row lent box n cut) (right_row lent box n cut)
    signed = ap (λ o. rows_from o (sign_fault cut.left_factor cut.right_factor) (too_large (cut.k +ℤ pos 1)) (left_row lent box n cut) (right_row lent box n cut)) formed

    -- a factor is
    pub sign_fails : (fault : SplitFormFault) → sign_fault cut.left_factor cut.right_factor ≡ Some fault → split_of lent integral box n cut ≡ Err fault
    sign_fails fault h = signed ∙ ap (λ o. rows_from None o (too_large (cut.k +ℤ pos 1)) (left_row lent box n cut) (right_row lent box n cut)) h

    module _ (positive : sign_fault cut.left_factor cut.right_factor ≡ None) where
      -- the next number is out of range
      pub number_fails : too_large (cut.k +ℤ pos 1) ≡ true → split_of lent integral box n cut ≡ Err FormWide
      number_fails h =
          signed
          ∙ ap (λ o. rows_from None o (too_large (cut.k +ℤ pos 1)) (left_row lent box n cut) (right_row lent box n cut)) positive
          ∙ ap (λ wide. rows_from None None wide (left_row lent box n cut) (right_row lent box n cut)) h

      module _ (narrow : too_large (cut.k +ℤ pos 1) ≡ false) where
        numbered : split_of lent integral box n cut ≡ rows_from None None false (left_row lent box n cut) (right_row lent box n cut)
        numbered =
            signed
            ∙ ap (λ o. rows_from None o (too_large (cut.k +ℤ pos 1)) (left_row lent box n cut) (right_row lent box n cut)) positive
            ∙ ap (λ wide. rows_from None None wide (left_row lent box n cut) (right_row lent box n cut)) narrow

        -- the left row doesn't come
        pub left_fails : (fault : SplitFormFault) → left_row lent box n cut ≡ Err fault → split_of lent integral box n cut ≡ Err fault
        left_fails fault h = numbered ∙ ap (λ r. rows_from None None false r (right_row lent box n cut)) h

        -- the right row doesn't
        pub right_fails : (left : Inequality) (fault : SplitFormFault) → left_row lent box n cut ≡ Ok left → right_row lent box n cut ≡ Err fault → split_of lent integral box n cut ≡ Err fault
        right_fails left fault h k = numbered ∙ ap (λ r. rows_from None None false r (right_row lent box n cut)) h ∙ ap (λ r. rows_from None None false (Ok left) r) k

        -- both come
        pub rows_come : (left right : Inequality) → left_row lent box n cut ≡ Ok left → right_row lent box n cut ≡ Ok right → split_of lent integral box n cut ≡ joined left right
        rows_come left right h k = numbered ∙ ap (λ r. rows_from None None false r (right_row lent box n cut)) h ∙ ap (λ r. rows_from None None false (Ok left) r) k
