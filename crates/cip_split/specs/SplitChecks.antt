-- The check of a split cut as one computation: its row, or the first fault.
use Rattle.std.specs.Prelude.{ℕ, suc, ◌==◌, ◌||◌, ℤ, pos, ◌+ℤ◌, Bool, false, nat_lt, List, [], ◌∷◌, length, Option, None, Some, Result, Ok, Err, if◌then◌else◌, slice_index_or, slice_set}
use Rattle.cip_rational.specs.Rational.{ℚ, negate, integer, minimum, zeroℚ, lt_test}
use Rattle.cip_rational.specs.Range.{magnitude, too_large}
use Rattle.cip_problem.specs.Program.{Sides}
use Rattle.cip_problem.specs.Activity.{value_at}
use Rattle.cip_problem.specs.Aggregate.{Inequality}
use Rattle.cip_frac.specs.Order.{same_rational}
use Rattle.cip_frac.specs.declared.operations.Wide.{Wide as Overflow}
use Rattle.cip_frac.specs.Outcomes.{product_added}
use Rattle.cip_cert.specs.Lent.{Lent, multiples_of}
use Rattle.cip_cert.specs.Checks.{aggregate_of}
use Rattle.cip_cert.specs.declared.faults.CutFault.{CutFault}
use Rattle.cip_cert.specs.declared.splits.FormTerm.{FormTerm}
use Rattle.cip_cert.specs.declared.splits.SplitCut.{SplitCut}
use Rattle.cip_cert.specs.declared.splits.SplitSide.TheVariants.{Left as OnLeft, Right as OnRight}
use Rattle.cip_cert.specs.declared.splits.SplitFormFault.{SplitFormFault}
use Rattle.cip_cert.specs.declared.splits.SplitFormFault.TheVariants.{FormOrder, UnknownColumn, NotWhole, Negative, FormWide, Left, Right, Differs}

-- ---- outcomes

-- what comes after an outcome: a fault stays
abbrev pub followed : {A B : Type 0} → Result A SplitFormFault → (A → Result B SplitFormFault) → Result B SplitFormFault
followed (Ok a) next = next a
followed (Err fault) next = Err fault

-- what comes after a fault, if there is none
abbrev pub unless : {A : Type 0} → Option SplitFormFault → Result A SplitFormFault → Result A SplitFormFault
unless None next = next
unless (Some fault) next = Err fault

-- a fault that names a number, if there is one, or else another fault
abbrev pub named_fault : (ℕ → SplitFormFault) → Option ℕ → Option SplitFormFault → Option SplitFormFault
named_fault name None other = other
named_fault name (Some n) other = Some (name n)

-- the outcome of a side's combination
abbrev pub on_side : {A : Type 0} → (CutFault → SplitFormFault) → Result A CutFault → Result A SplitFormFault
on_side name (Ok a) = Ok a
on_side name (Err fault) = Err (name fault)

-- an operation with the form
abbrev pub with_form : Result ℚ Overflow → Result ℚ SplitFormFault
with_form (Ok q) = Ok q
with_form (Err overflow) = Err FormWide

-- ---- the form

-- a term whose column is below the next that may stand, or whose coefficient is 0
abbrev pub is_out_of_order : ℕ → FormTerm → Bool
is_out_of_order next term = nat_lt term.col next || (magnitude term.coef == 0)

-- the place of the first one, where the first term has this place
abbrev pub first_out_of_order : ℕ → ℕ → List FormTerm → Option ℕ
first_out_of_order at next [] = None
first_out_of_order at next (t ∷ ts) =
    if is_out_of_order next t then Some at else first_out_of_order (suc at) (suc t.col) ts

-- the first column that isn't one of so many
abbrev pub first_unknown : ℕ → List FormTerm → Option ℕ
first_unknown columns [] = None
first_unknown columns (t ∷ ts) = if nat_lt t.col columns then first_unknown columns ts else Some t.col

-- the first column that isn't whole
abbrev pub first_fractional : List Bool → List FormTerm → Option ℕ
first_fractional integral [] = None
first_fractional integral (t ∷ ts) =
    if slice_index_or integral t.col false then first_fractional integral ts else Some t.col

-- what is wrong with a form: its order first, then a column, then a column that isn't whole
abbrev pub form_fault : List Bool → List FormTerm → Option SplitFormFault
form_fault integral form =
    named_fault FormOrder (first_out_of_order 0 0 form)
    (named_fault UnknownColumn (first_unknown (length integral) form)
    (named_fault NotWhole (first_fractional integral form) None))

-- what is wrong with the factors
abbrev pub sign_fault : ℚ → ℚ → Option SplitFormFault
sign_fault left right =
    if lt_test left zeroℚ then Some (Negative OnLeft)
    else (if lt_test right zeroℚ then Some (Negative OnRight) else None)

-- ---- the sums

-- a whole number, if it is in range
abbrev pub number_of : ℤ → Result ℚ SplitFormFault
number_of z = if too_large z then Err FormWide else Ok (integer z)

-- a sum with the product of a factor and a whole number added
abbrev pub whole_product_added : ℚ → ℚ → ℤ → Result ℚ SplitFormFault
whole_product_added sum factor z = followed (number_of z) (λ number. with_form (product_added sum factor number))

-- coefficients with a multiple of a form added, term by term
abbrev pub form_added : ℚ → List FormTerm → List ℚ → Result (List ℚ) SplitFormFault
form_added factor [] ds = Ok ds
form_added factor (t ∷ ts) ds =
    followed (whole_product_added (value_at ds t.col) factor t.coef)
    (λ d. form_added factor ts (slice_set ds t.col d))

-- an inequality with a multiple of a form and of its side added, that of the side last
abbrev pub side_added : ℚ → List FormTerm → ℤ → Inequality → Result Inequality SplitFormFault
side_added factor form side row =
    followed (form_added factor form row.coefficients)
    (λ ds. followed (whole_product_added row.least factor side)
    (λ more. Ok (record { coefficients = ds; least = more })))

-- the left row: the left combination, and the left factor times the form being at most the number
abbrev pub left_row : Lent → List Sides → ℕ → SplitCut → Result Inequality SplitFormFault
left_row lent box columns cut =
    followed (on_side Left (aggregate_of lent box columns (multiples_of cut.left)))
    (side_added (negate cut.left_factor) cut.form.items cut.k)

-- the right row: the right combination, and the right factor times the form being at least the next number
abbrev pub right_row : Lent → List Sides → ℕ → SplitCut → Result Inequality SplitFormFault
right_row lent box columns cut =
    followed (on_side Right (aggregate_of lent box columns (multiples_of cut.right)))
    (side_added cut.right_factor cut.form.items (cut.k +ℤ pos 1))

-- ---- both rows

-- the first column at which two rows differ, where the first one has this number
abbrev pub first_difference : ℕ → List ℚ → List ℚ → Option ℕ
first_difference column [] es = None
first_difference column (d ∷ ds) [] = None
first_difference column (d ∷ ds) (e ∷ es) =
    if same_rational d e then first_difference (suc column) ds es else Some column

-- the coefficients that both rows have, with the lesser right side
abbrev pub joined : Inequality → Inequality → Result Inequality SplitFormFault
joined left right =
    unless (named_fault Differs (first_difference 0 left.coefficients right.coefficients) None)
    (Ok (record { coefficients = left.coefficients; least = minimum left.least right.least }))

-- what `split_row` answers
abbrev pub split_of : Lent → List Bool → List Sides → ℕ → SplitCut → Result Inequality SplitFormFault
split_of lent integral box columns cut =
    unless (form_fault integral cut.form.items)
    (unless (sign_fault cut.left_factor cut.right_factor)
    (followed (number_of (cut.k +ℤ pos 1))
    (λ next. followed (left_row lent box columns cut)
    (λ left. followed (right_row lent box columns cut) (joined left)))))
