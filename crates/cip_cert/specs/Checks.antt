-- The check of a combination as one computation: what it comes to, or the first fault in the order of entries and
-- columns.
use Rattle.std.specs.Prelude.{ℕ, suc, ◌+◌, ◌==◌, Bool, false, nat_lt, List, [], ◌∷◌, length, replicate, Option, None, Some, Result, Ok, Err, if◌then◌else◌, slice_get, slice_set}
use Rattle.cip_rational.specs.Rational.{ℚ, ◌-ℚ◌, ◌*ℚ◌, negate, inverse, integer, zeroℚ, oneℚ, le_test, lt_test, floor, ceil}
use Rattle.cip_rational.specs.Range.{difference_overflows, quotient_overflows}
use Rattle.cip_problem.specs.Program.{Term, Sides, Row}
use Rattle.cip_problem.specs.Activity.{value_at}
use Rattle.cip_problem.specs.Box.{sides_at, box_inside}
use Rattle.cip_problem.specs.Aggregate.{Part, Inequality}
use Rattle.cip_problem.specs.Cuts.{rounded}
use Rattle.cip_frac.specs.declared.operations.Wide.{Wide as Overflow}
use Rattle.cip_frac.specs.Outcomes.{product_added}
use Rattle.cip_node_rules.specs.RowRules.{most_multiples, stops_rounding}
use Rattle.cip_lin.specs.declared.combos.RowId.{RowId}
use Rattle.cip_lin.specs.declared.combos.RowId.TheVariants.{Own, Pool, Cutoff}
use Rattle.cip_lin.specs.declared.combos.RowMultiple.{RowMultiple}
use Rattle.cip_lin.specs.declared.combos.ColumnMultiple.{ColumnMultiple}
use Rattle.cip_cert.specs.declared.rows.PoolRow.{PoolRow}
use Rattle.cip_cert.specs.Pool.{pool_row}
use Rattle.cip_cert.specs.Lent.{Lent, Multiples, count_of}
use Rattle.cip_cert.specs.declared.faults.FaultPlace.{FaultPlace}
use Rattle.cip_cert.specs.declared.faults.FaultPlace.TheVariants.{Entry, Column}
use Rattle.cip_cert.specs.declared.faults.CutFault.{CutFault}
use Rattle.cip_cert.specs.declared.faults.CutFault.TheVariants.{TooLong, UnknownRow, UnknownColumn, NotInScope, WrongSign, NoSide, Wide, NotWhole, NotPositive, NotImplied}

-- what comes after an outcome: a fault stays
abbrev pub chain : {A B : Type 0} → Result A CutFault → (A → Result B CutFault) → Result B CutFault
chain (Ok a) next = next a
chain (Err fault) next = Err fault

-- an operation at a place, which says where it overflows
abbrev pub placed : FaultPlace → Result ℚ Overflow → Result ℚ CutFault
placed place (Ok q) = Ok q
placed place (Err overflow) = Err (Wide place)

-- ---- rows by their names

abbrev pub known : ℕ → Option Row → Result Row CutFault
known entry None = Err (UnknownRow entry)
known entry (Some row) = Ok row

-- a row of the pool may be used in boxes inside its scope
abbrev pub in_scope : ℕ → List Sides → Option PoolRow → Result Row CutFault
in_scope entry box None = Err (UnknownRow entry)
in_scope entry box (Some kept) = if box_inside box kept.scope then Ok kept.row else Err (NotInScope entry)

-- the row that an entry names
abbrev pub named_row : Lent → List Sides → ℕ → RowId → Result Row CutFault
named_row lent box entry (Own number) = known entry (slice_get lent.own number)
named_row lent box entry (Pool id) = in_scope entry box (pool_row lent.pool id)
named_row lent box entry Cutoff = known entry lent.cutoff

-- ---- one entry

-- a part that uses a side, if that is there
abbrev pub side_part : ℕ → ℚ → List Term → Option ℚ → Result Part CutFault
side_part entry factor terms None = Err (NoSide (Entry entry))
side_part entry factor terms (Some side) = Ok (record { factor = factor; terms = terms; side = side })

-- a multiple of a row: with a factor above 0 of its low side, with one below 0 of its high side
abbrev pub row_part : ℕ → ℚ → Row → Result Part CutFault
row_part entry factor row =
    if lt_test zeroℚ factor then side_part entry factor row.terms row.low
    else (if lt_test factor zeroℚ then side_part entry factor row.terms row.high else Err (WrongSign entry))

-- a column as a sum of one term
abbrev pub column_terms : ℕ → List Term
column_terms column = record { column = column; coefficient = oneℚ } ∷ []

-- a multiple of the low side of a column of the box, with a factor above 0
abbrev pub low_part : List Sides → ℕ → ColumnMultiple → Result Part CutFault
low_part box entry multiple =
    if nat_lt multiple.col (length box) then
    (if lt_test zeroℚ multiple.factor then
    side_part entry multiple.factor (column_terms multiple.col) (sides_at box multiple.col).low
    else Err (WrongSign entry))
    else Err (UnknownColumn entry)

-- a multiple of the high side of a column of the box, with a factor below 0
abbrev pub high_part : List Sides → ℕ → ColumnMultiple → Result Part CutFault
high_part box entry multiple =
    if nat_lt multiple.col (length box) then
    (if lt_test multiple.factor zeroℚ then
    side_part entry multiple.factor (column_terms multiple.col) (sides_at box multiple.col).high
    else Err (WrongSign entry))
    else Err (UnknownColumn entry)

-- coefficients with the terms of a part added, one after another: the product is formed and then the sum
abbrev pub add_terms : ℕ → ℚ → List Term → List ℚ → Result (List ℚ) CutFault
add_terms entry factor [] ds = Ok ds
add_terms entry factor (t ∷ ts) ds =
    chain (placed (Entry entry) (product_added (value_at ds t.column) factor t.coefficient))
    (λ d. add_terms entry factor ts (slice_set ds t.column d))

-- the side's product is added last
abbrev pub add_side : ℕ → Part → ℚ → List ℚ → Result Inequality CutFault
add_side entry part least ds =
    chain (placed (Entry entry) (product_added least part.factor part.side))
    (λ more. Ok (record { coefficients = ds; least = more }))

-- an inequality with a part added
abbrev pub add_part : ℕ → Inequality → Part → Result Inequality CutFault
add_part entry row part =
    chain (add_terms entry part.factor part.terms row.coefficients) (add_side entry part row.least)

-- ---- all entries

abbrev pub add_row : Lent → List Sides → ℕ → RowMultiple → Inequality → Result Inequality CutFault
add_row lent box entry multiple row =
    chain (chain (named_row lent box entry multiple.row) (row_part entry multiple.factor)) (add_part entry row)

abbrev pub add_low : List Sides → ℕ → ColumnMultiple → Inequality → Result Inequality CutFault
add_low box entry multiple row = chain (low_part box entry multiple) (add_part entry row)

abbrev pub add_high : List Sides → ℕ → ColumnMultiple → Inequality → Result Inequality CutFault
add_high box entry multiple row = chain (high_part box entry multiple) (add_part entry row)

-- an inequality with rows added, the first of which is this entry
abbrev pub add_rows : Lent → List Sides → ℕ → List RowMultiple → Inequality → Result Inequality CutFault
add_rows lent box entry [] row = Ok row
add_rows lent box entry (m ∷ ms) row = chain (add_row lent box entry m row) (add_rows lent box (suc entry) ms)

abbrev pub add_lows : List Sides → ℕ → List ColumnMultiple → Inequality → Result Inequality CutFault
add_lows box entry [] row = Ok row
add_lows box entry (m ∷ ms) row = chain (add_low box entry m row) (add_lows box (suc entry) ms)

abbrev pub add_highs : List Sides → ℕ → List ColumnMultiple → Inequality → Result Inequality CutFault
add_highs box entry [] row = Ok row
add_highs box entry (m ∷ ms) row = chain (add_high box entry m row) (add_highs box (suc entry) ms)

-- no coefficient and no right side
abbrev pub nothing : ℕ → Inequality
nothing columns = record { coefficients = replicate columns zeroℚ; least = zeroℚ }

-- rows first, then low sides, then high sides
abbrev pub add_all : Lent → List Sides → Multiples → Inequality → Result Inequality CutFault
add_all lent box combo row =
    chain (chain (add_rows lent box 0 combo.rows row) (add_lows box (length combo.rows) combo.lows))
    (add_highs box (length combo.rows + length combo.lows) combo.highs)

-- the aggregated row of a combination, on so many columns
abbrev pub aggregate_of : Lent → List Sides → ℕ → Multiples → Result Inequality CutFault
aggregate_of lent box columns combo =
    if nat_lt most_multiples (count_of combo) then Err TooLong else add_all lent box combo (nothing columns)

-- ---- rounding

-- the first column whose coefficient doesn't, the first of them with this number
abbrev pub first_stop : ℕ → List Bool → List ℚ → Option ℕ
first_stop column [] ds = None
first_stop column (whole ∷ others) [] = None
first_stop column (whole ∷ others) (d ∷ ds) =
    if stops_rounding whole d then Some column else first_stop (suc column) others ds

abbrev pub round_unless : Option ℕ → Inequality → Result Inequality CutFault
round_unless None row = Ok (rounded row)
round_unless (Some column) row = Err (NotWhole column)

abbrev pub round_if : Bool → List Bool → Inequality → Result Inequality CutFault
round_if round integral row = if round then round_unless (first_stop 0 integral row.coefficients) row else Ok row

-- what `derive` answers
abbrev pub derived : Lent → List Bool → List Sides → ℕ → Multiples → Bool → Result Inequality CutFault
derived lent integral box columns combo round =
    chain (aggregate_of lent box columns combo) (round_if round integral)

-- ---- bounds

abbrev pub side_added : ℕ → ℚ → ℚ → Option ℚ → Result ℚ CutFault
side_added column sum rest None = Err (NoSide (Column column))
side_added column sum rest (Some side) = placed (Column column) (product_added sum rest side)

-- a sum with the least product of a rest and a value between two sides added; a rest of 0 adds nothing
abbrev pub rest_added : ℕ → ℚ → ℚ → Sides → Result ℚ CutFault
rest_added column sum rest sides =
    if lt_test zeroℚ rest then side_added column sum rest sides.low
    else (if lt_test rest zeroℚ then side_added column sum rest sides.high else Ok sum)

-- a cost less a coefficient
abbrev pub rest_of : ℕ → ℚ → ℚ → Result ℚ CutFault
rest_of column cost d = if difference_overflows cost d then Err (Wide (Column column)) else Ok (cost -ℚ d)

-- a sum with the least rests of all columns of a box added, by rising column, the first of them with this number
abbrev pub bound_from : ℕ → ℚ → List ℚ → List ℚ → List Sides → Result ℚ CutFault
bound_from column sum [] ds box = Ok sum
bound_from column sum (cost ∷ costs) [] box = Ok sum
bound_from column sum (cost ∷ costs) (d ∷ ds) [] = Ok sum
bound_from column sum (cost ∷ costs) (d ∷ ds) (sides ∷ box) =
    chain (chain (rest_of column cost d) (λ rest. rest_added column sum rest sides))
    (λ more. bound_from (suc column) more costs ds box)

-- whether a column is the one that is named
abbrev pub is_named : Option ℕ → ℕ → Bool
is_named None column = false
is_named (Some named) column = named == column

-- the same for one column where its cost is 0, or, where it is named, its coefficient
abbrev pub own_rest_added : Option ℕ → ℕ → ℚ → ℚ → Sides → Result ℚ CutFault
own_rest_added named column sum d sides =
    if is_named named column then Ok sum else rest_added column sum (negate d) sides

-- the same for all columns of a box
abbrev pub rests_from : Option ℕ → ℕ → ℚ → List ℚ → List Sides → Result ℚ CutFault
rests_from named column sum [] box = Ok sum
rests_from named column sum (d ∷ ds) [] = Ok sum
rests_from named column sum (d ∷ ds) (sides ∷ box) =
    chain (own_rest_added named column sum d sides) (λ more. rests_from named (suc column) more ds box)

-- what `lower_bound` answers
abbrev pub lower_bound_of : Lent → List Sides → ℕ → List ℚ → Multiples → Result ℚ CutFault
lower_bound_of lent box columns costs combo =
    chain (aggregate_of lent box columns combo) (λ row. bound_from 0 row.least costs row.coefficients box)

-- what `empties` computes, and answers where it is above 0
abbrev pub rests_of : Lent → List Sides → ℕ → Option ℕ → Multiples → Result ℚ CutFault
rests_of lent box columns named combo =
    chain (aggregate_of lent box columns combo) (λ row. rests_from named 0 row.least row.coefficients box)

abbrev pub positive : ℚ → Result ℚ CutFault
positive bound = if lt_test zeroℚ bound then Ok bound else Err (NotPositive bound)

abbrev pub emptied : Lent → List Sides → ℕ → Multiples → Result ℚ CutFault
emptied lent box columns combo = chain (rests_of lent box columns None combo) positive

-- ---- single bounds

-- the quotient of a bound by a coefficient, rounded inward where the column is whole
abbrev pub quotient_at : ℕ → ℚ → ℚ → Result ℚ CutFault
quotient_at column bound d =
    if quotient_overflows bound d then Err (Wide (Column column)) else Ok (bound *ℚ inverse d)

abbrev pub round_up_if : Bool → ℚ → ℚ
round_up_if whole q = if whole then integer (ceil q) else q

abbrev pub round_down_if : Bool → ℚ → ℚ
round_down_if whole q = if whole then integer (floor q) else q

-- a low side that is implied, if the coefficient is above 0
abbrev pub implied_low : ℕ → Bool → ℚ → ℚ → Result (Option ℚ) CutFault
implied_low column whole d bound =
    if lt_test zeroℚ d then chain (quotient_at column bound d) (λ q. Ok (Some (round_up_if whole q))) else Ok None

-- a high side that is implied, if the coefficient is below 0
abbrev pub implied_high : ℕ → Bool → ℚ → ℚ → Result (Option ℚ) CutFault
implied_high column whole d bound =
    if lt_test d zeroℚ then chain (quotient_at column bound d) (λ q. Ok (Some (round_down_if whole q))) else Ok None

-- a low side is implied where a side at least as strong is
abbrev pub low_allowed : ℚ → Option ℚ → Result ℚ CutFault
low_allowed value None = Err (NotImplied None)
low_allowed value (Some side) = if le_test value side then Ok value else Err (NotImplied (Some side))

abbrev pub high_allowed : ℚ → Option ℚ → Result ℚ CutFault
high_allowed value None = Err (NotImplied None)
high_allowed value (Some side) = if le_test side value then Ok value else Err (NotImplied (Some side))

-- what `reduction` answers for a low side of a column
abbrev pub low_reduced : Lent → Bool → List Sides → ℕ → ℕ → ℚ → Multiples → Result ℚ CutFault
low_reduced lent whole box columns column value combo =
    chain (aggregate_of lent box columns combo)
    (λ row. chain (rests_from (Some column) 0 row.least row.coefficients box)
    (λ bound. chain (implied_low column whole (value_at row.coefficients column) bound) (low_allowed value)))

-- what it answers for a high side
abbrev pub high_reduced : Lent → Bool → List Sides → ℕ → ℕ → ℚ → Multiples → Result ℚ CutFault
high_reduced lent whole box columns column value combo =
    chain (aggregate_of lent box columns combo)
    (λ row. chain (rests_from (Some column) 0 row.least row.coefficients box)
    (λ bound. chain (implied_high column whole (value_at row.coefficients column) bound) (high_allowed value)))
