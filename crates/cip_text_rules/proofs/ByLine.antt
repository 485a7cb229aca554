-- The tests of a kind of line, without the rules that it can't break.
use Rattle.std.specs.Prelude.{nat_lt, nat_le, is_none}
use Rattle.cip_problem.specs.Limits.{most_rows, longest_name}
use Rattle.cip_text_rules.specs.MpsProgram.{is_free}
use Rattle.std.proofs.Common.{◌≡◌, ℕ, ◌+◌, Bool, true, false, not, length, ◌&&◌, ◌||◌, cond, List, [], ◌∷◌, Option, None, Some, refl, sym, ap, ◌∙◌, arith}
use Rattle.std.specs.Str.{bytes_eq}
use Rattle.std.specs.List.{position_from, list_any}
use Rattle.cip_problem.specs.Names.{number_of}
use Rattle.cip_rational.specs.Numeral.{Numeral}
use Rattle.cip_text_rules.specs.MpsWords.{Part, NoPart, Title, Sense, Rows, Columns, RightSides, Ranges, Bounds, End, RowKind, BoundKind, next, number_in, is_in, is_no_number, is_too_fine, sense_of}
use Rattle.cip_text_rules.specs.MpsSayings.{Value, Opens, SenseLine, RowLine, ColumnLine, BoundLine}
use Rattle.cip_text_rules.specs.MpsRules.{Rule, rule, least, is_end, has_twins, is_before_last, is_no_bound, is_mixed_by}
use Rattle.cip_text_rules.specs.MpsState.{State, row_at, column_at}
use Rattle.cip_text_rules.specs.MpsSteps.{holds, tests}
use Rattle.cip_text_rules.specs.MpsLineTests.{opening_tests, end_tests, sense_tests, row_tests, column_tests, bound_tests, numbers_of, has_huge, has_unknown, is_full}

pub or_nothing : (b : Bool) → (b || false) ≡ b
or_nothing true = refl
or_nothing false = refl

pub opens : (state : State) (part : Part) (words : List (List ℕ)) → is_end (Opens part words) ≡ false → least (tests state (Opens part words)) ≡ least (opening_tests state part words)
opens state End words e = absurd (cc)
opens state NoPart words e = refl
opens state Title words e = refl
opens state Sense words e = refl
opens state Rows words e = refl
opens state Columns words e = refl
opens state RightSides words e = refl
opens state Ranges words e = refl
opens state Bounds words e = refl

pub ends : (state : State) (words : List (List ℕ)) → least (tests state (Opens End words)) ≡ least (end_tests state words)
ends state words = refl

pub sense : (state : State) (word : List ℕ) → least (tests state (SenseLine word)) ≡ least (sense_tests word)
sense state word = ap (λ t. least (rule 21 t ∷ [])) (or_nothing (is_none (sense_of word)))

pub row : (state : State) (kind : RowKind) (name : List ℕ) → least (tests state (RowLine (Some kind) name)) ≡ least (row_tests state kind name)
row state kind name =
    ap (λ t. least (rule 10 (is_in state.row_names name) ∷ rule 18 t ∷ rule 19 (nat_lt longest_name (length name)) ∷ []))
    (or_nothing (not (is_free kind) && nat_le most_rows state.row_count))

-- the tests of a line of COLUMNS, with this one for kind 6
abbrev column_with : State → List ℕ → Bool → List Value → Bool → List Rule
column_with state column whole values huge =
    rule 5 (list_any is_no_number (numbers_of values))
    ∷ rule 6 huge
    ∷ rule 7 (list_any is_too_fine (numbers_of values))
    ∷ rule 8 (has_unknown state values)
    ∷ rule 11 (list_any (λ value. holds (number_in state.column_names column) (row_at state value.row)) values || has_twins values)
    ∷ rule 12 (is_before_last (number_in state.column_names column) (length state.column_names))
    ∷ rule 18 (is_full state column whole values)
    ∷ rule 19 (nat_lt longest_name (length column))
    ∷ []

pub column : (state : State) (name : List ℕ) (whole : Bool) (values : List Value) → least (tests state (ColumnLine name whole values)) ≡ least (column_tests state name whole values)
column state name whole values = ap (λ t. least (column_with state name whole values t)) (or_nothing (has_huge values))

pub bound : (state : State) (kind : BoundKind) (set_name name : List ℕ) (value : Numeral) → least (tests state (BoundLine kind set_name name value)) ≡ least (bound_tests state kind name value)
bound state kind set_name name value =
    let e = or_nothing (is_no_number value) in
    let d = or_nothing (is_too_fine value) in
    λ i. least (rule 5 (e i) ∷ rule 7 (d i) ∷ rule 9 (not (is_in state.column_names name)) ∷ rule 21 (is_no_bound kind value || is_mixed_by kind value (column_at state name)) ∷ [])

-- ---- numbers of names

abbrev at_next : Option ℕ → ℕ → Option ℕ
at_next None k = None
at_next (Some j) k = Some (k + j)

number_from : (names : List (List ℕ)) (name : List ℕ) (k : ℕ) → position_from (bytes_eq name) k names ≡ at_next (number_in names name) k
number_from [] name k = refl
number_from (x ∷ xs) name k = go (bytes_eq name x) (number_from xs name (k + 1))
  where
    go : (b : Bool) → position_from (bytes_eq name) (k + 1) xs ≡ at_next (number_in xs name) (k + 1) → cond b (Some k) (position_from (bytes_eq name) (k + 1) xs) ≡ at_next (cond b (Some 0) (next (number_in xs name))) k
    go true h = ap Some (omega arith)
    go false h = h ∙ shift (number_in xs name)
      where
        shift : (o : Option ℕ) → at_next o (k + 1) ≡ at_next (next o) k
        shift None = refl
        shift (Some j) = ap Some (omega arith)

pub number_is : (names : List (List ℕ)) (name : List ℕ) → number_in names name ≡ number_of names name
number_is names name = sym (number_from names name 0 ∙ none_more (number_in names name))
  where
    none_more : (o : Option ℕ) → at_next o 0 ≡ o
    none_more None = refl
    none_more (Some j) = ap Some (omega arith)
