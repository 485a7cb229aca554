-- The tests on the state of a reader tell the fault that the rules tell.
use Rattle.std.proofs.Common.{◌≡◌, ℕ, ◌==◌, Bool, true, false, not, cond, ◌&&◌, ◌||◌, List, [], ◌∷◌, ◌++◌, map, Option, None, Some, refl, sym, ap, subst, ◌∙◌}
use Rattle.std.specs.Prelude.{is_some, unwrap_or}
use Rattle.std.specs.Str.{bytes_eq}
use Rattle.std.specs.Option.{option_map}
use Rattle.std.specs.List.{AllByRecursion, list_any}
use Rattle.std.proofs.lemmas.List.{append-nil}
use Rattle.std.proofs.lemmas.List.Folds.{list_any-append}
use Rattle.std.proofs.lemmas.Bool.{eq-eqb, eqb-true, or_from}
use Rattle.cip_rational.specs.Rational.{ℚ, zeroℚ, absolute}
use Rattle.cip_rational.specs.Range.{sum_overflows, difference_overflows}
use Rattle.cip_rational.specs.Numeral.{Numeral}
use Rattle.cip_rational.proofs.InRange.{IsSound}
use Rattle.cip_text_rules.specs.MpsWords.{End, RowKind, Free, AtMost, AtLeast, EqualTo, is_in, number_in, is_huge}
use Rattle.cip_text_rules.specs.MpsSayings.{LinePlace, Value, Saying, Opens, ColumnLine, RightSideLine, RangeLine, BoundLine}
use Rattle.cip_text_rules.specs.MpsFacts.{GivenRow, Coefficient, Facts, row_names, column_names}
use Rattle.cip_text_rules.specs.MpsBounds.{bounds_so_far, settled, lacks_sides}
use Rattle.cip_text_rules.specs.MpsProgram.{number, number_or_zero, first_value, right_side, moves_low, unsigned, is_free}
use Rattle.cip_text_rules.specs.MpsRules.{Rule, rule, least, rules, fault_of, row_in, side_overflows, row_overflows, has_wide_row, has_wide_side, has_huge_value, has_twins, has_coefficient, has_value_for, repeats_value, ranges_free_row, is_free_row, lacks_objective, values_in, is_no_bound, is_mixed_by, is_out_of_profile}
use Rattle.cip_text_rules.proofs.Quiet.{left_false, right_false}
use Rattle.cip_text_rules.proofs.MpsNames.{same_bytes, other_bytes, number_same}
use Rattle.cip_text_rules.specs.MpsState.{held_on, held_of, value_for, row_read, state_of, row_at, moves_low_side}
use Rattle.cip_text_rules.specs.MpsSteps.{or_else, moved_overflows, overflows_with, has_wide_side_now, holds, has_right_side, has_range, repeats_value_now, is_free_at, ranges_free_row_now, is_out_of_profile_now, tests}
use Rattle.cip_text_rules.proofs.Told.{IsTold, AreSound, told_sound, told_near, is_negative_is, absolute_is}
use Rattle.cip_text_rules.proofs.LookUps.{all_weaker, none_number, row_by_number, column_by_number, row_in_name, row_in_none}
use Rattle.cip_text_rules.proofs.LineBytes.{all_append}
use Rattle.cip_text_rules.proofs.Good.{Good, IsKnown}

-- ---- lists of rules

pub record SameLeast (r q : List Rule) : Type 0 where
  pub same : least r ≡ least q

pub chain : {k : ℕ} {a b : Bool} {r q : List Rule} → a ≡ b → (b ≡ false → SameLeast r q) → SameLeast (rule k a ∷ r) (rule k b ∷ q)
chain {k} {a} {b} {r} {q} e f = go a b refl e f
  where
    go : (x y : Bool) → b ≡ b → x ≡ y → (y ≡ false → SameLeast r q) → SameLeast (rule k x ∷ r) (rule k y ∷ q)
    go true true s e f = record { same = refl }
    go false false s e f = record { same = (f refl).same }
    go true false s e f = absurd (cc)
    go false true s e f = absurd (cc)

list_any_same : {X : Type 0} (p q : X → Bool) → ((x : X) → p x ≡ q x) → (xs : List X) → list_any p xs ≡ list_any q xs
list_any_same p q h [] = refl
list_any_same p q h (x ∷ xs) = let e : p x ≡ q x = h x in let f : list_any p xs ≡ list_any q xs = list_any_same p q h xs in λ i. e i || f i

-- ---- first values

first_value-append : (xs ys : List Value) (name : List ℕ) → first_value (xs ++ ys) name ≡ or_else (first_value xs name) (first_value ys name)
first_value-append [] ys name = refl
first_value-append (x ∷ xs) ys name = go (bytes_eq name x.row) (first_value-append xs ys name)
  where
    go : (b : Bool) → first_value (xs ++ ys) name ≡ or_else (first_value xs name) (first_value ys name)
        → cond b (Some x.number) (first_value (xs ++ ys) name) ≡ or_else (cond b (Some x.number) (first_value xs name)) (first_value ys name)
    go true h = refl
    go false h = h

or_else-number : (a b : Option Numeral) → option_map number (or_else a b) ≡ or_else (option_map number a) (option_map number b)
or_else-number None b = refl
or_else-number (Some x) b = refl

pub value_for-append : (xs ys : List Value) (name : List ℕ) → value_for (xs ++ ys) name ≡ or_else (value_for xs name) (value_for ys name)
value_for-append xs ys name = ap (option_map number) (first_value-append xs ys name) ∙ or_else-number (first_value xs name) (first_value ys name)

pub number_or_zero_is : (o : Option Numeral) → number_or_zero o ≡ unwrap_or (option_map number o) zeroℚ
number_or_zero_is None = refl
number_or_zero_is (Some n) = refl

pub first_holds : (P : Numeral → Type 0) (values : List Value) (name : List ℕ) (numeral : Numeral) → AllByRecursion (λ value. P value.number) values → first_value values name ≡ Some numeral → P numeral
first_holds P [] name numeral h e = absurd (cc)
first_holds P (v ∷ vs) name numeral h e = go (bytes_eq name v.row) e (first_holds P vs name numeral h.1)
  where
    go : (b : Bool) → cond b (Some v.number) (first_value vs name) ≡ Some numeral → (first_value vs name ≡ Some numeral → P numeral) → P numeral
    go true e r = let d : v.number ≡ numeral = cc in subst P d h.0
    go false e r = r e

-- ---- sides

-- a sound number that isn't above the range
abbrev IsNear : Numeral → Type 0
IsNear numeral = IsSound numeral × (is_huge numeral ≡ false)

pub moves_low_is : (kind : RowKind) (range : Numeral) → IsNear range → moves_low kind range ≡ moves_low_side kind (number range)
moves_low_is Free range n = refl
moves_low_is AtMost range n = refl
moves_low_is AtLeast range n = refl
moves_low_is EqualTo range n = is_negative_is range n.0 n.1

pub told_is_near : (numeral : Numeral) → IsTold numeral → IsNear numeral
told_is_near numeral t = (told_sound numeral t, told_near numeral t)

overflow_same : (kind : RowKind) (r : ℚ) (range : Option Numeral) → ((numeral : Numeral) → range ≡ Some numeral → IsNear numeral) → side_overflows kind r range ≡ moved_overflows kind r (option_map number range)
overflow_same kind r None n = refl
overflow_same kind r (Some range) n =
    let near : IsNear range = n range refl in
    let e : moves_low kind range ≡ moves_low_side kind (number range) = moves_low_is kind range near in
    let d : number (unsigned range) ≡ absolute (number range) = absolute_is range near.0 near.1 in
    λ i. not (is_free kind) && cond (e i) (difference_overflows r (d i)) (sum_overflows r (d i))

near_values : (values : List Value) → AreSound values → list_any (λ value. is_huge value.number) values ≡ false → AllByRecursion (λ value. IsNear value.number) values
near_values [] h e = tt
near_values (v ∷ vs) h e = ((h.0, left_false _ _ e), near_values vs h.1 (right_false _ _ e))

-- the row of a name in the state of the facts
pub row_at_is : (place : LinePlace) (facts : Facts) (name : List ℕ) → row_at (state_of place facts) name ≡ option_map (row_read facts) (row_in facts.rows name)
row_at_is place facts name = row_by_number (row_read facts) facts.rows name

wide_at : (place : LinePlace) (facts : Facts) (rs rg : List Value) (name : List ℕ) → AllByRecursion (λ value. IsNear value.number) (facts.ranges ++ rg)
    → overflows_with (value_for rs name) (value_for rg name) (row_at (state_of place facts) name) ≡ row_overflows (facts.right_sides ++ rs) (facts.ranges ++ rg) (row_in facts.rows name)
wide_at place facts rs rg name near =
    ap (overflows_with (value_for rs name) (value_for rg name)) (row_at_is place facts name) ∙ go (row_in facts.rows name) refl
  where
    at : (row : GivenRow) (n : List ℕ) → row.name ≡ n
        → moved_overflows row.kind (unwrap_or (or_else (value_for facts.right_sides row.name) (value_for rs n)) zeroℚ) (or_else (value_for facts.ranges row.name) (value_for rg n))
        ≡ side_overflows row.kind (right_side (facts.right_sides ++ rs) row.name) (first_value (facts.ranges ++ rg) row.name)
    at row n e =
        let a : or_else (value_for facts.right_sides row.name) (value_for rs n) ≡ value_for (facts.right_sides ++ rs) row.name =
        ap (λ m. or_else (value_for facts.right_sides row.name) (value_for rs m)) (sym e) ∙ sym (value_for-append facts.right_sides rs row.name) in
        let b : or_else (value_for facts.ranges row.name) (value_for rg n) ≡ value_for (facts.ranges ++ rg) row.name =
        ap (λ m. or_else (value_for facts.ranges row.name) (value_for rg m)) (sym e) ∙ sym (value_for-append facts.ranges rg row.name) in
        let c : unwrap_or (value_for (facts.right_sides ++ rs) row.name) zeroℚ ≡ right_side (facts.right_sides ++ rs) row.name = sym (number_or_zero_is (first_value (facts.right_sides ++ rs) row.name)) in
        (λ i. moved_overflows row.kind (unwrap_or (a i) zeroℚ) (b i)) ∙ ap (λ x. moved_overflows row.kind x (value_for (facts.ranges ++ rg) row.name)) c
        ∙ sym (overflow_same row.kind (right_side (facts.right_sides ++ rs) row.name) (first_value (facts.ranges ++ rg) row.name) (λ numeral f. first_holds IsNear (facts.ranges ++ rg) row.name numeral near f))

    go : (o : Option GivenRow) → row_in facts.rows name ≡ o → overflows_with (value_for rs name) (value_for rg name) (option_map (row_read facts) o) ≡ row_overflows (facts.right_sides ++ rs) (facts.ranges ++ rg) o
    go None e = refl
    go (Some row) e = at row name (row_in_name facts.rows name row e)

near_ranges : (facts : Facts) → Good facts → AllByRecursion (λ value. IsNear value.number) facts.ranges
near_ranges facts g = all_weaker (λ value. IsTold value.number) _ (λ value t. told_is_near value.number t) facts.ranges g.ranges_told

wide_is : (place : LinePlace) (facts : Facts) (now : Saying) → Good facts → AreSound (values_in now) → has_huge_value now ≡ false → has_wide_side_now (state_of place facts) now ≡ has_wide_side facts now
wide_is place facts (RightSideLine set_name values) g s e =
    list_any_same _ _
    (λ value. wide_at place facts values [] value.row (all_append (λ v. IsNear v.number) facts.ranges [] (near_ranges facts g) tt)) values
    ∙ ap (list_any (has_wide_row facts.rows (facts.right_sides ++ values) (facts.ranges ++ []))) (sym (append-nil values))
wide_is place facts (RangeLine set_name values) g s e =
    list_any_same _ _
    (λ value. wide_at place facts [] values value.row (all_append (λ v. IsNear v.number) facts.ranges values (near_ranges facts g) (near_values values s e))) values
wide_is place facts other g s e = refl

six_is : (place : LinePlace) (facts : Facts) (now : Saying) → Good facts → AreSound (values_in now) → (has_huge_value now || has_wide_side_now (state_of place facts) now) ≡ (has_huge_value now || has_wide_side facts now)
six_is place facts now g s = go (has_huge_value now) refl
  where
    go : (b : Bool) → has_huge_value now ≡ b → (b || has_wide_side_now (state_of place facts) now) ≡ (b || has_wide_side facts now)
    go true e = refl
    go false e = wide_is place facts now g s e

-- ---- second values

unknown_row : (rows columns : List (List ℕ)) (entries : List Coefficient) (column row : List ℕ) → AllByRecursion (IsKnown rows columns) entries → is_in rows row ≡ false → has_coefficient entries column row ≡ false
unknown_row rows columns [] column row h e = refl
unknown_row rows columns (x ∷ xs) column row h e =
    or_from _ _ (not_both (bytes_eq row x.row) (bytes_eq column x.column) (other_bytes row x.row (λ p. let q : is_in rows row ≡ true = ap (is_in rows) p ∙ h.0.row in cc)))
    (unknown_row rows columns xs column row h.1 e)
  where
    not_both : (a b : Bool) → a ≡ false → (a && b) ≡ false
    not_both false b e = refl
    not_both true b e = absurd (cc)

unknown_column : (rows columns : List (List ℕ)) (entries : List Coefficient) (column row : List ℕ) → AllByRecursion (IsKnown rows columns) entries → is_in columns column ≡ false → has_coefficient entries column row ≡ false
unknown_column rows columns [] column row h e = refl
unknown_column rows columns (x ∷ xs) column row h e =
    or_from _ _ (not_both (bytes_eq row x.row) (bytes_eq column x.column) (other_bytes column x.column (λ p. let q : is_in columns column ≡ true = ap (is_in columns) p ∙ h.0.column in cc)))
    (unknown_column rows columns xs column row h.1 e)
  where
    not_both : (a b : Bool) → b ≡ false → (a && b) ≡ false
    not_both false b e = refl
    not_both true b e = e

held_is : (rows columns : List (List ℕ)) (entries : List Coefficient) (column row : List ℕ) (k : ℕ) → AllByRecursion (IsKnown rows columns) entries → number_in columns column ≡ Some k → list_any (λ h. h.column == k) (held_of columns entries row) ≡ has_coefficient entries column row
held_is rows columns [] column row k h e = refl
held_is rows columns (x ∷ xs) column row k h e =
    list_any-append (λ h. h.column == k) (cond (bytes_eq row x.row) (held_on (number_in columns x.column) (number x.number)) []) (held_of columns xs row)
    ∙ both (head (bytes_eq row x.row)) (held_is rows columns xs column row k h.1 e)
  where
    both : {a b c d : Bool} → a ≡ b → c ≡ d → (a || c) ≡ (b || d)
    both p q = λ i. p i || q i

    same_number : (j : ℕ) → number_in columns x.column ≡ Some j → (j == k) ≡ bytes_eq column x.column
    same_number j d = go (j == k) refl
      where
        go : (b : Bool) → (j == k) ≡ b → (j == k) ≡ bytes_eq column x.column
        go true p = p ∙ sym (same_bytes column x.column (number_same columns column x.column k e (d ∙ ap Some (eqb-true j k p))))
        go false p =
            p ∙ sym (other_bytes column x.column (λ q.
            let r : Some k ≡ Some j = sym e ∙ ap (number_in columns) q ∙ d in
            let t : k ≡ j = cc in
            let u : (j == k) ≡ true = eq-eqb j k (sym t) in cc))

    one : (o : Option ℕ) → number_in columns x.column ≡ o → is_in columns x.column ≡ true → list_any (λ h. h.column == k) (held_on o (number x.number)) ≡ bytes_eq column x.column
    one None d f = let q : is_in columns x.column ≡ false = none_number columns x.column d in absurd (cc)
    one (Some j) d f = or_nothing (j == k) ∙ same_number j d
      where
        or_nothing : (b : Bool) → (b || false) ≡ b
        or_nothing true = refl
        or_nothing false = refl

    head : (b : Bool) → list_any (λ h. h.column == k) (cond b (held_on (number_in columns x.column) (number x.number)) []) ≡ (b && bytes_eq column x.column)
    head true = one (number_in columns x.column) refl h.0.column
    head false = refl

holds_is : (place : LinePlace) (facts : Facts) (column row : List ℕ) → Good facts → holds (number_in (column_names facts) column) (row_at (state_of place facts) row) ≡ has_coefficient facts.coefficients column row
holds_is place facts column row g = ap (holds (number_in (column_names facts) column)) (row_at_is place facts row) ∙ go (row_in facts.rows row) refl
  where
    at : (r : GivenRow) → r.name ≡ row → (o : Option ℕ) → number_in (column_names facts) column ≡ o → holds o (Some (row_read facts r)) ≡ has_coefficient facts.coefficients column row
    at r e None d = sym (unknown_column (row_names facts) (column_names facts) facts.coefficients column row g.entries_known (none_number (column_names facts) column d))
    at r e (Some k) d = held_is (row_names facts) (column_names facts) facts.coefficients column r.name k g.entries_known d ∙ ap (has_coefficient facts.coefficients column) e

    go : (o : Option GivenRow) → row_in facts.rows row ≡ o → holds (number_in (column_names facts) column) (option_map (row_read facts) o) ≡ has_coefficient facts.coefficients column row
    go None e = nothing (number_in (column_names facts) column) ∙ sym (unknown_row (row_names facts) (column_names facts) facts.coefficients column row g.entries_known (row_in_none facts.rows row e))
      where
        nothing : (o : Option ℕ) → holds o None ≡ false
        nothing None = refl
        nothing (Some k) = refl
    go (Some r) e = at r (row_in_name facts.rows row r e) (number_in (column_names facts) column) refl

unknown_value : (rows : List (List ℕ)) (values : List Value) (row : List ℕ) → AllByRecursion (λ value. is_in rows value.row ≡ true) values → is_in rows row ≡ false → has_value_for values row ≡ false
unknown_value rows [] row h e = refl
unknown_value rows (v ∷ vs) row h e = or_from _ _ (other_bytes row v.row (λ p. let q : is_in rows row ≡ true = ap (is_in rows) p ∙ h.0 in cc)) (unknown_value rows vs row h.1 e)

value_is : (values : List Value) (row : List ℕ) → is_some (value_for values row) ≡ has_value_for values row
value_is [] row = refl
value_is (v ∷ vs) row = go (bytes_eq row v.row) (value_is vs row)
  where
    go : (b : Bool) → is_some (value_for vs row) ≡ has_value_for vs row → is_some (option_map number (cond b (Some v.number) (first_value vs row))) ≡ (b || has_value_for vs row)
    go true h = refl
    go false h = h

right_side_is : (place : LinePlace) (facts : Facts) (row : List ℕ) → Good facts → has_right_side (row_at (state_of place facts) row) ≡ has_value_for facts.right_sides row
right_side_is place facts row g = ap has_right_side (row_at_is place facts row) ∙ go (row_in facts.rows row) refl
  where
    go : (o : Option GivenRow) → row_in facts.rows row ≡ o → has_right_side (option_map (row_read facts) o) ≡ has_value_for facts.right_sides row
    go None e = sym (unknown_value (row_names facts) facts.right_sides row g.right_sides_known (row_in_none facts.rows row e))
    go (Some r) e = value_is facts.right_sides r.name ∙ ap (has_value_for facts.right_sides) (row_in_name facts.rows row r e)

range_is : (place : LinePlace) (facts : Facts) (row : List ℕ) → Good facts → has_range (row_at (state_of place facts) row) ≡ has_value_for facts.ranges row
range_is place facts row g = ap has_range (row_at_is place facts row) ∙ go (row_in facts.rows row) refl
  where
    go : (o : Option GivenRow) → row_in facts.rows row ≡ o → has_range (option_map (row_read facts) o) ≡ has_value_for facts.ranges row
    go None e = sym (unknown_value (row_names facts) facts.ranges row g.ranges_known (row_in_none facts.rows row e))
    go (Some r) e = value_is facts.ranges r.name ∙ ap (has_value_for facts.ranges) (row_in_name facts.rows row r e)

eleven_is : (place : LinePlace) (facts : Facts) (now : Saying) → Good facts → repeats_value_now (state_of place facts) now ≡ repeats_value facts now
eleven_is place facts (ColumnLine column whole values) g =
    ap (λ b. b || has_twins values) (list_any_same _ _ (λ value. holds_is place facts column value.row g) values)
eleven_is place facts (RightSideLine set_name values) g =
    ap (λ b. b || has_twins values) (list_any_same _ _ (λ value. right_side_is place facts value.row g) values)
eleven_is place facts (RangeLine set_name values) g =
    ap (λ b. b || has_twins values) (list_any_same _ _ (λ value. range_is place facts value.row g) values)
eleven_is place facts other g = refl

-- ---- other tests

free_is : (place : LinePlace) (facts : Facts) (row : List ℕ) → is_free_at (row_at (state_of place facts) row) ≡ is_free_row (row_in facts.rows row)
free_is place facts row = ap is_free_at (row_at_is place facts row) ∙ go (row_in facts.rows row)
  where
    go : (o : Option GivenRow) → is_free_at (option_map (row_read facts) o) ≡ is_free_row o
    go None = refl
    go (Some r) = refl

twenty_is : (place : LinePlace) (facts : Facts) (now : Saying) → ranges_free_row_now (state_of place facts) now ≡ ranges_free_row facts.rows now
twenty_is place facts (RangeLine set_name values) = list_any_same _ _ (λ value. free_is place facts value.row) values
twenty_is place facts other = refl

pub map_twice : {X Y Z : Type 0} (f : Y → Z) (g : X → Y) (xs : List X) → map f (map g xs) ≡ map (λ x. f (g x)) xs
map_twice f g [] = refl
map_twice f g (x ∷ xs) = ap (λ ys. f (g x) ∷ ys) (map_twice f g xs)

profile_is : (place : LinePlace) (facts : Facts) (now : Saying) → is_out_of_profile_now (state_of place facts) now ≡ is_out_of_profile facts now
profile_is place facts (BoundLine kind set_name column value) =
    ap (λ b. is_no_bound kind value || is_mixed_by kind value b) (column_by_number (bounds_so_far facts) facts.columns column)
profile_is place facts (Opens End words) = ap (list_any lacks_sides) (map_twice settled (bounds_so_far facts) facts.columns)
profile_is place facts other = refl

pub tests_same : (place : LinePlace) (facts : Facts) (now : Saying) → Good facts → AreSound (values_in now) → least (tests (state_of place facts) now) ≡ fault_of facts now
tests_same place facts now g s = all.same
  where
    all : SameLeast (tests (state_of place facts) now) (rules facts now)
    all =
        chain refl (λ _. chain refl (λ _. chain refl (λ _. chain refl (λ _. chain refl (λ _.
        chain (six_is place facts now g s) (λ _. chain refl (λ _. chain refl (λ _. chain refl (λ _. chain refl (λ _.
        chain (eleven_is place facts now g) (λ _. chain refl (λ _. chain refl (λ _. chain refl (λ _. chain refl (λ _.
        chain (ap (λ kinds. lacks_objective kinds now) (map_twice (λ row. row.kind) (row_read facts) facts.rows)) (λ _.
        chain refl (λ _. chain refl (λ _. chain (twenty_is place facts now) (λ _.
        chain (profile_is place facts now) (λ _. record { same = refl }))))))))))))))))))))
