-- What is left of a program in work at the end is an exact pair with the program.
use Rattle.std.proofs.Common.{◌≡◌, ◌⊎◌, ℕ, zero, suc, ◌<◌, ◌≤◌, Bool, true, false, List, [], ◌∷◌, length, Option, None, Some, IfSome, slice_get, refl, sym, ap, ◌∙◌, subst, arith, true≢false, inl, inr}
use Rattle.std.specs.Prelude.{map, not, ◌&&◌, ◌||◌, All, ⊤, slice_index_or}
use Rattle.std.specs.List.{AllByRecursion}
use Rattle.std.proofs.lemmas.Option.{slice_get_within}
use Rattle.std.proofs.lemmas.Bool.{or_parts, or_cases}
use Rattle.cip_rational.specs.Rational.{ℚ, ◌≤ℚ◌}
use Rattle.cip_problem.specs.Program.{Choice, Term, Sides, Row, Program}
use Rattle.cip_problem.specs.WellFormed.{IsWellFormed, IsChoice, columns}
use Rattle.cip_problem.specs.Limits.{most_columns}
use Rattle.cip_problem.specs.Activity.{activity, StandsBelow}
use Rattle.cip_problem.specs.Box.{sides_at}
use Rattle.cip_problem.specs.Choices.{choice_at}
use Rattle.cip_problem.specs.Points.{IsSatisfied, IsFeasible}
use Rattle.cip_problem.proofs.Points.AtPlaces.{IsInBox-long}
use Rattle.cip_presolve.specs.NarrowedPrograms.{AllSatisfied, IsTightened, IsStep, IsExactStep, IsInfeasible}
use Rattle.cip_presolve.specs.Forms.{Form, spread, gathered, kept_at, kept_from, renumbered}
use Rattle.cip_presolve.specs.Pairs.{IsHeldFast, IsPair, IsExactPair}
use Rattle.cip_presolve.specs.Compacting.{IsCompacted, AreLeft, HoldsBack, rows_left}
use Rattle.cip_search.proofs.Inside.{all_long}
use Rattle.cip_search.proofs.Pairing.{exact_step, infeasible_before, step_pair, pair_after, exact_step_pair, exact_pair_after}
use Rattle.cip_search.proofs.Spreading.{left_back, left_onward, spread_gathered, gathered_at}
use Rattle.cip_search.proofs.CompactPairs.{compacted_exact}
use Rattle.cip_presolve.proofs.FixedColumns.{from_rec, to_rec}
use Rattle.cip_presolve.specs.DraftParts.{IsDraft, unnamed}
use Rattle.cip_presolve.specs.ColumnsOut.{GoesAtValue, GoesByForm, MayGo, MayAllGo, TermsIn, SourcesStay}
use Rattle.cip_presolve.specs.SpentRows.{RowGoes, RowsGo}
use Rattle.cip_presolve.specs.EntriesLeft.{gone_of, entries_left, old_numbers, new_numbers}
use Rattle.cip_presolve.specs.LeftProgram.{has_no_terms, is_open_side, says_nothing, stands_on_gone, is_dropped, dropped_rows, staying_rows, moved_term, moved_row, AllMove, left_program, CanLeave}
use Rattle.cip_presolve.proofs.Gone.{length-gone, left_gathered, old_numbers_kept, in_by_flag, flag_of_in, gone_column, gone_value, spent_holds, new_number, length-numbers, moved_terms, terms_rise}

-- ---- rows that say nothing

and3 : (a b c : Bool) → (a && b && c) ≡ true → (b ≡ true) × (c ≡ true)
and3 true true true h = (refl, refl)
and3 true true false h = absurd (true≢false (sym h))
and3 true false c h = absurd (true≢false (sym h))
and3 false b c h = absurd (true≢false (sym h))

open_above : (low : Option ℚ) (v : ℚ) → is_open_side low ≡ true → IfSome low (λ side. side ≤ℚ v)
open_above None v e = tt
open_above (Some low) v e = absurd (true≢false (sym e))

open_below : (high : Option ℚ) (v : ℚ) → is_open_side high ≡ true → IfSome high (λ side. v ≤ℚ side)
open_below None v e = tt
open_below (Some high) v e = absurd (true≢false (sym e))

blank_holds : (row : Row) (x : List ℚ) → says_nothing row ≡ true → IsSatisfied row x
blank_holds row x h =
    let p = and3 (has_no_terms row.terms) (is_open_side row.low) (is_open_side row.high) h in
    record { above = open_above row.low (activity row.terms x) p.0; below = open_below row.high (activity row.terms x) p.1 }

-- ---- rows that are left

abbrev stay_flags : List Bool → List Row → List Bool
stay_flags gone [] = []
stay_flags gone (r ∷ rs) = not (is_dropped gone r) ∷ stay_flags gone rs

-- terms on columns that aren't gone stand on columns that stay
terms_in : (forms : List (Option Form)) (terms : List Term) → AllByRecursion (λ t. t.column < length forms) terms → stands_on_gone (gone_of forms) terms ≡ false → TermsIn forms terms
terms_in forms [] below e = tt
terms_in forms (t ∷ ts) below e =
    let p = or_parts (slice_index_or (gone_of forms) t.column false) (stands_on_gone (gone_of forms) ts) e in
    (in_by_flag forms t.column below.0 p.0, terms_in forms ts below.1 p.1)

none_gone : (forms : List (Option Form)) (terms : List Term) → TermsIn forms terms → stands_on_gone (gone_of forms) terms ≡ false
none_gone forms [] h = refl
none_gone forms (t ∷ ts) h = ap (λ b. b || stands_on_gone (gone_of forms) ts) (flag_of_in forms t.column h.0) ∙ none_gone forms ts h.1

row_in : (forms : List (Option Form)) (row : Row) → AllByRecursion (λ t. t.column < length forms) row.terms → is_dropped (gone_of forms) row ≡ false → TermsIn forms row.terms
row_in forms row below e = terms_in forms row.terms below (or_parts (says_nothing row) (stands_on_gone (gone_of forms) row.terms) e).1

-- rows that aren't dropped stand on columns that stay
abbrev KeptIn : List (Option Form) → List Bool → List Row → Type 0
KeptIn forms [] rows = ⊤
KeptIn forms (d ∷ dropped) [] = ⊤
KeptIn forms (true ∷ dropped) (r ∷ rs) = KeptIn forms dropped rs
KeptIn forms (false ∷ dropped) (r ∷ rs) = TermsIn forms r.terms × KeptIn forms dropped rs

abbrev RowsBelow : ℕ → List Row → Type 0
RowsBelow n rows = AllByRecursion (λ row. AllByRecursion (λ t. t.column < n) row.terms) rows

one_kept : (forms : List (Option Form)) (d : Bool) (dropped : List Bool) (r : Row) (rs : List Row) → AllByRecursion (λ t. t.column < length forms) r.terms → is_dropped (gone_of forms) r ≡ d → KeptIn forms dropped rs → KeptIn forms (d ∷ dropped) (r ∷ rs)
one_kept forms true dropped r rs below e k = k
one_kept forms false dropped r rs below e k = (row_in forms r below e, k)

kept_in : (forms : List (Option Form)) (rows : List Row) → RowsBelow (length forms) rows → KeptIn forms (dropped_rows (gone_of forms) rows) rows
kept_in forms [] below = tt
kept_in forms (r ∷ rs) below = one_kept forms (is_dropped (gone_of forms) r) (dropped_rows (gone_of forms) rs) r rs below.0 refl (kept_in forms rs below.1)

rows_rec : (n : ℕ) (rows : List Row) → AllByRecursion (λ row. StandsBelow n row.terms) rows → RowsBelow n rows
rows_rec n [] h = tt
rows_rec n (r ∷ rs) h = (to_rec (λ t. t.column < n) r.terms h.0, rows_rec n rs h.1)

rows_below_of : (n : ℕ) (rows : List Row) → All (λ row. StandsBelow n row.terms) rows → RowsBelow n rows
rows_below_of n rows h = rows_rec n rows (to_rec (λ row. StandsBelow n row.terms) rows h)

-- a row that is dropped holds at each point that comes back
dropped_holds : (compacted : Program) (forms : List (Option Form)) (row : Row) → SourcesStay forms → RowGoes forms row → (says_nothing row ≡ true) ⊎ (stands_on_gone (gone_of forms) row.terms ≡ true) → HoldsBack compacted forms row
dropped_holds compacted forms row s g (inl e) point q = blank_holds row (spread forms point) e
dropped_holds compacted forms row s (inl h) (inr e) point q = absurd (true≢false (sym e ∙ none_gone forms row.terms h))
dropped_holds compacted forms row s (inr h) (inr e) point q = spent_holds compacted forms row s h point q

module _ (forms : List (Option Form)) where
  one_row : (t : Bool) (r : Row) (rs : List Row) → AllByRecursion (λ t. t.column < length forms) r.terms → is_dropped (gone_of forms) r ≡ t → map (moved_row (new_numbers 0 (gone_of forms))) (staying_rows (gone_of forms) rs) ≡ rows_left forms (stay_flags (gone_of forms) rs) rs → map (moved_row (new_numbers 0 (gone_of forms))) (entries_left (t ∷ dropped_rows (gone_of forms) rs) (r ∷ rs)) ≡ rows_left forms (not t ∷ stay_flags (gone_of forms) rs) (r ∷ rs)
  one_row true r rs below e k = k
  one_row false r rs below e k =
      ap (λ ts. record r { terms = ts } ∷ map (moved_row (new_numbers 0 (gone_of forms))) (staying_rows (gone_of forms) rs)) (moved_terms forms r.terms (row_in forms r below e))
      ∙ ap (λ others. renumbered forms r ∷ others) k

  moved_rows : (rows : List Row) → RowsBelow (length forms) rows → map (moved_row (new_numbers 0 (gone_of forms))) (staying_rows (gone_of forms) rows) ≡ rows_left forms (stay_flags (gone_of forms) rows) rows
  moved_rows [] h = refl
  moved_rows (r ∷ rs) h = one_row (is_dropped (gone_of forms) r) r rs h.0 refl (moved_rows rs h.1)

  one_left : (compacted : Program) (sources : SourcesStay forms) (t : Bool) (r : Row) (rs : List Row) → AllByRecursion (λ t. t.column < length forms) r.terms → is_dropped (gone_of forms) r ≡ t → RowGoes forms r → AreLeft compacted forms (stay_flags (gone_of forms) rs) rs → AreLeft compacted forms (not t ∷ stay_flags (gone_of forms) rs) (r ∷ rs)
  one_left compacted sources true r rs below e g k = (dropped_holds compacted forms r sources g (or_cases (says_nothing r) (stands_on_gone (gone_of forms) r.terms) e), k)
  one_left compacted sources false r rs below e g k = (row_in forms r below e, k)

  are_left : (compacted : Program) (sources : SourcesStay forms) (rows : List Row) → RowsBelow (length forms) rows → RowsGo forms rows → AreLeft compacted forms (stay_flags (gone_of forms) rows) rows
  are_left compacted sources [] below h = tt
  are_left compacted sources (r ∷ rs) below h = one_left compacted sources (is_dropped (gone_of forms) r) r rs below.0 refl h.0 (are_left compacted sources rs below.1 h.1)

-- ---- the compacted program

-- a draft with the names of a program
abbrev renamed : Program → Program → Program
renamed program draft = record draft { column_names = program.column_names; row_names = program.row_names; maximized = program.maximized }

renamed_at_value : (program draft : Program) (column : ℕ) (form : Form) → GoesAtValue draft column form → GoesAtValue (renamed program draft) column form
renamed_at_value program draft column form g = record {
  value = g.value;
  is = g.is;
  free = record { plain = g.free.plain; free = g.free.free };
  fixed = record { low = g.fixed.low; high = g.fixed.high };
  whole = g.whole;
  in_range = g.in_range;
}

renamed_by_form : (program draft : Program) (column : ℕ) (form : Form) → GoesByForm draft column form → GoesByForm (renamed program draft) column form
renamed_by_form program draft column form g = record {
  free = record { plain = g.free.plain; free = g.free.free };
  inside = g.inside;
  nonzero = g.nonzero;
  keeps = g.keeps;
  forced = λ point r. g.forced point (record { within = r.within; rows = r.rows });
  whole = λ w. let k = g.whole w in record { in_range = k.in_range; source = k.source; assigns = k.assigns };
}

renamed_goes : (program draft : Program) (column : ℕ) (form : Form) → MayGo draft column form → MayGo (renamed program draft) column form
renamed_goes program draft column form (inl g) = inl (renamed_at_value program draft column form g)
renamed_goes program draft column form (inr g) = inr (renamed_by_form program draft column form g)

renamed_may : (program draft : Program) (forms : List (Option Form)) → MayAllGo draft forms → MayAllGo (renamed program draft) forms
renamed_may program draft forms m = record { long = m.long; each = λ column form h. renamed_goes program draft column form (m.each column form h) }

-- what is known of the columns that are left out and of the rows
pub record Leaves (draft : Program) (forms : List (Option Form)) : Type 0 where
  pub may : MayAllGo draft forms
  pub sources : SourcesStay forms
  pub rows : RowsGo forms draft.rows
  pub below : RowsBelow (length forms) draft.rows

pub leaves : (draft : Program) (forms : List (Option Form)) → IsDraft draft → MayAllGo draft forms → SourcesStay forms → RowsGo forms draft.rows → Leaves draft forms
leaves draft forms d m s g = record {
  may = m;
  sources = s;
  rows = g;
  below = rows_below_of (length forms) draft.rows (subst (λ n. All (λ row. StandsBelow n row.terms) draft.rows) (sym m.long) d.rows);
}

module _ (program draft : Program) (forms : List (Option Form)) (l : Leaves draft forms) where
  is_compacted : IsCompacted (renamed program draft) (left_program program draft (gone_of forms)) forms
  is_compacted = record {
    long = l.may.long;
    integral = left_gathered forms draft.integral;
    costs = left_gathered forms draft.costs;
    constant = refl;
    bounds = left_gathered forms draft.bounds;
    choices = left_gathered forms draft.choices;
    gone = λ column form h.
        gone_column (renamed program draft) (left_program program draft (gone_of forms)) forms l.may.long (left_gathered forms draft.bounds) (left_gathered forms draft.integral)
        column form (renamed_may program draft forms l.may) l.sources h;
    back = λ point h.
        left_back (left_program program draft (gone_of forms)) forms (stay_flags (gone_of forms) draft.rows) draft.rows point
        (are_left forms (left_program program draft (gone_of forms)) l.sources draft.rows l.below l.rows) h
        (subst (λ (rs : List Row). AllSatisfied rs point) (moved_rows forms draft.rows l.below) h.rows);
    onward = λ point h.
        let long : length point ≡ length forms = IsInBox-long draft.bounds point h.within ∙ sym l.may.long in
        subst (λ (rs : List Row). AllSatisfied rs (gathered forms point)) (sym (moved_rows forms draft.rows l.below))
        (left_onward (left_program program draft (gone_of forms)) forms (stay_flags (gone_of forms) draft.rows) draft.rows (gathered forms point) point
        (spread_gathered forms point long
        (λ column form g. gone_value (renamed program draft) forms column form point long (renamed_may program draft forms l.may) l.sources g h))
        (are_left forms (left_program program draft (gone_of forms)) l.sources draft.rows l.below l.rows) h.rows);
  }

renamed_tightened : (program draft : Program) → IsTightened (unnamed program) draft → IsTightened program (renamed program draft)
renamed_tightened program draft n = record {
  integral = n.integral;
  choices = n.choices;
  inside = n.inside;
  rows = λ x h. n.rows x (record { within = h.within; rows = h.rows });
  cost = λ x h. n.cost x (record { within = h.within; rows = h.rows });
}

renamed_point : (program draft : Program) (x : List ℚ) → IsFeasible draft x → IsFeasible (renamed program draft) x
renamed_point program draft x h = record { within = h.within; whole = h.whole; choices = h.choices; rows = h.rows }

unnamed_point : (program : Program) (y : List ℚ) → IsFeasible program y → IsFeasible (unnamed program) y
unnamed_point program y h = record { within = h.within; whole = h.whole; choices = h.choices; rows = h.rows }

renamed_held : (program draft : Program) (column : ℕ) → IsHeldFast draft column → IsHeldFast (renamed program draft) column
renamed_held program draft column h = record { value = h.value; inside = h.inside }

renamed_near : (program draft : Program) (column : ℕ) (a b : ℚ) → (a ≡ b) ⊎ IsHeldFast draft column → (a ≡ b) ⊎ IsHeldFast (renamed program draft) column
renamed_near program draft column a b (inl e) = inl e
renamed_near program draft column a b (inr h) = inr (renamed_held program draft column h)

renamed_step : (program draft : Program) → IsStep (unnamed program) draft → IsStep program (renamed program draft)
renamed_step program draft s = record {
  narrowed = renamed_tightened program draft s.narrowed;
  none_lost = λ y h.
      let k = s.none_lost y (unnamed_point program y h) in
      record { other = k.other; feasible = renamed_point program draft k.other k.feasible; no_dearer = k.no_dearer; near = λ column l. renamed_near program draft column _ _ (k.near column l); semi = k.semi };
}

renamed_exact : (program draft : Program) → IsExactStep (unnamed program) draft → IsExactStep program (renamed program draft)
renamed_exact program draft s = record {
  narrowed = renamed_tightened program draft s.narrowed;
  keeps = λ y h. renamed_point program draft y (s.keeps y (unnamed_point program y h));
}

pub infeasible_named : (program draft : Program) → IsStep (unnamed program) draft → IsInfeasible draft → IsInfeasible program
infeasible_named program draft s f y h = infeasible_before (unnamed program) draft s f y (unnamed_point program y h)

-- lists of the draft are as long as the program's
long_draft : (program draft : Program) → IsWellFormed program → IsStep (unnamed program) draft → length draft.bounds ≡ columns program
long_draft program draft formed s = sym (all_long draft.bounds program.bounds s.narrowed.inside) ∙ formed.bounds

renamed_formed : (program draft : Program) → IsWellFormed program → IsDraft draft → IsStep (unnamed program) draft → length draft.rows ≡ length program.rows → IsWellFormed (renamed program draft)
renamed_formed program draft formed d s r =
    let long = long_draft program draft formed s in
    record {
      column_names = omega (arith, formed.column_names, long, d.costs);
      integral = omega (arith, d.integral, d.costs);
      bounds = omega (arith, d.costs);
      row_names = omega (arith, r, formed.row_names);
      few_columns = omega (arith, d.costs, d.few);
      few_rows = omega (arith, r, formed.few_rows);
      rows = subst (λ n. All (λ row. StandsBelow n row.terms) draft.rows) (sym d.costs) d.rows;
      choices = d.choices;
    }

-- ---- what is left fits together

length_left : {X Y : Type 0} (gone : List Bool) (xs : List X) (ys : List Y) → length xs ≡ length ys → length (entries_left gone xs) ≡ length (entries_left gone ys)
length_left [] xs ys e = refl
length_left (g ∷ gone) [] [] e = refl
length_left (g ∷ gone) [] (y ∷ ys) e = absurd (omega (arith, e))
length_left (g ∷ gone) (x ∷ xs) [] e = absurd (omega (arith, e))
length_left (true ∷ gone) (x ∷ xs) (y ∷ ys) e = length_left gone xs ys (omega (arith, e))
length_left (false ∷ gone) (x ∷ xs) (y ∷ ys) e = ap (λ n. suc n) (length_left gone xs ys (omega (arith, e)))

fewer_left : {X : Type 0} (gone : List Bool) (xs : List X) → length (entries_left gone xs) ≤ length xs
fewer_left [] xs = omega arith
fewer_left (g ∷ gone) [] = omega arith
fewer_left (true ∷ gone) (x ∷ xs) = let k = fewer_left gone xs in omega (arith, k)
fewer_left (false ∷ gone) (x ∷ xs) = let k = fewer_left gone xs in omega (arith, k)

length_moved : (numbers : List ℕ) (rows : List Row) → length (map (moved_row numbers) rows) ≡ length rows
length_moved numbers [] = refl
length_moved numbers (r ∷ rs) = ap (λ n. suc n) (length_moved numbers rs)

choices_left : (gone : List Bool) (choices : List Choice) (integral : List Bool) (box : List Sides) → length gone ≡ length box → length integral ≡ length box → ((column : ℕ) → IsChoice (choice_at choices column) (slice_get integral column) (sides_at box column)) → (number : ℕ) → IsChoice (choice_at (entries_left gone choices) number) (slice_get (entries_left gone integral) number) (sides_at (entries_left gone box) number)
choices_left [] choices integral box e l f number = tt
choices_left (g ∷ gone) [] integral box e l f number = tt
choices_left (g ∷ gone) (c ∷ cs) [] [] e l f number = absurd (omega (arith, e))
choices_left (g ∷ gone) (c ∷ cs) [] (s ∷ ss) e l f number = absurd (omega (arith, l))
choices_left (g ∷ gone) (c ∷ cs) (w ∷ ws) [] e l f number = absurd (omega (arith, l))
choices_left (true ∷ gone) (c ∷ cs) (w ∷ ws) (s ∷ ss) e l f number = choices_left gone cs ws ss (omega (arith, e)) (omega (arith, l)) (λ column. f (suc column)) number
choices_left (false ∷ gone) (c ∷ cs) (w ∷ ws) (s ∷ ss) e l f zero = f 0
choices_left (false ∷ gone) (c ∷ cs) (w ∷ ws) (s ∷ ss) e l f (suc number) = choices_left gone cs ws ss (omega (arith, e)) (omega (arith, l)) (λ column. f (suc column)) number

some_at : {X : Type 0} (xs : List X) (k : ℕ) → k < length xs → (x : X) × (slice_get xs k ≡ Some x)
some_at [] k h = absurd (omega (arith, h))
some_at (x ∷ xs) zero h = (x, refl)
some_at (x ∷ xs) (suc k) h = some_at xs k (omega (arith, h))

-- the terms of a row over the new numbers stand on columns that are left
terms_below : (forms : List (Option Form)) (costs : List ℚ) (terms : List Term) → length costs ≡ length forms → TermsIn forms terms → AllByRecursion (λ t. t.column < length (entries_left (gone_of forms) costs)) (map (moved_term (new_numbers 0 (gone_of forms))) terms)
terms_below forms costs [] e h = tt
terms_below forms costs (t ∷ ts) e h =
    let within = slice_get_within forms t.column None h.0 in
    let s = some_at costs t.column (omega (arith, within, e)) in
    let g = gathered_at forms costs t.column s.0 h.0 s.1 in
    let k = slice_get_within (gathered forms costs) _ s.0 g in
    let n = new_number forms t.column h.0 in
    let l = ap (λ (xs : List ℚ). length xs) (left_gathered forms costs) in
    (omega (arith, k, n, l), terms_below forms costs ts e h.1)

rows_below : (forms : List (Option Form)) (costs : List ℚ) (dropped : List Bool) (rows : List Row) → length costs ≡ length forms → KeptIn forms dropped rows → AllByRecursion (λ row. StandsBelow (length (entries_left (gone_of forms) costs)) row.terms) (map (moved_row (new_numbers 0 (gone_of forms))) (entries_left dropped rows))
rows_below forms costs [] rows e h = tt
rows_below forms costs (b ∷ dropped) [] e h = tt
rows_below forms costs (true ∷ dropped) (r ∷ rs) e h = rows_below forms costs dropped rs e h
rows_below forms costs (false ∷ dropped) (r ∷ rs) e h =
    (from_rec (λ t. t.column < length (entries_left (gone_of forms) costs)) (map (moved_term (new_numbers 0 (gone_of forms))) r.terms) (terms_below forms costs r.terms e h.0), rows_below forms costs dropped rs e h.1)

terms_stand : (forms : List (Option Form)) (terms : List Term) → TermsIn forms terms → AllByRecursion (λ t. t.column < length (new_numbers 0 (gone_of forms))) terms
terms_stand forms [] h = tt
terms_stand forms (t ∷ ts) h =
    let within = slice_get_within forms t.column None h.0 in
    let n = length-numbers 0 forms in
    (omega (arith, within, n), terms_stand forms ts h.1)

rows_move : (forms : List (Option Form)) (dropped : List Bool) (rows : List Row) → KeptIn forms dropped rows → AllMove (new_numbers 0 (gone_of forms)) (entries_left dropped rows)
rows_move forms [] rows h = tt
rows_move forms (b ∷ dropped) [] h = tt
rows_move forms (true ∷ dropped) (r ∷ rs) h = rows_move forms dropped rs h
rows_move forms (false ∷ dropped) (r ∷ rs) h = (
  record {
    stands = from_rec (λ t. t.column < length (new_numbers 0 (gone_of forms))) r.terms (terms_stand forms r.terms h.0);
    rise = terms_rise forms r.terms h.0;
  },
  rows_move forms dropped rs h.1,
)

left_formed : (program draft : Program) (forms : List (Option Form)) → IsWellFormed program → IsDraft draft → IsStep (unnamed program) draft → length draft.rows ≡ length program.rows → Leaves draft forms → IsWellFormed (left_program program draft (gone_of forms))
left_formed program draft forms formed d s r l =
    let long = long_draft program draft formed s in
    let few = fewer_left (gone_of forms) draft.costs in
    let few_rows = fewer_left (dropped_rows (gone_of forms) draft.rows) draft.rows in
    let moved = length_moved (new_numbers 0 (gone_of forms)) (staying_rows (gone_of forms) draft.rows) in
    let names = length_left (dropped_rows (gone_of forms) draft.rows) program.row_names draft.rows (omega (arith, r, formed.row_names)) in
    record {
      column_names = length_left (gone_of forms) program.column_names draft.costs (omega (arith, formed.column_names, long, d.costs));
      integral = length_left (gone_of forms) draft.integral draft.costs (omega (arith, d.integral, d.costs));
      bounds = length_left (gone_of forms) draft.bounds draft.costs (omega (arith, d.costs));
      row_names = omega (arith, names, moved);
      few_columns = omega (arith, few, d.costs, d.few);
      few_rows = omega (arith, few_rows, moved, r, formed.few_rows);
      rows = from_rec (λ row. StandsBelow (length (entries_left (gone_of forms) draft.costs)) row.terms) (map (moved_row (new_numbers 0 (gone_of forms))) (staying_rows (gone_of forms) draft.rows))
          (rows_below forms draft.costs (dropped_rows (gone_of forms) draft.rows) draft.rows (omega (arith, d.costs, l.may.long)) (kept_in forms draft.rows l.below));
      choices = choices_left (gone_of forms) draft.choices draft.integral draft.bounds (length-gone forms ∙ l.may.long) d.integral d.choices;
    }

pub can_leave : (program draft : Program) (forms : List (Option Form)) (gone : List Bool) → IsWellFormed program → IsDraft draft → IsStep (unnamed program) draft → length draft.rows ≡ length program.rows → MayAllGo draft forms → SourcesStay forms → RowsGo forms draft.rows → gone ≡ gone_of forms → CanLeave program draft gone
can_leave program draft forms gone formed d s r m so ro e =
    let l = leaves draft forms d m so ro in
    let long = long_draft program draft formed s in
    let count = length-gone forms in
    subst (λ g. CanLeave program draft g) (sym e) (record {
      columns = count ∙ l.may.long;
      costs = d.costs;
      integral = d.integral;
      column_names = omega (arith, count, l.may.long, long, formed.column_names);
      row_names = omega (arith, r, formed.row_names);
      few = omega (arith, count, l.may.long, d.few);
      moves = rows_move forms (dropped_rows (gone_of forms) draft.rows) draft.rows (kept_in forms draft.rows l.below);
      formed = left_formed program draft forms formed d s r l;
    })

-- ---- the pair

left_exact : (program draft : Program) (forms : List (Option Form)) → IsWellFormed program → IsDraft draft → IsStep (unnamed program) draft → length draft.rows ≡ length program.rows → Leaves draft forms → IsExactPair (renamed program draft) (left_program program draft (gone_of forms)) (spread forms) (kept_at forms)
left_exact program draft forms formed d s r l = compacted_exact (renamed program draft) (left_program program draft (gone_of forms)) forms (renamed_formed program draft formed d s r) (is_compacted program draft forms l)

pub left_pair : (program draft reduced : Program) (forms : List (Option Form)) (gone : List Bool) → IsWellFormed program → IsDraft draft → IsStep (unnamed program) draft → length draft.rows ≡ length program.rows → Leaves draft forms → gone ≡ gone_of forms → reduced ≡ left_program program draft gone → IsPair program reduced (spread forms) (kept_at forms)
left_pair program draft reduced forms gone formed d s r l e k =
    let exact = left_exact program draft forms formed d s r l in
    subst (λ p. IsPair program p (spread forms) (kept_at forms)) (sym (k ∙ ap (λ g. left_program program draft g) e))
    (pair_after program (renamed program draft) (left_program program draft (gone_of forms)) (λ x. x) (spread forms) (λ n. n) (kept_at forms)
    (step_pair program (renamed program draft) (renamed_step program draft s)) exact.pair)

pub left_exact_pair : (program draft reduced : Program) (forms : List (Option Form)) (gone : List Bool) → IsWellFormed program → IsDraft draft → IsExactStep (unnamed program) draft → length draft.rows ≡ length program.rows → Leaves draft forms → gone ≡ gone_of forms → reduced ≡ left_program program draft gone → IsExactPair program reduced (spread forms) (kept_at forms)
left_exact_pair program draft reduced forms gone formed d s r l e k =
    subst (λ p. IsExactPair program p (spread forms) (kept_at forms)) (sym (k ∙ ap (λ g. left_program program draft g) e))
    (exact_pair_after program (renamed program draft) (left_program program draft (gone_of forms)) (λ x. x) (spread forms) (λ n. n) (kept_at forms)
    (exact_step_pair program (renamed program draft) (renamed_exact program draft s)) (left_exact program draft forms formed d (exact_step (unnamed program) draft s) r l))

pub left_numbers : (forms : List (Option Form)) (gone : List Bool) (kept : List ℕ) → gone ≡ gone_of forms → kept ≡ old_numbers 0 gone → kept ≡ kept_from 0 forms
left_numbers forms gone kept e k = k ∙ ap (λ g. old_numbers 0 g) e ∙ old_numbers_kept 0 forms

pub left_whole : (program draft reduced : Program) (forms : List (Option Form)) (gone whole : List Bool) → IsStep (unnamed program) draft → gone ≡ gone_of forms → reduced ≡ left_program program draft gone → whole ≡ program.integral → gathered forms whole ≡ reduced.integral
left_whole program draft reduced forms gone whole s e k w =
    ap (λ (ws : List Bool). gathered forms ws) (w ∙ sym s.narrowed.integral)
    ∙ sym (left_gathered forms draft.integral)
    ∙ ap (λ g. entries_left g draft.integral) (sym e)
    ∙ ap (λ (p : Program). p.integral) (sym k)

pub gone_few : (forms : List (Option Form)) (gone : List Bool) (draft : Program) → gone ≡ gone_of forms → MayAllGo draft forms → IsDraft draft → length gone ≤ most_columns
gone_few forms gone draft e m d =
    let l : length gone ≡ length (gone_of forms) = ap (λ (g : List Bool). length g) e in
    let count = length-gone forms in
    omega (arith, l, count, m.long, d.few)

pub ruleset compacting = (can_leave, gone_few)
