-- What was said without fault keeps the facts sound.
use Rattle.std.proofs.Common.{◌≡◌, ℕ, ◌+◌, ◌<◌, ◌≤◌, ◌==◌, Bool, true, false, not, ◌&&◌, cond, List, [], ◌∷◌, ◌++◌, length, Option, None, Some, refl, sym, ap, subst, ◌∙◌, arith, lit≤}
use Rattle.std.specs.Prelude.{nat_le, All, is_some}
use Rattle.std.proofs.lemmas.List.{length_push, length-set}
use Rattle.std.proofs.lemmas.List.Elements.{All-nil, All-push, All-weaker}
use Rattle.std.proofs.lemmas.Bool.{leb-false}
use Rattle.cip_rational.specs.Rational.{ℚ, zeroℚ}
use Rattle.cip_problem.specs.Limits.{most_rows, most_columns, most_entries}
use Rattle.cip_problem.specs.Activity.{StandsBelow}
use Rattle.cip_problem.specs.Program.{Term, Row}
use Rattle.cip_text_rules.specs.MpsWords.{number_in, is_in}
use Rattle.cip_text_rules.proofs.MpsNames.{number_below}
use Rattle.cip_text_rules.proofs.Quiet.{left_false, right_false}
use Rattle.cip_text_rules.specs.LpWords.{LpPart, Costs, Constraints}
use Rattle.cip_text_rules.specs.LpPlaces.{Amount, Event, Fails, Opens, NamesObjective, Begins, AddsCost, AddsConstant, Adds, Ends, Mentions, SetsLow, SetsHigh, SetsBoth, MakesWhole, MakesBinary}
use Rattle.cip_text_rules.specs.LpFacts.{FormTerm, LpFacts, nothing_said, default_sides, with_column, number_or, column_number, is_column_too_many, is_entry_too_many, is_again, has_term, form_term, form_with, with_sides, with_whole, with_cost, with_term, with_row, terms_of, with_part, event_fault, facts_with}
use Rattle.cip_text_rules.specs.LpSound.{IsSoundLp}
use Rattle.cip_text_rules.specs.LpStatements.{number_in_form, amount_value}
use Rattle.cip_text_rules.proofs.LpEvents.{unbroken}
use Rattle.cip_text_rules.proofs.LpForms.{all_put, rises_put, terms_below, none_next, own_number, other_number}
use Rattle.cip_text_rules.proofs.SoundState.{row_limit}

-- ---- columns

room_for : (b : Bool) (n most : ℕ) → (not b && nat_le most n) ≡ false → b ≡ false → n < most
room_for false n most e q = leb-false most n e
room_for true n most e q = absurd (cc)

wider : (n m : ℕ) → n ≤ m → (form : List FormTerm) → All (λ t. t.column < n) form → All (λ t. t.column < m) form
wider n m l form h = All-weaker (λ (t : FormTerm). t.column < n) (λ t. t.column < m) (λ t k. omega (arith, l, k)) form h

wider_row : (n m : ℕ) → n ≤ m → (rows : List Row) → All (λ row. StandsBelow n row.terms) rows → All (λ row. StandsBelow m row.terms) rows
wider_row n m l rows h =
    All-weaker (λ (row : Row). StandsBelow n row.terms) (λ row. StandsBelow m row.terms)
    (λ row k. All-weaker (λ (t : Term). t.column < n) (λ t. t.column < m) (λ t j. omega (arith, l, j)) row.terms k) rows h

-- a column more
column_added : (facts : LpFacts) (name : List ℕ) → length facts.column_names < most_columns → IsSoundLp facts → IsSoundLp (record facts { column_names = facts.column_names ++ name ∷ []; costs = facts.costs ++ zeroℚ ∷ []; bounds = facts.bounds ++ default_sides ∷ []; integral = facts.integral ++ false ∷ [] })
column_added facts name l h =
    let n = length_push facts.column_names name in
    let more : length facts.column_names ≤ length (facts.column_names ++ name ∷ []) = subst (λ (k : ℕ). length facts.column_names ≤ k) (sym n) (omega arith) in
    record {
      costs = length_push facts.costs _ ∙ ap (λ (k : ℕ). k + 1) h.costs ∙ sym n;
      bounds = length_push facts.bounds _ ∙ ap (λ (k : ℕ). k + 1) h.bounds ∙ sym n;
      integral = length_push facts.integral _ ∙ ap (λ (k : ℕ). k + 1) h.integral ∙ sym n;
      row_names = h.row_names;
      few_columns = subst (λ (k : ℕ). k ≤ most_columns) (sym n) (omega (arith, l));
      few_rows = h.few_rows;
      room = h.room;
      few_entries = h.few_entries;
      form = wider _ _ more facts.form h.form;
      rising = h.rising;
      rows = wider_row _ _ more facts.rows h.rows;
    }

pub column_kept : (facts : LpFacts) (name : List ℕ) → is_column_too_many facts name ≡ false → IsSoundLp facts → IsSoundLp (with_column facts name)
column_kept facts name e h = go (is_in facts.column_names name) refl
  where
    go : (b : Bool) → is_in facts.column_names name ≡ b → IsSoundLp (cond b facts (record facts { column_names = facts.column_names ++ name ∷ []; costs = facts.costs ++ zeroℚ ∷ []; bounds = facts.bounds ++ default_sides ∷ []; integral = facts.integral ++ false ∷ [] }))
    go true q = h
    go false q = column_added facts name (room_for (is_in facts.column_names name) (length facts.column_names) most_columns e q) h

-- the number of a column that is named is below their number
pub number_within : (facts : LpFacts) (name : List ℕ) → column_number facts name < length (with_column facts name).column_names
number_within facts name = go (number_in facts.column_names name) refl
  where
    go : (o : Option ℕ) → number_in facts.column_names name ≡ o → number_or o (length facts.column_names) < length (cond (is_some o) facts (record facts { column_names = facts.column_names ++ name ∷ []; costs = facts.costs ++ zeroℚ ∷ []; bounds = facts.bounds ++ default_sides ∷ []; integral = facts.integral ++ false ∷ [] })).column_names
    go None q = subst (λ (k : ℕ). length facts.column_names < k) (sym (length_push facts.column_names name)) (omega arith)
    go (Some k) q = number_below facts.column_names name k q

-- a name without a number in the form yet
pub none_yet : (facts : LpFacts) (name : List ℕ) → is_again facts name ≡ false → All (λ t. t.column < length facts.column_names) facts.form → has_term facts.form (column_number facts name) ≡ false
none_yet facts name e h = go (number_in facts.column_names name) e
  where
    go : (o : Option ℕ) → (is_some o && has_term facts.form (number_or o (length facts.column_names))) ≡ false → has_term facts.form (number_or o (length facts.column_names)) ≡ false
    go None q = none_next (length facts.column_names) facts.form h
    go (Some k) q = q

-- the form behind a column that is named is as before
same_form : (facts : LpFacts) (name : List ℕ) → (with_column facts name).form ≡ facts.form
same_form facts name = go (is_in facts.column_names name)
  where
    go : (b : Bool) → (cond b facts (record facts { column_names = facts.column_names ++ name ∷ []; costs = facts.costs ++ zeroℚ ∷ []; bounds = facts.bounds ++ default_sides ∷ []; integral = facts.integral ++ false ∷ [] })).form ≡ facts.form
    go true = refl
    go false = refl

same_entries : (facts : LpFacts) (name : List ℕ) → (with_column facts name).entries ≡ facts.entries
same_entries facts name = go (is_in facts.column_names name)
  where
    go : (b : Bool) → (cond b facts (record facts { column_names = facts.column_names ++ name ∷ []; costs = facts.costs ++ zeroℚ ∷ []; bounds = facts.bounds ++ default_sides ∷ []; integral = facts.integral ++ false ∷ [] })).entries ≡ facts.entries
    go true = refl
    go false = refl

-- ---- forms

cost_kept : (facts : LpFacts) (amount : Amount) (column : ℕ) → column < length facts.column_names → has_term facts.form column ≡ false → IsSoundLp facts → IsSoundLp (with_cost facts amount column)
cost_kept facts amount column l e h = record {
  costs = length-set facts.costs column _ ∙ h.costs;
  bounds = h.bounds;
  integral = h.integral;
  row_names = h.row_names;
  few_columns = h.few_columns;
  few_rows = h.few_rows;
  room = h.room;
  few_entries = h.few_entries;
  form = all_put (λ t. t.column < length facts.column_names) (form_term column amount) facts.form l h.form;
  rising = rises_put (form_term column amount) facts.form e h.rising;
  rows = h.rows;
}

term_kept : (facts : LpFacts) (amount : Amount) (column : ℕ) → column < length facts.column_names → has_term facts.form column ≡ false → is_entry_too_many facts amount ≡ false → IsSoundLp facts → IsSoundLp (with_term facts amount column)
term_kept facts amount column l e m h = record {
  costs = h.costs;
  bounds = h.bounds;
  integral = h.integral;
  row_names = h.row_names;
  few_columns = h.few_columns;
  few_rows = h.few_rows;
  room = h.room;
  few_entries = row_limit amount.zero facts.entries most_entries h.few_entries m;
  form = all_put (λ t. t.column < length facts.column_names) (form_term column amount) facts.form l h.form;
  rising = rises_put (form_term column amount) facts.form e h.rising;
  rows = h.rows;
}

sides_kept : (facts : LpFacts) (name : List ℕ) (low high : Option ℚ) → IsSoundLp facts → IsSoundLp (with_sides facts name low high)
sides_kept facts name low high h = record {
  costs = h.costs;
  bounds = length-set facts.bounds (column_number facts name) _ ∙ h.bounds;
  integral = h.integral;
  row_names = h.row_names;
  few_columns = h.few_columns;
  few_rows = h.few_rows;
  room = h.room;
  few_entries = h.few_entries;
  form = h.form;
  rising = h.rising;
  rows = h.rows;
}

whole_kept : (facts : LpFacts) (name : List ℕ) → IsSoundLp facts → IsSoundLp (with_whole facts name)
whole_kept facts name h = record {
  costs = h.costs;
  bounds = h.bounds;
  integral = length-set facts.integral (column_number facts name) true ∙ h.integral;
  row_names = h.row_names;
  few_columns = h.few_columns;
  few_rows = h.few_rows;
  room = h.room;
  few_entries = h.few_entries;
  form = h.form;
  rising = h.rising;
  rows = h.rows;
}

-- ---- rows

row_kept : (facts : LpFacts) (name : Option (List ℕ)) (low high : Option ℚ) → facts.row_name ≡ name → IsSoundLp facts → IsSoundLp (with_row facts name low high)
row_kept facts None low high e h = h
row_kept facts (Some name) low high e h =
    let n = length_push facts.rows (record { terms = terms_of facts.form; low = low; high = high }) in
    let l : length facts.rows < most_rows = h.room (ap is_some e) in
    record {
      costs = h.costs;
      bounds = h.bounds;
      integral = h.integral;
      row_names = length_push facts.row_names name ∙ ap (λ (k : ℕ). k + 1) h.row_names ∙ sym n;
      few_columns = h.few_columns;
      few_rows = subst (λ (k : ℕ). k ≤ most_rows) (sym n) (omega (arith, l));
      room = λ p. absurd (cc);
      few_entries = h.few_entries;
      form = All-nil (λ (t : FormTerm). t.column < length facts.column_names);
      rising = refl;
      rows = All-push (λ (row : Row). StandsBelow (length facts.column_names) row.terms) facts.rows _ h.rows (terms_below _ facts.form h.form);
    }

part_kept : (facts : LpFacts) (part : LpPart) → IsSoundLp facts → IsSoundLp (with_part facts part)
part_kept facts (Costs maximized) h = record {
  costs = h.costs;
  bounds = h.bounds;
  integral = h.integral;
  row_names = h.row_names;
  few_columns = h.few_columns;
  few_rows = h.few_rows;
  room = h.room;
  few_entries = h.few_entries;
  form = h.form;
  rising = h.rising;
  rows = h.rows;
}
part_kept facts Constraints h = record {
  costs = h.costs;
  bounds = h.bounds;
  integral = h.integral;
  row_names = h.row_names;
  few_columns = h.few_columns;
  few_rows = h.few_rows;
  room = h.room;
  few_entries = h.few_entries;
  form = All-nil (λ (t : FormTerm). t.column < length facts.column_names);
  rising = refl;
  rows = h.rows;
}
part_kept facts other h = h

-- ---- the whole

pub first_sound : IsSoundLp nothing_said
first_sound = record {
  costs = refl;
  bounds = refl;
  integral = refl;
  row_names = refl;
  few_columns = lit≤ tt;
  few_rows = lit≤ tt;
  room = λ p. absurd (cc);
  few_entries = lit≤ tt;
  form = All-nil _;
  rising = refl;
  rows = All-nil _;
}

pub event_kept : (facts : LpFacts) (event : Event) → IsSoundLp facts → event_fault facts event ≡ None → IsSoundLp (facts_with facts event)
event_kept facts (Fails kind) h e = h
event_kept facts (Opens part) h e = part_kept facts part h
event_kept facts (NamesObjective name) h e = record {
  costs = h.costs;
  bounds = h.bounds;
  integral = h.integral;
  row_names = h.row_names;
  few_columns = h.few_columns;
  few_rows = h.few_rows;
  room = h.room;
  few_entries = h.few_entries;
  form = h.form;
  rising = h.rising;
  rows = h.rows;
}
event_kept facts (Begins name) h e =
    let t = unbroken facts (Begins name) e in
    record {
      costs = h.costs;
      bounds = h.bounds;
      integral = h.integral;
      row_names = h.row_names;
      few_columns = h.few_columns;
      few_rows = h.few_rows;
      room = λ p. leb-false most_rows (length facts.rows) t.1.0;
      few_entries = h.few_entries;
      form = h.form;
      rising = h.rising;
      rows = h.rows;
    }
event_kept facts (AddsCost amount name) h e =
    let t = unbroken facts (AddsCost amount name) e in
    cost_kept (with_column facts name) amount (column_number facts name) (number_within facts name)
    (ap (λ (form : List FormTerm). has_term form (column_number facts name)) (same_form facts name) ∙ none_yet facts name t.0 h.form)
    (column_kept facts name t.1.0 h)
event_kept facts (AddsConstant amount) h e = record {
  costs = h.costs;
  bounds = h.bounds;
  integral = h.integral;
  row_names = h.row_names;
  few_columns = h.few_columns;
  few_rows = h.few_rows;
  room = h.room;
  few_entries = h.few_entries;
  form = h.form;
  rising = h.rising;
  rows = h.rows;
}
event_kept facts (Adds amount name) h e =
    let t = unbroken facts (Adds amount name) e in
    term_kept (with_column facts name) amount (column_number facts name) (number_within facts name)
    (ap (λ (form : List FormTerm). has_term form (column_number facts name)) (same_form facts name) ∙ none_yet facts name t.0 h.form)
    (ap (λ (n : ℕ). not amount.zero && nat_le most_entries n) (same_entries facts name) ∙ right_false (is_column_too_many facts name) _ t.1.0)
    (column_kept facts name (left_false _ (is_entry_too_many facts amount) t.1.0) h)
event_kept facts (Ends low high) h e = row_kept facts facts.row_name low high refl h
event_kept facts (Mentions name) h e = column_kept facts name (unbroken facts (Mentions name) e).0 h
event_kept facts (SetsLow name side) h e = sides_kept facts name _ _ h
event_kept facts (SetsHigh name side) h e = sides_kept facts name _ _ h
event_kept facts (SetsBoth name side) h e = sides_kept facts name _ _ h
event_kept facts (MakesWhole name) h e = whole_kept facts name h
event_kept facts (MakesBinary name) h e = sides_kept (with_whole facts name) name _ _ (whole_kept facts name h)

-- ---- numbers

pub none_again : (facts : LpFacts) (amount : Amount) (name : List ℕ) → IsSoundLp facts → event_fault facts (Adds amount name) ≡ None → has_term facts.form (column_number facts name) ≡ false
none_again facts amount name h e = none_yet facts name (unbroken facts (Adds amount name) e).0 h.form

pub own_given : (facts : LpFacts) (amount : Amount) (name : List ℕ) → IsSoundLp facts → event_fault facts (Adds amount name) ≡ None → number_in_form (facts_with facts (Adds amount name)).form (column_number facts name) ≡ amount_value amount
own_given facts amount name h e =
    ap (λ (form : List FormTerm). number_in_form (form_with (form_term (column_number facts name) amount) form) (column_number facts name)) (same_form facts name)
    ∙ own_number (form_term (column_number facts name) amount) facts.form (none_again facts amount name h e)

pub others_given : (facts : LpFacts) (amount : Amount) (name : List ℕ) (column : ℕ) → (column_number facts name == column) ≡ false → number_in_form (facts_with facts (Adds amount name)).form column ≡ number_in_form facts.form column
others_given facts amount name column e =
    ap (λ (form : List FormTerm). number_in_form (form_with (form_term (column_number facts name) amount) form) column) (same_form facts name)
    ∙ other_number (form_term (column_number facts name) amount) facts.form column e
