-- Which columns stay.
use Rattle.std.proofs.Common.{◌≡◌, ◌⊎◌, ℕ, zero, suc, ◌+◌, ◌<◌, ◌≤◌, List, [], ◌∷◌, length, take, Option, None, Some, IfSome, slice_get, refl, sym, ap, ◌∙◌, subst, arith, inl, inr}
use Rattle.std.specs.Prelude.{slice_set, slice_index_or, All}
use Rattle.std.proofs.Math.ListN.{get_or}
use Rattle.std.proofs.lemmas.Option.{none-some, same_Some, slice_get_within, get_or_from_slice_get, slice_get_read, slice_get-get_or}
use Rattle.cip_rational.specs.Rational.{zeroℚ}
use Rattle.cip_problem.specs.Program.{Term, Row, Program}
use Rattle.cip_problem.specs.Activity.{StandsBelow}
use Rattle.cip_presolve.specs.Forms.{Form}
use Rattle.cip_presolve.specs.DraftParts.{IsDraft}
use Rattle.cip_presolve.specs.ColumnsOut.{MayAllGo, IsIn, TermsIn, SourceStays, SourcesStay, GoFewer}
use Rattle.cip_presolve.specs.SpentRows.{IsSpentBy, TermsInBut, RowGoes, RowsGo}
use Rattle.cip_presolve.specs.KeptRows.{RowKept, RowsKept}
use Rattle.cip_presolve.proofs.FilledPoints.{before_or_at}
use Rattle.cip_presolve.proofs.Free.{all_more_one, take_whole}

-- ---- one column stays

set_long : (forms : List (Option Form)) (n : ℕ) → length (slice_set forms n None) ≡ length forms
set_long [] n = refl
set_long (v ∷ forms) zero = refl
set_long (v ∷ forms) (suc n) = ap (λ k. suc k) (set_long forms n)

set_gone : (forms : List (Option Form)) (n column : ℕ) (form : Form) → slice_get (slice_set forms n None) column ≡ Some (Some form) → slice_get forms column ≡ Some (Some form)
set_gone [] n column form h = h
set_gone (v ∷ forms) zero zero form h = absurd (none-some form (same_Some None (Some form) h))
set_gone (v ∷ forms) zero (suc column) form h = h
set_gone (v ∷ forms) (suc n) zero form h = h
set_gone (v ∷ forms) (suc n) (suc column) form h = set_gone forms n column form h

set_stays : (forms : List (Option Form)) (n column : ℕ) → IsIn forms column → IsIn (slice_set forms n None) column
set_stays [] n column h = h
set_stays (v ∷ forms) zero zero h = refl
set_stays (v ∷ forms) zero (suc column) h = h
set_stays (v ∷ forms) (suc n) zero h = h
set_stays (v ∷ forms) (suc n) (suc column) h = set_stays forms n column h

set_in : (forms : List (Option Form)) (n : ℕ) → n < length forms → IsIn (slice_set forms n None) n
set_in [] n h = absurd (omega (arith, h))
set_in (v ∷ forms) zero h = refl
set_in (v ∷ forms) (suc n) h = set_in forms n (omega (arith, h))

pub fewer_self : (forms : List (Option Form)) → GoFewer forms forms
fewer_self forms = record { long = refl; gone = λ column form h. h; stays = λ column h. h }

pub fewer_after : (first second third : List (Option Form)) → GoFewer first second → GoFewer second third → GoFewer first third
fewer_after first second third a b = record {
  long = b.long ∙ a.long;
  gone = λ column form h. a.gone column form (b.gone column form h);
  stays = λ column h. b.stays column (a.stays column h);
}

set_fewer : (forms : List (Option Form)) (n : ℕ) → GoFewer forms (slice_set forms n None)
set_fewer forms n = record { long = set_long forms n; gone = set_gone forms n; stays = set_stays forms n }

pub column_fewer : (forms new : List (Option Form)) (column : ℕ) → new ≡ slice_set forms column None → GoFewer forms new
column_fewer forms new column e = subst (λ (fs : List (Option Form)). GoFewer forms fs) (sym e) (set_fewer forms column)

pub column_in : (forms new : List (Option Form)) (column : ℕ) → column < length forms → new ≡ slice_set forms column None → IsIn new column
column_in forms new column l e = subst (λ (fs : List (Option Form)). IsIn fs column) (sym e) (set_in forms column l)

pub ruleset staying = (column_fewer, column_in)

-- ---- sources

gone_is : (forms : List (Option Form)) (column : ℕ) (o : Option Form) (form : Form) → slice_index_or forms column None ≡ o → slice_get forms column ≡ Some (Some form) → o ≡ Some form
gone_is forms column o form e h = sym e ∙ get_or_from_slice_get forms column (Some form) None h

pub no_form : (forms : List (Option Form)) (column : ℕ) → None ≡ slice_index_or forms column None → SourceStays forms column
no_form forms column e form h = absurd (none-some form (gone_is forms column None form (sym e) h))

pub no_source : (forms : List (Option Form)) (column : ℕ) (own : Form) → Some own ≡ slice_index_or forms column None → own.factor ≡ zeroℚ → SourceStays forms column
no_source forms column own e z form h =
    inl (subst (λ (f : Form). f.factor ≡ zeroℚ) (same_Some own form (gone_is forms column (Some own) form (sym e) h)) z)

pub source_in : (forms new : List (Option Form)) (column source : ℕ) (own : Form) → Some own ≡ slice_index_or forms column None → source ≡ own.source → GoFewer forms new → IsIn new source → SourceStays new column
source_in forms new column source own e s f i form h =
    inr (subst (λ (g : Form). IsIn new g.source) (same_Some own form (gone_is forms column (Some own) form (sym e) (f.gone column form h))) (subst (λ n. IsIn new n) s i))

pub column_stays : (forms : List (Option Form)) (column : ℕ) → IsIn forms column → SourceStays forms column
column_stays forms column i form h = absurd (none-some form (same_Some None (Some form) (sym i ∙ h)))

pub ruleset one_source = (fewer_self, no_form, no_source, source_in, column_stays)

pub stays_later : (old new : List (Option Form)) (column : ℕ) → GoFewer old new → SourceStays old column → SourceStays new column
stays_later old new column f s form h = go (s form (f.gone column form h))
  where
    go : (form.factor ≡ zeroℚ) ⊎ IsIn old form.source → (form.factor ≡ zeroℚ) ⊎ IsIn new form.source
    go (inl e) = inl e
    go (inr i) = inr (f.stays form.source i)

-- the sources of the first columns
pub record SourcesTo (old forms : List (Option Form)) (n : ℕ) : Type 0 where
  pub fewer : GoFewer old forms
  pub stay : (column : ℕ) → column < n → SourceStays forms column

pub no_sources : (forms : List (Option Form)) → SourcesTo forms forms 0
no_sources forms = record { fewer = fewer_self forms; stay = λ column l. absurd (omega (arith, l)) }

pub next_source : (old forms new : List (Option Form)) (n : ℕ) → SourcesTo old forms n → GoFewer forms new → SourceStays new n → SourcesTo old new (n + 1)
next_source old forms new n s f h = record {
  fewer = fewer_after old forms new s.fewer f;
  stay = λ column l. go column (before_or_at column n l);
}
  where
    go : (column : ℕ) → (column < n) ⊎ (column ≡ n) → SourceStays new column
    go column (inl l) = stays_later forms new column f (s.stay column l)
    go column (inr e) = subst (λ k. SourceStays new k) (sym e) h

pub sources_fewer : (old forms : List (Option Form)) (n : ℕ) → SourcesTo old forms n → GoFewer old forms
sources_fewer old forms n s = s.fewer

within_sources : (old forms : List (Option Form)) (n : ℕ) → SourcesTo old forms n → length old ≤ n → (column : ℕ) (form : Form) → slice_get forms column ≡ Some (Some form) → (form.factor ≡ zeroℚ) ⊎ IsIn forms form.source
within_sources old forms n s e column form h =
    let w = slice_get_within forms column (Some form) h in
    let l = s.fewer.long in
    s.stay column (omega (arith, w, l, e)) form h

pub all_sources_stay : (old forms : List (Option Form)) (n : ℕ) → SourcesTo old forms n → length old ≤ n → SourcesStay forms
all_sources_stay old forms n s e column form h = within_sources old forms n s e column form h

pub source_within : (old forms : List (Option Form)) (n : ℕ) → SourcesTo old forms n → n < length old → n < length forms
source_within old forms n s l = let k = s.fewer.long in omega (arith, k, l)

pub ruleset all_sources = (no_sources, next_source, sources_fewer, all_sources_stay, source_within)

-- ---- terms

terms_stay : (old new : List (Option Form)) (terms : List Term) → GoFewer old new → TermsIn old terms → TermsIn new terms
terms_stay old new [] f h = tt
terms_stay old new (t ∷ ts) f h = (f.stays t.column h.0, terms_stay old new ts f h.1)

but_stay : (old new : List (Option Form)) (but : Option ℕ) (terms : List Term) → GoFewer old new → TermsInBut old but terms → TermsInBut new but terms
but_stay old new but [] f h = tt
but_stay old new but (t ∷ ts) f h = (go h.0, but_stay old new but ts f h.1)
  where
    go : (but ≡ Some t.column) ⊎ IsIn old t.column → (but ≡ Some t.column) ⊎ IsIn new t.column
    go (inl e) = inl e
    go (inr i) = inr (f.stays t.column i)

-- after so many terms of a row
pub record KeptTo (old forms : List (Option Form)) (but : Option ℕ) (terms : List Term) (n : ℕ) : Type 0 where
  pub fewer : GoFewer old forms
  pub stay : TermsInBut forms but (take n terms)

pub no_terms : (forms : List (Option Form)) (but : Option ℕ) (terms : List Term) → KeptTo forms forms but terms 0
no_terms forms but terms = record { fewer = fewer_self forms; stay = tt }

pub term_kept : (old forms new : List (Option Form)) (but : Option ℕ) (terms : List Term) (n : ℕ) (t : Term) → KeptTo old forms but terms n → n < length terms → t ≡ get_or terms n t → GoFewer forms new → (but ≡ Some t.column) ⊎ IsIn new t.column → KeptTo old new but terms (n + 1)
term_kept old forms new but terms n t k below is f i = record {
  fewer = fewer_after old forms new k.fewer f;
  stay = all_more_one (λ u. (but ≡ Some u.column) ⊎ IsIn new u.column) terms n t (slice_get_read terms (length terms) n t refl below is) (but_stay forms new but (take n terms) f k.stay) i;
}

pub term_within : (old forms : List (Option Form)) (but : Option ℕ) (terms : List Term) (n : ℕ) (t : Term) → KeptTo old forms but terms n → StandsBelow (length old) terms → n < length terms → t ≡ get_or terms n t → t.column < length forms
term_within old forms but terms n t k s below is =
    let g : slice_get terms n ≡ Some t = slice_get_read terms (length terms) n t refl below is in
    let stands : t.column < length old = subst (λ (u : Term). u.column < length old) (get_or_from_slice_get terms n t t g) (s n t (slice_get_within terms n t g)) in
    let long = k.fewer.long in
    omega (arith, stands, long)

pub all_kept : (old forms : List (Option Form)) (but : Option ℕ) (terms : List Term) (n : ℕ) → KeptTo old forms but terms n → length terms ≤ n → TermsInBut forms but terms
all_kept old forms but terms n k e = subst (λ (ts : List Term). TermsInBut forms but ts) (take_whole terms n e) k.stay

pub terms_fewer : (old forms : List (Option Form)) (but : Option ℕ) (terms : List Term) (n : ℕ) → KeptTo old forms but terms n → GoFewer old forms
terms_fewer old forms but terms n k = k.fewer

-- a term of the column that needn't stay
pub term_but : (old forms : List (Option Form)) (but : Option ℕ) (terms : List Term) (n column : ℕ) (t : Term) → KeptTo old forms but terms n → n < length terms → t ≡ get_or terms n t → column ≡ t.column → but ≡ Some column → KeptTo old forms but terms (n + 1)
term_but old forms but terms n column t k below is e b = term_kept old forms forms but terms n t k below is (fewer_self forms) (inl (b ∙ ap Some e))

-- one whose column stays
pub term_in : (old forms new : List (Option Form)) (but : Option ℕ) (terms : List Term) (n column : ℕ) (t : Term) → KeptTo old forms but terms n → n < length terms → t ≡ get_or terms n t → column ≡ t.column → GoFewer forms new → IsIn new column → KeptTo old new but terms (n + 1)
term_in old forms new but terms n column t k below is e f i = term_kept old forms new but terms n t k below is f (inr (subst (λ m. IsIn new m) e i))

pub ruleset term_stays = (no_terms, term_within, all_kept, terms_fewer)

-- ---- rows

same_gone : (old new : List (Option Form)) (column : ℕ) (form other : Form) → GoFewer old new → slice_get old column ≡ Some (Some form) → slice_get new column ≡ Some (Some other) → slice_get new column ≡ Some (Some form)
same_gone old new column form other f h k =
    let e : other ≡ form = same_Some other form (same_Some (Some other) (Some form) (sym (f.gone column other k) ∙ h)) in
    subst (λ g. slice_get new column ≡ Some (Some g)) e k

entry_later : (old new : List (Option Form)) (column : ℕ) (form : Form) (o : Option (Option Form)) → GoFewer old new → slice_get old column ≡ Some (Some form) → slice_get new column ≡ o → (slice_get new column ≡ Some (Some form)) ⊎ IsIn new column
entry_later old new column form None f h e =
    let w = slice_get_within old column (Some form) h in
    let l = f.long in
    absurd (none-some (get_or new column None) (sym e ∙ slice_get-get_or new column None (omega (arith, w, l))))
entry_later old new column form (Some None) f h e = inr e
entry_later old new column form (Some (Some other)) f h e = inl (same_gone old new column form other f h e)

state_later : (old new : List (Option Form)) (column : ℕ) (form : Form) → GoFewer old new → (slice_get old column ≡ Some (Some form)) ⊎ IsIn old column → (slice_get new column ≡ Some (Some form)) ⊎ IsIn new column
state_later old new column form f (inl h) = entry_later old new column form (slice_get new column) f h refl
state_later old new column form f (inr i) = inr (f.stays column i)

kept_later : (old new : List (Option Form)) (row : Row) → GoFewer old new → RowKept old row → RowKept new row
kept_later old new row f (inl h) = inl (terms_stay old new row.terms f h)
kept_later old new row f (inr h) = inr (record {
  column = h.column;
  form = h.form;
  gives = h.gives;
  state = state_later old new h.column h.form f h.state;
  others = but_stay old new (Some h.column) row.terms f h.others;
})

rows_later : (old new : List (Option Form)) (rows : List Row) → GoFewer old new → RowsKept old rows → RowsKept new rows
rows_later old new [] f h = tt
rows_later old new (r ∷ rs) f h = (kept_later old new r f h.0, rows_later old new rs f h.1)

none_but : (forms : List (Option Form)) (terms : List Term) → TermsInBut forms None terms → TermsIn forms terms
none_but forms [] h = tt
none_but forms (t ∷ ts) h = (go h.0, none_but forms ts h.1)
  where
    go : (None ≡ Some t.column) ⊎ IsIn forms t.column → IsIn forms t.column
    go (inl e) = absurd (none-some t.column e)
    go (inr i) = i

pub row_kept_by : (old new : List (Option Form)) (row : Row) (but : Option ℕ) → IfSome but (IsSpentBy old row) → GoFewer old new → TermsInBut new but row.terms → RowKept new row
row_kept_by old new row None s f h = inl (none_but new row.terms h)
row_kept_by old new row (Some column) s f h = inr (record {
  column = column;
  form = s.form;
  gives = s.gives;
  state = state_later old new column s.form f (inl s.gone);
  others = h;
})

pub ruleset one_row = (row_kept_by)

pub record RowsKeptTo (old forms : List (Option Form)) (rows : List Row) (n : ℕ) : Type 0 where
  pub fewer : GoFewer old forms
  pub stay : RowsKept forms (take n rows)

pub no_rows : (forms : List (Option Form)) (rows : List Row) → RowsKeptTo forms forms rows 0
no_rows forms rows = record { fewer = fewer_self forms; stay = tt }

pub next_row : (old forms new : List (Option Form)) (rows : List Row) (n : ℕ) (row : Row) → RowsKeptTo old forms rows n → n < length rows → row ≡ get_or rows n row → GoFewer forms new → RowKept new row → RowsKeptTo old new rows (n + 1)
next_row old forms new rows n row k below is f h = record {
  fewer = fewer_after old forms new k.fewer f;
  stay = all_more_one (λ r. RowKept new r) rows n row (slice_get_read rows (length rows) n row refl below is) (rows_later forms new (take n rows) f k.stay) h;
}

pub row_within : (old forms : List (Option Form)) (rows : List Row) (n : ℕ) (row : Row) → RowsKeptTo old forms rows n → All (λ r. StandsBelow (length old) r.terms) rows → n < length rows → row ≡ get_or rows n row → StandsBelow (length forms) row.terms
row_within old forms rows n row k s below is =
    let g : slice_get rows n ≡ Some row = slice_get_read rows (length rows) n row refl below is in
    subst (λ m. StandsBelow m row.terms) (sym k.fewer.long)
    (subst (λ (r : Row). StandsBelow (length old) r.terms) (get_or_from_slice_get rows n row row g) (s n row (slice_get_within rows n row g)))

pub all_rows_kept : (old forms : List (Option Form)) (rows : List Row) (n : ℕ) → RowsKeptTo old forms rows n → length rows ≤ n → RowsKept forms rows
all_rows_kept old forms rows n k e = subst (λ (rs : List Row). RowsKept forms rs) (take_whole rows n e) k.stay

pub rows_fewer : (old forms : List (Option Form)) (rows : List Row) (n : ℕ) → RowsKeptTo old forms rows n → GoFewer old forms
rows_fewer old forms rows n k = k.fewer

pub ruleset row_stays = (no_rows, next_row, row_within, all_rows_kept, rows_fewer)

-- ---- the end

both_in : (forms : List (Option Form)) (column : ℕ) (terms : List Term) → IsIn forms column → TermsInBut forms (Some column) terms → TermsIn forms terms
both_in forms column [] i h = tt
both_in forms column (t ∷ ts) i h = (go h.0, both_in forms column ts i h.1)
  where
    go : (Some column ≡ Some t.column) ⊎ IsIn forms t.column → IsIn forms t.column
    go (inl e) = subst (λ n. IsIn forms n) (same_Some column t.column e) i
    go (inr k) = k

row_goes : (forms : List (Option Form)) (row : Row) → RowKept forms row → RowGoes forms row
row_goes forms row (inl h) = inl h
row_goes forms row (inr h) = go h.state
  where
    go : (slice_get forms h.column ≡ Some (Some h.form)) ⊎ IsIn forms h.column → RowGoes forms row
    go (inl g) = inr (record { column = h.column; by = record { form = h.form; gone = g; gives = h.gives } })
    go (inr i) = inl (both_in forms h.column row.terms i h.others)

pub rows_go : (forms : List (Option Form)) (rows : List Row) → RowsKept forms rows → RowsGo forms rows
rows_go forms [] h = tt
rows_go forms (r ∷ rs) h = (row_goes forms r h.0, rows_go forms rs h.1)

pub may_fewer : (program : Program) (first second third : List (Option Form)) → MayAllGo program first → GoFewer first second → GoFewer second third → MayAllGo program third
may_fewer program first second third m f g =
    let k = fewer_after first second third f g in
    record { long = k.long ∙ m.long; each = λ column form h. m.each column form (k.gone column form h) }

pub sources_later : (old new : List (Option Form)) → GoFewer old new → SourcesStay old → SourcesStay new
sources_later old new f s column = stays_later old new column f (s column)

pub rows_stand : (draft : Program) (first second : List (Option Form)) → IsDraft draft → MayAllGo draft first → GoFewer first second → All (λ row. StandsBelow (length second) row.terms) draft.rows
rows_stand draft first second d m f = subst (λ n. All (λ row. StandsBelow n row.terms) draft.rows) (sym (f.long ∙ m.long)) d.rows

pub ruleset fewer_go = (may_fewer, sources_later, rows_stand, rows_go)
