-- What was said without fault keeps what the code keeps of the facts.
use Rattle.std.proofs.Common.{◌≡◌, ℕ, ◌<◌, ◌≤◌, Bool, true, false, ◌||◌, ◌&&◌, not, cond, List, [], ◌∷◌, ◌++◌, length, Option, None, Some, refl, sym, ap, subst, ◌∙◌, arith}
use Rattle.std.specs.Prelude.{All, IfSome, is_some, is_none, nat_le, slice_set, Result, Ok, Err, OnOk, OnErr}
use Rattle.std.proofs.lemmas.Bool.{true≢false}
use Rattle.std.proofs.lemmas.List.{length-set}
use Rattle.std.proofs.lemmas.List.Elements.{All-nil}
use Rattle.cip_problem.specs.Limits.{most_columns}
use Rattle.cip_problem.specs.Program.{Row, Sides}
use Rattle.cip_rational.specs.Rational.{ℚ, zeroℚ, negate}
use Rattle.cip_text_rules.specs.MpsWords.{number_in, is_in}
use Rattle.cip_text_rules.specs.MpsRules.{rule, least}
use Rattle.cip_text_rules.proofs.ByLine.{or_nothing}
use Rattle.cip_text_rules.proofs.Quiet.{right_false}
use Rattle.cip_text_rules.specs.LpWords.{LpPart, Costs, Constraints}
use Rattle.cip_text_rules.specs.LpPlaces.{Amount, Event, Fails, Opens, NamesObjective, Begins, AddsCost, AddsConstant, Adds, Ends, Mentions, SetsLow, SetsHigh, SetsBoth, MakesWhole, MakesBinary}
use Rattle.cip_text_rules.specs.LpFacts.{FormTerm, LpFacts, nothing_said, default_sides, is_named, name_of_row, own_name, is_again, is_column_too_many, is_entry_too_many, is_long, form_with, form_term, column_number, minimized, entries_with, with_column, with_cost, with_term, with_row, terms_of, with_part, event_fault, facts_with}
use Rattle.cip_text_rules.specs.LpSound.{form_rises}
use Rattle.cip_text_rules.proofs.LpEvents.{unbroken}
use Rattle.cip_text_rules.proofs.LpFits.{event_kept, number_within, first_sound}
use Rattle.cip_lp.specs.LpDrafts.{is_among, IsKeptLp}
use Rattle.cip_lp.specs.LpEvents.{IsLpKind, IsTaken}

-- ---- names of rows

column_fresh : (facts : LpFacts) (name : List ℕ) → is_among facts.row_names facts.row_name ≡ false → is_among (with_column facts name).row_names (with_column facts name).row_name ≡ false
column_fresh facts name h = go (is_in facts.column_names name)
  where
    go : (b : Bool) → is_among (cond b facts (record facts { column_names = facts.column_names ++ name ∷ []; costs = facts.costs ++ zeroℚ ∷ []; bounds = facts.bounds ++ default_sides ∷ []; integral = facts.integral ++ false ∷ [] })).row_names (cond b facts (record facts { column_names = facts.column_names ++ name ∷ []; costs = facts.costs ++ zeroℚ ∷ []; bounds = facts.bounds ++ default_sides ∷ []; integral = facts.integral ++ false ∷ [] })).row_name ≡ false
    go true = h
    go false = h

row_fresh : (facts : LpFacts) (name : Option (List ℕ)) (low high : Option ℚ) → is_among facts.row_names facts.row_name ≡ false → is_among (with_row facts name low high).row_names (with_row facts name low high).row_name ≡ false
row_fresh facts None low high h = h
row_fresh facts (Some name) low high h = refl

part_fresh : (facts : LpFacts) (part : LpPart) → is_among facts.row_names facts.row_name ≡ false → is_among (with_part facts part).row_names (with_part facts part).row_name ≡ false
part_fresh facts (Costs maximized) h = h
part_fresh facts Constraints h = h
part_fresh facts other h = h

fresh_with : (facts : LpFacts) (event : Event) → is_among facts.row_names facts.row_name ≡ false → event_fault facts event ≡ None → is_among (facts_with facts event).row_names (facts_with facts event).row_name ≡ false
fresh_with facts (Fails kind) h e = h
fresh_with facts (Opens part) h e = part_fresh facts part h
fresh_with facts (NamesObjective name) h e = h
fresh_with facts (Begins name) h e = right_false (is_named facts.objective (name_of_row facts name)) (is_in facts.row_names (name_of_row facts name)) (unbroken facts (Begins name) e).0
fresh_with facts (AddsCost amount name) h e = column_fresh facts name h
fresh_with facts (AddsConstant amount) h e = h
fresh_with facts (Adds amount name) h e = column_fresh facts name h
fresh_with facts (Ends low high) h e = row_fresh facts facts.row_name low high h
fresh_with facts (Mentions name) h e = column_fresh facts name h
fresh_with facts (SetsLow name side) h e = h
fresh_with facts (SetsHigh name side) h e = h
fresh_with facts (SetsBoth name side) h e = h
fresh_with facts (MakesWhole name) h e = h
fresh_with facts (MakesBinary name) h e = h

-- ---- the whole

pub kept_with : (facts : LpFacts) (event : Event) → IsKeptLp facts → event_fault facts event ≡ None → IsKeptLp (facts_with facts event)
kept_with facts event h e = record {
  sound = event_kept facts event h.sound e;
  fresh = fresh_with facts event h.fresh e;
}

-- ---- terms

-- the fault of a term of the objective, or of a row
pub cost_fault : (facts : LpFacts) (amount : Amount) (name : List ℕ) (kind : Option ℕ) → kind ≡ least (rule 7 (is_again facts name) ∷ rule 9 (is_column_too_many facts name || false) ∷ rule 10 (is_long name) ∷ []) → kind ≡ event_fault facts (AddsCost amount name)
cost_fault facts amount name kind e =
    e ∙ ap (λ (b : Bool). least (rule 7 (is_again facts name) ∷ rule 9 b ∷ rule 10 (is_long name) ∷ [])) (or_nothing (is_column_too_many facts name))

pub term_fault : (facts : LpFacts) (amount : Amount) (name : List ℕ) (full : Bool) (kind : Option ℕ) → full ≡ is_entry_too_many facts amount → kind ≡ least (rule 7 (is_again facts name) ∷ rule 9 (is_column_too_many facts name || full) ∷ rule 10 (is_long name) ∷ []) → kind ≡ event_fault facts (Adds amount name)
term_fault facts amount name full kind f e =
    e ∙ ap (λ (b : Bool). least (rule 7 (is_again facts name) ∷ rule 9 (is_column_too_many facts name || b) ∷ rule 10 (is_long name) ∷ [])) f

-- what has a fault changes nothing
pub fault_taken : (facts : LpFacts) (event : Event) (kind : Option ℕ) → is_some kind ≡ true → kind ≡ event_fault facts event → IsLpKind kind → IsTaken facts facts event kind
fault_taken facts event None some e few = absurd (cc)
fault_taken facts event (Some kind) some e few = record {
  is_kind = e;
  taken = λ none. absurd (cc);
  few = few;
}

pub no_fault : (kind other : Option ℕ) → is_some kind ≡ false → kind ≡ other → other ≡ None
no_fault None other none e = sym e
no_fault (Some kind) other none e = absurd (cc)

-- a term of the objective is put
pub cost_put : (old : LpFacts) (amount : Amount) (name : List ℕ) (f : LpFacts) (t : FormTerm) (column : ℕ) (cost : ℚ) (form : List FormTerm) (costs : List ℚ) → IsKeptLp old → event_fault old (AddsCost amount name) ≡ None → f ≡ with_column old name
    → column ≡ column_number old name → t ≡ form_term column amount → form ≡ form_with t f.form → costs ≡ slice_set f.costs column cost → IsKeptLp (record f { form = form; costs = costs })
cost_put old amount name f t column cost form costs h e fe ce te fo co =
    let first : IsKeptLp (with_cost (with_column old name) amount (column_number old name)) = kept_with old (AddsCost amount name) h e in
    let second : IsKeptLp (with_cost f amount (column_number old name)) = subst (λ (g : LpFacts). IsKeptLp (with_cost g amount (column_number old name))) (sym fe) first in
    let k : IsKeptLp (with_cost f amount column) = subst (λ (n : ℕ). IsKeptLp (with_cost f amount n)) (sym ce) second in
    let same : form_with (form_term column amount) f.form ≡ form = ap (λ (x : FormTerm). form_with x f.form) (sym te) ∙ sym fo in
    record {
      sound = record {
        costs = ap length co ∙ length-set f.costs column cost ∙ sym (length-set f.costs column (minimized f amount.value)) ∙ k.sound.costs;
        bounds = k.sound.bounds;
        integral = k.sound.integral;
        row_names = k.sound.row_names;
        few_columns = k.sound.few_columns;
        few_rows = k.sound.few_rows;
        room = k.sound.room;
        few_entries = k.sound.few_entries;
        form = subst (λ (ts : List FormTerm). All (λ x. x.column < length f.column_names) ts) same k.sound.form;
        rising = subst (λ (ts : List FormTerm). form_rises ts ≡ true) same k.sound.rising;
        rows = k.sound.rows;
      };
      fresh = k.fresh;
    }

-- a term of a row is put
pub term_put : (old : LpFacts) (amount : Amount) (name : List ℕ) (f : LpFacts) (t : FormTerm) (column : ℕ) (form : List FormTerm) (entries : ℕ) → IsKeptLp old → event_fault old (Adds amount name) ≡ None → f ≡ with_column old name
    → column ≡ column_number old name → t ≡ form_term column amount → form ≡ form_with t f.form → entries ≡ entries_with f.entries amount → IsKeptLp (record f { form = form; entries = entries })
term_put old amount name f t column form entries h e fe ce te fo en =
    let first : IsKeptLp (with_term (with_column old name) amount (column_number old name)) = kept_with old (Adds amount name) h e in
    let second : IsKeptLp (with_term f amount (column_number old name)) = subst (λ (g : LpFacts). IsKeptLp (with_term g amount (column_number old name))) (sym fe) first in
    let k : IsKeptLp (with_term f amount column) = subst (λ (n : ℕ). IsKeptLp (with_term f amount n)) (sym ce) second in
    let same : form_with (form_term column amount) f.form ≡ form = ap (λ (x : FormTerm). form_with x f.form) (sym te) ∙ sym fo in
    let put : ◌≡◌ {A = LpFacts} (with_term f amount column) (record f { form = form; entries = entries }) = λ i. record f { form = same i; entries = (sym en) i } in
    subst IsKeptLp put k

-- and these are the facts
pub cost_is : (old : LpFacts) (amount : Amount) (name : List ℕ) (f : LpFacts) (t : FormTerm) (column : ℕ) (cost : ℚ) (form : List FormTerm) (costs : List ℚ) → f ≡ with_column old name → column ≡ column_number old name → t ≡ form_term column amount
    → form ≡ form_with t f.form → cost ≡ minimized f amount.value → costs ≡ slice_set f.costs column cost → ◌≡◌ {A = LpFacts} (record f { form = form; costs = costs }) (with_cost (with_column old name) amount (column_number old name))
cost_is old amount name f t column cost form costs fe ce te fo mi co =
    let put : ◌≡◌ {A = LpFacts} (record f { form = form; costs = costs }) (with_cost f amount column) =
    λ i. record f { form = (fo ∙ ap (λ (x : FormTerm). form_with x f.form) te) i; costs = (co ∙ ap (λ (x : ℚ). slice_set f.costs column x) mi) i } in
    put ∙ (λ i. with_cost (fe i) amount (ce i))

pub term_is : (old : LpFacts) (amount : Amount) (name : List ℕ) (f : LpFacts) (t : FormTerm) (column : ℕ) (form : List FormTerm) (entries : ℕ) → f ≡ with_column old name → column ≡ column_number old name → t ≡ form_term column amount
    → form ≡ form_with t f.form → entries ≡ entries_with f.entries amount → ◌≡◌ {A = LpFacts} (record f { form = form; entries = entries }) (with_term (with_column old name) amount (column_number old name))
term_is old amount name f t column form entries fe ce te fo en =
    let put : ◌≡◌ {A = LpFacts} (record f { form = form; entries = entries }) (with_term f amount column) =
    λ i. record f { form = (fo ∙ ap (λ (x : FormTerm). form_with x f.form) te) i; entries = en i } in
    put ∙ (λ i. with_term (fe i) amount (ce i))

-- ---- columns

-- a column that is new stands behind the others
pub column_put : (f : LpFacts) (name : List ℕ) (names : List (List ℕ)) (costs : List ℚ) (bounds : List Sides) (integral : List Bool) → number_in f.column_names name ≡ None
    → names ≡ f.column_names ++ name ∷ [] → costs ≡ f.costs ++ zeroℚ ∷ [] → bounds ≡ f.bounds ++ default_sides ∷ [] → integral ≡ f.integral ++ false ∷ []
    → ◌≡◌ {A = LpFacts} (record f { column_names = names; costs = costs; bounds = bounds; integral = integral }) (with_column f name)
column_put f name names costs bounds integral e n c b w =
    let more : ◌≡◌ {A = LpFacts} (record f { column_names = names; costs = costs; bounds = bounds; integral = integral }) (record f { column_names = f.column_names ++ name ∷ []; costs = f.costs ++ zeroℚ ∷ []; bounds = f.bounds ++ default_sides ∷ []; integral = f.integral ++ false ∷ [] }) =
    λ i. record f { column_names = n i; costs = c i; bounds = b i; integral = w i } in
    more ∙ sym (ap (λ (o : Option ℕ). cond (is_some o) f (record f { column_names = f.column_names ++ name ∷ []; costs = f.costs ++ zeroℚ ∷ []; bounds = f.bounds ++ default_sides ∷ []; integral = f.integral ++ false ∷ [] })) e)

-- and where none was put, all is as it was
pub column_unput : (f : LpFacts) (names : List (List ℕ)) (costs : List ℚ) (bounds : List Sides) (integral : List Bool) → names ≡ f.column_names → costs ≡ f.costs → bounds ≡ f.bounds → integral ≡ f.integral
    → ◌≡◌ {A = LpFacts} (record f { column_names = names; costs = costs; bounds = bounds; integral = integral }) f
column_unput f names costs bounds integral n c b w = λ i. record f { column_names = n i; costs = c i; bounds = b i; integral = w i }

-- the number of a column is small
pub small_number : (o : Option ℕ) (n : ℕ) → IfSome o (λ k. k < n) → n ≤ most_columns → IfSome o (λ k. k < most_columns)
small_number None n h l = tt
small_number (Some k) n h l = omega (arith, h, l)

-- the number of a column that is named is that of a cost
pub cost_within : (old f : LpFacts) (name : List ℕ) (column : ℕ) → IsKeptLp f → f ≡ with_column old name → column ≡ column_number old name → column < length f.costs
cost_within old f name column h e c =
    let l : column_number old name < length (with_column old name).column_names = number_within old name in
    let m : column_number old name < length f.column_names = subst (λ (g : LpFacts). column_number old name < length g.column_names) (sym e) l in
    let s : length f.costs ≡ length f.column_names = h.sound.costs in
    omega (arith, m, s, c)

-- ---- rows

-- the row in hand is let go
pub row_let_go : (f : LpFacts) (row_name : Option (List ℕ)) (form : List FormTerm) → IsKeptLp f → row_name ≡ None → form ≡ [] → IsKeptLp (record f { row_name = row_name; form = form })
row_let_go f row_name form h n t =
    let none : IsKeptLp (record f { row_name = None; form = [] }) = record {
      sound = record {
        costs = h.sound.costs;
        bounds = h.sound.bounds;
        integral = h.sound.integral;
        row_names = h.sound.row_names;
        few_columns = h.sound.few_columns;
        few_rows = h.sound.few_rows;
        room = λ e. absurd (cc);
        few_entries = h.sound.few_entries;
        form = All-nil (λ (x : FormTerm). x.column < length f.column_names);
        rising = refl;
        rows = h.sound.rows;
      };
      fresh = refl;
    } in
    let same : ◌≡◌ {A = LpFacts} (record f { row_name = None; form = [] }) (record f { row_name = row_name; form = form }) = λ i. record f { row_name = (sym n) i; form = (sym t) i } in
    subst IsKeptLp same none

-- the row in hand ends
pub row_put : (f : LpFacts) (name : List ℕ) (low high : Option ℚ) (row : Row) (row_names : List (List ℕ)) (rows : List Row) (row_name : Option (List ℕ)) (form : List FormTerm) → IsKeptLp f → f.row_name ≡ Some name
    → row ≡ record { terms = terms_of f.form; low = low; high = high } → row_names ≡ f.row_names ++ name ∷ [] → rows ≡ f.rows ++ row ∷ [] → row_name ≡ None → form ≡ [] → IsKeptLp (record f { row_names = row_names; rows = rows; row_name = row_name; form = form })
row_put f name low high row row_names rows row_name form h e r n s o t =
    let ended : IsKeptLp (with_row f f.row_name low high) = kept_with f (Ends low high) h refl in
    let named : IsKeptLp (with_row f (Some name) low high) = subst (λ (x : Option (List ℕ)). IsKeptLp (with_row f x low high)) e ended in
    let all : rows ≡ f.rows ++ record { terms = terms_of f.form; low = low; high = high } ∷ [] = s ∙ ap (λ (x : Row). f.rows ++ x ∷ []) r in
    let same : ◌≡◌ {A = LpFacts} (with_row f (Some name) low high) (record f { row_names = row_names; rows = rows; row_name = row_name; form = form }) =
    λ i. record f { row_names = (sym n) i; rows = (sym all) i; row_name = (sym o) i; form = (sym t) i } in
    subst IsKeptLp same named

-- the row in hand has ended, put behind the others or let go
pub row_ended : {E : Type 0} (put : Result (Unit {0}) E) (f : LpFacts) (name : List ℕ) (low high : Option ℚ) (row : Row) (row_names : List (List ℕ)) (rows : List Row) (row_name : Option (List ℕ)) (form : List FormTerm) → IsKeptLp f → f.row_name ≡ Some name
    → row ≡ record { terms = terms_of f.form; low = low; high = high }
    → OnOk put ((row_names ≡ f.row_names ++ name ∷ []) × (rows ≡ f.rows ++ row ∷ []))
    → OnErr put ((row_names ≡ f.row_names) × (rows ≡ f.rows))
    → row_name ≡ None → form ≡ [] → IsKeptLp (record f { row_names = row_names; rows = rows; row_name = row_name; form = form })
row_ended (Ok u) f name low high row row_names rows row_name form h e r ok err o t =
    row_put f name low high row row_names rows row_name form h e r ok.0 ok.1 o t
row_ended (Err x) f name low high row row_names rows row_name form h e r ok err o t =
    let same : ◌≡◌ {A = LpFacts} (record f { row_name = row_name; form = form }) (record f { row_names = row_names; rows = rows; row_name = row_name; form = form }) =
    λ i. record f { row_names = (sym err.0) i; rows = (sym err.1) i; row_name = row_name; form = form } in
    subst IsKeptLp same (row_let_go f row_name form h o t)

-- ---- facts of which one thing is other

pub constant_kept : (facts : LpFacts) (q : ℚ) → IsKeptLp facts → IsKeptLp (record facts { constant = q })
constant_kept facts q h = record { sound = record { costs = h.sound.costs; bounds = h.sound.bounds; integral = h.sound.integral; row_names = h.sound.row_names; few_columns = h.sound.few_columns; few_rows = h.sound.few_rows; room = h.sound.room; few_entries = h.sound.few_entries; form = h.sound.form; rising = h.sound.rising; rows = h.sound.rows }; fresh = h.fresh }

pub objective_kept : (facts : LpFacts) (name : Option (List ℕ)) → IsKeptLp facts → IsKeptLp (record facts { objective = name })
objective_kept facts name h = record { sound = record { costs = h.sound.costs; bounds = h.sound.bounds; integral = h.sound.integral; row_names = h.sound.row_names; few_columns = h.sound.few_columns; few_rows = h.sound.few_rows; room = h.sound.room; few_entries = h.sound.few_entries; form = h.sound.form; rising = h.sound.rising; rows = h.sound.rows }; fresh = h.fresh }

pub row_left : (facts : LpFacts) (name : Option (List ℕ)) (form : List FormTerm) → name ≡ None → form ≡ [] → IsKeptLp facts → IsKeptLp (record facts { row_name = name; form = form })
row_left facts name form e f h = rw (e, f) (record { sound = record { costs = h.sound.costs; bounds = h.sound.bounds; integral = h.sound.integral; row_names = h.sound.row_names; few_columns = h.sound.few_columns; few_rows = h.sound.few_rows; room = λ s. absurd (true≢false (sym s)); few_entries = h.sound.few_entries; form = All-nil _; rising = refl; rows = h.sound.rows }; fresh = refl })

pub bounds_kept : (facts : LpFacts) (bounds : List Sides) → length bounds ≡ length facts.bounds → IsKeptLp facts → IsKeptLp (record facts { bounds = bounds })
bounds_kept facts bounds e h = record { sound = record { costs = h.sound.costs; bounds = e ∙ h.sound.bounds; integral = h.sound.integral; row_names = h.sound.row_names; few_columns = h.sound.few_columns; few_rows = h.sound.few_rows; room = h.sound.room; few_entries = h.sound.few_entries; form = h.sound.form; rising = h.sound.rising; rows = h.sound.rows }; fresh = h.fresh }

pub integral_kept : (facts : LpFacts) (integral : List Bool) → length integral ≡ length facts.integral → IsKeptLp facts → IsKeptLp (record facts { integral = integral })
integral_kept facts integral e h = record { sound = record { costs = h.sound.costs; bounds = h.sound.bounds; integral = e ∙ h.sound.integral; row_names = h.sound.row_names; few_columns = h.sound.few_columns; few_rows = h.sound.few_rows; room = h.sound.room; few_entries = h.sound.few_entries; form = h.sound.form; rising = h.sound.rising; rows = h.sound.rows }; fresh = h.fresh }

pub maximized_kept : (facts : LpFacts) (maximized : Bool) → IsKeptLp facts → IsKeptLp (record facts { maximized = maximized })
maximized_kept facts maximized h = record { sound = record { costs = h.sound.costs; bounds = h.sound.bounds; integral = h.sound.integral; row_names = h.sound.row_names; few_columns = h.sound.few_columns; few_rows = h.sound.few_rows; room = h.sound.room; few_entries = h.sound.few_entries; form = h.sound.form; rising = h.sound.rising; rows = h.sound.rows }; fresh = h.fresh }

-- ---- what is said of rows

-- the row in hand has ended, where it was put behind the others
pub ended_is : {E : Type 0} (put : Result (Unit {0}) E) (f old : LpFacts) (name : List ℕ) (low high : Option ℚ) (row : Row) (row_names : List (List ℕ)) (rows : List Row) (row_name : Option (List ℕ)) (form : List FormTerm) → f ≡ old → f.row_name ≡ Some name
    → row ≡ record { terms = terms_of f.form; low = low; high = high } → OnOk put ((row_names ≡ f.row_names ++ name ∷ []) × (rows ≡ f.rows ++ row ∷ [])) → row_name ≡ None → form ≡ []
    → OnOk put (◌≡◌ {A = LpFacts} (record f { row_names = row_names; rows = rows; row_name = row_name; form = form }) (facts_with old (Ends low high)))
ended_is (Err x) f old name low high row row_names rows row_name form v e r ok n t = tt
ended_is (Ok u) f old name low high row row_names rows row_name form v e r ok n t =
    let all : rows ≡ f.rows ++ record { terms = terms_of f.form; low = low; high = high } ∷ [] = ok.1 ∙ ap (λ (x : Row). f.rows ++ x ∷ []) r in
    let put : ◌≡◌ {A = LpFacts} (record f { row_names = row_names; rows = rows; row_name = row_name; form = form }) (with_row f (Some name) low high) = λ i. record f { row_names = ok.0 i; rows = all i; row_name = n i; form = t i } in
    put ∙ ap (λ (o : Option (List ℕ)). with_row f o low high) (sym e) ∙ ap (λ (g : LpFacts). with_row g g.row_name low high) v

-- a row without a name of its own has begun
pub unnamed_taken : (old new : LpFacts) (name : List ℕ) (kind : Option ℕ) → name ≡ own_name old → IsTaken old new (Begins (Some name)) kind → IsTaken old new (Begins None) kind
unnamed_taken old new name kind e h =
    let own : IsTaken old new (Begins (Some (own_name old))) kind = subst (λ (n : List ℕ). IsTaken old new (Begins (Some n)) kind) e h in
    record { is_kind = own.is_kind; taken = own.taken; few = own.few }

-- ---- costs, names and columns

pub minimized_by : (was old : LpFacts) (value : ℚ) (maximized : Bool) → was ≡ old → was.maximized ≡ maximized → minimized old value ≡ cond maximized (negate value) value
minimized_by was old value maximized v e = ap (λ (f : LpFacts). minimized f value) (sym v) ∙ ap (λ (b : Bool). cond b (negate value) value) e

too_many : (facts : LpFacts) (name : List ℕ) (column : Option ℕ) → column ≡ number_in facts.column_names name → (is_none column && nat_le most_columns (length facts.column_names)) ≡ is_column_too_many facts name
too_many facts name column e = ap (λ (o : Option ℕ). is_none o && nat_le most_columns (length facts.column_names)) e ∙ ap (λ (b : Bool). b && nat_le most_columns (length facts.column_names)) (none_is (number_in facts.column_names name))
  where
    none_is : (o : Option ℕ) → is_none o ≡ not (is_some o)
    none_is None = refl
    none_is (Some k) = refl

-- a column that is named is one too many, has too long a name, or is taken
pub many_said : (facts : LpFacts) (name : List ℕ) (column : Option ℕ) → column ≡ number_in facts.column_names name → true ≡ (is_none column && nat_le most_columns (length facts.column_names)) → IsTaken facts facts (Mentions name) (Some 9)
many_said facts name column e many = record {
  is_kind = ap (λ (b : Bool). least (rule 9 b ∷ rule 10 (is_long name) ∷ [])) (many ∙ too_many facts name column e);
  taken = λ none. absurd (cc);
  few = (omega arith, omega arith);
}

pub long_said : (facts : LpFacts) (name : List ℕ) (column : Option ℕ) → column ≡ number_in facts.column_names name → false ≡ (is_none column && nat_le most_columns (length facts.column_names)) → true ≡ is_long name → IsTaken facts facts (Mentions name) (Some 10)
long_said facts name column e few long = record {
  is_kind = λ i. least (rule 9 ((few ∙ too_many facts name column e) i) ∷ rule 10 (long i) ∷ []);
  taken = λ none. absurd (cc);
  few = (omega arith, omega arith);
}

pub column_said : (old new : LpFacts) (name : List ℕ) (column : Option ℕ) → column ≡ number_in old.column_names name → false ≡ (is_none column && nat_le most_columns (length old.column_names)) → false ≡ is_long name → new ≡ with_column old name → IsTaken old new (Mentions name) None
column_said old new name column e few short n = record {
  is_kind = λ i. least (rule 9 ((few ∙ too_many old name column e) i) ∷ rule 10 (short i) ∷ []);
  taken = λ _. n;
  few = tt;
}

-- the objective has its name
pub named_said : (was old : LpFacts) (name owned : List ℕ) → was ≡ old → owned ≡ name → false ≡ is_long name → IsTaken old (record was { objective = Some owned }) (NamesObjective name) None
named_said was old name owned v e short = record {
  is_kind = ap (λ (b : Bool). least (rule 10 b ∷ [])) short;
  taken = λ _. λ i. record (v i) { objective = Some (e i) };
  few = tt;
}

-- before the first token
pub nothing_kept : (row_names : List (List ℕ)) (rows : List Row) (column_names : List (List ℕ)) (costs : List ℚ) (bounds : List Sides) (integral : List Bool) (constant : ℚ) (form : List FormTerm)
    → row_names ≡ [] → rows ≡ [] → column_names ≡ [] → costs ≡ [] → bounds ≡ [] → integral ≡ [] → constant ≡ zeroℚ → form ≡ []
    → IsKeptLp (record { maximized = false; objective = None; row_names = row_names; rows = rows; row_name = None; column_names = column_names; costs = costs; bounds = bounds; integral = integral; constant = constant; form = form; entries = 0 })
nothing_kept row_names rows column_names costs bounds integral constant form a b c d e f g h =
    let first : IsKeptLp nothing_said = record { sound = first_sound; fresh = refl } in
    let same : ◌≡◌ {A = LpFacts} nothing_said (record { maximized = false; objective = None; row_names = row_names; rows = rows; row_name = None; column_names = column_names; costs = costs; bounds = bounds; integral = integral; constant = constant; form = form; entries = 0 }) =
    λ i. record { maximized = false; objective = None; row_names = sym a i; rows = sym b i; row_name = None; column_names = sym c i; costs = sym d i; bounds = sym e i; integral = sym f i; constant = sym g i; form = sym h i; entries = 0 } in
    subst IsKeptLp same first
