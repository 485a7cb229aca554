-- Plans of columns that move, made and taken one column after another.
use Rattle.std.proofs.Common.{◌≡◌, ◌⊎◌, ℕ, zero, suc, ◌+◌, ◌<◌, ◌≤◌, ◌^◌, Bool, false, List, [], ◌∷◌, ◌++◌, length, Option, None, Some, IfSome, slice_get, refl, sym, ap, ◌∙◌, subst, arith, inl, inr}
use Rattle.std.specs.Prelude.{slice_set, slice_index_or}
use Rattle.std.proofs.Math.ListN.{get_or}
use Rattle.std.proofs.lemmas.Bool.{cases_lt}
use Rattle.std.proofs.lemmas.Option.{none-some, same_Some}
use Rattle.cip_rational.specs.Rational.{ℚ, zeroℚ}
use Rattle.cip_problem.specs.Program.{Sides, Program}
use Rattle.cip_problem.specs.Box.{sides_at}
use Rattle.cip_problem.specs.Choices.{choice_at, is_open}
use Rattle.cip_search.specs.NarrowedPrograms.{with_sides}
use Rattle.cip_search.specs.Forms.{Form}
use Rattle.cip_search.specs.Moving.{fixed_sides}
use Rattle.cip_search.proofs.Moving.{sides_set}
use Rattle.cip_presolve.specs.DraftParts.{IsDraft}
use Rattle.cip_presolve.specs.ColumnsOut.{IsIn, MayAllGo, SourcesStay}
use Rattle.cip_presolve.specs.FreeColumns.{RowsFree}
use Rattle.cip_presolve.specs.Moves.{MovesTo, target_at, Follows, AreTargets, IsEntry, AreEntries, IsPlan, IsPlanned, IsTaken}
use Rattle.cip_presolve.proofs.ImpliedSides.{columns_same}

-- ---- one entry more

target_pushed : (targets : List (Option ℚ)) (o : Option ℚ) (column : ℕ) → column < length targets → target_at (targets ++ o ∷ []) column ≡ target_at targets column
target_pushed [] o column h = absurd (omega (arith, h))
target_pushed (t ∷ ts) o zero h = refl
target_pushed (t ∷ ts) o (suc column) h = target_pushed ts o column (omega (arith, h))

target_last : (targets : List (Option ℚ)) (o : Option ℚ) → target_at (targets ++ o ∷ []) (length targets) ≡ o
target_last [] o = refl
target_last (t ∷ ts) o = target_last ts o

target_past : (targets : List (Option ℚ)) (o : Option ℚ) (column : ℕ) → length targets < column → target_at (targets ++ o ∷ []) column ≡ None
target_past [] o zero h = absurd (omega (arith, h))
target_past [] o (suc column) h = refl
target_past (t ∷ ts) o zero h = absurd (omega (arith, h))
target_past (t ∷ ts) o (suc column) h = target_past ts o column (omega (arith, h))

grown : (targets : List (Option ℚ)) (o : Option ℚ) → length (targets ++ o ∷ []) ≡ length targets + 1
grown [] o = refl
grown (t ∷ ts) o = let k = grown ts o in omega (arith, k)

data Spot (n column : ℕ) : Type 0 where
  before : column < n → Spot n column
  at : column ≡ n → Spot n column
  behind : n < column → Spot n column

spot_of : (n column : ℕ) → Spot n column
spot_of n column = go (cases_lt column n) (cases_lt n column)
  where
    go : (column < n) ⊎ (n ≤ column) → (n < column) ⊎ (column ≤ n) → Spot n column
    go (inl h) k = before h
    go (inr h) (inl k) = behind k
    go (inr h) (inr k) = at (omega (arith, h, k))

-- ---- targets

pub record TargetsTo (rising : Bool) (free : List Bool) (program : Program) (targets : List (Option ℚ)) (count : ℕ) : Type 0 where
  pub long : length targets ≡ count
  pub each : (column : ℕ) (value : ℚ) → target_at targets column ≡ Some value → MovesTo rising free program column value

pub no_targets : (rising : Bool) (free : List Bool) (program : Program) → TargetsTo rising free program [] 0
no_targets rising free program = record { long = refl; each = λ column value h. absurd (none-some value h) }

moves_last : (rising : Bool) (free : List Bool) (program : Program) (o : Option ℚ) (count : ℕ) (value : ℚ) → IfSome o (MovesTo rising free program count) → o ≡ Some value → MovesTo rising free program count value
moves_last rising free program None count value m e = absurd (none-some value e)
moves_last rising free program (Some own) count value m e = subst (λ v. MovesTo rising free program count v) (same_Some own value e) m

more_targets : (rising : Bool) (free : List Bool) (program : Program) (targets : List (Option ℚ)) (o : Option ℚ) (count : ℕ) → TargetsTo rising free program targets count → IfSome o (MovesTo rising free program count) → (column : ℕ) (value : ℚ) → Spot (length targets) column → target_at (targets ++ o ∷ []) column ≡ Some value → MovesTo rising free program column value
more_targets rising free program targets o count t m column value (before h) e = t.each column value (sym (target_pushed targets o column h) ∙ e)
more_targets rising free program targets o count t m column value (behind h) e = absurd (none-some value (sym (target_past targets o column h) ∙ e))
more_targets rising free program targets o count t m column value (at h) e =
    subst (λ n. MovesTo rising free program n value) (sym (h ∙ t.long))
    (moves_last rising free program o count value m (sym (target_last targets o) ∙ ap (target_at (targets ++ o ∷ [])) (sym h) ∙ e))

pub target_more : (rising : Bool) (free : List Bool) (program : Program) (targets new : List (Option ℚ)) (o : Option ℚ) (count : ℕ) → TargetsTo rising free program targets count → IfSome o (MovesTo rising free program count) → new ≡ targets ++ o ∷ [] → TargetsTo rising free program new (count + 1)
target_more rising free program targets new o count t m e =
    subst (λ (ts : List (Option ℚ)). TargetsTo rising free program ts (count + 1)) (sym e) (record {
      long = grown targets o ∙ ap (λ n. n + 1) t.long;
      each = λ column value h. more_targets rising free program targets o count t m column value (spot_of (length targets) column) h;
    })

pub all_targets : (rising : Bool) (free : List Bool) (program : Program) (targets : List (Option ℚ)) (count : ℕ) → TargetsTo rising free program targets count → count ≡ length program.bounds → AreTargets rising free program targets
all_targets rising free program targets count t e = record { long = t.long ∙ e; each = t.each }

pub ruleset one_target = (no_targets, target_more, all_targets)

-- ---- entries

pub record EntriesTo (forms : List (Option Form)) (targets plan : List (Option ℚ)) (count : ℕ) : Type 0 where
  pub long : length plan ≡ count
  pub each : (column : ℕ) → column < count → IsEntry targets (slice_index_or forms column None) column (target_at plan column)

pub no_entries : (forms : List (Option Form)) (targets : List (Option ℚ)) → EntriesTo forms targets [] 0
no_entries forms targets = record { long = refl; each = λ column h. absurd (omega (arith, h)) }

more_entries : (forms : List (Option Form)) (targets plan : List (Option ℚ)) (o : Option ℚ) (count : ℕ) → EntriesTo forms targets plan count → IsEntry targets (slice_index_or forms count None) count o → (column : ℕ) → column < count + 1 → Spot (length plan) column → IsEntry targets (slice_index_or forms column None) column (target_at (plan ++ o ∷ []) column)
more_entries forms targets plan o count t m column l (before h) =
    subst (λ u. IsEntry targets (slice_index_or forms column None) column u) (sym (target_pushed plan o column h)) (t.each column (omega (arith, h, t.long)))
more_entries forms targets plan o count t m column l (behind h) = absurd (omega (arith, h, t.long, l))
more_entries forms targets plan o count t m column l (at h) =
    subst (λ n. IsEntry targets (slice_index_or forms n None) n (target_at (plan ++ o ∷ []) n)) (sym (h ∙ t.long))
    (subst (λ u. IsEntry targets (slice_index_or forms count None) count u) (sym (ap (target_at (plan ++ o ∷ [])) (sym t.long) ∙ target_last plan o)) m)

pub entry_more : (forms : List (Option Form)) (targets plan new : List (Option ℚ)) (o : Option ℚ) (count : ℕ) (form d : Option Form) → EntriesTo forms targets plan count → get_or forms count d ≡ form → count < length forms → IsEntry targets form count o → new ≡ plan ++ o ∷ [] → EntriesTo forms targets new (count + 1)
entry_more forms targets plan new o count form d t g l m e =
    let own : IsEntry targets (slice_index_or forms count None) count o = subst (λ f. IsEntry targets f count o) (sym (index_is forms count form d l g)) m in
    subst (λ (ts : List (Option ℚ)). EntriesTo forms targets ts (count + 1)) (sym e) (record {
      long = grown plan o ∙ ap (λ n. n + 1) t.long;
      each = λ column h. more_entries forms targets plan o count t own column h (spot_of (length plan) column);
    })
  where
    index_is : (forms : List (Option Form)) (count : ℕ) (form d : Option Form) → count < length forms → get_or forms count d ≡ form → slice_index_or forms count None ≡ form
    index_is [] count form d l g = absurd (omega (arith, l))
    index_is (f ∷ forms) zero form d l g = g
    index_is (f ∷ forms) (suc count) form d l g = index_is forms count form d (omega (arith, l)) g

pub all_entries : (forms : List (Option Form)) (targets plan : List (Option ℚ)) (count : ℕ) → EntriesTo forms targets plan count → count ≡ length forms → AreEntries forms targets plan
all_entries forms targets plan count t e = record { long = t.long ∙ e; each = λ column h. t.each column (omega (arith, h, e)) }

pub ruleset one_entry = (no_entries, entry_more, all_entries)

-- ---- a plan

form_index : (forms : List (Option Form)) (column : ℕ) (o : Option Form) → slice_get forms column ≡ Some o → slice_index_or forms column None ≡ o
form_index [] column o e = absurd (none-some o e)
form_index (f ∷ forms) zero o e = same_Some f o e
form_index (f ∷ forms) (suc column) o e = form_index forms column o e

form_within : (forms : List (Option Form)) (column : ℕ) (o : Option Form) → slice_get forms column ≡ Some o → column < length forms
form_within [] column o e = absurd (none-some o e)
form_within (f ∷ forms) zero o e = omega arith
form_within (f ∷ forms) (suc column) o e = let k = form_within forms column o e in omega (arith, k)

module _ (rising : Bool) (free : List Bool) (program : Program) (forms : List (Option Form)) (targets plan : List (Option ℚ)) (may : MayAllGo program forms) (sources : SourcesStay forms) (t : AreTargets rising free program targets) (e : AreEntries forms targets plan) where
  own_entry : (column : ℕ) → IsIn forms column → target_at plan column ≡ target_at targets column
  own_entry column s = subst (λ o. IsEntry targets o column (target_at plan column)) (form_index forms column None s) (e.each column (form_within forms column None s))

  form_entry : (column : ℕ) (form : Form) → slice_get forms column ≡ Some (Some form) → Follows targets form (target_at plan column)
  form_entry column form s = subst (λ o. IsEntry targets o column (target_at plan column)) (form_index forms column (Some form) s) (e.each column (form_within forms column (Some form) s))

  source_left : (form : Form) → (form.factor ≡ zeroℚ) ⊎ (target_at targets form.source ≡ None) → (form.factor ≡ zeroℚ) ⊎ IsIn forms form.source → (form.factor ≡ zeroℚ) ⊎ (target_at plan form.source ≡ None)
  source_left form (inl z) k = inl z
  source_left form (inr h) (inl z) = inl z
  source_left form (inr h) (inr s) = inr (own_entry form.source s ∙ h)

  source_goes : (form : Form) (v : ℚ) → ¬ (form.factor ≡ zeroℚ) → target_at targets form.source ≡ Some v → (form.factor ≡ zeroℚ) ⊎ IsIn forms form.source → target_at plan form.source ≡ Some v
  source_goes form v n h (inl z) = absurd (n z)
  source_goes form v n h (inr s) = own_entry form.source s ∙ h

  follows : (column : ℕ) (form : Form) → slice_get forms column ≡ Some (Some form) → Follows targets form (target_at plan column) → Follows plan form (target_at plan column)
  follows column form s (inl f) = inl (record { stays = f.stays; source = source_left form f.source (sources column form s) })
  follows column form s (inr f) = inr (record { value = f.value; source = source_goes form f.value f.nonzero f.source (sources column form s); nonzero = f.nonzero; is = f.is })

  plan_made : IsPlan rising free program forms plan
  plan_made = record {
    long = e.long ∙ may.long;
    moves = λ column value s h. t.each column value (sym (own_entry column s) ∙ h);
    follows = λ column form s. follows column form s (form_entry column form s);
  }

pub plan_is : (rising : Bool) (free : List Bool) (program : Program) (forms : List (Option Form)) (targets plan : List (Option ℚ)) → MayAllGo program forms → SourcesStay forms → RowsFree rising free forms program.rows → AreTargets rising free program targets → AreEntries forms targets plan → IsPlanned rising program forms plan
plan_is rising free program forms targets plan may sources rows t e = record { free = free; rows = rows; is = plan_made rising free program forms targets plan may sources t e }

pub few_forms : (program : Program) (forms : List (Option Form)) → MayAllGo program forms → IsDraft program → length forms < 2 ^ 32
few_forms program forms may d = omega (arith, may.long, d.few)

pub few_plan : (rising : Bool) (program : Program) (forms : List (Option Form)) (plan : List (Option ℚ)) → IsPlanned rising program forms plan → IsDraft program → length plan < 2 ^ 32
few_plan rising program forms plan p d = omega (arith, p.is.long, d.few)

pub ruleset planning = (few_forms)

-- ---- a plan is taken

-- a column's sides are its target, where it has one
abbrev pub with_target : Program → ℕ → Option ℚ → Program
with_target program column None = program
with_target program column (Some value) = with_sides program column (fixed_sides value)

pub record TakenTo (plan : List (Option ℚ)) (old new : Program) (count : ℕ) : Type 0 where
  pub same : new ≡ record old { bounds = new.bounds }
  pub long : length new.bounds ≡ length old.bounds
  pub moved : (column : ℕ) (value : ℚ) → column < length old.bounds → column < count → target_at plan column ≡ Some value → sides_at new.bounds column ≡ fixed_sides value
  pub stays : (column : ℕ) → target_at plan column ≡ None → sides_at new.bounds column ≡ sides_at old.bounds column

pub none_taken : (plan : List (Option ℚ)) (program : Program) → TakenTo plan program program 0
none_taken plan program = record { same = refl; long = refl; moved = λ column value l h e. absurd (omega (arith, h)); stays = λ column e. refl }

sides_other : (box : List Sides) (n column : ℕ) (sides : Sides) → ¬ (column ≡ n) → sides_at (slice_set box n sides) column ≡ sides_at box column
sides_other [] n column sides h = refl
sides_other (s ∷ ss) zero zero sides h = absurd (h refl)
sides_other (s ∷ ss) zero (suc column) sides h = refl
sides_other (s ∷ ss) (suc n) zero sides h = refl
sides_other (s ∷ ss) (suc n) (suc column) sides h = sides_other ss n column sides (λ e. h (ap (λ k. suc k) e))

module _ (plan : List (Option ℚ)) (old mid : Program) (count : ℕ) (t : TakenTo plan old mid count) where
  none_next : target_at plan count ≡ None → TakenTo plan old mid (count + 1)
  none_next e = record { same = t.same; long = t.long; moved = λ column value l h k. go column value l k (spot_of count column) h; stays = t.stays }
    where
      go : (column : ℕ) (value : ℚ) → column < length old.bounds → target_at plan column ≡ Some value → Spot count column → column < count + 1 → sides_at mid.bounds column ≡ fixed_sides value
      go column value l k (before h) m = t.moved column value l h k
      go column value l k (at h) m = absurd (none-some value (sym e ∙ ap (target_at plan) (sym h) ∙ k))
      go column value l k (behind h) m = absurd (omega (arith, h, m))

  some_next : (v : ℚ) → count < length old.bounds → target_at plan count ≡ Some v → TakenTo plan old (with_sides mid count (fixed_sides v)) (count + 1)
  some_next v inside e = record {
    same = ap (λ (p : Program). record p { bounds = slice_set mid.bounds count (fixed_sides v) }) t.same;
    long = columns_same mid.bounds count (fixed_sides v) ∙ t.long;
    moved = λ column value l h k. go column value l k (spot_of count column) h;
    stays = λ column k. sides_other mid.bounds count column (fixed_sides v) (λ h. none-some v (sym k ∙ ap (target_at plan) h ∙ e)) ∙ t.stays column k;
  }
    where
      go : (column : ℕ) (value : ℚ) → column < length old.bounds → target_at plan column ≡ Some value → Spot count column → column < count + 1 → sides_at (slice_set mid.bounds count (fixed_sides v)) column ≡ fixed_sides value
      go column value l k (before h) m = sides_other mid.bounds count column (fixed_sides v) (λ d. absurd (omega (arith, h, d))) ∙ t.moved column value l h k
      go column value l k (at h) m =
          ap (sides_at (slice_set mid.bounds count (fixed_sides v))) h
          ∙ sides_set mid.bounds count (fixed_sides v) (omega (arith, inside, t.long))
          ∙ ap fixed_sides (same_Some v value (sym e ∙ ap (target_at plan) (sym h) ∙ k))
      go column value l k (behind h) m = absurd (omega (arith, h, m))

  next_of : (o : Option ℚ) → count < length old.bounds → target_at plan count ≡ o → TakenTo plan old (with_target mid count o) (count + 1)
  next_of None inside e = none_next e
  next_of (Some v) inside e = some_next v inside e

pub one_taken : (plan : List (Option ℚ)) (old mid new : Program) (count : ℕ) (o : Option ℚ) → TakenTo plan old mid count → count < length old.bounds → o ≡ target_at plan count → new ≡ with_target mid count o → TakenTo plan old new (count + 1)
one_taken plan old mid new count o t inside e k = subst (λ p. TakenTo plan old p (count + 1)) (sym k) (next_of plan old mid count t o inside (sym e))

pub taken_inside : (plan : List (Option ℚ)) (old mid : Program) (count : ℕ) → TakenTo plan old mid count → count < length old.bounds → count < length mid.bounds
taken_inside plan old mid count t h = omega (arith, h, t.long)

plain_if : (old mid : Program) (count : ℕ) (o : Option ℚ) → ((value : ℚ) → o ≡ Some value → is_open (choice_at old.choices count) ≡ false) → mid ≡ record old { bounds = mid.bounds } → IfSome o (λ value. is_open (choice_at mid.choices count) ≡ false)
plain_if old mid count None f e = tt
plain_if old mid count (Some v) f e = ap (λ (p : Program). is_open (choice_at p.choices count)) e ∙ f v refl

pub taken_plain : (plan : List (Option ℚ)) (old mid : Program) (count : ℕ) (o : Option ℚ) → TakenTo plan old mid count → ((column : ℕ) (value : ℚ) → target_at plan column ≡ Some value → is_open (choice_at old.choices column) ≡ false) → o ≡ target_at plan count → IfSome o (λ value. is_open (choice_at mid.choices count) ≡ false)
taken_plain plan old mid count o t f e = plain_if old mid count o (λ value h. f count value (sym e ∙ h)) t.same

pub all_taken : (plan : List (Option ℚ)) (old new : Program) (count : ℕ) → TakenTo plan old new count → count ≡ length old.bounds → IsTaken plan old new
all_taken plan old new count t e = record { same = t.same; long = t.long; moved = λ column value l k. t.moved column value l (omega (arith, l, e)) k; stays = t.stays }

pub ruleset taking_plans = (none_taken, one_taken, taken_inside, taken_plain, all_taken)
