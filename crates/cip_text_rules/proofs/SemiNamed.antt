-- The semi-continuous columns of the program of a text are those that an SC record names.
use Rattle.std.proofs.Common.{◌≡◌, ◌⊎◌, inl, inr, ℕ, zero, suc, Bool, true, false, not, ◌&&◌, ◌||◌, cond, List, [], ◌∷◌, ◌++◌, map, Option, None, Some, is_some, fold, refl, sym, ap, subst, ◌∙◌}
use Rattle.std.specs.List.{AllByRecursion, list_any}
use Rattle.std.specs.Option.{option_map}
use Rattle.std.specs.Str.{bytes_eq}
use Rattle.std.proofs.lemmas.Bool.{cond-true, cond-false, and_left, or_from, and_right}
use Rattle.std.proofs.lemmas.List.{append-nil}
use Rattle.std.proofs.lemmas.List.Sums.{fold-append}
use Rattle.cip_rational.specs.Rational.{zeroℚ, oneℚ}
use Rattle.cip_text_rules.specs.Program.{Open, Plain}
use Rattle.cip_text_rules.specs.Choices.{choice_at, is_open}
use Rattle.cip_text_rules.specs.LineStatements.{known_after}
use Rattle.cip_rational.specs.Numeral.{Numeral}
use Rattle.cip_text_rules.specs.MpsWords.{BoundKind, Low, High, Fixed, WholeLow, WholeHigh, Unbounded, NoLow, NoHigh, Binary, SemiContinuous, End, next, number_in, is_in}
use Rattle.cip_text_rules.specs.MpsSayings.{Saying, Opens, ColumnLine, BoundLine}
use Rattle.cip_text_rules.specs.MpsFacts.{GivenColumn, GivenBound, Facts, facts_with, names_of, column_names}
use Rattle.cip_text_rules.specs.MpsBounds.{Bounded, unbounded, with_bound, bounded_by, settled, bounds_so_far, own_sides, are_semi_sides, lacks_sides, is_mixed, is_semi, choice_of, choices_of}
use Rattle.cip_text_rules.specs.MpsProgram.{program_of}
use Rattle.cip_text_rules.specs.MpsRules.{is_end, column_in, is_mixed_by}
use Rattle.cip_text_rules.specs.MpsOutcome.{no_context, said_in, mps_records}
use Rattle.cip_text_rules.specs.MpsStatements.{is_semi_kind, has_semi_record, AreNamedSemi, SemisAreNamed}
use Rattle.cip_text_rules.proofs.Quiet.{Keeps, keeps, left_false, right_false}
use Rattle.cip_text_rules.proofs.Outcomes.{invariant}
use Rattle.cip_text_rules.proofs.MpsNames.{bytes_same, other_bytes}
use Rattle.cip_text_rules.proofs.BlockLaws.{not_false}

-- ---- tests

pub or_none : (t : Bool) → t ≡ (t || false)
or_none true = refl
or_none false = refl

or_all : (t : Bool) → true ≡ (t || true)
or_all true = refl
or_all false = refl

pub or_assoc : (a b c : Bool) → ((a || b) || c) ≡ (a || (b || c))
or_assoc true b c = refl
or_assoc false b c = refl

-- ---- an SC record makes the column semi-continuous, and no record takes that back

semi_with : (b : Bounded) (kind : BoundKind) (value : Numeral) → (with_bound b kind value).semi ≡ (b.semi || is_semi_kind kind)
semi_with b Low value = or_none b.semi
semi_with b High value = or_none b.semi
semi_with b Fixed value = or_none b.semi
semi_with b WholeLow value = or_none b.semi
semi_with b WholeHigh value = or_none b.semi
semi_with b Unbounded value = or_none b.semi
semi_with b NoLow value = or_none b.semi
semi_with b NoHigh value = or_none b.semi
semi_with b Binary value = or_none b.semi
semi_with b SemiContinuous value = or_all b.semi

bounded_semi : (name : List ℕ) (b : Bounded) (x : GivenBound) → (bounded_by name b x).semi ≡ (b.semi || (bytes_eq name x.column && is_semi_kind x.kind))
bounded_semi name b x = go (bytes_eq name x.column)
  where
    go : (t : Bool) → (cond t (with_bound b x.kind x.value) b).semi ≡ (b.semi || (t && is_semi_kind x.kind))
    go true = semi_with b x.kind x.value
    go false = or_none b.semi

fold_semi : (name : List ℕ) (xs : List GivenBound) (b : Bounded) → (fold (bounded_by name) b xs).semi ≡ (b.semi || has_semi_record xs name)
fold_semi name [] b = or_none b.semi
fold_semi name (x ∷ xs) b =
    fold_semi name xs (bounded_by name b x) ∙ ap (λ t. t || has_semi_record xs name) (bounded_semi name b x)
    ∙ or_assoc b.semi (bytes_eq name x.column && is_semi_kind x.kind) (has_semi_record xs name)

-- ---- columns by name

-- the bounds of a column by these records
abbrev so_far : List GivenBound → GivenColumn → Bounded
so_far xs c = fold (bounded_by c.name) (unbounded c.whole) xs

so_far_semi : (xs : List GivenBound) (c : GivenColumn) → (so_far xs c).semi ≡ has_semi_record xs c.name
so_far_semi xs c = fold_semi c.name xs (unbounded c.whole)

some_next : (o : Option ℕ) → is_some o ≡ true → is_some (next o) ≡ true
some_next None e = absurd (cc)
some_next (Some k) e = refl

still_in : (cs : List GivenColumn) (c : GivenColumn) (name : List ℕ) → is_in (names_of cs) name ≡ true → is_in (names_of (cs ++ c ∷ [])) name ≡ true
still_in [] c name e = absurd (cc)
still_in (x ∷ xs) c name e = go (bytes_eq name x.name) e (still_in xs c name)
  where
    inner : (o : Option ℕ) → is_some (next o) ≡ true → is_some o ≡ true
    inner None d = absurd (cc)
    inner (Some k) d = refl

    go : (t : Bool) → is_some (cond t (Some 0) (next (number_in (names_of xs) name))) ≡ true → (is_in (names_of xs) name ≡ true → is_in (names_of (xs ++ c ∷ [])) name ≡ true) → is_some (cond t (Some 0) (next (number_in (names_of (xs ++ c ∷ [])) name))) ≡ true
    go true d h = refl
    go false d h = some_next (number_in (names_of (xs ++ c ∷ [])) name) (h (inner (number_in (names_of xs) name) d))

named_so : (cs : List GivenColumn) (name : List ℕ) (c : GivenColumn) → column_in cs name ≡ Some c → c.name ≡ name
named_so [] name c e = absurd (cc)
named_so (x ∷ xs) name c e = go (bytes_eq name x.name) refl e (named_so xs name c)
  where
    go : (t : Bool) → bytes_eq name x.name ≡ t → cond t (Some x) (column_in xs name) ≡ Some c → (column_in xs name ≡ Some c → c.name ≡ name) → c.name ≡ name
    go true p d h = let q : x ≡ c = cc in subst (λ (y : GivenColumn). y.name ≡ name) q (sym (bytes_same name x.name p))
    go false p d h = h d

last_or : (cs : List GivenColumn) (new : GivenColumn) (name : List ℕ) (c : GivenColumn) → column_in (cs ++ new ∷ []) name ≡ Some c → (column_in cs name ≡ Some c) ⊎ (new ≡ c)
last_or [] new name c e = go (bytes_eq name new.name) e
  where
    go : (t : Bool) → cond t (Some new) None ≡ Some c → (None ≡ Some c) ⊎ (new ≡ c)
    go true d = inr (cc)
    go false d = absurd (cc)
last_or (x ∷ xs) new name c e = go (bytes_eq name x.name) e (last_or xs new name c)
  where
    go : (t : Bool) → cond t (Some x) (column_in (xs ++ new ∷ []) name) ≡ Some c → (column_in (xs ++ new ∷ []) name ≡ Some c → (column_in xs name ≡ Some c) ⊎ (new ≡ c)) → (cond t (Some x) (column_in xs name) ≡ Some c) ⊎ (new ≡ c)
    go true d h = inl d
    go false d h = h d

-- ---- no column is both whole and semi-continuous

-- bounds are those of columns, and no column is both
record AreApart (facts : Facts) : Type 0 where
  known : AllByRecursion (λ bound. is_in (column_names facts) bound.column ≡ true) facts.bounds
  apart : (name : List ℕ) (c : GivenColumn) → column_in facts.columns name ≡ Some c → is_mixed (bounds_so_far facts c) ≡ false

no_record : (names : List (List ℕ)) (xs : List GivenBound) (name : List ℕ) → is_in names name ≡ false → AllByRecursion (λ bound. is_in names bound.column ≡ true) xs → has_semi_record xs name ≡ false
no_record names [] name e a = refl
no_record names (x ∷ xs) name e a =
    or_from _ _ (and_left (bytes_eq name x.column) _ (other_bytes name x.column other)) (no_record names xs name e a.1)
  where
    other : ¬ (name ≡ x.column)
    other p = let q : is_in names name ≡ true = subst (λ (n : List ℕ). is_in names n ≡ true) (sym p) a.0 in cc

all_more : (cs : List GivenColumn) (c : GivenColumn) (xs : List GivenBound) → AllByRecursion (λ bound. is_in (names_of cs) bound.column ≡ true) xs → AllByRecursion (λ bound. is_in (names_of (cs ++ c ∷ [])) bound.column ≡ true) xs
all_more cs c [] a = tt
all_more cs c (x ∷ xs) a = (still_in cs c x.column a.0, all_more cs c xs a.1)

all_push : (names : List (List ℕ)) (xs : List GivenBound) (y : GivenBound) → AllByRecursion (λ bound. is_in names bound.column ≡ true) xs → is_in names y.column ≡ true → AllByRecursion (λ bound. is_in names bound.column ≡ true) (xs ++ y ∷ [])
all_push names [] y a e = (e, tt)
all_push names (x ∷ xs) y a e = (a.0, all_push names xs y a.1 e)

known_with : (facts : Facts) (now : Saying) → Keeps facts now → AreApart facts → AllByRecursion (λ bound. is_in (column_names (facts_with facts now)) bound.column ≡ true) (facts_with facts now).bounds
known_with facts (ColumnLine column whole values) k h =
    subst (λ xs. AllByRecursion (λ bound. is_in (column_names (facts_with facts (ColumnLine column whole values))) bound.column ≡ true) xs) (sym (append-nil facts.bounds))
    (go (is_in (names_of facts.columns) column))
  where
    go : (t : Bool) → AllByRecursion (λ bound. is_in (names_of (cond t facts.columns (facts.columns ++ record { name = column; whole = whole } ∷ []))) bound.column ≡ true) facts.bounds
    go true = h.known
    go false = all_more facts.columns (record { name = column; whole = whole }) facts.bounds h.known
known_with facts (BoundLine kind set_name column value) k h =
    all_push (column_names facts) facts.bounds (record { kind = kind; column = column; value = value }) h.known (not_false (is_in (column_names facts) column) k.known_column)
known_with facts other k h =
    subst (λ xs. AllByRecursion (λ bound. is_in (column_names facts) bound.column ≡ true) xs) (sym (append-nil facts.bounds)) h.known

apart_with : (facts : Facts) (now : Saying) → Keeps facts now → AreApart facts → (name : List ℕ) (c : GivenColumn) → column_in (facts_with facts now).columns name ≡ Some c → is_mixed (bounds_so_far (facts_with facts now) c) ≡ false
apart_with facts (ColumnLine column whole values) k h name c e =
    subst (λ xs. is_mixed (so_far xs c) ≡ false) (sym (append-nil facts.bounds)) (go (is_in (names_of facts.columns) column) refl e)
  where
    new : GivenColumn
    new = record { name = column; whole = whole }

    fresh : is_in (names_of facts.columns) column ≡ false → is_mixed (so_far facts.bounds new) ≡ false
    fresh p = and_right (so_far facts.bounds new).whole (so_far facts.bounds new).semi (so_far_semi facts.bounds new ∙ no_record (names_of facts.columns) facts.bounds column p h.known)

    go : (t : Bool) → is_in (names_of facts.columns) column ≡ t → column_in (cond t facts.columns (facts.columns ++ new ∷ [])) name ≡ Some c → is_mixed (so_far facts.bounds c) ≡ false
    go true p d = h.apart name c d
    go false p d = elim (last_or facts.columns new name c d) [ inl old ↦ h.apart name c old | inr same ↦ subst (λ (y : GivenColumn). is_mixed (so_far facts.bounds y) ≡ false) same (fresh p) ]
apart_with facts (BoundLine kind set_name column value) k h name c e =
    subst (λ (b : Bounded). is_mixed b ≡ false) (sym (fold-append (bounded_by c.name) (unbounded c.whole) facts.bounds (bound ∷ [])))
    (go (bytes_eq c.name column) refl)
  where
    bound : GivenBound
    bound = record { kind = kind; column = column; value = value }

    go : (t : Bool) → bytes_eq c.name column ≡ t → is_mixed (cond t (with_bound (so_far facts.bounds c) kind value) (so_far facts.bounds c)) ≡ false
    go false p = h.apart name c e
    go true p =
        let same : name ≡ column = sym (named_so facts.columns name c e) ∙ bytes_same c.name column p in
        let found : column_in facts.columns column ≡ Some c = subst (λ (n : List ℕ). column_in facts.columns n ≡ Some c) same e in
        subst (λ (o : Option GivenColumn). is_mixed_by kind value (option_map (bounds_so_far facts) o) ≡ false) found (right_false _ _ k.in_profile)
apart_with facts other k h name c e =
    subst (λ xs. is_mixed (so_far xs c) ≡ false) (sym (append-nil facts.bounds)) (h.apart name c e)

both_with : (facts : Facts) (now : Saying) → Keeps facts now → AreApart facts → AreApart (facts_with facts now)
both_with facts now k h = record {
  known = known_with facts now k h;
  apart = apart_with facts now k h;
}

-- ---- the choices of the program

-- the first column of a name, its choice by its number, and what holds of the bounds of all columns
record Found (g : GivenColumn → Bounded) (cs : List GivenColumn) (name : List ℕ) (k : ℕ) : Type 0 where
  column : GivenColumn
  is_found : column_in cs name ≡ Some column
  there : choice_at (map choice_of (map g cs)) k ≡ choice_of (g column)
  none_lacks : list_any lacks_sides (map g cs) ≡ false → lacks_sides (g column) ≡ false

found : (g : GivenColumn → Bounded) (cs : List GivenColumn) (name : List ℕ) (k : ℕ) → number_in (names_of cs) name ≡ Some k → Found g cs name k
found g [] name k e = absurd (cc)
found g (x ∷ xs) name k e = go (bytes_eq name x.name) refl k e (found g xs name)
  where
    go : (t : Bool) → bytes_eq name x.name ≡ t → (j : ℕ) → cond t (Some 0) (next (number_in (names_of xs) name)) ≡ Some j → ((n : ℕ) → number_in (names_of xs) name ≡ Some n → Found g xs name n) → Found g (x ∷ xs) name j
    go true p zero d h = record {
      column = x;
      is_found = cond-true (bytes_eq name x.name) (Some x) (column_in xs name) p;
      there = refl;
      none_lacks = left_false _ _;
    }
    go true p (suc j) d h = absurd (let q : ◌≡◌ {A = ℕ} 0 (suc j) = cc in cc)
    go false p zero d h = absurd (never (number_in (names_of xs) name) d)
      where
        never : (o : Option ℕ) → next o ≡ Some 0 → ⊥
        never None r = cc
        never (Some i) r = let q : suc i ≡ 0 = cc in cc
    go false p (suc j) d h =
        let f = h j (before (number_in (names_of xs) name) d) in
        record {
          column = f.column;
          is_found = cond-false (bytes_eq name x.name) (Some x) (column_in xs name) p ∙ f.is_found;
          there = f.there;
          none_lacks = λ q. f.none_lacks (right_false _ _ q);
        }
      where
        before : (o : Option ℕ) → next o ≡ Some (suc j) → o ≡ Some j
        before None r = absurd (cc)
        before (Some i) r = let q : suc i ≡ suc j = cc in let s : i ≡ j = cc in ap Some s

choice_open : (b : Bounded) → is_open (choice_of b) ≡ is_semi b
choice_open b = go (is_semi b)
  where
    go : (t : Bool) → is_open (cond t (Open (own_sides b)) Plain) ≡ t
    go true = refl
    go false = refl

none_open : (bs : List Bounded) → list_any is_semi bs ≡ false → (k : ℕ) → is_open (choice_at (map choice_of bs) k) ≡ false
none_open [] e k = refl
none_open (b ∷ bs) e zero = choice_open b ∙ left_false _ _ e
none_open (b ∷ bs) e (suc k) = none_open bs (right_false _ _ e) k

opened : (bs : List Bounded) (k : ℕ) → is_open (choice_at (choices_of bs) k) ≡ is_open (choice_at (map choice_of bs) k)
opened bs k = go (list_any is_semi bs) refl
  where
    go : (t : Bool) → list_any is_semi bs ≡ t → is_open (choice_at (cond t (map choice_of bs) []) k) ≡ is_open (choice_at (map choice_of bs) k)
    go true e = refl
    go false e = sym (none_open bs e k)

-- ---- semi-continuous where it is told to be

told : (semi whole sides : Bool) → (whole && semi) ≡ false → (semi && not sides) ≡ false → (semi && not whole && sides) ≡ semi
told false whole sides e d = refl
told true true sides e d = absurd (cc)
told true false true e d = refl
told true false false e d = absurd (cc)

settled_semi : (b : Bounded) → (settled b).semi ≡ b.semi
settled_semi b = go (b.whole && not b.named)
  where
    go : (t : Bool) → (cond t (record b { low = Some zeroℚ; high = Some oneℚ }) b).semi ≡ b.semi
    go true = refl
    go false = refl

settled_whole : (b : Bounded) → (settled b).whole ≡ b.whole
settled_whole b = go (b.whole && not b.named)
  where
    go : (t : Bool) → (cond t (record b { low = Some zeroℚ; high = Some oneℚ }) b).whole ≡ b.whole
    go true = refl
    go false = refl

semi_told : (b : Bounded) → is_mixed b ≡ false → lacks_sides (settled b) ≡ false → is_semi (settled b) ≡ b.semi
semi_told b m l =
    let n : is_mixed (settled b) ≡ false = (λ i. settled_whole b i && settled_semi b i) ∙ m in
    told (settled b).semi (settled b).whole (are_semi_sides (own_sides (settled b))) n l ∙ settled_semi b

named : (xs : List GivenBound) (cs : List GivenColumn) → ((name : List ℕ) (c : GivenColumn) → column_in cs name ≡ Some c → is_mixed (so_far xs c) ≡ false) → list_any lacks_sides (map (λ c. settled (so_far xs c)) cs) ≡ false → (name : List ℕ) (k : ℕ) → number_in (names_of cs) name ≡ Some k → is_open (choice_at (choices_of (map (λ c. settled (so_far xs c)) cs)) k) ≡ has_semi_record xs name
named xs cs a l name k e =
    let f = found (λ c. settled (so_far xs c)) cs name k e in
    opened (map (λ c. settled (so_far xs c)) cs) k ∙ ap is_open f.there ∙ choice_open (settled (so_far xs f.column))
    ∙ semi_told (so_far xs f.column) (a name f.column f.is_found) (f.none_lacks l) ∙ so_far_semi xs f.column
    ∙ ap (has_semi_record xs) (named_so cs name f.column f.is_found)

is_known : (names : List (List ℕ)) (xs : List GivenBound) (name : List ℕ) → AllByRecursion (λ bound. is_in names bound.column ≡ true) xs → has_semi_record xs name ≡ true → is_in names name ≡ true
is_known names xs name a e = go (is_in names name) refl
  where
    go : (t : Bool) → is_in names name ≡ t → is_in names name ≡ true
    go true p = p
    go false p = let q = no_record names xs name p a in absurd (cc)

at_end : (facts : Facts) (now : Saying) → is_end now ≡ true → Keeps facts now → AreApart facts → AreNamedSemi facts.bounds (program_of (facts_with facts now))
at_end facts (Opens End words) e k h = record {
  known = λ name d. is_known (column_names facts) facts.bounds name h.known d;
  semi = λ name column d. subst (λ xs. is_open (choice_at (choices_of (map (λ c. settled (so_far xs c)) facts.columns)) column) ≡ has_semi_record facts.bounds name) (sym (append-nil facts.bounds))
      (named facts.bounds facts.columns h.apart k.in_profile name column d);
}
at_end facts other e k h = absurd (cc)

pub semis_named : SemisAreNamed
semis_named text program r =
    let context = known_after mps_records no_context r.before in
    let now = said_in context r.now.item in
    subst (AreNamedSemi context.facts.bounds) r.is_value
    (at_end context.facts now r.end (keeps context.facts now r.no_fault)
    (invariant AreApart (λ context content. both_with context.facts (said_in context content)) (record { known = tt; apart = λ name c e. absurd (cc) }) r.before r.reached.open_before))
