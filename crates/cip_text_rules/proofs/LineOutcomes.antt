-- The outcome of a text: at its first item with a fault, or behind the last line.
use Rattle.std.proofs.Common.{◌≡◌, ◌⊎◌, inl, inr, ℕ, ◌+◌, ◌≤◌, Bool, true, false, cond, List, [], ◌∷◌, ◌++◌, length, Option, None, Some, refl, sym, ap, ◌∙◌}
use Rattle.std.specs.Prelude.{take, nat_le}
use Rattle.std.proofs.lemmas.Bool.{cond-true, le-leb, leb-true}
use Rattle.std.proofs.lemmas.List.{append-nil}
use Rattle.cip_problem.specs.Limits.{longest_text}
use Rattle.cip_text_rules.specs.Lines.{lines}
use Rattle.cip_text_rules.specs.LineTexts.{Reading, Outcome, Means, Faulty, Numbered, items_in, outcome_at, outcome_after, outcome_of_lines, outcome_of_start, too_long, outcome_of, HasResult, HasFault}
use Rattle.cip_text_rules.specs.LineStatements.{OneOutcome, known_after, AreQuiet, IsFirstFault, IsEndFault, FaultsAreFirst, known_of, IsDescribed, ResultsAreDescribed}

-- ---- one item

pub passed : {X : Type 0} (f : Option ℕ) (line : ℕ) (later : Outcome X) → f ≡ None → outcome_at f line later ≡ later
passed None line later e = refl
passed (Some k) line later e = absurd (cc)

pub failed : {X : Type 0} (f : Option ℕ) (line : ℕ) (later : Outcome X) (k : ℕ) → f ≡ Some k → outcome_at f line later ≡ Faulty line k
failed None line later k e = absurd (cc)
failed (Some j) line later k e = let p : j ≡ k = cc in ap (Faulty line) p

-- ---- items

pub through : {K I X : Type 0} (r : Reading K I X) (last : ℕ) (known : K) (before rest : List (Numbered I)) → AreQuiet r known before → outcome_after r last known (before ++ rest) ≡ outcome_after r last (known_after r known before) rest
through r last known [] rest q = refl
through r last known (now ∷ others) rest q =
    passed (r.fault known now.item) now.line (outcome_after r last (r.next known now.item) (others ++ rest)) q.0
    ∙ through r last (r.next known now.item) others rest q.1

-- the item at which items come to a fault
record Stop {K I X : Type 0} (r : Reading K I X) (known : K) (said : List (Numbered I)) : Type 0 where
  before : List (Numbered I)
  now : Numbered I
  after : List (Numbered I)
  are_items : said ≡ before ++ now ∷ after
  quiet : AreQuiet r known before
  kind : ℕ
  fault : r.fault (known_after r known before) now.item ≡ Some kind

stop_or_quiet : {K I X : Type 0} (r : Reading K I X) (known : K) (said : List (Numbered I)) → Stop r known said ⊎ AreQuiet r known said
stop_or_quiet r known [] = inr tt
stop_or_quiet {K = K} {I = I} r known (now ∷ others) =
    go (r.fault known now.item) refl (stop_or_quiet r (r.next known now.item) others)
  where
    go : (f : Option ℕ) → r.fault known now.item ≡ f → Stop r (r.next known now.item) others ⊎ AreQuiet r (r.next known now.item) others → Stop r known (now ∷ others) ⊎ AreQuiet r known (now ∷ others)
    go (Some k) e s = inl (record { before = []; now = now; after = others; are_items = refl; quiet = tt; kind = k; fault = e })
    go None e (inl s) = inl (record {
      before = now ∷ s.before;
      now = s.now;
      after = s.after;
      are_items = ap (λ x. now ∷ x) s.are_items;
      quiet = (e, s.quiet);
      kind = s.kind;
      fault = s.fault;
    })
    go None e (inr q) = inr (e, q)

-- what holds of what is known goes on to hold behind items without fault
pub holds_after : {K I X : Type 0} (r : Reading K I X) (P : K → Type 0) → ((k : K) (item : I) → r.fault k item ≡ None → P k → P (r.next k item)) → (items : List (Numbered I)) (k : K) → P k → AreQuiet r k items → P (known_after r k items)
holds_after r P step [] k h q = h
holds_after r P step (now ∷ others) k h q = holds_after r P step others (r.next k now.item) (step k now.item q.0 h) q.1

-- ---- what items come to

at_fault : {K I X : Type 0} (r : Reading K I X) (last : ℕ) (known : K) (said before : List (Numbered I)) (now : Numbered I) (after : List (Numbered I)) (k : ℕ) → said ≡ before ++ now ∷ after → AreQuiet r known before → r.fault (known_after r known before) now.item ≡ Some k → outcome_after r last known said ≡ Faulty now.line k
at_fault r last known said before now after k e q f =
    ap (outcome_after r last known) e ∙ through r last known before (now ∷ after) q
    ∙ failed (r.fault (known_after r known before) now.item) now.line (outcome_after r last (r.next (known_after r known before) now.item) after) k f

behind_last : {K I X : Type 0} (r : Reading K I X) (last : ℕ) (known : K) (said : List (Numbered I)) → AreQuiet r known said → outcome_after r last known said ≡ outcome_at (r.end_fault (known_after r known said)) (last + 1) (Means (r.result (known_after r known said)))
behind_last r last known said q = ap (outcome_after r last known) (sym (append-nil said)) ∙ through r last known said [] q

-- ---- a text

pub short_outcome : {K I X : Type 0} (r : Reading K I X) (text : List ℕ) → length text ≤ longest_text → outcome_of r text ≡ outcome_of_lines r text
unfolding outcome_of
short_outcome r text h = cond-true (nat_le (length text) longest_text) _ _ (le-leb (length text) longest_text h)

no_result_when_long : {X : Type 0} (long last : ℕ) (o : Outcome X) (value : X) → too_long long last o ≡ Means value → ⊥
no_result_when_long long last (Means p) value e = cc
no_result_when_long {X = X} long last (Faulty line kind) value e = go _ e
  where
    go : (b : Bool) → ◌≡◌ {A = Outcome X} (cond b (Faulty line kind) (Faulty last long)) (Means value) → ⊥
    go true d = cc
    go false d = cc

pub result_is_short : {K I X : Type 0} (r : Reading K I X) (text : List ℕ) (value : X) → outcome_of r text ≡ Means value → length text ≤ longest_text
unfolding outcome_of
result_is_short r text value e = go (nat_le (length text) longest_text) refl e
  where
    go : (b : Bool) → nat_le (length text) longest_text ≡ b → cond b (outcome_of_lines r text) (outcome_of_start r (take (longest_text + 1) text)) ≡ Means value → length text ≤ longest_text
    go true h d = leb-true _ _ h
    go false h d = absurd (no_result_when_long r.long (length (lines (take (longest_text + 1) text))) (outcome_of_lines r (take (longest_text + 1) text)) value d)

text_fault : {K I X : Type 0} (r : Reading K I X) (text : List ℕ) (s : Stop r r.start (items_in r text)) → outcome_of_lines r text ≡ Faulty s.now.line s.kind
text_fault r text s = at_fault r (length (lines text)) r.start (items_in r text) s.before s.now s.after s.kind s.are_items s.quiet s.fault

text_end : {K I X : Type 0} (r : Reading K I X) (text : List ℕ) → AreQuiet r r.start (items_in r text) → outcome_of_lines r text ≡ outcome_at (r.end_fault (known_of r text)) (length (lines text) + 1) (Means (r.result (known_of r text)))
text_end r text q = behind_last r (length (lines text)) r.start (items_in r text) q

pub fault_found : {K I X : Type 0} (r : Reading K I X) (text : List ℕ) (line kind : ℕ) → length text ≤ longest_text → HasFault r text line kind → IsFirstFault r text line kind ⊎ IsEndFault r text line kind
fault_found {X = X} r text line kind short h = go (stop_or_quiet r r.start (items_in r text))
  where
    e : outcome_of_lines r text ≡ Faulty line kind
    e = sym (short_outcome r text short) ∙ h.faulty

    at_end : AreQuiet r r.start (items_in r text) → (f : Option ℕ) → r.end_fault (known_of r text) ≡ f → outcome_at f (length (lines text) + 1) (Means (r.result (known_of r text))) ≡ Faulty line kind → IsFirstFault r text line kind ⊎ IsEndFault r text line kind
    at_end q None p d = absurd (cc)
    at_end q (Some k) p d =
        let a : length (lines text) + 1 ≡ line = cc in
        let b : k ≡ kind = cc in
        inr (record { quiet = q; is_line = a; fault = p ∙ ap Some b })

    go : Stop r r.start (items_in r text) ⊎ AreQuiet r r.start (items_in r text) → IsFirstFault r text line kind ⊎ IsEndFault r text line kind
    go (inl s) =
        let d : ◌≡◌ {A = Outcome X} (Faulty s.now.line s.kind) (Faulty line kind) = sym (text_fault r text s) ∙ e in
        let p : s.now.line ≡ line = cc in
        let q : s.kind ≡ kind = cc in
        inl (record { before = s.before; now = s.now; after = s.after; are_items = s.are_items; quiet = s.quiet; is_line = p; fault = s.fault ∙ ap Some q })
    go (inr q) = at_end q (r.end_fault (known_of r text)) refl (sym (text_end r text q) ∙ e)

pub fault_told : {K I X : Type 0} (r : Reading K I X) (text : List ℕ) (line kind : ℕ) → length text ≤ longest_text → IsFirstFault r text line kind ⊎ IsEndFault r text line kind → HasFault r text line kind
fault_told r text line kind short (inl f) = record {
  faulty =
      short_outcome r text short
      ∙ at_fault r (length (lines text)) r.start (items_in r text) f.before f.now f.after kind f.are_items f.quiet f.fault
      ∙ ap (λ x. Faulty x kind) f.is_line;
}
fault_told r text line kind short (inr n) = record {
  faulty =
      short_outcome r text short ∙ text_end r text n.quiet
      ∙ failed (r.end_fault (known_of r text)) (length (lines text) + 1) (Means (r.result (known_of r text))) kind n.fault
      ∙ ap (λ x. Faulty x kind) n.is_line;
}

pub faults_are_first : {K I X : Type 0} (r : Reading K I X) → FaultsAreFirst r
faults_are_first r = λ text line kind short. (fault_found r text line kind short, fault_told r text line kind short)

-- ---- results

pub described : {K I X : Type 0} (r : Reading K I X) (text : List ℕ) (value : X) → HasResult r text value → IsDescribed r text value
described {X = X} r text value h = go (stop_or_quiet r r.start (items_in r text))
  where
    short : length text ≤ longest_text
    short = result_is_short r text value h.means

    e : outcome_of_lines r text ≡ Means value
    e = sym (short_outcome r text short) ∙ h.means

    at_end : AreQuiet r r.start (items_in r text) → (f : Option ℕ) → r.end_fault (known_of r text) ≡ f → outcome_at f (length (lines text) + 1) (Means (r.result (known_of r text))) ≡ Means value → IsDescribed r text value
    at_end q None p d = let a : r.result (known_of r text) ≡ value = cc in record { short = short; quiet = q; no_fault = p; is_value = a }
    at_end q (Some k) p d = absurd (cc)

    go : Stop r r.start (items_in r text) ⊎ AreQuiet r r.start (items_in r text) → IsDescribed r text value
    go (inl s) =
        let d : ◌≡◌ {A = Outcome X} (Faulty s.now.line s.kind) (Means value) = sym (text_fault r text s) ∙ e in
        absurd (cc)
    go (inr q) = at_end q (r.end_fault (known_of r text)) refl (sym (text_end r text q) ∙ e)

pub describes : {K I X : Type 0} (r : Reading K I X) (text : List ℕ) (value : X) → IsDescribed r text value → HasResult r text value
describes r text value d = record {
  means =
      short_outcome r text d.short ∙ text_end r text d.quiet
      ∙ passed (r.end_fault (known_of r text)) (length (lines text) + 1) (Means (r.result (known_of r text))) d.no_fault
      ∙ ap Means d.is_value;
}

pub results_are_described : {K I X : Type 0} (r : Reading K I X) → ResultsAreDescribed r
results_are_described r = λ text value. (described r text value, describes r text value)

-- ---- one outcome

some_outcome : {K I X : Type 0} (r : Reading K I X) (text : List ℕ) → ((value : X) × HasResult r text value) ⊎ ((line : ℕ) × ((kind : ℕ) × HasFault r text line kind))
some_outcome {X = X} r text = go (outcome_of r text) refl
  where
    go : (o : Outcome X) → outcome_of r text ≡ o → ((value : X) × HasResult r text value) ⊎ ((line : ℕ) × ((kind : ℕ) × HasFault r text line kind))
    go (Means value) e = inl (value, record { means = e })
    go (Faulty line kind) e = inr (line, (kind, record { faulty = e }))

never_both : {K I X : Type 0} (r : Reading K I X) (text : List ℕ) (value : X) (line kind : ℕ) → HasResult r text value → ¬ HasFault r text line kind
never_both r text value line kind h = λ f. let d : Means value ≡ Faulty line kind = sym h.means ∙ f.faulty in cc

pub one_result : {K I X : Type 0} (r : Reading K I X) (text : List ℕ) (p q : X) → HasResult r text p → HasResult r text q → p ≡ q
one_result r text p q h k = let d : Means p ≡ Means q = sym h.means ∙ k.means in cc

pub one_fault : {K I X : Type 0} (r : Reading K I X) (text : List ℕ) (line kind other_line other_kind : ℕ) → HasFault r text line kind → HasFault r text other_line other_kind → (line ≡ other_line) × (kind ≡ other_kind)
one_fault {X = X} r text line kind other_line other_kind h k =
    let d : ◌≡◌ {A = Outcome X} (Faulty line kind) (Faulty other_line other_kind) = sym h.faulty ∙ k.faulty in
    let p : line ≡ other_line = cc in
    let q : kind ≡ other_kind = cc in
    (p, q)

pub one_outcome : {K I X : Type 0} (r : Reading K I X) → OneOutcome r
one_outcome r = record { some = some_outcome r; never_both = never_both r; one_result = one_result r; one_fault = one_fault r }
