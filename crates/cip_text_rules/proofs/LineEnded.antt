-- Texts that an item ends.
use Rattle.std.proofs.Common.{◌≡◌, ◌⊎◌, inl, inr, ℕ, ◌≤◌, Bool, true, false, cond, List, [], ◌∷◌, ◌++◌, length, Option, None, Some, refl, sym, ap, subst, ◌∙◌}
use Rattle.cip_problem.specs.Limits.{longest_text}
use Rattle.cip_text_rules.specs.LineTexts.{Reading, Numbered, items_in, HasResult}
use Rattle.cip_text_rules.specs.LineEnds.{Stage, Open, Ended, known_at, stage_fault, stage_next, stage_end_fault, ending}
use Rattle.cip_text_rules.specs.LineStatements.{known_after, AreQuiet, IsFirstFault, IsEndFault, IsDescribed, AreOpen, IsFaultReached, HasNoEnd, FaultsBeforeEnds, IsEndReached, NeedsNoEnd, ResultsAtEnds}
use Rattle.cip_text_rules.proofs.LineOutcomes.{fault_found, fault_told, described, describes}
use Rattle.cip_text_rules.proofs.LineSame.{StandsFor}

-- ---- items without fault

quiet_both : {K I X : Type 0} (q : Reading K I X) (k : K) (before rest : List (Numbered I)) → AreQuiet q k before → AreQuiet q (known_after q k before) rest → AreQuiet q k (before ++ rest)
quiet_both q k [] rest g h = h
quiet_both q k (now ∷ others) rest g h = (g.0, quiet_both q (q.next k now.item) others rest g.1 h)

known_both : {K I X : Type 0} (q : Reading K I X) (k : K) (before rest : List (Numbered I)) → known_after q k (before ++ rest) ≡ known_after q (known_after q k before) rest
known_both q k [] rest = refl
known_both q k (now ∷ others) rest = known_both q (q.next k now.item) others rest

module _ {K I X : Type 0} (ends : K → I → Bool) (r : Reading K I X) where
  -- ---- items as far as the end

  -- the stage behind an item without fault
  goes_on : (k : K) (item : I) → ends k item ≡ false → stage_next ends r.next (Open k) item ≡ Open (r.next k item)
  goes_on k item e = ap (λ b. cond b (Ended (r.next k item)) (Open (r.next k item))) e

  stops : (k : K) (item : I) → ends k item ≡ true → stage_next ends r.next (Open k) item ≡ Ended (r.next k item)
  stops k item e = ap (λ b. cond b (Ended (r.next k item)) (Open (r.next k item))) e

  open_quiet : (k : K) (items : List (Numbered I)) → AreOpen ends r k items → AreQuiet (ending ends r) (Open k) items
  open_quiet k [] h = tt
  open_quiet k (now ∷ others) h =
      (h.0, subst (λ (s : Stage K). AreQuiet (ending ends r) s others) (sym (goes_on k now.item h.1)) (open_quiet (r.next k now.item) others h.2))

  open_known : (k : K) (items : List (Numbered I)) → AreOpen ends r k items → known_after (ending ends r) (Open k) items ≡ Open (known_after r k items)
  open_known k [] h = refl
  open_known k (now ∷ others) h =
      ap (λ s. known_after (ending ends r) s others) (goes_on k now.item h.1) ∙ open_known (r.next k now.item) others h.2

  -- behind the end nothing changes
  ended_known : (k : K) (items : List (Numbered I)) → known_after (ending ends r) (Ended k) items ≡ Ended k
  ended_known k [] = refl
  ended_known k (now ∷ others) = ended_known k others

  ended_quiet : (k : K) (items : List (Numbered I)) → AreQuiet (ending ends r) (Ended k) items
  ended_quiet k [] = tt
  ended_quiet k (now ∷ others) = (refl, ended_quiet k others)

  -- the item that ends the text
  record Cut (k : K) (items : List (Numbered I)) : Type 0 where
    before : List (Numbered I)
    now : Numbered I
    after : List (Numbered I)
    are_items : items ≡ before ++ now ∷ after
    open_before : AreOpen ends r k before
    no_fault : r.fault (known_after r k before) now.item ≡ None
    end : ends (known_after r k before) now.item ≡ true

  cut_or_open : (k : K) (items : List (Numbered I)) → AreQuiet (ending ends r) (Open k) items → Cut k items ⊎ AreOpen ends r k items
  cut_or_open k [] q = inr tt
  cut_or_open k (now ∷ others) q = go (ends k now.item) refl (λ rest. cut_or_open (r.next k now.item) others rest)
    where
      go : (b : Bool) → ends k now.item ≡ b → (AreQuiet (ending ends r) (Open (r.next k now.item)) others → Cut (r.next k now.item) others ⊎ AreOpen ends r (r.next k now.item) others) → Cut k (now ∷ others) ⊎ AreOpen ends r k (now ∷ others)
      go true e more = inl (record { before = []; now = now; after = others; are_items = refl; open_before = tt; no_fault = q.0; end = e })
      go false e more = elim (more (subst (λ (s : Stage K). AreQuiet (ending ends r) s others) (goes_on k now.item e) q.1)) [
        | inl c ↦ inl (record {
          before = now ∷ c.before;
          now = c.now;
          after = c.after;
          are_items = ap (λ x. now ∷ x) c.are_items;
          open_before = (q.0, e, c.open_before);
          no_fault = c.no_fault;
          end = c.end;
        })
        | inr o ↦ inr (q.0, e, o)
      ]

  -- what is known behind all items, and that none has a fault
  cut_known : (k : K) (items before : List (Numbered I)) (now : Numbered I) (after : List (Numbered I)) → items ≡ before ++ now ∷ after → AreOpen ends r k before → ends (known_after r k before) now.item ≡ true → known_after (ending ends r) (Open k) items ≡ Ended (r.next (known_after r k before) now.item)
  cut_known k items before now after same o e =
      ap (known_after (ending ends r) (Open k)) same ∙ known_both (ending ends r) (Open k) before (now ∷ after)
      ∙ ap (λ s. known_after (ending ends r) s (now ∷ after)) (open_known k before o)
      ∙ ap (λ s. known_after (ending ends r) s after) (stops (known_after r k before) now.item e)
      ∙ ended_known (r.next (known_after r k before) now.item) after

  cut_quiet : (k : K) (items before : List (Numbered I)) (now : Numbered I) (after : List (Numbered I)) → items ≡ before ++ now ∷ after → AreOpen ends r k before → r.fault (known_after r k before) now.item ≡ None → ends (known_after r k before) now.item ≡ true → AreQuiet (ending ends r) (Open k) items
  cut_quiet k items before now after same o f e =
      subst (λ (xs : List (Numbered I)). AreQuiet (ending ends r) (Open k) xs) (sym same)
      (quiet_both (ending ends r) (Open k) before (now ∷ after) (open_quiet k before o)
      (subst (λ (s : Stage K). AreQuiet (ending ends r) s (now ∷ after)) (sym (open_known k before o))
      (f, subst (λ (s : Stage K). AreQuiet (ending ends r) s after) (sym (stops (known_after r k before) now.item e)) (ended_quiet (r.next (known_after r k before) now.item) after))))

  -- ---- the first fault

  first_found : (text : List ℕ) (line kind : ℕ) → IsFirstFault (ending ends r) text line kind → IsFaultReached ends r text line kind
  first_found text line kind f = elim (cut_or_open r.start f.before f.quiet) [
    | inl c ↦ absurd (
        let known = cut_known r.start f.before c.before c.now c.after c.are_items c.open_before c.end in
        let none : ◌≡◌ {A = Option ℕ} None (Some kind) = sym (ap (λ s. stage_fault r.fault s f.now.item) known) ∙ f.fault in
        cc)
    | inr o ↦ record {
      before = f.before;
      now = f.now;
      after = f.after;
      reached = record { are_items = f.are_items; open_before = o };
      is_line = f.is_line;
      fault = sym (ap (λ s. stage_fault r.fault s f.now.item) (open_known r.start f.before o)) ∙ f.fault;
    }
  ]

  end_found : (text : List ℕ) (line kind : ℕ) → IsEndFault (ending ends r) text line kind → HasNoEnd ends r text line kind
  end_found text line kind f = elim (cut_or_open r.start (items_in r text) f.quiet) [
    | inl c ↦ absurd (
        let known = cut_known r.start (items_in r text) c.before c.now c.after c.are_items c.open_before c.end in
        let none : ◌≡◌ {A = Option ℕ} None (Some kind) = sym (ap (stage_end_fault r.end_fault) known) ∙ f.fault in
        cc)
    | inr o ↦ record {
      all_open = o;
      is_line = f.is_line;
      fault = sym (ap (stage_end_fault r.end_fault) (open_known r.start (items_in r text) o)) ∙ f.fault;
    }
  ]

  first_told : (text : List ℕ) (line kind : ℕ) → IsFaultReached ends r text line kind → IsFirstFault (ending ends r) text line kind
  first_told text line kind f = record {
    before = f.before;
    now = f.now;
    after = f.after;
    are_items = f.reached.are_items;
    quiet = open_quiet r.start f.before f.reached.open_before;
    is_line = f.is_line;
    fault = ap (λ s. stage_fault r.fault s f.now.item) (open_known r.start f.before f.reached.open_before) ∙ f.fault;
  }

  end_told : (text : List ℕ) (line kind : ℕ) → HasNoEnd ends r text line kind → IsEndFault (ending ends r) text line kind
  end_told text line kind f = record {
    quiet = open_quiet r.start (items_in r text) f.all_open;
    is_line = f.is_line;
    fault = ap (stage_end_fault r.end_fault) (open_known r.start (items_in r text) f.all_open) ∙ f.fault;
  }

  pub faults_before_ends : FaultsBeforeEnds ends r
  faults_before_ends = λ text line kind short. (
    λ h. elim (fault_found (ending ends r) text line kind short h) [
      | inl f ↦ inl (first_found text line kind f)
      | inr f ↦ inr (end_found text line kind f)
    ],
    λ h. fault_told (ending ends r) text line kind short (elim h [
      | inl f ↦ inl (first_told text line kind f)
      | inr f ↦ inr (end_told text line kind f)
    ]),
  )

  -- ---- results

  pub result_found : (text : List ℕ) (value : X) → HasResult (ending ends r) text value → (length text ≤ longest_text) × (IsEndReached ends r text value ⊎ NeedsNoEnd ends r text value)
  result_found text value h = go (described (ending ends r) text value h)
    where
      go : IsDescribed (ending ends r) text value → (length text ≤ longest_text) × (IsEndReached ends r text value ⊎ NeedsNoEnd ends r text value)
      go d = (
        d.short,
        elim (cut_or_open r.start (items_in r text) d.quiet) [
          | inl c ↦ inl (record {
            before = c.before;
            now = c.now;
            after = c.after;
            reached = record { are_items = c.are_items; open_before = c.open_before };
            end = c.end;
            no_fault = c.no_fault;
            is_value = sym (ap (λ s. r.result (known_at s)) (cut_known r.start (items_in r text) c.before c.now c.after c.are_items c.open_before c.end)) ∙ d.is_value;
          })
          | inr o ↦ inr (record {
            all_open = o;
            no_fault = sym (ap (stage_end_fault r.end_fault) (open_known r.start (items_in r text) o)) ∙ d.no_fault;
            is_value = sym (ap (λ s. r.result (known_at s)) (open_known r.start (items_in r text) o)) ∙ d.is_value;
          })
        ],
      )

  end_describes : (text : List ℕ) (value : X) → length text ≤ longest_text → IsEndReached ends r text value → IsDescribed (ending ends r) text value
  end_describes text value short c =
      let known = cut_known r.start (items_in r text) c.before c.now c.after c.reached.are_items c.reached.open_before c.end in
      record {
        short = short;
        quiet = cut_quiet r.start (items_in r text) c.before c.now c.after c.reached.are_items c.reached.open_before c.no_fault c.end;
        no_fault = ap (stage_end_fault r.end_fault) known;
        is_value = ap (λ s. r.result (known_at s)) known ∙ c.is_value;
      }

  all_describe : (text : List ℕ) (value : X) → length text ≤ longest_text → NeedsNoEnd ends r text value → IsDescribed (ending ends r) text value
  all_describe text value short n =
      let known = open_known r.start (items_in r text) n.all_open in
      record {
        short = short;
        quiet = open_quiet r.start (items_in r text) n.all_open;
        no_fault = ap (stage_end_fault r.end_fault) known ∙ n.no_fault;
        is_value = ap (λ s. r.result (known_at s)) known ∙ n.is_value;
      }

  pub results_at_ends : ResultsAtEnds ends r
  results_at_ends = λ text value. (
    result_found text value,
    λ h. describes (ending ends r) text value (elim h.1 [
      | inl c ↦ end_describes text value h.0 c
      | inr n ↦ all_describe text value h.0 n
    ]),
  )

  -- what holds of what is known goes on to hold behind items without fault that don't end the text
  pub holds_open : (P : K → Type 0) → ((k : K) (item : I) → r.fault k item ≡ None → P k → P (r.next k item)) → (items : List (Numbered I)) (k : K) → P k → AreOpen ends r k items → P (known_after r k items)
  holds_open P step [] k h q = h
  holds_open P step (now ∷ others) k h q = holds_open P step others (r.next k now.item) (step k now.item q.0 h) q.2

-- ---- two ways to read

-- what one way keeps stands for what is known in the other; the two tell the same faults, ends and results
pub record EndsAlike {K S I X : Type 0} (r : Reading K I X) (q : Reading S I X) (ends : K → I → Bool) (stops : S → I → Bool) (Good : K → S → Type 0) : Type 0 where
  pub items : q.items ≡ r.items
  pub long : q.long ≡ r.long
  pub start : Good r.start q.start
  pub fault : (k : K) (s : S) (item : I) → Good k s → q.fault s item ≡ r.fault k item
  pub end : (k : K) (s : S) (item : I) → Good k s → stops s item ≡ ends k item
  pub next : (k : K) (s : S) (item : I) → Good k s → r.fault k item ≡ None → Good (r.next k item) (q.next s item)
  pub end_fault : (k : K) (s : S) → Good k s → q.end_fault s ≡ r.end_fault k
  pub result : (k : K) (s : S) → Good k s → r.end_fault k ≡ None → q.result s ≡ r.result k
  pub last : (k : K) (s : S) (item : I) → Good k s → r.fault k item ≡ None → ends k item ≡ true → q.result (q.next s item) ≡ r.result (r.next k item)

-- such stages
abbrev pub GoodStage : {K S I X : Type 0} → Reading K I X → Reading S I X → (K → S → Type 0) → Stage K → Stage S → Type 0
GoodStage r q Good (Open k) (Open s) = Good k s
GoodStage r q Good (Open k) (Ended s) = ⊥
GoodStage r q Good (Ended k) (Open s) = ⊥
GoodStage r q Good (Ended k) (Ended s) = q.result s ≡ r.result k

module _ {K S I X : Type 0} (r : Reading K I X) (q : Reading S I X) (ends : K → I → Bool) (stops : S → I → Bool) (Good : K → S → Type 0) (same : EndsAlike r q ends stops Good) where
  same_fault : (k : Stage K) (s : Stage S) (item : I) → GoodStage r q Good k s → stage_fault q.fault s item ≡ stage_fault r.fault k item
  same_fault (Open k) (Open s) item g = same.fault k s item g
  same_fault (Open k) (Ended s) item g = absurd g
  same_fault (Ended k) (Open s) item g = absurd g
  same_fault (Ended k) (Ended s) item g = refl

  same_next : (k : Stage K) (s : Stage S) (item : I) → GoodStage r q Good k s → stage_fault r.fault k item ≡ None → GoodStage r q Good (stage_next ends r.next k item) (stage_next stops q.next s item)
  same_next (Open k) (Open s) item g f = go (ends k item) refl (stops s item) (same.end k s item g)
    where
      go : (a : Bool) → ends k item ≡ a → (b : Bool) → b ≡ ends k item → GoodStage r q Good (cond a (Ended (r.next k item)) (Open (r.next k item))) (cond b (Ended (q.next s item)) (Open (q.next s item)))
      go true e true d = same.last k s item g f e
      go true e false d = absurd (cc)
      go false e true d = absurd (cc)
      go false e false d = same.next k s item g f
  same_next (Open k) (Ended s) item g f = absurd g
  same_next (Ended k) (Open s) item g f = absurd g
  same_next (Ended k) (Ended s) item g f = g

  same_end : (k : Stage K) (s : Stage S) → GoodStage r q Good k s → stage_end_fault q.end_fault s ≡ stage_end_fault r.end_fault k
  same_end (Open k) (Open s) g = same.end_fault k s g
  same_end (Open k) (Ended s) g = absurd g
  same_end (Ended k) (Open s) g = absurd g
  same_end (Ended k) (Ended s) g = refl

  same_result : (k : Stage K) (s : Stage S) → GoodStage r q Good k s → stage_end_fault r.end_fault k ≡ None → q.result (known_at s) ≡ r.result (known_at k)
  same_result (Open k) (Open s) g f = same.result k s g f
  same_result (Open k) (Ended s) g f = absurd g
  same_result (Ended k) (Open s) g f = absurd g
  same_result (Ended k) (Ended s) g f = g

  pub ends_stand : StandsFor (ending ends r) (ending stops q) (GoodStage r q Good)
  ends_stand = record {
    items = same.items;
    long = same.long;
    start = same.start;
    fault = same_fault;
    next = same_next;
    end_fault = same_end;
    result = same_result;
  }
