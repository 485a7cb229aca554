-- What a token says, behind what it settles.
use Rattle.std.proofs.Common.{◌≡◌, ℕ, Bool, true, false, cond, List, [], ◌∷◌, ◌++◌, Option, None, Some, Result, Ok, Err, refl, sym, ap, ◌∙◌, inl, inr, ◌⊎◌}
use Rattle.std.specs.Prelude.{is_some, IfOk}
use Rattle.cip_text_rules.specs.LpTokens.{Token}
use Rattle.cip_text_rules.specs.LpPlaces.{Event, Where, Reads, AddsCost, AfterTerm, moves, says, unit}
use Rattle.cip_text_rules.specs.LpGrammar.{settled, read, is_colon}
use Rattle.cip_text_rules.specs.LpFacts.{LpFacts, event_fault, facts_with, or_later, first_fault, facts_after}
use Rattle.cip_lp.specs.declared.statements.Statements.{Statements}
use Rattle.cip_lp.specs.LpStages.{where_of}
use Rattle.cip_lp.specs.declared.words.LpPart.TheVariants.{Minimize, Maximize}
use Rattle.cip_lp.specs.declared.places.Stage.TheVariants.{FirstName}
use Rattle.cip_lp.specs.LpEvents.{IsTaken}
use Rattle.cip_lp.specs.LpTaken.{AreTaken, IsTokenTaken}

pub later_none : (a : Option ℕ) → or_later a None ≡ a
later_none None = refl
later_none (Some k) = refl

later_twice : (a b c : Option ℕ) → or_later a (or_later b c) ≡ or_later (or_later a b) c
later_twice None b c = refl
later_twice (Some k) b c = refl

faults_join : (facts : LpFacts) (xs ys : List Event) → first_fault facts (xs ++ ys) ≡ or_later (first_fault facts xs) (first_fault (facts_after facts xs) ys)
faults_join facts [] ys = refl
faults_join facts (x ∷ xs) ys =
    ap (λ (o : Option ℕ). or_later (event_fault facts x) o) (faults_join (facts_with facts x) xs ys)
    ∙ later_twice (event_fault facts x) (first_fault (facts_with facts x) xs) (first_fault (facts_after (facts_with facts x) xs) ys)

facts_join : (facts : LpFacts) (xs ys : List Event) → facts_after facts (xs ++ ys) ≡ facts_after (facts_after facts xs) ys
facts_join facts [] ys = refl
facts_join facts (x ∷ xs) ys = facts_join (facts_with facts x) xs ys

-- a fault of what is settled
pub settled_fault : (old new : Statements) (token : Token) (kind : Option ℕ) → is_some kind ≡ true → AreTaken old new (settled (where_of old) token) kind → IsTokenTaken old new token kind
settled_fault old new token None e h = absurd (cc)
settled_fault old new token (Some kind) e h =
    let s : List Event = (settled (where_of old) token).events in
    let r : List Event = (read (settled (where_of old) token).next token).events in
    record {
      is_kind = ap (λ (o : Option ℕ). or_later o (first_fault (facts_after old.draft s) r)) h.is_kind ∙ sym (faults_join old.draft s r);
      taken = λ p. absurd (cc);
      few = h.few;
    }

-- what is settled, and what the token says
pub both_taken : (old middle new : Statements) (token : Token) (settled_kind kind : Option ℕ) → is_some settled_kind ≡ false → AreTaken old middle (settled (where_of old) token) settled_kind → AreTaken middle new (read (where_of middle) token) kind → IsTokenTaken old new token kind
both_taken old middle new token (Some settled_kind) kind e g h = absurd (cc)
both_taken old middle new token None kind e g h =
    let facts : middle.draft ≡ facts_after old.draft (settled (where_of old) token).events = g.taken refl in
    let place : where_of middle ≡ (settled (where_of old) token).next = g.stands refl in
    let says : read (where_of middle) token ≡ read (settled (where_of old) token).next token = ap (λ (w : Where). read w token) place in
    record {
      is_kind =
          h.is_kind ∙ (λ i. first_fault (facts i) (says i).events)
          ∙ ap (λ (o : Option ℕ). or_later o (first_fault (facts_after old.draft (settled (where_of old) token).events) (read (settled (where_of old) token).next token).events)) g.is_kind
          ∙ sym (faults_join old.draft (settled (where_of old) token).events (read (settled (where_of old) token).next token).events);
      taken = λ p.
          let after = h.taken p ∙ (λ i. facts_after (facts i) (says i).events) ∙ sym (facts_join old.draft (settled (where_of old) token).events (read (settled (where_of old) token).next token).events) in
          let stands = h.stands p ∙ (λ i. (says i).next) in
          λ i. record { where_ = stands i; facts = after i };
      few = h.few;
    }

-- where the token's own answer may be that a growth was refused
pub each_taken : {E : Type 0} (old middle new : Statements) (token : Token) (settled_kind : Option ℕ) (result : Result (Option ℕ) E) → is_some settled_kind ≡ false → AreTaken old middle (settled (where_of old) token) settled_kind → IfOk result (AreTaken middle new (read (where_of middle) token)) → IfOk result (IsTokenTaken old new token)
each_taken old middle new token settled_kind (Ok kind) e g h = both_taken old middle new token settled_kind kind e g h
each_taken old middle new token settled_kind (Err cause) e g h = tt

-- ---- one thing or two that are said, where a test is false

module _ (old new : Statements) (test : Bool) (other : Reads) (no : false ≡ test) (next : Where) (kind : Option ℕ) where
  pub said_else : (event : Event) → IsTaken old.draft new.draft event kind → where_of new ≡ next → AreTaken old new (cond test other (record { events = event ∷ []; next = next })) kind
  said_else event h w = rw (sym no) (record {
    is_kind = h.is_kind ∙ sym (later_none (event_fault old.draft event));
    taken = h.taken;
    stands = λ _. w;
    few = h.few;
  })

  pub first_else : (event : Event) (events : List Event) → is_some kind ≡ true → IsTaken old.draft new.draft event kind → AreTaken old new (cond test other (record { events = event ∷ events; next = next })) kind
  first_else event events e h = rw (sym no) (failed kind e h)
    where
      failed : (k : Option ℕ) → is_some k ≡ true → IsTaken old.draft new.draft event k → AreTaken old new (record { events = event ∷ events; next = next }) k
      failed None f g = absurd (cc)
      failed (Some k) f g = record {
        is_kind = ap (λ (o : Option ℕ). or_later o (first_fault (facts_with old.draft event) events)) g.is_kind;
        taken = λ p. absurd (cc);
        stands = λ p. absurd (cc);
        few = g.few;
      }

  pub both_else : (draft : LpFacts) (first second : Event) (before : Option ℕ) → is_some before ≡ false → IsTaken old.draft draft first before → IsTaken draft new.draft second kind → where_of new ≡ next → AreTaken old new (cond test other (record { events = first ∷ second ∷ []; next = next })) kind
  both_else draft first second (Some k) e g h w = absurd (cc)
  both_else draft first second None e g h w =
      let facts : draft ≡ facts_with old.draft first = g.taken refl in
      rw (sym no) (record {
        is_kind =
            h.is_kind ∙ ap (λ f. event_fault f second) facts ∙ sym (later_none (event_fault (facts_with old.draft first) second))
            ∙ ap (λ (o : Option ℕ). or_later o (or_later (event_fault (facts_with old.draft first) second) None)) g.is_kind;
        taken = λ p. h.taken p ∙ ap (λ f. facts_with f second) facts;
        stands = λ _. w;
        few = h.few;
      })

-- a name that began a cost, and no colon behind it
pub cost_said : (old new : Statements) (token : Token) (kind : Option ℕ) → (old.part ≡ Minimize) ⊎ (old.part ≡ Maximize) → old.place.stage ≡ FirstName → false ≡ is_colon token → IsTaken old.draft new.draft (AddsCost (unit false) old.place.name.items) kind → where_of new ≡ record (where_of old) { place = AfterTerm None } → AreTaken old new (settled (where_of old) token) kind
cost_said old new token kind part stage quiet h w =
    let reads : settled (where_of old) token ≡ cond (is_colon token) (moves (where_of old) (where_of old).place) (says (AddsCost (unit false) old.place.name.items) (where_of old) (AfterTerm None)) =
    elim part [
      | inl e ↦ (rw (e, stage) refl)
      | inr e ↦ (rw (e, stage) refl)
    ] in
    rw reads (said_else old new (is_colon token) _ quiet _ kind (AddsCost (unit false) old.place.name.items) h w)
