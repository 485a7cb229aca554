-- What a token says, at the place where it stands.
use Rattle.std.proofs.Common.{◌≡◌, ℕ, ◌<◌, ◌≤◌, Bool, true, false, cond, List, [], ◌∷◌, Option, None, Some, Result, refl, sym, ap, ◌∙◌, subst, inl, inr, ◌⊎◌, ◌&&◌, Bor, arith}
use Rattle.std.specs.Prelude.{IfOk, OnOk, is_some}
use Rattle.cip_rational.specs.Rational.{ℚ}
use Rattle.cip_text_rules.specs.LpTokens.{Token, Name, Sign, Number}
use Rattle.cip_text_rules.specs.LpWords as text
use Rattle.cip_text_rules.specs.LpPlaces.{Amount, Given, Event, Where, Reads, Adds, AddsCost, Ends, Mentions, MakesWhole, MakesBinary, Limit, Start, SecondName, BoundedName, TermSign, TermNumber, AfterTerm, at, fails, moves, says, says_both}
use Rattle.cip_text_rules.specs.LpGrammar.{amount_in, with_number, second_term, low_side, high_side, row_read, cost_read, bound_front, bound_read, bound_set, binary_read, general_read, read, read_in, is_name, row_ends, zero_ends, settled, settled_in, settled_row, settled_cost}
use Rattle.cip_text_rules.specs.LpFacts.{LpFacts, event_fault, facts_with, or_later, first_fault}
use Rattle.cip_lp.specs.declared.statements.Statements.{Statements}
use Rattle.cip_lp.specs.LpLines.{token_shown}
use Rattle.cip_lp.specs.declared.line_tokens.Token.{Token as Kept}
use Rattle.cip_lp.specs.declared.line_tokens.Token.TheVariants.{Bad, Opening, OutsideSection, Name as NameToken}
use Rattle.cip_lp.specs.declared.words.Relation.{Relation}
use Rattle.cip_lp.specs.declared.words.Relation.TheVariants.{AtMost, EqualTo, AtLeast}
use Rattle.cip_lp.specs.declared.words.LpPart.{LpPart}
use Rattle.cip_lp.specs.declared.words.LpPart.TheVariants.{Minimize, Maximize, Constraints}
use Rattle.cip_lp.specs.declared.places.Stage.{Stage}
use Rattle.cip_lp.specs.declared.places.Stage.TheVariants.{Labelled, SecondNumber, Start as StartStage, AfterTerm as AfterStage, BoundedName as BoundedStage}
use Rattle.cip_lp.specs.LpKinds.{part_shown, relation_shown}
use Rattle.cip_lp.specs.LpNumbers.{IsAmount, IsNoAmount}
use Rattle.cip_lp.specs.LpStages.{place_at, first_of, where_of, goes_on_with}
use Rattle.cip_lp.specs.LpEvents.{IsTaken}
use Rattle.cip_lp.specs.LpTaken.{AreTaken}
use Rattle.cip_lp.proofs.TakenLaws.{later_none}

-- ---- a fault, a place and one thing that is said

pub faulty : (old new : Statements) (reads : Reads) (w : Where) (kind : ℕ) → reads ≡ fails w kind → 0 < kind → kind ≤ 11 → AreTaken old new reads (Some kind)
faulty old new reads w kind e some few = rw e (record {
  is_kind = refl;
  taken = λ p. absurd (cc);
  stands = λ p. absurd (cc);
  few = (some, few);
})

pub misplaced : (old new : Statements) (reads : Reads) (w : Where) → reads ≡ fails w 3 → AreTaken old new reads (Some 3)
misplaced old new reads w e = faulty old new reads w 3 e (omega arith) (omega arith)

pub bad_token : (old new : Statements) (reads : Reads) (w : Where) → reads ≡ fails w 1 → AreTaken old new reads (Some 1)
bad_token old new reads w e = faulty old new reads w 1 e (omega arith) (omega arith)

pub out_of_order : (old new : Statements) (reads : Reads) (w : Where) → reads ≡ fails w 2 → AreTaken old new reads (Some 2)
out_of_order old new reads w e = faulty old new reads w 2 e (omega arith) (omega arith)

pub too_fine : (old new : Statements) (reads : Reads) (w : Where) → reads ≡ fails w 5 → AreTaken old new reads (Some 5)
too_fine old new reads w e = faulty old new reads w 5 e (omega arith) (omega arith)

pub refused : (old new : Statements) (reads : Reads) (w : Where) → reads ≡ fails w 11 → AreTaken old new reads (Some 11)
refused old new reads w e = faulty old new reads w 11 e (omega arith) (omega arith)

pub moved : (old new : Statements) (reads : Reads) (next : Where) → reads ≡ record { events = []; next = next } → new.draft ≡ old.draft → where_of new ≡ next → AreTaken old new reads None
moved old new reads next e d s = rw e (record {
  is_kind = refl;
  taken = λ _. d;
  stands = λ _. s;
  few = tt;
})

pub said : (old new : Statements) (reads : Reads) (event : Event) (next : Where) (kind : Option ℕ) → reads ≡ record { events = event ∷ []; next = next } → IsTaken old.draft new.draft event kind → where_of new ≡ next → AreTaken old new reads kind
said old new reads event next kind e h s = rw e (record {
  is_kind = h.is_kind ∙ sym (later_none (event_fault old.draft event));
  taken = h.taken;
  stands = λ _. s;
  few = h.few;
})

-- one thing that can't have a fault
pub done : (old new : Statements) (reads : Reads) (event : Event) (next : Where) → reads ≡ record { events = event ∷ []; next = next } → event_fault old.draft event ≡ None → new.draft ≡ facts_with old.draft event → where_of new ≡ next → AreTaken old new reads None
done old new reads event next e quiet d s = said old new reads event next None e (record { is_kind = sym quiet; taken = λ _. d; few = tt }) s

-- what is said is that of another place
pub read_as : {E : Type 0} (result : Result (Option ℕ) E) (old new : Statements) (reads own : Reads) → reads ≡ own → IfOk result (AreTaken old new own) → IfOk result (AreTaken old new reads)
read_as result old new reads own e h = subst (λ (r : Reads). IfOk result (AreTaken old new r)) (sym e) h

pub taken_as : (old new : Statements) (kind : Option ℕ) (reads own : Reads) → reads ≡ own → AreTaken old new own kind → AreTaken old new reads kind
taken_as old new kind reads own e h = subst (λ (r : Reads). AreTaken old new r kind) (sym e) h

-- ---- two things that are said

-- the first of them has a fault
pub first_failed : (old new : Statements) (reads : Reads) (first second : Event) (next : Where) (kind : Option ℕ) → reads ≡ record { events = first ∷ second ∷ []; next = next } → is_some kind ≡ true → IsTaken old.draft new.draft first kind → AreTaken old new reads kind
first_failed old new reads first second next None e f h = absurd (cc)
first_failed old new reads first second next (Some k) e f h = rw e (record {
  is_kind = ap (λ (o : Option ℕ). or_later o (first_fault (facts_with old.draft first) (second ∷ []))) h.is_kind;
  taken = λ p. absurd (cc);
  stands = λ p. absurd (cc);
  few = h.few;
})

-- none of them has one, and the second can't
pub both_done : (old new : Statements) (reads : Reads) (draft : LpFacts) (first second : Event) (next : Where) (kind : Option ℕ) → reads ≡ record { events = first ∷ second ∷ []; next = next } → is_some kind ≡ false → IsTaken old.draft draft first kind → event_fault (facts_with old.draft first) second ≡ None → new.draft ≡ facts_with draft second → where_of new ≡ next → AreTaken old new reads None
both_done old new reads draft first second next (Some k) e f h quiet d s = absurd (cc)
both_done old new reads draft first second next None e f h quiet d s =
    let facts : draft ≡ facts_with old.draft first = h.taken refl in
    rw e (record {
      is_kind = ap (λ (o : Option ℕ). or_later None (or_later o None)) (sym quiet) ∙ ap (λ (o : Option ℕ). or_later o (or_later (event_fault (facts_with old.draft first) second) None)) h.is_kind;
      taken = λ _. d ∙ ap (λ (f : LpFacts). facts_with f second) facts;
      stands = λ _. s;
      few = tt;
    })

-- ---- numbers

pub numberless : (old new : Statements) (w : Where) (text : List ℕ) (reads : Reads) (kind : ℕ) → IsNoAmount text kind → AreTaken old new (with_number w text reads) (Some kind)
numberless old new w text reads kind h = faulty old new (with_number w text reads) w kind (h.none w reads) h.some h.few

pub numbered : (old : Statements) (minus : Bool) (text : List ℕ) (amount : Amount) (given : Bool) (stage : Stage) → IsAmount minus text amount
    → AreTaken old (record old { place = record old.place { amount = amount; given = given; stage = stage } }) (with_number (where_of old) text (moves (where_of old) (place_at stage (record old.place { amount = amount_in minus text; given = given; stage = stage })))) None
numbered old minus text amount given stage h =
    let reads = moves (where_of old) (place_at stage (record old.place { amount = amount_in minus text; given = given; stage = stage })) in
    moved old (record old { place = record old.place { amount = amount; given = given; stage = stage } }) (with_number (where_of old) text reads) reads.next (h.some (where_of old) reads) refl
    (ap (λ (a : Amount). at (where_of old) (place_at stage (record old.place { amount = a; given = given; stage = stage }))) h.is)

-- ---- tokens of rows and of the objective

-- a term of a row
pub row_term : {E : Type 0} (result : Result (Option ℕ) E) (old new : Statements) (name : List ℕ) (amount own : Amount) (given : Option Given) (reads : Reads) → amount ≡ own → reads ≡ says (Adds own name) (where_of old) (AfterTerm given) → IfOk result (AreTaken old new (says (Adds amount name) (where_of old) (AfterTerm given))) → IfOk result (AreTaken old new reads)
row_term result old new name amount own given reads a e h = read_as result old new reads _ (e ∙ ap (λ (x : Amount). says (Adds x name) (where_of old) (AfterTerm given)) (sym a)) h

-- a term behind a value and a relation
pub row_second : {E : Type 0} (result : Result (Option ℕ) E) (old new : Statements) (name : List ℕ) (amount own : Amount) (given : Given) (reads : Reads) → amount ≡ own → reads ≡ second_term (where_of old) given own name → IfOk result (AreTaken old new (second_term (where_of old) given amount name)) → IfOk result (AreTaken old new reads)
row_second result old new name amount own given reads a e h = read_as result old new reads _ (e ∙ ap (λ (x : Amount). second_term (where_of old) given x name) (sym a)) h

-- a term of the objective
pub cost_term : {E : Type 0} (result : Result (Option ℕ) E) (old new : Statements) (name : List ℕ) (amount own : Amount) (reads : Reads) → amount ≡ own → reads ≡ says (AddsCost own name) (where_of old) (AfterTerm None) → IfOk result (AreTaken old new (says (AddsCost amount name) (where_of old) (AfterTerm None))) → IfOk result (AreTaken old new reads)
cost_term result old new name amount own reads a e h = read_as result old new reads _ (e ∙ ap (λ (x : Amount). says (AddsCost x name) (where_of old) (AfterTerm None)) (sym a)) h

-- what a token of a row, or of the objective, says by the stage
pub row_by : (old : Statements) (token : Token) (stage : Stage) → old.place.stage ≡ stage → row_read (where_of old) (place_at old.place.stage old.place) token ≡ row_read (where_of old) (place_at stage old.place) token
row_by old token stage e = ap (λ (s : Stage). row_read (where_of old) (place_at s old.place) token) e

pub cost_by : (old : Statements) (token : Token) (stage : Stage) → old.place.stage ≡ stage → cost_read (where_of old) (place_at old.place.stage old.place) token ≡ cost_read (where_of old) (place_at stage old.place) token
cost_by old token stage e = ap (λ (s : Stage). cost_read (where_of old) (place_at s old.place) token) e

-- ---- rows that end

row_quiet : (facts : LpFacts) (given : Option Given) (relation : text.Relation) (value : ℚ) → event_fault facts (row_ends given relation value) ≡ None
row_quiet facts None relation value = refl
row_quiet facts (Some given) text.AtMost value = refl
row_quiet facts (Some given) other value = refl

-- a row ends, and its statement goes on at this stage
pub row_done : (old ended : Statements) (reads : Reads) (given : Option Given) (relation : text.Relation) (value own : ℚ) (stage : Stage) → value ≡ own → reads ≡ says (row_ends given relation own) (where_of old) (place_at stage (record old.place { stage = stage }))
    → ended.draft ≡ facts_with old.draft (row_ends given relation value) → ended ≡ record old { draft = ended.draft }
    → AreTaken old (record ended { place = record ended.place { stage = stage } }) reads None
row_done old ended reads given relation value own stage v e d s =
    done old (record ended { place = record ended.place { stage = stage } }) reads (row_ends given relation own) (at (where_of old) (place_at stage (record old.place { stage = stage }))) e (row_quiet old.draft given relation own)
    (d ∙ ap (λ (x : ℚ). facts_with old.draft (row_ends given relation x)) v)
    (ap (λ (o : Statements). where_of (record o { place = record o.place { stage = stage } })) s)

-- ---- what stands before, by the section and the stage

pub row_settled : (old : Statements) (token : Token) (stage : Stage) → old.part ≡ Constraints → old.place.stage ≡ stage → settled (where_of old) token ≡ settled_row (where_of old) (place_at stage old.place) token
row_settled old token stage p s = λ i. settled_in (part_shown (p i)) (where_of old) (place_at (s i) old.place) token

pub cost_settled : (old : Statements) (token : Token) (stage : Stage) → (old.part ≡ Minimize) ⊎ (old.part ≡ Maximize) → old.place.stage ≡ stage → settled (where_of old) token ≡ settled_cost (where_of old) (place_at stage old.place) token
cost_settled old token stage (inl p) s = λ i. settled_in (part_shown (p i)) (where_of old) (place_at (s i) old.place) token
cost_settled old token stage (inr p) s = λ i. settled_in (part_shown (p i)) (where_of old) (place_at (s i) old.place) token

-- a number goes on
pub row_waits : (old : Statements) (token : Token) → old.part ≡ Constraints → old.place.stage ≡ SecondNumber → true ≡ goes_on_with (first_of old.place) old.place.amount token → AreTaken old old (settled (where_of old) token) None
row_waits old token p s e =
    moved old old (settled (where_of old) token) (where_of old) (row_settled old token SecondNumber p s ∙ ap (λ (b : Bool). cond b (moves (where_of old) (where_of old).place) (says (zero_ends (first_of old.place) old.place.amount) (where_of old) Start)) (sym e)) refl refl

-- or its row ends
pub row_stops : (old ended : Statements) (token : Token) (value : ℚ) → value ≡ old.place.amount.value → old.part ≡ Constraints → old.place.stage ≡ SecondNumber → false ≡ goes_on_with (first_of old.place) old.place.amount token
    → ended.draft ≡ facts_with old.draft (row_ends None (first_of old.place).relation value) → ended ≡ record old { draft = ended.draft }
    → AreTaken old (record ended { place = record ended.place { stage = StartStage } }) (settled (where_of old) token) None
row_stops old ended token value v p s e d same =
    row_done old ended (settled (where_of old) token) None (first_of old.place).relation value old.place.amount.value StartStage v
    (row_settled old token SecondNumber p s ∙ ap (λ (b : Bool). cond b (moves (where_of old) (where_of old).place) (says (zero_ends (first_of old.place) old.place.amount) (where_of old) Start)) (sym e)) d same

-- ---- tests

pub yes : (test : Bool) (first other : Reads) → true ≡ test → cond test first other ≡ first
yes test first other e = ap (λ (b : Bool). cond b first other) (sym e)

pub no : (test : Bool) (first other : Reads) → false ≡ test → cond test first other ≡ other
no test first other e = ap (λ (b : Bool). cond b first other) (sym e)

-- a name behind the number 0, or another, and a relation and a number
pub second_by : (old : Statements) (name : List ℕ) → old.place.stage ≡ SecondNumber → false ≡ old.place.first.zero → row_read (where_of old) (place_at old.place.stage old.place) (Name name) ≡ second_term (where_of old) (first_of old.place) old.place.amount name
second_by old name s e = row_by old (Name name) SecondNumber s ∙ no old.place.first.zero _ _ e

pub second_kept : (old new : Statements) (name : List ℕ) → old.place.stage ≡ SecondNumber → true ≡ old.place.first.zero → new.draft ≡ old.draft → where_of new ≡ at (where_of old) (SecondName (first_of old.place) old.place.amount name)
    → AreTaken old new (row_read (where_of old) (place_at old.place.stage old.place) (Name name)) None
second_kept old new name s e d w = moved old new (row_read (where_of old) (place_at old.place.stage old.place) (Name name)) (at (where_of old) (SecondName (first_of old.place) old.place.amount name)) (row_by old (Name name) SecondNumber s ∙ yes old.place.first.zero _ _ e) d w

-- the sides of a row that ends
pub row_event : {E : Type 0} (result : Result (Unit {0}) E) (was old : Statements) (new : LpFacts) (event own : Event) → was ≡ old → event ≡ own → OnOk result (new ≡ facts_with was.draft event) → OnOk result (new ≡ facts_with old.draft own)
row_event result was old new event own v e h = subst (λ (x : Event). OnOk result (new ≡ facts_with old.draft x)) e (subst (λ (s : Statements). OnOk result (new ≡ facts_with s.draft event)) v h)

pub plain_ends : (given : Bool) (first : Given) (relation : text.Relation) (value : ℚ) (low high : Option ℚ) → given ≡ false → low ≡ low_side relation value → high ≡ high_side relation value → Ends low high ≡ row_ends (cond given (Some first) None) relation value
plain_ends given first relation value low high g l h = (λ i. Ends (l i) (h i)) ∙ ap (λ (b : Bool). row_ends (cond b (Some first) None) relation value) (sym g)

pub least_ends : (given : Bool) (first : Given) (relation : Relation) (value : ℚ) → given ≡ true → relation ≡ AtMost → Ends (Some first.amount.value) (Some value) ≡ row_ends (cond given (Some first) None) (relation_shown relation) value
least_ends given first relation value g r = λ i. row_ends (cond (sym g i) (Some first) None) (relation_shown (sym r i)) value

pub other_ends : (given : Bool) (first : Given) (relation : Relation) (value : ℚ) → given ≡ true → (relation ≡ AtMost → ⊥) → Ends (Some value) (Some first.amount.value) ≡ row_ends (cond given (Some first) None) (relation_shown relation) value
other_ends given first AtMost value g r = absurd (r refl)
other_ends given first EqualTo value g r = ap (λ (b : Bool). row_ends (cond b (Some first) None) text.EqualTo value) (sym g)
other_ends given first AtLeast value g r = ap (λ (b : Bool). row_ends (cond b (Some first) None) text.AtLeast value) (sym g)

-- ---- what a token says, by its kind

pub row_token : (old : Statements) (token own : Kept) → token ≡ own → row_read (where_of old) (place_at old.place.stage old.place) (token_shown token) ≡ row_read (where_of old) (place_at old.place.stage old.place) (token_shown own)
row_token old token own e = ap (λ (t : Kept). row_read (where_of old) (place_at old.place.stage old.place) (token_shown t)) e

pub cost_token : (old : Statements) (token own : Kept) → token ≡ own → cost_read (where_of old) (place_at old.place.stage old.place) (token_shown token) ≡ cost_read (where_of old) (place_at old.place.stage old.place) (token_shown own)
cost_token old token own e = ap (λ (t : Kept). cost_read (where_of old) (place_at old.place.stage old.place) (token_shown t)) e

pub bound_token : (old : Statements) (token own : Kept) → token ≡ own → bound_read (where_of old) (place_at old.place.stage old.place) (token_shown token) ≡ bound_read (where_of old) (place_at old.place.stage old.place) (token_shown own)
bound_token old token own e = ap (λ (t : Kept). bound_read (where_of old) (place_at old.place.stage old.place) (token_shown t)) e

pub bound_by : (old : Statements) (token : Token) (stage : Stage) → old.place.stage ≡ stage → bound_read (where_of old) (place_at old.place.stage old.place) token ≡ bound_read (where_of old) (place_at stage old.place) token
bound_by old token stage e = ap (λ (s : Stage). bound_read (where_of old) (place_at s old.place) token) e

-- ---- more of tokens by their kind, their section and their stage

pub both_true : (a b : Bool) → true ≡ a → true ≡ b → true ≡ (a && b)
both_true a b e f = λ i. e i && f i

pub read_token : (old : Statements) (token own : Kept) → token ≡ own → read (where_of old) (token_shown token) ≡ read (where_of old) (token_shown own)
read_token old token own e = ap (λ (t : Kept). read (where_of old) (token_shown t)) e

other_read : (w : Where) (token : Kept) → (token ≡ Bad → ⊥) → ((p : LpPart) → token ≡ Opening p → ⊥) → (token ≡ OutsideSection → ⊥) → read w (token_shown token) ≡ read_in w.part w (token_shown token)
other_read w Bad b p s = absurd (b refl)
other_read w (Opening part) b p s = absurd (p part refl)
other_read w OutsideSection b p s = absurd (s refl)
other_read w other b p s = refl

pub part_read : (old : Statements) (token : Kept) (part : LpPart) → old.part ≡ part → (token ≡ Bad → ⊥) → ((p : LpPart) → token ≡ Opening p → ⊥) → (token ≡ OutsideSection → ⊥) → read (where_of old) (token_shown token) ≡ read_in (part_shown part) (where_of old) (token_shown token)
part_read old token part e b p s = other_read (where_of old) token b p s ∙ ap (λ (x : LpPart). read_in (part_shown x) (where_of old) (token_shown token)) e

pub cost_read_in : (old : Statements) (token : Kept) → (old.part ≡ Minimize) ⊎ (old.part ≡ Maximize) → (token ≡ Bad → ⊥) → ((p : LpPart) → token ≡ Opening p → ⊥) → (token ≡ OutsideSection → ⊥) → read (where_of old) (token_shown token) ≡ cost_read (where_of old) (where_of old).place (token_shown token)
cost_read_in old token (inl e) b p s = part_read old token Minimize e b p s
cost_read_in old token (inr e) b p s = part_read old token Maximize e b p s

pub bound_front_by : (old : Statements) (token : Token) → bound_read (where_of old) (BoundedName old.place.name.items (relation_shown old.place.relation)) token ≡ bound_front (where_of old) token → (old.place.stage ≡ StartStage) ⊎ (old.place.stage ≡ BoundedStage)
    → bound_read (where_of old) (place_at old.place.stage old.place) token ≡ bound_front (where_of old) token
bound_front_by old token h (inl e) = bound_by old token StartStage e
bound_front_by old token h (inr e) = bound_by old token BoundedStage e ∙ h

pub cost_sign : (old : Statements) (minus : Bool) → (old.place.stage ≡ StartStage) ⊎ ((old.place.stage ≡ Labelled) ⊎ (old.place.stage ≡ AfterStage)) → cost_read (where_of old) (place_at old.place.stage old.place) (Sign minus) ≡ moves (where_of old) (TermSign None minus)
cost_sign old minus (inl e) = cost_by old (Sign minus) StartStage e
cost_sign old minus (inr (inl e)) = cost_by old (Sign minus) Labelled e
cost_sign old minus (inr (inr e)) = cost_by old (Sign minus) AfterStage e

pub cost_number : (old : Statements) (text : List ℕ) → (old.place.stage ≡ StartStage) ⊎ (old.place.stage ≡ Labelled) → cost_read (where_of old) (place_at old.place.stage old.place) (Number text) ≡ with_number (where_of old) text (moves (where_of old) (TermNumber None (amount_in false text)))
cost_number old text (inl e) = cost_by old (Number text) StartStage e
cost_number old text (inr e) = cost_by old (Number text) Labelled e

pub bound_quiet : (facts : LpFacts) (name : List ℕ) (relation : text.Relation) (limit : Limit) → event_fault facts (bound_set name relation limit) ≡ None
bound_quiet facts name text.AtMost limit = refl
bound_quiet facts name text.EqualTo limit = refl
bound_quiet facts name text.AtLeast limit = refl

-- a column that is to be whole, with a fault of its name
pub whole_failed : (old new : Statements) (token : Kept) (name : Bor (List ℕ)) (binary : Bool) (kind : Option ℕ) → token ≡ NameToken name → is_some kind ≡ true → IsTaken old.draft new.draft (Mentions name.now) kind
    → AreTaken old new (cond binary (binary_read (where_of old) (token_shown token)) (general_read (where_of old) (token_shown token))) kind
whole_failed old new token name true kind t e h = first_failed old new (binary_read (where_of old) (token_shown token)) (Mentions name.now) (MakesBinary name.now) _ kind (ap (λ (x : Kept). binary_read (where_of old) (token_shown x)) t) e h
whole_failed old new token name false kind t e h = first_failed old new (general_read (where_of old) (token_shown token)) (Mentions name.now) (MakesWhole name.now) _ kind (ap (λ (x : Kept). general_read (where_of old) (token_shown x)) t) e h

pub whole_read : (old : Statements) (token : Kept) (name : Bor (List ℕ)) (binary : Bool) → token ≡ NameToken name → binary ≡ false
    → cond binary (binary_read (where_of old) (token_shown token)) (general_read (where_of old) (token_shown token)) ≡ says_both (Mentions name.now) (MakesWhole name.now) (where_of old) Start
whole_read old token name binary t e = λ i. cond (e i) (binary_read (where_of old) (token_shown (t i))) (general_read (where_of old) (token_shown (t i)))

pub binary_read_by : (old : Statements) (token : Kept) (name : Bor (List ℕ)) (binary : Bool) → token ≡ NameToken name → binary ≡ true
    → cond binary (binary_read (where_of old) (token_shown token)) (general_read (where_of old) (token_shown token)) ≡ says_both (Mentions name.now) (MakesBinary name.now) (where_of old) Start
binary_read_by old token name binary t e = λ i. cond (e i) (binary_read (where_of old) (token_shown (t i))) (general_read (where_of old) (token_shown (t i)))

pub not_name : (token : Kept) → ((x : Bor (List ℕ)) → token ≡ NameToken x → ⊥) → false ≡ is_name (token_shown token)
not_name (NameToken x) h = absurd (h x refl)
not_name other h = refl
