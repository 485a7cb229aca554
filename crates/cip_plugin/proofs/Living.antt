-- Lives are told at each step.
use Rattle.std.proofs.Common.{◌≡◌, ℕ, ◌≤◌, List, [], ◌∷◌, ◌++◌, length, Option, None, Some, Bool, true, false, eqb, cond, set, sym, ◌∙◌, ap, refl, arith, length-append, length-set, ⊎_elim}
use Rattle.std.specs.Prelude.{slice_get}
use Rattle.std.proofs.lemmas.Bool.{cases_eq, eq-eqb, ne_eqb}
use Rattle.std.proofs.lemmas.Option.{same_Some, slice_get_within}
use Rattle.std.proofs.lemmas.List.{append-nil}
use Rattle.cip_events.specs.declared.words.Word.{Word}
use Rattle.cip_events.specs.declared.traces.TraceLine.{TraceLine}
use Rattle.cip_plugin.specs.declared.kinds.Kind.{Kind}
use Rattle.cip_plugin.specs.Seats.{Standing, Seat, State}
use Rattle.cip_plugin.specs.Lives.{turn, life, newborn, words_of, LivesAreTold}
use Rattle.cip_plugin.specs.Steps.{line}
use Rattle.cip_plugin.proofs.Lists.{get_set_same, get_set_other, get_last, get_pushed}

-- the words of lines behind others
pub words_of-append : (id : ℕ) (xs ys : List TraceLine) → words_of id (xs ++ ys) ≡ words_of id xs ++ words_of id ys
words_of-append id [] ys = refl
words_of-append id (x ∷ xs) ys =
    elim (eqb x.id id) as (λ b. cond b (x.word ∷ words_of id (xs ++ ys)) (words_of id (xs ++ ys))
    ≡ cond b (x.word ∷ words_of id xs) (words_of id xs) ++ words_of id ys) [
      | true ↦ ap (λ (w : List Word). x.word ∷ w) (words_of-append id xs ys)
      | false ↦ words_of-append id xs ys
    ]

-- the words of one line
pub words_of_own : (id : ℕ) (xs : List TraceLine) (word : Word)
    → words_of id (xs ++ line id word ∷ []) ≡ words_of id xs ++ word ∷ []
words_of_own id xs word =
    words_of-append id xs (line id word ∷ [])
    ∙ ap (λ (b : Bool). words_of id xs ++ cond b (word ∷ []) []) (eq-eqb id id refl)

-- a line of another plugin
pub words_of_other : (id other : ℕ) (xs : List TraceLine) (word : Word) → (other ≡ id → ⊥)
    → words_of id (xs ++ line other word ∷ []) ≡ words_of id xs
words_of_other id other xs word differ =
    words_of-append id xs (line other word ∷ [])
    ∙ ap (λ (b : Bool). words_of id xs ++ cond b (word ∷ []) []) (ne_eqb other id differ)
    ∙ append-nil (words_of id xs)

-- a life that went wrong stays so
pub life_none : (kind : Kind) (words : List Word) → life kind None words ≡ None
life_none kind [] = refl
life_none kind (word ∷ words) = refl

-- a life behind more words
pub life-append : (kind : Kind) (now : Option Standing) (xs ys : List Word)
    → life kind now (xs ++ ys) ≡ life kind (life kind now xs) ys
life-append kind now [] ys = refl
life-append kind None (x ∷ xs) ys = sym (life_none kind ys)
life-append kind (Some now) (x ∷ xs) ys = life-append kind (turn kind now x) xs ys

-- one word more
pub life_more : (kind : Kind) (words : List Word) (word : Word) (now later : Standing)
    → life kind (Some newborn) words ≡ Some now → turn kind now word ≡ Some later
    → life kind (Some newborn) (words ++ word ∷ []) ≡ Some later
life_more kind words word now later so_far turned =
    life-append kind (Some newborn) words (word ∷ [])
    ∙ ap (λ (o : Option Standing). life kind o (word ∷ [])) so_far ∙ turned

-- a line was written of a plugin, whose seat changed by its word
pub written : (a b : State) (id : ℕ) (word : Word) (s t : Seat) → slice_get a.seats id ≡ Some s
    → b.seats ≡ set a.seats id t → b.lines ≡ a.lines ++ line id word ∷ [] → t.who.kind ≡ s.who.kind
    → turn s.who.kind s.standing word ≡ Some t.standing → LivesAreTold a → LivesAreTold b
written a b id word s t was is lines kind turned lives = record {
  each = λ k u at. ⊎_elim
      (λ (same : k ≡ id).
      let stands : slice_get b.seats id ≡ Some t = rw is (get_set_same a.seats id s t was) in
      let own : t ≡ u = same_Some t u (sym stands ∙ (rw (← same) at)) in
      let told : life s.who.kind (Some newborn) (words_of id a.lines ++ word ∷ []) ≡ Some t.standing =
      life_more s.who.kind (words_of id a.lines) word s.standing t.standing (lives.each id s was) turned in
      rw (← own, same, lines, words_of_own id a.lines word, kind) told)
      (λ (differ : k ≡ id → ⊥).
      let before : slice_get a.seats k ≡ Some u = sym (get_set_other a.seats id k t differ) ∙ (rw (← is) at) in
      rw (lines, words_of_other k id a.lines word (λ same. differ (sym same))) (lives.each k u before))
      (cases_eq k id);
  others = λ k past.
      let long : length a.seats ≤ k = (rw (is, length-set) at past) in
      let differ : id ≡ k → ⊥ = λ same. absurd (omega (arith, slice_get_within a.seats id s was)) in
      rw (lines, words_of_other k id a.lines word differ) (lives.others k long);
}

-- a seat changed in nothing that lives speak of
pub unwritten : (a b : State) (id : ℕ) (s t : Seat) → slice_get a.seats id ≡ Some s
    → b.seats ≡ set a.seats id t → b.lines ≡ a.lines → t.who.kind ≡ s.who.kind
    → t.standing ≡ s.standing → LivesAreTold a → LivesAreTold b
unwritten a b id s t was is lines kind standing lives = record {
  each = λ k u at. ⊎_elim
      (λ (same : k ≡ id).
      let stands : slice_get b.seats id ≡ Some t = rw is (get_set_same a.seats id s t was) in
      let own : t ≡ u = same_Some t u (sym stands ∙ (rw (← same) at)) in
      rw (← own, same, lines, kind, standing) (lives.each id s was))
      (λ (differ : k ≡ id → ⊥).
      let before : slice_get a.seats k ≡ Some u = sym (get_set_other a.seats id k t differ) ∙ (rw (← is) at) in
      rw lines (lives.each k u before))
      (cases_eq k id);
  others = λ k past.
      let long : length a.seats ≤ k = (rw (is, length-set) at past) in
      rw lines (lives.others k long);
}

-- a plugin came to the next seat
pub seated : (a b : State) (t : Seat) → b.seats ≡ a.seats ++ t ∷ [] → b.lines ≡ a.lines → t.standing ≡ newborn
    → LivesAreTold a → LivesAreTold b
seated a b t is lines standing lives = record {
  each = λ k u at. ⊎_elim
      (λ (same : k ≡ length a.seats).
      let own : t ≡ u = same_Some t u (sym (get_last a.seats t) ∙ (rw (same, is) at at)) in
      rw (← own, same, lines, lives.others (length a.seats) (omega arith), standing) refl)
      (λ (differ : k ≡ length a.seats → ⊥).
      let before : slice_get a.seats k ≡ Some u = get_pushed a.seats t u k (rw is at at) differ in
      rw lines (lives.each k u before))
      (cases_eq k (length a.seats));
  others = λ k past.
      let long : length a.seats ≤ k = omega (arith, rw (is, length-append) at past) in
      rw lines (lives.others k long);
}
