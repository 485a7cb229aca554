-- Who is asked how often, as plugins are called one after the other.
use Rattle.std.proofs.Common.{◌≡◌, ℕ, zero, suc, ◌+◌, ◌<◌, List, [], ◌∷◌, ◌++◌, map, replicate, Some, Bool, true, false, eqb, cond, count_by, sym, ◌∙◌, ap, refl, arith, one-add, zero-add, add-zero}
use Rattle.std.specs.Prelude.{slice_get}
use Rattle.std.proofs.lemmas.Bool.{eq-eqb, ne_eqb}
use Rattle.std.proofs.lemmas.Option.{same_Some}
use Rattle.std.specs.List.Sorted.{IsPermutation}
use Rattle.std.proofs.lemmas.List.Sums.{sum_by-cons}
use Rattle.std.proofs.lemmas.List.Sorted.{sum_by-IsPermutation, IsPermutation-map}
use Rattle.cip_plugin.specs.Calls.{Ask, Answer, Cuts, Reductions, Prices, Guesses, Splits, Says, Wishes, NoAnswer, Call, Init, InitSolve, Asked, ExitSolve, Exit}
use Rattle.cip_plugin.specs.Asking.{count_past}
use Rattle.cip_plugin.specs.declared.keys.Key.{Key}
use Rattle.cip_plugin.specs.Seats.{Seat}
use Rattle.cip_events.specs.declared.words.Word.TheVariants as say
use Rattle.cip_plugin.specs.Steps.{Notes, calls_of, asks_in}
use Rattle.cip_plugin.specs.Calling.{ids_of, keys_from, dropped, noted, turn_of, all_turns}
use Rattle.cip_plugin.proofs.Running.{calls_of-append}

-- what is asked among some calls and others
pub asks_in-append : (xs ys : List Call) → asks_in (xs ++ ys) ≡ asks_in xs ++ asks_in ys
asks_in-append [] ys = refl
asks_in-append (Init was ∷ xs) ys = asks_in-append xs ys
asks_in-append (InitSolve was ∷ xs) ys = asks_in-append xs ys
asks_in-append (Asked ask given ∷ xs) ys = ap (λ (asks : List Ask). ask ∷ asks) (asks_in-append xs ys)
asks_in-append (ExitSolve ∷ xs) ys = asks_in-append xs ys
asks_in-append (Exit ∷ xs) ys = asks_in-append xs ys

-- a note of what was dropped is no call
dropped_quiet : (k id count : ℕ) → calls_of k (dropped id count) ≡ []
dropped_quiet k id count =
    elim (eqb count 0) as (λ b. calls_of k (cond b [] (Notes id (say.Dropped count) ∷ [])) ≡ [])
    [ true ↦ refl | false ↦ refl ]

-- what is noted of an answer is no call
pub noted_quiet : (k id : ℕ) (given : Answer) → calls_of k (noted id given) ≡ []
noted_quiet k id (Cuts xs) = dropped_quiet k id (count_past (Cuts xs))
noted_quiet k id (Reductions xs) = dropped_quiet k id (count_past (Reductions xs))
noted_quiet k id (Prices brought) = dropped_quiet k id (count_past (Prices brought))
noted_quiet k id (Guesses xs) = dropped_quiet k id (count_past (Guesses xs))
noted_quiet k id (Splits split) = dropped_quiet k id (count_past (Splits split))
noted_quiet k id (Says said) = dropped_quiet k id (count_past (Says said))
noted_quiet k id (Wishes xs) = dropped_quiet k id (count_past (Wishes xs))
noted_quiet k id NoAnswer = refl

-- a plugin's turn asks it, and nobody else
pub turn_asks : (k id : ℕ) (ask : Ask) (given : Answer)
    → asks_in (calls_of k (turn_of id ask given)) ≡ cond (eqb id k) (ask ∷ []) []
turn_asks k id ask given =
    elim (eqb id k) as (λ b.
    asks_in (cond b (Asked ask given ∷ calls_of k (noted id given)) (calls_of k (noted id given)))
    ≡ cond b (ask ∷ []) []) [
      | true ↦ ap (λ (calls : List Call). ask ∷ asks_in calls) (noted_quiet k id given)
      | false ↦ ap asks_in (noted_quiet k id given)
    ]

-- how often a number stands in a list
abbrev pub times : ℕ → List ℕ → ℕ
times k ids = count_by (λ id. eqb id k) ids

-- one number more in a list
times_cons : (k id : ℕ) (ids : List ℕ) → times k (id ∷ ids) ≡ cond (eqb id k) 1 0 + times k ids
times_cons k id ids = sum_by-cons (λ i. cond (eqb i k) 1 0) id ids

-- one more of the same
more_asks : (b : Bool) (ask : Ask) (n : ℕ)
    → cond b (ask ∷ []) [] ++ replicate n ask ≡ replicate (cond b 1 0 + n) ask
more_asks true ask n = ap (λ (m : ℕ). replicate m ask) (sym (one-add n))
more_asks false ask n = ap (λ (m : ℕ). replicate m ask) (sym (zero-add n))

-- each is asked as often as it has a turn
pub turns_ask : (k : ℕ) (ask : Ask) (heard : List (ℕ × Answer))
    → asks_in (calls_of k (all_turns ask heard)) ≡ replicate (times k (map (λ h. h.0) heard)) ask
turns_ask k ask [] = refl
turns_ask k ask (h ∷ heard) =
    ap asks_in (calls_of-append k (turn_of h.0 ask h.1) (all_turns ask heard))
    ∙ asks_in-append (calls_of k (turn_of h.0 ask h.1)) (calls_of k (all_turns ask heard))
    ∙ ap (λ (front : List Ask). front ++ asks_in (calls_of k (all_turns ask heard))) (turn_asks k h.0 ask h.1)
    ∙ ap (λ (rest : List Ask). cond (eqb h.0 k) (ask ∷ []) [] ++ rest) (turns_ask k ask heard)
    ∙ more_asks (eqb h.0 k) ask (times k (map (λ h. h.0) heard))
    ∙ ap (λ (n : ℕ). replicate n ask) (sym (times_cons k h.0 (map (λ h. h.0) heard)))

-- another number isn't counted
not_counted : (id k : ℕ) (ids : List ℕ) → (id ≡ k → ⊥) → times k (id ∷ ids) ≡ times k ids
not_counted id k ids differ =
    times_cons k id ids
    ∙ ap (λ (b : Bool). cond b 1 0 + times k ids) (ne_eqb id k differ) ∙ zero-add (times k ids)

-- the number itself is counted
counted : (id : ℕ) (ids : List ℕ) → times id (id ∷ ids) ≡ 1 + times id ids
counted id ids =
    times_cons id id ids ∙ ap (λ (b : Bool). cond b 1 0 + times id ids) (eq-eqb id id refl)

-- no key has a number below the first
pub none_below : (test : Seat → Bool) (base : ℕ) (seats : List Seat) (k : ℕ) → k < base
    → times k (ids_of (keys_from test base seats)) ≡ 0
none_below test base [] k below = refl
none_below test base (seat ∷ seats) k below =
    let rest = none_below test (base + 1) seats k (omega arith) in
    elim (test seat) as (λ b. times k (ids_of (cond b
    (record { rank = record { 0 = seat.priority }; id = base } ∷ keys_from test (base + 1) seats)
    (keys_from test (base + 1) seats))) ≡ 0) [
      | true ↦ not_counted base k (ids_of (keys_from test (base + 1) seats)) (λ same. absurd (omega arith)) ∙ rest
      | false ↦ rest
    ]

-- a seat that the test takes has one key, and any other has none
pub once_each : (test : Seat → Bool) (base : ℕ) (seats : List Seat) (i : ℕ) (seat : Seat)
    → slice_get seats i ≡ Some seat → times (base + i) (ids_of (keys_from test base seats)) ≡ cond (test seat) 1 0
once_each test base [] i seat at = cc
once_each test base (x ∷ seats) zero seat at =
    let own : x ≡ seat = same_Some x seat at in
    let rest = none_below test (base + 1) seats base (omega arith) in
    rw (add-zero, ← own) (elim (test x) as (λ b. times base (ids_of (cond b
    (record { rank = record { 0 = x.priority }; id = base } ∷ keys_from test (base + 1) seats)
    (keys_from test (base + 1) seats))) ≡ cond b 1 0) [
      | true ↦ counted base (ids_of (keys_from test (base + 1) seats)) ∙ ap (λ (n : ℕ). 1 + n) rest
      | false ↦ rest
    ])
once_each test base (x ∷ seats) (suc i) seat at =
    let place : base + suc i ≡ (base + 1) + i = omega arith in
    let rest = once_each test (base + 1) seats i seat at in
    rw place (elim (test x) as (λ b. times ((base + 1) + i) (ids_of (cond b
    (record { rank = record { 0 = x.priority }; id = base } ∷ keys_from test (base + 1) seats)
    (keys_from test (base + 1) seats))) ≡ cond (test seat) 1 0) [
      | true ↦ not_counted base ((base + 1) + i) (ids_of (keys_from test (base + 1) seats))
          (λ same. absurd (omega arith)) ∙ rest
      | false ↦ rest
    ])

-- the keys in another order, by their numbers
times_permuted : (k : ℕ) (keys others : List Key) → IsPermutation keys others
    → times k (ids_of others) ≡ times k (ids_of keys)
times_permuted k keys others same =
    sum_by-IsPermutation (λ id. cond (eqb id k) 1 0) (ids_of keys) (ids_of others)
    (IsPermutation-map (λ key. key.id) keys others same)

-- a number stands among the keys of a test once where the test takes its seat, and else not
pub times_of_keys : (test : Seat → Bool) (seats : List Seat) (keys : List Key) (id : ℕ) (s : Seat)
    → IsPermutation (keys_from test 0 seats) keys → slice_get seats id ≡ Some s
    → times id (ids_of keys) ≡ cond (test s) 1 0
times_of_keys test seats keys id s permuted at =
    times_permuted id (keys_from test 0 seats) keys permuted ∙ rw (zero-add id) at (once_each test 0 seats id s at)

-- once or not at all
pub once_or_none : (b : Bool) (ask : Ask) → replicate (cond b 1 0) ask ≡ cond b (ask ∷ []) []
once_or_none true ask = refl
once_or_none false ask = refl

-- a call of the plugins that a test takes asks each of them once, and nobody else
pub asked_once : (test : Seat → Bool) (seats : List Seat) (keys : List Key) (ask : Ask) (heard : List (ℕ × Answer))
    (id : ℕ) (s : Seat) → IsPermutation (keys_from test 0 seats) keys → ids_of keys ≡ map (λ h. h.0) heard
    → slice_get seats id ≡ Some s → asks_in (calls_of id (all_turns ask heard)) ≡ cond (test s) (ask ∷ []) []
asked_once test seats keys ask heard id s permuted order at =
    let counted : times id (map (λ h. h.0) heard) ≡ cond (test s) 1 0 =
    ap (times id) (sym order) ∙ times_of_keys test seats keys id s permuted at in
    turns_ask id ask heard ∙ ap (λ (n : ℕ). replicate n ask) counted ∙ once_or_none (test s) ask
