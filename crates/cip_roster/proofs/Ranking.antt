-- Who stands in a ranking may be asked.
use Rattle.std.proofs.Common.{◌≡◌, ℕ, zero, suc, ◌+◌, List, [], ◌∷◌, ◌++◌, Option, None, Some, Bool, true, false, cond, sym, ◌∙◌, ap, subst, refl, arith, All, add-zero, zero-add, add-one, append_assoc, append-nil, drop, length, take, take_all, ◌<◌, ◌≤◌, get_or}
use Rattle.std.proofs.lemmas.Option.{cond_some, same_Some, slice_get-get_or}
use Rattle.std.proofs.lemmas.List.{drop_all}
use Rattle.std.specs.Prelude.{slice_get, IsSome}
use Rattle.std.specs.List.{AllByRecursion, find}
use Rattle.cip_roster.specs.KeptRankings.{IsRanking}
use Rattle.cip_roster.specs.Nexts.{IsNext, is_behind, key_at}
use Rattle.std.specs.List.Sorted.{IsPermutation}
use Rattle.std.proofs.lemmas.List.Sorted.{All-permutation}
use Rattle.std.proofs.lemmas.List.Elements.{All-from_recursion, recursion_from_All}
use Rattle.std.proofs.lemmas.Bool.{and_parts}
use Rattle.cip_plugin.specs.declared.kinds.Kind.{Kind}
use Rattle.cip_plugin.specs.declared.kinds.Kind.TheVariants as kinds
use Rattle.cip_plugin.specs.Calls.{Ask}
use Rattle.cip_plugin.specs.Asking.{asks}
use Rattle.cip_plugin.specs.declared.keys.Key.{Key}
use Rattle.cip_plugin.specs.Seats.{Seat, State, is_on}
use Rattle.cip_plugin.specs.Calling.{is_ready, keys_from, same_kind}
use Rattle.cip_roster.specs.Turns.{CanBeAsked, ready_key}

-- a key more, where a test takes it
pick_key : (P : ℕ → Type 0) (key : Key) (rest : List Key) (b : Bool) → (b ≡ true → P key.id)
    → AllByRecursion (λ k. P k.id) rest → AllByRecursion (λ k. P k.id) (cond b (key ∷ rest) rest)
pick_key P key rest true own others = (own refl, others)
pick_key P key rest false own others = others

-- what holds of each number whose seat the test takes holds of all keys
keys_rec : (test : Seat → Bool) (P : ℕ → Type 0) (base : ℕ) (seats : List Seat)
    → ((i : ℕ) (s : Seat) → slice_get seats i ≡ Some s → test s ≡ true → P (base + i))
    → AllByRecursion (λ k. P k.id) (keys_from test base seats)
keys_rec test P base [] each = tt
keys_rec test P base (seat ∷ seats) each =
    pick_key P (record { rank = record { 0 = seat.priority }; id = base }) (keys_from test (base + 1) seats) (test seat)
    (λ is. subst P (add-zero base) (each 0 seat refl is))
    (keys_rec test P (base + 1) seats (λ i s at is.
    let place : base + suc i ≡ (base + 1) + i = omega arith in subst P place (each (suc i) s at is)))

-- and of all keys in another order
pub keys_all : (test : Seat → Bool) (P : ℕ → Type 0) (seats : List Seat) (keys : List Key)
    → IsPermutation (keys_from test 0 seats) keys
    → ((i : ℕ) (s : Seat) → slice_get seats i ≡ Some s → test s ≡ true → P i) → All (λ k. P k.id) keys
keys_all test P seats keys permuted each =
    All-permutation (λ k. P k.id) (keys_from test 0 seats) keys permuted
    (All-from_recursion (λ k. P k.id) (keys_from test 0 seats)
    (keys_rec test P 0 seats (λ i s at is. subst P (sym (zero-add i)) (each i s at is))))

-- kinds that a test takes for one are one
same_kind_is : (k l : Kind) → same_kind k l ≡ true → k ≡ l
same_kind_is kinds.Separator kinds.Separator is = refl
same_kind_is kinds.Separator kinds.Propagator is = cc
same_kind_is kinds.Separator kinds.Pricer is = cc
same_kind_is kinds.Separator kinds.Heuristic is = cc
same_kind_is kinds.Separator kinds.BranchRule is = cc
same_kind_is kinds.Separator kinds.ConsHandler is = cc
same_kind_is kinds.Separator kinds.EventHandler is = cc
same_kind_is kinds.Propagator kinds.Separator is = cc
same_kind_is kinds.Propagator kinds.Propagator is = refl
same_kind_is kinds.Propagator kinds.Pricer is = cc
same_kind_is kinds.Propagator kinds.Heuristic is = cc
same_kind_is kinds.Propagator kinds.BranchRule is = cc
same_kind_is kinds.Propagator kinds.ConsHandler is = cc
same_kind_is kinds.Propagator kinds.EventHandler is = cc
same_kind_is kinds.Pricer kinds.Separator is = cc
same_kind_is kinds.Pricer kinds.Propagator is = cc
same_kind_is kinds.Pricer kinds.Pricer is = refl
same_kind_is kinds.Pricer kinds.Heuristic is = cc
same_kind_is kinds.Pricer kinds.BranchRule is = cc
same_kind_is kinds.Pricer kinds.ConsHandler is = cc
same_kind_is kinds.Pricer kinds.EventHandler is = cc
same_kind_is kinds.Heuristic kinds.Separator is = cc
same_kind_is kinds.Heuristic kinds.Propagator is = cc
same_kind_is kinds.Heuristic kinds.Pricer is = cc
same_kind_is kinds.Heuristic kinds.Heuristic is = refl
same_kind_is kinds.Heuristic kinds.BranchRule is = cc
same_kind_is kinds.Heuristic kinds.ConsHandler is = cc
same_kind_is kinds.Heuristic kinds.EventHandler is = cc
same_kind_is kinds.BranchRule kinds.Separator is = cc
same_kind_is kinds.BranchRule kinds.Propagator is = cc
same_kind_is kinds.BranchRule kinds.Pricer is = cc
same_kind_is kinds.BranchRule kinds.Heuristic is = cc
same_kind_is kinds.BranchRule kinds.BranchRule is = refl
same_kind_is kinds.BranchRule kinds.ConsHandler is = cc
same_kind_is kinds.BranchRule kinds.EventHandler is = cc
same_kind_is kinds.ConsHandler kinds.Separator is = cc
same_kind_is kinds.ConsHandler kinds.Propagator is = cc
same_kind_is kinds.ConsHandler kinds.Pricer is = cc
same_kind_is kinds.ConsHandler kinds.Heuristic is = cc
same_kind_is kinds.ConsHandler kinds.BranchRule is = cc
same_kind_is kinds.ConsHandler kinds.ConsHandler is = refl
same_kind_is kinds.ConsHandler kinds.EventHandler is = cc
same_kind_is kinds.EventHandler kinds.Separator is = cc
same_kind_is kinds.EventHandler kinds.Propagator is = cc
same_kind_is kinds.EventHandler kinds.Pricer is = cc
same_kind_is kinds.EventHandler kinds.Heuristic is = cc
same_kind_is kinds.EventHandler kinds.BranchRule is = cc
same_kind_is kinds.EventHandler kinds.ConsHandler is = cc
same_kind_is kinds.EventHandler kinds.EventHandler is = refl

-- who is ranked may be asked
pub ranked_can : (kind : Kind) (ask : Ask) (state : State) (keys : List Key) → asks kind ask ≡ true
    → IsPermutation (keys_from (is_ready kind) 0 state.seats) keys → All (λ k. CanBeAsked state ask k.id) keys
ranked_can kind ask state keys fits permuted =
    keys_all (is_ready kind) (CanBeAsked state ask) state.seats keys permuted (λ i s at is.
    let both = and_parts (is_on s) (same_kind kind s.who.kind) is in
    record {
      seat = s;
      at = at;
      on = both.0;
      fits = ap (λ (k : Kind). asks k ask) (sym (same_kind_is kind s.who.kind both.1)) ∙ fits;
    })

-- who is ranked has a seat
pub ranked_seated : (kind : Kind) (seats : List Seat) (keys : List Key)
    → IsPermutation (keys_from (is_ready kind) 0 seats) keys → All (λ k. IsSome (slice_get seats k.id)) keys
ranked_seated kind seats keys permuted =
    keys_all (is_ready kind) (λ i. IsSome (slice_get seats i)) seats keys permuted (λ i s at is. subst IsSome (sym at)
    refl)

-- the rest of a list at a place
drop_next : {A : Type 0} (xs : List A) (i : ℕ) (x : A) → slice_get xs i ≡ Some x → drop i xs ≡ x ∷ drop (suc i) xs
drop_next [] i x at = cc
drop_next {A = A} (y ∷ xs) zero x at = ap (λ (z : A). z ∷ xs) (same_Some y x at)
drop_next (y ∷ xs) (suc i) x at = drop_next xs i x at

-- what is found from a place on
pub find_next : {A : Type 0} (p : A → Bool) (xs : List A) (i : ℕ) (d : A) → i < length xs
    → find p (drop i xs) ≡ cond (p (get_or xs i d)) (Some (get_or xs i d)) (find p (drop (i + 1) xs))
find_next p xs i d within =
    ap (find p) (drop_next xs i (get_or xs i d) (slice_get-get_or xs i d within))
    ∙ ap (λ (n : ℕ). cond (p (get_or xs i d)) (Some (get_or xs i d)) (find p (drop n xs))) (sym (add-one i))

-- the keys so far, and those to come, are all
pub record Ranked (test : Seat → Bool) (id : ℕ) (seats : List Seat) (keys : List Key) : Type 0 where
  pub all : keys ++ keys_from test id (drop id seats) ≡ keys_from test 0 seats

-- a seat that the test takes has its key
pub ranked_more : (test : Seat → Bool) (id : ℕ) (seats : List Seat) (keys : List Key) (s : Seat)
    → slice_get seats id ≡ Some s → test s ≡ true → Ranked test id seats keys
    → Ranked test (suc id) seats (keys ++ record { rank = record { 0 = s.priority }; id = id } ∷ [])
ranked_more test id seats keys s at is so_far =
    let key : Key = record { rank = record { 0 = s.priority }; id = id } in
    let rest = keys_from test (id + 1) (drop (suc id) seats) in
    record {
      all = append_assoc keys (key ∷ []) (keys_from test (suc id) (drop (suc id) seats))
          ∙ ap (λ (n : ℕ). keys ++ key ∷ keys_from test n (drop (suc id) seats)) (sym (add-one id))
          ∙ ap (λ (b : Bool). keys ++ cond b (key ∷ rest) rest) (sym is)
          ∙ ap (λ (xs : List Seat). keys ++ keys_from test id xs) (sym (drop_next seats id s at))
          ∙ so_far.all;
    }

-- one that it doesn't take has none
pub ranked_skip : (test : Seat → Bool) (id : ℕ) (seats : List Seat) (keys : List Key) (s : Seat)
    → slice_get seats id ≡ Some s → test s ≡ false → Ranked test id seats keys → Ranked test (suc id) seats keys
ranked_skip test id seats keys s at is so_far =
    let key : Key = record { rank = record { 0 = s.priority }; id = id } in
    let rest = keys_from test (id + 1) (drop (suc id) seats) in
    record {
      all = ap (λ (n : ℕ). keys ++ keys_from test n (drop (suc id) seats)) (sym (add-one id))
          ∙ ap (λ (b : Bool). keys ++ cond b (key ∷ rest) rest) (sym is)
          ∙ ap (λ (xs : List Seat). keys ++ keys_from test id xs) (sym (drop_next seats id s at))
          ∙ so_far.all;
    }

-- at first
pub ranked_none : (test : Seat → Bool) (seats : List Seat) → Ranked test 0 seats []
ranked_none test seats = record { all = refl }

-- at the end the keys are all
pub ranked_all : (test : Seat → Bool) (n : ℕ) (seats : List Seat) (keys : List Key) → length seats ≤ n
    → Ranked test n seats keys → keys ≡ keys_from test 0 seats
ranked_all test n seats keys fits so_far =
    sym (append-nil keys)
    ∙ ap (λ (xs : List Seat). keys ++ keys_from test n xs) (sym (drop_all n seats fits))
    ∙ so_far.all

-- a list whose items were put in another order holds them in it
pub sorted_all : {A : Type 0} (xs ys : List A) (n : ℕ) → n ≡ length xs → length ys ≡ length xs
    → take n (ys ++ drop (length ys) xs) ≡ ys
sorted_all xs ys n long same =
    ap (λ rest. take n (ys ++ rest)) (drop_all (length ys) xs (omega (arith, same)))
    ∙ ap (take n) (append-nil ys)
    ∙ take_all n ys (omega (arith, long, same))

-- nothing stands past the end
drop_past : {A : Type 0} (xs : List A) (i : ℕ) → slice_get xs i ≡ None → (drop i xs ≡ []) × (drop (suc i) xs ≡ [])
drop_past [] zero none = (refl, refl)
drop_past [] (suc i) none = (refl, refl)
drop_past (x ∷ xs) zero none = cc
drop_past (x ∷ xs) (suc i) none = drop_past xs i none

-- no key comes of a test that fails
key_none : (b : Bool) (key : Key) → cond b (Some key) None ≡ None → b ≡ false
key_none true key none = cc
key_none false key none = refl

-- the plugin of a number, by what stands there
ranked_by : (kind : Kind) (id : ℕ) (seats : List Seat) (keys : List Key) (key : Key) (o : Option Seat)
    → slice_get seats id ≡ o → ready_key kind id o ≡ Some key → Ranked (is_ready kind) id seats keys
    → Ranked (is_ready kind) (suc id) seats (keys ++ key ∷ [])
ranked_by kind id seats keys key None at found so_far = cc
ranked_by kind id seats keys key (Some s) at found so_far =
    let parts = cond_some (is_ready kind s) (record { rank = record { 0 = s.priority }; id = id }) key found in
    subst (λ (k : Key). Ranked (is_ready kind) (suc id) seats (keys ++ k ∷ [])) parts.1
    (ranked_more (is_ready kind) id seats keys s at parts.0 so_far)

passed_by : (kind : Kind) (id : ℕ) (seats : List Seat) (keys : List Key) (o : Option Seat)
    → slice_get seats id ≡ o → ready_key kind id o ≡ None → Ranked (is_ready kind) id seats keys
    → Ranked (is_ready kind) (suc id) seats keys
passed_by kind id seats keys None at found so_far =
    let past = drop_past seats id at in
    record {
      all = ap (λ (xs : List Seat). keys ++ keys_from (is_ready kind) (suc id) xs) past.1
          ∙ ap (λ (xs : List Seat). keys ++ keys_from (is_ready kind) id xs) (sym past.0)
          ∙ so_far.all;
    }
passed_by kind id seats keys (Some s) at found so_far =
    ranked_skip (is_ready kind) id seats keys s at
    (key_none (is_ready kind s) (record { rank = record { 0 = s.priority }; id = id }) found) so_far

-- a key was found, and stands behind those so far
pub ranked_found : (kind : Kind) (id : ℕ) (seats : List Seat) (keys : List Key) (key : Key)
    → Some key ≡ ready_key kind id (slice_get seats id) → Ranked (is_ready kind) id seats keys
    → Ranked (is_ready kind) (id + 1) seats (keys ++ key ∷ [])
ranked_found kind id seats keys key found so_far =
    subst (λ (n : ℕ). Ranked (is_ready kind) n seats (keys ++ key ∷ [])) (sym (add-one id))
    (ranked_by kind id seats keys key (slice_get seats id) refl (sym found) so_far)

-- none was found
pub ranked_passed : (kind : Kind) (id : ℕ) (seats : List Seat) (keys : List Key)
    → None ≡ ready_key kind id (slice_get seats id) → Ranked (is_ready kind) id seats keys
    → Ranked (is_ready kind) (id + 1) seats keys
ranked_passed kind id seats keys found so_far =
    subst (λ (n : ℕ). Ranked (is_ready kind) n seats keys) (sym (add-one id))
    (passed_by kind id seats keys (slice_get seats id) refl (sym found) so_far)

-- what is found in a list has what all of it has
found_if : (P : Key → Type 0) (x y : Key) (rest : Option Key) (b : Bool) → cond b (Some y) rest ≡ Some x → P y
    → (rest ≡ Some x → P x) → P x
found_if P x y rest true is own others = subst P (same_Some y x is) own
found_if P x y rest false is own others = others is

found_rec : (P : Key → Type 0) (p : Key → Bool) (xs : List Key) (x : Key) → find p xs ≡ Some x
    → AllByRecursion P xs → P x
found_rec P p [] x is all = cc
found_rec P p (y ∷ xs) x is all =
    found_if P x y (find p xs) (p y) is all.0 (λ later. found_rec P p xs x later all.1)

-- the first one behind another in a ranking is the next one
pub is_next : (kind : Kind) (a r : State) (after : Option ℕ) (other found : Option Key) (keys lent : List Key) → r ≡ a
    → IsRanking kind a.seats keys → lent ≡ keys → other ≡ key_at r.seats after → found ≡ find (is_behind other) lent
    → IsNext kind a.seats after found
is_next kind a r after other found keys lent same ranking all named is = record {
  keys = keys;
  permutation = ranking.permutation;
  sorted = ranking.sorted;
  first = is ∙ ap (find (is_behind other)) all
      ∙ ap (λ (o : Option Key). find (is_behind o) keys) (named ∙ ap (λ (s : State). key_at s.seats after) same);
}

-- the next one may be asked
pub next_can : (kind : Kind) (ask : Ask) (a r : State) (after : Option ℕ) (found : Option Key) (key : Key)
    → asks kind ask ≡ true → IsNext kind a.seats after found → found ≡ Some key → r ≡ a → CanBeAsked r ask key.id
next_can kind ask a r after found key fits next is same =
    rw same (found_rec (λ k. CanBeAsked a ask k.id) (is_behind (key_at a.seats after)) next.keys key
    (sym next.first ∙ is)
    (recursion_from_All (λ k. CanBeAsked a ask k.id) next.keys (ranked_can kind ask a next.keys fits next.permutation)))

-- the next one has a seat
pub next_seated : (kind : Kind) (seats : List Seat) (after : Option ℕ) (found : Option Key) (key : Key)
    → IsNext kind seats after found → found ≡ Some key → IsSome (slice_get seats key.id)
next_seated kind seats after found key next is =
    found_rec (λ k. IsSome (slice_get seats k.id)) (is_behind (key_at seats after)) next.keys key (sym next.first ∙ is)
    (recursion_from_All (λ k. IsSome (slice_get seats k.id)) next.keys (ranked_seated kind seats next.keys
    next.permutation))
