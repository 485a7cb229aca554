-- Who waits behind a plugin that had its turn.
use Rattle.std.proofs.Common.{◌≡◌, ◌⊎◌, inl, inr, ℕ, zero, suc, ◌+◌, ◌<◌, ◌≤◌, Bool, true, false, cond, List, [], ◌∷◌, ◌++◌, length, map, get_or, take, drop, filter, Contains, count_by, sum_by, Option, None, Some, refl, sym, ap, ◌∙◌, subst, arith, add-zero, true≢false}
use Rattle.std.specs.Prelude.{slice_get, ◌&&◌, ℤ}
use Rattle.std.specs.Cmp.{IsTotalOrder, IsStrictWeakOrder}
use Rattle.std.specs.List.{AllByRecursion, find}
use Rattle.std.specs.List.Sorted.{IsPermutation, IsSorted}
use Rattle.std.specs.Ordering.{nat_cmp, int_cmp, on, flip_args, then_cmp, ordering_then, ordering_reverse, is_lt}
use Rattle.std.specs.declared.cmp.Ordering.{Ordering}
use Rattle.std.specs.declared.cmp.Ordering.TheVariants.{Less, Equal, Greater}
use Rattle.std.proofs.Math.Nat.{lt_of_not-le}
use Rattle.std.proofs.lemmas.Bool.{eq-eqb}
use Rattle.std.proofs.lemmas.Cmp.{ranked, nat_cmp_total, int_cmp_total, on_total, then_total, back_total}
use Rattle.std.proofs.lemmas.List.Elements.{All-contains, All-from_recursion}
use Rattle.std.proofs.lemmas.List.MinMax.{ranks_by}
use Rattle.std.proofs.lemmas.List.Sorted.{sorted_far, Contains-permutation, sum_by-IsPermutation, IsPermutation-sym}
use Rattle.std.proofs.lemmas.List.Sums.{length-filter, sum_by-take-drop, sum_by-drop_more, sum_by-le-sum_by}
use Rattle.std.proofs.lemmas.Option.{none-some, same_Some}
use Rattle.cip_plugin.specs.Asking.{asks}
use Rattle.cip_plugin.specs.Calls.{Ask, Answer, Call, Asked}
use Rattle.cip_plugin.specs.declared.asking.Given.{Given}
use Rattle.cip_plugin.specs.declared.kinds.Kind.{Kind}
use Rattle.cip_search.proofs.Members.{is_kept, kept_passes, kept_was_there}
use Rattle.cip_plugin.specs.declared.keys.Key.{Key}
use Rattle.cip_plugin.specs.Calling.{is_ready, keys_from, same_kind, noted, turn_of, all_turns}
use Rattle.cip_plugin.specs.Ranks.{decided_by, rank_order}
use Rattle.cip_plugin.specs.Seats.{Seat, State, is_on, is_playing}
use Rattle.cip_plugin.specs.Steps.{Step, calls_of, asks_in}
use Rattle.cip_roster.specs.Nexts.{IsNext, AskedNext, CalledNext, is_behind, key_at, key_of}
use Rattle.cip_roster.specs.Turns.{HadTurn}
use Rattle.cip_roster.proofs.Calm.{Face, face, run_calm, turn_calm}
use Rattle.cip_calls.specs.Waiting.{is_asked, waiting, IsTurnOf, HasAskedNext}
use Rattle.cip_calls.proofs.Calling.{turn_some, some_none}
use Rattle.cip_problem.proofs.Log.Entering.{contains_here, contains_later}

-- ---- the order of keys

abbrev order : Key → Key → Ordering
order = then_cmp (flip_args (on (λ (k : Key). k.rank.0) int_cmp)) (on (λ (k : Key). k.id) nat_cmp)

order_total : IsTotalOrder order
order_total = then_total (back_total (on_total (λ (k : Key). k.rank.0) int_cmp_total)) (on_total (λ (k : Key). k.id) nat_cmp_total)

decided_then : (x y : Ordering) → decided_by x y ≡ ordering_then x y
decided_then Less y = refl
decided_then Equal y = refl
decided_then Greater y = refl

rank_is : (a b : Key) → rank_order a b ≡ order a b
rank_is a b = decided_then (int_cmp b.rank.0 a.rank.0) (nat_cmp a.id b.id)

abbrev lt : Key → Key → Bool
lt a b = is_lt (rank_order a b)

lt_is : (a b : Key) → lt a b ≡ is_lt (order a b)
lt_is a b = ap is_lt (rank_is a b)

weak : IsStrictWeakOrder lt
weak =
    let w : IsStrictWeakOrder (λ (x y : Key). is_lt (order x y)) = ranks_by order_total (λ (k : Key). k) in
    record {
      one_way = λ x y e. lt_is y x ∙ w.one_way x y (sym (lt_is x y) ∙ e);
      chain = λ x y z e f. lt_is x z ∙ w.chain x y z (sym (lt_is x y) ∙ e) (sym (lt_is y z) ∙ f);
    }

no_more : (b : Bool) → (b ≡ true → b ≡ false) → b ≡ false
no_more true h = h refl
no_more false h = refl

not_itself : (k : Key) → lt k k ≡ false
not_itself k = no_more (lt k k) (λ e. weak.one_way k k e)

surely : (b c : Bool) → (b ≡ false → c ≡ false) → c ≡ true → b ≡ true
surely true c h e = refl
surely false c h e = absurd (true≢false (sym e ∙ h refl))

lt_chain : (a b c : Key) → lt a b ≡ true → lt b c ≡ true → lt a c ≡ true
lt_chain a b c e f = surely (lt a c) (lt b c) (λ g. weak.chain b a c (weak.one_way a b e) g) f

tied : (o r : Ordering) → r ≡ ordering_reverse o → is_lt o ≡ false → is_lt r ≡ false → o ≡ Equal
tied Less r e f g = absurd (true≢false f)
tied Equal r e f g = refl
tied Greater r e f g = absurd (true≢false (sym (ap is_lt e) ∙ g))

later_equal : (x y : Ordering) → ordering_then x y ≡ Equal → y ≡ Equal
later_equal Less y e = cc
later_equal Equal y e = e
later_equal Greater y e = cc

-- keys neither of which is before the other are of one plugin
same_number : (a b : Key) → lt a b ≡ false → lt b a ≡ false → a.id ≡ b.id
same_number a b e f =
    let equal = tied (order a b) (order b a) (order_total.antisymm b a) (sym (lt_is a b) ∙ e) (sym (lt_is b a) ∙ f) in
    ranked a.id b.id Equal (sym (later_equal (int_cmp b.rank.0 a.rank.0) (nat_cmp a.id b.id) equal))

-- who is behind one that is behind another is behind that
behind_chain : (after : Option Key) (key x : Key) → is_behind after key ≡ true → is_behind (Some key) x ≡ true → is_behind after x ≡ true
behind_chain None key x e f = refl
behind_chain (Some k) key x e f = lt_chain k key x e f

-- ---- the first that passes a test

record Found (p : Key → Bool) (xs : List Key) (x : Key) : Type 0 where
  at : ℕ
  within : at < length xs
  is : (d : Key) → get_or xs at d ≡ x
  passes : p x ≡ true
  before : (j : ℕ) (d : Key) → j < at → p (get_or xs j d) ≡ false

before_later : (p : Key → Bool) (y : Key) (xs : List Key) (at : ℕ) → p y ≡ false → ((j : ℕ) (d : Key) → j < at → p (get_or xs j d) ≡ false)
    → (j : ℕ) (d : Key) → j < suc at → p (get_or (y ∷ xs) j d) ≡ false
before_later p y xs at e f zero d l = e
before_later p y xs at e f (suc j) d l = f j d (omega arith)

none_before : (p : Key → Bool) (xs : List Key) (j : ℕ) (d : Key) → j < 0 → p (get_or xs j d) ≡ false
none_before p xs j d l = absurd (omega arith)

found_by : (p : Key → Bool) (y x : Key) (xs : List Key) (b : Bool) → p y ≡ b → (find p xs ≡ Some x → Found p xs x) → cond b (Some y) (find p xs) ≡ Some x
    → Found p (y ∷ xs) x
found_by p y x xs true e rest f = record {
  at = 0;
  within = omega arith;
  is = λ d. same_Some y x f;
  passes = ap p (sym (same_Some y x f)) ∙ e;
  before = none_before p (y ∷ xs);
}
found_by p y x xs false e rest f =
    let r = rest f in
    record {
      at = suc r.at;
      within = omega (arith, r.within);
      is = r.is;
      passes = r.passes;
      before = before_later p y xs r.at e r.before;
    }

found : (p : Key → Bool) (xs : List Key) (x : Key) → find p xs ≡ Some x → Found p xs x
found p [] x e = absurd (none-some x e)
found p (y ∷ xs) x e = found_by p y x xs (p y) refl (found p xs x) e

none_by : (p : Key → Bool) (y : Key) (xs : List Key) (b : Bool) → (find p xs ≡ None → filter p xs ≡ []) → cond b (Some y) (find p xs) ≡ None
    → cond b (y ∷ filter p xs) (filter p xs) ≡ []
none_by p y xs true rest e = absurd (none-some y (sym e))
none_by p y xs false rest e = rest e

none_found : (p : Key → Bool) (xs : List Key) → find p xs ≡ None → filter p xs ≡ []
none_found p [] e = refl
none_found p (y ∷ xs) e = none_by p y xs (p y) (none_found p xs) e

-- what passes comes no sooner
not_sooner : (p : Key → Bool) (xs : List Key) (x y : Key) (f : Found p xs x) (j : ℕ) → get_or xs j y ≡ y → p y ≡ true → f.at ≤ j
not_sooner p xs x y f j is passes =
    let h : ¬ (suc j ≤ f.at) = λ l. true≢false (sym passes ∙ ap p (sym is) ∙ f.before j y (omega arith)) in
    let k : f.at < suc j = lt_of_not-le {n = suc j} {m = f.at} h in
    omega arith

-- of a sorted list what passes and isn't the first is behind it, or of its plugin
behind_first : (p : Key → Bool) (xs : List Key) (x y : Key) → IsSorted rank_order xs → Found p xs x → Contains xs y → p y ≡ true → lt y x ≡ false
behind_first p xs x y up f (j, l, is) passes =
    subst (λ (z : Key). lt y z ≡ false) (f.is y)
    (subst (λ (z : Key). lt z (get_or xs f.at y) ≡ false) is (sorted_far lt weak xs up f.at j y (not_sooner p xs x y f j is passes) l))

-- ---- counts

abbrev tally : Bool → ℕ
tally b = cond b 1 0

tally_le : (a b : Bool) → (a ≡ true → b ≡ true) → tally a ≤ tally b
tally_le true true h = omega arith
tally_le true false h = absurd (true≢false (sym (h refl)))
tally_le false b h = omega arith

-- a sum of what is no more, and less at one place
sum_fewer : (a b : Key → ℕ) (xs : List Key) (i : ℕ) (x : Key) → i < length xs → ((y : Key) → a y ≤ b y) → a (get_or xs i x) ≡ 0 → b (get_or xs i x) ≡ 1
    → sum_by a xs < sum_by b xs
sum_fewer a b xs i x within le none one =
    omega (
      arith,
      sum_by-le-sum_by a b (take i xs) le,
      sum_by-le-sum_by a b (drop (i + 1) xs) le,
      sum_by-take-drop a xs i,
      sum_by-take-drop b xs i,
      sum_by-drop_more a xs i x within,
      sum_by-drop_more b xs i x within,
    )

-- fewer pass a test that is stronger, and fails where the other passes first
count_fewer : (p q : Key → Bool) (xs : List Key) (x : Key) → Found q xs x → ((y : Key) → p y ≡ true → q y ≡ true) → p x ≡ false → count_by p xs < count_by q xs
count_fewer p q xs x f h fails =
    sum_fewer (λ (y : Key). tally (p y)) (λ (y : Key). tally (q y)) xs f.at x f.within (λ y. tally_le (p y) (q y) (h y))
    (ap (λ (y : Key). tally (p y)) (f.is x) ∙ ap tally fails) (ap (λ (y : Key). tally (q y)) (f.is x) ∙ ap tally f.passes)

-- as many pass a test in any order
same_count : (p : Key → Bool) (all keys : List Key) → IsPermutation all keys → length (filter p all) ≡ count_by p keys
same_count p all keys permuted = length-filter p all ∙ sym (sum_by-IsPermutation (λ (x : Key). tally (p x)) all keys permuted)

fewer_pass : (p q : Key → Bool) (all keys : List Key) (x : Key) → IsPermutation all keys → Found q keys x → ((y : Key) → p y ≡ true → q y ≡ true) → p x ≡ false
    → length (filter p all) < length (filter q all)
fewer_pass p q all keys x permuted f h fails =
    omega (arith, same_count p all keys permuted, same_count q all keys permuted, count_fewer p q keys x f h fails)

no_length : (l : List Key) → length l ≡ 0 → l ≡ []
no_length [] e = refl
no_length (x ∷ l) e = absurd (omega arith)

none_pass : (p : Key → Bool) (all keys : List Key) → IsPermutation all keys → filter p keys ≡ [] → filter p all ≡ []
none_pass p all keys permuted e =
    no_length (filter p all) (same_count p all keys permuted ∙ sym (length-filter p keys) ∙ ap (λ (l : List Key). length l) e)

-- ---- keys of seats

abbrev pub keyed : ℕ → ℤ → Key
keyed id priority = record { rank = record { 0 = priority }; id = id }

-- of seats that are asked so, and of those of the kind that is
keys_kind : (kind : Kind) (ask : Ask) → ((k : Kind) → same_kind kind k ≡ asks k ask) → (id : ℕ) (seats : List Seat)
    → keys_from (is_ready kind) id seats ≡ keys_from (is_asked ask) id seats
keys_kind kind ask fits id [] = refl
keys_kind kind ask fits id (s ∷ seats) =
    ap (λ (b : Bool). cond b (keyed id s.priority ∷ keys_from (is_ready kind) (id + 1) seats) (keys_from (is_ready kind) (id + 1) seats))
    (ap (λ (t : Bool). is_on s && t) (fits s.who.kind))
    ∙ ap (λ (l : List Key). cond (is_asked ask s) (keyed id s.priority ∷ l) l) (keys_kind kind ask fits (id + 1) seats)

-- by faces alone
abbrev is_asked_face : Ask → Face → Bool
is_asked_face ask f = (is_playing f.standing.stage && f.standing.on) && asks f.kind ask

abbrev face_keys : Ask → ℕ → List Face → List Key
face_keys ask id [] = []
face_keys ask id (f ∷ fs) = cond (is_asked_face ask f) (keyed id f.priority ∷ face_keys ask (id + 1) fs) (face_keys ask (id + 1) fs)

by_faces : (ask : Ask) (id : ℕ) (seats : List Seat) → keys_from (is_asked ask) id seats ≡ face_keys ask id (map face seats)
by_faces ask id [] = refl
by_faces ask id (s ∷ seats) = ap (λ (l : List Key). cond (is_asked ask s) (keyed id s.priority ∷ l) l) (by_faces ask (id + 1) seats)

keys_alike : (ask : Ask) (a b : List Seat) → map face b ≡ map face a → keys_from (is_asked ask) 0 b ≡ keys_from (is_asked ask) 0 a
keys_alike ask a b e = by_faces ask 0 b ∙ ap (face_keys ask 0) e ∙ sym (by_faces ask 0 a)

-- a key is that of its plugin
pick : (P : Key → Type 0) (k : Key) (rest : List Key) (b : Bool) → P k → AllByRecursion P rest → AllByRecursion P (cond b (k ∷ rest) rest)
pick P k rest true own others = (own, others)
pick P k rest false own others = others

keys_own : (test : Seat → Bool) (all : List Seat) (base : ℕ) (seats : List Seat) → ((i : ℕ) (s : Seat) → slice_get seats i ≡ Some s → slice_get all (base + i) ≡ Some s)
    → AllByRecursion (λ k. key_of k.id (slice_get all k.id) ≡ Some k) (keys_from test base seats)
keys_own test all base [] each = tt
keys_own test all base (s ∷ seats) each =
    pick (λ k. key_of k.id (slice_get all k.id) ≡ Some k) (keyed base s.priority) (keys_from test (base + 1) seats) (test s)
    (ap (key_of base) (subst (λ n. slice_get all n ≡ Some s) (add-zero base) (each 0 s refl)))
    (keys_own test all (base + 1) seats (λ i t at.
    let place : base + suc i ≡ (base + 1) + i = omega arith in subst (λ n. slice_get all n ≡ Some t) place (each (suc i) t at)))

zero_more : (i : ℕ) → 0 + i ≡ i
zero_more i = omega arith

own_key : (test : Seat → Bool) (seats : List Seat) (k : Key) → Contains (keys_from test 0 seats) k → key_at seats (Some k.id) ≡ Some k
own_key test seats k c =
    All-contains (λ (k : Key). key_of k.id (slice_get seats k.id) ≡ Some k) (keys_from test 0 seats) k
    (All-from_recursion (λ (k : Key). key_of k.id (slice_get seats k.id) ≡ Some k) (keys_from test 0 seats)
    (keys_own test seats 0 seats (λ i s at. subst (λ n. slice_get seats n ≡ Some s) (sym (zero_more i)) at))) c

has_here : (k x : Key) (rest : List Key) (b : Bool) → k ≡ x → b ≡ true → Contains (cond b (k ∷ rest) rest) x
has_here k x rest true e is = subst (Contains (k ∷ rest)) e (contains_here k rest)
has_here k x rest false e is = absurd (true≢false (sym is))

has_later : (k x : Key) (rest : List Key) (b : Bool) → Contains rest x → Contains (cond b (k ∷ rest) rest) x
has_later k x rest true c = contains_later k x rest c
has_later k x rest false c = c

-- who is asked so has a key
keys_have : (test : Seat → Bool) (base : ℕ) (seats : List Seat) (i : ℕ) (s : Seat) → slice_get seats i ≡ Some s → test s ≡ true
    → Contains (keys_from test base seats) (keyed (base + i) s.priority)
keys_have test base [] i s at is = cc
keys_have test base (t ∷ seats) zero s at is =
    let same : t ≡ s = same_Some t s at in
    has_here (keyed base t.priority) (keyed (base + 0) s.priority) (keys_from test (base + 1) seats) (test t)
    (ap (λ (u : Seat). keyed base u.priority) same ∙ ap (λ n. keyed n s.priority) (sym (add-zero base))) (ap test same ∙ is)
keys_have test base (t ∷ seats) (suc i) s at is =
    let place : (base + 1) + i ≡ base + suc i = omega arith in
    has_later (keyed base t.priority) (keyed (base + suc i) s.priority) (keys_from test (base + 1) seats) (test t)
    (subst (λ n. Contains (keys_from test (base + 1) seats) (keyed n s.priority)) place (keys_have test (base + 1) seats i s at is))

pub waits_first : (ask : Ask) (seats : List Seat) (id : ℕ) (s : Seat) → slice_get seats id ≡ Some s → is_asked ask s ≡ true
    → Contains (waiting ask seats None) (keyed id s.priority)
waits_first ask seats id s at is =
    is_kept (is_behind None) (keys_from (is_asked ask) 0 seats) (keyed id s.priority)
    (subst (λ n. Contains (keys_from (is_asked ask) 0 seats) (keyed n s.priority)) (zero_more id) (keys_have (is_asked ask) 0 seats id s at is)) refl

-- ---- a turn

-- a turn asks its plugin
turn_asks : (id : ℕ) (ask : Ask) (answer : Answer) (rest : List Step) → Contains (asks_in (calls_of id (turn_of id ask answer ++ rest))) ask
turn_asks id ask answer rest =
    let calls : List Call = calls_of id (noted id answer ++ rest) in
    subst (λ (b : Bool). Contains (asks_in (cond b (Asked ask answer ∷ calls) calls)) ask) (sym (eq-eqb id id refl)) (contains_here ask (asks_in calls))

still_by : (p q : Key → Bool) (all : List Key) (x k : Key) (b : Bool) → q x ≡ b → Contains all x → (b ≡ false → x.id ≡ k.id) → (x.id ≡ k.id) ⊎ Contains (filter q all) x
still_by p q all x k true e c other = inr (is_kept q all x c e)
still_by p q all x k false e c other = inl (other refl)

still_waits : (p q : Key → Bool) (all : List Key) (x k : Key) → Contains all x → (q x ≡ false → x.id ≡ k.id) → (contains_later : List Key) → contains_later ≡ filter q all
    → (x.id ≡ k.id) ⊎ Contains contains_later x
still_waits p q all x k c other left e =
    subst (λ (l : List Key). (x.id ≡ k.id) ⊎ Contains l x) (sym e) (still_by p q all x k (q x) refl c other)

-- whose turn it was is no more among those that wait, and all others that waited are
turn_moves : (ask : Ask) (a b : List Seat) (named : Option ℕ) (steps : List Step) (keys : List Key) (k : Key) → map face b ≡ map face a
    → IsPermutation (keys_from (is_asked ask) 0 a) keys → IsSorted rank_order keys → find (is_behind (key_at a named)) keys ≡ Some k
    → Contains (asks_in (calls_of k.id steps)) ask → IsTurnOf ask a b named steps k.id
turn_moves ask a b named steps keys k alike permuted up first asked =
    let p : Key → Bool = is_behind (key_at a named) in
    let q : Key → Bool = is_behind (Some k) in
    let f : Found p keys k = found p keys k first in
    let all : List Key = keys_from (is_asked ask) 0 a in
    let same : keys_from (is_asked ask) 0 b ≡ all = keys_alike ask a b alike in
    let among : Contains keys k = (f.at, f.within, f.is k) in
    let there : Contains all k = Contains-permutation keys all k (IsPermutation-sym all keys permuted) among in
    let own : key_at b (Some k.id) ≡ Some k = own_key (is_asked ask) b k (subst (λ (l : List Key). Contains l k) (sym same) there) in
    let rest : waiting ask b (Some k.id) ≡ filter q all = ap (λ (o : Option Key). filter (is_behind o) (keys_from (is_asked ask) 0 b)) own ∙ ap (filter q) same in
    record {
      asked = asked;
      others = λ x c.
          still_waits p q all x k (kept_was_there p all x c) (λ e. same_number x k (behind_first p keys k x up f (Contains-permutation all keys x permuted (kept_was_there p all x c)) (kept_passes p all x c)) e)
          (waiting ask b (Some k.id)) rest;
      fewer = subst (λ (l : List Key). length l < length (filter p all)) (sym rest)
          (fewer_pass q p all keys k permuted f (λ x e. behind_chain (key_at a named) k x f.passes e) (not_itself k));
    }

next_by_found : (kind : Kind) (ask : Ask) (a b : State) (named : Option ℕ) (gave : Option (ℕ × Option Given)) → ((k : Kind) → same_kind kind k ≡ asks k ask)
    → (first : Option Key) → IsNext kind a.seats named first → AskedNext first ask a b gave → HasAskedNext ask a b named gave
next_by_found kind ask a b named gave fits None next h =
    let p : Key → Bool = is_behind (key_at a.seats named) in
    let all : List Key = keys_from (is_asked ask) 0 a.seats in
    let permuted : IsPermutation all next.keys = subst (λ (l : List Key). IsPermutation l next.keys) (keys_kind kind ask fits 0 a.seats) next.permutation in
    let empty : waiting ask a.seats named ≡ [] = none_pass p all next.keys permuted (none_found p next.keys (sym next.first)) in
    subst (λ (g : Option (ℕ × Option Given)). HasAskedNext ask a b named g) (sym h.1)
    (subst (λ (s : State). HasAskedNext ask a s named None) (sym h.0) (record { some = some_none ask a; next = empty }))
next_by_found kind ask a b named gave fits (Some k) next h =
    let permuted : IsPermutation (keys_from (is_asked ask) 0 a.seats) next.keys = subst (λ (l : List Key). IsPermutation l next.keys) (keys_kind kind ask fits 0 a.seats) next.permutation in
    let had : HadTurn k.id ask a b h.0 = h.2 in
    let alike = run_calm (turn_of k.id ask had.answer) a b (turn_calm k.id ask had.answer) had.run in
    let made : HasAskedNext ask a b named (Some (k.id, h.0)) = record {
      some = turn_some k.id ask a b h.0 had;
      next = turn_moves ask a.seats b.seats named (all_turns ask ((k.id, had.answer) ∷ [])) next.keys k alike.faces permuted next.sorted (sym next.first) (turn_asks k.id ask had.answer []);
    } in
    subst (λ (g : Option (ℕ × Option Given)). HasAskedNext ask a b named g) (sym h.1) made

pub next_turn : (kind : Kind) (ask : Ask) (named : Option ℕ) (a b : State) (gave : Option (ℕ × Option Given)) → ((k : Kind) → same_kind kind k ≡ asks k ask)
    → CalledNext kind ask named a b gave → HasAskedNext ask a b named gave
next_turn kind ask named a b gave fits c = next_by_found kind ask a b named gave fits c.found c.next c.asked
