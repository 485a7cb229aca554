-- Who gave something has a seat.
use Rattle.std.proofs.Common.{◌≡◌, ℕ, List, [], ◌∷◌, length, map, take, drop, Option, None, Some, Bool, true, false, cond, sym, ap, subst, refl, arith, All, get_or}
use Rattle.std.specs.Prelude.{slice_get, IsSome}
use Rattle.std.specs.List.{AllByRecursion}
use Rattle.std.proofs.lemmas.Option.{same_Some}
use Rattle.std.proofs.lemmas.List.{take-append-drop}
use Rattle.std.proofs.lemmas.List.Elements.{All-append, All-from_recursion, recursion_from_All}
use Rattle.cip_plugin.specs.Calls.{Ask, Answer}
use Rattle.cip_plugin.specs.Asking.{answer_of, first_part}
use Rattle.cip_plugin.specs.declared.asking.Given.{Given}
use Rattle.cip_plugin.specs.declared.kinds.Kind.{Kind}
use Rattle.cip_plugin.specs.declared.kinds.Kind.TheVariants as kinds
use Rattle.cip_plugin.specs.declared.keys.Key.{Key}
use Rattle.cip_plugin.specs.Seats.{State}
use Rattle.cip_plugin.specs.Steps.{Step, Runs}
use Rattle.cip_plugin.specs.Calling.{all_turns, given_of, ids_of, is_answer, turn_of}
use Rattle.cip_roster.specs.Turns.{CalledBoth, CalledKind, HadTurn}
use Rattle.cip_roster.specs.Nexts.{AskedNext, CalledNext, IsNext}
use Rattle.cip_roster.proofs.Ranking.{next_seated, ranked_seated}
use Rattle.cip_roster.proofs.Turning.{seat_stays}

-- who has a seat keeps it
pub stays_seated : (steps : List Step) (a b : State) (id : ℕ) → Runs a steps b → IsSome (slice_get a.seats id)
    → IsSome (slice_get b.seats id)
stays_seated steps a b id run is = seat_stays a b id steps run is

-- of the numbers of keys
ids_rec : (P : ℕ → Type 0) (keys : List Key) → AllByRecursion (λ k. P k.id) keys → AllByRecursion P (ids_of keys)
ids_rec P [] all = tt
ids_rec P (k ∷ keys) all = (all.0, ids_rec P keys all.1)

-- what holds of some numbers, as others do
keep_rec : (P Q : ℕ → Type 0) (ids : List ℕ) → ((id : ℕ) → P id → Q id) → AllByRecursion P ids → AllByRecursion Q ids
keep_rec P Q [] keeps all = tt
keep_rec P Q (id ∷ ids) keeps all = (keeps id all.0, keep_rec P Q ids keeps all.1)

-- one more of what is given, or none
pick_given : (P : ℕ → Type 0) (given : ℕ × Answer) (rest : List (ℕ × Answer)) (b : Bool) → P given.0
    → AllByRecursion (λ g. P g.0) rest → AllByRecursion (λ g. P g.0) (cond b (given ∷ rest) rest)
pick_given P given rest true own others = (own, others)
pick_given P given rest false own others = others

-- of what is given
given_rec : (P : ℕ → Type 0) (heard : List (ℕ × Answer)) → AllByRecursion P (map (λ h. h.0) heard)
    → AllByRecursion (λ g. P g.0) (given_of heard)
given_rec P [] all = tt
given_rec P (h ∷ heard) all =
    pick_given P (h.0, first_part h.1) (given_of heard) (is_answer h.1) all.0 (given_rec P heard all.1)

-- of what is handed on, as it is told
told_rec : (P : ℕ → Type 0) (entries : List (ℕ × Given))
    → AllByRecursion (λ (g : ℕ × Answer). P g.0) (map (λ entry. (entry.0, answer_of entry.1)) entries)
    → AllByRecursion (λ (e : ℕ × Given). P e.0) entries
told_rec P [] all = tt
told_rec P (e ∷ entries) all = (all.0, told_rec P entries all.1)

-- those behind what was there have seats
handed_seated : (kind : Kind) (ask : Ask) (a b : State) (had has : List (ℕ × Given)) → CalledKind kind ask a b had has
    → All (λ entry. IsSome (slice_get b.seats entry.0)) (drop (length had) has)
handed_seated kind ask a b had has call =
    let called = call.called in
    let steps = all_turns ask called.heard in
    let before = ids_rec (λ id. IsSome (slice_get a.seats id)) call.keys
    (recursion_from_All (λ k. IsSome (slice_get a.seats k.id)) call.keys
    (ranked_seated kind a.seats call.keys call.permutation)) in
    let after = keep_rec (λ id. IsSome (slice_get a.seats id)) (λ id. IsSome (slice_get b.seats id)) (ids_of call.keys)
    (λ id is. stays_seated steps a b id called.run is) before in
    let own = subst (λ (ids : List ℕ). AllByRecursion (λ id. IsSome (slice_get b.seats id)) ids) (sym called.ids)
    after in
    let given = given_rec (λ id. IsSome (slice_get b.seats id)) called.heard own in
    All-from_recursion (λ entry. IsSome (slice_get b.seats entry.0)) (drop (length had) has)
    (told_rec (λ id. IsSome (slice_get b.seats id)) (drop (length had) has)
    (subst (λ (gave : List (ℕ × Answer)). AllByRecursion (λ g. IsSome (slice_get b.seats g.0)) gave)
    (sym called.given) given))

-- those of both have seats
behind_seated : (kind : Kind) (ask : Ask) (a b : State) (had has : List (ℕ × Given)) → CalledKind kind ask a b had has
    → All (λ entry. IsSome (slice_get b.seats entry.0)) had → All (λ entry. IsSome (slice_get b.seats entry.0)) has
behind_seated kind ask a b had has call first =
    let P : (ℕ × Given) → Type 0 = λ entry. IsSome (slice_get b.seats entry.0) in
    subst (λ (entries : List (ℕ × Given)). All P entries) (take-append-drop (length had) has)
    (All-append P (take (length had) has) (drop (length had) has)
    (subst (λ (entries : List (ℕ × Given)). All P entries) (sym call.kept) first)
    (handed_seated kind ask a b had has call))

-- all of none
all_none : {A : Type 0} (P : A → Type 0) → All P []
all_none P = λ i d within. absurd (omega (arith, within))

-- those of one kind
pub kind_seated : (kind : Kind) (ask : Ask) (a b : State) (has : List (ℕ × Given)) → CalledKind kind ask a b [] has
    → All (λ entry. IsSome (slice_get b.seats entry.0)) has
kind_seated kind ask a b has call =
    behind_seated kind ask a b [] has call (all_none (λ entry. IsSome (slice_get b.seats entry.0)))

-- those of a kind and the handlers
pub both_seated : (kind : Kind) (ask : Ask) (a b : State) (has : List (ℕ × Given)) → CalledBoth kind ask a b has
    → All (λ entry. IsSome (slice_get b.seats entry.0)) has
both_seated kind ask a b has call =
    let first = kind_seated kind ask a call.between call.some call.first in
    let called = call.second.called in
    behind_seated kinds.ConsHandler ask call.between b call.some has call.second
    (λ i d within. stays_seated (all_turns ask called.heard) call.between b (get_or call.some i d).0 called.run
    (first i d within))

-- what is there isn't nothing
some_none : {A : Type 0} (x : A) → Some x ≡ None → ⊥
some_none x is = cc

-- who was called next, by what was found
found_seated : (found : Option Key) (kind : Kind) (ask : Ask) (named : Option ℕ) (a b : State) (id : ℕ)
    (given : Option Given) → IsNext kind a.seats named found → AskedNext found ask a b (Some (id, given))
    → IsSome (slice_get b.seats id)
found_seated None kind ask named a b id given next asked = absurd (some_none (id, given) asked.1)
found_seated (Some key) kind ask named a b id given next asked =
    let same : id ≡ key.id = ap (λ (p : ℕ × Option Given). p.0) (same_Some (id, given) (key.id, asked.0) asked.1) in
    let had : HadTurn key.id ask a b asked.0 = asked.2 in
    subst (λ (i : ℕ). IsSome (slice_get b.seats i)) (sym same)
    (stays_seated (turn_of key.id ask had.answer) a b key.id had.run
    (next_seated kind a.seats named (Some key) key next refl))

-- who was called next
pub next_by : (kind : Kind) (ask : Ask) (named : Option ℕ) (a b : State) (id : ℕ) (given : Option Given)
    → CalledNext kind ask named a b (Some (id, given)) → IsSome (slice_get b.seats id)
next_by kind ask named a b id given called =
    found_seated called.found kind ask named a b id given called.next called.asked
