-- The laws of runs, each as one statement.
use Rattle.std.specs.Prelude.{◌≡◌, ℕ, List, [], ◌∷◌, ◌++◌, map, Some, Bool, true, false, slice_get, if◌then◌else◌}
use Rattle.std.specs.List.Sorted.{IsPermutation}
use Rattle.std.specs.declared.cmp.Ordering.{Ordering}
use Rattle.cip_plugin.specs.Calls.{Ask, Answer}
use Rattle.cip_plugin.specs.Telling.{Heard}
use Rattle.cip_plugin.specs.declared.keys.Key.{Key}
use Rattle.cip_plugin.specs.Seats.{Seat, State, is_live}
use Rattle.cip_plugin.specs.Lives.{LivesAreTold, callbacks, word_of, words_of}
use Rattle.cip_plugin.specs.Steps.{Step, Runs, calls_of, asks_in}
use Rattle.cip_plugin.specs.Calling.{keys_from, all_turns, ids_of}
use Rattle.cip_plugin.specs.Ranks.{rank_order}

-- runs are runs together; where lines are kept, the words of each plugin stay those of a life
pub record LivesStayTold : Type 0 where
  pub together : (xs ys : List Step) (a b c : State) → Runs a xs b → Runs b ys c → Runs a (xs ++ ys) c
  pub lives : (steps : List Step) (a b : State) → Runs a steps b → a.kept ≡ true → LivesAreTold a → LivesAreTold b

-- where lines are kept, the words of calls that a run writes of a plugin are those of its calls
pub record TracesTell : Type 0 where
  pub told : (steps : List Step) (a b : State) (id : ℕ) → Runs a steps b → a.kept ≡ true
      → callbacks (words_of id b.lines) ≡ callbacks (words_of id a.lines) ++ map (λ call. word_of call) (calls_of id
      steps)

-- a plugin that has a seat keeps it over a run, adds exactly its calls to what it tells, and where it was closed before
-- it had none
pub record RunsAreTold : Type 0 where
  pub stays : (steps : List Step) (a b : State) (id : ℕ) (s : Seat) → Runs a steps b → slice_get a.seats id ≡ Some s
      → (t : Seat) × (slice_get b.seats id ≡ Some t)
  pub told : (steps : List Step) (a b : State) (id : ℕ) (s t : Seat) → Runs a steps b
      → slice_get a.seats id ≡ Some s → slice_get b.seats id ≡ Some t
      → Heard s.who.told (calls_of id steps) t.who.told
  pub closed : (steps : List Step) (a b : State) (id : ℕ) (s : Seat) → Runs a steps b
      → slice_get a.seats id ≡ Some s → is_live s ≡ false → calls_of id steps ≡ []

-- a call of the plugins that a test takes asks each of them once, and nobody else
pub record EachIsAskedOnce : Type 0 where
  pub once : (test : Seat → Bool) (seats : List Seat) (keys : List Key) (ask : Ask) (heard : List (ℕ × Answer))
      (id : ℕ) (s : Seat) → IsPermutation (keys_from test 0 seats) keys → ids_of keys ≡ map (λ h. h.0) heard
      → slice_get seats id ≡ Some s
      → asks_in (calls_of id (all_turns ask heard)) ≡ (if test s then ask ∷ [] else [])

-- keys are ordered by rank
pub record KeysAreRanked (order : Key → Key → Ordering) : Type 0 where
  pub same : (a b : Key) → order a b ≡ rank_order a b
