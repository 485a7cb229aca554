-- Who is called, and what a call of plugins, one after the other, makes of the seats.
use Rattle.std.specs.Prelude.{◌≡◌, ℕ, ◌+◌, List, [], ◌∷◌, ◌++◌, map, Bool, true, false, ◌&&◌, ◌==◌, if◌then◌else◌}
use Rattle.cip_events.specs.declared.words.Word.TheVariants as say
use Rattle.cip_plugin.specs.declared.kinds.Kind.{Kind}
use Rattle.cip_plugin.specs.declared.kinds.Kind.TheVariants as kinds
use Rattle.cip_plugin.specs.Calls.{Ask, Answer, NoAnswer, Asked}
use Rattle.cip_plugin.specs.Asking.{first_part, count_past}
use Rattle.cip_plugin.specs.declared.keys.Key.{Key}
use Rattle.cip_plugin.specs.Seats.{Seat, State, is_on}
use Rattle.cip_plugin.specs.Steps.{Step, Calls, Notes, Runs}

-- two kinds are one
abbrev pub same_kind : Kind → Kind → Bool
same_kind kinds.Separator kinds.Separator = true
same_kind kinds.Propagator kinds.Propagator = true
same_kind kinds.Pricer kinds.Pricer = true
same_kind kinds.Heuristic kinds.Heuristic = true
same_kind kinds.BranchRule kinds.BranchRule = true
same_kind kinds.ConsHandler kinds.ConsHandler = true
same_kind kinds.EventHandler kinds.EventHandler = true
same_kind kind other = false

-- a live and enabled plugin of a kind
abbrev pub is_ready : Kind → Seat → Bool
is_ready kind seat = is_on seat && same_kind kind seat.who.kind

-- the plugins that a test takes, by number
abbrev pub keys_from : (Seat → Bool) → ℕ → List Seat → List Key
keys_from test id [] = []
keys_from test id (seat ∷ seats) =
    if test seat then record { rank = record { 0 = seat.priority }; id = id } ∷ keys_from test (id + 1) seats
    else keys_from test (id + 1) seats

-- the numbers of some keys
abbrev pub ids_of : List Key → List ℕ
ids_of keys = map (λ key. key.id) keys

-- how many proposals were dropped is noted, if any were
abbrev pub dropped : ℕ → ℕ → List Step
dropped id count = if count == 0 then [] else Notes id (say.Dropped count) ∷ []

-- what is noted of an answer
abbrev pub noted : ℕ → Answer → List Step
noted id NoAnswer = Notes id say.NoMemory ∷ []
noted id given = dropped id (count_past given)

-- a plugin's turn: it is asked, and what is to be noted of its answer is noted
abbrev pub turn_of : ℕ → Ask → Answer → List Step
turn_of id ask answer = Calls id (Asked ask answer) ∷ noted id answer

-- one turn after the other, each a number and an answer
abbrev pub all_turns : Ask → List (ℕ × Answer) → List Step
all_turns ask [] = []
all_turns ask (heard ∷ others) = turn_of heard.0 ask heard.1 ++ all_turns ask others

-- memory was there
abbrev pub is_answer : Answer → Bool
is_answer NoAnswer = false
is_answer given = true

-- the first 64 proposals of each plugin that answered, by its number
abbrev pub given_of : List (ℕ × Answer) → List (ℕ × Answer)
given_of [] = []
given_of (heard ∷ others) =
    if is_answer heard.1 then (heard.0, first_part heard.1) ∷ given_of others else given_of others

-- these plugins were asked, each once and in this order, and nobody else was; what they gave is this
pub record Called (order : List ℕ) (ask : Ask) (before after : State) (gave : List (ℕ × Answer)) : Type 0 where
  pub heard : List (ℕ × Answer)
  pub run : Runs before (all_turns ask heard) after
  pub ids : map (λ h. h.0) heard ≡ order
  pub given : gave ≡ given_of heard
