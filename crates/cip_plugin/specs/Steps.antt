-- What is done to the seats, one step at a time.
use Rattle.std.specs.Prelude.{◌≡◌, ℕ, ◌+◌, ◌-◌, ◌^◌, ◌==◌, List, [], ◌∷◌, ◌++◌, None, Some, Bool, true, false, ℤ, if◌then◌else◌, slice_get, slice_set, min, max}
use Rattle.cip_events.specs.declared.words.Word.{Word}
use Rattle.cip_events.specs.declared.words.Word.TheVariants as say
use Rattle.cip_events.specs.declared.traces.TraceLine.{TraceLine}
use Rattle.cip_events.specs.Names.{shown_name}
use Rattle.cip_plugin.specs.Calls.{Ask, Call, Asked}
use Rattle.cip_plugin.specs.Telling.{Heard}
use Rattle.cip_plugin.specs.Who.{Who}
use Rattle.cip_plugin.specs.Seats.{Seat, State}
use Rattle.cip_plugin.specs.Lives.{turn, word_of, newborn}

-- a step: a callback of a plugin, a note about it, its being disabled or enabled, its new priority, or a plugin's
-- coming from a place of the shelf to the next seat
pub data Step : Type 0 where
  Calls : (id : ℕ) (call : Call) → Step
  Notes : (id : ℕ) (word : Word) → Step
  Turns : (id : ℕ) (on : Bool) → Step
  Ranks : (id : ℕ) (priority : ℤ) → Step
  Takes : (place : ℕ) → Step

-- a note, which no life counts
abbrev pub is_note : Word → Bool
is_note say.NoMemory = true
is_note (say.Dropped count) = true
is_note (say.Refused fault) = true
is_note word = false

-- the word of being enabled or disabled
abbrev pub switch_word : Bool → Word
switch_word true = say.Enabled
switch_word false = say.Disabled

-- a line of one plugin
abbrev pub line : ℕ → Word → TraceLine
line id word = record { id = id; word = word }

-- the lines of a step
abbrev pub lines_of : Step → List TraceLine
lines_of (Calls id call) = line id (word_of call) ∷ []
lines_of (Notes id word) = line id word ∷ []
lines_of (Turns id on) = line id (switch_word on) ∷ []
lines_of (Ranks id priority) = []
lines_of (Takes place) = []

-- a plugin was called: the call may stand there in its life, it tells it, and nothing else of its seat changes
pub record IsCalled (call : Call) (before after : Seat) : Type 0 where
  pub turn : turn before.who.kind before.standing (word_of call) ≡ Some after.standing
  pub heard : Heard before.who.told (call ∷ []) after.who.told
  pub kind : after.who.kind ≡ before.who.kind
  pub same : after ≡ record before { who = after.who; standing = after.standing }

-- one time more, as far as the count goes
abbrev pub once_more : ℕ → ℕ
once_more count = max count (min (count + 1) (2 ^ 64 - 1))

-- a plugin was disabled while it was enabled, which is counted, or enabled
pub record IsTurned (on : Bool) (before after : Seat) : Type 0 where
  pub turn : turn before.who.kind before.standing (switch_word on) ≡ Some after.standing
  pub same : after ≡ record before {
    standing = after.standing;
    offs = if on then before.offs else once_more before.offs;
  }

-- what stands at one seat was changed so, and at no other
pub record Sat (id : ℕ) (How : Seat → Seat → Type 0) (before after : List Seat) : Type 0 where
  pub old : Seat
  pub new : Seat
  pub was : slice_get before id ≡ Some old
  pub is : after ≡ slice_set before id new
  pub how : How old new

-- a plugin as it comes to a seat
pub record IsSeated (who : Who) (seat : Seat) : Type 0 where
  pub holds : seat.who ≡ who
  pub standing : seat.standing ≡ newborn
  pub offs : seat.offs ≡ 0

-- a plugin came from a place of the shelf to the next seat, and its name was kept
pub record Taken (place : ℕ) (before after : State) : Type 0 where
  pub who : Who
  pub seat : Seat
  pub was : slice_get before.places place ≡ Some (Some who)
  pub place_now : after.places ≡ slice_set before.places place None
  pub seated : IsSeated who seat
  pub seats : after.seats ≡ before.seats ++ seat ∷ []
  pub names : after.names ≡ before.names ++ shown_name who.label ∷ []

-- the seats, the shelf and the names behind a step
abbrev pub Moves : Step → State → State → Type 0
Moves (Calls id call) before after =
    Sat id (IsCalled call) before.seats after.seats × (after.places ≡ before.places) × (after.names ≡ before.names)
Moves (Notes id word) before after =
    Sat id (λ s t. (t ≡ s) × (is_note word ≡ true)) before.seats after.seats × (after.places ≡ before.places)
    × (after.names ≡ before.names)
Moves (Turns id on) before after =
    Sat id (IsTurned on) before.seats after.seats × (after.places ≡ before.places) × (after.names ≡ before.names)
Moves (Ranks id priority) before after =
    Sat id (λ s t. t ≡ record s { priority = priority }) before.seats after.seats × (after.places ≡ before.places)
    × (after.names ≡ before.names)
Moves (Takes place) before after = Taken place before after

-- one step: what it moves, and its lines, where lines are kept
pub record Steps (step : Step) (before after : State) : Type 0 where
  pub moves : Moves step before after
  pub kept : after.kept ≡ before.kept
  pub lines : after.lines ≡ (if before.kept then before.lines ++ lines_of step else before.lines)

-- these steps, one after the other
abbrev pub Runs : State → List Step → State → Type 0
Runs before [] after = after ≡ before
Runs before (step ∷ steps) after = (between : State) × Steps step before between × Runs between steps after

-- the callbacks of a plugin among some steps
abbrev pub calls_of : ℕ → List Step → List Call
calls_of id [] = []
calls_of id (Calls k call ∷ steps) = if k == id then call ∷ calls_of id steps else calls_of id steps
calls_of id (step ∷ steps) = calls_of id steps

-- what a plugin was asked among some calls
abbrev pub asks_in : List Call → List Ask
asks_in [] = []
asks_in (Asked ask given ∷ calls) = ask ∷ asks_in calls
asks_in (call ∷ calls) = asks_in calls
