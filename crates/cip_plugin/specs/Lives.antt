-- The words of calls, and the lives that they may make up.
use Rattle.std.specs.Prelude.{◌≡◌, ℕ, ◌≤◌, List, [], ◌∷◌, length, Option, None, Some, Bool, true, false, not, ◌&&◌, ◌==◌, if◌then◌else◌, slice_get}
use Rattle.cip_events.specs.declared.words.Word.{Word}
use Rattle.cip_events.specs.declared.words.Word.TheVariants as say
use Rattle.cip_events.specs.declared.traces.TraceLine.{TraceLine}
use Rattle.cip_plugin.specs.declared.kinds.Kind.{Kind}
use Rattle.cip_plugin.specs.declared.kinds.Kind.TheVariants as kinds
use Rattle.cip_plugin.specs.Calls.{Ask, Separate, Propagate, Price, Search, Branch, Enforce, OnEvent, Call, Init, InitSolve, Asked, ExitSolve, Exit}
use Rattle.cip_plugin.specs.declared.stages.Stage.{Stage}
use Rattle.cip_plugin.specs.declared.stages.Stage.TheVariants.{Fresh, Begun, Playing, Left, Gone}
use Rattle.cip_plugin.specs.Seats.{Standing, Seat, State, is_playing}

-- the word of what is asked
abbrev pub word_of_ask : Ask → Word
word_of_ask Separate = say.Separate
word_of_ask Propagate = say.Propagate
word_of_ask (Price block costs) = say.Price
word_of_ask Search = say.Search
word_of_ask Branch = say.Branch
word_of_ask Enforce = say.Enforce
word_of_ask (OnEvent event) = say.OnEvent

-- the word of a call
abbrev pub word_of : Call → Word
word_of (Init answered) = say.Init
word_of (InitSolve answered) = say.InitSolve
word_of (Asked ask given) = word_of_ask ask
word_of ExitSolve = say.ExitSolve
word_of Exit = say.Exit

-- the words of the calls of each kind
abbrev pub plays : Kind → Word → Bool
plays kinds.Separator say.Separate = true
plays kinds.Propagator say.Propagate = true
plays kinds.Pricer say.Price = true
plays kinds.Heuristic say.Search = true
plays kinds.BranchRule say.Branch = true
plays kinds.ConsHandler say.Enforce = true
plays kinds.ConsHandler say.Separate = true
plays kinds.ConsHandler say.Propagate = true
plays kinds.EventHandler say.OnEvent = true
plays kind word = false

-- two stages are one
abbrev pub same_stage : Stage → Stage → Bool
same_stage Fresh Fresh = true
same_stage Begun Begun = true
same_stage Playing Playing = true
same_stage Left Left = true
same_stage Gone Gone = true
same_stage stage other = false

-- a change of the stage from one to another
abbrev pub turned_from : Stage → Standing → Stage → Option Standing
turned_from from now to = if same_stage from now.stage then Some (record { stage = to; on = now.on }) else None

-- one that is on is switched off, or one that is off is switched on
abbrev pub switched : Bool → Standing → Option Standing
switched true now = if is_playing now.stage && now.on then Some (record now { on = false }) else None
switched false now = if is_playing now.stage && not now.on then Some (record now { on = true }) else None

-- one that is asked for something that its kind is asked for
abbrev pub asked_at : Bool → Standing → Option Standing
asked_at fits now = if fits && (is_playing now.stage && now.on) then Some now else None

-- how a plugin stands behind a word, where the word may stand there: set up, then the search begins, then the calls of
-- its kind while it is enabled, then the search ends, then it is closed; notes change nothing
abbrev pub turn : Kind → Standing → Word → Option Standing
turn kind now say.Init = turned_from Fresh now Begun
turn kind now say.InitSolve = turned_from Begun now Playing
turn kind now say.ExitSolve = turned_from Playing now Left
turn kind now say.Exit = turned_from Left now Gone
turn kind now say.Disabled = switched true now
turn kind now say.Enabled = switched false now
turn kind now say.NoMemory = Some now
turn kind now (say.Dropped count) = Some now
turn kind now (say.Refused fault) = Some now
turn kind now word = asked_at (plays kind word) now

-- how a plugin stands behind its words
abbrev pub life : Kind → Option Standing → List Word → Option Standing
life kind now [] = now
life kind None (word ∷ words) = None
life kind (Some now) (word ∷ words) = life kind (turn kind now word) words

-- a life that begins
abbrev pub newborn : Standing
newborn = record { stage = Fresh; on = true }

-- the words written of a plugin
abbrev pub words_of : ℕ → List TraceLine → List Word
words_of id [] = []
words_of id (line ∷ lines) = if line.id == id then line.word ∷ words_of id lines else words_of id lines

-- the words of each plugin that has a seat lead to how it stands, and no other plugin has words
pub record LivesAreTold (state : State) : Type 0 where
  pub each : (id : ℕ) (seat : Seat) → slice_get state.seats id ≡ Some seat
      → life seat.who.kind (Some newborn) (words_of id state.lines) ≡ Some seat.standing
  pub others : (id : ℕ) → length state.seats ≤ id → words_of id state.lines ≡ []

-- the word of a call, and no note, nor that of being disabled or enabled
abbrev pub is_callback : Word → Bool
is_callback say.Disabled = false
is_callback say.Enabled = false
is_callback say.NoMemory = false
is_callback (say.Dropped count) = false
is_callback (say.Refused fault) = false
is_callback word = true

-- the words of calls among some
abbrev pub callbacks : List Word → List Word
callbacks [] = []
callbacks (word ∷ words) = if is_callback word then word ∷ callbacks words else callbacks words
