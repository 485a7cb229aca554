-- How a roster begins.
use Rattle.std.specs.Prelude.{◌≡◌, ℕ, ◌+◌, List, [], ◌∷◌, ◌++◌, map, Some, Bool}
use Rattle.cip_events.specs.Names.{shown_name}
use Rattle.cip_plugin.specs.Who.{Who}
use Rattle.cip_plugin.specs.declared.stages.Stage.TheVariants.{Fresh, Playing}
use Rattle.cip_plugin.specs.Seats.{Seat, State}
use Rattle.cip_plugin.specs.Steps.{Step, IsSeated, Runs}
use Rattle.cip_plugin.specs.Wishing.{begins}

-- plugins as they come to their seats
abbrev pub AreSeated : List Who → List Seat → Type 0
AreSeated [] [] = Unit {0}
AreSeated (who ∷ whos) (seat ∷ seats) = IsSeated who seat × AreSeated whos seats
AreSeated whos seats = ⊥

-- the first two calls of each of them, in order of number; each flag says whether memory was there
abbrev pub all_begin : ℕ → List (Bool × Bool) → List Step
all_begin id [] = []
all_begin id (answered ∷ others) = begins id answered.0 answered.1 ++ all_begin (id + 1) others

-- the plugins of the start have seats in their order, their names are kept, and they had their two first calls; those
-- of the shelf stand there
pub record IsBegun (start shelf : List Who) (keeps : Bool) (state : State) : Type 0 where
  pub fresh : State
  pub seats : AreSeated start fresh.seats
  pub places : fresh.places ≡ map (λ who. Some who) shelf
  pub names : fresh.names ≡ map (λ who. shown_name who.label) start
  pub lines : fresh.lines ≡ []
  pub kept : fresh.kept ≡ keeps
  pub answered : List (Bool × Bool)
  pub run : Runs fresh (all_begin 0 answered) state

-- a plugin that wasn't called yet
abbrev pub IsFresh : Seat → Type 0
IsFresh seat = seat.standing.stage ≡ Fresh

-- one that may be asked
abbrev pub IsPlaying : Seat → Type 0
IsPlaying seat = seat.standing.stage ≡ Playing
