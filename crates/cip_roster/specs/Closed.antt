-- How a roster ends.
use Rattle.std.specs.Prelude.{◌≡◌, ℕ, ◌+◌, List, [], ◌∷◌, ◌++◌, Option, None, Some, false, All, if◌then◌else◌}
use Rattle.cip_plugin.specs.Who.{Who}
use Rattle.cip_plugin.specs.Seats.{Seat, State, is_live}
use Rattle.cip_plugin.specs.Steps.{Step, Runs}
use Rattle.cip_plugin.specs.Wishing.{ends}

-- a plugin that is done with: its number, if it had one, and what it means
pub record Back : Type 0 where
  pub id : Option ℕ
  pub who : Who

-- a plugin of a kit that is done with, by its number and what it means
abbrev pub back : Option ℕ → Who → Back
back id who = record { id = id; who = who }

-- those that had seats, by number
abbrev pub backs : ℕ → List Seat → List Back
backs id [] = []
backs id (seat ∷ seats) = record { id = Some id; who = seat.who } ∷ backs (id + 1) seats

-- those of the shelf
abbrev pub shelf_backs : List (Option Who) → List Back
shelf_backs [] = []
shelf_backs (None ∷ places) = shelf_backs places
shelf_backs (Some who ∷ places) = record { id = None; who = who } ∷ shelf_backs places

-- the two last calls of each live plugin, by number
abbrev pub all_end : ℕ → List Seat → List Step
all_end id [] = []
all_end id (seat ∷ seats) = (if is_live seat then ends id else []) ++ all_end (id + 1) seats

-- each live plugin had its two last calls, so that each was closed; all went back, those that had seats with their
-- numbers in order, and then those of the shelf; nothing is left but names and lines
pub record IsClosed (before after : State) (had has : List Back) : Type 0 where
  pub end : State
  pub run : Runs before (all_end 0 before.seats) end
  pub gone : All (λ seat. is_live seat ≡ false) end.seats
  pub spent : has ≡ had ++ (backs 0 end.seats ++ shelf_backs before.places)
  pub seats : after.seats ≡ []
  pub places : after.places ≡ []
  pub names : after.names ≡ end.names
  pub lines : after.lines ≡ end.lines
  pub kept : after.kept ≡ end.kept
