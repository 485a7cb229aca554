-- The seats of plugins, and the shelf.
use Rattle.std.specs.Prelude.{ℕ, List, Option, Bool, true, false, not, ◌&&◌, ◌||◌, ℤ, count_by, is_some}
use Rattle.cip_events.specs.declared.masks.EventMask.{EventMask}
use Rattle.cip_events.specs.declared.traces.TraceLine.{TraceLine}
use Rattle.cip_plugin.specs.Who.{Who}
use Rattle.cip_plugin.specs.declared.stages.Stage.{Stage}
use Rattle.cip_plugin.specs.declared.stages.Stage.TheVariants.{Playing, Gone}

-- how far a plugin's life has come, and whether it is enabled
pub record Standing : Type 0 where
  pub stage : Stage
  pub on : Bool

-- a plugin that was included: what it means, its priority and interest as it told them then, how it stands, and how
-- often it was disabled while it was enabled
pub record Seat : Type 0 where
  pub who : Who
  pub priority : ℤ
  pub interest : EventMask
  pub standing : Standing
  pub offs : ℕ

-- the seats by number, the shelf, from which what was included is gone, the names of those that were included, as a
-- trace shows them, the lines written so far, and whether lines are kept
pub record State : Type 0 where
  pub seats : List Seat
  pub places : List (Option Who)
  pub names : List (List ℕ)
  pub lines : List TraceLine
  pub kept : Bool

-- the stage in which a plugin is asked
abbrev pub is_playing : Stage → Bool
is_playing Playing = true
is_playing stage = false

-- every stage but the last
abbrev pub is_alive : Stage → Bool
is_alive Gone = false
is_alive stage = true

-- whether a plugin is asked now
abbrev pub is_on : Seat → Bool
is_on seat = is_playing seat.standing.stage && seat.standing.on

-- whether it wasn't closed yet
abbrev pub is_live : Seat → Bool
is_live seat = is_alive seat.standing.stage

-- whether it is at a stage in which calls leave it: it may be asked, or it was closed
abbrev pub is_settled : Seat → Bool
is_settled seat = is_playing seat.standing.stage || not (is_live seat)

-- how many plugins are live
abbrev pub live_count : List Seat → ℕ
live_count seats = count_by is_live seats

-- how many places of the shelf hold a plugin
abbrev pub held_count : List (Option Who) → ℕ
held_count places = count_by is_some places
