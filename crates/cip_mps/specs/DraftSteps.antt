-- What reading a line does to a draft.
--     IsStep old new saying fault      the fault of a line, and the state behind it
--     PlacesJoin      how a draft and the place of the next line make up the state of a reader
use Rattle.std.specs.Prelude.{◌≡◌, ℕ, Option, None, Some}
use Rattle.cip_text_rules.specs.MpsSayings.{LinePlace, Saying, no_place, place_after}
use Rattle.cip_text_rules.specs.MpsRules.{least}
use Rattle.cip_text_rules.specs.MpsState.{State}
use Rattle.cip_text_rules.specs.MpsSteps.{tests, taken}
use Rattle.cip_mps.specs.DraftStates.{at_place}

-- what is kept behind a line: nothing else where it has a fault
abbrev pub kept_after : Option ℕ → State → Saying → State
kept_after None old now = at_place no_place (taken old now)
kept_after (Some kind) old now = old

-- the least kind of fault of a line, and what is kept behind it
pub record IsStep (old new : State) (now : Saying) (fault : Option ℕ) : Type 0 where
  pub is_fault : fault ≡ least (tests old now)
  pub is_kept : new ≡ kept_after fault old now

-- no test looks at the place, and the state behind a line is what is kept behind it, at the place behind it
pub record PlacesJoin : Type 0 where
  pub same_tests : (place : LinePlace) (state : State) (now : Saying)
      → least (tests (at_place place state) now) ≡ least (tests state now)
  pub same_state : (place : LinePlace) (state : State) (now : Saying)
      → at_place (place_after place now) (taken state now) ≡ taken (at_place place state) now
