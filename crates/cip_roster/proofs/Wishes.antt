-- What grants a wish, and what is wrong with one.
use Rattle.std.proofs.Common.{◌≡◌, ℕ, ◌≤◌, [], ◌∷◌, length, Option, None, Some, Bool, true, false, cond, sym, ◌∙◌, ap, refl, arith}
use Rattle.std.specs.Prelude.{slice_get}
use mathlib.Core.Bool.{beq}
use Rattle.cip_plugin.specs.Who.{Who}
use Rattle.cip_plugin.specs.declared.proposals.Wish.TheVariants.{Include, Disable, Enable, Free}
use Rattle.cip_plugin.specs.declared.faults.WishFault.TheVariants as faults
use Rattle.cip_plugin.specs.declared.stages.Stage.TheVariants.{Fresh, Begun, Playing, Left, Gone}
use Rattle.cip_plugin.specs.declared.stages.Stage.{Stage}
use Rattle.cip_plugin.specs.Seats.{Seat, State, is_live, is_playing, is_settled}
use Rattle.cip_plugin.specs.Steps.{Turns, Takes, Runs}
use Rattle.cip_plugin.specs.Wishing.{Granted, begins, ends, fault_of, is_enabled, place_fault, seat_fault}
use Rattle.cip_plugin.proofs.Counting.{count_set}
use Rattle.cip_plugin.proofs.Running.{Runs-append}
use Rattle.cip_roster.specs.KeptRankings.{Room}
use Rattle.cip_roster.specs.Turns.{IsLiveAt, IsSound, StandsAt}
use Rattle.cip_roster.proofs.Keeping.{at_place}
use Rattle.cip_roster.proofs.Throughout.{settled_plays}

-- nothing is wrong with a live plugin's number
pub fine_live : (state : State) (id : ℕ) → IsLiveAt state id → seat_fault (slice_get state.seats id) ≡ None
fine_live state id live =
    ap seat_fault live.at ∙ ap (λ (b : Bool). cond b None (Some faults.Gone)) live.lives

-- a stage that is one in which a plugin may be asked
plays_at : (stage : Stage) → is_playing stage ≡ true → stage ≡ Playing
plays_at Fresh is = cc
plays_at Begun is = cc
plays_at Playing is = refl
plays_at Left is = cc
plays_at Gone is = cc

-- a live plugin of a sound state plays
pub live_plays : (state : State) (id : ℕ) (room : Room) → IsSound state room → IsLiveAt state id
    → StandsAt Playing state id
live_plays state id room sound live = record {
  seat = live.seat;
  at = live.at;
  stands = plays_at live.seat.standing.stage
      (settled_plays (is_playing live.seat.standing.stage) (is_live live.seat)
      (at_place (λ seat. is_settled seat ≡ true) state.seats id live.seat live.at sound.settled) live.lives);
}

-- a plugin was disabled
pub disabled_once : (a b : State) (id : ℕ) → is_enabled (slice_get a.seats id) ≡ true
    → Runs a (Turns id false ∷ []) b → Granted (Disable id) a b
disabled_once a b id on run = record {
  steps = Turns id false ∷ [];
  run = run;
  grants = sym (ap (λ (b : Bool). cond b (Turns id false ∷ []) []) on);
}

-- one that is disabled already
pub disabled_none : (a : State) (id : ℕ) → is_enabled (slice_get a.seats id) ≡ false → Granted (Disable id) a a
disabled_none a id off = record {
  steps = [];
  run = refl;
  grants = sym (ap (λ (b : Bool). cond b (Turns id false ∷ []) []) off);
}

-- a plugin was enabled
pub enabled_once : (a b : State) (id : ℕ) → is_enabled (slice_get a.seats id) ≡ false
    → Runs a (Turns id true ∷ []) b → Granted (Enable id) a b
enabled_once a b id off run = record {
  steps = Turns id true ∷ [];
  run = run;
  grants = sym (ap (λ (b : Bool). cond b [] (Turns id true ∷ [])) off);
}

-- one that is enabled already
pub enabled_none : (a : State) (id : ℕ) → is_enabled (slice_get a.seats id) ≡ true → Granted (Enable id) a a
enabled_none a id on = record {
  steps = [];
  run = refl;
  grants = sym (ap (λ (b : Bool). cond b [] (Turns id true ∷ [])) on);
}

-- a plugin was enabled or disabled
pub switched_once : (a b : State) (id : ℕ) (on : Bool) → is_enabled (slice_get a.seats id) ≡ cond on false true
    → Runs a (Turns id on ∷ []) b → Granted (cond on (Enable id) (Disable id)) a b
switched_once a b id true is run = enabled_once a b id is run
switched_once a b id false is run = disabled_once a b id is run

-- it is so already
pub switched_none : (a : State) (id : ℕ) (on : Bool) → is_enabled (slice_get a.seats id) ≡ on
    → Granted (cond on (Enable id) (Disable id)) a a
switched_none a id true is = enabled_none a id is
switched_none a id false is = disabled_none a id is

-- what is wrong with either wish is what is wrong with the plugin's number
pub fault_switched : (state : State) (id : ℕ) (on : Bool)
    → fault_of state (cond on (Enable id) (Disable id)) ≡ seat_fault (slice_get state.seats id)
fault_switched state id true = refl
fault_switched state id false = refl

-- two that are the same
pub same_way : (was on : Bool) → beq was on ≡ true → was ≡ on
same_way true true same = refl
same_way true false same = cc
same_way false true same = cc
same_way false false same = refl

-- two that differ
pub other_way : (was on : Bool) → beq was on ≡ false → was ≡ cond on false true
other_way true true differ = cc
other_way true false differ = refl
other_way false true differ = refl
other_way false false differ = cc

-- a plugin was freed
pub freed_once : (a b : State) (id : ℕ) → Runs a (ends id) b → Granted (Free id) a b
freed_once a b id run = record { steps = ends id; run = run; grants = refl }

-- a plugin was included
pub included_once : (a b c : State) (place : ℕ) (first second : Bool) → Runs a (Takes place ∷ []) b
    → Runs b (begins (length a.seats) first second) c → Granted (Include place) a c
included_once a b c place first second came run = record {
  steps = Takes place ∷ begins (length a.seats) first second;
  run = Runs-append (Takes place ∷ []) (begins (length a.seats) first second) a b c came run;
  grants = (first, second, refl);
}

-- what a place holds with which nothing is wrong
pub held_by : (o : Option (Option Who)) → place_fault o ≡ None → (who : Who) × (o ≡ Some (Some who))
held_by None fine = cc
held_by (Some None) fine = cc
held_by (Some (Some who)) fine = (who, refl)

-- a live plugin has room for its last lines
pub live_room : (state : State) (id : ℕ) (room : Room) → IsSound state room → IsLiveAt state id → 2 ≤ room.lines
live_room state id room sound live =
    let gone : Seat = record live.seat { standing = record { stage = Gone; on = true } } in
    let fewer = count_set is_live state.seats id live.seat gone live.at in
    let one : cond {A = ℕ} (is_live live.seat) 1 0 ≡ 1 = ap (λ (b : Bool). cond b 1 0) live.lives in
    let lasts = sound.lasts in
    omega arith

-- whether the plugin of a number is live
abbrev pub lives_there : Option Seat → Bool
lives_there None = false
lives_there (Some seat) = is_live seat

-- a plugin that is live where it is looked up
there_by : (state : State) (id : ℕ) (o : Option Seat) → slice_get state.seats id ≡ o → true ≡ lives_there o
    → IsLiveAt state id
there_by state id None at is = cc
there_by state id (Some s) at is = record { seat = s; at = at; lives = sym is }

pub live_there : (state : State) (id : ℕ) → true ≡ lives_there (slice_get state.seats id) → IsLiveAt state id
live_there state id is = there_by state id (slice_get state.seats id) refl is
