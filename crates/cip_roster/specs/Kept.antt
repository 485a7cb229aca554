-- What a roster keeps, as laws.
use Rattle.std.specs.Prelude.{◌≡◌, ℕ, ◌+◌, List, [], Option, Some, IsSome, All, true, length, slice_get}
use Rattle.cip_plugin.specs.Calls.{Ask}
use Rattle.cip_plugin.specs.Who.{Who}
use Rattle.cip_plugin.specs.declared.asking.Given.{Given}
use Rattle.cip_plugin.specs.declared.kinds.Kind.{Kind}
use Rattle.cip_plugin.specs.Lives.{LivesAreTold}
use Rattle.cip_plugin.specs.Seats.{State, held_count}
use Rattle.cip_plugin.specs.Steps.{Step, Runs}
use Rattle.cip_roster.specs.Begun.{IsBegun}
use Rattle.cip_roster.specs.Nexts.{CalledNext}
use Rattle.cip_roster.specs.Turns.{CalledBoth, CalledKind}

-- a run keeps the number of plugins that have seats or stand on the shelf
pub record PluginsAreKept : Type 0 where
  pub count : (steps : List Step) (a b : State) → Runs a steps b
      → length b.seats + held_count b.places ≡ length a.seats + held_count a.places

-- where lines are kept, the words of each plugin are those of a life as a roster begins
pub record LivesBeginTold : Type 0 where
  pub lives : (start shelf : List Who) (state : State) → IsBegun start shelf true state → LivesAreTold state

-- who gave something has a seat, and keeps it over any run
pub record GiversAreSeated : Type 0 where
  pub kind : (kind : Kind) (ask : Ask) (a b : State) (has : List (ℕ × Given)) → CalledKind kind ask a b [] has
      → All (λ entry. IsSome (slice_get b.seats entry.0)) has
  pub both : (kind : Kind) (ask : Ask) (a b : State) (has : List (ℕ × Given)) → CalledBoth kind ask a b has
      → All (λ entry. IsSome (slice_get b.seats entry.0)) has
  pub next : (kind : Kind) (ask : Ask) (named : Option ℕ) (a b : State) (id : ℕ) (given : Option Given)
      → CalledNext kind ask named a b (Some (id, given)) → IsSome (slice_get b.seats id)
  pub stays : (steps : List Step) (a b : State) (id : ℕ) → Runs a steps b → IsSome (slice_get a.seats id)
      → IsSome (slice_get b.seats id)
