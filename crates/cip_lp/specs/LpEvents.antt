-- What is taken of one thing more that is said.
use Rattle.std.specs.Prelude.{◌≡◌, ℕ, ◌<◌, ◌≤◌, Option, None, IfSome}
use Rattle.cip_text_rules.specs.LpPlaces.{Event}
use Rattle.cip_text_rules.specs.LpFacts.{LpFacts, event_fault, facts_with}

-- the kind of a fault, where there is one, is from 1 to 11
abbrev pub IsLpKind : Option ℕ → Type 0
IsLpKind kind = IfSome kind (λ k. (0 < k) × (k ≤ 11))

-- what is said has the least kind of its rules; without fault it is taken
pub record IsTaken (old new : LpFacts) (event : Event) (kind : Option ℕ) : Type 0 where
  pub is_kind : kind ≡ event_fault old event
  pub taken : kind ≡ None → new ≡ facts_with old event
  pub few : IsLpKind kind
