-- What a store tells of itself, and what pulling does to it and to the buffer.
use Rattle.std.specs.Prelude.{◌≡◌, ◌↔◌, ◌≤◌, ℕ, List, [], length, take, drop, Option, None, Some, option_map, IfSome}

-- a store as it tells itself at a moment: the texts of its names, what is left of the current one, how many faults
pub record StoreTells : Type 0 where
  pub holds : List ℕ → Option (List ℕ)
  pub left : Option (List ℕ)
  pub faults : ℕ

-- a store that tells how many faults there were, and nothing of its texts
abbrev pub counting_store : ℕ → StoreTells
counting_store faults = record { holds = λ _. None; left = None; faults = faults }

-- the first n bytes of a text came to the front of a buffer, whose rest stayed; none came only at the text's end
pub record Comes (text before after : List ℕ) (n : ℕ) : Type 0 where
  pub there : n ≤ length text
  pub bytes : take n after ≡ take n text
  pub rest : drop n after ≡ drop n before
  pub end : (n ≡ 0) ↔ (text ≡ [])

-- what was left lost n bytes; where they are told, they came to the buffer
pub record Pulls (old new : StoreTells) (before after : List ℕ) (n : ℕ) : Type 0 where
  pub within : n ≤ length before
  pub left : new.left ≡ option_map (drop n) old.left
  pub comes : IfSome old.left (λ text. Comes text before after n)

-- what an open file has left, where its reader tells it; with no file there is nothing
abbrev pub left_in : {F : Type 0} → (F → Option (List ℕ)) → Option F → Option (List ℕ)
left_in remaining None = Some []
left_in remaining (Some file) = remaining file
