-- The sets of RHS, RANGES and BOUNDS.
use Rattle.std.specs.Prelude.{ℕ, Bool, false, not, List, Option, None, Some}
use Rattle.std.specs.Str.{bytes_eq}

-- a line of this set is skipped: another was met first
abbrev pub skips : Option (List ℕ) → List ℕ → Bool
skips None set_name = false
skips (Some first) set_name = not (bytes_eq first set_name)
