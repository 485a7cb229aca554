-- How a line begins.
use Rattle.std.specs.Prelude.{ℕ, Bool, false, List, [], ◌∷◌}
use Rattle.cip_text_rules.specs.Lines.{is_blank}

-- the first byte is a blank
abbrev pub begins_blank : List ℕ → Bool
begins_blank [] = false
begins_blank (byte ∷ bytes) = is_blank byte
