-- What stands on a shelf.
use Rattle.std.specs.Prelude.{Option, None, Some}

-- what a place holds means, if it holds anything
abbrev pub shown : {A B : Type 0} → (A → B) → Option A → Option B
shown means None = None
shown means (Some held) = Some (means held)
