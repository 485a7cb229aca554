-- Lists of numbers, as the code keeps them.
use Rattle.std.specs.Prelude.{ℕ, List, map, Vec}
use Rattle.std.specs.Global.{Global}

-- the numbers of each
abbrev pub lists_of : List (Vec ℕ Global) → List (List ℕ)
lists_of groups = map (λ group. group.items) groups
