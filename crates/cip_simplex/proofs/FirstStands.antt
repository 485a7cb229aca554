-- Where variables stand at first, by the sides of columns.
use Rattle.std.proofs.Common.{◌≡◌, ℕ, ◌<◌, ◌≤◌, Bool, cond, List, length, get_or, Option, None, Some, sym, ap, ◌∙◌}
use Rattle.std.proofs.lemmas.Bool.{lt-ltb, le-ltb}
use Rattle.std.proofs.lemmas.List.{get_or_default}
use Rattle.cip_problem.specs.Program.{Sides}
use Rattle.cip_problem.specs.Box.{sides_at, no_sides}
use Rattle.cip_bland.specs.FirstState.{first_stand}
use Rattle.cip_bland.specs.declared.moves.Stand.{Stand}
use Rattle.cip_dict.specs.FirstLists.{stand_in}

pub stand_within : (columns : List Sides) (v : ℕ) (sides : Sides) (to : Stand) (place : Option Stand) → v < length columns → sides ≡ get_or columns v sides → to ≡ first_stand sides → place ≡ Some to → place ≡ stand_in columns v
stand_within columns v sides to place l read is e =
    e ∙ ap (λ (s : Stand). Some s) (is ∙ ap first_stand (read ∙ get_or_default columns v sides no_sides l))
    ∙ sym (ap (λ (t : Bool). cond t (Some (first_stand (sides_at columns v))) None) (lt-ltb v (length columns) l))

pub stand_past : (columns : List Sides) (v : ℕ) (place : Option Stand) → length columns ≤ v → place ≡ None → place ≡ stand_in columns v
stand_past columns v place l e = e ∙ sym (ap (λ (t : Bool). cond t (Some (first_stand (sides_at columns v))) None) (le-ltb v (length columns) l))
