-- Numbers by groups.
use Rattle.std.specs.Prelude.{◌≡◌, ℕ, List, Option, is_none}
use Rattle.cip_problem.specs.BlockParts.{rows_where, grouped}
use Rattle.cip_model.specs.NumberLists.{lists_of}
use Rattle.cip_model.specs.declared.groups.Groups.{Groups}

-- each group has the numbers of which it is the group, and the rest those that have none
pub record IsGrouped (count : ℕ) (owners : List (Option ℕ)) (kept : Groups) : Type 0 where
  pub groups : lists_of kept.groups.items ≡ grouped count owners
  pub rest : kept.rest.items ≡ rows_where is_none 0 owners
