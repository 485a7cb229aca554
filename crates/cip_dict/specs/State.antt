-- The state that the lists of a dictionary make, and the room beside them.
use Rattle.std.specs.Prelude.{◌≡◌, ◌<◌, ◌^◌, List, length, Option}
use Rattle.cip_problem.specs.Program.{Sides}
use Rattle.cip_bland.specs.Dictionary.{Dictionary, IsConsistent}
use Rattle.cip_bland.specs.declared.moves.Stand.{Stand}
use Rattle.cip_dict.specs.declared.lists.Lists.{Lists}
use Rattle.cip_dict.specs.declared.lists.Room.{Room}
use Rattle.cip_dict.specs.Row.{HasRows}

-- the state
abbrev pub state : List Sides → List (Option Stand) → Lists → Dictionary
state sides standing lists = record {
  sides = sides;
  standing = standing;
  rows = lists.rows.items;
  costs = lists.costs;
  values = lists.values.items;
  cost = lists.cost;
}

-- the lists have entries for all variables
pub record HasLists (standing : List (Option Stand)) (lists : Lists) : Type 0 where
  pub rows : HasRows standing lists.rows.items
  pub costs : length lists.costs ≡ length standing
  pub values : length lists.values.items ≡ length standing

-- there is room for all that a move writes
pub record HasRoom (standing : List (Option Stand)) (room : Room) : Type 0 where
  pub entering : length room.entering ≡ length standing
  pub rows : HasRows standing room.rows.items
  pub changed : length room.changed.items ≡ length standing
  pub costs : length room.costs ≡ length standing
  pub values : length room.values.items ≡ length standing

-- the lists have entries for all variables, of which there are fewer than 2^32, there is room, and the state is
-- consistent
pub record IsShaped (sides : List Sides) (standing : List (Option Stand)) (lists : Lists) (room : Room) : Type 0 where
  pub few : length standing < 2 ^ 32
  pub sides_long : length sides ≡ length standing
  pub lists_long : HasLists standing lists
  pub room_long : HasRoom standing room
  pub consistent : IsConsistent (state sides standing lists)
