-- The points of a pool that lie in a box are points of their blocks there.
use Rattle.std.proofs.Common.{◌≡◌, ◌<◌, true, length, Some}
use Rattle.std.specs.Prelude.{slice_index_or}
use Rattle.std.proofs.lemmas.List.Elements.{recursion_from_All}
use Rattle.cip_pricing.specs.Decomposition.{picked, IsBlockPoint}
use Rattle.cip_pricing.specs.Mixtures.{Held}
use Rattle.cip_pricing.specs.MasterStatements.{AreHeld}
use Rattle.cip_columns.specs.PoolPoints.{PoolPoint, held_of}
use Rattle.cip_columns.proofs.InBoxes.{inside_means}
use Rattle.cip_lagrange.specs.Decompositions.{owners_in}
use Rattle.cip_master.specs.KeptMasters.{is_held_in}
use Rattle.cip_master.specs.MasterTasks.{Task, IsTask, held_by}
use Rattle.cip_master.proofs.Lowered.{filtered}

abbrev IsHeldIn : Task → Held → Type 0
IsHeldIn task h =
    (h.block < length task.kept.subproblems.items)
    × IsBlockPoint task.program (owners_in task.kept) task.box h.block h.point

-- in the box a point of a block is one of the box
moved : (task : Task) (h : PoolPoint)
    → IsBlockPoint task.program (owners_in task.kept) task.program.bounds h.block h.point
    → is_held_in task.kept.column_owners.items task.box h ≡ true
    → IsBlockPoint task.program (owners_in task.kept) task.box h.block h.point
moved task h p e = record {
  within = (inside_means (picked (Some h.block) task.kept.column_owners.items task.box) h.point).0 e;
  whole = p.whole;
  choices = p.choices;
  rows = p.rows;
}

pub are_held : (task : Task) → IsTask task
    → AreHeld task.program (owners_in task.kept) task.box (held_by task)
are_held task ok =
    filtered (IsHeldIn task) (is_held_in task.kept.column_owners.items task.box) task.points
    (recursion_from_All
    (λ (h : PoolPoint). is_held_in task.kept.column_owners.items task.box h ≡ true → IsHeldIn task (held_of h))
    task.points
    (λ k d l e. (
      (ok.points k d l).0,
      moved task (slice_index_or task.points k d) (ok.points k d l).1 e,
    )))
