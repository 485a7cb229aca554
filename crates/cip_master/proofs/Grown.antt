-- A master program that is kept stays so as the pool grows.
use Rattle.std.proofs.Common.{◌≡◌, [], ◌++◌, List, take, sym, subst, arith}
use Rattle.std.proofs.lemmas.List.{length-append, take-append-le}
use Rattle.cip_columns.specs.PoolPoints.{PoolPoint}
use Rattle.cip_master.specs.KeptMasters.{held_in, IsMasterOf}
use Rattle.cip_master.specs.declared.masters.MasterProgram.{MasterProgram}
use Rattle.cip_master.specs.MasterTasks.{Task}
use Rattle.cip_master.specs.MasterSolving.{IsKept}

pub stay_kept : (task : Task) (more : List PoolPoint) (master : MasterProgram) → IsKept task master
    → IsKept (record task { points = task.points ++ more }) master
stay_kept task more master h = record {
  seen = omega (arith, h.seen, length-append task.points more);
  is_master =
      subst (λ (points : List PoolPoint). IsMasterOf task.program task.kept task.box
      (held_in task.kept.column_owners.items task.box points) master)
      (sym (take-append-le master.seen task.points more h.seen)) h.is_master;
}

-- before a point was looked at
pub begun : (task : Task) (master : MasterProgram) → IsMasterOf task.program task.kept task.box [] master
    → master.seen ≡ 0 → IsKept task master
begun task master m e = record {
  seen = omega (arith, e);
  is_master =
      subst (λ n. IsMasterOf task.program task.kept task.box
      (held_in task.kept.column_owners.items task.box (take n task.points)) master) (sym e) m;
}
