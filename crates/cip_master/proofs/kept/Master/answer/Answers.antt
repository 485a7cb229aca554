use Rattle.cip_master.specs.MasterTasks.{task_of}
use Rattle.cip_master.proofs.Solvable.{solvable}
use Rattle.cip_master.proofs.kept.Master.answer.Goals as goal

pub found-requires : goal.found-requires
found-requires c =
    solvable (task_of c.args.task.now) c.args.self.now.program c.columns-columns.ensures.formed c.requires.task
    c.points-points.ensures.few c.requires.kept
