use Rattle.cip_master.specs.MasterTasks.{task_of}
use Rattle.cip_master.proofs.Grown.{begun}
use Rattle.cip_master.proofs.kept.Master.new.Goals as goal

pub returns : goal.returns
returns c =
    begun (task_of c.args.task.now) c.in_ok-program.program c.in_ok-program.ensures.made c.in_ok-program.ensures.seen
