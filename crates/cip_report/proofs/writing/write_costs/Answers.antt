use Rattle.std.proofs.Common.{refl}
use Rattle.cip_report.proofs.WritingLemmas.{first_of_two, second_of_two, counts_failed, counts_behind}
use Rattle.cip_report.proofs.writing.write_costs.Goals as goal

pub returns-in_err-write_figure-clause-taken : goal.returns-in_err-write_figure-clause-taken
returns-in_err-write_figure-clause-taken g c =
    first_of_two c.from_residual.result _ _ c.args.buffer.now _ _ _ c.from_residual.ensures.0
    (rw (c.held_cost-cost.ensures c.args.program.now) at c.in_err-write_figure.ensures.taken)

pub returns-clause-taken : goal.returns-clause-taken
returns-clause-taken g c =
    second_of_two c.write_figure-2.result _ _ _ c.args.buffer.now _ _ _ _
    (rw (c.held_cost-cost.ensures c.args.program.now) at c.in_ok-write_figure.ensures.taken) c.write_figure-2.ensures.taken

pub returns-in_err-write_figure-clause-faults : goal.returns-in_err-write_figure-clause-faults
returns-in_err-write_figure-clause-faults g c = counts_failed c.from_residual.result _ _ _ c.from_residual.ensures.0 refl c.in_err-write_figure.ensures.faults.1

pub returns-clause-faults : goal.returns-clause-faults
returns-clause-faults g c = counts_behind c.write_figure-2.result _ _ _ c.in_ok-write_figure.ensures.faults.0 c.write_figure-2.ensures.faults
