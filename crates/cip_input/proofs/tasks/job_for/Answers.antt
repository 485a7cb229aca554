use Rattle.std.proofs.lemmas.Grind.{common_steps}
use Rattle.std.proofs.Common.{arith}
use Rattle.cip_input.proofs.Names.{job_there, job_missing, job_refused, not_job}
use Rattle.cip_input.proofs.tasks.job_for.Goals as goal

pub returns-then-are_there-clause-job : goal.returns-then-are_there-clause-job
returns-then-are_there-clause-job g c = job_there _ _ _ _ c.in_ok-job.ensures.job c.are_there.ensures c.if-are_there.true

pub returns-clause-job : goal.returns-clause-job
returns-clause-job g c = job_missing _ _ _ _ c.in_ok-job.ensures.job c.are_there.ensures c.if-are_there.false

pub returns-in_err-job-clause-job : goal.returns-in_err-job-clause-job
returns-in_err-job-clause-job g c = not_job _ _ _ _ (job_refused _ _ _ c.in_err-job.ensures.job) c.from_residual.ensures

pub returns-then-are_there-clause-range : goal.returns-then-are_there-clause-range
returns-then-are_there-clause-range g c = grind (arith, common_steps)

pub returns-clause-range : goal.returns-clause-range
returns-clause-range g c = grind (arith, common_steps)
