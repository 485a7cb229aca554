use Rattle.std.proofs.Common.{◌∙◌, ap, map}
use Rattle.std.specs.Prelude.{string_bytes}
use Rattle.clap.specs.Words.{is_simple_and_free}
use Rattle.cip_input.specs.declared.words.WordsFault.TheVariants.{Refused}
use Rattle.cip_input.proofs.Commands.{is_free, read_job, refused_words, ranged}
use Rattle.cip_input.proofs.words.Words.job.Goals as goal

pub returns-in-Ok-clause-job : goal.returns-in-Ok-clause-job
returns-in-Ok-clause-job c =
    read_job _ _ c.args.self.now c.in-Ok.matches c.job_in-job.result c.in_ok-command.ensures (ap (map (λ word. string_bytes word)) c.as_slice.ensures.value ∙ c.self.view_is)
    (c.in-Ok.ensures.kinds (ap is_simple_and_free c.in_ok-command.ensures ∙ is_free)) c.in-Ok.ensures.matches c.job_in-job.ensures

pub returns-in-Ok-clause-range : goal.returns-in-Ok-clause-range
returns-in-Ok-clause-range c = ranged c.args.self.now c.job_in-job.result (returns-in-Ok-clause-job c)

pub returns-in-OutOfMemory-clause-job : goal.returns-in-OutOfMemory-clause-job
returns-in-OutOfMemory-clause-job c = tt

pub returns-in_default-clause-job : goal.returns-in_default-clause-job
returns-in_default-clause-job c =
    refused_words _ _ c.args.self.now c.in-Err.error Refused c.in_ok-command.ensures (ap (map (λ word. string_bytes word)) c.as_slice.ensures.value ∙ c.self.view_is)
    (c.in-Err.ensures.kinds (ap is_simple_and_free c.in_ok-command.ensures ∙ is_free)) (λ said kind. c.in_default.not-OutOfMemory (c.kind-kind.ensures ∙ kind))

pub returns-in-OutOfMemory-clause-range : goal.returns-in-OutOfMemory-clause-range
returns-in-OutOfMemory-clause-range c = tt

pub returns-in_default-clause-range : goal.returns-in_default-clause-range
returns-in_default-clause-range c = tt
