use Rattle.std.proofs.Common.{Some, None, sym, ap, ◌∙◌}
use Rattle.cip_text.specs.PieceStands.{progress_after}
use Rattle.cip_lp.specs.LinesRead.{stage_of}
use Rattle.cip_lp.proofs.LpAnswers.{after_is}
use Rattle.cip_lp.proofs.lp_text.read_tokens.Goals as goal

pub returns-in-Ok-Some-clause-read : goal.returns-in-Ok-Some-clause-read
returns-in-Ok-Some-clause-read c =
    let stage = stage_of c.take_tokens.new.self in
    after_is c.args.number (Some c.in-Ok-Some.kind) stage
    ∙ sym (ap (λ kind. progress_after c.args.number kind stage) c.in-Ok-Some.field-0-is)
    ∙ sym (c.in-Ok-Some.ensures.read c.args.number)

pub returns-in-Ok-None-clause-read : goal.returns-in-Ok-None-clause-read
returns-in-Ok-None-clause-read c =
    let stage = stage_of c.take_tokens.new.self in
    after_is c.args.number None stage
    ∙ sym (ap (λ kind. progress_after c.args.number kind stage) c.in-Ok-None.field-0-is)
    ∙ sym (c.in-Ok-None.ensures.read c.args.number)
