use Rattle.std.proofs.Common.{[], rules, inl, inr}
use Rattle.cip_text.proofs.Begun.{begun_or_spent}
use Rattle.cip_input.specs.PointTexts.{program_of}
use Rattle.cip_input.specs.PointReaders.{HasCome}
use Rattle.cip_input.proofs.PointAnswers.{whole_fault}
use Rattle.cip_input.proofs.whole_text.point_of_text.Goals as goal

pub returns-in-Err : goal.returns-in-Err
returns-in-Err c =
    elim (begun_or_spent HasCome program_of c.new-reader.result c.args.program.now c.new-reader.ensures) [
      | inl begun ↦ whole_fault c.args.program.now c.args.text.now _ _ c.in-Err.fault (c.in-Err.ensures.reads c.args.program.now [] begun)
      | inr spent ↦ (let e = c.in-Err.ensures.spent spent in search rules)
    ]

pub returns-in-Ok : goal.returns-in-Ok
returns-in-Ok c =
    elim (begun_or_spent HasCome program_of c.new-reader.result c.args.program.now c.new-reader.ensures) [
      | inl begun ↦ c.finish.ensures.reads c.args.program.now c.args.text.now (c.in-Ok.ensures.reads c.args.program.now [] begun).0
      | inr spent ↦ absurd (let e = c.in-Ok.ensures.spent spent in cc e.0)
    ]
