use Rattle.std.proofs.lemmas.Grind.{common_steps}
use Rattle.std.proofs.Common.{◌≡◌, ap₂, ◌∙◌, arith}
use Rattle.std.proofs.lemmas.Result.{IfOk-weaker}
use Rattle.clap.specs.Words.{app_of, with_rule}
use Rattle.cip_input.proofs.words.with_word.Goals as goal

pub returns-in-Ok : goal.returns-in-Ok
returns-in-Ok c = λ app made.
    let old : app_of c.in-Ok.command ≡ app = rw c.in-Ok.is at made in
    IfOk-weaker c.arg.result _ _ (λ command h. h.shape c.word.ensures.local ∙ ap₂ with_rule old c.word.ensures.rule) c.arg.ensures

pub returns-in-Err : goal.returns-in-Err
returns-in-Err c = omega arith

pub word-requires : goal.word-requires
word-requires c = grind (arith, common_steps)
