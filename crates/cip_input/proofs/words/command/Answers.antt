use Rattle.std.proofs.lemmas.Grind.{common_steps}
use Rattle.std.proofs.Common.{◌∙◌, ap, refl, true, arith}
use Rattle.std.specs.Prelude.{IfOk}
use Rattle.std.proofs.lemmas.Result.{IfOk-weaker}
use Rattle.clap.specs.Words.{App, Shape, with_subcommand}
use Rattle.clap.specs.Simple.{app_of_fields, on_top}
use Rattle.cip_input.specs.Jobs.{solve_command, check_command, self_command, cip_command}
use Rattle.cip_input.proofs.Commands.{added_as, IsAddedAs}
use Rattle.cip_input.proofs.words.command.Goals as goal

pub returns : goal.returns
unfolding cip_command
returns c =
    let bare = ap app_of_fields c.no_binary_name-bare.ensures ∙ ap (on_top (λ (top : Shape). record top { no_binary_name = true })) c.new-2.ensures.app in
    let solving : IfOk c.with_word.result (IsAddedAs solve_command.top) =
    IfOk-weaker c.with_word.result _ _ (λ command made. added_as solve_command command made refl)
    (c.with_word.ensures _ (c.with_word-solve-6.ensures _ (c.with_word-solve-5.ensures _ (c.with_word-solve-4.ensures _
    (c.with_word-solve-3.ensures _ (c.with_word-solve-2.ensures _ (c.with_word-solve.ensures _ c.new.ensures.app))))))) in
    let solve : IsAddedAs solve_command.top c.in-Ok.solve = rw c.in-Ok.is at solving in
    let checking : IfOk c.with_word-2.result (IsAddedAs check_command.top) =
    IfOk-weaker c.with_word-2.result _ _ (λ command made. added_as check_command command made refl)
    (c.with_word-2.ensures _ (c.with_word-check.ensures _ c.new-3.ensures.app)) in
    let check : IsAddedAs check_command.top c.in-Ok-with_word.check = rw c.in-Ok-with_word.is at checking in
    let drawing : IfOk c.with_word-3.result (IsAddedAs self_command.top) =
    IfOk-weaker c.with_word-3.result _ _ (λ command made. added_as self_command command made refl)
    (c.with_word-3.ensures _ (c.with_word-draw-2.ensures _ (c.with_word-draw.ensures _ c.new-4.ensures.app))) in
    let draw : IsAddedAs self_command.top c.in-Ok-with_word-2.draw = rw c.in-Ok-with_word-2.is at drawing in
    let solver = solve _ _ c.in-Ok-subcommand.ensures ∙ ap (λ (app : App). with_subcommand app solve_command.top) bare in
    let checker = check _ _ c.in-Ok-subcommand-2.ensures ∙ ap (λ (app : App). with_subcommand app check_command.top) solver in
    IfOk-weaker c.subcommand-3.result _ _ (λ command h. draw _ _ h ∙ ap (λ (app : App). with_subcommand app self_command.top) checker) c.subcommand-3.ensures

pub returns-in_default-with_word-2 : goal.returns-in_default-with_word-2
returns-in_default-with_word-2 c = grind (arith, common_steps)

pub returns-in_default-with_word : goal.returns-in_default-with_word
returns-in_default-with_word c = grind (arith, common_steps)

pub returns-in_default : goal.returns-in_default
returns-in_default c = grind (arith, common_steps)

pub with_word-draw-requires-2 : goal.with_word-draw-requires-2
with_word-draw-requires-2 c = grind (arith, common_steps)

pub with_word-draw-requires : goal.with_word-draw-requires
with_word-draw-requires c = grind (arith, common_steps)

pub with_word-requires-3 : goal.with_word-requires-3
with_word-requires-3 c = grind (arith, common_steps)

pub with_word-requires-2 : goal.with_word-requires-2
with_word-requires-2 c = grind (arith, common_steps)

pub with_word-check-requires : goal.with_word-check-requires
with_word-check-requires c = grind (arith, common_steps)

pub with_word-requires : goal.with_word-requires
with_word-requires c = grind (arith, common_steps)

pub with_word-solve-requires-2 : goal.with_word-solve-requires-2
with_word-solve-requires-2 c = grind (arith, common_steps)

pub with_word-solve-requires-6 : goal.with_word-solve-requires-6
with_word-solve-requires-6 c = grind (arith, common_steps)

pub with_word-solve-requires : goal.with_word-solve-requires
with_word-solve-requires c = grind (arith, common_steps)

pub with_word-solve-requires-5 : goal.with_word-solve-requires-5
with_word-solve-requires-5 c = grind (arith, common_steps)

pub with_word-solve-requires-4 : goal.with_word-solve-requires-4
with_word-solve-requires-4 c = grind (arith, common_steps)

pub with_word-solve-requires-3 : goal.with_word-solve-requires-3
with_word-solve-requires-3 c = grind (arith, common_steps)
