use Rattle.std.proofs.lemmas.Grind.{common_steps}
use Rattle.std.proofs.Common.{◌∙◌, ap, refl, subst, Option, Some, List, ℕ, Bor, option_map, arith}
use Rattle.cip_input.specs.BlocksRead.{ReadsBlocks}
use Rattle.cip_input.specs.Tasks.{TaskCause}
use Rattle.cip_input.specs.Jobs.{Solve}
use Rattle.cip_input.specs.declared.refusals.FaultyText.TheVariants.{Blocks, Model}
use Rattle.cip_input.proofs.TasksRead.{blocks_cause, cause_told, not_read, unread_cause, is_solve}
use Rattle.cip_input.proofs.tasks.read_solve.Goals as goal

pub returns-in_err-program : goal.returns-in_err-program
returns-in_err-program g c = λ job limits asked some.
    not_read Model _ _ _ _ (unread_cause job (Solve c.args.model.now _ limits) _ _ _ c.in_err-program.field-0.0 asked refl c.in_err-program.ensures.answer) c.from_residual.ensures

pub returns-in-None : goal.returns-in-None
returns-in-None g c = λ job limits asked some.
    let between = g.S.Store.tells c.read_program.new.store in
    is_solve job c.args.model.now _ limits (g.S.Store.tells c.args.store.now) between between c.in_ok-program.program
    c.programs_are_limited.ensures some asked c.in_ok-program.ensures.answer (rw c.in-None.is refl)

pub returns-in-Err : goal.returns-in-Err
returns-in-Err g c = λ job limits asked some.
    let old = g.S.Store.tells c.args.store.now in
    cause_told Blocks (TaskCause job old (g.S.Store.tells c.read_blocks.new.store)) _ _
    (blocks_cause job c.args.model.now c.in-Some.name.now limits old _ _ c.in_ok-program.program c.in-Err.cause
    (asked ∙ ap (λ (b : Option (Bor (List ℕ))). Some (Solve c.args.model.now (option_map (λ text. text.now) b) limits)) c.in-Some.is)
    c.in_ok-program.ensures.answer c.in_ok-program.ensures.holds c.in-Err.ensures.answer)
    c.from.ensures

pub returns-in-Ok : goal.returns-in-Ok
returns-in-Ok g c = λ job limits asked some.
    let old = g.S.Store.tells c.args.store.now in
    let between = g.S.Store.tells c.read_program.new.store in
    let new = g.S.Store.tells c.read_blocks.new.store in
    is_solve job c.args.model.now _ limits old between new c.in_ok-program.program
    c.programs_are_limited.ensures some asked c.in_ok-program.ensures.answer
    (rw c.in-Some.is (
      c.in-Ok.blocks,
      subst (λ (holds : List ℕ → Option (List ℕ)). ReadsBlocks c.in_ok-program.program (holds c.in-Some.name.now) between new c.in-Ok.blocks)
          c.in_ok-program.ensures.holds c.in-Ok.ensures.answer,
    ))

pub read_blocks-requires-text-name : goal.read_blocks-requires-text-name
read_blocks-requires-text-name g c = grind (arith, common_steps)
