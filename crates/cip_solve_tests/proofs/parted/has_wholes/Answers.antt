use Rattle.std.proofs.Common.{◌∙◌, length, sym, ap}
use Rattle.cip_problem.specs.Program.{Program}
use Rattle.cip_calls.proofs.PassedOn.{work_long}
use Rattle.cip_solve_tests.proofs.parted.has_wholes.Goals as goal

pub look_at-requires-clause-long : goal.look_at-requires-clause-long
look_at-requires-clause-long c =
    let formed = c.is_sound.ensures.reduced in
    ap length (c.whole.ensures.whole ∙ ap (λ (p : Program). p.integral) c.reduced-program.ensures) ∙ formed.integral
    ∙ sym (work_long c.args.core.now c.args.node.now formed c.requires) ∙ sym (ap length c.bounds.ensures)
