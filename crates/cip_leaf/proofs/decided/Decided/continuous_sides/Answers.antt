use Rattle.std.proofs.lemmas.Grind.{common_steps}
use Rattle.std.proofs.Common.{◌≡◌, ◌∙◌, length, ap, sym, arith}
use Rattle.cip_problem.specs.Choices.{decided_box}
use Rattle.cip_problem.proofs.Choices.Decided.{decided_formed}
use Rattle.cip_leaf.proofs.decided.Decided.continuous_sides.Goals as goal

pub continuous_sides-requires-2 : goal.continuous_sides-requires-2
continuous_sides-requires-2 c =
    let program = c.self.inside.program.now in
    let on = c.self.inside.on.now in
    let formed = c.whole-whole.ensures.formed in
    let e : c.as_slice-2.result.now ≡ decided_box program.choices program.bounds on =
    c.as_slice-2.ensures ∙ c.in_ok-sides.ensures ∙ ap (λ cs. decided_box cs c.bounds-bounds.result.now on) c.choices-choices.ensures.choices
    ∙ ap (λ b. decided_box program.choices b on) c.bounds-bounds.ensures.bounds in
    ap length c.whole-whole.ensures.whole ∙ formed.integral ∙ sym (decided_formed program on formed).bounds ∙ sym (ap length e)

pub continuous_sides-requires : goal.continuous_sides-requires
continuous_sides-requires c = grind (arith, common_steps)

pub decided_sides-requires : goal.decided_sides-requires
decided_sides-requires c = grind (arith, common_steps)

pub returns : goal.returns
returns c = grind (arith, common_steps)

pub returns-then-is_empty : goal.returns-then-is_empty
returns-then-is_empty c = grind (arith, common_steps)
