use Rattle.std.proofs.Common.{◌≡◌, ◌∙◌, List, IfSome, length, ap, subst, sym}
use Rattle.cip_rational.specs.Rational.{ℚ}
use Rattle.cip_problem.specs.WellFormed.{columns}
use Rattle.cip_calls.specs.CoreStates.{reduced_of}
use Rattle.cip_calls.specs.StepsBack.{StepsTaken, point_back}
use Rattle.cip_calls.proofs.PassedOn.{back_long}
use Rattle.cip_node.specs.Bounding.{IsBounded}
use Rattle.cip_solve.proofs.Standing.{found_long, some_map}
use Rattle.cip_solve.proofs.telling.offered_kind.Goals as goal

pub check-requires : goal.check-requires
check-requires c =
    let core = c.args.core.now in
    let node = c.args.node.now in
    let all = some_map c.in-Open.found.point (λ values. values.items) (λ values. length values ≡ columns (reduced_of core))
    (found_long core node c.in-Open.found c.is_sound.ensures.reduced c.requires.at_work
    (subst (IsBounded core node) c.in-Open.is c.requires.bounded)) in
    let long = subst (λ point. IfSome point (λ values. length values.items ≡ columns (reduced_of core))) c.in-Some.is all in
    ap (λ (xs : List ℚ). length xs)
    (c.as_slice-in-Ok.ensures.value ∙ c.in-Ok.ensures.point ∙ ap (λ (t : StepsTaken). point_back t c.as_slice.result.now) c.steps.ensures)
    ∙ back_long core c.as_slice.result.now c.is_sound.ensures.sound c.is_sound.ensures.formed c.is_sound.ensures.reduced (ap length c.as_slice.ensures.value ∙ long)
    ∙ ap columns (sym c.program.ensures)
