use Rattle.cip_rational.specs.Rational.{ℚ}
use Rattle.cip_core.specs.Steps.{IsTried, IsOffered}
use Rattle.cip_presolve.specs.StepsBack.{StepsTaken, point_back, FitsBack}
use Rattle.std.proofs.lemmas.Grind.{common_steps}
use Rattle.std.proofs.Common.{Err, ap, subst, arith, ◌≡◌, ◌∙◌, List, length, sym}
use Rattle.cip_presolve.specs.PostsolveFaults.{IsPostsolveFault}
use Rattle.cip_core.specs.CoreStates.{CoreState, held_of}
use Rattle.cip_core.proofs.OfferedBack.{tried_past}
use Rattle.cip_core.proofs.Relations.{later_at_itself}
use Rattle.cip_core.proofs.cores.Core.offer_back.Goals as goal

pub returns-in-Err-clause-tried : goal.returns-in-Err-clause-tried
returns-in-Err-clause-tried c = λ n. tried_past c.args.self.now c.args.point.now c.in-Err.fault (subst (λ (o : CoreState). IsPostsolveFault o.steps c.args.point.now c.in-Err.fault) c.self.view_is c.in-Err.ensures.fault) (λ e. n (ap Err e))

pub returns-in-Err-clause-later : goal.returns-in-Err-clause-later
returns-in-Err-clause-later c = later_at_itself c.args.self.now c.args.node.now c.requires.at_work

pub offer-requires-clause-at_work : goal.offer-requires-clause-at_work
offer-requires-clause-at_work c = c.requires.at_work

pub returns-in-Err-clause-offered : goal.returns-in-Err-clause-offered
returns-in-Err-clause-offered c = grind (arith, common_steps)

pub returns-in-Ok-clause-frame : goal.returns-in-Ok-clause-frame
returns-in-Ok-clause-frame c = grind (arith, common_steps)

pub returns-in-Ok-clause-later : goal.returns-in-Ok-clause-later
returns-in-Ok-clause-later c = grind (arith, common_steps)

pub returns-in-Err-clause-frame : goal.returns-in-Err-clause-frame
returns-in-Err-clause-frame c = grind (arith, common_steps)

pub same-self : goal.same-self
same-self c = grind (arith, common_steps)

pub same-self-in-Ok : goal.same-self-in-Ok
same-self-in-Ok c = grind (arith, common_steps)

pub offer-requires-clause-values : goal.offer-requires-clause-values
offer-requires-clause-values c =
    let core = c.args.self.now in
    let point = c.args.point.now in
    let steps : c.self.inside.steps.now ≡ core.steps = ap (λ (o : CoreState). o.steps) c.self.view_is in
    let back : c.as_slice.result.now ≡ point_back core.steps point =
    c.as_slice.ensures.value ∙ c.in-Ok.ensures.point ∙ ap (λ (t : StepsTaken). point_back t point) steps in
    ap length back ∙ c.is_sound.ensures.sound.back.pair.long point (c.requires.values ∙ sym c.is_sound.ensures.reduced.bounds)
    ∙ c.is_sound.ensures.formed.bounds

pub returns-in-Ok-clause-tried : goal.returns-in-Ok-clause-tried
returns-in-Ok-clause-tried c = λ _ fits.
    let core = c.args.self.now in
    let point = c.args.point.now in
    let steps : c.self.inside.steps.now ≡ core.steps = ap (λ (o : CoreState). o.steps) c.self.view_is in
    let back : c.as_slice.result.now ≡ point_back core.steps point =
    c.as_slice.ensures.value ∙ c.in-Ok.ensures.point ∙ ap (λ (t : StepsTaken). point_back t point) steps in
    let new = c.offer.new.self in
    subst (IsTried new.program (held_of new)) (back ∙ ap (λ (o : CoreState). point_back o.steps point) (sym c.offer.ensures.frame))
    c.offer.ensures.offered.tried

pub returns-in-Ok-clause-offered : goal.returns-in-Ok-clause-offered
returns-in-Ok-clause-offered c =
    let core = c.args.self.now in
    let point = c.args.point.now in
    let steps : c.self.inside.steps.now ≡ core.steps = ap (λ (o : CoreState). o.steps) c.self.view_is in
    let back : c.as_slice.result.now ≡ point_back core.steps point =
    c.as_slice.ensures.value ∙ c.in-Ok.ensures.point ∙ ap (λ (t : StepsTaken). point_back t point) steps in
    record {
      fits = subst (λ (t : StepsTaken). FitsBack t point) steps c.in-Ok.ensures.fits;
      offered = subst (λ (p : List ℚ). IsOffered core c.offer.new.self p c.offer.result) back c.offer.ensures.offered;
    }
