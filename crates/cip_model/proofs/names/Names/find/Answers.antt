use Rattle.std.proofs.lemmas.Grind.{common_steps}
use Rattle.std.proofs.Common.{◌≡◌, ◌∙◌, arith, ℕ, ◌<◌, List, length, ap₂, subst}
use Rattle.cip_problem.specs.Names.{number_of}
use Rattle.cip_model.proofs.NamePlaces.{number_within}
use Rattle.std.proofs.lemmas.Option.{slice_get_within}
use Rattle.cip_model.specs.Keys.{pieces_from}
use Rattle.cip_model.proofs.names.Names.find.Goals as goal

pub returns-in-None-clause-within : goal.returns-in-None-clause-within
returns-in-None-clause-within c =
    let number : c.get.result ≡ number_of c.args.self.now c.args.name.now =
    rw (← c.self.view_is) (c.get.ensures ∙ c.self.invariant.found c.args.name.now) in
    number_within c.args.self.now c.args.name.now c.get.result number

pub hinted-requires : goal.hinted-requires
hinted-requires c = grind (arith, common_steps)

pub returns-in-Some-clause-number : goal.returns-in-Some-clause-number
returns-in-Some-clause-number c = grind (arith, common_steps)

pub returns-in-None-clause-number : goal.returns-in-None-clause-number
returns-in-None-clause-number c = grind (arith, common_steps)

pub returns-in-Some-clause-within : goal.returns-in-Some-clause-within
returns-in-Some-clause-within c =
    let names : pieces_from 0 c.as_slice.result.now c.as_slice-2.result.now ≡ c.args.self.now =
    ap₂ (pieces_from 0) c.as_slice.ensures.value c.as_slice-2.ensures.value ∙ c.self.view_is in
    subst (λ (names : List (List ℕ)). c.in-Some.number < length names) names
    (slice_get_within _ c.in-Some.number _ c.in-Some.ensures)
