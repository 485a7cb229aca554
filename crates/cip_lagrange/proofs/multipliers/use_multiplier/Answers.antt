use Rattle.std.proofs.Common.{◌≡◌, Result, Ok, Err, length, refl, sym, subst}
use Rattle.std.specs.Prelude.{MatchResult}
use Rattle.std.proofs.lemmas.Bool.{false≢true}
use Rattle.cip_problem.specs.Activity.{StandsBelow}
use Rattle.cip_lagrange.specs.declared.answers.LagrangeFault.{LagrangeFault}
use Rattle.cip_lagrange.specs.LagrangeOutcomes.{Reduced}
use Rattle.cip_lagrange.proofs.OneByOne.{uses_low, uses_high, uses_neither}
use Rattle.cip_lagrange.proofs.multipliers.use_multiplier.Goals as goal

pub use_side-requires : goal.use_side-requires
use_side-requires c = subst (StandsBelow (length c.args.rests.now)) (sym c.terms.ensures.terms) c.requires

pub use_side-requires-then-is_negative : goal.use_side-requires-then-is_negative
use_side-requires-then-is_negative c = subst (StandsBelow (length c.args.rests.now))
    (sym c.terms-then-is_negative.ensures.terms) c.requires

pub returns-then-is_positive : goal.returns-then-is_positive
returns-then-is_positive c =
    let same = uses_low c.args.number c.args.multiplier c.args.row.now
    (record { total = c.args.start; rests = c.args.rests.now }) c.terms.result.now c.low.result
    (c.if-is_positive.ensures.0 refl) c.terms.ensures.terms c.low.ensures in
    subst (λ (a : Result Reduced LagrangeFault). MatchResult c.use_side.result (λ total. a
    ≡ Ok (record { total = total; rests = c.use_side.new.rests })) (λ fault. a
    ≡ Err fault)) (sym same) c.use_side.ensures

pub returns-then-is_negative : goal.returns-then-is_negative
returns-then-is_negative c =
    let same = uses_high c.args.number c.args.multiplier c.args.row.now
    (record { total = c.args.start; rests = c.args.rests.now }) c.terms-then-is_negative.result.now c.high.result
    (c.if-is_negative.ensures.0 refl) c.terms-then-is_negative.ensures.terms c.high.ensures in
    subst (λ (a : Result Reduced LagrangeFault). MatchResult c.use_side-then-is_negative.result (λ total. a
    ≡ Ok (record { total = total; rests = c.use_side-then-is_negative.new.rests })) (λ fault. a
    ≡ Err fault)) (sym same) c.use_side-then-is_negative.ensures

pub returns-else-is_negative : goal.returns-else-is_negative
returns-else-is_negative c =
    uses_neither c.args.number c.args.multiplier c.args.row.now _ (λ h. absurd (false≢true
    (c.if-is_positive.ensures.1 h)))
    (λ h. absurd (false≢true (c.if-is_negative.ensures.1 h)))
