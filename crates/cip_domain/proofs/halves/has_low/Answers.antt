use Rattle.std.proofs.Common.{sym, subst, refl, true≢false}
use Rattle.std.proofs.lemmas.Int.{to_z-of_z}
use Rattle.std.specs.Prelude.{◌≤ℤ◌, ◌<ℤ◌}
use Rattle.cip_domain.proofs.WholeHalves.{open_low, low_whole, whole_low, le_known, le_failed}
use Rattle.std.specs.Int.{w128}
use Rattle.cip_domain.proofs.halves.has_low.Goals as goal

pub returns-in-None : goal.returns-in-None
returns-in-None c = rw (c.in-None.is) ((λ _. open_low c.args.at), (λ _. refl))

pub returns-then-ceil-at : goal.returns-then-ceil-at
returns-then-ceil-at c =
    let h = le_known c.ceil.result c.args.at _ _ (to_z-of_z w128 c.ceil.result (record { sfits = c.ceil.type_inv }))
    (to_z-of_z w128 c.args.at c.ranges.at) c.if-ceil-at.true in
    rw (c.in-Some.is) (
      (λ _. low_whole c.in-Some.low c.args.at (subst (λ z. z ≤ℤ c.args.at) c.ceil.ensures h)),
      (λ _. refl),
    )

pub returns-else-ceil-at : goal.returns-else-ceil-at
returns-else-ceil-at c =
    let h = le_failed c.ceil.result c.args.at _ _ (to_z-of_z w128 c.ceil.result (record { sfits = c.ceil.type_inv }))
    (to_z-of_z w128 c.args.at c.ranges.at) c.if-ceil-at.false in
    rw (c.in-Some.is) (
      (λ e. absurd (true≢false (sym e))),
      (λ k. absurd (whole_low c.in-Some.low c.args.at (subst (λ z. c.args.at <ℤ z) c.ceil.ensures h) k)),
    )
