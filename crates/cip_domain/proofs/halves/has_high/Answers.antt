use Rattle.std.proofs.Common.{sym, subst, refl, true≢false}
use Rattle.std.proofs.lemmas.Int.{to_z-of_z}
use Rattle.std.specs.Prelude.{◌≤ℤ◌, ◌<ℤ◌}
use Rattle.cip_domain.proofs.WholeHalves.{open_high, high_whole, whole_high, lt_known, lt_failed}
use Rattle.std.specs.Int.{w128}
use Rattle.cip_domain.proofs.halves.has_high.Goals as goal

pub returns-in-None : goal.returns-in-None
returns-in-None c = rw (c.in-None.is) ((λ _. open_high c.args.at), (λ _. refl))

pub returns-then-at-floor : goal.returns-then-at-floor
returns-then-at-floor c =
    let h = lt_known c.args.at c.floor.result _ _ (to_z-of_z w128 c.args.at c.ranges.at)
    (to_z-of_z w128 c.floor.result (record { sfits = c.floor.type_inv })) c.if-at-floor.true in
    rw (c.in-Some.is) (
      (λ _. high_whole c.in-Some.high c.args.at (subst (λ z. c.args.at <ℤ z) c.floor.ensures h)),
      (λ _. refl),
    )

pub returns-else-at-floor : goal.returns-else-at-floor
returns-else-at-floor c =
    let h = lt_failed c.args.at c.floor.result _ _ (to_z-of_z w128 c.args.at c.ranges.at)
    (to_z-of_z w128 c.floor.result (record { sfits = c.floor.type_inv })) c.if-at-floor.false in
    rw (c.in-Some.is) (
      (λ e. absurd (true≢false (sym e))),
      (λ k. absurd (whole_high c.in-Some.high c.args.at (subst (λ z. z ≤ℤ c.args.at) c.floor.ensures h) k)),
    )
