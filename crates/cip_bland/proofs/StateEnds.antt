-- Ends are sound whichever moves led there, and those that the rule names are among them.
use Rattle.std.proofs.Common.{◌≡◌, refl, subst}
use Rattle.cip_bland.specs.Dictionary.{Dictionary}
use Rattle.cip_bland.specs.declared.moves.Move.{Move}
use Rattle.cip_bland.specs.Rule.{move_by, next}
use Rattle.cip_bland.specs.StateEnds.{IsEndAt, EndsAreSound, NamedEndsAreEnds}
use Rattle.cip_bland.specs.declared.steps.Step.{Step}
use Rattle.cip_bland.specs.declared.steps.Step.TheVariants.{Crossed, Infeasible, Optimum, Ray, Makes}
use Rattle.cip_bland.proofs.StateFacts.{is_point}
use Rattle.cip_bland.proofs.Optima.{shows_optimum}
use Rattle.cip_bland.proofs.Emptiness.{shows_no_point}
use Rattle.cip_bland.proofs.CrossedSides.{shows_crossed}
use Rattle.cip_bland.proofs.RayEnds.{is_ray}
use Rattle.cip_bland.proofs.StepCases.{Reason, reason, crossed, infeasible, optimum, ray, repair, descent}

pub ends_are_sound : EndsAreSound
ends_are_sound program d (Crossed v) proper st h = shows_crossed program d v st h.within h.passes
ends_are_sound program d (Infeasible i) proper st h =
    shows_no_point program d proper st i h.outside.within h.outside.passes (record { fails = h.unrepaired })
ends_are_sound program d Optimum proper st h =
    shows_optimum program d proper st (record { fails = h.point.uncrossed }) (record { fails = h.point.inside }) (record { fails = h.unimproved })
ends_are_sound program d (Ray j) proper st h = record {
  is_point = is_point program d proper st (record { fails = h.point.uncrossed }) (record { fails = h.point.inside });
  is_ray = is_ray program d proper st j h.improving.within h.improving.passes h.endless;
}
ends_are_sound program d (Makes move) proper st h = absurd h

end_by : (d : Dictionary) (step : Step) → Reason d step → ((move : Move) → ¬ (step ≡ Makes move)) → IsEndAt d step
end_by d step (crossed v h) never = record { within = h.below; passes = h.passes }
end_by d step (infeasible i uncrossed h none) never = record {
  outside = record { within = h.below; passes = h.passes };
  unrepaired = none.fails;
}
end_by d step (optimum uncrossed inside none) never = record {
  point = record { uncrossed = uncrossed.fails; inside = inside.fails };
  unimproved = none.fails;
}
end_by d step (ray j uncrossed inside h none) never = record {
  point = record { uncrossed = uncrossed.fails; inside = inside.fails };
  improving = record { within = h.below; passes = h.passes };
  endless = none;
}
end_by d step (repair i j h) never = absurd (never _ refl)
end_by d step (descent j v way h) never = absurd (never (move_by j way) refl)

pub named_ends_are_ends : NamedEndsAreEnds
named_ends_are_ends d step e never = subst (IsEndAt d) e (end_by d (next d) (reason d) (λ move f. never move (subst (λ s. s ≡ Makes move) e f)))
