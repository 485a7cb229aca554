-- What an answer in code says holds, where the answer that it is is right.
use Rattle.std.proofs.Common.{◌≡◌, List, refl, sym, subst}
use Rattle.cip_rational.specs.Rational.{ℚ}
use Rattle.cip_problem.specs.LinearProgram.{LinearProgram, IsProper}
use Rattle.cip_bland.specs.Dictionary.{Dictionary}
use Rattle.cip_bland.specs.declared.moves.Move.{Move}
use Rattle.cip_bland.specs.EndAnswers.{Certificate, Answer, Optimal, NoPoint, Unbounded, OutOfRange, LimitReached, answer_at}
use Rattle.cip_bland.specs.Statements.{IsStateOf, IsRight}
use Rattle.cip_bland.specs.StateEnds.{IsEndAt}
use Rattle.cip_bland.specs.declared.steps.Step.{Step}
use Rattle.cip_bland.specs.declared.steps.Step.TheVariants.{Crossed, Infeasible, Optimum, Ray, Makes}
use Rattle.cip_bland.proofs.StateEnds.{ends_are_sound}
use Rattle.cip_simplex.specs.LpAnswers.{IsAnswer}
use Rattle.cip_simplex.specs.Reached.{Holds, IsEndAnswer}
use Rattle.cip_simplex.specs.declared.answers.LpAnswer.{LpAnswer}
use Rattle.cip_simplex.specs.declared.answers.LpAnswer.TheVariants as lp

optimum_by : (program : LinearProgram) (point values : List ℚ) (c : Certificate) (cost number : ℚ) → values ≡ point → number ≡ cost → IsRight program (Optimal point c cost) → IsRight program (Optimal values c number)
optimum_by program point values c cost number e f h =
    subst (λ q. IsRight program (Optimal values c q)) (sym f) (subst (λ xs. IsRight program (Optimal xs c cost)) (sym e) h)

ray_by : (program : LinearProgram) (point values ray changes : List ℚ) → values ≡ point → changes ≡ ray → IsRight program (Unbounded point ray) → IsRight program (Unbounded values changes)
ray_by program point values ray changes e f h =
    subst (λ ys. IsRight program (Unbounded values ys)) (sym f) (subst (λ xs. IsRight program (Unbounded xs ray)) (sym e) h)

-- what holds, or why there is none
abbrev pub HoldsOr : LinearProgram → Answer → LpAnswer → Type 0
HoldsOr program a (lp.Optimal values combo number) = Holds program (lp.Optimal values combo number)
HoldsOr program a (lp.Infeasible combo) = Holds program (lp.Infeasible combo)
HoldsOr program a (lp.Unbounded values changes) = Holds program (lp.Unbounded values changes)
HoldsOr program a (lp.Wide made) = a ≡ OutOfRange made.items
HoldsOr program a lp.Limit = a ≡ LimitReached

pub held : (program : LinearProgram) (a : Answer) (found : LpAnswer) → IsAnswer a found → IsRight program a → HoldsOr program a found
held program (Optimal point c cost) (lp.Optimal values combo number) h r = record {
  certificate = c;
  right = optimum_by program point values.items c cost number h.0 h.2 r;
  is_combo = h.1;
}
held program (NoPoint c) (lp.Infeasible combo) h r = record { certificate = c; right = r; is_combo = h }
held program (Unbounded point ray) (lp.Unbounded values changes) h r = ray_by program point values.items ray changes.items h.0 h.1 r
held program (OutOfRange moves) (lp.Wide made) h r = subst (λ ms. OutOfRange moves ≡ OutOfRange ms) (sym h) refl
held program LimitReached lp.Limit h r = refl
held program (Optimal point c cost) (lp.Infeasible combo) h r = absurd h
held program (Optimal point c cost) (lp.Unbounded values changes) h r = absurd h
held program (Optimal point c cost) (lp.Wide made) h r = absurd h
held program (Optimal point c cost) lp.Limit h r = absurd h
held program (NoPoint c) (lp.Optimal values combo number) h r = absurd h
held program (NoPoint c) (lp.Unbounded values changes) h r = absurd h
held program (NoPoint c) (lp.Wide made) h r = absurd h
held program (NoPoint c) lp.Limit h r = absurd h
held program (Unbounded point ray) (lp.Optimal values combo number) h r = absurd h
held program (Unbounded point ray) (lp.Infeasible combo) h r = absurd h
held program (Unbounded point ray) (lp.Wide made) h r = absurd h
held program (Unbounded point ray) lp.Limit h r = absurd h
held program (OutOfRange moves) (lp.Optimal values combo number) h r = absurd h
held program (OutOfRange moves) (lp.Infeasible combo) h r = absurd h
held program (OutOfRange moves) (lp.Unbounded values changes) h r = absurd h
held program (OutOfRange moves) lp.Limit h r = absurd h
held program LimitReached (lp.Optimal values combo number) h r = absurd h
held program LimitReached (lp.Infeasible combo) h r = absurd h
held program LimitReached (lp.Unbounded values changes) h r = absurd h
held program LimitReached (lp.Wide made) h r = absurd h

-- an end answers an optimum, an emptiness or a ray
never_wide : (program : LinearProgram) (d : Dictionary) (step : Step) (moves : List Move) → IsEndAt d step → ¬ (answer_at program d step ≡ OutOfRange moves)
never_wide program d (Crossed v) moves h e = cc
never_wide program d (Infeasible i) moves h e = cc
never_wide program d Optimum moves h e = cc
never_wide program d (Ray j) moves h e = cc
never_wide program d (Makes move) moves h e = h

never_limit : (program : LinearProgram) (d : Dictionary) (step : Step) → IsEndAt d step → ¬ (answer_at program d step ≡ LimitReached)
never_limit program d (Crossed v) h e = cc
never_limit program d (Infeasible i) h e = cc
never_limit program d Optimum h e = cc
never_limit program d (Ray j) h e = cc
never_limit program d (Makes move) h e = h

end_held : (program : LinearProgram) (d : Dictionary) (step : Step) (found : LpAnswer) → IsEndAt d step → HoldsOr program (answer_at program d step) found → Holds program found
end_held program d step (lp.Optimal values combo number) h k = k
end_held program d step (lp.Infeasible combo) h k = k
end_held program d step (lp.Unbounded values changes) h k = k
end_held program d step (lp.Wide made) h k = never_wide program d step made.items h k
end_held program d step lp.Limit h k = never_limit program d step h k

-- whichever moves led to an end, what is answered there holds
pub end_answered : (program : LinearProgram) (d : Dictionary) (step : Step) (found : LpAnswer) → IsProper program → IsStateOf program d → IsEndAt d step → IsAnswer (answer_at program d step) found → IsEndAnswer program d found
end_answered program d step found proper st h a = record {
  step = step;
  is_end = h;
  answered = a;
  right = end_held program d step found h (held program (answer_at program d step) found a (ends_are_sound program d step proper st h));
}
