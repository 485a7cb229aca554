-- One after the other, put together.
use Rattle.std.proofs.Common.{List, [], ◌∷◌, ◌++◌, sym, ◌∙◌, ap, subst, refl, append_assoc, append-nil}
use Rattle.cip_plugin.specs.Seats.{State}
use Rattle.cip_plugin.specs.Steps.{Step}
use Rattle.cip_plugin.specs.Delivering.{InTurn}

-- one alone
pub in_turn_one : {X : Type 0} (Does : X → State → List Step → State → Type 0) (x : X) (a b : State) (steps : List Step)
    → Does x a steps b → InTurn Does (x ∷ []) a steps b
in_turn_one Does x a b steps does = (b, steps, [], sym (append-nil steps), does, (refl, refl))

-- some, and then others
pub in_turn_append : {X : Type 0} (Does : X → State → List Step → State → Type 0) (xs ys : List X) (a b c : State)
    (first second : List Step) → InTurn Does xs a first b → InTurn Does ys b second c
    → InTurn Does (xs ++ ys) a (first ++ second) c
in_turn_append Does [] ys a b c first second front back =
    subst (λ (steps : List Step). InTurn Does ys a (steps ++ second) c) (sym front.0)
    (subst (λ (s : State). InTurn Does ys s second c) front.1 back)
in_turn_append Does (x ∷ xs) ys a b c first second front back = (
  front.0,
  front.1,
  front.2 ++ second,
  ap (λ (steps : List Step). steps ++ second) front.3 ∙ append_assoc front.1 front.2 second,
  front.4,
  in_turn_append Does xs ys front.0 b c front.2 second front.5 back,
)
