-- What holds of a search whose programs, steps and root stay.
use Rattle.std.proofs.Common.{Option, refl, ◌∙◌, subst}
use Rattle.cip_rational.specs.Rational.{ℚ}
use Rattle.cip_problem.specs.Program.{Program}
use Rattle.cip_problem.specs.Log.{Node}
use Rattle.cip_solve.specs.StepsBack.{StepsTaken, way_back}
use Rattle.cip_search.specs.SearchState.{WayBack}
use Rattle.cip_solve.specs.CoreStates.{CoreState, reduced_of, way_of}
use Rattle.cip_endings.specs.declared.worst.Worst.{Worst}
use Rattle.cip_solve.specs.Searching.{IsStill, IsStillAt, IsSameSearch}

pub same_itself : (core : CoreState) → IsSameSearch core core
same_itself core = record { program = refl; reduced = refl; steps = refl; root = refl }

pub same_further : (old mid new : CoreState) → IsSameSearch old mid → IsSameSearch mid new → IsSameSearch old new
same_further old mid new a b = record {
  program = b.program ∙ a.program;
  reduced = b.reduced ∙ a.reduced;
  steps = b.steps ∙ a.steps;
  root = b.root ∙ a.root;
}

-- what holds of the new one by its programs holds by the old ones
pub told_of : (P : Program → Program → WayBack → Option ℚ → Type 0) (old new : CoreState) → IsSameSearch old new → P new.program (reduced_of new) (way_of new) new.tree.root.bound → P old.program (reduced_of old) (way_of old) old.tree.root.bound
told_of P old new s t =
    subst (λ (p : Program). P p (reduced_of old) (way_of old) old.tree.root.bound) s.program
    (subst (λ (r : Program). P new.program r (way_of old) old.tree.root.bound) s.reduced
    (subst (λ (t : StepsTaken). P new.program (reduced_of new) (way_back t) old.tree.root.bound) s.steps
    (subst (λ (n : Node). P new.program (reduced_of new) (way_of new) n.bound) s.root t)))

pub still_of : (old new : CoreState) (worst : Option Worst) → IsSameSearch old new → IsStillAt new worst → IsStill old.program (reduced_of old) (way_of old) old.tree.root.bound new.tree new.incumbent worst
still_of old new worst s k = told_of (λ p r w b. IsStill p r w b new.tree new.incumbent worst) old new s k
