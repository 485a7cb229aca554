-- Cores and later ones.
use Rattle.std.proofs.Common.{◌≡◌, inl, inr, Option, None, Some, IfSome, refl, sym, ◌∙◌, subst, arith}
use Rattle.cip_rational.specs.Rational.{ℚ, IsWhole}
use Rattle.cip_rational.proofs.Rational.Order.{≤ℚ_trans}
use Rattle.cip_problem.specs.Log.{Node}
use Rattle.cip_problem.specs.Cuts.{HasWholeCosts}
use Rattle.cip_problem.specs.Improving.{IsNoDearer, IsImproving}
use Rattle.cip_problem.proofs.Improving.{fewer}
use Rattle.cip_search.proofs.Bounds.{no_more_itself}
use Rattle.cip_search.proofs.Roots.{no_more}
use Rattle.cip_tree.specs.Nodes.{TakenNode, shown}
use Rattle.cip_core.specs.CoreStates.{CoreState, held_of, reduced_of, IsAtWork}
use Rattle.cip_core.specs.Later.{IsLater, IsNarrower, IsLaterAt, StepsCompose}
use Rattle.cip_core.proofs.HeldAfter.{itself}

pub no_dearer_trans : (a b c : Option ℚ) → IsNoDearer a b → IsNoDearer b c → IsNoDearer a c
no_dearer_trans a b None h k = tt
no_dearer_trans a None (Some z) h k = absurd k
no_dearer_trans None (Some y) (Some z) h k = absurd h
no_dearer_trans (Some x) (Some y) (Some z) h k = ≤ℚ_trans h k

pub later_itself : (core : CoreState) → IsLater core core
later_itself core = record {
  program = refl;
  reduced = refl;
  steps = refl;
  root = refl;
  integral = refl;
  ids = omega arith;
  no_dearer = itself (held_of core);
  untouched = λ e. e;
}

pub later_further : (old mid new : CoreState) → IsLater old mid → IsLater mid new → IsLater old new
later_further old mid new h k = record {
  program = k.program ∙ h.program;
  reduced = k.reduced ∙ h.reduced;
  steps = k.steps ∙ h.steps;
  root = k.root ∙ h.root;
  integral = k.integral ∙ h.integral;
  ids = omega (arith, h.ids, k.ids);
  no_dearer = no_dearer_trans (held_of new) (held_of mid) (held_of old) k.no_dearer h.no_dearer;
  untouched = λ e. h.untouched (k.untouched e);
}

pub narrower_itself : (core : CoreState) (node : Node) → IsNarrower core node node
narrower_itself core node = record {
  number = refl;
  choices = refl;
  inside = λ point h. h;
  keeps = λ point i h. h;
  bound = no_more_itself node.bound;
  whole = inl refl;
}

pub narrower_further : (mid new : CoreState) (was node now : Node) → IsLater mid new → IsNarrower mid was node → IsNarrower new node now → IsNarrower new was now
narrower_further mid new was node now l h k =
    let same : reduced_of new ≡ reduced_of mid = l.reduced in
    record {
      number = k.number ∙ h.number;
      choices = k.choices ∙ h.choices;
      inside = λ point w. h.inside point (k.inside point w);
      keeps = λ point i w. k.keeps point i (h.keeps point (fewer (reduced_of mid) (held_of new) (held_of mid) point l.no_dearer (subst (λ p. IsImproving p (held_of new) point) same i)) w);
      bound = no_more was.bound node.bound now.bound h.bound k.bound;
      whole = elim k.whole [
        | inl e ↦ elim h.whole [
          | inl f ↦ inl (e ∙ f)
          | inr w ↦ inr (λ c. subst (λ b. IfSome b IsWhole) (sym e) (w (subst HasWholeCosts same c)))
        ]
        | inr w ↦ inr w
      ];
    }

pub later_at_itself : (core : CoreState) (node : TakenNode) → IsAtWork core node → IsLaterAt core node core node
later_at_itself core node w = record {
  later = later_itself core;
  at_work = w;
  narrower = narrower_itself core (shown core.tree node);
  log = refl;
  parked = refl;
  ids = refl;
  same = λ e. refl;
}

pub later_at_further : (old mid new : CoreState) (had node has : TakenNode) → IsLaterAt old had mid node → IsLaterAt mid node new has → IsLaterAt old had new has
later_at_further old mid new had node has h k = record {
  later = later_further old mid new h.later k.later;
  at_work = k.at_work;
  narrower = narrower_further mid new (shown old.tree had) (shown mid.tree node) (shown new.tree has) k.later h.narrower k.narrower;
  log = k.log ∙ h.log;
  parked = k.parked ∙ h.parked;
  ids = k.ids ∙ h.ids;
  same = λ e. k.same e ∙ h.same (k.later.untouched e);
}

pub steps_compose : StepsCompose
steps_compose = record {
  stays = later_itself;
  further = later_further;
  stays_at = later_at_itself;
  further_at = later_at_further;
}
