-- What the ends say, beside each other.
use Rattle.std.proofs.Common.{◌≡◌, ◌≢◌, ◌⊎◌, inl, inr, ℕ, ◌<◌, ◌≤◌, ◌*◌, ◌-◌, Bool, true, false, List, [], ◌∷◌, ◌++◌, length, Option, None, Some, Contains, refl, sym, ap, ◌∙◌, subst, arith}
use Rattle.std.specs.Prelude.{max, IsSome, if◌then◌else◌}
use Rattle.std.proofs.lemmas.Option.{same_Some}
use Rattle.cip_rational.specs.Rational.{ℚ, negate, ◌<ℚ◌}
use Rattle.cip_rational.proofs.Rational.Order.{ne_of_lt}
use Rattle.cip_rational.proofs.Rational.Ring.{negate_negate}
use Rattle.cip_problem.specs.Program.{Program}
use Rattle.cip_problem.specs.Points.{printed}
use Rattle.std.proofs.lemmas.List.{length-append}
use Rattle.cip_problem.specs.Log.{Closed, Entry, IsLog}
use Rattle.cip_problem.proofs.Log.Length.{log_is_short}
use Rattle.cip_problem.proofs.Log.Entering.{follow_more}
use Rattle.cip_problem.proofs.Covers.{none_of_nothing}
use Rattle.cip_search.specs.Leaf.{Leaf}
use Rattle.cip_search.specs.Searched.{first_node}
use Rattle.cip_search.proofs.Alike.{is_log, is_log_from}
use Rattle.cip_search.specs.AnswerHeadline.{Agree}
use Rattle.cip_search.specs.Figures.{Optimal, Infeasible, Unbounded, NodeLimit, Gap, Wide, NoMemory, Overflow, Held, Figures}
use Rattle.cip_search.specs.SearchEnds.{ReachesGap, NothingIsLeft}
use Rattle.cip_search.specs.Headline.{cost_of_printed, ShowsGap, IsSpent, ShowsOverflow}
use Rattle.cip_search.specs.HeadlineStatements.{EndsExclude, BudgetsSuffice}

pub not_none : {A : Type 0} (held : Option A) → IsSome held → held ≢ None
not_none None h e = absurd (cc)
not_none (Some held) h e = absurd (cc)

-- what is printed alike is alike
pub same_printed : (maximized : Bool) (a b : ℚ) → (if maximized then negate a else a) ≡ (if maximized then negate b else b) → a ≡ b
same_printed true a b e = sym (negate_negate a) ∙ (ap negate e ∙ negate_negate b)
same_printed false a b e = e

-- a gap that is reached is above 0
above_bound : (asked : Option ℚ) (cost least : ℚ) → ReachesGap asked (Some cost) (Some least) → least <ℚ cost
above_bound None cost least r = absurd r
above_bound (Some gap) cost least r = r.above

-- where cost and bound agree the gap isn't reached
never_both : (program : Program) (asked : Option ℚ) (figures : Figures) → Agree figures → ¬ ShowsGap program asked figures
never_both program asked figures a g =
    let held : a.held ≡ g.held = same_Some _ _ (sym a.is_held ∙ g.is_held) in
    let bound : a.held.cost ≡ printed program g.least = same_Some _ _ (sym a.bound ∙ g.is_bound) in
    let both : printed program g.least ≡ printed program g.cost = sym bound ∙ (ap (λ (h : Held). h.cost) held ∙ g.is_cost) in
    ne_of_lt (above_bound asked g.cost g.least g.reached) (same_printed program.maximized g.least g.cost both)

-- with no point held it isn't either
none_held : (program : Program) (asked : Option ℚ) (figures : Figures) → figures.held ≡ None → ¬ ShowsGap program asked figures
none_held program asked figures e g = let f : None ≡ Some g.held = sym e ∙ g.is_held in cc

-- where nothing is left, or no node was taken, no budget of a node is spent, and no overflow is shown
none_and_spent : {A : Type 0} (program : Program) (start : Option ℚ) (nodes : ℕ) (log : List Entry) (held : Option Held) → 0 < nodes → NothingIsLeft program start log (cost_of_printed program held) ⊎ (log ≡ []) → IsSpent program start nodes log held → A
none_and_spent program start nodes log held some (inl h) k = absurd (h.none_open k.matter)
none_and_spent program start nodes log held some (inr e) k = absurd (omega (arith, some, k.full, ap length e))

none_and_wide : {A : Type 0} (program : Program) (start : Option ℚ) (log : List Entry) (held : Option Held) (leaf : Leaf) (overflow : Overflow) → NothingIsLeft program start log (cost_of_printed program held) ⊎ (log ≡ []) → ShowsOverflow program start log held leaf overflow → A
none_and_wide program start log held leaf overflow (inl h) k = absurd (h.none_parked k.matter)
none_and_wide program start log held leaf overflow (inr e) k = absurd (none_of_nothing k.matter.entry (subst (λ l. Contains l k.matter.entry) e k.matter.among))

-- no two ends can be said at once
pub ends_exclude : EndsExclude
ends_exclude program start nodes asked log figures Optimal Optimal some l a b h k = refl
ends_exclude program start nodes asked log figures Optimal Infeasible some l a b h k = absurd (not_none figures.held h.1 k.1)
ends_exclude program start nodes asked log figures Optimal NodeLimit some l a b h k = absurd (h.0.none_open k.0.matter)
ends_exclude program start nodes asked log figures Optimal (Wide leaf place) some l a b h k = absurd (h.0.none_parked k.0.matter)
ends_exclude program start nodes asked log figures Optimal (Unbounded ray) some l a b h k = absurd b
ends_exclude program start nodes asked log figures Optimal NoMemory some l a b h k = absurd b
ends_exclude program start nodes asked log figures Optimal Gap some l a b h k = absurd (never_both program asked figures (l h.0 h.1) k)
ends_exclude program start nodes asked log figures Infeasible Optimal some l a b h k = absurd (not_none figures.held k.1 h.1)
ends_exclude program start nodes asked log figures Infeasible Infeasible some l a b h k = refl
ends_exclude program start nodes asked log figures Infeasible NodeLimit some l a b h k = none_and_spent program start nodes log figures.held some h.0 k.0
ends_exclude program start nodes asked log figures Infeasible (Wide leaf place) some l a b h k = none_and_wide program start log figures.held leaf place h.0 k.0
ends_exclude program start nodes asked log figures Infeasible (Unbounded ray) some l a b h k = absurd b
ends_exclude program start nodes asked log figures Infeasible NoMemory some l a b h k = absurd b
ends_exclude program start nodes asked log figures Infeasible Gap some l a b h k = absurd (none_held program asked figures h.1 k)
ends_exclude program start nodes asked log figures NodeLimit Optimal some l a b h k = absurd (k.0.none_open h.0.matter)
ends_exclude program start nodes asked log figures NodeLimit Infeasible some l a b h k = none_and_spent program start nodes log figures.held some k.0 h.0
ends_exclude program start nodes asked log figures NodeLimit NodeLimit some l a b h k = refl
ends_exclude program start nodes asked log figures NodeLimit (Wide leaf place) some l a b h k = absurd (k.0.none_open h.0.matter)
ends_exclude program start nodes asked log figures NodeLimit (Unbounded ray) some l a b h k = absurd b
ends_exclude program start nodes asked log figures NodeLimit NoMemory some l a b h k = absurd b
ends_exclude program start nodes asked log figures NodeLimit Gap some l a b h k = absurd (h.1 k)
ends_exclude program start nodes asked log figures (Wide leaf place) Optimal some l a b h k = absurd (k.0.none_parked h.0.matter)
ends_exclude program start nodes asked log figures (Wide leaf place) Infeasible some l a b h k = none_and_wide program start log figures.held leaf place k.0 h.0
ends_exclude program start nodes asked log figures (Wide leaf place) NodeLimit some l a b h k = absurd (h.0.none_open k.0.matter)
ends_exclude program start nodes asked log figures (Wide leaf place) (Wide other there) some l a b h k = refl
ends_exclude program start nodes asked log figures (Wide leaf place) (Unbounded ray) some l a b h k = absurd b
ends_exclude program start nodes asked log figures (Wide leaf place) NoMemory some l a b h k = absurd b
ends_exclude program start nodes asked log figures (Wide leaf place) Gap some l a b h k = absurd (h.1 k)
ends_exclude program start nodes asked log figures Gap Optimal some l a b h k = absurd (never_both program asked figures (l k.0 k.1) h)
ends_exclude program start nodes asked log figures Gap Infeasible some l a b h k = absurd (none_held program asked figures k.1 h)
ends_exclude program start nodes asked log figures Gap NodeLimit some l a b h k = absurd (k.1 h)
ends_exclude program start nodes asked log figures Gap Gap some l a b h k = refl
ends_exclude program start nodes asked log figures Gap (Wide leaf place) some l a b h k = absurd (k.1 h)
ends_exclude program start nodes asked log figures Gap (Unbounded ray) some l a b h k = absurd b
ends_exclude program start nodes asked log figures Gap NoMemory some l a b h k = absurd b
ends_exclude program start nodes asked log figures (Unbounded ray) other some l a b h k = absurd a
ends_exclude program start nodes asked log figures NoMemory other some l a b h k = absurd a

-- an open node can be closed
pub budgets_suffice : BudgetsSuffice
budgets_suffice program start log held n h o e =
    let entry : Entry = record { node = o.node.number; bound = None; end = Closed } in
    let more : IsLog program (log ++ entry ∷ []) =
    is_log program start (log ++ entry ∷ [])
    (follow_more program.integral (first_node program start ∷ []) [] log entry o.node (is_log_from program start log h) o.left.given (λ k. omega (arith, k.1)) o.left.not_taken tt) in
    let short : length (log ++ entry ∷ []) ≤ max 1 (2 * n - 1) = log_is_short program (log ++ entry ∷ []) n more e in
    omega (arith, short, length-append log (entry ∷ []))
