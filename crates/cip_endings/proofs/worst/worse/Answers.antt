use Rattle.std.proofs.Common.{◌≡◌, ◌∷◌, ◌++◌, [], ◌∙◌, sym, subst}
use Rattle.cip_report.specs.LeafAnswers.{shown_as}
use Rattle.cip_endings.specs.Worst.{leaf_of, IsWorst, IsFirstWorst}
use Rattle.cip_endings.proofs.WorstLaws.{first_worst, stays_worst, new_worst}
use Rattle.cip_endings.proofs.worst.worse.Goals as goal

pub returns-in-None : goal.returns-in-None
returns-in-None c = λ program reduced way nodes node w e p.
    let none : nodes ≡ [] = subst (IsWorst program reduced way nodes) c.in-None.is w in
    subst (λ l. IsFirstWorst program reduced way (l ++ node ∷ []) (leaf_of c.args.parked) c.args.parked.bound (shown_as c.args.parked.shown)) (sym none)
    (first_worst program reduced way node (leaf_of c.args.parked) c.args.parked.bound (shown_as c.args.parked.shown) e p)

pub returns-then-is_no_more : goal.returns-then-is_no_more
returns-then-is_no_more c = λ program reduced way nodes node w e p.
    stays_worst program reduced way nodes node _ _ _ _ (sym c.is_no_more.ensures ∙ c.if-is_no_more.true) (subst (IsWorst program reduced way nodes) c.in-Some.is w) e

pub returns-else-is_no_more : goal.returns-else-is_no_more
returns-else-is_no_more c = λ program reduced way nodes node w e p.
    new_worst program reduced way nodes node _ _ _ _ _ _ (sym c.is_no_more.ensures ∙ c.if-is_no_more.false) (subst (IsWorst program reduced way nodes) c.in-Some.is w) e p
