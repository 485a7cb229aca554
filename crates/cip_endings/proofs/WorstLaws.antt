-- The worst parked leaf, as another one is parked.
use Rattle.std.proofs.Common.{◌≡◌, inl, inr, true, false, List, [], ◌∷◌, ◌++◌, Option, refl, sym, ap, ◌∙◌, subst, append_assoc}
use Rattle.std.proofs.lemmas.List.Elements.{Contains-append_cases}
use Rattle.cip_rational.specs.Rational.{ℚ}
use Rattle.cip_problem.specs.Program.{Program}
use Rattle.cip_problem.specs.Log.{Node}
use Rattle.cip_problem.proofs.Covers.{none_of_nothing, the_only}
use Rattle.cip_search.specs.Leaf.{Leaf}
use Rattle.cip_search.specs.Searched.{NoMore}
use Rattle.cip_search.specs.WideLeaf.{Shown}
use Rattle.cip_search.proofs.Bounds.{no_more_itself}
use Rattle.cip_endings.specs.LeastBounds.{is_no_more}
use Rattle.cip_search.specs.SearchState.{WayBack, IsWideBack}
use Rattle.cip_search.proofs.Roots.{no_more}
use Rattle.cip_endings.specs.Worst.{IsFirstWorst}
use Rattle.cip_endings.proofs.BoundLaws.{no_more_tells, more_tells, more_below}

module _ (program reduced : Program) (way : WayBack) where
  -- the first one
  pub first_worst : (node : Node) (leaf : Leaf) (bound : Option ℚ) (shown : Shown) → node.bound ≡ bound → IsWideBack program reduced way node leaf shown → IsFirstWorst program reduced way (node ∷ []) leaf bound shown
  first_worst node leaf bound shown e p = record {
    node = node;
    chosen = record {
      before = [];
      after = [];
      placed = refl;
      least = λ other c. subst (λ t. NoMore node.bound t.bound) (the_only node other c) (no_more_itself node.bound);
      first = λ other c. absurd (none_of_nothing other c);
    };
    is_bound = e;
    wide = p;
  }

  -- it stays, where its bound is no more
  pub stays_worst : (parked : List Node) (node : Node) (leaf : Leaf) (bound more : Option ℚ) (shown : Shown) → is_no_more bound more ≡ true → IsFirstWorst program reduced way parked leaf bound shown → node.bound ≡ more → IsFirstWorst program reduced way (parked ++ node ∷ []) leaf bound shown
  stays_worst parked node leaf bound more shown t w e = record {
    node = w.node;
    chosen = record {
      before = w.chosen.before;
      after = w.chosen.after ++ node ∷ [];
      placed = ap (λ l. l ++ node ∷ []) w.chosen.placed ∙ append_assoc w.chosen.before (w.node ∷ w.chosen.after) (node ∷ []);
      least = λ one c. elim (Contains-append_cases parked (node ∷ []) one c) [
        | inl a ↦ w.chosen.least one a
        | inr b ↦ subst (λ n. NoMore w.node.bound n.bound) (the_only node one b) (subst (λ b. NoMore b node.bound) (sym w.is_bound) (subst (NoMore bound) (sym e) (no_more_tells bound more t)))
      ];
      first = w.chosen.first;
    };
    is_bound = w.is_bound;
    wide = w.wide;
  }

  -- another one is worse, where it isn't
  pub new_worst : (parked : List Node) (node : Node) (leaf other : Leaf) (bound more : Option ℚ) (shown by : Shown) → is_no_more bound more ≡ false → IsFirstWorst program reduced way parked leaf bound shown → node.bound ≡ more → IsWideBack program reduced way node other by → IsFirstWorst program reduced way (parked ++ node ∷ []) other more by
  new_worst parked node leaf other bound more shown by t w e p =
      let below : NoMore node.bound bound = subst (λ b. NoMore b bound) (sym e) (more_below bound more t) in
      record {
        node = node;
        chosen = record {
          before = parked;
          after = [];
          placed = refl;
          least = λ one c. elim (Contains-append_cases parked (node ∷ []) one c) [
            | inl a ↦ no_more node.bound bound one.bound below (subst (λ b. NoMore b one.bound) w.is_bound (w.chosen.least one a))
            | inr b ↦ subst (λ n. NoMore node.bound n.bound) (the_only node one b) (no_more_itself node.bound)
          ];
          first = λ one c n. more_tells bound more t (no_more bound one.bound more (subst (λ b. NoMore b one.bound) w.is_bound (w.chosen.least one c)) (subst (NoMore one.bound) e n));
        };
        is_bound = e;
        wide = p;
      }
