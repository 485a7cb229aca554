-- The figures that are printed of a right answer are true.
use Rattle.std.proofs.Common.{◌≡◌, ◌≢◌, ◌⊎◌, inl, inr, ℕ, Bool, true, false, List, [], Option, None, Some, IfSome, refl, sym, ap, ◌∙◌, subst}
use Rattle.std.specs.Prelude.{IsSome, option_map, if◌then◌else◌}
use Rattle.std.proofs.lemmas.Option.{same_Some}
use Rattle.cip_rational.specs.Rational.{ℚ, ◌≤ℚ◌, ◌<ℚ◌, negate, lt_test}
use Rattle.cip_rational.proofs.Rational.Order.{not_le_of_lt, le_of_lt_test, ≤ℚ_antisymm}
use Rattle.cip_rational.proofs.Rational.Ring.{negate_negate}
use Rattle.cip_rational.proofs.Rational.Monotone.{negate_strict}
use Rattle.cip_problem.specs.Program.{Program}
use Rattle.cip_problem.specs.WellFormed.{IsWellFormed}
use Rattle.cip_problem.specs.Points.{IsFeasible, cost_of, printed, IsLowerBound}
use Rattle.cip_problem.specs.Log.{Entry, matters}
use Rattle.cip_search.specs.Leaf.{Leaf}
use Rattle.cip_search.specs.Searched.{NoMore, OpenMatters, ParkedMatters, IsOneOf, IsLeast}
use Rattle.cip_search.specs.WideLeaf.{Shown, IsWideLeaf}
use Rattle.cip_search.specs.Endings.{HasWidePoint}
use Rattle.cip_search.specs.SearchEnds as ends
use Rattle.cip_search.specs.SearchEnds.{Ended, Optimal, Infeasible, Unbounded, NodeLimit, Gap, Wide, NoMemory, Held, Answer, cost_of_held, IsHeldPoint, ReachesGap, NothingIsLeft, EndsAs, Agrees, IsCheaper, IsUnbounded, EndHolds}
use Rattle.cip_search.specs.Figures.{Held as PrintedHeld, Overflow, Optimal as PrintedOptimal, Infeasible as PrintedInfeasible, Wide as PrintedWide, names_of}
use Rattle.cip_search.specs.AnswerHeadline.{IsBetter, IsTruePoint, IsTrueBound, Agree}
use Rattle.cip_search.proofs.AnswerTexts.{answer_text_injective}
use Rattle.cip_search.specs.Headline.{cost_of_printed, IsBetterThan, IsWithinBox, ShowsOverflow, ShowsGap, overflow_at, EndsWith, EndsItself, AgreeAtLast, IsEndless, AreTrue}
use Rattle.cip_search.specs.Printed.{status_of, printed_held, figures_of, IsPrintable}
use Rattle.cip_search.specs.HeadlineStatements.{FiguresAreTrue}
use Rattle.cip_search.proofs.Ends.{ends_exclude, same_printed, not_none}
use Rattle.cip_search.proofs.Fitting.{fits, none_held}

-- ---- what is printed

back : {a b : ℚ} → negate a <ℚ negate b → b <ℚ a
back {a} {b} h = subst (λ x. x <ℚ a) (negate_negate b) (subst (λ y. negate (negate b) <ℚ y) (negate_negate a) (negate_strict h))

-- what is better when it is printed is less
cheaper : (maximized : Bool) (a b : ℚ) → IsBetter maximized (if maximized then negate a else a) (if maximized then negate b else b) → a <ℚ b
cheaper true a b better = back better
cheaper false a b better = better

not_better : (maximized : Bool) (a b : ℚ) → b ≤ℚ a → ¬ IsBetter maximized (if maximized then negate a else a) (if maximized then negate b else b)
not_better maximized a b h better = not_le_of_lt (cheaper maximized a b better) h

true_point : (program : Program) (held : Option Held) → IfSome held (IsHeldPoint program) → IfSome (option_map (printed_held program) held) (IsTruePoint program)
true_point program None h = tt
true_point program (Some held) h = record { feasible = h.feasible; cost = ap (printed program) h.cost }

true_bound : (program : Program) (bound : Option ℚ) → IfSome bound (IsLowerBound program) → IfSome (option_map (printed program) bound) (IsTrueBound program)
true_bound program None h = tt
true_bound program (Some b) h = λ point feasible. not_better program.maximized (cost_of program point) b (h point feasible)

-- ---- the box bound

below_box : (program : Program) (b : ℚ) (box : Option ℚ) → NoMore box (Some b) → IfSome box (λ least. ¬ IsBetter program.maximized (printed program b) (printed program least))
below_box program b None h = tt
below_box program b (Some least) h = not_better program.maximized b least h

within_box : (program : Program) (box bound : Option ℚ) → NoMore box bound → IfSome (option_map (printed program) bound) (IsWithinBox program box)
within_box program box None h = tt
within_box program box (Some b) h = below_box program b box h

no_bound_within : (program : Program) (box bound : Option ℚ) → bound ≡ None → IfSome (option_map (printed program) bound) (IsWithinBox program box)
no_bound_within program box None e = tt
no_bound_within program box (Some b) e = absurd (cc)

no_box : (box bound : Option ℚ) → NoMore box bound → bound ≡ None → box ≡ None
no_box None bound h e = refl
no_box (Some least) None h e = absurd h
no_box (Some least) (Some b) h e = absurd (cc)

pub none_before : (program : Program) (bound : Option ℚ) → option_map (printed program) bound ≡ None → bound ≡ None
none_before program None e = refl
none_before program (Some b) e = absurd (cc)

-- ---- ends

is_optimal : (rows : List (List ℕ)) (ended : Ended) → status_of rows ended ≡ PrintedOptimal → ended ≡ Optimal
is_optimal rows Optimal e = refl
is_optimal rows Infeasible e = absurd (cc)
is_optimal rows (Unbounded ray) e = absurd (cc)
is_optimal rows NodeLimit e = absurd (cc)
is_optimal rows Gap e = absurd (cc)
is_optimal rows (Wide leaf shown) e = absurd (cc)
is_optimal rows NoMemory e = absurd (cc)

is_infeasible : (rows : List (List ℕ)) (ended : Ended) → status_of rows ended ≡ PrintedInfeasible → ended ≡ Infeasible
is_infeasible rows Optimal e = absurd (cc)
is_infeasible rows Infeasible e = refl
is_infeasible rows (Unbounded ray) e = absurd (cc)
is_infeasible rows NodeLimit e = absurd (cc)
is_infeasible rows Gap e = absurd (cc)
is_infeasible rows (Wide leaf shown) e = absurd (cc)
is_infeasible rows NoMemory e = absurd (cc)

is_wide : (rows : List (List ℕ)) (ended : Ended) (leaf : Leaf) (place : Overflow) → status_of rows ended ≡ PrintedWide leaf place → (values : Leaf) × (shown : Shown) × (ended ≡ Wide values shown)
is_wide rows Optimal leaf place e = absurd (cc)
is_wide rows Infeasible leaf place e = absurd (cc)
is_wide rows (Unbounded ray) leaf place e = absurd (cc)
is_wide rows NodeLimit leaf place e = absurd (cc)
is_wide rows Gap leaf place e = absurd (cc)
is_wide rows (Wide values shown) leaf place e = (values, shown, refl)
is_wide rows NoMemory leaf place e = absurd (cc)

-- the costs held, as they are and as they are printed
costs_held : (program : Program) (held : Option Held) → IfSome held (IsHeldPoint program) → cost_of_held held ≡ cost_of_printed program (option_map (printed_held program) held)
costs_held program None h = refl
costs_held program (Some held) h = ap Some h.cost

some_printed : {A B : Type 0} (f : A → B) (o : Option A) → IsSome o → IsSome (option_map f o)
some_printed f None h = h
some_printed f (Some x) h = refl

endless : (program : Program) (answer : Answer) (ray : List ℚ) → IsUnbounded program answer ray → IsEndless program (figures_of program answer) ray
endless program answer ray u = record {
  shown = record {
    held = printed_held program u.held;
    is_held = ap (option_map (printed_held program)) u.is_held;
    falls = u.falls;
  };
  no_bound = ap (option_map (printed program)) u.no_bound;
}

-- ---- the gap that was asked for, as it is and as it is printed

some_back : {A B : Type 0} (f : A → B) (o : Option A) → IsSome (option_map f o) → IsSome o
some_back f None h = h
some_back f (Some x) h = refl

held_back : (program : Program) (held : Option Held) (other : PrintedHeld) → option_map (printed_held program) held ≡ Some other → (point : Held) × (held ≡ Some point) × (printed_held program point ≡ other)
held_back program None other e = absurd (cc)
held_back program (Some point) other e = (point, refl, same_Some _ _ e)

bound_back : (program : Program) (bound : Option ℚ) (least : ℚ) → option_map (printed program) bound ≡ Some (printed program least) → bound ≡ Some least
bound_back program None least e = absurd (cc)
bound_back program (Some b) least e = ap Some (same_printed program.maximized b least (same_Some _ _ e))

shown_gap : (program : Program) (asked : Option ℚ) (ended : Ended) (held : Option Held) (bound : Option ℚ) → ReachesGap asked (cost_of_held held) bound → ShowsGap program asked (figures_of program (record { ended = ended; held = held; bound = bound }))
shown_gap program None ended held bound g = absurd g
shown_gap program (Some gap) ended None bound g = absurd g
shown_gap program (Some gap) ended (Some held) None g = absurd g
shown_gap program (Some gap) ended (Some held) (Some least) g = record {
  held = printed_held program held;
  is_held = refl;
  cost = held.cost;
  is_cost = refl;
  least = least;
  is_bound = refl;
  reached = g;
}

gap_there : (program : Program) (asked : Option ℚ) (answer : Answer) → ReachesGap asked (cost_of_held answer.held) answer.bound → ShowsGap program asked (figures_of program answer)
gap_there program asked answer g = shown_gap program asked answer.ended answer.held answer.bound g

gap_back : (program : Program) (asked : Option ℚ) (answer : Answer) → ShowsGap program asked (figures_of program answer) → ReachesGap asked (cost_of_held answer.held) answer.bound
gap_back program asked answer g =
    let h = held_back program answer.held g.held g.is_held in
    let same : h.0.cost ≡ g.cost = same_printed program.maximized h.0.cost g.cost (ap (λ (p : PrintedHeld). p.cost) h.2 ∙ g.is_cost) in
    let cost : cost_of_held answer.held ≡ Some g.cost = ap cost_of_held h.1 ∙ ap Some same in
    subst (λ t. ReachesGap asked t answer.bound) (sym cost)
    (subst (ReachesGap asked (Some g.cost)) (sym (bound_back program answer.bound g.least g.is_bound)) g.reached)

-- ---- where nothing is left

quiet_is : (cost : ℚ) (bound : Option ℚ) → ¬ (matters (Some cost) bound ≡ true) → NoMore bound (Some cost) → bound ≡ Some cost
quiet_is cost None n m = absurd (n refl)
quiet_is cost (Some b) n m = by_test (lt_test b cost) refl
  where
    by_test : (test : Bool) → lt_test b cost ≡ test → Some b ≡ Some cost
    by_test true e = absurd (n e)
    by_test false e = ap Some (≤ℚ_antisymm m (le_of_lt_test e))

module _ (program : Program) (start : Option ℚ) (log : List Entry) (cost : ℚ) (bound : Option ℚ) (l : IsLeast program start log (Some cost) bound) (o : ¬ OpenMatters program start log (Some cost)) (p : ¬ ParkedMatters log (Some cost)) where
  below : NoMore bound (Some cost)
  below = l.least (Some cost) (inl (record { cost = cost; is_held = refl; is_bound = refl }))

  at_last : IsOneOf program start log (Some cost) bound → bound ≡ Some cost
  at_last (inl c) = c.is_bound ∙ sym c.is_held
  at_last (inr (inl c)) =
      c.is_bound ∙ quiet_is cost c.node.bound (λ e. o (record { node = c.node; left = c.left; matter = e })) (subst (λ t. NoMore t (Some cost)) c.is_bound below)
  at_last (inr (inr c)) =
      c.is_bound ∙ quiet_is cost c.entry.bound (λ e. p (record { entry = c.entry; among = c.among; parked = c.parked; matter = e })) (subst (λ t. NoMore t (Some cost)) c.is_bound below)

agree_held : (program : Program) (start : Option ℚ) (log : List Entry) (ended : Ended) (held : Option Held) (bound : Option ℚ) → IsSome held → IsLeast program start log (cost_of_held held) bound → ¬ OpenMatters program start log (cost_of_held held) → ¬ ParkedMatters log (cost_of_held held) → Agree (figures_of program (record { ended = ended; held = held; bound = bound }))
agree_held program start log ended None bound s l o p = absurd (cc)
agree_held program start log ended (Some held) bound s l o p = record {
  held = printed_held program held;
  is_held = refl;
  bound = ap (option_map (printed program)) (at_last program start log held.cost bound l o p l.one);
}

agree_there : (program : Program) (start : Option ℚ) (log : List Entry) (answer : Answer) → IsSome answer.held → IsLeast program start log (cost_of_held answer.held) answer.bound → ¬ OpenMatters program start log (cost_of_held answer.held) → ¬ ParkedMatters log (cost_of_held answer.held) → Agree (figures_of program answer)
agree_there program start log answer s l o p = agree_held program start log answer.ended answer.held answer.bound s l o p

module _ (program : Program) (start : Option ℚ) (nodes : ℕ) (asked : Option ℚ) (log : List Entry) (answer : Answer) (point : IfSome answer.held (IsHeldPoint program)) where
  -- what matters beside the cost held, beside the printed point
  open_there : OpenMatters program start log (cost_of_held answer.held) → OpenMatters program start log (cost_of_printed program (figures_of program answer).held)
  open_there = subst (OpenMatters program start log) (costs_held program answer.held point)

  open_back : OpenMatters program start log (cost_of_printed program (figures_of program answer).held) → OpenMatters program start log (cost_of_held answer.held)
  open_back = subst (OpenMatters program start log) (sym (costs_held program answer.held point))

  parked_there : ParkedMatters log (cost_of_held answer.held) → ParkedMatters log (cost_of_printed program (figures_of program answer).held)
  parked_there = subst (ParkedMatters log) (costs_held program answer.held point)

  parked_back : ParkedMatters log (cost_of_printed program (figures_of program answer).held) → ParkedMatters log (cost_of_held answer.held)
  parked_back = subst (ParkedMatters log) (sym (costs_held program answer.held point))

  shown_there : (leaf : Leaf) (shown : Shown) → EndsAs program start nodes log answer.held (Wide leaf shown) → ShowsOverflow program start log (figures_of program answer).held leaf (overflow_at program.row_names shown)
  shown_there leaf shown h = record {
    none_open = λ o. h.0 (open_back o);
    matter = parked_there h.1;
    by = shown;
    is_printed = refl;
    shown = subst (λ c. ends.IsShownLeaf program start log c leaf shown) (costs_held program answer.held point) h.2;
  }

  left_there : NothingIsLeft program start log (cost_of_held answer.held) → NothingIsLeft program start log (cost_of_printed program (figures_of program answer).held)
  left_there = subst (NothingIsLeft program start log) (costs_held program answer.held point)

  left_or_none : NothingIsLeft program start log (cost_of_held answer.held) ⊎ (log ≡ []) → NothingIsLeft program start log (cost_of_printed program (figures_of program answer).held) ⊎ (log ≡ [])
  left_or_none (inl h) = inl (left_there h)
  left_or_none (inr e) = inr e

  -- the gap isn't reached, as it is printed, by an answer of another end
  far_there : (ended : Ended) → answer.ended ≡ ended → ended ≢ NoMemory → ended ≢ Gap → ends.IsSettled program start nodes asked log answer → ¬ ShowsGap program asked (figures_of program answer)
  far_there ended e n m h g = m (sym e ∙ (h.gap (λ f. n (sym e ∙ f))).1 (gap_back program asked answer g))

  ends_with : (ended : Ended) → answer.ended ≡ ended → EndHolds program start nodes asked log answer ended → EndsWith program start nodes asked log (figures_of program answer) (status_of program.row_names ended)
  ends_with Optimal e h =
      let k = subst (EndsAs program start nodes log answer.held) e h.ends in
      (left_there k.0, some_printed (printed_held program) answer.held k.1)
  ends_with Infeasible e h =
      let k = subst (EndsAs program start nodes log answer.held) e h.ends in
      (left_or_none k.0, none_held (printed_held program) answer.held k.1)
  ends_with (Unbounded ray) e h = endless program answer ray h
  ends_with NodeLimit e h =
      let k = subst (EndsAs program start nodes log answer.held) e h.ends in
      (record { full = k.0; matter = open_there k.1 }, far_there NodeLimit e (λ f. absurd (cc)) (λ f. absurd (cc)) h)
  ends_with Gap e h = gap_there program asked answer ((h.gap (λ f. absurd (let t = sym e ∙ f in cc))).0 e)
  ends_with (Wide leaf shown) e h =
      (shown_there leaf shown (subst (EndsAs program start nodes log answer.held) e h.ends), far_there (Wide leaf shown) e (λ f. absurd (cc)) (λ f. absurd (cc)) h)
  ends_with NoMemory e h = tt

  -- where nothing is left and a point is held, cost and bound agree
  agree_by : IsLeast program start log (cost_of_held answer.held) answer.bound → AgreeAtLast program start log (figures_of program answer)
  agree_by l h p =
      agree_there program start log answer (some_back (printed_held program) answer.held p) l (λ o. h.none_open (open_there o)) (λ o. h.none_parked (parked_there o))

  least_by : (ended : Ended) → answer.ended ≡ ended → EndsItself (status_of program.row_names ended) → EndHolds program start nodes asked log answer ended → IsSome answer.held → IsLeast program start log (cost_of_held answer.held) answer.bound
  least_by Optimal e t h p = h.least (λ f. absurd (let g = sym e ∙ f in cc))
  least_by Infeasible e t h p = absurd (not_none answer.held p (subst (EndsAs program start nodes log answer.held) e h.ends).1)
  least_by (Unbounded ray) e t h p = absurd t
  least_by NodeLimit e t h p = h.least (λ f. absurd (let g = sym e ∙ f in cc))
  least_by Gap e t h p = h.least (λ f. absurd (let g = sym e ∙ f in cc))
  least_by (Wide leaf shown) e t h p = h.least (λ f. absurd (let g = sym e ∙ f in cc))
  least_by NoMemory e t h p = absurd t

  agree_last : EndsItself (status_of program.row_names answer.ended) → EndHolds program start nodes asked log answer answer.ended → AgreeAtLast program start log (figures_of program answer)
  agree_last t h settled p =
      agree_by (least_by answer.ended refl t h (some_back (printed_held program) answer.held p)) settled p

-- ---- bounds and overflows

bound_of : (program : Program) (start : Option ℚ) (nodes : ℕ) (asked : Option ℚ) (log : List Entry) (answer : Answer) (ended : Ended) → EndHolds program start nodes asked log answer ended → IfSome answer.bound (IsLowerBound program)
bound_of program start nodes asked log answer Optimal h = h.bound
bound_of program start nodes asked log answer Infeasible h = h.bound
bound_of program start nodes asked log answer (Unbounded ray) h = none_below program answer.bound h.no_bound
  where
    none_below : (program : Program) (bound : Option ℚ) → bound ≡ None → IfSome bound (IsLowerBound program)
    none_below program None e = tt
    none_below program (Some b) e = absurd (cc)
bound_of program start nodes asked log answer NodeLimit h = h.bound
bound_of program start nodes asked log answer Gap h = h.bound
bound_of program start nodes asked log answer (Wide leaf shown) h = h.bound
bound_of program start nodes asked log answer NoMemory h = h.bound

cheaper_there : (program : Program) (held : Option Held) (point : List ℚ) → IsBetterThan program (option_map (printed_held program) held) point → IsCheaper program held point
cheaper_there program None point better = tt
cheaper_there program (Some held) point better = cheaper program.maximized (cost_of program point) held.cost better

agree : (program : Program) (answer : Answer) → Agrees answer → Agree (figures_of program answer)
agree program answer a = record {
  held = printed_held program a.held;
  is_held = ap (option_map (printed_held program)) a.is_held;
  bound = ap (option_map (printed program)) a.bound;
}

-- an end is one of these three
data Kind (ended : Ended) : Type 0 where
  none : ended ≡ Infeasible → Kind ended
  endless_ : (ray : List ℚ) → ended ≡ Unbounded ray → Kind ended
  other : ended ≢ Infeasible → ((ray : List ℚ) → ended ≢ Unbounded ray) → Kind ended

kind_of : (ended : Ended) → Kind ended
kind_of Optimal = other (λ e. absurd (cc)) (λ ray e. absurd (cc))
kind_of Infeasible = none refl
kind_of (Unbounded ray) = endless_ ray refl
kind_of NodeLimit = other (λ e. absurd (cc)) (λ ray e. absurd (cc))
kind_of Gap = other (λ e. absurd (cc)) (λ ray e. absurd (cc))
kind_of (Wide leaf shown) = other (λ e. absurd (cc)) (λ ray e. absurd (cc))
kind_of NoMemory = other (λ e. absurd (cc)) (λ ray e. absurd (cc))

module _ (program : Program) (box start : Option ℚ) (nodes : ℕ) (asked : Option ℚ) (log : List Entry) (answer : Answer) (formed : IsWellFormed program) (p : IsPrintable program box start nodes asked log answer) where
  held_there : EndHolds program start nodes asked log answer answer.ended
  held_there = p.right.end_

  within_of : Kind answer.ended → IfSome (option_map (printed program) answer.bound) (IsWithinBox program box)
  within_of (none e) = no_bound_within program box answer.bound ((subst (EndHolds program start nodes asked log answer) e held_there).no_bound e)
  within_of (endless_ ray e) = no_bound_within program box answer.bound (subst (EndHolds program start nodes asked log answer) e held_there).no_bound
  within_of (other n m) = within_box program box answer.bound (p.bound n m)

  settled_at : (ended : Ended) → ended ≡ answer.ended → EndHolds program start nodes asked log answer ended
  settled_at ended e = subst (EndHolds program start nodes asked log answer) (sym e) held_there

  infeasible_of : answer.ended ≡ Infeasible → (point : List ℚ) → ¬ IsFeasible program point
  infeasible_of e = (settled_at Infeasible (sym e)).infeasible e

  agree_of : answer.ended ≡ Optimal → Agree (figures_of program answer)
  agree_of e = agree program answer ((settled_at Optimal (sym e)).agree e)

  wide_of : (values : Leaf) (shown : Shown) → answer.ended ≡ Wide values shown → (point : List ℚ) → IsFeasible program point → IsBetterThan program (figures_of program answer).held point → HasWidePoint program IsWideLeaf (cost_of program point)
  wide_of values shown e point f better =
      (settled_at (Wide values shown) (sym e)).wide values shown e point f (cheaper_there program answer.held point better)

  pub are_true : AreTrue program box start nodes asked log (figures_of program answer)
  are_true =
      let ends = ends_with program start nodes asked log answer p.right.point answer.ended refl held_there in
      let last : EndsItself (status_of program.row_names answer.ended) → AgreeAtLast program start log (figures_of program answer) = λ t. agree_last program start nodes asked log answer p.right.point t held_there in
      let fit = fits program box start nodes asked log answer formed p in
      record {
        point = true_point program answer.held p.right.point;
        bound = true_bound program answer.bound (bound_of program start nodes asked log answer answer.ended held_there);
        within_box = within_of (kind_of answer.ended);
        no_bound = λ n m e. no_box box answer.bound (p.bound (λ i. n (ap (status_of program.row_names) i)) (λ ray i. m ray (ap (status_of program.row_names) i))) (none_before program answer.bound e);
        infeasible = λ e. infeasible_of (is_infeasible program.row_names answer.ended e);
        agree = λ e. agree_of (is_optimal program.row_names answer.ended e);
        agree_at_last = last;
        overflow = λ leaf place e.
            let w = is_wide program.row_names answer.ended leaf place e in
            wide_of w.0 w.1 w.2;
        ends = ends;
        exact = λ status a b h. ends_exclude program start nodes asked log (figures_of program answer) status (figures_of program answer).status p.some (last b) a b h ends;
        logged = p.right.logged;
        fit = fit;
        told = λ other f e. answer_text_injective (names_of program) other (figures_of program answer) f fit e;
      }

pub figures_are_true : FiguresAreTrue
figures_are_true program box start nodes asked log answer formed p = are_true program box start nodes asked log answer formed p
