-- The answers of a search, by how it stops.
use Rattle.std.proofs.Common.{◌≡◌, ◌≢◌, ℕ, ◌<◌, true, false, Bool, inl, inr, List, [], ◌∷◌, ◌++◌, length, Option, None, Some, IfSome, MatchOption, refl, sym, ap, ◌∙◌, subst, arith, true≢false}
use Rattle.std.specs.Prelude.{option_map}
use Rattle.cip_rational.specs.Rational.{ℚ}
use Rattle.std.proofs.lemmas.Slice.Zip.{AllZip-long}
use Rattle.cip_problem.specs.Program.{Sides, Program}
use Rattle.cip_problem.specs.WellFormed.{IsWellFormed, columns}
use Rattle.cip_problem.specs.Points.{cost_of}
use Rattle.cip_problem.specs.Log.{Entry, AllFollow}
use Rattle.cip_search.specs.Searched.{first_node}
use Rattle.cip_search.specs.WideLeaf.{IsWideLeaf}
use Rattle.cip_search.specs.SearchState.{WayBack, IsSearch}
use Rattle.cip_search.proofs.Alike as alike
use Rattle.cip_problem.specs.LinearProgram.{StaysBetween}
use Rattle.cip_problem.proofs.Points.AtPlaces.{IsInBox-long}
use Rattle.cip_model.specs.Rays.{IsShownRay}
use Rattle.cip_model.proofs.Meaning.Ray.{falls_along}
use Rattle.cip_incumbent.specs.HeldPoint.{HeldPoint, Holding, IsHeldOf}
use Rattle.cip_search.specs.Endings.{IsLeastBound}
use Rattle.cip_search.specs.SearchEnds as ends
use Rattle.cip_search.specs.SearchEnds.{IsAnswer}
use Rattle.cip_search.specs.SearchAnswers.{IsParkedLast, IsSearchAnswer}
use Rattle.cip_search.specs.SeenLogs.{log_seen}
use Rattle.cip_search.proofs.StartBounds.{answer_above}
use Rattle.cip_tree.specs.Moves as tree
use Rattle.cip_tree.specs.Nodes.{Nodes}
use Rattle.cip_solve.specs.Mark.{Mark}
use Rattle.cip_solve.specs.KeptNodes.{cost_held, state_of, IsHolding}
use Rattle.cip_endings.specs.Ended.{Ended}
use Rattle.cip_endings.specs.Ended.TheVariants.{Optimal, Infeasible, Unbounded, NodeLimit, Gap, Wide, NoMemory}
use Rattle.cip_endings.specs.Held.{Held}
use Rattle.cip_endings.specs.AnswerOf.{held_of, ended_of}
use Rattle.cip_endings.specs.LeastBounds.{least_of, bound_held, flat, capped}
use Rattle.cip_endings.specs.Gaps.{reaches_gap}
use Rattle.cip_solve.specs.Logs.{numbers_of}
use Rattle.cip_solve.specs.Solved.{RayIsShown}
use Rattle.cip_endings.specs.Ends.{one_matters, EndsBy}
use Rattle.cip_solve.specs.Stopping.{BestIs}
use Rattle.cip_endings.specs.Worst.{worst_bound}
use Rattle.cip_solve.specs.Answered.{IsAnswered}
use Rattle.cip_solve.specs.Searching.{IsEndless, ReachesGapAt, StopsStill, StopsEndless, StopsRefused, IsWithin, CanBeSeen}
use Rattle.cip_endings.specs.declared.worst.Worst.{Worst}
use Rattle.cip_solve.proofs.AnswerLaws.{same_cost, is_point, refused_is_right, still_is_right}
use Rattle.cip_solve.proofs.ComesTo.{open_least, parked_least, least_of_all, comes_to}
use Rattle.cip_endings.proofs.GapLaws.{gap_reached, reached_gap}
use Rattle.cip_solve.proofs.LeastBounds.{same_least}
use Rattle.cip_solve.proofs.SeenLaws.{none_seen, log_law}
use Rattle.cip_solve.proofs.OpenBounds.{flat_least, not_empty, some_held, held_there, least_there}

-- ---- room for the point held

held_long : (program : Program) (best : Option HeldPoint) (n : ℕ) → IsWellFormed program → IfSome best (IsHeldOf program) → n ≡ columns program → IfSome best (λ held. length held.point ≡ n)
held_long program None n formed h e = tt
held_long program (Some held) n formed h e = IsInBox-long program.bounds held.point h.feasible.within ∙ formed.bounds ∙ sym e

pub held_room : (program : Program) (holding : Holding) (n : ℕ) → IsWellFormed program → IsHolding program holding → n ≡ columns program → IfSome holding.best (λ held. length held.point ≡ n)
held_room program holding n formed h e = held_long program holding.best n formed h.feasible e

-- ---- what each answer has

module _ (program reduced : Program) (kept : ℕ → ℕ) (start : Option ℚ) (nodes : ℕ) (asked : Option ℚ) (log : List Entry) (marks : List (ℕ × Mark)) (answer : ends.Answer) (c : CanBeSeen program reduced kept) (w : IsWithin program reduced start nodes log marks) (f : AllFollow reduced.integral (first_node reduced start ∷ []) [] log) where
  within_right : IsAnswer program start nodes asked (log_seen kept log) answer → (log ≡ [] → answer.ended ≡ ends.NoMemory) → ((ray : List ℚ) → answer.ended ≡ ends.Unbounded ray → (length ray ≡ columns program) × IsParkedLast log) → IsSearchAnswer program start nodes asked (log_seen kept log) (numbers_of marks) answer
  within_right a s r =
      let k = log_law program reduced kept start c log f in
      record {
        right = a;
        within = omega (arith, w.most, k.long);
        bound = answer_above program start nodes asked (log_seen kept log) answer w.lower a;
        searched = λ e. inl (s (none_seen kept log e));
        long = λ ray e. (r ray e).0;
        ray = λ ray e. k.last (r ray e).1;
        work = k.relaxed (numbers_of marks) w.told.work;
        marks = k.entries (numbers_of marks) w.told.are_of;
      }

  answered : IsAnswer program start nodes asked (log_seen kept log) answer → (log ≡ [] → answer.ended ≡ ends.NoMemory) → ((ray : List ℚ) → answer.ended ≡ ends.Unbounded ray → (length ray ≡ columns program) × IsParkedLast log) → RayIsShown program answer → IsAnswered program start nodes asked (log_seen kept log) marks answer
  answered a s r shown = record { right = within_right a s r; shown = shown; taken = λ e. s (none_seen kept log e) }

-- ---- it stands still

least_none : (a b : Option (Option ℚ)) → least_of a b ≡ None → (a ≡ None) × (b ≡ None)
least_none None None e = (refl, refl)
least_none None (Some b) e = absurd (cc)
least_none (Some a) None e = absurd (cc)
least_none (Some a) (Some b) e = absurd (cc)

held_none : (held : Option ℚ) → bound_held held ≡ None → held ≡ None
held_none None e = refl
held_none (Some cost) e = absurd (cc)

worst_none : (worst : Option Worst) → worst_bound worst ≡ None → worst ≡ None
worst_none None e = refl
worst_none (Some worst) e = absurd (cc)

nothing_ends : (ended : Ended) → EndsBy None None None ended → ended_of ended ≡ ends.Infeasible
nothing_ends Optimal h = absurd (let s = h.2 in cc)
nothing_ends Infeasible h = refl
nothing_ends (Unbounded ray) h = absurd h
nothing_ends NodeLimit h = absurd (true≢false (sym h))
nothing_ends Gap h = absurd h
nothing_ends (Wide leaf on shown) h = absurd (let s = h.1.is_worst in cc)
nothing_ends NoMemory h = absurd h

ended_none : (held : Option ℚ) (waiting : Option (Option ℚ)) (worst : Option Worst) (ended : Ended) → least_of (bound_held held) (least_of waiting (worst_bound worst)) ≡ None → EndsBy held waiting worst ended → ended_of ended ≡ ends.Infeasible
ended_none held waiting worst ended e h =
    let first = least_none (bound_held held) (least_of waiting (worst_bound worst)) e in
    let second = least_none waiting (worst_bound worst) first.1 in
    nothing_ends ended
    (subst (λ t. EndsBy t None None ended) (held_none held first.0)
    (subst (λ t. EndsBy held t None ended) second.0
    (subst (λ t. EndsBy held waiting t ended) (worst_none worst second.1) h)))

quiet_none : (bound : Option (Option ℚ)) → one_matters None bound ≡ false → bound ≡ None
quiet_none None e = refl
quiet_none (Some bound) e = absurd (true≢false e)

no_bound : (held : Option ℚ) (waiting : Option (Option ℚ)) (worst : Option Worst) (ended : Ended) → ended_of ended ≡ ends.Infeasible → EndsBy held waiting worst ended → flat (least_of (bound_held held) (least_of waiting (worst_bound worst))) ≡ None
no_bound held waiting worst Optimal e h = absurd (cc)
no_bound held waiting worst Infeasible e h =
    let first : waiting ≡ None = quiet_none waiting (ap (λ t. one_matters t waiting) (sym h.2) ∙ h.0) in
    let second : worst_bound worst ≡ None = quiet_none (worst_bound worst) (ap (λ t. one_matters t (worst_bound worst)) (sym h.2) ∙ h.1) in
    ap (λ t. flat (least_of (bound_held t) (least_of waiting (worst_bound worst)))) h.2
    ∙ (ap (λ t. flat (least_of None (least_of t (worst_bound worst)))) first ∙ ap flat second)
no_bound held waiting worst (Unbounded ray) e h = absurd h
no_bound held waiting worst NodeLimit e h = absurd (cc)
no_bound held waiting worst Gap e h = absurd h
no_bound held waiting worst (Wide leaf on shown) e h = absurd (cc)
no_bound held waiting worst NoMemory e h = absurd h

-- the gap that was asked for isn't reached
not_gap : (held : Option ℚ) (waiting : Option (Option ℚ)) (worst : Option Worst) (ended : Ended) → EndsBy held waiting worst ended → ¬ (ended_of ended ≡ ends.Gap)
not_gap held waiting worst Optimal h e = cc
not_gap held waiting worst Infeasible h e = cc
not_gap held waiting worst (Unbounded ray) h e = h
not_gap held waiting worst NodeLimit h e = cc
not_gap held waiting worst Gap h e = h
not_gap held waiting worst (Wide leaf on shown) h e = cc
not_gap held waiting worst NoMemory h e = h

not_endless : (held : Option ℚ) (waiting : Option (Option ℚ)) (worst : Option Worst) (ended : Ended) (ray : List ℚ) → EndsBy held waiting worst ended → ¬ (ended_of ended ≡ ends.Unbounded ray)
not_endless held waiting worst Optimal ray h e = cc
not_endless held waiting worst Infeasible ray h e = cc
not_endless held waiting worst (Unbounded other) ray h e = h
not_endless held waiting worst NodeLimit ray h e = cc
not_endless held waiting worst Gap ray h e = h
not_endless held waiting worst (Wide leaf on shown) ray h e = cc
not_endless held waiting worst NoMemory ray h e = h

-- ---- it stands still: what each end says of the gap that was asked for

module _ (program reduced : Program) (way : WayBack) (kept : ℕ → ℕ) (nodes : ℕ) (asked : Option ℚ) (tree_ : Nodes) (holding : Holding) (worst : Option Worst) (waiting : Option (Option ℚ)) (best : Option Held) (bound : Option ℚ) (c : CanBeSeen program reduced kept) (k : StopsStill program reduced way tree_.root.bound nodes asked tree_ holding worst) (m : MatchOption waiting (tree_.open_ ≡ []) (λ b. tree.IsLeastBound b tree_.open_)) (b : bound ≡ flat (least_of (bound_held (cost_held holding)) (least_of waiting (worst_bound worst)))) (is : BestIs holding.best best) where
  abbrev held : Option ℚ
  held = cost_held holding

  abbrev told : Option ends.Held
  told = option_map held_of best

  same : held ≡ ends.cost_of_held told
  same = same_cost holding.best best is

  reached_there : reaches_gap asked held bound ≡ true → ends.ReachesGap asked (ends.cost_of_held told) bound
  reached_there t = gap_reached asked (ends.cost_of_held told) bound (ap (λ h. reaches_gap asked h bound) (sym same) ∙ t)

  reached_back : ends.ReachesGap asked (ends.cost_of_held told) bound → reaches_gap asked held bound ≡ true
  reached_back r = ap (λ h. reaches_gap asked h bound) same ∙ reached_gap asked (ends.cost_of_held told) bound r

  -- it isn't reached: the budget is spent where a node is open
  spent_there : reaches_gap asked held bound ≡ false → tree_.open_ ≢ [] → length tree_.log ≡ nodes
  spent_there f n = elim (k.spent n) [
    | inl e ↦ e
    | inr near ↦ absurd (true≢false (sym (near_there near.1) ∙ f))
  ]
    where
      near_there : ReachesGapAt asked tree_ holding → reaches_gap asked held bound ≡ true
      near_there near =
          let l = least_there program reduced way tree_ holding worst waiting bound (held_there asked held near.bound near.reached) k.still.is_worst m b in
          ap (reaches_gap asked held) (same_least held (tree_.open_ ++ tree_.parked) bound near.bound l near.least) ∙ near.reached

  far_right : (ended : Ended) → reaches_gap asked held bound ≡ false → EndsBy held waiting worst ended → IsAnswer program tree_.root.bound nodes asked (log_seen kept tree_.log) (record { ended = ended_of ended; held = told; bound = bound })
  far_right ended f e =
      let state = state_of tree_ held [] in
      let all = least_of (bound_held held) (least_of waiting (worst_bound worst)) in
      let o = open_least tree_.open_ waiting m in
      still_is_right program reduced way kept tree_.root.bound c nodes asked state k.still.kept.searched told bound (ended_of ended) k.still.kept.as_given refl same (is_point program holding.columns holding.best best k.still.is_held.feasible is)
      (comes_to program reduced way tree_.root.bound nodes state k.still.kept.searched refl waiting worst o k.still.is_worst (spent_there f) ended e)
      (λ n. subst (IsLeastBound held (tree_.open_ ++ tree_.parked)) (sym b)
      (flat_least held tree_.open_ tree_.parked all (λ g. n (ended_none held waiting worst ended g e))
      (least_of_all held tree_.open_ tree_.parked waiting (worst_bound worst) o (parked_least program reduced way tree_.parked worst k.still.is_worst))))
      (λ g. b ∙ no_bound held waiting worst ended g e)
      (λ n. (λ g. absurd (not_gap held waiting worst ended e g), λ r. absurd (true≢false (sym (reached_back r) ∙ f))))

  near_right : reaches_gap asked held bound ≡ true → IsAnswer program tree_.root.bound nodes asked (log_seen kept tree_.log) (record { ended = ends.Gap; held = told; bound = bound })
  near_right t =
      still_is_right program reduced way kept tree_.root.bound c nodes asked (state_of tree_ held []) k.still.kept.searched told bound ends.Gap k.still.kept.as_given refl same (is_point program holding.columns holding.best best k.still.is_held.feasible is)
      (some_held held (held_there asked held bound t))
      (λ n. least_there program reduced way tree_ holding worst waiting bound (held_there asked held bound t) k.still.is_worst m b)
      (λ g. absurd (cc))
      (λ n. (λ g. reached_there t, λ r. refl))

  -- by the test
  by_test : (ended : Ended) (test : Bool) → reaches_gap asked held bound ≡ test → (reaches_gap asked held bound ≡ true → ended ≡ Gap) → (reaches_gap asked held bound ≡ false → EndsBy held waiting worst ended) → IsAnswer program tree_.root.bound nodes asked (log_seen kept tree_.log) (record { ended = ended_of ended; held = told; bound = bound })
  by_test ended true t n f =
      subst (λ e. IsAnswer program tree_.root.bound nodes asked (log_seen kept tree_.log) (record { ended = ended_of e; held = told; bound = bound })) (sym (n t)) (near_right t)
  by_test ended false t n f = far_right ended t (f t)

  -- and it isn't unbounded
  no_ray : (ended : Ended) (test : Bool) → reaches_gap asked held bound ≡ test → (reaches_gap asked held bound ≡ true → ended ≡ Gap) → (reaches_gap asked held bound ≡ false → EndsBy held waiting worst ended) → (ray : List ℚ) → ¬ (ended_of ended ≡ ends.Unbounded ray)
  no_ray ended true t n f ray e = let g : ends.Gap ≡ ends.Unbounded ray = sym (ap ended_of (n t)) ∙ e in cc
  no_ray ended false t n f ray e = not_endless held waiting worst ended ray (f t) e

-- a node was taken
some_taken : (program reduced : Program) (way : WayBack) (start : Option ℚ) (nodes : ℕ) (asked : Option ℚ) (tree_ : Nodes) (holding : Holding) (worst : Option Worst) → 0 < nodes → StopsStill program reduced way start nodes asked tree_ holding worst → tree_.log ≢ []
some_taken program reduced way start nodes asked tree_ holding worst l k e = elim (k.spent (k.still.begun e)) [
  | inl f ↦ omega (arith, l, f, ap length e)
  | inr near ↦ near.0 e
]

pub still_right : (program reduced : Program) (way : WayBack) (kept : ℕ → ℕ) (nodes : ℕ) (asked : Option ℚ) (marks : List (ℕ × Mark)) (tree_ : Nodes) (holding : Holding) (worst : Option Worst) (waiting : Option (Option ℚ)) (best : Option Held) (bound : Option ℚ) (ended : Ended) → CanBeSeen program reduced kept → StopsStill program reduced way tree_.root.bound nodes asked tree_ holding worst → IsWithin program reduced tree_.root.bound nodes tree_.log marks → MatchOption waiting (tree_.open_ ≡ []) (λ b. tree.IsLeastBound b tree_.open_) → bound ≡ flat (least_of (bound_held (cost_held holding)) (least_of waiting (worst_bound worst))) → (reaches_gap asked (cost_held holding) bound ≡ true → ended ≡ Gap) → (reaches_gap asked (cost_held holding) bound ≡ false → EndsBy (cost_held holding) waiting worst ended) → BestIs holding.best best → IsAnswered program tree_.root.bound nodes asked (log_seen kept tree_.log) marks (record { ended = ended_of ended; held = option_map held_of best; bound = bound })
still_right program reduced way kept nodes asked marks tree_ holding worst waiting best bound ended c k w m b n f is =
    let test = reaches_gap asked (cost_held holding) bound in
    let answer : ends.Answer = record { ended = ended_of ended; held = option_map held_of best; bound = bound } in
    answered program reduced kept tree_.root.bound nodes asked tree_.log marks answer c w k.still.kept.searched.logged
    (by_test program reduced way kept nodes asked tree_ holding worst waiting best bound c k m b is ended test refl n f)
    (λ g. absurd (some_taken program reduced way tree_.root.bound nodes asked tree_ holding worst w.some k g))
    (λ ray g. absurd (no_ray program reduced way kept nodes asked tree_ holding worst waiting best bound c k m b is ended test refl n f ray g))
    (λ ray g. absurd (no_ray program reduced way kept nodes asked tree_ holding worst waiting best bound c k m b is ended test refl n f ray g))

-- ---- the other stops

parked_some : (log : List Entry) → IsParkedLast log → log ≢ []
parked_some log p e = not_empty p.before p.entry (sym p.placed ∙ e)

endless_there : (program reduced : Program) (kept : ℕ → ℕ) (start : Option ℚ) (nodes : ℕ) (asked : Option ℚ) (log : List Entry) (cost : ℚ) (point ray : List ℚ) → CanBeSeen program reduced kept → StopsEndless program reduced start log point ray → cost ≡ cost_of program point → IsAnswer program start nodes asked (log_seen kept log) (record { ended = ends.Unbounded ray; held = Some (record { cost = cost; point = point }); bound = None })
endless_there program reduced kept start nodes asked log cost point ray c k e =
    record {
      point = record { feasible = k.falls.feasible; cost = e };
      end_ = record { held = record { cost = cost; point = point }; is_held = refl; falls = falls_along program point ray c.formed k.falls.feasible k.falls.shown.is_ray; no_bound = refl };
      logged = alike.is_log program start (log_seen kept log) (log_law program reduced kept start c log k.logged).followed;
    }

ray_long : (program : Program) (point ray : List ℚ) → IsWellFormed program → IsEndless program point ray → length ray ≡ columns program
ray_long program point ray formed e =
    AllZip-long (λ (sides : Sides) (change : ℚ). StaysBetween sides.low sides.high change) program.bounds ray e.shown.is_ray.within ∙ formed.bounds

same_ray : (ray other : List ℚ) → ends.Unbounded ray ≡ ends.Unbounded other → ray ≡ other
same_ray ray other e = cc

pub endless_right : (program reduced : Program) (kept : ℕ → ℕ) (start : Option ℚ) (nodes : ℕ) (asked : Option ℚ) (log : List Entry) (marks : List (ℕ × Mark)) (cost : ℚ) (point ray : List ℚ) → CanBeSeen program reduced kept → StopsEndless program reduced start log point ray → IsWithin program reduced start nodes log marks → cost ≡ cost_of program point → IsAnswered program start nodes asked (log_seen kept log) marks (record { ended = ends.Unbounded ray; held = Some (record { cost = cost; point = point }); bound = None })
endless_right program reduced kept start nodes asked log marks cost point ray c k w e =
    let answer : ends.Answer = record { ended = ends.Unbounded ray; held = Some (record { cost = cost; point = point }); bound = None } in
    answered program reduced kept start nodes asked log marks answer c w k.logged
    (endless_there program reduced kept start nodes asked log cost point ray c k e)
    (λ f. absurd (parked_some log k.last f))
    (λ other f. (subst (λ r. length r ≡ columns program) (same_ray ray other f) (ray_long program point ray c.formed k.falls), k.last))
    (λ other f. record { point = point; is_held = refl; shown = subst (IsShownRay program point) (same_ray ray other f) k.falls.shown })

refused_there : (program reduced : Program) (way : WayBack) (kept : ℕ → ℕ) (start : Option ℚ) (nodes : ℕ) (asked : Option ℚ) (tree_ : Nodes) (holding : Holding) (best : Option Held) (bound last : Option ℚ) → CanBeSeen program reduced kept → StopsRefused program reduced way start tree_ holding bound → IsHolding program holding → BestIs holding.best best → last ≡ capped (cost_held holding) bound → IsAnswer program start nodes asked (log_seen kept tree_.log) (record { ended = ends.NoMemory; held = option_map held_of best; bound = last })
refused_there program reduced way kept start nodes asked tree_ holding best bound last c k h is e =
    let held = option_map held_of best in
    let same : cost_held holding ≡ ends.cost_of_held held = same_cost holding.best best is in
    let right = refused_is_right program reduced way kept start c nodes asked (state_of tree_ (cost_held holding) [])
    (subst (λ s. IsSearch program reduced way IsWideLeaf s (state_of tree_ (cost_held holding) [])) k.start_is k.searched)
    held bound same (is_point program holding.columns holding.best best h.feasible is) k.was_least in
    subst (λ t. IsAnswer program start nodes asked (log_seen kept tree_.log) (record { ended = ends.NoMemory; held = held; bound = t })) (sym (e ∙ ap (λ t. capped t bound) same)) right

pub refused_right : (program reduced : Program) (way : WayBack) (kept : ℕ → ℕ) (start : Option ℚ) (nodes : ℕ) (asked : Option ℚ) (marks : List (ℕ × Mark)) (tree_ : Nodes) (holding : Holding) (best : Option Held) (bound last : Option ℚ) → CanBeSeen program reduced kept → StopsRefused program reduced way start tree_ holding bound → IsHolding program holding → IsWithin program reduced start nodes tree_.log marks → BestIs holding.best best → last ≡ capped (cost_held holding) bound → IsAnswered program start nodes asked (log_seen kept tree_.log) marks (record { ended = ends.NoMemory; held = option_map held_of best; bound = last })
refused_right program reduced way kept start nodes asked marks tree_ holding best bound last c k h w is e =
    let answer : ends.Answer = record { ended = ends.NoMemory; held = option_map held_of best; bound = last } in
    answered program reduced kept start nodes asked tree_.log marks answer c w
    (subst (λ s. AllFollow reduced.integral (first_node reduced s ∷ []) [] tree_.log) k.start_is k.searched.logged)
    (refused_there program reduced way kept start nodes asked tree_ holding best bound last c k h is e)
    (λ f. refl) (λ ray f. absurd (cc)) (λ ray f. absurd (cc))
