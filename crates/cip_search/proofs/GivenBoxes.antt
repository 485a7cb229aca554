-- Boxes stay as the log gave them.
use Rattle.std.proofs.Common.{◌≡◌, inl, inr, ℕ, ℤ, Bool, List, [], ◌∷◌, ◌++◌, filter, Option, Some, Contains, sym, ap, ◌∙◌, subst}
use Rattle.std.specs.List.Sorted.{IsPermutation}
use Rattle.std.proofs.lemmas.Option.{same_Some}
use Rattle.std.proofs.lemmas.List.Elements.{Contains-append_left, Contains-append_right, Contains-append_cases, Contains-push_cases}
use Rattle.std.proofs.lemmas.List.Sorted.{Contains-permutation, IsPermutation-sym}
use Rattle.cip_rational.specs.Rational.{ℚ}
use Rattle.cip_problem.specs.Program.{Program}
use Rattle.cip_problem.specs.Log.{End, Closed, Parked, Split, Entry, Node, node_of, CanSplit, AllFollow}
use Rattle.cip_problem.proofs.Log.SameHalves.{low_box, high_box}
use Rattle.cip_problem.proofs.Log.Entering.{contains_here, contains_cons, contains_later}
use Rattle.cip_problem.proofs.Covers.{the_only}
use Rattle.cip_search.specs.Searched.{first_node, nodes_given}
use Rattle.cip_search.specs.SearchState.{State, WayBack, unended, all_nodes, parked_entry, IsSearch, HasGivenBoxes}
use Rattle.cip_search.specs.Statements.{closed_entry, split_entry, AreHalves}
use Rattle.cip_search.proofs.Members.{kept_was_there}
use Rattle.cip_search.proofs.Kept.{with_more, behind_more}
use Rattle.cip_search.proofs.OneMore.{node_of_among}
use Rattle.cip_search.proofs.Ended as ended

module _ (reduced : Program) (start : Option ℚ) where
  pub begun : (held : Option ℚ) → HasGivenBoxes reduced start (record { held = held; work = []; open_ = first_node reduced start ∷ []; parked = []; log = [] })
  begun held =
      let first = first_node reduced start in
      let same : (node given : Node) → Contains (first ∷ []) node → node_of (first ∷ []) node.number ≡ Some given → node ≡ given =
      λ node given c e. sym (the_only first node c) ∙ the_only first given (node_of_among (first ∷ []) node.number given e).0 in
      record {
        boxes = λ node given c e. ap (λ t. t.box) (same node given c e);
      }

  -- nodes stand elsewhere
  moved : (state : State) (work open_ : List Node) → ((node : Node) → Contains (work ++ open_) node → Contains (unended state) node) → HasGivenBoxes reduced start state → HasGivenBoxes reduced start (record state { work = work; open_ = open_ })
  moved state work open_ f h = record {
    boxes = λ node given c e. h.boxes node given (with_more (work ++ open_) (unended state) state.parked f node c) e;
  }

  pub taken : (state : State) (node : Node) (open_ : List Node) → IsPermutation state.open_ (node ∷ open_) → HasGivenBoxes reduced start state → HasGivenBoxes reduced start (record state { work = node ∷ state.work; open_ = open_ })
  taken state node open_ p h =
      let back : (other : Node) → Contains (node ∷ open_) other → Contains state.open_ other = λ other c. Contains-permutation (node ∷ open_) state.open_ other (IsPermutation-sym state.open_ (node ∷ open_) p) c in
      moved state (node ∷ state.work) open_
      (λ other c. elim (contains_cons node other (state.work ++ open_) c) [
        | inl e ↦ Contains-append_right state.work state.open_ other (back other (subst (Contains (node ∷ open_)) e (contains_here node open_)))
        | inr k ↦ behind_more state.work open_ state.open_ (λ o i. back o (contains_later node o open_ i)) other k
      ])
      h

  pub raised : (state : State) (node : Node) (work : List Node) (b : Option ℚ) → state.work ≡ node ∷ work → HasGivenBoxes reduced start state → HasGivenBoxes reduced start (record state { work = record node { bound = b } ∷ work })
  raised state node work b w h =
      let rest = (work ++ state.open_) ++ state.parked in
      let put : (other : Node) → Contains (node ∷ rest) other → Contains (all_nodes state) other = λ other c. subst (λ t. Contains ((t ++ state.open_) ++ state.parked) other) (sym w) c in
      record {
        boxes = λ other given c. elim (contains_cons (record node { bound = b }) other rest c) [
          | inl k ↦ subst (λ (n : Node). node_of (nodes_given reduced start state.log) n.number ≡ Some given → n.box ≡ given.box) k (λ e. h.boxes node given (put node (contains_here node rest)) e)
          | inr k ↦ h.boxes other given (put other (contains_later node other rest k))
        ];
      }

  pub offered : (state : State) (held : Option ℚ) → HasGivenBoxes reduced start state → HasGivenBoxes reduced start (record state { held = held })
  offered state held h = record { boxes = h.boxes }

  pub closed_from : (state : State) (open_ : List Node) (stays : Node → Bool) → IsPermutation (filter stays state.open_) open_ → HasGivenBoxes reduced start state → HasGivenBoxes reduced start (record state { open_ = open_ })
  closed_from state open_ stays p h =
      let left : (node : Node) → Contains open_ node → Contains state.open_ node = λ node c. kept_was_there stays state.open_ node (Contains-permutation open_ (filter stays state.open_) node (IsPermutation-sym (filter stays state.open_) open_ p) c) in
      moved state state.work open_ (behind_more state.work open_ state.open_ left) h

  pub put_back : (state : State) (node : Node) (work open_ : List Node) → state.work ≡ node ∷ work → IsPermutation (node ∷ state.open_) open_ → HasGivenBoxes reduced start state → HasGivenBoxes reduced start (record state { work = work; open_ = open_ })
  put_back state node work open_ w p h =
      let back : (other : Node) → Contains open_ other → Contains (node ∷ state.open_) other = λ other c. Contains-permutation open_ (node ∷ state.open_) other (IsPermutation-sym (node ∷ state.open_) open_ p) c in
      moved state work open_
      (λ other c. subst (λ t. Contains (t ++ state.open_) other) (sym w) (elim (Contains-append_cases work open_ other c) [
        | inl k ↦ contains_later node other (work ++ state.open_) (Contains-append_left work state.open_ other k)
        | inr k ↦ elim (contains_cons node other state.open_ (back other k)) [
          | inl e ↦ subst (Contains (node ∷ (work ++ state.open_))) e (contains_here node (work ++ state.open_))
          | inr j ↦ contains_later node other (work ++ state.open_) (Contains-append_right work state.open_ other j)
        ]
      ]))
      h

module _ (program reduced : Program) (way : WayBack) (Wide : Program → List ℚ → Type 0) (start : Option ℚ) where
  -- a node that was there is given as it was
  was_given : (held : Option ℚ) (node : Node) (work open_ parked : List Node) (log : List Entry) (end : End) (s : ended.At program reduced way Wide start held (node ∷ work) open_ parked log) (other given : Node) → Contains (node ∷ ((work ++ open_) ++ parked)) other → node_of (nodes_given reduced start (log ++ record { node = node.number; bound = node.bound; end = end } ∷ [])) other.number ≡ Some given → node_of (nodes_given reduced start log) other.number ≡ Some given
  was_given held node work open_ parked log end s other given c e =
      let g = s.given other c in
      g.found ∙ ap Some (ended.same_given program reduced way Wide start held node work open_ parked log end s other.number g.given given g.found e)

  -- the first node in work has the box that the log gave it, and so have the others, of which some are open
  abbrev As : Option ℚ → List Node → List Node → List Node → List Entry → Type 0
  As held work open_ parked log = HasGivenBoxes reduced start (record { held = held; work = work; open_ = open_; parked = parked; log = log })

  closed_at : (held : Option ℚ) (node : Node) (work open_ parked : List Node) (log : List Entry) → ended.At program reduced way Wide start held (node ∷ work) open_ parked log → As held (node ∷ work) open_ parked log → As held work open_ parked (log ++ closed_entry node ∷ [])
  closed_at held node work open_ parked log s h =
      let rest = (work ++ open_) ++ parked in
      record {
        boxes = λ other given c e. h.boxes other given (contains_later node other rest c) (was_given held node work open_ parked log Closed s other given (contains_later node other rest c) e);
      }

  parked_at : (held : Option ℚ) (node : Node) (work open_ parked : List Node) (log : List Entry) → ended.At program reduced way Wide start held (node ∷ work) open_ parked log → As held (node ∷ work) open_ parked log → As held work open_ (parked ++ node ∷ []) (log ++ parked_entry node ∷ [])
  parked_at held node work open_ parked log s h =
      let rest = (work ++ open_) ++ parked in
      let back : (other : Node) → Contains ((work ++ open_) ++ (parked ++ node ∷ [])) other → Contains (node ∷ rest) other =
      λ other c. elim (Contains-append_cases (work ++ open_) (parked ++ node ∷ []) other c) [
        | inl k ↦ contains_later node other rest (Contains-append_left (work ++ open_) parked other k)
        | inr k ↦ elim (Contains-push_cases parked node other k) [
          | inl j ↦ contains_later node other rest (Contains-append_right (work ++ open_) parked other j)
          | inr e ↦ subst (Contains (node ∷ rest)) e (contains_here node rest)
        ]
      ] in
      record {
        boxes = λ other given c e. h.boxes other given (back other c) (was_given held node work open_ parked log Parked s other given (back other c) e);
      }

  pub closed : (state : State) (node : Node) (work : List Node) → state.work ≡ node ∷ work → IsSearch program reduced way Wide start state → HasGivenBoxes reduced start state → HasGivenBoxes reduced start (record state { work = work; log = state.log ++ closed_entry node ∷ [] })
  closed state node work e s h = closed_at state.held node work state.open_ state.parked state.log (ended.written program reduced way Wide start state node work e s) (subst (λ t. HasGivenBoxes reduced start (record state { work = t })) e h)

  pub parked : (state : State) (node : Node) (work : List Node) → state.work ≡ node ∷ work → IsSearch program reduced way Wide start state → HasGivenBoxes reduced start state → HasGivenBoxes reduced start (record state { work = work; parked = state.parked ++ node ∷ []; log = state.log ++ record { node = node.number; bound = node.bound; end = Parked } ∷ [] })
  parked state node work e s h = parked_at state.held node work state.open_ state.parked state.log (ended.written program reduced way Wide start state node work e s) (subst (λ t. HasGivenBoxes reduced start (record state { work = t })) e h)

  module _ (held : Option ℚ) (node low high : Node) (work open_ parked now : List Node) (log : List Entry) (column : ℕ) (at : ℤ) (can : CanSplit reduced.integral node column at) (halved : AreHalves node column at low high) (p : IsPermutation (low ∷ high ∷ open_) now) (followed : AllFollow reduced.integral (first_node reduced start ∷ []) [] (log ++ split_entry node column at low.number high.number ∷ [])) (s : ended.At program reduced way Wide start held (node ∷ work) open_ parked log) (h : As held (node ∷ work) open_ parked log) where
    rest : List Node
    rest = (work ++ open_) ++ parked

    abbrev after : List Node
    after = nodes_given reduced start (log ++ split_entry node column at low.number high.number ∷ [])

    abbrev low_given : Node
    low_given = ended.low_given program reduced way Wide start held node low high work open_ parked now log column at can halved p followed s

    abbrev high_given : Node
    high_given = ended.high_given program reduced way Wide start held node low high work open_ parked now log column at can halved p followed s

    is_low : (given : Node) → node_of after low.number ≡ Some given → low_given ≡ given
    is_low given e = same_Some low_given given (sym (ended.low_found program reduced way Wide start held node low high work open_ parked now log column at can halved p followed s) ∙ e)

    is_high : (given : Node) → node_of after high.number ≡ Some given → high_given ≡ given
    is_high given e = same_Some high_given given (sym (ended.high_found program reduced way Wide start held node low high work open_ parked now log column at can halved p followed s) ∙ e)

    -- the node's own box is the one that was given
    same_box : node.box ≡ (ended.node_given program reduced way Wide start held node work open_ parked log (Split column at low.number high.number) s).given.box
    same_box =
        let g = ended.node_given program reduced way Wide start held node work open_ parked log (Split column at low.number high.number) s in
        h.boxes node g.given (contains_here node ((work ++ open_) ++ parked)) g.found

    abbrev was_given_node : Node
    was_given_node = (ended.node_given program reduced way Wide start held node work open_ parked log (Split column at low.number high.number) s).given

    same_choices : node.choices ≡ was_given_node.choices
    same_choices = (ended.node_given program reduced way Wide start held node work open_ parked log (Split column at low.number high.number) s).choices

    old_box : (other given : Node) → Contains (node ∷ ((work ++ open_) ++ parked)) other → node_of after other.number ≡ Some given → other.box ≡ given.box
    old_box other given c e = h.boxes other given c (was_given held node work open_ parked log (Split column at low.number high.number) s other given c e)

    split_boxes : (other given : Node) → Contains ((work ++ now) ++ parked) other → node_of after other.number ≡ Some given → other.box ≡ given.box
    split_boxes other given c = elim (Contains-append_cases (work ++ now) parked other c) [
      | inl k ↦ elim (ended.now_cases program reduced way Wide start held node low high work open_ parked now log column at can halved p followed s other k) [
        | inl j ↦ subst (λ (n : Node). node_of after n.number ≡ Some given → n.box ≡ given.box) j (λ e. halved.low_box ∙ low_box node was_given_node column at same_box same_choices ∙ ap (λ (n : Node). n.box) (is_low given e))
        | inr (inl j) ↦ subst (λ (n : Node). node_of after n.number ≡ Some given → n.box ≡ given.box) j (λ e. halved.high_box ∙ high_box node was_given_node column at same_box same_choices ∙ ap (λ (n : Node). n.box) (is_high given e))
        | inr (inr j) ↦ old_box other given (contains_later node other ((work ++ open_) ++ parked) (Contains-append_left (work ++ open_) parked other j))
      ]
      | inr k ↦ old_box other given (contains_later node other ((work ++ open_) ++ parked) (Contains-append_right (work ++ open_) parked other k))
    ]

    split_at : As held work now parked (log ++ split_entry node column at low.number high.number ∷ [])
    split_at = record { boxes = split_boxes }

  pub split : (state : State) (node low high : Node) (work open_ : List Node) (column : ℕ) (at : ℤ) → state.work ≡ node ∷ work → CanSplit reduced.integral node column at → AreHalves node column at low high → IsPermutation (low ∷ high ∷ state.open_) open_ → AllFollow reduced.integral (first_node reduced start ∷ []) [] (state.log ++ split_entry node column at low.number high.number ∷ []) → IsSearch program reduced way Wide start state → HasGivenBoxes reduced start state → HasGivenBoxes reduced start (record state { work = work; open_ = open_; log = state.log ++ split_entry node column at low.number high.number ∷ [] })
  split state node low high work open_ column at e can halved p followed s h =
      split_at state.held node low high work state.open_ state.parked open_ state.log column at can halved p followed (ended.written program reduced way Wide start state node work e s) (subst (λ t. HasGivenBoxes reduced start (record state { work = t })) e h)
