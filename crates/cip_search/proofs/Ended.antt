-- Steps that add an entry to the log: the first node in work ends.
use Rattle.std.proofs.Common.{◌≡◌, ◌≢◌, ◌⊎◌, inl, inr, ℕ, ◌+◌, ℤ, Bool, true, false, cond, List, [], ◌∷◌, ◌++◌, map, sum_by, Option, None, Some, Contains, refl, sym, ap, ◌∙◌, subst, arith}
use Rattle.std.specs.List.Sorted.{IsPermutation}
use Rattle.std.proofs.lemmas.Bool.Decides.{eqb_tells}
use Rattle.std.proofs.lemmas.Option.{none-some, same_Some}
use Rattle.std.proofs.lemmas.List.{append-nil, map-append}
use Rattle.std.proofs.lemmas.List.Elements.{Contains-append_left, Contains-append_right, Contains-append_cases, Contains-push, Contains-push_cases, filter-append}
use Rattle.std.proofs.lemmas.List.Sums.{sum_by-cons, sum_by-append}
use Rattle.std.proofs.lemmas.List.Sorted.{Contains-permutation, IsPermutation-sym, sum_by-IsPermutation}
use Rattle.cip_rational.specs.Rational.{ℚ}
use Rattle.cip_problem.specs.Program.{Program}
use Rattle.cip_problem.specs.Box.{IsInBox}
use Rattle.cip_problem.specs.Log.{End, Split, Closed, Parked, Entry, Node, low_node, high_node, node_of, halves, nodes_of, given_after, CanSplit, IsRightEnd, AllFollow, matters}
use Rattle.cip_problem.proofs.Log.Halves.{low_node_within, high_node_within}
use Rattle.cip_problem.proofs.Log.SameHalves.{low_choices, high_choices, low_node_of_both, high_node_of_both}
use Rattle.cip_problem.specs.Improving.{HasNoImproving}
use Rattle.cip_problem.specs.Cover.{IsCover}
use Rattle.cip_problem.proofs.Covers as covers
use Rattle.cip_problem.proofs.Emptiness.{closed_by_bound}
use Rattle.cip_problem.proofs.Log.Entering.{taken_given, follow_more, taken_more, given_more, node_of_here, node_of_later, node_of_kept, node_of_new, contains_here, contains_cons, contains_later}
use Rattle.cip_problem.proofs.Covers.{none_of_nothing, the_only}
use Rattle.cip_search.specs.Searched.{first_node, nodes_given, IsLeftOpen}
use Rattle.cip_search.specs.SearchState.{State, WayBack, HasNoEntry, IsGiven, AreApart, HasNumber, IsRightEntry, parked_entry, is_parked_end, parked_entries, LeadsToWide, IsStuck, IsSearch}
use Rattle.cip_search.specs.Statements.{closed_entry, split_entry, AreHalves}
use Rattle.cip_search.proofs.Members.{mapped, hits, hit, missed, none_hits, others_apart, rest_apart}
use Rattle.cip_search.proofs.Bounds.{HoldsThere, no_more_same, there_inside}
use Rattle.cip_search.proofs.Told.{given_node_of}
use Rattle.cip_search.proofs.Kept.{same_cover, with_more}
use Rattle.cip_search.proofs.Leading.{leads_to_wide}
use Rattle.cip_search.proofs.OneMore.{none_or_some, node_of_among, taken_before, taken_last}

-- ---- the last entry of a log

-- a node that was given before it, and its right end
record IsLast (integral : List Bool) (given : List Node) (entry : Entry) : Type 0 where
  node : Node
  found : node_of given entry.node ≡ Some node
  right : IsRightEnd integral given node entry.end

last_of : (integral : List Bool) (given : List Node) (taken : List ℕ) (log : List Entry) (entry : Entry) → AllFollow integral given taken (log ++ entry ∷ []) → IsLast integral (given_after given log) entry
last_of integral given taken [] entry h = record { node = h.0.node; found = h.0.given_before; right = h.0.right }
last_of integral given taken (x ∷ log) entry h = last_of integral (given ++ nodes_of given x) (x.node ∷ taken) log entry h.1

pub none_closed : (node : Option Node) (bound : Option ℚ) → halves node bound Closed ≡ []
none_closed None bound = refl
none_closed (Some node) bound = refl

pub none_parked : (node : Option Node) (bound : Option ℚ) → halves node bound Parked ≡ []
none_parked None bound = refl
none_parked (Some node) bound = refl

-- ---- one entry more

module _ (program reduced : Program) (way : WayBack) (Wide : Program → List ℚ → Type 0) (start : Option ℚ) where
  -- a search whose first node in work is this
  abbrev pub At : Option ℚ → List Node → List Node → List Node → List Entry → Type 0
  At held work open_ parked log = IsSearch program reduced way Wide start (record { held = held; work = work; open_ = open_; parked = parked; log = log })

  module _ (held : Option ℚ) (node : Node) (work open_ parked : List Node) (log : List Entry) (end : End) (s : At held (node ∷ work) open_ parked log) where
    abbrev pub entry : Entry
    entry = record { node = node.number; bound = node.bound; end = end }

    abbrev pub before : List Node
    before = nodes_given reduced start log

    abbrev pub after : List Node
    after = nodes_given reduced start (log ++ entry ∷ [])

    abbrev pub more : List Node
    more = nodes_of before entry

    abbrev pub rest : List Node
    rest = work ++ open_

    pub node_given : IsGiven reduced start log held node
    node_given = s.given node (contains_here node (rest ++ parked))

    pub after_is : after ≡ before ++ more
    after_is = given_more (first_node reduced start ∷ []) log entry

    pub still : (number : ℕ) (given : Node) → node_of before number ≡ Some given → node_of after number ≡ Some given
    still number given e = ap (λ g. node_of g number) after_is ∙ node_of_kept before more number given e

    pub given_still : (other : Node) → IsGiven reduced start log held other → IsGiven reduced start (log ++ entry ∷ []) held other
    given_still other g = record { given = g.given; found = still other.number g.given g.found; holds = g.holds; keeps = g.keeps; choices = g.choices; bound = g.bound }

    pub unlogged_node : HasNoEntry log node.number
    unlogged_node = s.unlogged node (contains_here node rest)

    pub no_entry_still : (number : ℕ) → HasNoEntry log number → number ≢ node.number → HasNoEntry (log ++ entry ∷ []) number
    no_entry_still number h d = λ c. elim (taken_more log entry number c) [
      | inl k ↦ h k
      | inr e ↦ d (sym e)
    ]

    pub rest_unlogged : (other : Node) → Contains rest other → HasNoEntry (log ++ entry ∷ []) other.number
    rest_unlogged other c = no_entry_still other.number (s.unlogged other (contains_later node other rest c)) (others_apart node rest s.apart other c)

    -- the entry is right of the node that was given
    entry_right : IsRightEntry reduced held node_given.given entry
    entry_right = record {
      kept = node_given.bound;
      holds = there_inside reduced held node.bound node.box node_given.given.box node_given.keeps (s.cover.bounded node (contains_here node (rest ++ parked)));
    }

    pub same_given : (number : ℕ) (given other : Node) → node_of before number ≡ Some given → node_of after number ≡ Some other → given ≡ other
    same_given number given other e f = same_Some given other (sym (still number given e) ∙ f)

    pub entries_right : (e : Entry) (of : Node) → Contains (log ++ entry ∷ []) e → node_of after e.node ≡ Some of → IsRightEntry reduced held of e
    entries_right e of c f = elim (Contains-push_cases log entry e c) [
      | inl k ↦
          let was = taken_given reduced.integral (first_node reduced start ∷ []) [] log e.node s.logged (has_taken e k) in
          subst (λ n. IsRightEntry reduced held n e) (same_given e.node was.0 of was.1 f) (s.entries e was.0 k was.1)
      | inr k ↦
          let found : node_of before e.node ≡ Some node_given.given = ap (λ (t : Entry). node_of before t.node) (sym k) ∙ node_given.found in
          subst (λ n. IsRightEntry reduced held n e) (same_given e.node node_given.given of found f) (subst (IsRightEntry reduced held node_given.given) k entry_right)
    ]
      where
        has_taken : (e : Entry) → Contains log e → Contains (map (λ (t : Entry). t.node) log) e.node
        has_taken e k = mapped (λ (t : Entry). t.node) log e k

    -- what is left open was so before, but for what the entry gives
    pub left_before : (other : Node) → IsLeftOpen reduced start (log ++ entry ∷ []) other → IsLeftOpen reduced start log other ⊎ (node_of more other.number ≡ Some other)
    left_before other l =
        let g : node_of (before ++ more) other.number ≡ Some other = subst (λ t. node_of t other.number ≡ Some other) after_is l.given in
        elim (none_or_some (node_of before other.number)) [
          | inl none ↦ inr (sym (node_of_new before more other.number none) ∙ g)
          | inr (first, is) ↦ inl (record {
            given = is ∙ ap Some (same_Some first other (sym (node_of_kept before more other.number first is) ∙ g));
            not_taken = λ k. l.not_taken (taken_before log entry other.number k);
          })
        ]

    pub left_apart : (other : Node) → IsLeftOpen reduced start (log ++ entry ∷ []) other → node.number ≢ other.number
    left_apart other l e = l.not_taken (subst (Contains (map (λ (t : Entry). t.node) (log ++ entry ∷ []))) e (taken_last log entry))

    pub left_complete : (other : Node) → IsLeftOpen reduced start (log ++ entry ∷ []) other → IsLeftOpen reduced start log other → matters held other.bound ≡ true → HasNumber rest other.number
    left_complete other l k m = let h = s.complete other k m in elim (contains_cons node h.node rest h.among) [
      | inl e ↦ absurd (left_apart other l (ap (λ t. t.number) e ∙ h.is))
      | inr c ↦ record { node = h.node; among = c; is = h.is }
    ]

    -- ---- it gives no nodes

    pub ended : ((given : Node) → IsRightEnd reduced.integral before given end) → more ≡ [] → (aside : List Node) → IsCover reduced held (rest ++ aside) → ((other : Node) → Contains aside other → Contains (node ∷ parked) other) → parked_entries (log ++ entry ∷ []) ≡ map parked_entry aside → ((other : Node) → Contains aside other → LeadsToWide program reduced Wide held other) → At held work open_ aside (log ++ entry ∷ [])
    ended right none aside cover known entries stuck =
        let same : after ≡ before = after_is ∙ ap (λ t. before ++ t) none ∙ append-nil before in
        record {
          back = s.back;
          attained = s.attained;
          cover = cover;
          logged = follow_more reduced.integral (first_node reduced start ∷ []) [] log entry node_given.given s.logged node_given.found (none_of_nothing node.number) unlogged_node (right node_given.given);
          given = λ other c. given_still other (elim (Contains-append_cases rest aside other c) [
            | inl k ↦ s.given other (contains_later node other (rest ++ parked) (Contains-append_left rest parked other k))
            | inr k ↦ elim (contains_cons node other parked (known other k)) [
              | inl e ↦ subst (IsGiven reduced start log held) e node_given
              | inr j ↦ s.given other (contains_later node other (rest ++ parked) (Contains-append_right rest parked other j))
            ]
          ]);
          unlogged = rest_unlogged;
          apart = rest_apart node rest s.apart;
          parked = entries;
          stuck = stuck;
          bounds = λ number given e. s.bounds number given (sym (ap (λ g. node_of g number) same) ∙ e);
          entries = entries_right;
          complete = λ other l m. elim (left_before other l) [
            | inl k ↦ left_complete other l k m
            | inr e ↦ absurd (none-some other (sym (ap (λ g. node_of g other.number) none) ∙ e))
          ];
        }

  -- ---- closed and put aside

  parked_more : (log : List Entry) (entry : Entry) → parked_entries (log ++ entry ∷ []) ≡ parked_entries log ++ cond (is_parked_end entry.end) (entry ∷ []) []
  parked_more log entry = filter-append (λ (t : Entry). is_parked_end t.end) log (entry ∷ [])

  closed_at : (held : Option ℚ) (node : Node) (work open_ parked : List Node) (log : List Entry) → HasNoImproving reduced held node.box → At held (node ∷ work) open_ parked log → At held work open_ parked (log ++ closed_entry node ∷ [])
  closed_at held node work open_ parked log h s =
      ended held node work open_ parked log Closed s (λ given. tt) (none_closed (node_of (nodes_given reduced start log) node.number) node.bound) parked
      (covers.cover_step reduced held node ((work ++ open_) ++ parked) [] (covers.replaced_by_none reduced held node h) s.cover)
      (λ other c. contains_later node other parked c)
      (parked_more log (closed_entry node) ∙ append-nil (parked_entries log) ∙ s.parked)
      s.stuck

  parked_at : (held : Option ℚ) (node : Node) (work open_ parked : List Node) (log : List Entry) → IsStuck program reduced way Wide node → At held (node ∷ work) open_ parked log → At held work open_ (parked ++ node ∷ []) (log ++ parked_entry node ∷ [])
  parked_at held node work open_ parked log h s =
      let rest = work ++ open_ in
      ended held node work open_ parked log Parked s (λ given. tt) (none_parked (node_of (nodes_given reduced start log) node.number) node.bound) (parked ++ node ∷ [])
      (same_cover reduced held (node ∷ (rest ++ parked)) (rest ++ (parked ++ node ∷ []))
      (λ other c. elim (contains_cons node other (rest ++ parked) c) [
        | inl e ↦ Contains-append_right rest (parked ++ node ∷ []) other (subst (Contains (parked ++ node ∷ [])) e (Contains-push parked node))
        | inr k ↦ elim (Contains-append_cases rest parked other k) [
          | inl j ↦ Contains-append_left rest (parked ++ node ∷ []) other j
          | inr j ↦ Contains-append_right rest (parked ++ node ∷ []) other (Contains-append_left parked (node ∷ []) other j)
        ]
      ])
      (λ other c. elim (Contains-append_cases rest (parked ++ node ∷ []) other c) [
        | inl k ↦ contains_later node other (rest ++ parked) (Contains-append_left rest parked other k)
        | inr k ↦ elim (Contains-push_cases parked node other k) [
          | inl j ↦ contains_later node other (rest ++ parked) (Contains-append_right rest parked other j)
          | inr e ↦ subst (Contains (node ∷ (rest ++ parked))) e (contains_here node (rest ++ parked))
        ]
      ])
      s.cover)
      (λ other c. elim (Contains-push_cases parked node other c) [
        | inl k ↦ contains_later node other parked k
        | inr e ↦ subst (Contains (node ∷ parked)) e (contains_here node parked)
      ])
      (parked_more log (parked_entry node) ∙ ap (λ t. t ++ parked_entry node ∷ []) s.parked ∙ sym (map-append parked_entry parked (node ∷ [])))
      (λ other c. elim (Contains-push_cases parked node other c) [
        | inl k ↦ s.stuck other k
        | inr e ↦ subst (LeadsToWide program reduced Wide held) e (leads_to_wide program reduced way start Wide log held node s.back s.logged (s.given node (contains_here node (rest ++ parked))) h)
      ])

  -- with the first node in work written out
  pub written : (state : State) (node : Node) (work : List Node) → state.work ≡ node ∷ work → IsSearch program reduced way Wide start state → At state.held (node ∷ work) state.open_ state.parked state.log
  written state node work e s = subst (λ t. IsSearch program reduced way Wide start (record state { work = t })) e s

  pub closed : (state : State) (node : Node) (work : List Node) → state.work ≡ node ∷ work → HasNoImproving reduced state.held node.box → IsSearch program reduced way Wide start state → IsSearch program reduced way Wide start (record state { work = work; log = state.log ++ closed_entry node ∷ [] })
  closed state node work e h s = closed_at state.held node work state.open_ state.parked state.log h (written state node work e s)

  pub pruned : (state : State) (node : Node) (work : List Node) → state.work ≡ node ∷ work → matters state.held node.bound ≡ false → IsSearch program reduced way Wide start state → IsSearch program reduced way Wide start (record state { work = work; log = state.log ++ closed_entry node ∷ [] })
  pruned state node work e m s =
      let w = written state node work e s in
      closed_at state.held node work state.open_ state.parked state.log (closed_by_bound reduced state.held node.box node.bound (w.cover.bounded node (contains_here node ((work ++ state.open_) ++ state.parked))) m) w

  pub parked : (state : State) (node : Node) (work : List Node) → state.work ≡ node ∷ work → IsStuck program reduced way Wide node → IsSearch program reduced way Wide start state → IsSearch program reduced way Wide start (record state { work = work; parked = state.parked ++ node ∷ []; log = state.log ++ record { node = node.number; bound = node.bound; end = Parked } ∷ [] })
  parked state node work e h s = parked_at state.held node work state.open_ state.parked state.log h (written state node work e s)

  -- ---- split

  module _ (held : Option ℚ) (node low high : Node) (work open_ parked now : List Node) (log : List Entry) (column : ℕ) (at : ℤ) (can : CanSplit reduced.integral node column at) (halved : AreHalves node column at low high) (p : IsPermutation (low ∷ high ∷ open_) now) (followed : AllFollow reduced.integral (first_node reduced start ∷ []) [] (log ++ split_entry node column at low.number high.number ∷ [])) (s : At held (node ∷ work) open_ parked log) where
    abbrev pub end : End
    end = Split column at low.number high.number

    abbrev pub given : IsGiven reduced start log held node
    given = node_given held node work open_ parked log end s

    abbrev pub was : List Node
    was = nodes_given reduced start log

    abbrev pub low_given : Node
    low_given = record (low_node given.given column at) { number = low.number; bound = node.bound }

    abbrev pub high_given : Node
    high_given = record (high_node given.given column at) { number = high.number; bound = node.bound }

    right_end : IsRightEnd reduced.integral was given.given end
    right_end =
        let l = last_of reduced.integral (first_node reduced start ∷ []) [] log (split_entry node column at low.number high.number) followed in
        subst (λ n. IsRightEnd reduced.integral was n end) (same_Some l.node given.given (sym l.found ∙ given.found)) l.right

    more_are : nodes_of was (split_entry node column at low.number high.number) ≡ low_given ∷ high_given ∷ []
    more_are = ap (λ o. halves o node.bound end) given.found

    now_given : nodes_given reduced start (log ++ split_entry node column at low.number high.number ∷ []) ≡ was ++ (low_given ∷ high_given ∷ [])
    now_given = after_is held node work open_ parked log end s ∙ ap (λ t. was ++ t) more_are

    pub low_found : node_of (nodes_given reduced start (log ++ split_entry node column at low.number high.number ∷ [])) low.number ≡ Some low_given
    low_found =
        ap (λ g. node_of g low.number) now_given
        ∙ node_of_new was (low_given ∷ high_given ∷ []) low.number right_end.1
        ∙ node_of_here low_given (high_given ∷ []) low.number refl

    pub high_found : node_of (nodes_given reduced start (log ++ split_entry node column at low.number high.number ∷ [])) high.number ≡ Some high_given
    high_found =
        ap (λ g. node_of g high.number) now_given
        ∙ node_of_new was (low_given ∷ high_given ∷ []) high.number right_end.2
        ∙ node_of_later low_given (high_given ∷ []) high.number right_end.3
        ∙ node_of_here high_given [] high.number refl

    low_is_given : IsGiven reduced start (log ++ split_entry node column at low.number high.number ∷ []) held low
    low_is_given = record {
      given = low_given;
      found = low_found;
      holds = λ point h.
          let k : IsInBox (low_node node column at).box point = subst (λ b. IsInBox b point) halved.low_box h in
          low_node_of_both node given.given column at point given.choices (given.holds point (low_node_within reduced.integral node column at point can k)) k;
      keeps = λ point i h.
          subst (λ b. IsInBox b point) (sym halved.low_box)
          (low_node_of_both given.given node column at point (sym given.choices) (given.keeps point i (low_node_within reduced.integral given.given column at point right_end.0 h)) h);
      choices = halved.low_choices ∙ low_choices node given.given column at given.choices;
      bound = no_more_same node.bound low.bound (sym halved.low_bound);
    }

    high_is_given : IsGiven reduced start (log ++ split_entry node column at low.number high.number ∷ []) held high
    high_is_given = record {
      given = high_given;
      found = high_found;
      holds = λ point h.
          let k : IsInBox (high_node node column at).box point = subst (λ b. IsInBox b point) halved.high_box h in
          high_node_of_both node given.given column at point given.choices (given.holds point (high_node_within reduced.integral node column at point can k)) k;
      keeps = λ point i h.
          subst (λ b. IsInBox b point) (sym halved.high_box)
          (high_node_of_both given.given node column at point (sym given.choices) (given.keeps point i (high_node_within reduced.integral given.given column at point right_end.0 h)) h);
      choices = halved.high_choices ∙ high_choices node given.given column at given.choices;
      bound = no_more_same node.bound high.bound (sym halved.high_bound);
    }

    -- a number that the log gave is neither of theirs
    given_apart : (number : ℕ) (other : Node) (at_last : ℕ) → node_of was at_last ≡ None → node_of was number ≡ Some other → number ≢ at_last
    given_apart number other at_last none found e = none-some other (sym none ∙ ap (node_of was) (sym e) ∙ found)

    -- it has no entry either
    half_unlogged : (number : ℕ) → node_of was number ≡ None → HasNoEntry (log ++ split_entry node column at low.number high.number ∷ []) number
    half_unlogged number none =
        no_entry_still held node work open_ parked log end s number
        (λ c. let t = taken_given reduced.integral (first_node reduced start ∷ []) [] log number s.logged c in none-some t.0 (sym none ∙ t.1))
        (λ e. given_apart node.number given.given number none given.found (sym e))

    -- the nodes that are open now
    pub now_cases : (other : Node) → Contains (work ++ now) other → (low ≡ other) ⊎ ((high ≡ other) ⊎ Contains (work ++ open_) other)
    now_cases other c = elim (Contains-append_cases work now other c) [
      | inl k ↦ inr (inr (Contains-append_left work open_ other k))
      | inr k ↦ elim (contains_cons low other (high ∷ open_) (Contains-permutation now (low ∷ high ∷ open_) other (IsPermutation-sym (low ∷ high ∷ open_) now p) k)) [
        | inl e ↦ inl e
        | inr j ↦ elim (contains_cons high other open_ j) [
          | inl e ↦ inr (inl e)
          | inr i ↦ inr (inr (Contains-append_right work open_ other i))
        ]
      ]
    ]

    now_open : (other : Node) → Contains (low ∷ high ∷ open_) other → Contains (work ++ now) other
    now_open other c = Contains-append_right work now other (Contains-permutation (low ∷ high ∷ open_) now other p c)

    now_low : Contains (work ++ now) low
    now_low = now_open low (contains_here low (high ∷ open_))

    now_high : Contains (work ++ now) high
    now_high = now_open high (contains_later low high (high ∷ open_) (contains_here high open_))

    now_rest : (other : Node) → Contains (work ++ open_) other → Contains (work ++ now) other
    now_rest other c = elim (Contains-append_cases work open_ other c) [
      | inl k ↦ Contains-append_left work now other k
      | inr k ↦ now_open other (contains_later low other (high ∷ open_) (contains_later high other open_ k))
    ]

    now_cover : IsCover reduced held ((work ++ now) ++ parked)
    now_cover =
        same_cover reduced held (low ∷ high ∷ ((work ++ open_) ++ parked)) ((work ++ now) ++ parked)
        (λ other c. elim (contains_cons low other (high ∷ ((work ++ open_) ++ parked)) c) [
          | inl e ↦ Contains-append_left (work ++ now) parked other (subst (Contains (work ++ now)) e now_low)
          | inr k ↦ elim (contains_cons high other ((work ++ open_) ++ parked) k) [
            | inl e ↦ Contains-append_left (work ++ now) parked other (subst (Contains (work ++ now)) e now_high)
            | inr j ↦ with_more (work ++ open_) (work ++ now) parked now_rest other j
          ]
        ])
        (λ other c. elim (Contains-append_cases (work ++ now) parked other c) [
          | inl k ↦ elim (now_cases other k) [
            | inl e ↦ subst (Contains (low ∷ high ∷ ((work ++ open_) ++ parked))) e (contains_here low (high ∷ ((work ++ open_) ++ parked)))
            | inr (inl e) ↦ subst (Contains (low ∷ high ∷ ((work ++ open_) ++ parked))) e (contains_later low high (high ∷ ((work ++ open_) ++ parked)) (contains_here high ((work ++ open_) ++ parked)))
            | inr (inr j) ↦ contains_later low other (high ∷ ((work ++ open_) ++ parked)) (contains_later high other ((work ++ open_) ++ parked) (Contains-append_left (work ++ open_) parked other j))
          ]
          | inr k ↦ contains_later low other (high ∷ ((work ++ open_) ++ parked)) (contains_later high other ((work ++ open_) ++ parked) (Contains-append_right (work ++ open_) parked other k))
        ])
        (covers.cover_step reduced held node ((work ++ open_) ++ parked) (low ∷ high ∷ [])
        (covers.split reduced held node low high column at can.kind (given_node_of reduced start log held node s.logged given).still_open halved.low_box halved.high_box
        (λ b. (
          subst (λ t. HoldsThere reduced held t low.box) (sym halved.low_bound) (there_inside reduced held node.bound node.box low.box (λ point i h. low_node_within reduced.integral node column at point can (subst (λ t. IsInBox t point) halved.low_box h)) b),
          subst (λ t. HoldsThere reduced held t high.box) (sym halved.high_bound) (there_inside reduced held node.bound node.box high.box (λ point i h. high_node_within reduced.integral node column at point can (subst (λ t. IsInBox t point) halved.high_box h)) b),
        )))
        s.cover)

    rest_number : (other : Node) (number : ℕ) → node_of was number ≡ None → Contains (work ++ open_) other → other.number ≢ number
    rest_number other number none c e =
        let g = s.given other (contains_later node other ((work ++ open_) ++ parked) (Contains-append_left (work ++ open_) parked other c)) in
        given_apart other.number g.given number none g.found e

    now_hits : (number : ℕ) → sum_by (hits number) (work ++ now) ≡ hits number low + (hits number high + sum_by (hits number) (work ++ open_))
    now_hits number = omega (
      arith,
      sum_by-append (hits number) work now,
      sum_by-append (hits number) work open_,
      sum_by-IsPermutation (hits number) (low ∷ high ∷ open_) now p,
      sum_by-cons (hits number) low (high ∷ open_),
      sum_by-cons (hits number) high open_,
    )

    now_apart : AreApart (work ++ now)
    now_apart number = elim (eqb_tells low.number number) [
      | inl k ↦ omega (
        arith,
        now_hits number,
        hit number low k.1,
        missed number high (λ e. right_end.3 (k.1 ∙ sym e)),
        none_hits number (work ++ open_) (λ other c. rest_number other number (subst (λ t. node_of was t ≡ None) k.1 right_end.1) c),
      )
      | inr k ↦ elim (eqb_tells high.number number) [
        | inl j ↦ omega (
          arith,
          now_hits number,
          missed number low k.1,
          hit number high j.1,
          none_hits number (work ++ open_) (λ other c. rest_number other number (subst (λ t. node_of was t ≡ None) j.1 right_end.2) c),
        )
        | inr j ↦ omega (
          arith,
          now_hits number,
          missed number low k.1,
          missed number high j.1,
          rest_apart node (work ++ open_) s.apart number,
        )
      ]
    ]

    -- a node that the entry gives is a half
    gives_halves : (number : ℕ) (other : Node) → node_of (nodes_of was (split_entry node column at low.number high.number)) number ≡ Some other → (low_given ≡ other) ⊎ (high_given ≡ other)
    gives_halves number other e =
        elim (contains_cons low_given other (high_given ∷ []) (node_of_among (low_given ∷ high_given ∷ []) number other (sym (ap (λ g. node_of g number) more_are) ∙ e)).0) [
          | inl k ↦ inl k
          | inr k ↦ inr (the_only high_given other k)
        ]

    given_bounds : HoldsThere reduced held node.bound given.given.box
    given_bounds = there_inside reduced held node.bound node.box given.given.box given.keeps (s.cover.bounded node (contains_here node ((work ++ open_) ++ parked)))

    now_bounds : (number : ℕ) (other : Node) → node_of (nodes_given reduced start (log ++ split_entry node column at low.number high.number ∷ [])) number ≡ Some other → HoldsThere reduced held other.bound other.box
    now_bounds number other e = elim (none_or_some (node_of was number)) [
      | inl none ↦
          let f : node_of (low_given ∷ high_given ∷ []) number ≡ Some other = sym (node_of_new was (low_given ∷ high_given ∷ []) number none) ∙ sym (ap (λ g. node_of g number) now_given) ∙ e in
          elim (gives_halves number other (ap (λ g. node_of g number) more_are ∙ f)) [
            | inl k ↦ subst (λ (n : Node). HoldsThere reduced held n.bound n.box) k (there_inside reduced held node.bound given.given.box low_given.box (λ point i h. low_node_within reduced.integral given.given column at point right_end.0 h) given_bounds)
            | inr k ↦ subst (λ (n : Node). HoldsThere reduced held n.bound n.box) k (there_inside reduced held node.bound given.given.box high_given.box (λ point i h. high_node_within reduced.integral given.given column at point right_end.0 h) given_bounds)
          ]
      | inr (first, is) ↦
          let same : first ≡ other = same_Some first other (sym (still held node work open_ parked log end s number first is) ∙ e) in
          s.bounds number other (is ∙ ap Some same)
    ]

    split_at : At held work now parked (log ++ split_entry node column at low.number high.number ∷ [])
    split_at = record {
      back = s.back;
      attained = s.attained;
      cover = now_cover;
      logged = followed;
      given = λ other c. elim (Contains-append_cases (work ++ now) parked other c) [
        | inl k ↦ elim (now_cases other k) [
          | inl e ↦ subst (IsGiven reduced start (log ++ split_entry node column at low.number high.number ∷ []) held) e low_is_given
          | inr (inl e) ↦ subst (IsGiven reduced start (log ++ split_entry node column at low.number high.number ∷ []) held) e high_is_given
          | inr (inr j) ↦ given_still held node work open_ parked log end s other (s.given other (contains_later node other ((work ++ open_) ++ parked) (Contains-append_left (work ++ open_) parked other j)))
        ]
        | inr k ↦ given_still held node work open_ parked log end s other (s.given other (contains_later node other ((work ++ open_) ++ parked) (Contains-append_right (work ++ open_) parked other k)))
      ];
      unlogged = λ other c. elim (now_cases other c) [
        | inl e ↦ subst (λ (n : Node). HasNoEntry (log ++ split_entry node column at low.number high.number ∷ []) n.number) e (half_unlogged low.number right_end.1)
        | inr (inl e) ↦ subst (λ (n : Node). HasNoEntry (log ++ split_entry node column at low.number high.number ∷ []) n.number) e (half_unlogged high.number right_end.2)
        | inr (inr j) ↦ rest_unlogged held node work open_ parked log end s other j
      ];
      apart = now_apart;
      parked = parked_more log (split_entry node column at low.number high.number) ∙ append-nil (parked_entries log) ∙ s.parked;
      stuck = s.stuck;
      bounds = now_bounds;
      entries = entries_right held node work open_ parked log end s;
      complete = λ other l m. elim (left_before held node work open_ parked log end s other l) [
        | inl k ↦ let h = left_complete held node work open_ parked log end s other l k m in record { node = h.node; among = now_rest h.node h.among; is = h.is }
        | inr e ↦ elim (gives_halves other.number other e) [
          | inl k ↦ record { node = low; among = now_low; is = ap (λ (n : Node). n.number) k }
          | inr k ↦ record { node = high; among = now_high; is = ap (λ (n : Node). n.number) k }
        ]
      ];
    }

  pub split : (state : State) (node low high : Node) (work open_ : List Node) (column : ℕ) (at : ℤ) → state.work ≡ node ∷ work → CanSplit reduced.integral node column at → AreHalves node column at low high → IsPermutation (low ∷ high ∷ state.open_) open_ → AllFollow reduced.integral (first_node reduced start ∷ []) [] (state.log ++ split_entry node column at low.number high.number ∷ []) → IsSearch program reduced way Wide start state → IsSearch program reduced way Wide start (record state { work = work; open_ = open_; log = state.log ++ split_entry node column at low.number high.number ∷ [] })
  split state node low high work open_ column at e can halved p followed s =
      split_at state.held node low high work state.open_ state.parked open_ state.log column at can halved p followed (written state node work e s)
