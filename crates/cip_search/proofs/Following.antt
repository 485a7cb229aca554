-- A log over a reduced program, and the log seen: each entry can follow, and the nodes given mirror each other.
use Rattle.std.proofs.Common.{◌≡◌, inl, inr, ℕ, ◌<◌, ℤ, Bool, true, false, List, [], ◌∷◌, ◌++◌, length, Option, None, Some, slice_get, slice_set, refl, sym, ap, ◌∙◌, subst, arith}
use Rattle.std.specs.List.{AllZip}
use Rattle.std.proofs.lemmas.Bool.{cases_eq}
use Rattle.std.proofs.lemmas.Option.{none-some, same_Some, slice_get_within}
use Rattle.std.proofs.lemmas.List.{get_or-set_same}
use Rattle.cip_rational.specs.Rational.{ℚ, integer}
use Rattle.cip_problem.specs.Program.{Sides, Choice, Plain, Open, Off, On, Program}
use Rattle.cip_problem.specs.Box.{no_sides, sides_at}
use Rattle.cip_problem.specs.Choices.{choice_at, zero_sides}
use Rattle.cip_problem.specs.Wholes.{assignments, HasWhole, AllHaveWholes}
use Rattle.cip_problem.proofs.Wholes.Counts.{IsPositive, assignments_positive}
use Rattle.cip_problem.specs.Log.{End, Split, Closed, Parked, Entry, Node, low_of, high_of, low_node, high_node, node_of, halves, nodes_of, given_after, CanSplitAt, CanSplit, IsRightEnd, AllFollow}
use Rattle.cip_problem.proofs.Log.Entering.{node_of_here, node_of_later}
use Rattle.cip_search.specs.Searched.{first_node, nodes_given}
use Rattle.cip_search.specs.Pairs.{IsPair}
use Rattle.cip_search.specs.SeenLogs.{end_seen, entry_seen, log_seen}
use Rattle.cip_search.specs.SeenStatements.{IsReducedTo}
use Rattle.cip_search.proofs.SeenColumns.{has_whole_at, all_have_wholes, of_one, of_none, is_place}
use Rattle.cip_search.proofs.WholeColumns.{more_positive, positive_at}
use Rattle.cip_search.proofs.Agreeing.{agree_there}
use Rattle.cip_search.proofs.Mirrors.{Mirrors, mirrors_first, mirrors_made, mirrors_low, mirrors_high}

-- ---- lists of nodes

-- a node given over the reduced program, and the one of the same number and bound that is given in the program
pub record IsMirrored (program reduced : Program) (kept : ℕ → ℕ) (node other : Node) : Type 0 where
  pub number : other.number ≡ node.number
  pub bound : other.bound ≡ node.bound
  pub mirrors : Mirrors program reduced kept node.box node.choices other.box other.choices

zip_append : {A B : Type 0} (R : A → B → Type 0) (xs ys : List A) (us vs : List B) → AllZip R xs us → AllZip R ys vs → AllZip R (xs ++ ys) (us ++ vs)
zip_append R [] ys [] vs h k = k
zip_append R [] ys (u ∷ us) vs h k = absurd h
zip_append R (x ∷ xs) ys [] vs h k = absurd h
zip_append R (x ∷ xs) ys (u ∷ us) vs h k = (h.0, zip_append R xs ys us vs h.1 k)

-- what two lists of nodes have of a number
pub data Found (program reduced : Program) (kept : ℕ → ℕ) (nodes others : List Node) (number : ℕ) : Type 0 where
  neither : node_of nodes number ≡ None → node_of others number ≡ None → Found program reduced kept nodes others number
  both : (node other : Node) → node_of nodes number ≡ Some node → node_of others number ≡ Some other → IsMirrored program reduced kept node other → Found program reduced kept nodes others number

module _ (program reduced : Program) (kept : ℕ → ℕ) where
  pub found : (nodes others : List Node) (number : ℕ) → AllZip (IsMirrored program reduced kept) nodes others → Found program reduced kept nodes others number
  found [] [] number h = neither refl refl
  found [] (u ∷ us) number h = absurd h
  found (n ∷ ns) [] number h = absurd h
  found (n ∷ ns) (u ∷ us) number h = elim (cases_eq n.number number) [
    | inl e ↦ both n u (node_of_here n ns number e) (node_of_here u us number (h.0.number ∙ e)) h.0
    | inr d ↦ further (node_of_later n ns number d) (node_of_later u us number (λ e. d (sym h.0.number ∙ e))) (found ns us number h.1)
  ]
    where
      further : node_of (n ∷ ns) number ≡ node_of ns number → node_of (u ∷ us) number ≡ node_of us number → Found program reduced kept ns us number → Found program reduced kept (n ∷ ns) (u ∷ us) number
      further a b (neither k l) = neither (a ∙ k) (b ∙ l)
      further a b (both x y k l m) = both x y (a ∙ k) (b ∙ l) m

  -- of a node that was given there is one in the program, and none of one that wasn't
  pub there : (nodes others : List Node) (number : ℕ) (node : Node) → AllZip (IsMirrored program reduced kept) nodes others → node_of nodes number ≡ Some node → (other : Node) × (node_of others number ≡ Some other) × IsMirrored program reduced kept node other
  there nodes others number node h e = elim (found nodes others number h) [
    | neither a b ↦ absurd (none-some node (sym a ∙ e))
    | both x y a b m ↦ (y, b, subst (λ n. IsMirrored program reduced kept n y) (same_Some x node (sym a ∙ e)) m)
  ]

  pub none_there : (nodes others : List Node) (number : ℕ) → AllZip (IsMirrored program reduced kept) nodes others → node_of nodes number ≡ None → node_of others number ≡ None
  none_there nodes others number h e = elim (found nodes others number h) [
    | neither a b ↦ b
    | both x y a b m ↦ absurd (none-some x (sym e ∙ a))
  ]

  -- and the other way round
  pub behind : (nodes others : List Node) (number : ℕ) (other : Node) → AllZip (IsMirrored program reduced kept) nodes others → node_of others number ≡ Some other → (node : Node) × (node_of nodes number ≡ Some node) × IsMirrored program reduced kept node other
  behind nodes others number other h e = elim (found nodes others number h) [
    | neither a b ↦ absurd (none-some other (sym b ∙ e))
    | both x y a b m ↦ (x, a, subst (λ n. IsMirrored program reduced kept x n) (same_Some y other (sym b ∙ e)) m)
  ]

-- ---- a split

module _ (program reduced : Program) (post : List ℚ → List ℚ) (kept : ℕ → ℕ) (given : IsReducedTo program reduced post kept) where
  pair : IsPair program reduced post kept
  pair = given.pair

  long_wholes : length reduced.integral ≡ length reduced.bounds
  long_wholes = given.reduced_formed.integral ∙ sym given.reduced_formed.bounds

  long_there : length program.integral ≡ length program.bounds
  long_there = given.formed.integral ∙ sym given.formed.bounds

  inside_of : (column : ℕ) (whole : Bool) → slice_get reduced.integral column ≡ Some whole → column < length reduced.bounds
  inside_of column whole e = let l = slice_get_within reduced.integral column whole e in let m = long_wholes in omega (arith, l, m)

  -- a box over the reduced program with a whole number for each whole column has one in the program
  module _ (box : List Sides) (choices : List Choice) (other : List Sides) (others : List Choice) (mirror : Mirrors program reduced kept box choices other others) (wholes : AllHaveWholes reduced.integral box) where
    own_wholes : AllHaveWholes reduced.integral reduced.bounds
    own_wholes =
        let l = long_wholes in
        all_have_wholes reduced.integral reduced.bounds (sym l) (λ column e.
        let h = has_whole_at reduced.integral box column wholes e in
        record { number = h.number; between = (mirror.agree column (inside_of column true e)).within (integer h.number) h.between })

    -- so the program has a whole assignment
    some_there : IsPositive (assignments program.integral program.bounds)
    some_there = more_positive (assignments reduced.integral reduced.bounds) (assignments program.integral program.bounds) pair.fewer (assignments_positive reduced.integral reduced.bounds own_wholes)

    whole_there : (column : ℕ) → slice_get program.integral column ≡ Some true → HasWhole (sides_at other column)
    whole_there column e = elim (is_place kept (length reduced.bounds) column) [
      | of_one own l k ↦
          let is : slice_get reduced.integral own ≡ Some true = sym (pair.columns own l).whole ∙ ap (slice_get program.integral) k ∙ e in
          let h = has_whole_at reduced.integral box own wholes is in
          subst (λ c. HasWhole (sides_at other c)) k
          (record { number = h.number; between = agree_there (sides_at reduced.bounds own) (sides_at box own) (sides_at other (kept own)) (integer h.number) (mirror.agree own l) h.between })
      | of_none f ↦
          subst HasWhole (sym (mirror.apart column f)) (positive_at program.integral program.bounds column some_there e)
    ]

    pub wholes_there : AllHaveWholes program.integral other
    wholes_there = let l = mirror.other_long in let m = long_there in all_have_wholes program.integral other (l ∙ sym m) whole_there

  -- the halves of a node
  half_whole : (box : List Sides) (column : ℕ) (sides : Sides) → AllHaveWholes reduced.integral (slice_set box column sides) → slice_get reduced.integral column ≡ Some true → column < length box → HasWhole sides
  half_whole box column sides h e l = subst HasWhole (get_or-set_same box column sides no_sides l) (has_whole_at reduced.integral (slice_set box column sides) column h e)

  module _ (node other : Node) (column : ℕ) (at : ℤ) (m : Mirrors program reduced kept node.box node.choices other.box other.choices) where
    within : (whole : Bool) → slice_get reduced.integral column ≡ Some whole → column < length node.box
    within whole e = let l = inside_of column whole e in let k = m.long in omega (arith, l, k)

    low_by : (choice : Choice) → choice_at node.choices column ≡ choice → CanSplitAt choice (slice_get reduced.integral column) → AllHaveWholes reduced.integral (low_of choice node column at).box → AllHaveWholes reduced.integral (high_of choice node column at).box → Mirrors program reduced kept (low_of choice node column at).box (low_of choice node column at).choices (low_of choice other (kept column) at).box (low_of choice other (kept column) at).choices
    low_by Plain e k a b =
        mirrors_low program reduced post kept pair node.box node.choices other.box other.choices m column (inside_of column true k) at
        (half_whole node.box column _ a k (within true k)) (half_whole node.box column _ b k (within true k))
    low_by (Open own) e k a b = mirrors_made program reduced post kept pair node.box node.choices other.box other.choices m column (inside_of column false k) own e Off refl zero_sides
    low_by Off e k a b = absurd k
    low_by On e k a b = absurd k

    high_by : (choice : Choice) → choice_at node.choices column ≡ choice → CanSplitAt choice (slice_get reduced.integral column) → AllHaveWholes reduced.integral (low_of choice node column at).box → AllHaveWholes reduced.integral (high_of choice node column at).box → Mirrors program reduced kept (high_of choice node column at).box (high_of choice node column at).choices (high_of choice other (kept column) at).box (high_of choice other (kept column) at).choices
    high_by Plain e k a b =
        mirrors_high program reduced post kept pair node.box node.choices other.box other.choices m column (inside_of column true k) at
        (half_whole node.box column _ a k (within true k)) (half_whole node.box column _ b k (within true k))
    high_by (Open own) e k a b = mirrors_made program reduced post kept pair node.box node.choices other.box other.choices m column (inside_of column false k) own e On refl own
    high_by Off e k a b = absurd k
    high_by On e k a b = absurd k

    module _ (can : CanSplit reduced.integral node column at) where
      is_kind : (choice : Choice) → CanSplitAt choice (slice_get reduced.integral column) → column < length reduced.bounds
      is_kind Plain k = inside_of column true k
      is_kind (Open own) k = inside_of column false k
      is_kind Off k = absurd k
      is_kind On k = absurd k

      inside : column < length reduced.bounds
      inside = is_kind (choice_at node.choices column) can.kind

      same_choice : choice_at other.choices (kept column) ≡ choice_at node.choices column
      same_choice = m.same column inside

      pub low_mirrors : Mirrors program reduced kept (low_node node column at).box (low_node node column at).choices (low_node other (kept column) at).box (low_node other (kept column) at).choices
      low_mirrors =
          subst (λ (c : Choice). Mirrors program reduced kept (low_node node column at).box (low_node node column at).choices (low_of c other (kept column) at).box (low_of c other (kept column) at).choices) (sym same_choice)
          (low_by (choice_at node.choices column) refl can.kind can.low can.high)

      pub high_mirrors : Mirrors program reduced kept (high_node node column at).box (high_node node column at).choices (high_node other (kept column) at).box (high_node other (kept column) at).choices
      high_mirrors =
          subst (λ (c : Choice). Mirrors program reduced kept (high_node node column at).box (high_node node column at).choices (high_of c other (kept column) at).box (high_of c other (kept column) at).choices) (sym same_choice)
          (high_by (choice_at node.choices column) refl can.kind can.low can.high)

      -- the node in the program can be split there
      pub can_split : CanSplit program.integral other (kept column) at
      can_split = record {
        kind = subst (λ (w : Option Bool). CanSplitAt (choice_at other.choices (kept column)) w) (sym (pair.columns column inside).whole)
            (subst (λ (c : Choice). CanSplitAt c (slice_get reduced.integral column)) (sym same_choice) can.kind);
        low = wholes_there (low_node node column at).box (low_node node column at).choices _ _ low_mirrors can.low;
        high = wholes_there (high_node node column at).box (high_node node column at).choices _ _ high_mirrors can.high;
      }

  -- ---- a log

  abbrev AreMirrored : List Node → List Node → Type 0
  AreMirrored nodes others = AllZip (IsMirrored program reduced kept) nodes others

  module _ (nodes others : List Node) (mirrored : AreMirrored nodes others) (node other : Node) (m : IsMirrored program reduced kept node other) where
    ends_right : (end : End) → IsRightEnd reduced.integral nodes node end → IsRightEnd program.integral others other (end_seen kept end)
    ends_right (Split column at low high) r = (
      can_split node other column at m.mirrors r.0,
      none_there program reduced kept nodes others low mirrored r.1,
      none_there program reduced kept nodes others high mirrored r.2,
      r.3,
    )
    ends_right Closed r = tt
    ends_right Parked r = tt

    halves_mirrored : (bound : Option ℚ) (end : End) → IsRightEnd reduced.integral nodes node end → AreMirrored (halves (Some node) bound end) (halves (Some other) bound (end_seen kept end))
    halves_mirrored bound (Split column at low high) r = (
      record { number = refl; bound = refl; mirrors = low_mirrors node other column at m.mirrors r.0 },
      (record { number = refl; bound = refl; mirrors = high_mirrors node other column at m.mirrors r.0 }, tt),
    )
    halves_mirrored bound Closed r = tt
    halves_mirrored bound Parked r = tt

  pub follow_seen : (nodes others : List Node) (taken : List ℕ) (log : List Entry) → AreMirrored nodes others → AllFollow reduced.integral nodes taken log → AllFollow program.integral others taken (log_seen kept log) × AreMirrored (given_after nodes log) (given_after others (log_seen kept log))
  follow_seen nodes others taken [] h f = (tt, h)
  follow_seen nodes others taken (entry ∷ log) h f =
      let node = f.0.node in
      let t = there program reduced kept nodes others entry.node node h f.0.given_before in
      let here : nodes_of nodes entry ≡ halves (Some node) entry.bound entry.end = ap (λ n. halves n entry.bound entry.end) f.0.given_before in
      let over : nodes_of others (entry_seen kept entry) ≡ halves (Some t.0) entry.bound (end_seen kept entry.end) = ap (λ n. halves n entry.bound (end_seen kept entry.end)) t.1 in
      let news : AreMirrored (nodes_of nodes entry) (nodes_of others (entry_seen kept entry)) =
      subst (λ ns. AreMirrored ns (nodes_of others (entry_seen kept entry))) (sym here)
      (subst (λ ns. AreMirrored (halves (Some node) entry.bound entry.end) ns) (sym over) (halves_mirrored nodes others h node t.0 t.2 entry.bound entry.end f.0.right)) in
      let more = follow_seen (nodes ++ nodes_of nodes entry) (others ++ nodes_of others (entry_seen kept entry)) (entry.node ∷ taken) log
      (zip_append (IsMirrored program reduced kept) nodes (nodes_of nodes entry) others (nodes_of others (entry_seen kept entry)) h news) f.1 in
      ((record { node = t.0; given_before = t.1; once = f.0.once; right = ends_right nodes others h node t.0 t.2 entry.end f.0.right }, more.0), more.1)

  module _ (start : Option ℚ) (log : List Entry) (followed : AllFollow reduced.integral (first_node reduced start ∷ []) [] log) where
    first_mirrored : AreMirrored (first_node reduced start ∷ []) (first_node program start ∷ [])
    first_mirrored = (record { number = refl; bound = refl; mirrors = mirrors_first program reduced post kept pair }, tt)

    pub followed_seen : AllFollow program.integral (first_node program start ∷ []) [] (log_seen kept log)
    followed_seen = (follow_seen (first_node reduced start ∷ []) (first_node program start ∷ []) [] log first_mirrored followed).0

    pub given_mirrored : AreMirrored (nodes_given reduced start log) (nodes_given program start (log_seen kept log))
    given_mirrored = (follow_seen (first_node reduced start ∷ []) (first_node program start ∷ []) [] log first_mirrored followed).1
