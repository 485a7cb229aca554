-- How long a log can be: over a node with n leaves it has at most 2 n - 1 entries, or 1.
use Rattle.std.proofs.Common.{◌≡◌, inl, inr, ℕ, suc, ◌+◌, ◌-◌, ◌*◌, ◌≤◌, ◌==◌, max, Bool, true, false, cond, ◌||◌, List, [], ◌∷◌, ◌++◌, length, Contains, Option, None, Some, refl, sym, ap, subst, arith, lit<}
use Rattle.std.proofs.Math.Nat.{one-le-pow}
use Rattle.std.specs.List.{AllByRecursion}
use Rattle.std.proofs.lemmas.Bool.{eqb-true, false_from_ne_true, or_cases}
use Rattle.std.proofs.lemmas.Option.{none-some, same_Some}
use Rattle.cip_rational.specs.Rational.{ℚ}
use Rattle.cip_problem.specs.Program.{Program}
use Rattle.cip_problem.specs.Choices.{ways, open_count}
use Rattle.cip_problem.specs.Wholes.{plus, AtMost, AllHaveWholes}
use Rattle.cip_problem.proofs.Wholes.Counts.{IsPositive, times_positive, assignments_positive}
use Rattle.cip_problem.specs.Log.{End, Split, Closed, Parked, Entry, Node, root, low_node, high_node, leaf_count, node_of, halves, nodes_of, IsRightEnd, AllFollow, IsLog}
use Rattle.cip_problem.proofs.Log.Halves.{halves_count}

-- ---- numbers that were taken

abbrev has : List ℕ → ℕ → Bool
has [] number = false
has (m ∷ ms) number = (number == m) || has ms number

Contains_of_has : (ms : List ℕ) (number : ℕ) → has ms number ≡ true → Contains ms number
Contains_of_has [] number h = absurd (cc)
Contains_of_has (m ∷ ms) number h = elim (or_cases (number == m) (has ms number) h) [
  | inl e ↦ (0, omega arith, sym (eqb-true number m e))
  | inr e ↦ let c = Contains_of_has ms number e in (suc c.0, omega (arith, c.1), c.2)
]

not_has : (ms : List ℕ) (number : ℕ) → ¬ Contains ms number → has ms number ≡ false
not_has ms number h = false_from_ne_true (has ms number) (λ e. h (Contains_of_has ms number e))

-- ---- how many nodes there is room for

-- the most nodes that the search below a node takes, by its number of leaves
abbrev room : Option ℕ → ℕ
room None = 1
room (Some n) = max 1 (2 * n - 1)

-- those of a node, unless it was taken
abbrev room_of : Bool → Option ℕ → ℕ
room_of taken n = cond taken 0 (room n)

-- those of all nodes that were given and not taken
abbrev room_left : List Bool → List Node → List ℕ → ℕ
room_left integral [] taken = 0
room_left integral (node ∷ nodes) taken = room_of (has taken node.number) (leaf_count integral node) + room_left integral nodes taken

room_of_le : (taken : Bool) (n : Option ℕ) → room_of taken n ≤ room n
room_of_le true n = omega arith
room_of_le false n = omega arith

room_of_less : (now before : Bool) (n : Option ℕ) → room_of (now || before) n ≤ room_of before n
room_of_less true before n = omega arith
room_of_less false before n = omega arith

room_less : (integral : List Bool) (nodes : List Node) (taken : List ℕ) (number : ℕ) → room_left integral nodes (number ∷ taken) ≤ room_left integral nodes taken
room_less integral [] taken number = omega arith
room_less integral (node ∷ nodes) taken number =
    omega (arith, room_less integral nodes taken number, room_of_less (node.number == number) (has taken node.number) (leaf_count integral node))

room_append : (integral : List Bool) (xs ys : List Node) (taken : List ℕ) → room_left integral (xs ++ ys) taken ≡ room_left integral xs taken + room_left integral ys taken
room_append integral [] ys taken = omega arith
room_append integral (x ∷ xs) ys taken = omega (arith, room_append integral xs ys taken)

-- a node that is taken leaves its room
room_taken : (integral : List Bool) (nodes : List Node) (taken : List ℕ) (number : ℕ) (node : Node) → node_of nodes number ≡ Some node → has taken number ≡ false → room_left integral nodes (number ∷ taken) + room (leaf_count integral node) ≤ room_left integral nodes taken
room_taken integral [] taken number node e h = absurd (none-some node e)
room_taken integral (n ∷ nodes) taken number node e h = tested (λ g. room_taken integral nodes taken number node g h) (n.number == number) refl e
  where
    tested : (node_of nodes number ≡ Some node → room_left integral nodes (number ∷ taken) + room (leaf_count integral node) ≤ room_left integral nodes taken) → (t : Bool) → (n.number == number) ≡ t → cond t (Some n) (node_of nodes number) ≡ Some node → (room_of (t || has taken n.number) (leaf_count integral n) + room_left integral nodes (number ∷ taken)) + room (leaf_count integral node) ≤ room_of (has taken n.number) (leaf_count integral n) + room_left integral nodes taken
    tested later true f g =
        let free : has taken n.number ≡ false = subst (λ m. has taken m ≡ false) (sym (eqb-true n.number number f)) h in
        let same : room (leaf_count integral n) ≡ room (leaf_count integral node) = ap (λ m. room (leaf_count integral m)) (same_Some n node g) in
        rw free (omega (arith, same, room_less integral nodes taken number))
    tested later false f g = omega (arith, later g)

-- ---- the ends of nodes

-- the number of leaves is finite
record IsFinite (integral : List Bool) (node : Node) : Type 0 where
  pub number : ℕ
  pub is : leaf_count integral node ≡ Some number

pub node_holds : (P : Node → Type 0) (nodes : List Node) (number : ℕ) (node : Node) → AllByRecursion P nodes → node_of nodes number ≡ Some node → P node
node_holds P [] number node h e = absurd (none-some node e)
node_holds P (n ∷ nodes) number node h e = tested (node_holds P nodes number node h.1) (n.number == number) e
  where
    tested : (node_of nodes number ≡ Some node → P node) → (t : Bool) → cond t (Some n) (node_of nodes number) ≡ Some node → P node
    tested later true f = subst P (same_Some n node f) h.0
    tested later false f = later f

pub all_append : (P : Node → Type 0) (xs ys : List Node) → AllByRecursion P xs → AllByRecursion P ys → AllByRecursion P (xs ++ ys)
all_append P [] ys h k = k
all_append P (x ∷ xs) ys h k = (h.0, all_append P xs ys h.1 k)

-- two parts of a finite number, neither of which is 0
record AreParts (a b : Option ℕ) (n : ℕ) : Type 0 where
  pub first : ℕ
  pub second : ℕ
  pub is_first : a ≡ Some first
  pub is_second : b ≡ Some second
  pub first_positive : 1 ≤ first
  pub second_positive : 1 ≤ second
  pub sum : first + second ≤ n

parts_of : (a b : Option ℕ) (n : ℕ) → AtMost (plus a b) (Some n) → IsPositive a → IsPositive b → AreParts a b n
parts_of None b n h p q = absurd h
parts_of (Some a) None n h p q = absurd h
parts_of (Some a) (Some b) n h p q = record {
  first = a;
  second = b;
  is_first = refl;
  is_second = refl;
  first_positive = p;
  second_positive = q;
  sum = h;
}

room_of_parts : (t u : Bool) (a b c : Option ℕ) (n : ℕ) → c ≡ Some n → AreParts a b n → room_of t a + (room_of u b + 0) + 1 ≤ room c
room_of_parts t u a b c n e h =
    omega (arith, room_of_le t a, room_of_le u b, ap room h.is_first, ap room h.is_second, ap room e, h.sum, h.first_positive, h.second_positive)

-- the nodes that an end gives have less room together than the node had, and finitely many leaves
record FitsIn (integral : List Bool) (node : Node) (given : List Node) (taken : List ℕ) : Type 0 where
  pub room_for : room_left integral given taken + 1 ≤ room (leaf_count integral node)
  pub finite : AllByRecursion (IsFinite integral) given

-- a node whose whole columns have whole values has a leaf
leaves_positive : (integral : List Bool) (node : Node) → AllHaveWholes integral node.box → IsPositive (leaf_count integral node)
leaves_positive integral node h =
    times_positive (Some (ways node.choices)) _ (one-le-pow (open_count node.choices) 2 (lit< tt)) (assignments_positive integral node.box h)

room_positive : (n : Option ℕ) → 1 ≤ room n
room_positive None = omega arith
room_positive (Some n) = omega arith

end_fits : (integral : List Bool) (given : List Node) (node : Node) (bound : Option ℚ) (end : End) (taken : List ℕ) → IsFinite integral node → IsRightEnd integral given node end → FitsIn integral node (halves (Some node) bound end) taken
end_fits integral given node bound Closed taken f h = record { room_for = omega (arith, room_positive (leaf_count integral node)); finite = tt }
end_fits integral given node bound Parked taken f h = record { room_for = omega (arith, room_positive (leaf_count integral node)); finite = tt }
end_fits integral given node bound (Split column at low high) taken f h =
    let split = h.0 in
    let a = leaf_count integral (low_node node column at) in
    let b = leaf_count integral (high_node node column at) in
    let parts = parts_of a b f.number (subst (λ n. AtMost (plus a b) n) f.is (halves_count integral node column at split)) (leaves_positive integral (low_node node column at) split.low) (leaves_positive integral (high_node node column at) split.high) in
    record {
      room_for = room_of_parts (has taken low) (has taken high) a b (leaf_count integral node) f.number f.is parts;
      finite = (record { number = parts.first; is = parts.is_first }, (record { number = parts.second; is = parts.is_second }, tt));
    }

-- ---- logs

follow_is_short : (integral : List Bool) (given : List Node) (taken : List ℕ) (entries : List Entry) → AllByRecursion (IsFinite integral) given → AllFollow integral given taken entries → length entries ≤ room_left integral given taken
follow_is_short integral given taken [] f h = omega arith
follow_is_short integral given taken (entry ∷ entries) f h =
    let node = h.0.node in
    let new = halves (Some node) entry.bound entry.end in
    let same : nodes_of given entry ≡ new = ap (λ n. halves n entry.bound entry.end) h.0.given_before in
    let fits = end_fits integral given node entry.bound entry.end (entry.node ∷ taken) (node_holds (IsFinite integral) given entry.node node f h.0.given_before) h.0.right in
    let rest = follow_is_short integral (given ++ nodes_of given entry) (entry.node ∷ taken) entries (all_append (IsFinite integral) given (nodes_of given entry) f (rw same fits.finite)) h.1 in
    let longer = subst (λ nodes. length entries ≤ room_left integral (given ++ nodes) (entry.node ∷ taken)) same rest in
    omega (arith, longer, fits.room_for, room_append integral given new (entry.node ∷ taken), room_taken integral given taken entry.node node h.0.given_before (not_has taken entry.node h.0.once))

pub log_is_short : (program : Program) (log : List Entry) (n : ℕ) → IsLog program log → leaf_count program.integral (root program) ≡ Some n → length log ≤ max 1 (2 * n - 1)
log_is_short program log n h e =
    let short = follow_is_short program.integral (root program ∷ []) [] log (record { number = n; is = e }, tt) h in
    omega (arith, short, ap room e)
