-- Members of lists, and how many nodes have some number.
use Rattle.std.proofs.Common.{◌≡◌, ◌≢◌, ◌⊎◌, inl, inr, ℕ, ◌+◌, ◌≤◌, ◌==◌, Bool, true, false, cond, List, [], ◌∷◌, map, sum_by, filter, Contains, refl, sym, ap, ◌∙◌, subst, arith}
use Rattle.std.proofs.lemmas.Bool.{eq-eqb, ne_eqb}
use Rattle.std.proofs.lemmas.List.Sums.{sum_by-cons}
use Rattle.cip_problem.specs.Log.{Node}
use Rattle.cip_problem.proofs.Log.Entering.{contains_here, contains_cons, contains_later}
use Rattle.cip_problem.proofs.Covers.{none_of_nothing}
use Rattle.cip_search.specs.SearchState.{has_number, AreApart}

-- ---- members

pub mapped : {X Y : Type 0} (f : X → Y) (xs : List X) (x : X) → Contains xs x → Contains (map f xs) (f x)
mapped f [] x h = absurd (none_of_nothing x h)
mapped f (y ∷ ys) x h = elim (contains_cons y x ys h) [
  | inl e ↦ subst (λ z. Contains (f y ∷ map f ys) (f z)) e (contains_here (f y) (map f ys))
  | inr k ↦ contains_later (f y) (f x) (map f ys) (mapped f ys x k)
]

-- an element of a mapped list comes from one
pub record ComesFrom {X Y : Type 0} (f : X → Y) (xs : List X) (y : Y) : Type 0 where
  pub from : X
  pub among : Contains xs from
  pub is : f from ≡ y

pub of_mapped : {X Y : Type 0} (f : X → Y) (xs : List X) (y : Y) → Contains (map f xs) y → ComesFrom f xs y
of_mapped f [] y h = absurd (none_of_nothing y h)
of_mapped f (x ∷ xs) y h = elim (contains_cons (f x) y (map f xs) h) [
  | inl e ↦ record { from = x; among = contains_here x xs; is = e }
  | inr k ↦ let r = of_mapped f xs y k in record { from = r.from; among = contains_later x r.from xs r.among; is = r.is }
]

filtered : {X : Type 0} (x y : X) (a b : List X) (t : Bool) → (Contains a y → Contains b y) → Contains (cond t (x ∷ a) a) y → Contains (x ∷ b) y × ((t ≡ true) ⊎ Contains a y)
filtered x y a b true f h = (
  elim (contains_cons x y a h) [
    | inl e ↦ subst (Contains (x ∷ b)) e (contains_here x b)
    | inr k ↦ contains_later x y b (f k)
  ],
  inl refl,
)
filtered x y a b false f h = (contains_later x y b (f h), inr h)

-- what a filter keeps was there, and passes the test
pub kept_was_there : {X : Type 0} (p : X → Bool) (xs : List X) (x : X) → Contains (filter p xs) x → Contains xs x
kept_was_there p [] x h = h
kept_was_there p (y ∷ ys) x h = (filtered y x (filter p ys) ys (p y) (kept_was_there p ys x) h).0

passes_here : {X : Type 0} (p : X → Bool) (y x : X) (a : List X) (t : Bool) → p y ≡ t → (Contains a x → p x ≡ true) → Contains (cond t (y ∷ a) a) x → p x ≡ true
passes_here p y x a true e f h = elim (contains_cons y x a h) [
  | inl k ↦ subst (λ z. p z ≡ true) k e
  | inr k ↦ f k
]
passes_here p y x a false e f h = f h

pub kept_passes : {X : Type 0} (p : X → Bool) (xs : List X) (x : X) → Contains (filter p xs) x → p x ≡ true
kept_passes p [] x h = absurd (none_of_nothing x h)
kept_passes p (y ∷ ys) x h = passes_here p y x (filter p ys) (p y) refl (kept_passes p ys x) h

keeps_here : {X : Type 0} (y x : X) (a : List X) (t : Bool) → (y ≡ x → t ≡ true) → (y ≡ x) ⊎ Contains a x → Contains (cond t (y ∷ a) a) x
keeps_here y x a true f (inl e) = subst (Contains (y ∷ a)) e (contains_here y a)
keeps_here y x a true f (inr k) = contains_later y x a k
keeps_here y x a false f (inl e) = absurd (let g : false ≡ true = f e in cc)
keeps_here y x a false f (inr k) = k

pub is_kept : {X : Type 0} (p : X → Bool) (xs : List X) (x : X) → Contains xs x → p x ≡ true → Contains (filter p xs) x
is_kept p [] x h e = h
is_kept p (y ∷ ys) x h e =
    keeps_here y x (filter p ys) (p y) (λ k. subst (λ z. p z ≡ true) (sym k) e) (elim (contains_cons y x ys h) [
      | inl k ↦ inl k
      | inr k ↦ inr (is_kept p ys x k e)
    ])

-- ---- how many have a number

abbrev pub hits : ℕ → Node → ℕ
hits number node = cond (has_number number node) 1 0

pub hit : (number : ℕ) (node : Node) → node.number ≡ number → hits number node ≡ 1
hit number node e = ap (λ t. cond t 1 0) (eq-eqb node.number number e)

pub missed : (number : ℕ) (node : Node) → node.number ≢ number → hits number node ≡ 0
missed number node e = ap (λ t. cond t 1 0) (ne_eqb node.number number e)

pub same_hits : (number : ℕ) (node other : Node) → node.number ≡ other.number → hits number node ≡ hits number other
same_hits number node other e = let f : ℕ → ℕ = λ n. cond (n == number) 1 0 in ap f e

-- none of them has it
pub none_hits : (number : ℕ) (nodes : List Node) → ((node : Node) → Contains nodes node → node.number ≢ number) → sum_by (hits number) nodes ≡ 0
none_hits number [] h = refl
none_hits number (n ∷ ns) h =
    omega (arith, sum_by-cons (hits number) n ns, missed number n (h n (contains_here n ns)), none_hits number ns (λ node c. h node (contains_later n node ns c)))

pub no_hit : (number : ℕ) (nodes : List Node) (node : Node) → sum_by (hits number) nodes ≡ 0 → Contains nodes node → node.number ≢ number
no_hit number [] node h c e = absurd (none_of_nothing node c)
no_hit number (n ∷ ns) node h c e = elim (contains_cons n node ns c) [
  | inl k ↦ omega (arith, h, sum_by-cons (hits number) n ns, hit number n (ap (λ t. t.number) k ∙ e))
  | inr k ↦ no_hit number ns node (omega (arith, h, sum_by-cons (hits number) n ns)) k e
]

less_hits : (number : ℕ) (x : Node) (a b : List Node) (t : Bool) → sum_by (hits number) a ≤ sum_by (hits number) b → sum_by (hits number) (cond t (x ∷ a) a) ≤ hits number x + sum_by (hits number) b
less_hits number x a b true h = omega (arith, sum_by-cons (hits number) x a, h)
less_hits number x a b false h = omega (arith, h)

-- a filter leaves no more
pub fewer_hits : (number : ℕ) (p : Node → Bool) (nodes : List Node) → sum_by (hits number) (filter p nodes) ≤ sum_by (hits number) nodes
fewer_hits number p [] = omega arith
fewer_hits number p (n ∷ ns) = omega (arith, less_hits number n (filter p ns) ns (p n) (fewer_hits number p ns), sum_by-cons (hits number) n ns)

-- those behind a first node have other numbers
pub others_apart : (node : Node) (others : List Node) → AreApart (node ∷ others) → (other : Node) → Contains others other → other.number ≢ node.number
others_apart node others h other c =
    no_hit node.number others other (omega (arith, h node.number, sum_by-cons (hits node.number) node others, hit node.number node refl)) c

pub rest_apart : (node : Node) (others : List Node) → AreApart (node ∷ others) → AreApart others
rest_apart node others h number = omega (arith, h number, sum_by-cons (hits number) node others)
