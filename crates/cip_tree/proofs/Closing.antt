-- Open nodes are closed by their bounds.
use Rattle.cip_domain.specs.Changes.{Region}
use Rattle.std.proofs.Common.{sum_by, ◌≡◌, ℕ, ◌+◌, ◌≤◌, Bool, true, false, cond, List, [], ◌∷◌, map, length, count_by, filter, All, refl, sym, ap, subst, arith}
use Rattle.std.specs.List.Sorted.{IsPermutation}
use Rattle.std.proofs.lemmas.List.Elements.{All-head, All-tail}
use Rattle.std.proofs.lemmas.List.Sums.{sum_by-cons, length-filter, count_by-le-length}
use Rattle.std.proofs.lemmas.List.Sorted.{IsPermutation-map, IsPermutation-refl, length_permutation}
use Rattle.cip_rational.specs.Rational.{ℚ}
use Rattle.cip_problem.specs.Log.{Node}
use Rattle.cip_tree.specs.declared.queue.OpenNode.{OpenNode}
use Rattle.cip_tree.specs.Slots.{Slots}
use Rattle.cip_tree.specs.Queue.{is_below}
use Rattle.cip_tree.specs.Moves.{is_cheaper}
use Rattle.cip_tree.specs.Inside.{node_at, nodes_at, is_at}
use Rattle.cip_tree.proofs.Keeping.{one_if}

shown_step : (f : OpenNode → Node) (x : OpenNode) (a : List Node) (b : List OpenNode) (t : Bool) → a ≡ map f b → cond t (f x ∷ a) a ≡ map f (cond t (x ∷ b) b)
shown_step f x a b true e = ap (λ l. f x ∷ l) e
shown_step f x a b false e = e

-- the cheaper ones of the nodes shown are those of the cheaper ones
shown_filter : (region : Region) (slots : Slots) (cost : ℚ) (nodes : List OpenNode) → filter (is_cheaper cost) (nodes_at region slots nodes) ≡ nodes_at region slots (filter (is_below cost) nodes)
shown_filter region slots cost [] = refl
shown_filter region slots cost (x ∷ xs) = shown_step (node_at region slots) x _ _ (is_below cost x) (shown_filter region slots cost xs)

pub closed_nodes : (region : Region) (slots : Slots) (cost : ℚ) (old new : List OpenNode) → IsPermutation (filter (is_below cost) old) new → IsPermutation (filter (is_cheaper cost) (nodes_at region slots old)) (nodes_at region slots new)
closed_nodes region slots cost old new p = subst (λ l. IsPermutation l (nodes_at region slots new)) (sym (shown_filter region slots cost old)) (IsPermutation-map (node_at region slots) (filter (is_below cost) old) new p)

keep_step : (x : OpenNode) (a b : List OpenNode) (t : Bool) → t ≡ true → a ≡ b → cond t (x ∷ a) a ≡ x ∷ b
keep_step x a b true e f = ap (λ l. x ∷ l) f
keep_step x a b false e f = absurd (let g : false ≡ true = e in cc)

all_stay : (cost : ℚ) (nodes : List OpenNode) → All (λ node. is_below cost node ≡ true) nodes → filter (is_below cost) nodes ≡ nodes
all_stay cost [] h = refl
all_stay cost (x ∷ xs) h = keep_step x _ xs (is_below cost x) (All-head (λ node. is_below cost node ≡ true) x xs h) (all_stay cost xs (All-tail (λ node. is_below cost node ≡ true) x xs h))

-- where each is cheaper, none is closed
pub none_closed : (cost : ℚ) (nodes : List OpenNode) → All (λ node. is_below cost node ≡ true) nodes → IsPermutation (filter (is_below cost) nodes) nodes
none_closed cost nodes h = subst (λ l. IsPermutation l nodes) (sym (all_stay cost nodes h)) (IsPermutation-refl nodes)

count_step : (f : OpenNode → ℕ) (x : OpenNode) (a b : List OpenNode) (t : Bool) → sum_by f a ≤ sum_by f b → sum_by f (cond t (x ∷ a) a) ≤ f x + sum_by f b
count_step f x a b true h = omega (arith, sum_by-cons f x a, h)
count_step f x a b false h = omega (arith, h)

-- no place stands among them more often
pub fewer : (place : ℕ) (cost : ℚ) (nodes : List OpenNode) → count_by (is_at place) (filter (is_below cost) nodes) ≤ count_by (is_at place) nodes
fewer place cost [] = omega arith
fewer place cost (x ∷ xs) = omega (arith, count_step (λ e. one_if (is_at place e)) x (filter (is_below cost) xs) xs (is_below cost x) (fewer place cost xs), sum_by-cons (λ e. one_if (is_at place e)) x xs)

pub closed_length : (cost : ℚ) (old new : List OpenNode) → IsPermutation (filter (is_below cost) old) new → length new ≤ length old
closed_length cost old new perm = omega (arith, length_permutation (filter (is_below cost) old) new perm, length-filter (is_below cost) old, count_by-le-length (is_below cost) old)
