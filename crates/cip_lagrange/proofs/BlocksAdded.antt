-- What the bounds of the blocks' trees come to.
use Rattle.std.proofs.Common.{◌≡◌, ℕ, zero, suc, ◌+◌, Bool, true, false, cond, List, [], ◌∷◌, length, Some, Result, Ok, Err, IfOk, refl, sym, ap, ◌∙◌, subst, arith, slice_get, add-zero}
use Rattle.std.proofs.lemmas.Option.{none-some, same_Some}
use Rattle.cip_rational.specs.Rational.{ℚ, ◌+ℚ◌}
use Rattle.cip_rational.proofs.Rational.Ring.{+ℚ-zero, +ℚ_assoc}
use Rattle.cip_frac.specs.declared.operations.Wide.{Wide as Overflow}
use Rattle.cip_frac.specs.Outcomes.{sum_outcome}
use Rattle.cip_rational.specs.Range.{sum_overflows}
use Rattle.cip_problem.specs.Program.{Sides}
use Rattle.cip_problem.specs.Activity.{value_at}
use Rattle.cip_problem.specs.BlockParts.{Blocks}
use Rattle.cip_problem.specs.BlockMeaning.{part_at}
use Rattle.cip_pricing.specs.Mixtures.{total}
use Rattle.cip_cert.specs.declared.pricing.BoundTree.{BoundTree}
use Rattle.cip_lagrange.specs.Numbers.{found}
use Rattle.cip_lagrange.specs.declared.parts.Subproblem.{Subproblem}
use Rattle.cip_lagrange.specs.declared.answers.TreeBound.{TreeBound}
use Rattle.cip_lagrange.specs.declared.answers.TreeBound.TheVariants.{Finite, NoPoint}
use Rattle.cip_lagrange.specs.declared.answers.TreeFault.{TreeFault}
use Rattle.cip_lagrange.specs.TreeMeaning.{TreeFollows, own_rows}
use Rattle.cip_lagrange.specs.LagrangeOutcomes.{part_node, block_outcome, finite_sum, bounds_sum, block_added, blocks_added}
use Rattle.cip_lagrange.proofs.FollowedTrees.{tree_follows}
use Rattle.cip_lagrange.proofs.Multiplied.{ok_chain, ok_weaker}
use Rattle.cip_cert.specs.Lent.{Fits}
use Rattle.cip_lagrange.specs.Scratches.{CanBound}
use Rattle.cip_lagrange.proofs.RowsAlone.{fits_alone}

-- ---- sums of bounds

pub sum_cases : (t : Bool) (o : Overflow) (v : ℚ) → IfOk (cond t (Err o) (Ok v)) (λ w. w ≡ v)
sum_cases true o v = tt
sum_cases false o v = refl

sum_value : (a b : ℚ) → IfOk (sum_outcome a b) (λ v. v ≡ a +ℚ b)
sum_value a b = sum_cases (sum_overflows a b) _ (a +ℚ b)

module _ (room : ℕ) (blocks : Blocks) (rests : List ℚ) (box : List Sides) where
  -- what is shown of the points of a block
  abbrev pub IsShown : ℕ → Subproblem → TreeBound → Type 0
  IsShown block part bound =
      TreeFollows (own_rows part.rows.items) part.whole.items (found rests (part_at blocks block).columns)
      (part_node part (found box (part_at blocks block).columns)) bound

  -- one of the blocks, of which the first has this number, has no point
  pub record HasNone (first : ℕ) (parts : List Subproblem) : Type 0 where
    pub block : ℕ
    pub part : Subproblem
    pub at : slice_get parts block ≡ Some part
    pub shown : IsShown (first + block) part NoPoint

  -- each of the blocks has a price, and these sum up
  pub record HasPrices (first : ℕ) (parts : List Subproblem) (before after : ℚ) : Type 0 where
    pub prices : List ℚ
    pub long : length prices ≡ length parts
    pub each : (block : ℕ) (part : Subproblem) → slice_get parts block ≡ Some part
        → IsShown (first + block) part (Finite (value_at prices block))
    pub sum : after ≡ before +ℚ total prices

  -- what bounds that are added come to
  abbrev pub AreAdded : ℕ → List Subproblem → TreeBound → TreeBound → Type 0
  AreAdded first parts NoPoint NoPoint = Unit {0}
  AreAdded first parts NoPoint (Finite after) = ⊥
  AreAdded first parts (Finite before) NoPoint = HasNone first parts
  AreAdded first parts (Finite before) (Finite after) = HasPrices first parts before after

  added_none : (first : ℕ) (bound : TreeBound) → AreAdded first [] bound bound
  added_none first NoPoint = tt
  added_none first (Finite before) = record {
    prices = [];
    long = refl;
    each = λ block part e. absurd (none-some part e);
    sum = sym (+ℚ-zero before);
  }

  -- the first of the blocks has no point
  first_none : (first : ℕ) (part : Subproblem) (parts : List Subproblem) (end : TreeBound) (before : ℚ)
      → IsShown first part NoPoint → AreAdded (suc first) parts NoPoint end
      → AreAdded first (part ∷ parts) (Finite before) end
  first_none first part parts (Finite after) before h k = absurd k
  first_none first part parts NoPoint before h k = record {
    block = 0;
    part = part;
    at = refl;
    shown = subst (λ n. IsShown n part NoPoint) (sym (add-zero first)) h;
  }

  next_number : (first block : ℕ) → suc first + block ≡ first + suc block
  next_number first block = omega arith

  -- the first of the blocks has a price
  first_price : (first : ℕ) (part : Subproblem) (parts : List Subproblem) (end : TreeBound) (before price middle : ℚ)
      → IsShown first part (Finite price) → middle ≡ before +ℚ price → AreAdded (suc first) parts (Finite middle) end
      → AreAdded first (part ∷ parts) (Finite before) end
  first_price first part parts NoPoint before price middle h e k = record {
    block = suc k.block;
    part = k.part;
    at = k.at;
    shown = subst (λ n. IsShown n k.part NoPoint) (next_number first k.block) k.shown;
  }
  first_price first part parts (Finite after) before price middle h e k = record {
    prices = price ∷ k.prices;
    long = ap suc k.long;
    each = each;
    sum = k.sum ∙ ap (λ t. t +ℚ total k.prices) e ∙ +ℚ_assoc before price (total k.prices);
  }
    where
      each : (block : ℕ) (other : Subproblem) → slice_get (part ∷ parts) block ≡ Some other
          → IsShown (first + block) other (Finite (value_at (price ∷ k.prices) block))
      each zero other q =
          subst (λ n. IsShown n other (Finite price)) (sym (add-zero first))
          (subst (λ (p : Subproblem). IsShown first p (Finite price)) (same_Some part other q) h)
      each (suc block) other q =
          subst (λ n. IsShown n other (Finite (value_at k.prices block))) (next_number first block)
          (k.each block other q)

  -- ---- one block

  -- what one bound more comes to
  record OneAdded (first : ℕ) (part : Subproblem) (before after : TreeBound) : Type 0 where
    pub more : (parts : List Subproblem) (end : TreeBound) → AreAdded (suc first) parts after end
        → AreAdded first (part ∷ parts) before end

  none_stays : (first : ℕ) (part : Subproblem) → OneAdded first part NoPoint NoPoint
  none_stays first part = record { more = go }
    where
      go : (parts : List Subproblem) (end : TreeBound) → AreAdded (suc first) parts NoPoint end
          → AreAdded first (part ∷ parts) NoPoint end
      go parts NoPoint h = tt
      go parts (Finite after) h = h

  finite_one : (first : ℕ) (part : Subproblem) (before price : ℚ) (sum : Result ℚ Overflow)
      → IsShown first part (Finite price) → IfOk sum (λ v. v ≡ before +ℚ price)
      → IfOk (finite_sum sum) (OneAdded first part (Finite before))
  finite_one first part before price (Ok v) h e =
      record { more = λ parts end k. first_price first part parts end before price v h e k }
  finite_one first part before price (Err overflow) h e = tt

  sum_one : (first : ℕ) (part : Subproblem) (bound more : TreeBound) → IsShown first part more
      → IfOk (bounds_sum bound more) (OneAdded first part bound)
  sum_one first part NoPoint more h = none_stays first part
  sum_one first part (Finite before) NoPoint h =
      record { more = λ parts end k. first_none first part parts end before h k }
  sum_one first part (Finite before) (Finite price) h =
      finite_one first part before price (sum_outcome before price) h (sum_value before price)

  tree_one : (first : ℕ) (part : Subproblem) (outcome : Result TreeBound TreeFault) (bound : TreeBound)
      → IfOk outcome (IsShown first part) → IfOk (block_added first outcome bound) (OneAdded first part bound)
  tree_one first part (Ok more) bound h = sum_one first part bound more h
  tree_one first part (Err fault) bound h = tt

  -- ---- all blocks

  -- the lists of a block fit together
  pub record FitsPart (block : ℕ) (part : Subproblem) : Type 0 where
    pub can : CanBound part room
    pub box_ : length (found box (part_at blocks block).columns) ≡ length part.whole.items
    pub costs : length (found rests (part_at blocks block).columns) ≡ length part.whole.items

  block_shown : (block : ℕ) (part : Subproblem) (tree : BoundTree) → FitsPart block part
      → IfOk (block_outcome room (part_at blocks block).columns part rests box tree) (IsShown block part)
  block_shown block part tree f =
      tree_follows (own_rows part.rows.items) part.whole.items (found rests (part_at blocks block).columns) room 1 tree
      (part_node part (found box (part_at blocks block).columns))
      (subst (λ n. Fits n (own_rows part.rows.items)) (sym f.box_)
      (fits_alone part.rows.items (length part.whole.items) f.can.rows))
      (omega (arith, f.box_, f.can.few)) (f.costs ∙ sym f.box_) (sym f.box_)

  pub blocks_mean : (first : ℕ) (parts : List Subproblem) (trees : List BoundTree) (bound : TreeBound)
      → length trees ≡ length parts
      → ((block : ℕ) (part : Subproblem) → slice_get parts block ≡ Some part → FitsPart (first + block) part)
      → IfOk (blocks_added room blocks rests box first parts trees bound) (AreAdded first parts bound)
  blocks_mean first [] [] bound l f = added_none first bound
  blocks_mean first [] (tree ∷ trees) bound l f = absurd (omega (arith, l))
  blocks_mean first (part ∷ parts) [] bound l f = absurd (omega (arith, l))
  blocks_mean first (part ∷ parts) (tree ∷ trees) bound l f =
      let here : FitsPart first part = subst (λ n. FitsPart n part) (add-zero first) (f 0 part refl) in
      ok_chain (OneAdded first part bound) (AreAdded first (part ∷ parts) bound)
      (block_added first (block_outcome room (part_at blocks first).columns part rests box tree) bound)
      (blocks_added room blocks rests box (suc first) parts trees)
      (tree_one first part (block_outcome room (part_at blocks first).columns part rests box tree) bound
      (block_shown first part tree here))
      (λ more o.
      ok_weaker (AreAdded (suc first) parts more) (AreAdded first (part ∷ parts) bound)
      (blocks_added room blocks rests box (suc first) parts trees more)
      (λ end k. o.more parts end k)
      (blocks_mean (suc first) parts trees more (omega (arith, l))
      (λ block other e. subst (λ n. FitsPart n other) (sym (next_number first block)) (f (suc block) other e))))
