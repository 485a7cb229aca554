-- Blocks one after another.
use Rattle.std.proofs.Common.{◌≡◌, ℕ, zero, suc, ◌+◌, ◌<◌, List, [], ◌∷◌, length, drop, get_or, Some, Result, Ok, Err, refl, sym, ap, ap₂, ◌∙◌, arith, add-one, slice_get}
use Rattle.std.proofs.lemmas.List.{drop_more}
use Rattle.std.proofs.lemmas.Option.{get_or_from_slice_get}
use Rattle.cip_rational.specs.Rational.{ℚ}
use Rattle.cip_problem.specs.Program.{Sides}
use Rattle.cip_problem.specs.BlockParts.{Blocks}
use Rattle.cip_problem.specs.BlockMeaning.{part_at}
use Rattle.cip_cert.specs.declared.pricing.BoundTree.{BoundTree}
use Rattle.cip_lagrange.specs.declared.parts.Subproblem.{Subproblem}
use Rattle.cip_lagrange.specs.declared.answers.TreeBound.{TreeBound}
use Rattle.cip_lagrange.specs.declared.answers.LagrangeFault.{LagrangeFault}
use Rattle.cip_lagrange.specs.LagrangeOutcomes.{chain, block_outcome, block_added, blocks_added}

-- something stands at a place of a list
pub item_at : {X : Type 0} (xs : List X) (i : ℕ) → i < length xs → (x : X) × (slice_get xs i ≡ Some x)
item_at [] i h = absurd (omega (arith, h))
item_at (x ∷ xs) zero h = (x, refl)
item_at (x ∷ xs) (suc i) h = item_at xs i (omega (arith, h))

module _ (room : ℕ) (blocks : Blocks) (rests : List ℚ) (box : List Sides) where
  -- the blocks from one on are that one and those behind it
  opened : (at : ℕ) (parts : List Subproblem) (trees : List BoundTree) (bound : TreeBound) (part : Subproblem)
      (tree : BoundTree) → slice_get parts at ≡ Some part → at < length parts → at < length trees
      → tree ≡ get_or trees at tree
      → blocks_added room blocks rests box at (drop at parts) (drop at trees) bound
      ≡ chain (block_added at (block_outcome room (part_at blocks at).columns part rests box tree) bound)
      (blocks_added room blocks rests box (at + 1) (drop (at + 1) parts) (drop (at + 1) trees))
  opened at parts trees bound part tree e l m f =
      ap₂ (λ (ps : List Subproblem) (ts : List BoundTree). blocks_added room blocks rests box at ps ts bound)
      (drop_more parts at part l
      ∙ ap (λ (p : Subproblem). p ∷ drop (at + 1) parts) (get_or_from_slice_get parts at part part e))
      (drop_more trees at tree m ∙ ap (λ (t : BoundTree). t ∷ drop (at + 1) trees) (sym f))
      ∙ ap (λ n. chain (block_added at (block_outcome room (part_at blocks at).columns part rests box tree) bound)
      (blocks_added room blocks rests box n (drop (at + 1) parts) (drop (at + 1) trees))) (sym (add-one at))

  pub blocks_next : (at : ℕ) (parts : List Subproblem) (trees : List BoundTree) (bound more : TreeBound)
      (part : Subproblem) (tree : BoundTree) (total : Result TreeBound LagrangeFault)
      → slice_get parts at ≡ Some part → at < length parts → at < length trees → tree ≡ get_or trees at tree
      → Ok more ≡ block_added at (block_outcome room (part_at blocks at).columns part rests box tree) bound
      → blocks_added room blocks rests box at (drop at parts) (drop at trees) bound ≡ total
      → blocks_added room blocks rests box (at + 1) (drop (at + 1) parts) (drop (at + 1) trees) more ≡ total
  blocks_next at parts trees bound more part tree total e l m f g h =
      ap (λ o. chain o (blocks_added room blocks rests box (at + 1) (drop (at + 1) parts) (drop (at + 1) trees))) g
      ∙ sym (opened at parts trees bound part tree e l m f) ∙ h

  pub blocks_stop : (at : ℕ) (parts : List Subproblem) (trees : List BoundTree) (bound : TreeBound)
      (fault : LagrangeFault) (part : Subproblem) (tree : BoundTree) (total : Result TreeBound LagrangeFault)
      → slice_get parts at ≡ Some part → at < length parts → at < length trees → tree ≡ get_or trees at tree
      → Err fault ≡ block_added at (block_outcome room (part_at blocks at).columns part rests box tree) bound
      → blocks_added room blocks rests box at (drop at parts) (drop at trees) bound ≡ total
      → ◌≡◌ {A = Result TreeBound LagrangeFault} (Err fault) total
  blocks_stop at parts trees bound fault part tree total e l m f g h =
      ap (λ o. chain o (blocks_added room blocks rests box (at + 1) (drop (at + 1) parts) (drop (at + 1) trees))) g
      ∙ sym (opened at parts trees bound part tree e l m f) ∙ h
