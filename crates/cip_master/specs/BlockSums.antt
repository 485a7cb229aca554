-- What a row's terms on a block's columns come to at a point of the block, and its terms on columns of no block.
use Rattle.std.specs.Prelude.{ℕ, List, [], ◌∷◌, ◌++◌, None, Some, Result, Ok, if◌then◌else◌, slice_index, slice_index_or}
use Rattle.cip_rational.specs.Rational.{ℚ, zeroℚ}
use Rattle.cip_frac.specs.declared.operations.Wide.{Wide}
use Rattle.cip_frac.specs.Outcomes.{and_then, product_added}
use Rattle.cip_problem.specs.Program.{Term, Row}
use Rattle.cip_problem.specs.Activity.{value_at}
use Rattle.cip_pricing.specs.Decomposition.{Owner, same_owner}
use Rattle.cip_columns.specs.PoolPoints.{PoolPoint}
use Rattle.cip_lagrange.specs.declared.parts.Decomposed.{Decomposed}

-- a sum with the product of a term added, where the term stands on a column of the block
abbrev pub block_added : List Owner → List ℕ → ℕ → List ℚ → Term → ℚ → Result ℚ Wide
block_added owners places block values t sum =
    if same_owner (slice_index_or owners t.column None) (Some block)
    then product_added sum t.coefficient (value_at values (slice_index places t.column)) else Ok sum

-- a sum with the products of such terms added, one after another
abbrev pub block_sum : List Owner → List ℕ → ℕ → List ℚ → List Term → ℚ → Result ℚ Wide
block_sum owners places block values [] sum = Ok sum
block_sum owners places block values (t ∷ ts) sum =
    and_then (block_added owners places block values t sum) (block_sum owners places block values ts)

-- what the terms of a row come to at a point of a block, whose columns alone count
abbrev pub coefficient_in : Decomposed → PoolPoint → List Term → Result ℚ Wide
coefficient_in kept held terms =
    block_sum kept.column_owners.items kept.places.items held.block held.point terms zeroℚ

-- a term on a column of no block, with its place there; none for another one
abbrev pub free_term : Owner → ℕ → Term → List Term
free_term owner place t = if same_owner owner None then record t { column = place } ∷ [] else []

-- the terms on columns of no block, which name these by their places
abbrev pub free_terms : List Owner → List ℕ → List Term → List Term
free_terms owners places [] = []
free_terms owners places (t ∷ ts) =
    free_term (slice_index_or owners t.column None) (slice_index places t.column) t ++ free_terms owners places ts

-- a row with these terms alone
abbrev pub free_row : List Owner → List ℕ → Row → Row
free_row owners places row = record row { terms = free_terms owners places row.terms }
