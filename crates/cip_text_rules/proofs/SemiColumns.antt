-- The choices of a program belong to its columns.
use Rattle.std.proofs.Common.{◌≡◌, ℕ, zero, suc, Bool, true, false, not, ◌&&◌, cond, List, [], ◌∷◌, map, Option, None, Some, IsSomeAnd, is_some, slice_get, refl, ap}
use Rattle.std.specs.List.{list_any}
use Rattle.std.proofs.lemmas.Bool.{and_parts}
use Rattle.cip_rational.specs.Rational.{ℚ, zeroℚ, ◌≤ℚ◌}
use Rattle.cip_rational.proofs.Rational.Order.{le_of_test}
use Rattle.cip_text_rules.specs.Program.{Open, Plain}
use Rattle.cip_text_rules.specs.Box.{sides_at}
use Rattle.cip_text_rules.specs.Choices.{choice_at, open_sides}
use Rattle.cip_text_rules.specs.WellFormed.{IsChoice}
use Rattle.cip_text_rules.specs.MpsBounds.{Bounded, own_sides, is_from_zero, are_semi_sides, is_semi, column_sides, choice_of, choices_of}
use Rattle.cip_text_rules.proofs.BlockLaws.{not_true}

from_zero : (o : Option ℚ) → is_from_zero o ≡ true → IsSomeAnd o (λ side. zeroℚ ≤ℚ side)
from_zero None e = absurd (cc)
from_zero (Some side) e = le_of_test e

choice_formed : (b : Bounded) → IsChoice (choice_of b) (Some b.whole) (column_sides b)
choice_formed b = go (is_semi b) refl
  where
    go : (t : Bool) → is_semi b ≡ t → IsChoice (cond t (Open (own_sides b)) Plain) (Some b.whole) (cond t (open_sides (own_sides b)) (own_sides b))
    go false e = tt
    go true e =
        let parts = and_parts (b.semi && not b.whole) (are_semi_sides (own_sides b)) e in
        let kind = and_parts b.semi (not b.whole) parts.0 in
        let sides = and_parts (is_some b.high) (is_from_zero b.low) parts.1 in
        record {
          continuous = ap Some (not_true b.whole kind.1);
          low = from_zero b.low sides.1;
          high = sides.0;
          open_ = refl;
        }

each_formed : (bs : List Bounded) (column : ℕ) → IsChoice (choice_at (map choice_of bs) column) (slice_get (map (λ b. b.whole) bs) column) (sides_at (map column_sides bs) column)
each_formed [] column = tt
each_formed (b ∷ bs) zero = choice_formed b
each_formed (b ∷ bs) (suc column) = each_formed bs column

pub choices_formed : (bs : List Bounded) (column : ℕ) → IsChoice (choice_at (choices_of bs) column) (slice_get (map (λ b. b.whole) bs) column) (sides_at (map column_sides bs) column)
choices_formed bs column = go (list_any is_semi bs)
  where
    go : (t : Bool) → IsChoice (choice_at (cond t (map choice_of bs) []) column) (slice_get (map (λ b. b.whole) bs) column) (sides_at (map column_sides bs) column)
    go true = each_formed bs column
    go false = tt
