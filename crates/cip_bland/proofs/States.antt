-- What is read of a state after a move.
use Rattle.std.proofs.Common.{◌≡◌, ℕ, ◌<◌, ◌==◌, true, [], get_or, None, Some, refl, ap, ◌∙◌}
use Rattle.std.proofs.lemmas.Bool.{eq-eqb, ne_eqb}
use Rattle.cip_rational.specs.Rational.{zeroℚ}
use Rattle.cip_problem.specs.Activity.{value_at}
use Rattle.cip_bland.specs.Tables.{table}
use Rattle.cip_bland.specs.Dictionary.{Dictionary, size, stand, is_basic, entry, cost_entry, value}
use Rattle.cip_bland.specs.Exchange.{moved, moved_cost, entering, exchanged_row, step, exchanged_stand, exchanged_rows, exchanged, other_stand, way, flipped_stand, flipped}
use Rattle.cip_bland.specs.declared.moves.Stand.{Stand}
use Rattle.cip_bland.proofs.Tables.{at_table}

-- the row of a variable by where its number falls
module _ (d : Dictionary) (i j v : ℕ) where
  row_left : v ≡ i → exchanged_rows d i j v ≡ []
  row_left e = rw (eq-eqb v i e) refl

  row_entered : ¬ (v ≡ i) → v ≡ j → exchanged_rows d i j v ≡ table (size d) (entering d i j)
  row_entered ni e = rw (ne_eqb v i ni, eq-eqb v j e) refl

  row_stayed : ¬ (v ≡ i) → ¬ (v ≡ j) → is_basic d v ≡ true → exchanged_rows d i j v ≡ table (size d) (exchanged_row d i j (entry d v))
  row_stayed ni nj e = rw (ne_eqb v i ni, ne_eqb v j nj, e) refl

module _ (d : Dictionary) (i j : ℕ) (to : Stand) where
  pub exchanged-sides : (exchanged d i j to).sides ≡ d.sides
  unfolding exchanged
  exchanged-sides = refl

  pub exchanged-stand : (v : ℕ) → v < size d → stand (exchanged d i j to) v ≡ exchanged_stand (v == i) (v == j) to (stand d v)
  unfolding exchanged
  exchanged-stand v h = at_table (size d) (λ v. exchanged_stand (v == i) (v == j) to (stand d v)) v None h

  pub exchanged-cost_entry : (k : ℕ) → k < size d → cost_entry (exchanged d i j to) k ≡ exchanged_row d i j (cost_entry d) k
  unfolding exchanged
  exchanged-cost_entry k h = at_table (size d) (exchanged_row d i j (cost_entry d)) k zeroℚ h

  pub exchanged-value : (v : ℕ) → v < size d → value (exchanged d i j to) v ≡ moved d j (step d i j to) v
  unfolding exchanged
  exchanged-value v h = at_table (size d) (moved d j (step d i j to)) v zeroℚ h

  pub exchanged-cost : (exchanged d i j to).cost ≡ moved_cost d j (step d i j to)
  unfolding exchanged
  exchanged-cost = refl

  exchanged-row : (v : ℕ) → v < size d → get_or (exchanged d i j to).rows v [] ≡ exchanged_rows d i j v
  unfolding exchanged
  exchanged-row v h = at_table (size d) (exchanged_rows d i j) v [] h

  pub entered-entry : (k : ℕ) → ¬ (j ≡ i) → j < size d → k < size d → entry (exchanged d i j to) j k ≡ entering d i j k
  entered-entry k ne lj lk =
      ap (λ r. value_at r k) (exchanged-row j lj ∙ row_entered d i j j ne refl) ∙ at_table (size d) (entering d i j) k zeroℚ lk

  pub stayed-entry : (v k : ℕ) → ¬ (v ≡ i) → ¬ (v ≡ j) → is_basic d v ≡ true → v < size d → k < size d → entry (exchanged d i j to) v k ≡ exchanged_row d i j (entry d v) k
  stayed-entry v k ni nj e lv lk =
      ap (λ r. value_at r k) (exchanged-row v lv ∙ row_stayed d i j v ni nj e) ∙ at_table (size d) (exchanged_row d i j (entry d v)) k zeroℚ lk

  -- who is basic afterwards
  pub left_stand : i < size d → stand (exchanged d i j to) i ≡ Some to
  left_stand l = exchanged-stand i l ∙ rw (eq-eqb i i refl) refl

  pub entered_stand : ¬ (j ≡ i) → j < size d → stand (exchanged d i j to) j ≡ None
  entered_stand ne l = exchanged-stand j l ∙ rw (ne_eqb j i ne, eq-eqb j j refl) refl

  pub stayed_stand : (v : ℕ) → ¬ (v ≡ i) → ¬ (v ≡ j) → v < size d → stand (exchanged d i j to) v ≡ stand d v
  stayed_stand v ni nj l = exchanged-stand v l ∙ rw (ne_eqb v i ni, ne_eqb v j nj) refl

module _ (d : Dictionary) (j : ℕ) where
  pub flipped-sides : (flipped d j).sides ≡ d.sides
  unfolding flipped
  flipped-sides = refl

  pub flipped-rows : (flipped d j).rows ≡ d.rows
  unfolding flipped
  flipped-rows = refl

  pub flipped-costs : (flipped d j).costs ≡ d.costs
  unfolding flipped
  flipped-costs = refl

  pub flipped-cost : (flipped d j).cost ≡ moved_cost d j (way d j)
  unfolding flipped
  flipped-cost = refl

  flipped-stand : (v : ℕ) → v < size d → stand (flipped d j) v ≡ flipped_stand (v == j) (stand d v)
  unfolding flipped
  flipped-stand v h = at_table (size d) (λ v. flipped_stand (v == j) (stand d v)) v None h

  pub flipped-value : (v : ℕ) → v < size d → value (flipped d j) v ≡ moved d j (way d j) v
  unfolding flipped
  flipped-value v h = at_table (size d) (moved d j (way d j)) v zeroℚ h

  pub turned_stand : j < size d → stand (flipped d j) j ≡ Some (other_stand (stand d j))
  turned_stand l = flipped-stand j l ∙ rw (eq-eqb j j refl) refl

  pub unturned_stand : (v : ℕ) → ¬ (v ≡ j) → v < size d → stand (flipped d j) v ≡ stand d v
  unturned_stand v nj l = flipped-stand v l ∙ rw (ne_eqb v j nj) refl
