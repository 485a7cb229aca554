-- What a flip writes and takes over makes the state after it.
use Rattle.std.proofs.Common.{◌≡◌, ℕ, ◌<◌, ◌==◌, false, cond, not, is_some, List, [], ◌∷◌, ◌++◌, length, get_or, set, Option, None, Some, refl, sym, ap, ◌∙◌, inl, inr, arith, length-set, true}
use Rattle.std.proofs.lemmas.Bool.{eq-eqb, ne_eqb, cases_eq}
use Rattle.std.proofs.lemmas.List.{get_or-set_same, get_or-set_other}
use Rattle.cip_rational.specs.Rational.{ℚ, ◌+ℚ◌, ◌-ℚ◌}
use Rattle.cip_rational.proofs.Linear.{linear_same}
use Rattle.cip_rational.specs.Range.{difference_overflows}
use Rattle.cip_problem.specs.Program.{Sides}
use Rattle.cip_problem.specs.Activity.{value_at}
use Rattle.cip_problem.specs.Box.{sides_at}
use Rattle.cip_bland.specs.Tables.{table, each, least}
use Rattle.cip_bland.specs.Dictionary.{Dictionary, size, stand, is_basic, standing_value}
use Rattle.cip_bland.specs.Exchange.{other_stand, way, flipped_stand, flipped, CanFlip, moved}
use Rattle.cip_bland.specs.Operations.{Placed, Difference, placed, value_place, first_overflow}
use Rattle.cip_bland.specs.MoveOperations.{first_line, flipped_operations, cost_operations, flip_operations}
use Rattle.cip_bland.specs.declared.moves.Stand.{Stand}
use Rattle.cip_bland.specs.declared.places.EntryPlace.{EntryPlace}
use Rattle.cip_bland.proofs.Tables.{same_table, length-table}
use Rattle.cip_bland.proofs.Kept.{flips_keep}
use Rattle.cip_dict.specs.declared.lists.Lists.{Lists}
use Rattle.cip_dict.specs.declared.lists.Room.{Room}
use Rattle.cip_dict.specs.Lists.{basic_in}
use Rattle.cip_dict.specs.Row.{HasRows}
use Rattle.cip_dict.specs.State.{state, HasRoom, IsShaped}
use Rattle.cip_dict.specs.Values.{taken_value}
use Rattle.cip_dict.specs.Written.{flips_operations, MovesWritten, IsFlipPlanned, IsFlipTaken}

-- ---- the operations

pub flip_split : (sides : List Sides) (standing : List (Option Stand)) (lists : Lists) (j : ℕ) → length sides ≡ length standing → flip_operations (state sides standing lists) j ≡ (placed (value_place (first_line (least (length standing) (basic_in standing)))) (Difference (standing_value (sides_at sides j) (other_stand (stand (state sides standing lists) j))) (value_at lists.values.items j)) ∷ []) ++ flips_operations standing j (way (state sides standing lists) j) lists
flip_split sides standing lists j e =
    let d : Dictionary = state sides standing lists in
    let f : ℕ → List Placed = λ n. placed (value_place (first_line (least n (is_basic d)))) (Difference (standing_value (sides_at sides j) (other_stand (stand d j))) (value_at lists.values.items j)) ∷ (each n (flipped_operations d j) ++ cost_operations d j (way d j)) in
    let same : f (length sides) ≡ f (length standing) = ap f e in
    same

pub flip_planned : (sides : List Sides) (standing : List (Option Stand)) (lists : Lists) (j : ℕ) (old new : Room) (cost : ℚ) → length sides ≡ length standing → MovesWritten standing j (way (state sides standing lists) j) lists old new cost → IsFlipPlanned (state sides standing lists) j old new cost
flip_planned sides standing lists j old new cost e m = record {
  entering = m.entering;
  rows = m.rows;
  changed = m.changed;
  costs = m.costs;
  values = ap (λ n. table n (taken_value standing j lists.values.items new.values.items)) e ∙ m.values ∙ ap (λ n. table n (moved (state sides standing lists) j (way (state sides standing lists) j))) (sym e);
  cost_is = m.cost_is;
}

-- ---- where variables stand

module _ (d : Dictionary) (j : ℕ) (m : length d.standing ≡ size d) (l : j < size d) where
  pub flip_stands : set d.standing j (Some (other_stand (stand d j))) ≡ table (size d) (λ v. flipped_stand (v == j) (stand d v))
  flip_stands =
      same_table (size d) _ _ None (length-set d.standing j (Some (other_stand (stand d j))) ∙ m)
      (λ v lv. elim (cases_eq v j) [
        | inl e ↦ ap (λ u. get_or (set d.standing j (Some (other_stand (stand d j)))) u None) e
            ∙ get_or-set_same d.standing j (Some (other_stand (stand d j))) None (omega (arith, m, l))
            ∙ sym (ap (λ t. flipped_stand t (stand d v)) (eq-eqb v j e) ∙ ap (λ u. Some (other_stand (stand d u))) e)
        | inr nj ↦ get_or-set_other d.standing j v (Some (other_stand (stand d j))) None nj
            ∙ sym (ap (λ t. flipped_stand t (stand d v)) (ne_eqb v j nj))
      ])

module _ (standing : List (Option Stand)) (j : ℕ) (to : Stand) (l : j < length standing) (nonbasic : basic_in standing j ≡ false) where
  same_basic : (v : ℕ) → basic_in (set standing j (Some to)) v ≡ basic_in standing v
  same_basic v =
      elim (cases_eq v j) [
        | inl e ↦ ap (λ u. basic_in (set standing j (Some to)) u) e ∙ ap (λ s. not (is_some s)) (get_or-set_same standing j (Some to) None l) ∙ sym (ap (basic_in standing) e ∙ nonbasic)
        | inr nj ↦ ap (λ s. not (is_some s)) (get_or-set_other standing j v (Some to) None nj)
      ]

  keeps_rows : (rows : List (List ℚ)) → HasRows standing rows → HasRows (set standing j (Some to)) rows
  keeps_rows rows h = record {
    each_one = h.each_one ∙ sym (length-set standing j (Some to));
    long = λ v lv. h.long v (omega (arith, lv, length-set standing j (Some to))) ∙ sym (ap (λ t. cond t (length (set standing j (Some to))) 0) (same_basic v) ∙ ap (λ n. cond (basic_in standing v) n 0) (length-set standing j (Some to)));
  }

pub flip_taken : (sides : List Sides) (standing : List (Option Stand)) (lists : Lists) (old room : Room) (j : ℕ) (cost : ℚ) (later : List (Option Stand)) (new : Lists) (rest : Room) → IsShaped sides standing lists old → HasRoom standing room → CanFlip (state sides standing lists) j → IsFlipPlanned (state sides standing lists) j old room cost → IsFlipTaken standing j cost lists room later new rest → (state sides later new ≡ flipped (state sides standing lists) j) × IsShaped sides later new rest
unfolding flipped
flip_taken sides standing lists old room j cost later new rest s r h p t =
    let d : Dictionary = state sides standing lists in
    let m : length standing ≡ length sides = sym s.sides_long in
    let l : j < length standing = omega (arith, h.within, m) in
    let to : Stand = other_stand (stand d j) in
    let stands = t.stands ∙ flip_stands d j m h.within in
    let values = t.values ∙ ap (λ n. table n (taken_value standing j lists.values.items room.values.items)) m ∙ p.values in
    let cost_is = t.cost_is ∙ p.cost_is in
    let same : state sides later new ≡ flipped d j = λ k. record { sides = sides; standing = stands k; rows = t.rows k; costs = t.costs k; values = values k; cost = cost_is k } in
    let long : length later ≡ length standing = ap length t.stands ∙ length-set standing j (Some to) in
    let has_rows : HasRows later new.rows.items = rw (t.stands, t.rows) (keeps_rows standing j to l h.nonbasic lists.rows.items s.lists_long.rows) in
    let rest_rows : HasRows later rest.rows.items = rw (t.stands, t.rest_rows) (keeps_rows standing j to l h.nonbasic room.rows.items r.rows) in (
      same,
      record {
        few = rw long s.few;
        sides_long = s.sides_long ∙ sym long;
        lists_long = record { rows = has_rows; costs = ap length t.costs ∙ s.lists_long.costs ∙ sym long; values = ap length t.values ∙ length-table (length standing) (taken_value standing j lists.values.items room.values.items) ∙ sym long };
        room_long = record { entering = ap length t.rest_entering ∙ r.entering ∙ sym long; rows = rest_rows; changed = ap length t.rest_changed ∙ r.changed ∙ sym long; costs = ap length t.rest_costs ∙ r.costs ∙ sym long; values = t.rest_values ∙ sym long };
        consistent = rw same (flips_keep d j s.consistent h).consistent;
      },
    )

-- a side is reached by its distance
pub arrive : (side v t : ℚ) → t ≡ side -ℚ v → side ≡ v +ℚ t
arrive side v t e = rw e (linear_same (side ∷ v ∷ []) (λ s w. omega arith))

pub difference_fits : (place : EntryPlace) (a b : ℚ) → difference_overflows a b ≡ false → first_overflow (placed place (Difference a b) ∷ []) ≡ None
difference_fits place a b e = rw e refl

pub difference_first : (a b : ℚ) (place at : EntryPlace) (rest : List Placed) → difference_overflows a b ≡ true → at ≡ place → first_overflow ((placed place (Difference a b) ∷ []) ++ rest) ≡ Some at
difference_first a b place at rest o e = rw (o, e) refl
