-- What is chosen can be made, and what is out of range is found.
use Rattle.std.proofs.Common.{◌≡◌, ℕ, zero, suc, ◌<◌, ◌==◌, Bool, true, false, cond, Option, None, Some, refl, sym, ap, ◌∙◌, subst, arith}
use Rattle.std.proofs.lemmas.Option.{none-some}
use Rattle.cip_bland.specs.Tables.{least, first_of}
use Rattle.cip_bland.specs.Dictionary.{Dictionary, size, is_basic, IsConsistent}
use Rattle.cip_bland.specs.Exchange.{CanExchange, CanMove}
use Rattle.cip_bland.specs.MoveOperations.{move_operations}
use Rattle.cip_bland.specs.declared.moves.Stand.{Stand}
use Rattle.cip_bland.specs.declared.moves.Move.{Move}
use Rattle.cip_bland.specs.declared.moves.Move.TheVariants.{Exchange, Flip}
use Rattle.cip_bland.specs.Headings.{stand_ahead}
use Rattle.cip_bland.specs.Rule.{Way, is_crossed, is_outside, outside_heading, repairs, repairing, improves, improving, going, least_outside, step_inside, step_of, way_of, shortest, move_by, next}
use Rattle.cip_bland.specs.MoveList.{is_out_of_range, wide_way, first_wide_way, mover, wide_way_of}
use Rattle.cip_bland.specs.declared.steps.Step.TheVariants.{Makes}
use Rattle.cip_bland.proofs.Searches.{IsLeast, least_some, shortest_none, shortest_some}
use Rattle.cip_bland.proofs.MovesMade.{outside_basic, can_repair, can_go}
use Rattle.cip_simplex.specs.Advances.{Repairs, Improves, IsWideAt}

module _ (d : Dictionary) (uncrossed : least (size d) (is_crossed d) ≡ None) where
  -- the variable that is outside
  module _ (i : ℕ) (outside : least_outside d ≡ Some i) where
    pub outside_is : IsLeast (size d) (is_outside d) i
    outside_is = least_some (size d) (is_outside d) i outside

    pub leaving_basic : is_basic d i ≡ true
    leaving_basic = outside_basic d i outside_is.passes

    pub repair_chosen : (j : ℕ) (to : Stand) → Some j ≡ least (size d) (repairs d i) → to ≡ stand_ahead (outside_heading d i) → CanExchange d i j to × Repairs d (Exchange i j to) i
    repair_chosen j to e t =
        let h = least_some (size d) (repairs d i) j (sym e) in (
          subst (CanExchange d i j) (sym t) (can_repair d i j outside_is.below h.below outside_is.passes h.passes),
          record {
            is_next = ap (step_of d) uncrossed ∙ ap (step_inside d) outside ∙ ap (repairing d i) (sym e) ∙ ap (λ s. Makes (Exchange i j s)) (sym t);
            outside = outside;
          },
        )

  pub improve_chosen : (j : ℕ) → least_outside d ≡ None → Some j ≡ least (size d) (improves d) → Improves d j
  improve_chosen j inside e =
      let h = least_some (size d) (improves d) j (sym e) in
      record {
        is_next = ap (step_of d) uncrossed ∙ ap (step_inside d) inside ∙ ap (improving d) (sym e);
        within = h.below;
        improving = h.passes;
        inside = inside;
      }

-- ---- the shortest way

none_wide : (d : Dictionary) (j n : ℕ) → ((l : ℕ) → l < n → way_of d j l ≡ None) → first_wide_way d j n ≡ None
none_wide d j zero h = refl
none_wide d j (suc n) h =
    ap (λ o. first_of o (wide_way d j (way_of d j n))) (none_wide d j n (λ l lt. h l (omega (arith, lt)))) ∙ ap (wide_way d j) (h n (omega arith))

mover_with : (j v : ℕ) (to : Stand) (b : Bool) → mover (cond b (Flip j) (Exchange v j to)) ≡ j
mover_with j v to true = refl
mover_with j v to false = refl

mover_is : (j : ℕ) (way : Way) → mover (move_by j way) ≡ j
mover_is j way = mover_with j way.variable way.to (way.variable == j)

module _ (d : Dictionary) (j : ℕ) (h : Improves d j) where
  pub can_descend : (way : Way) (move : Move) → IsConsistent d → Some way ≡ shortest (size d) (way_of d j) → move ≡ move_by j way → CanMove d move
  can_descend way move consistent e m =
      let s = shortest_some (size d) (way_of d j) way (sym e) in
      subst (CanMove d) (sym m) (can_go d consistent j h.within h.improving s.0 way s.1.below s.1.is_way)

  wide_for : (wide : Move) → first_wide_way d j (size d) ≡ Some wide → (o : Option Way) → shortest (size d) (way_of d j) ≡ o → IsWideAt d d wide
  wide_for wide e None o = absurd (none-some wide (sym (none_wide d j (size d) (shortest_none (size d) (way_of d j) o)) ∙ e))
  wide_for wide e (Some way) o = record {
    move = move_by j way;
    is_next = h.is_next ∙ ap (going j) o;
    out_of_range =
        ap (λ k. first_of (wide_way_of d (move_by j way) k) (cond (is_out_of_range (move_operations d (move_by j way))) (Some (move_by j way)) None)) h.inside
        ∙ ap (λ k. first_of (first_wide_way d k (size d)) (cond (is_out_of_range (move_operations d (move_by j way))) (Some (move_by j way)) None)) (mover_is j way)
        ∙ ap (λ k. first_of k (cond (is_out_of_range (move_operations d (move_by j way))) (Some (move_by j way)) None)) e;
    state = refl;
  }

  pub wide_descent : (wide : Move) → first_wide_way d j (size d) ≡ Some wide → IsWideAt d d wide
  wide_descent wide e = wide_for wide e (shortest (size d) (way_of d j)) refl

  -- the way is in range, so the next move is that by which it goes, and its ways are in range
  pub descent_fits : (way : Way) (move : Move) → Some way ≡ shortest (size d) (way_of d j) → move ≡ move_by j way → first_wide_way d j (size d) ≡ None → (next d ≡ Makes move) × (wide_way_of d move (least_outside d) ≡ None)
  descent_fits way move e m fits = (
    h.is_next ∙ ap (going j) (sym e) ∙ ap Makes (sym m),
    ap (wide_way_of d move) h.inside ∙ ap (λ k. first_wide_way d k (size d)) (ap mover m ∙ mover_is j way) ∙ fits,
  )
