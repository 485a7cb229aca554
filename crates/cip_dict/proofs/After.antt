-- What has been taken over is in shape again, and is the state after the exchange.
use Rattle.std.proofs.Common.{◌≡◌, ℕ, ◌<◌, ◌==◌, Bool, true, false, cond, not, is_some, List, length, get_or, set, Option, None, Some, refl, sym, ap, ◌∙◌, inl, inr, arith, length-set}
use Rattle.std.proofs.lemmas.Bool.{eq-eqb, ne_eqb, cases_eq, true≢false}
use Rattle.std.proofs.lemmas.List.{get_or-set_same, get_or-set_other}
use Rattle.cip_rational.specs.Rational.{ℚ}
use Rattle.cip_problem.specs.Program.{Sides}
use Rattle.cip_bland.specs.Dictionary.{Dictionary, is_basic}
use Rattle.cip_bland.specs.Exchange.{exchanged, CanExchange}
use Rattle.cip_bland.specs.declared.moves.Stand.{Stand}
use Rattle.cip_bland.specs.Tables.{table}
use Rattle.cip_bland.proofs.Tables.{length-table}
use Rattle.cip_bland.proofs.Kept.{exchanges_keep}
use Rattle.cip_dict.specs.declared.lists.Lists.{Lists}
use Rattle.cip_dict.specs.declared.lists.Room.{Room}
use Rattle.cip_dict.specs.Lists.{basic_in}
use Rattle.cip_dict.specs.Row.{HasRows, HasRowsAfter}
use Rattle.cip_dict.specs.State.{state, HasRoom, IsShaped}
use Rattle.cip_dict.specs.Values.{taken_value}
use Rattle.cip_dict.specs.Written.{IsPlanned, IsTakenOver}
use Rattle.cip_dict.proofs.Exchanged.{rows_after, stands_after}

-- where variables stand after it
module _ (standing : List (Option Stand)) (i j : ℕ) (to : Stand) (li : i < length standing) (lj : j < length standing) (ne : ¬ (i ≡ j)) where
  later : List (Option Stand)
  later = set (set standing i (Some to)) j None

  later_long : length later ≡ length standing
  unfolding later
  later_long = length-set (set standing i (Some to)) j None ∙ length-set standing i (Some to)

  later_basic : (v : ℕ) → v < length standing → basic_in later v ≡ cond (v == i) false (cond (v == j) true (basic_in standing v))
  unfolding later
  later_basic v l =
      elim (cases_eq v i) [
        | inl e ↦ (let other : ¬ (v ≡ j) = λ (e' : v ≡ j). ne (sym e ∙ e') in
            ap (λ s. not (is_some s)) (get_or-set_other (set standing i (Some to)) j v None None other ∙ ap (λ u. get_or (set standing i (Some to)) u None) e ∙ get_or-set_same standing i (Some to) None li)
            ∙ sym (ap (λ t. cond t false (cond (v == j) true (basic_in standing v))) (eq-eqb v i e)))
        | inr ni ↦ elim (cases_eq v j) [
          | inl e ↦ ap (λ s. not (is_some s)) (ap (λ u. get_or (set (set standing i (Some to)) j None) u None) e ∙ get_or-set_same (set standing i (Some to)) j None None (omega (arith, lj, length-set standing i (Some to))))
              ∙ sym (ap (λ t. cond t false (cond (v == j) true (basic_in standing v))) (ne_eqb v i ni) ∙ ap (λ t. cond t true (basic_in standing v)) (eq-eqb v j e))
          | inr nj ↦ ap (λ s. not (is_some s)) (get_or-set_other (set standing i (Some to)) j v None None nj ∙ get_or-set_other standing i v (Some to) None ni)
              ∙ sym (ap (λ t. cond t false (cond (v == j) true (basic_in standing v))) (ne_eqb v i ni) ∙ ap (λ t. cond t true (basic_in standing v)) (ne_eqb v j nj))
        ]
      ]

  by_tests : (n : ℕ) (a b c : Bool) → cond (cond a false (cond b true c)) n 0 ≡ cond a 0 (cond b n (cond c n 0))
  by_tests n true b c = refl
  by_tests n false true c = refl
  by_tests n false false c = refl

  has_rows_after : (rows : List (List ℚ)) → HasRowsAfter standing i j rows → HasRows later rows
  has_rows_after rows h = record {
    each_one = h.each_one ∙ sym later_long;
    long = λ v l.
        let l' : v < length standing = omega (arith, l, later_long) in
        h.long v l' ∙ sym (ap (λ t. cond t (length later) 0) (later_basic v l') ∙ ap (λ n. cond (cond (v == i) false (cond (v == j) true (basic_in standing v))) n 0) later_long ∙ by_tests (length standing) (v == i) (v == j) (basic_in standing v));
  }

pub taken_over : (sides : List Sides) (standing : List (Option Stand)) (lists : Lists) (old room : Room) (i j : ℕ) (to : Stand) (cost : ℚ) (later : List (Option Stand)) (new : Lists) (rest : Room) → IsShaped sides standing lists old → HasRoom standing room → CanExchange (state sides standing lists) i j to → IsPlanned (state sides standing lists) i j to room cost → IsTakenOver standing i j to cost lists room later new rest → (state sides later new ≡ exchanged (state sides standing lists) i j to) × IsShaped sides later new rest
unfolding exchanged later
taken_over sides standing lists old room i j to cost later new rest s r h p t =
    let d : Dictionary = state sides standing lists in
    let m : length standing ≡ length sides = sym s.sides_long in
    let li : i < length standing = omega (arith, h.leaving, m) in
    let lj : j < length standing = omega (arith, h.entering, m) in
    let ne : ¬ (i ≡ j) = λ (e : i ≡ j). true≢false (sym h.basic ∙ ap (is_basic d) e ∙ h.nonbasic) in
    let stands = t.stands ∙ stands_after d i j to s.consistent h m s.lists_long.rows in
    let rows = rows_after d i j to s.consistent h m s.lists_long.rows room.rows.items p.rows room.entering _ new.rows.items p.entering refl (t.long.each_one ∙ m) (λ v l. t.rows v (omega (arith, l, m))) in
    let costs = t.costs ∙ p.costs in
    let values = t.values ∙ ap (λ n. table n (taken_value standing j lists.values.items room.values.items)) m ∙ p.values in
    let cost_is = t.cost_is ∙ p.cost_is in
    let same : state sides later new ≡ exchanged d i j to = λ k. record { sides = sides; standing = stands k; rows = rows k; costs = costs k; values = values k; cost = cost_is k } in
    let long : length later ≡ length standing = ap length t.stands ∙ later_long standing i j to li lj ne in
    let has_rows : HasRows later new.rows.items = rw t.stands (has_rows_after standing i j to li lj ne new.rows.items t.long) in
    let rest_rows : HasRows later rest.rows.items = rw t.stands (has_rows_after standing i j to li lj ne rest.rows.items t.rest_long) in (
      same,
      record {
        few = rw long s.few;
        sides_long = s.sides_long ∙ sym long;
        lists_long = record { rows = has_rows; costs = ap length t.costs ∙ r.costs ∙ sym long; values = ap length t.values ∙ length-table (length standing) (taken_value standing j lists.values.items room.values.items) ∙ sym long };
        room_long = record { entering = t.rest_entering ∙ sym long; rows = rest_rows; changed = t.rest_changed ∙ sym long; costs = ap length t.rest_costs ∙ s.lists_long.costs ∙ sym long; values = t.rest_values ∙ sym long };
        consistent = rw same (exchanges_keep d i j to s.consistent h).consistent;
      },
    )
