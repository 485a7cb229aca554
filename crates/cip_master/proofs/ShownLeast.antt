-- What is worked out of multipliers and prices shows what mixtures of held points cost at least.
use Rattle.std.proofs.Common.{◌≡◌, ℕ, ◌<◌, List, [], ◌∷◌, length, map, None, Some, Result, Ok, Err, IfOk, sym, ap, ap₂, ◌∙◌, subst, arith}
use Rattle.std.specs.Prelude.{slice_index_or, MatchResult}
use Rattle.std.specs.List.{AllByRecursion}
use Rattle.std.proofs.lemmas.List.Elements.{recursion_from_All}
use Rattle.cip_rational.specs.Rational.{ℚ, ◌+ℚ◌, ◌-ℚ◌, zeroℚ}
use Rattle.cip_rational.specs.Sums.{dot}
use Rattle.cip_rational.proofs.Linear.{linear_same}
use Rattle.cip_problem.specs.Program.{Row}
use Rattle.cip_problem.specs.Activity.{value_at}
use Rattle.cip_problem.specs.Box.{sides_at, no_sides}
use Rattle.cip_problem.specs.BoxBound.{least_costs}
use Rattle.cip_problem.specs.WellFormed.{columns, IsWellFormed}
use Rattle.cip_problem.proofs.BoxBound.BelowCosts.{least_costs_hold}
use Rattle.cip_pricing.specs.Decomposition.{Decomposition, picked, master_rows}
use Rattle.cip_pricing.specs.Mixtures.{total}
use Rattle.cip_pricing.specs.LeastCosts.{side_total, row_total, AreRests, sum_below, price_total, ShowsLeast}
use Rattle.cip_pricing.proofs.Picked.{length_picked}
use Rattle.cip_pricing.proofs.Multiplied.{sum_total}
use Rattle.cip_pricing.proofs.Shown.{free_part}
use Rattle.cip_columns.specs.PoolPoints.{PoolPoint}
use Rattle.cip_lagrange.specs.Decompositions.{owners_in}
use Rattle.cip_lagrange.proofs.Numbered.{found_all}
use Rattle.cip_lagrange.specs.declared.answers.LagrangeFault.{LagrangeFault}
use Rattle.cip_lagrange.specs.LagrangeOutcomes.{chain, Reduced, multipliers_used, free_added}
use Rattle.cip_lagrange.proofs.Multiplied.{ok_chain, AreUsed, multipliers_mean, IsLeast, free_mean, ok_weaker}
use Rattle.cip_lagrange.proofs.Shown.{rows_stand}
use Rattle.cip_master.proofs.Numbers.{rows_at, free_inside, free_found}
use Rattle.cip_master.specs.declared.tasks.Shown.{Shown}
use Rattle.cip_master.specs.MasterTasks.{Task, IsTask, held_by}
use Rattle.cip_master.specs.ShownSums.{lowered, prices_added, Worked, reduced_by, priced_out, worked_out, IsShown, ShowsFrom}
use Rattle.cip_master.proofs.Lowered.{AllLowered, points_lowered, are_prices, prices_sum}

added_up : (start sides free prices before after : ℚ) → before ≡ (start +ℚ sides) +ℚ free → after ≡ before +ℚ prices
    → after ≡ start +ℚ ((sides +ℚ free) +ℚ prices)
added_up start sides free prices before after e f =
    linear_same (start ∷ sides ∷ free ∷ prices ∷ before ∷ after ∷ []) (λ s w. omega (arith, s.same_out))

-- what is left, the sides that the multipliers use, and the least on the columns of no block
pub record IsReduced (task : Task) (start : ℚ) (first ys : List ℚ) (reduced : Reduced) : Type 0 where
  pub long : length reduced.rests ≡ length first
  pub form : (xs : List ℚ) → dot reduced.rests xs
      ≡ dot first xs -ℚ row_total ys (master_rows task.program (owners_in task.kept)) xs
  pub sides : ℚ
  pub side_sum : side_total ys (master_rows task.program (owners_in task.kept)) ≡ Some sides
  pub free : ℚ
  pub free_sum : least_costs (picked None task.kept.column_owners.items reduced.rests)
      (picked None task.kept.column_owners.items task.box) ≡ Some free
  pub sum : reduced.total ≡ (start +ℚ sides) +ℚ free

-- what was worked out shows what it says
pub record IsWorked (task : Task) (start : ℚ) (costs ys : List ℚ) (w : Worked) : Type 0 where
  pub least : ℚ
  pub sum_is : w.sum ≡ start +ℚ least
  pub are_rests : AreRests (length task.kept.column_owners.items) costs ys
      (master_rows task.program (owners_in task.kept)) w.rests
  pub shows : ShowsLeast task.program (owners_in task.kept) task.box (Some (held_by task)) costs ys w.prices least
  pub each_price : length w.prices ≡ length task.kept.subproblems.items

module _ (task : Task) (well : IsWellFormed task.program) (ok : IsTask task) (start : ℚ) (first ys : List ℚ)
    (long : length first ≡ columns task.program) (many : length ys ≡ length task.kept.blocks.master_rows) where
  abbrev rows : List Row
  rows = master_rows task.program (owners_in task.kept)

  free_is : {X : Type 0} (xs : List X) (d : X) → length xs ≡ columns task.program
      → map (λ n. slice_index_or xs n d) task.kept.blocks.free_columns
      ≡ picked None task.kept.column_owners.items xs
  free_is xs d e =
      sym (found_all xs d task.kept.blocks.free_columns
      (recursion_from_All (λ n. n < length xs) task.kept.blocks.free_columns
      (free_inside task.program task.kept ok.made (length xs) e)))
      ∙ free_found task.program task.kept ok.made xs

  reduced_means : IfOk (reduced_by task start first ys) (IsReduced task start first ys)
  reduced_means =
      let begun : Reduced = record { total = start; rests = first } in
      let numbers : List ℕ = task.kept.blocks.free_columns in
      ok_chain (AreUsed ys rows begun) (IsReduced task start first ys)
      (multipliers_used task.program.rows task.kept.blocks.master_rows ys begun)
      (λ used. chain (free_added used.rests task.box numbers used.total)
      (λ total. Ok (record { total = total; rests = used.rests })))
      (subst (λ (rs : List Row). IfOk (multipliers_used task.program.rows task.kept.blocks.master_rows ys begun)
      (AreUsed ys rs begun)) (rows_at task.program task.kept ok.made)
      (multipliers_mean task.program.rows task.kept.blocks.master_rows ys begun many
      (rows_stand task.program (length first) well long)))
      (λ used u.
      ok_chain (IsLeast (least_costs (map (value_at used.rests) numbers) (map (sides_at task.box) numbers))
      used.total) (IsReduced task start first ys) (free_added used.rests task.box numbers used.total)
      (λ total. Ok (record { total = total; rests = used.rests }))
      (free_mean used.rests task.box numbers used.total)
      (λ total least. record {
        long = u.long;
        form = u.form;
        sides = u.sides;
        side_sum = u.side_sum;
        free = least.value;
        free_sum =
            sym (ap₂ least_costs (free_is used.rests zeroℚ (u.long ∙ long)) (free_is task.box no_sides ok.box_))
            ∙ least.is;
        sum = least.total ∙ ap (λ t. t +ℚ least.value) u.total;
      }))

  module _ (costs : List ℚ) (same : (point : List ℚ) → dot first point ≡ dot costs point) (prices : List ℚ)
      (each : length prices ≡ length task.kept.subproblems.items) where
    blocks_below : AllByRecursion (λ (h : PoolPoint). h.block < length prices) task.points
    blocks_below =
        subst (λ n. AllByRecursion (λ (h : PoolPoint). h.block < n) task.points) (sym each)
        (recursion_from_All (λ (h : PoolPoint). h.block < length task.kept.subproblems.items) task.points
        (λ k d l. (ok.points k d l).0))

    worked : (reduced : Reduced) (after : List ℚ) (sum : ℚ) → IsReduced task start first ys reduced
        → AllLowered task.kept task.box reduced.rests task.points prices after
        → sum ≡ reduced.total +ℚ total after
        → IsWorked task start costs ys (record { rests = reduced.rests; prices = after; sum = sum })
    worked reduced after sum r a e =
        let owners : Decomposition = owners_in task.kept in
        let columns_are : length task.kept.column_owners.items ≡ columns task.program =
        ok.made.decomposed.each_column in
        let rests_long : length reduced.rests ≡ length task.kept.column_owners.items =
        r.long ∙ long ∙ sym columns_are in
        let box_long : length task.box ≡ length task.kept.column_owners.items = ok.box_ ∙ sym columns_are in
        let count : length after ≡ length task.kept.subproblems.items = a.lower.long ∙ each in
        let prices_are : price_total owners after ≡ total after =
        ap (λ n. sum_below n (value_at after)) (sym count) ∙ sum_total after in
        let are_rests : AreRests (length task.kept.column_owners.items) costs ys rows reduced.rests =
        record {
          long = rests_long;
          form = λ point. r.form point ∙ ap (λ q. q -ℚ row_total ys rows point) (same point);
        } in
        record {
          least = (r.sides +ℚ r.free) +ℚ price_total owners after;
          sum_is =
              added_up start r.sides r.free (price_total owners after) reduced.total sum r.sum
              (e ∙ ap (λ t. reduced.total +ℚ t) (sym prices_are));
          are_rests = are_rests;
          shows = record {
            rests = reduced.rests;
            sides = r.sides;
            are_rests = are_rests;
            side_sum = r.side_sum;
            priced = are_prices task.program task.kept task.box reduced.rests task.points prices after a;
            free = λ values w. free_part r.sides r.free
                (dot (picked None task.kept.column_owners.items reduced.rests) values) (price_total owners after)
                (least_costs_hold (picked None task.kept.column_owners.items reduced.rests)
                (picked None task.kept.column_owners.items task.box) values r.free
                (length_picked None task.kept.column_owners.items reduced.rests task.box (rests_long ∙ sym box_long))
                w r.free_sum);
          };
          each_price = count;
        }

    pub worked_means : IfOk (worked_out task start first ys prices) (IsWorked task start costs ys)
    worked_means =
        ok_chain (IsReduced task start first ys) (IsWorked task start costs ys) (reduced_by task start first ys) (priced_out task prices) reduced_means
        (λ reduced r.
        ok_chain (AllLowered task.kept task.box reduced.rests task.points prices) (IsWorked task start costs ys)
        (lowered task.kept task.box reduced.rests task.points prices)
        (λ after. chain (prices_added after reduced.total)
        (λ sum. Ok (record { rests = reduced.rests; prices = after; sum = sum })))
        (points_lowered task.kept task.box reduced.rests task.points prices blocks_below)
        (λ after a.
        ok_chain (λ t. t ≡ reduced.total +ℚ total after) (IsWorked task start costs ys) (prices_added after reduced.total)
        (λ sum. Ok (record { rests = reduced.rests; prices = after; sum = sum })) (prices_sum after reduced.total)
        (λ sum e. worked reduced after sum r a e)))

-- what is answered where the outcome is this
answered : (P : Worked → Type 0) (result : Result ℚ LagrangeFault) (outcome : Result Worked LagrangeFault)
    (w : ℚ → Worked)
    → MatchResult result (λ sum. outcome ≡ Ok (w sum)) (λ fault. outcome ≡ Err fault) → IfOk outcome P
    → IfOk result (λ sum. P (w sum))
answered P (Ok sum) outcome w e h = subst (λ (o : Result Worked LagrangeFault). IfOk o P) e h
answered P (Err fault) outcome w e h = tt

ok_all : {A : Type 0} {I : Type 0} (C : I → Type 0) (P : (i : I) → C i → A → Type 0) (r : Result A LagrangeFault)
    → ((i : I) (c : C i) → IfOk r (P i c)) → IfOk r (λ a. (i : I) (c : C i) → P i c a)
ok_all C P (Ok a) h = h
ok_all C P (Err fault) h = tt

pub shows_from : (task : Task) (start : ℚ) (first : List ℚ) (prices : List ℚ) (shown : Shown)
    (result : Result ℚ LagrangeFault) → IsWellFormed task.program → IsTask task
    → length first ≡ columns task.program
    → length shown.multipliers.items ≡ length task.kept.blocks.master_rows
    → length prices ≡ length task.kept.subproblems.items
    → MatchResult result
    (λ sum. worked_out task start first shown.multipliers.items prices
    ≡ Ok (record { rests = shown.rests.items; prices = shown.prices.items; sum = sum }))
    (λ fault. worked_out task start first shown.multipliers.items prices ≡ Err fault)
    → IfOk result (ShowsFrom task first start shown)
shows_from task start first prices shown result well ok long many each steps =
    ok_all {A = ℚ} {I = List ℚ} (λ costs. (point : List ℚ) → dot first point ≡ dot costs point)
    (λ costs same sum. IsShown task costs shown start sum) result
    (λ costs same.
    ok_weaker
    (λ sum. IsWorked task start costs shown.multipliers.items
    (record { rests = shown.rests.items; prices = shown.prices.items; sum = sum }))
    (λ sum. IsShown task costs shown start sum) result
    (λ sum w. record {
      least = w.least;
      sum_is = w.sum_is;
      are_rests = w.are_rests;
      shows = w.shows;
      each_multiplier = many;
      each_price = w.each_price;
    })
    (answered (IsWorked task start costs shown.multipliers.items) result
    (worked_out task start first shown.multipliers.items prices)
    (λ sum. record { rests = shown.rests.items; prices = shown.prices.items; sum = sum }) steps
    (worked_means task well ok start first shown.multipliers.items long many costs same prices each)))

-- so it is where the two steps are told one after the other
pub shows_after : (task : Task) (start between : ℚ) (first rests ys prices : List ℚ) (shown : Shown)
    (result : Result ℚ LagrangeFault) → IsWellFormed task.program → IsTask task
    → length first ≡ columns task.program
    → length ys ≡ length task.kept.blocks.master_rows
    → length prices ≡ length task.kept.subproblems.items
    → shown.multipliers.items ≡ ys
    → reduced_by task start first ys ≡ Ok (record { total = between; rests = rests })
    → MatchResult result
    (λ sum. priced_out task prices (record { total = between; rests = rests })
    ≡ Ok (record { rests = shown.rests.items; prices = shown.prices.items; sum = sum }))
    (λ fault. priced_out task prices (record { total = between; rests = rests }) ≡ Err fault)
    → IfOk result (ShowsFrom task first start shown)
shows_after task start between first rests ys prices shown result well ok long many each e reduced priced =
    let same : worked_out task start first shown.multipliers.items prices
    ≡ priced_out task prices (record { total = between; rests = rests }) =
    ap (λ ms. worked_out task start first ms prices) e
    ∙ ap (λ (r : Result Reduced LagrangeFault). chain r (priced_out task prices)) reduced in
    shows_from task start first prices shown result well ok long (ap length e ∙ many) each
    (subst (λ (o : Result Worked LagrangeFault). MatchResult result
    (λ sum. o ≡ Ok (record { rests = shown.rests.items; prices = shown.prices.items; sum = sum }))
    (λ fault. o ≡ Err fault)) (sym same) priced)
