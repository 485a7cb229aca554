-- What stands behind a round holds.
use Rattle.std.proofs.Common.{◌≡◌, ◌≢◌, ℕ, suc, ◌<◌, Bool, true, false, cond, List, [], ◌∷◌, length, Option, None, Some, refl, sym, ap, ◌∙◌, subst, true≢false}
use Rattle.std.specs.Prelude.{Vec, IfSome}
use Rattle.std.specs.Global.{Global}
use Rattle.std.proofs.lemmas.Option.{same_Some}
use Rattle.std.proofs.lemmas.List.Elements.{All-nil}
use Rattle.cip_rational.specs.Rational.{ℚ, zeroℚ, ◌<ℚ◌, le_test}
use Rattle.cip_rational.proofs.Rational.Ring.{zero-+ℚ}
use Rattle.cip_problem.specs.WellFormed.{columns, IsWellFormed}
use Rattle.cip_pricing.specs.Decomposition.{IsBlockPoint}
use Rattle.cip_pricing.specs.LeastCosts.{ArePrices, IsLeastMixture}
use Rattle.cip_pricing.proofs.Closing.{closed_least, closed_bound, closed_empty}
use Rattle.cip_cert.specs.declared.pricing.BoundTree.{BoundTree}
use Rattle.cip_columns.specs.PoolPoints.{PoolPoint}
use Rattle.cip_lagrange.specs.Decompositions.{owners_in}
use Rattle.cip_lagrange.specs.declared.answers.TreeBound.{TreeBound}
use Rattle.cip_lagrange.specs.Scratches.{FitsScratch}
use Rattle.cip_master.specs.MasterTasks.{Task, IsTask, held_by}
use Rattle.cip_master.specs.declared.tasks.Shown.{Shown}
use Rattle.cip_master.specs.MasterSolving.{IsKept}
use Rattle.cip_master.proofs.Grown.{stay_kept}
use Rattle.cip_master.specs.MasterAnswers.{point_of, IsPriced, IsFarkas}
use Rattle.cip_master.specs.declared.answers.Weights.{Weights}
use Rattle.cip_master.specs.declared.answers.MasterCause.TheVariants.{Wide}
use Rattle.cip_price.specs.Asks.{Asked, Told}
use Rattle.cip_price.specs.BlockAsks.{tree_in, shown_in as asked_shown}
use Rattle.cip_price.specs.OfferedPoints.{Grows}
use Rattle.cip_price.specs.PriceRounds.{cons_tree, trees_in, AreTrees, AreAll, IsTold, IsRound}
use Rattle.cip_price.specs.declared.offering.Growth.{Growth}
use Rattle.cip_price.specs.declared.offering.Growth.TheVariants.{Same, Grown, Full}
use Rattle.cip_price.specs.declared.block_rounds.Round.{Round}
use Rattle.cip_price.specs.PriceAnswers.{holding, IsLeast, BoundsBox, EmptiesBox, PriceHolds}
use Rattle.cip_price.specs.PricedRounds.{with_cause}
use Rattle.cip_price.specs.RoundEnds.{raised, decision_at, decision_by, decision_unless, decision, is_open_at}
use Rattle.cip_price.specs.Summing.{SumHolds}
use Rattle.cip_price.specs.Worked.{IsReady, BestHolds, StandsBehind}
use Rattle.cip_price.specs.declared.bounding.Summed.{Summed}
use Rattle.cip_price.specs.declared.bounding.Summed.TheVariants.{Number, Nothing, Wide as SumWide}
use Rattle.cip_price.specs.declared.answers.PriceCause.{PriceCause}
use Rattle.cip_price.specs.declared.answers.PriceCause.TheVariants.{PricerGap, PoolFull, Master}
use Rattle.cip_price.specs.declared.answers.PriceAnswer.{PriceAnswer}
use Rattle.cip_price.specs.declared.answers.PriceAnswer.TheVariants.{Closed, NoPoint}
use Rattle.cip_price.specs.declared.work.PriceWork.{PriceWork}
use Rattle.cip_price.proofs.Closing.{all_priced, shown_empty}

none_trees : (trees : List BoundTree) → ¬ (None ≡ Some trees)
none_trees trees e = cc

-- ---- bounds

pub cause_holds : (task : Task) (points : List PoolPoint) (best : Option ℚ) (cause : PriceCause)
    → BestHolds task best → PriceHolds task points (with_cause best cause)
cause_holds task points None cause h = tt
cause_holds task points (Some bound) cause h = h

greatest_holds : (task : Task) (a b : ℚ) (t : Bool) → BoundsBox task a → BoundsBox task b
    → BoundsBox task (cond t b a)
greatest_holds task a b true h k = k
greatest_holds task a b false h k = h

pub raised_holds : (task : Task) (best : Option ℚ) (summed : Summed) → BestHolds task best → SumHolds task summed
    → BestHolds task (raised best summed)
raised_holds task None (Number bound) h k = k
raised_holds task (Some b) (Number bound) h k = greatest_holds task b bound (le_test b bound) h k
raised_holds task best Nothing h k = h
raised_holds task best SumWide h k = h

-- ---- closed blocks

pub closed_holds : (task : Task) (points next : List PoolPoint) (shown : Shown) (weights : Weights) (cost : ℚ)
    → IsTask (holding task points) → IsPriced (holding task points) shown weights cost → Grows points next
    → ArePrices task.program (owners_in task.kept) task.box None shown.rests.items shown.prices.items
    → IsLeast task next weights cost × BoundsBox task cost
closed_holds task points next shown weights cost ok p g prices =
    let held = held_by (holding task points) in
    let point : List ℚ = point_of (holding task points) weights in
    let wide : length task.box ≡ length task.kept.column_owners.items =
    ok.box_ ∙ sym ok.made.decomposed.each_column in
    let least : IsLeastMixture task.program (owners_in task.kept) task.box (Some held) point cost =
    subst (IsLeastMixture task.program (owners_in task.kept) task.box (Some held) point) (sym p.shows.sum_is)
    (closed_least task.program (owners_in task.kept) task.box held shown.multipliers.items shown.rests.items
    shown.prices.items point p.shows.least ok.made.decomposed p.mixed_of.mixture p.mixed_of.meets p.shows.shows
    (p.cost_is ∙ p.shows.sum_is) p.shows.are_rests prices) in (
      record { held = points; grows = g; mixed_of = p.mixed_of; least = least },
      λ x feasible within.
          closed_bound task.program (owners_in task.kept) task.box (Some held) point x cost ok.made.decomposed wide least
          feasible within,
    )

pub none_holds : (task : Task) (points : List PoolPoint) (shown : Shown) → IsTask (holding task points)
    → IsFarkas (holding task points) shown
    → ArePrices task.program (owners_in task.kept) task.box None shown.rests.items shown.prices.items
    → EmptiesBox task
none_holds task points shown ok f prices x feasible =
    let wide : length task.box ≡ length task.kept.column_owners.items =
    ok.box_ ∙ sym ok.made.decomposed.each_column in
    closed_empty task.program (owners_in task.kept) task.box (held_by (holding task points)) shown.multipliers.items
    shown.rests.items shown.prices.items x f.shows.least ok.made.decomposed wide f.shows.shows
    (subst (λ q. zeroℚ <ℚ q) (f.shows.sum_is ∙ zero-+ℚ f.shows.least) f.positive) f.shows.are_rests prices feasible

-- ---- a round

module _ (task : Task) (next : List PoolPoint) (best : Option ℚ) (round : Round) (summed : Summed)
    (closed : PriceAnswer) (h : BestHolds task best) (k : SumHolds task summed)
    (empty : round.growth ≢ Full → round.is_empty ≡ true → EmptiesBox task)
    (none : round.growth ≢ Full → round.gap ≡ None → PriceHolds task next closed) where
  -- an answer holds, or the greatest bound does
  abbrev pub Stands : Option PriceAnswer → Type 0
  Stands None = BestHolds task (raised best summed)
  Stands (Some answer) = PriceHolds task next answer

  module _ (growth : Growth) (going : round.growth ≢ Full) where
    by_sum : (block : ℕ) (g : Growth) (t : Summed) → SumHolds task t → raised best summed ≡ raised best t
        → Stands (decision_at block g t best)
    by_sum block g SumWide s e = cause_holds task next best (Master Wide) h
    by_sum block Same (Number b) s e =
        cause_holds task next (raised best (Number b)) (PricerGap block) (raised_holds task best (Number b) h s)
    by_sum block Same Nothing s e = cause_holds task next best (PricerGap block) h
    by_sum block Grown (Number b) s e = raised_holds task best summed h k
    by_sum block Grown Nothing s e = raised_holds task best summed h k
    by_sum block Full (Number b) s e = raised_holds task best summed h k
    by_sum block Full Nothing s e = raised_holds task best summed h k

    by_gap : (gap : Option ℕ) → round.gap ≡ gap → Stands (decision_by gap growth summed best closed)
    by_gap None e = none going e
    by_gap (Some block) e = by_sum block growth summed k refl

    by_empty : (t : Bool) → round.is_empty ≡ t → Stands (decision_unless t round.gap growth summed best closed)
    by_empty true e = empty going e
    by_empty false e = by_gap round.gap refl

  by_growth : (growth : Growth) → round.growth ≡ growth → Stands (decision round summed best closed growth)
  by_growth Full e = cause_holds task next best PoolFull h
  by_growth Same e = by_empty Same (λ f. same_full (sym e ∙ f)) round.is_empty refl
    where
      same_full : ¬ (Same ≡ Full)
      same_full f = cc
  by_growth Grown e = by_empty Grown (λ f. grown_full (sym e ∙ f)) round.is_empty refl
    where
      grown_full : ¬ (Grown ≡ Full)
      grown_full f = cc

  stands : Stands (decision round summed best closed round.growth)
  stands = by_growth round.growth refl

  -- so it is with what pricing works in
  pub behind : (work : PriceWork) → IsReady (holding task next) work → work.best ≡ raised best summed
      → (found : Option PriceAnswer) → found ≡ decision round summed best closed round.growth
      → StandsBehind task next work found
  behind work ready e found f = subst (StandsBehind task next work) (sym f) (of (decision round summed best closed round.growth) stands)
    where
      of : (o : Option PriceAnswer) → Stands o → StandsBehind task next work o
      of None s = (ready, subst (BestHolds task) (sym e) s)
      of (Some answer) s = s

-- ---- what the asks of a round say

trees_long : (task : Task) (asks : List Asked) (trees : List BoundTree) → trees_in task asks ≡ Some trees
    → length trees ≡ length asks
trees_long task [] trees e = ap length (sym (same_Some [] trees e))
trees_long task (a ∷ rest) trees e =
    by_parts (tree_in a.answer) (asked_shown task a) (trees_in task rest) (trees_long task rest) e
  where
    by_parts : (t : Option BoundTree) (b : Option TreeBound) (ts : Option (List BoundTree))
        → ((xs : List BoundTree) → ts ≡ Some xs → length xs ≡ length rest) → cons_tree t b ts ≡ Some trees
        → length trees ≡ suc (length rest)
    by_parts None b ts f g = absurd (none_trees trees g)
    by_parts (Some t) None ts f g = absurd (none_trees trees g)
    by_parts (Some t) (Some b) None f g = absurd (none_trees trees g)
    by_parts (Some t) (Some b) (Some ts) f g = ap length (sym (same_Some (t ∷ ts) trees g)) ∙ ap suc (f ts refl)

-- the sum is asked for where the pool isn't full
pub open_going : (growth : Growth) (empty : Bool) (gap : Option ℕ) → is_open_at growth empty gap ≡ true → growth ≢ Full
open_going Full empty gap e f = true≢false (sym e)
open_going Same empty gap e f = cc
open_going Grown empty gap e f = cc

module _ (task : Task) (well : IsWellFormed task.program) (ok : IsTask task) (shown : Shown)
    (told telling : Option (List Told)) (points next : List PoolPoint) (round : Round)
    (long : length shown.rests.items ≡ columns task.program)
    (r : IsRound task shown.rests.items shown.prices.items told telling points next round)
    (going : round.growth ≢ Full) where
  all_told : (g : Growth) → g ≢ Full → AreAll task shown.prices.items r.asks round g
      → (length r.asks ≡ length task.kept.subproblems.items)
      × IsTold task shown.prices.items r.asks round
  all_told Same n h = h
  all_told Grown n h = h
  all_told Full n h = absurd (n refl)

  told_all : (length r.asks ≡ length task.kept.subproblems.items)
      × IsTold task shown.prices.items r.asks round
  told_all = all_told round.growth going r.all

  pub round_priced : round.gap ≡ None
      → ArePrices task.program (owners_in task.kept) task.box None shown.rests.items shown.prices.items
  round_priced e =
      all_priced task well ok shown.rests.items long shown.prices.items r.asks r.are_asks told_all.0
      (sym told_all.1.gap ∙ e)

  pub round_empty : round.is_empty ≡ true → EmptiesBox task
  round_empty e =
      shown_empty task well ok shown.rests.items long 0 r.asks r.are_asks (sym told_all.1.none ∙ e)

  -- there is a tree of each block
  pub each_tree : (trees : Option (Vec BoundTree Global)) → AreTrees (trees_in task r.asks) trees
      → IfSome trees (λ ts. length ts.items ≡ length task.kept.subproblems.items)
  each_tree None h = tt
  each_tree (Some ts) h = trees_long task r.asks ts.items h ∙ told_all.0

  pub round_trees : IfSome round.trees (λ ts. length ts.items ≡ length task.kept.subproblems.items)
  round_trees = each_tree round.trees told_all.1.trees

-- ---- a round behind an answer of the master program

-- without points it is a task too
pub none_held : (task : Task) (points : List PoolPoint) → IsTask (holding task points) → IsTask (holding task [])
none_held task points ok = record {
  made = ok.made;
  box_ = ok.box_;
  points =
      All-nil (λ (held : PoolPoint). (held.block < length task.kept.subproblems.items)
      × IsBlockPoint task.program (owners_in task.kept) task.program.bounds held.block held.point);
}

-- what pricing works in is ready for a pool that has grown
pub ready_grown : (task : Task) (points next : List PoolPoint) (before work : PriceWork) → Grows points next
    → IsReady (holding task points) before → work.master.program ≡ before.master.program
    → length work.scratch.row.entries ≡ length before.scratch.row.entries
    → FitsScratch task.program task.kept work.lagrange → IsReady (holding task next) work
ready_grown task points next before work g h e f fits = record {
  master =
      subst (λ (ps : List PoolPoint). IsKept (holding task ps) work.master.program) (sym g.1)
      (stay_kept (holding task points) g.0 work.master.program
      (subst (IsKept (holding task points)) (sym e) h.master));
  row = f ∙ h.row;
  fits = fits;
}

module _ (task : Task) (points next : List PoolPoint) (well : IsWellFormed task.program)
    (ok : IsTask (holding task points)) (shown : Shown) (g : Grows points next)
    (told telling : Option (List Told)) (round : Round)
    (r : IsRound (holding task []) shown.rests.items shown.prices.items told telling points next round)
    (best : Option ℚ) (summed : Summed) (h : BestHolds task best) (k : SumHolds task summed) (work : PriceWork)
    (ready : IsReady (holding task next) work) (e : work.best ≡ raised best summed) (found : Option PriceAnswer)
  where
    each : length task.kept.column_owners.items ≡ columns task.program
    each = ok.made.decomposed.each_column

    pub prices_stand : (weights : Weights) (cost : ℚ) → IsPriced (holding task points) shown weights cost
        → found ≡ decision round summed best (Closed cost weights) round.growth → StandsBehind task next work found
    prices_stand weights cost p f =
        behind task next best round summed (Closed cost weights) h k
        (λ going empty.
        round_empty (holding task []) well (none_held task points ok) shown told telling points next round
        (p.shows.are_rests.long ∙ each) r going empty)
        (λ going gap.
        closed_holds task points next shown weights cost ok p g
        (round_priced (holding task []) well (none_held task points ok) shown told telling points next round
        (p.shows.are_rests.long ∙ each) r going gap))
        work ready e found f

    pub farkas_stands : IsFarkas (holding task points) shown → found ≡ decision round summed best NoPoint round.growth
        → StandsBehind task next work found
    farkas_stands p f =
        behind task next best round summed NoPoint h k
        (λ going empty.
        round_empty (holding task []) well (none_held task points ok) shown told telling points next round
        (p.shows.are_rests.long ∙ each) r going empty)
        (λ going gap.
        none_holds task points shown ok p
        (round_priced (holding task []) well (none_held task points ok) shown told telling points next round
        (p.shows.are_rests.long ∙ each) r going gap))
        work ready e found f
