-- How a round leads on, or ends pricing.
use Rattle.std.proofs.Common.{◌≡◌, ◌≢◌, ℕ, suc, ◌<◌, Bool, true, false, List, ◌++◌, length, Option, None, Some, Result, Ok, Err, refl, sym, ap, ◌∙◌, subst, true≢false}
use Rattle.std.specs.Prelude.{Vec, MatchOption}
use Rattle.std.specs.Global.{Global}
use Rattle.std.proofs.lemmas.Option.{same_Some}
use Rattle.cip_rational.specs.Rational.{ℚ}
use Rattle.cip_problem.specs.Choices.{greater}
use Rattle.cip_cert.specs.declared.pricing.BoundTree.{BoundTree}
use Rattle.cip_columns.specs.PoolPoints.{PoolPoint}
use Rattle.cip_lagrange.specs.declared.answers.TreeBound.{TreeBound}
use Rattle.cip_lagrange.specs.declared.answers.TreeBound.TheVariants.{Finite, NoPoint as NoneThere}
use Rattle.cip_lagrange.specs.declared.answers.LagrangeFault.{LagrangeFault}
use Rattle.cip_lagrange.specs.declared.answers.LagrangeFault.TheVariants.{Wide as LagrangeWide, NoSide, NoRest, Tree}
use Rattle.cip_master.specs.MasterTasks.{Task}
use Rattle.cip_master.specs.declared.tasks.Shown.{Shown}
use Rattle.cip_master.specs.MasterAnswers.{IsMasterAnswer}
use Rattle.cip_master.specs.declared.answers.MasterCause.TheVariants.{Wide}
use Rattle.cip_master.specs.declared.answers.MasterAnswer.{MasterAnswer}
use Rattle.cip_master.specs.declared.answers.MasterAnswer.TheVariants.{Prices, Farkas, Unsolved}
use Rattle.cip_price.specs.Asks.{Asked, Told}
use Rattle.cip_price.specs.PriceRounds.{trees_in, AreTrees, IsGrown, IsTold, AreAll, IsRound}
use Rattle.cip_price.specs.declared.offering.Growth.{Growth}
use Rattle.cip_price.specs.declared.offering.Growth.TheVariants.{Same, Grown, Full}
use Rattle.cip_price.specs.declared.block_rounds.Round.{Round}
use Rattle.cip_price.specs.PriceAnswers.{holding}
use Rattle.cip_price.specs.PricedRounds.{sum_of_round, number_if, number_by, number_of_round, IsWideBy, IsWideSum, shown_in, IsAskedBehind, IsWholeRound, HasGap, Ran, One_more, with_cause, Ends, Is_full, Has_none, Closes, Closes_none, Sum_is_wide, Has_gap}
use Rattle.cip_price.specs.RoundEnds.{raised, decision_at, decision_by, decision_unless, decision, closed_by, is_open_at, is_open, IsSumOf}
use Rattle.cip_price.specs.Summing.{summed_of, IsSummed}
use Rattle.cip_price.specs.declared.bounding.Summed.{Summed}
use Rattle.cip_price.specs.declared.bounding.Summed.TheVariants.{Number, Nothing, Wide as SumWide}
use Rattle.cip_price.specs.declared.answers.PriceCause.TheVariants.{PricerGap, Master}
use Rattle.cip_price.specs.declared.answers.PriceAnswer.{PriceAnswer}

-- the number of a sum
num : Summed → Option ℚ
num (Number bound) = Some bound
num Nothing = None
num SumWide = None

nothing_num : None ≡ num Nothing
unfolding num
nothing_num = refl

raised_num : (best : Option ℚ) (summed : Summed) → raised best summed ≡ greater best (num summed)
unfolding num
raised_num best (Number bound) = refl
raised_num None Nothing = refl
raised_num (Some b) Nothing = refl
raised_num None SumWide = refl
raised_num (Some b) SumWide = refl

num_of : (sum : Result TreeBound LagrangeFault) → number_if sum ≡ num (summed_of sum)
unfolding num
num_of (Ok (Finite bound)) = refl
num_of (Ok NoneThere) = refl
num_of (Err LagrangeWide) = refl
num_of (Err (NoSide row)) = refl
num_of (Err (NoRest col)) = refl
num_of (Err (Tree block fault)) = refl

number_wide : (bound : ℚ) → ¬ (Number bound ≡ SumWide)
number_wide bound e = cc

nothing_wide : ¬ (Nothing ≡ SumWide)
nothing_wide e = cc

-- where a sum is out of range
wide_of : (sum : Result TreeBound LagrangeFault) → summed_of sum ≡ SumWide → sum ≡ Err LagrangeWide
wide_of (Ok (Finite bound)) e = absurd (number_wide bound e)
wide_of (Ok NoneThere) e = absurd (nothing_wide e)
wide_of (Err LagrangeWide) e = refl
wide_of (Err (NoSide row)) e = absurd (nothing_wide e)
wide_of (Err (NoRest col)) e = absurd (nothing_wide e)
wide_of (Err (Tree block fault)) e = absurd (nothing_wide e)

none_some : {A : Type 0} (a : A) → ¬ (None ≡ Some a)
none_some {A} a e = subst is_none e tt
  where
    is_none : Option A → Type 0
    is_none None = Unit {0}
    is_none (Some b) = ⊥

-- where nothing closes a block, and no tree shows that its block has no point, the sum is asked for
open_of : (growth : Growth) (empty : Bool) (gap : Option ℕ) (block : ℕ) → growth ≢ Full → empty ≡ false
    → gap ≡ Some block → is_open_at growth empty gap ≡ true
open_of Full empty gap block g e f = absurd (g refl)
open_of Same true gap block g e f = absurd (true≢false e)
open_of Same false None block g e f = absurd (none_some block f)
open_of Same false (Some k) block g e f = refl
open_of Grown true gap block g e f = absurd (true≢false e)
open_of Grown false None block g e f = absurd (none_some block f)
open_of Grown false (Some k) block g e f = refl

module _ (limit rounds : ℕ) (task : Task) (first : List PoolPoint) (n : ℕ) (asks : List Asked)
    (points next : List PoolPoint) (best : Option ℚ) (answer : MasterAnswer) (shown : Shown)
    (told telling : Option (List Told)) (round : Round) (summed : Summed) (l : n < rounds)
    (ran : Ran limit task first n asks points best) (m : IsMasterAnswer limit (holding task points) answer)
    (s : shown_in answer ≡ Some shown)
    (r : IsRound task shown.rests.items shown.prices.items told telling points next round)
    (sum_is : IsSumOf task answer round summed) where
  -- what is answered is an end of pricing; where there is no answer, the rounds go on
  abbrev pub LeadsTo : Option PriceAnswer → Type 0
  LeadsTo None = Ran limit task first (suc n) (asks ++ r.asks) next (raised best summed)
  LeadsTo (Some found) = Ends limit rounds task first (asks ++ r.asks) next found

  behind : IsAskedBehind limit task points answer shown r.asks
  behind = record { answered = m; shown_is = s; are_asks = r.are_asks }

  module _ (growth : Growth) (grows : round.growth ≡ growth) (going : growth ≢ Full) where
    all_told : (g : Growth) → g ≢ Full
        → AreAll task shown.prices.items r.asks round g
        → (length r.asks ≡ length task.kept.subproblems.items)
        × IsTold task shown.prices.items r.asks round
    all_told Same k h = h
    all_told Grown k h = h
    all_told Full k h = absurd (k refl)

    told_all : (length r.asks ≡ length task.kept.subproblems.items)
        × IsTold task shown.prices.items r.asks round
    told_all =
        all_told growth going
        (subst (AreAll task shown.prices.items r.asks round) grows r.all)

    whole : IsWholeRound limit task points next answer shown r.asks growth
    whole = record {
      behind = behind;
      all = told_all.0;
      grown = subst (IsGrown task r.asks points next) grows r.grown;
      going = going;
    }

    -- nothing closes this block
    module _ (some : round.is_empty ≡ false) (block : ℕ) (gap : round.gap ≡ Some block) where
      has_gap : HasGap task shown r.asks block
      has_gap = record {
        gap = sym told_all.1.gap ∙ gap;
        some = sym told_all.1.none ∙ some;
      }

      opens : is_open round ≡ true
      opens =
          open_of round.growth round.is_empty round.gap block (λ e. going (sym grows ∙ e)) some gap

      -- the number of the round, and whether it is out of range
      numbered : (a : MasterAnswer) → IsSumOf task a round summed → number_of_round task a r.asks ≡ num summed
      unfolding num
      numbered (Prices own weights cost) h = by_trees round.trees told_all.1.trees (h opens)
        where
          by_trees : (trees : Option (Vec BoundTree Global)) → AreTrees (trees_in task r.asks) trees
              → MatchOption trees (summed ≡ Nothing) (λ kept. IsSummed task own.multipliers.items kept.items summed)
              → number_by task own.multipliers.items (trees_in task r.asks) ≡ num summed
          by_trees None f k = ap (number_by task own.multipliers.items) f ∙ sym (ap num k)
          by_trees (Some kept) f k =
              ap (number_by task own.multipliers.items) f
              ∙ num_of (sum_of_round task own.multipliers.items kept.items) ∙ ap num (sym k)
      numbered (Farkas own) h = nothing_num ∙ sym (ap num h)
      numbered (Unsolved cause) h = nothing_num ∙ sym (ap num h)

      after_is : raised best summed ≡ greater best (number_of_round task answer r.asks)
      after_is = raised_num best summed ∙ ap (greater best) (sym (numbered answer sum_is))

      is_wide : (a : MasterAnswer) → IsSumOf task a round summed → summed ≡ SumWide → IsWideSum task a r.asks
      is_wide (Prices own weights cost) h g = by_trees round.trees told_all.1.trees (h opens)
        where
          by_trees : (trees : Option (Vec BoundTree Global)) → AreTrees (trees_in task r.asks) trees
              → MatchOption trees (summed ≡ Nothing) (λ kept. IsSummed task own.multipliers.items kept.items summed)
              → IsWideBy task own.multipliers.items (trees_in task r.asks)
          by_trees None f k = absurd (nothing_wide (sym k ∙ g))
          by_trees (Some kept) f k =
              subst (IsWideBy task own.multipliers.items) (sym f)
              (wide_of (sum_of_round task own.multipliers.items kept.items) (sym k ∙ g))
      is_wide (Farkas own) h g = absurd (nothing_wide (sym h ∙ g))
      is_wide (Unsolved cause) h g = absurd (nothing_wide (sym h ∙ g))

      wide_is : (a : MasterAnswer) → IsSumOf task a round summed → IsWideSum task a r.asks → summed ≡ SumWide
      wide_is (Prices own weights cost) h w = by_trees round.trees told_all.1.trees (h opens)
        where
          by_trees : (trees : Option (Vec BoundTree Global)) → AreTrees (trees_in task r.asks) trees
              → MatchOption trees (summed ≡ Nothing) (λ kept. IsSummed task own.multipliers.items kept.items summed)
              → summed ≡ SumWide
          by_trees None f k = absurd (subst (IsWideBy task own.multipliers.items) f w)
          by_trees (Some kept) f k = k ∙ ap summed_of (subst (IsWideBy task own.multipliers.items) f w)
      wide_is (Farkas own) h w = absurd w
      wide_is (Unsolved cause) h w = absurd w

      wide_ends : summed ≡ SumWide → LeadsTo (Some (with_cause best (Master Wide)))
      wide_ends g =
          Sum_is_wide n asks r.asks points next best answer shown growth block l ran whole has_gap
          (is_wide answer sum_is g)

      gap_ends : growth ≡ Same → summed ≢ SumWide
          → LeadsTo (Some (with_cause (raised best summed) (PricerGap block)))
      gap_ends e f =
          subst (λ (b : Option ℚ). LeadsTo (Some (with_cause b (PricerGap block)))) (sym after_is)
          (Has_gap n asks r.asks points next best answer shown block l ran
          (subst (IsWholeRound limit task points next answer shown r.asks) e whole) has_gap
          (λ w. f (wide_is answer sum_is w)))

      goes_on : growth ≡ Grown → summed ≢ SumWide → LeadsTo None
      goes_on e f =
          subst (Ran limit task first (suc n) (asks ++ r.asks) next) (sym after_is)
          (One_more n asks r.asks points next best answer shown block ran
          (subst (IsWholeRound limit task points next answer shown r.asks) e whole) has_gap
          (λ w. f (wide_is answer sum_is w)))

      by_sum : (g : Growth) (t : Summed) → growth ≡ g → summed ≡ t → LeadsTo (decision_at block g t best)
      by_sum g SumWide e f = wide_ends f
      by_sum Same (Number b) e f =
          subst (λ (x : Summed). LeadsTo (Some (with_cause (raised best x) (PricerGap block)))) f
          (gap_ends e (λ w. number_wide b (sym f ∙ w)))
      by_sum Same Nothing e f =
          subst (λ (x : Summed). LeadsTo (Some (with_cause (raised best x) (PricerGap block)))) f
          (gap_ends e (λ w. nothing_wide (sym f ∙ w)))
      by_sum Grown (Number b) e f = goes_on e (λ w. number_wide b (sym f ∙ w))
      by_sum Grown Nothing e f = goes_on e (λ w. nothing_wide (sym f ∙ w))
      by_sum Full (Number b) e f = absurd (going e)
      by_sum Full Nothing e f = absurd (going e)

    -- each block is closed
    closed_ends : round.is_empty ≡ false → round.gap ≡ None → (a : MasterAnswer) → a ≡ answer
        → shown_in a ≡ Some shown → LeadsTo (Some (closed_by a))
    closed_ends some none (Prices own weights cost) f e =
        Closes n asks r.asks points next best shown weights cost growth l ran
        (subst (λ (x : MasterAnswer). IsWholeRound limit task points next x shown r.asks growth)
        (sym (ap (λ (w : Shown). Prices w weights cost) (sym (same_Some own shown e)) ∙ f)) whole)
        (sym told_all.1.gap ∙ none) (sym told_all.1.none ∙ some)
    closed_ends some none (Farkas own) f e =
        Closes_none n asks r.asks points next best shown growth l ran
        (subst (λ (x : MasterAnswer). IsWholeRound limit task points next x shown r.asks growth)
        (sym (ap Farkas (sym (same_Some own shown e)) ∙ f)) whole)
        (sym told_all.1.gap ∙ none)
    closed_ends some none (Unsolved cause) f e = absurd (none_some shown e)

    by_gap : round.is_empty ≡ false → (gap : Option ℕ) → round.gap ≡ gap
        → LeadsTo (decision_by gap growth summed best (closed_by answer))
    by_gap some None e = closed_ends some e answer refl s
    by_gap some (Some block) e = by_sum some block e growth summed refl refl

    by_empty : (t : Bool) → round.is_empty ≡ t
        → LeadsTo (decision_unless t round.gap growth summed best (closed_by answer))
    by_empty true e =
        Has_none n asks r.asks points next best answer shown growth l ran whole (sym told_all.1.none ∙ e)
    by_empty false e = by_gap e round.gap refl

  by_growth : (growth : Growth) → round.growth ≡ growth
      → LeadsTo (decision round summed best (closed_by answer) growth)
  by_growth Full e =
      Is_full n asks r.asks points next best answer shown l ran behind
      (subst (AreAll task shown.prices.items r.asks round) e r.all)
      (subst (IsGrown task r.asks points next) e r.grown)
  by_growth Same e = by_empty Same e (λ f. cc) round.is_empty refl
  by_growth Grown e = by_empty Grown e (λ f. cc) round.is_empty refl

  pub leads : LeadsTo (decision round summed best (closed_by answer) round.growth)
  leads = by_growth round.growth refl
