-- Rounds, one after another.
use Rattle.std.proofs.Common.{◌≡◌, ℕ, suc, ◌<◌, ◌≤◌, length, List, [], ◌++◌, Option, None, Some, sym, subst, arith}
use Rattle.cip_rational.specs.Rational.{ℚ}
use Rattle.cip_columns.specs.PoolPoints.{PoolPoint}
use Rattle.cip_master.specs.MasterTasks.{Task}
use Rattle.cip_price.specs.Asks.{Asked, Told, Tells}
use Rattle.cip_price.specs.PriceRounds.{told_in, AreAll, IsRound}
use Rattle.cip_price.specs.declared.offering.Growth.{Growth}
use Rattle.cip_price.specs.declared.offering.Growth.TheVariants.{Same, Grown, Full}
use Rattle.cip_price.specs.declared.block_rounds.Round.{Round}
use Rattle.cip_price.proofs.Telling.{tells_none, tells_from, front_none, front_all, front_behind, may_none, told_both}
use Rattle.cip_price.specs.PricedRounds.{Ran, None_asked, with_cause, Ends, Out_of_rounds, Is_unsolved, IsRunBy, IsCutShort}
use Rattle.cip_price.specs.Worked.{IsStep, At_cause, At_round, MayStep}
use Rattle.cip_price.specs.declared.answers.PriceAnswer.{PriceAnswer}
use Rattle.cip_price.specs.declared.answers.PriceCause.TheVariants.{Rounds, Master}
use Rattle.cip_price.proofs.Ended.{LeadsTo, leads}

-- so many rounds were asked, and told
pub record IsRanTo (limit : ℕ) (task : Task) (told telling : Option (List Told)) (first points : List PoolPoint)
    (best : Option ℚ) (n : ℕ) : Type 0 where
  pub asks : List Asked
  pub tells : Tells told (told_in task asks) telling
  pub ran : Ran limit task first n asks points best

pub ran_none : (limit : ℕ) (task : Task) (told : Option (List Told)) (points : List PoolPoint)
    → IsRanTo limit task told told points points None 0
ran_none limit task told points = record { asks = []; tells = tells_none told; ran = None_asked }

pub ran_begun : (limit : ℕ) (task : Task) (told : Option (List Told)) (points : List PoolPoint) (best : Option ℚ)
    → best ≡ None → IsRanTo limit task told told points points best 0
ran_begun limit task told points best e =
    subst (λ (b : Option ℚ). IsRanTo limit task told told points points b 0) (sym e) (ran_none limit task told points)

-- all rounds were asked
pub ran_out : (limit rounds : ℕ) (task : Task) (told telling : Option (List Told)) (first points : List PoolPoint)
    (best : Option ℚ) (n : ℕ) (answer : PriceAnswer) → n ≡ rounds → answer ≡ with_cause best Rounds
    → IsRanTo limit task told telling first points best n → IsRunBy limit rounds task told telling first points answer
ran_out limit rounds task told telling first points best n answer e f r = record {
  asks = r.asks;
  tells = r.tells;
  ends =
      subst (Ends limit rounds task first r.asks points) (sym f)
      (Out_of_rounds r.asks points best (subst (λ (k : ℕ). Ran limit task first k r.asks points best) e r.ran));
}

-- what a step comes to
abbrev pub ComesTo : (limit rounds : ℕ) → Task → (told telling : Option (List Told))
    → (first points : List PoolPoint) → (best : Option ℚ) → ℕ → Option PriceAnswer → Type 0
ComesTo limit rounds task told telling first points best n None =
    IsRanTo limit task told telling first points best (suc n)
ComesTo limit rounds task told telling first points best n (Some answer) =
    IsRunBy limit rounds task told telling first points answer

module _ (limit rounds : ℕ) (task : Task) (told middle telling : Option (List Told))
    (first points next : List PoolPoint) (best after : Option ℚ) (n : ℕ) (found : Option PriceAnswer)
    (l : n < rounds) (r : IsRanTo limit task told middle first points best n) where
  pub step_on : IsStep limit task middle telling points next best after found
      → ComesTo limit rounds task told telling first next after n found
  step_on (At_cause cause m e f g h) =
      subst (ComesTo limit rounds task told telling first next after n) (sym h)
      (record {
        asks = r.asks;
        tells = subst (Tells told (told_in task r.asks)) (sym e) r.tells;
        ends =
            subst (λ (ps : List PoolPoint). Ends limit rounds task first r.asks ps (with_cause best (Master cause)))
            (sym f)
            (Is_unsolved n r.asks points best cause l r.ran m);
      })
  step_on (At_round answer shown m s b) =
      by_found found
      (subst (LeadsTo limit rounds task first n r.asks points next best answer shown middle telling b.round b.summed l
      r.ran m s b.is_round b.sum_is) (sym b.decided)
      (leads limit rounds task first n r.asks points next best answer shown middle telling b.round b.summed l r.ran m s
      b.is_round b.sum_is))
    where
      all_told : Tells told (told_in task (r.asks ++ b.is_round.asks)) telling
      all_told =
          subst (λ (ts : List Told). Tells told ts telling) (sym (told_both task r.asks b.is_round.asks))
          (tells_from told middle telling (told_in task r.asks) (told_in task b.is_round.asks) r.tells b.is_round.tells)

      by_found : (o : Option PriceAnswer)
          → LeadsTo limit rounds task first n r.asks points next best answer shown middle telling b.round b.summed l
          r.ran m s b.is_round b.sum_is o
          → ComesTo limit rounds task told telling first next after n o
      by_found None h = record {
        asks = r.asks ++ b.is_round.asks;
        tells = all_told;
        ran =
            subst (Ran limit task first (suc n) (r.asks ++ b.is_round.asks) next) (sym b.after_is) h;
      }
      by_found (Some answer') h = record {
        asks = r.asks ++ b.is_round.asks;
        tells = all_told;
        ends = h;
      }

-- want of memory
pub cut_none : (limit : ℕ) (task : Task) (told : Option (List Told)) (points : List PoolPoint)
    → IsCutShort limit task told told points
cut_none limit task told points = record {
  n = 0;
  asks = [];
  more = [];
  points = points;
  best = None;
  ran = None_asked;
  rests = [];
  are_asks = tt;
  few = omega arith;
  tells = front_none told told [] (may_none told);
}

pub cut_short : (limit : ℕ) (task : Task) (told middle telling : Option (List Told)) (first points : List PoolPoint)
    (best : Option ℚ) (n : ℕ) → IsRanTo limit task told middle first points best n → MayStep task middle telling
    → IsCutShort limit task told telling first
cut_short limit task told middle telling first points best n r m = record {
  n = n;
  asks = r.asks;
  more = m.asks;
  points = points;
  best = best;
  ran = r.ran;
  rests = m.rests;
  are_asks = m.are_asks;
  few = m.few;
  tells = front_behind told middle telling (told_in task r.asks) (told_in task m.asks) r.tells m.tells;
}

-- a whole round behind which memory was refused
pub round_may : (task : Task) (rests prices : List ℚ) (told telling : Option (List Told)) (points next : List PoolPoint)
    (round : Round) → IsRound task rests prices told telling points next round → MayStep task told telling
round_may task rests prices told telling points next round r = record {
  rests = rests;
  asks = r.asks;
  are_asks = r.are_asks;
  few = few round.growth r.all;
  tells = front_all told telling (told_in task r.asks) r.tells;
}
  where
    few : (growth : Growth) → AreAll task prices r.asks round growth
        → length r.asks ≤ length task.kept.subproblems.items
    few Same all = omega (arith, all.0)
    few Grown all = omega (arith, all.0)
    few Full all = all
