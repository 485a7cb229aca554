-- A round, block by block.
use Rattle.std.proofs.Common.{◌≡◌, ◌≢◌, ℕ, zero, suc, ◌+◌, ◌<◌, ◌≤◌, Bool, true, false, cond, ◌||◌, List, [], ◌∷◌, ◌++◌, length, Option, None, Some, refl, sym, ap, ◌∙◌, subst, arith}
use Rattle.std.specs.Prelude.{Vec, Result, Ok, Err, OnOk, MatchResult}
use Rattle.std.specs.Global.{Global}
use Rattle.std.proofs.lemmas.List.{length_push}
use Rattle.cip_rational.specs.Rational.{ℚ}
use Rattle.cip_problem.specs.Activity.{value_at}
use Rattle.cip_cert.specs.declared.pricing.BoundTree.{BoundTree}
use Rattle.cip_cert.specs.declared.pricing.Priced.{Priced}
use Rattle.cip_columns.specs.PoolPoints.{PoolPoint}
use Rattle.cip_lagrange.specs.declared.answers.TreeBound.{TreeBound}
use Rattle.cip_master.specs.MasterTasks.{Task}
use Rattle.cip_price.specs.Asks.{Asked, Told, Tells, MayTellTo}
use Rattle.cip_price.specs.OfferedPoints.{Grows, AreIn, IsOffered, joint}
use Rattle.cip_price.specs.BlockAsks.{costs_in, ask_at, ask_of, points_in, tree_in, shown_by, shown_in, closes, bound_in, AcceptsTree, told_of, AnswersBlock, MayAnswer}
use Rattle.cip_price.specs.PriceRounds.{AreAsks, told_in, first_open, is_empty_bound, shows_none, cons_tree, trees_in, AreHeldOf, IsGrown, first_gap, IsTreePut, AreTrees, IsTold, IsBlockPut, AreAll, IsRound, MayRound}
use Rattle.cip_price.specs.declared.block_answers.Accepted.{Accepted}
use Rattle.cip_price.specs.declared.block_answers.BlockAnswer.{BlockAnswer}
use Rattle.cip_price.specs.declared.offering.Growth.{Growth}
use Rattle.cip_price.specs.declared.offering.Growth.TheVariants.{Same, Grown, Full}
use Rattle.cip_price.specs.declared.block_rounds.Round.{Round}
use Rattle.cip_price.proofs.Telling.{tells_from, may_none, front_none, front_from, front_all, told_more}
use Rattle.cip_price.proofs.Offered.{grows_by, all_grown, same_grows}
use Rattle.cip_price.proofs.Crossed.{or_false, or_from}

-- ---- asks

pub asks_more : (task : Task) (rests : List ℚ) (first n : ℕ) (asks : List Asked) (answer : Option Priced)
    → length asks ≡ n → AreAsks task rests first asks
    → AreAsks task rests first (asks ++ ask_of task rests (first + n) answer ∷ [])
asks_more task rests first n [] answer e h =
    let none : first + n ≡ first = omega (arith, e) in
    (ap (λ k. ask_of task rests k answer) none ∙ same, tt)
  where
    same : ask_of task rests first answer ≡ ask_of task rests first (ask_of task rests (first + n) answer).answer
    same = refl
asks_more task rests first zero (a ∷ rest) answer e h = absurd (omega (arith, e))
asks_more task rests first (suc n) (a ∷ rest) answer e h =
    let next : suc first + n ≡ first + suc n = omega arith in (
      h.0,
      subst (λ k. AreAsks task rests (suc first) (rest ++ ask_of task rests k answer ∷ [])) next
          (asks_more task rests (suc first) n rest answer (omega (arith, e)) h.1),
    )

-- ---- what trees show

gap_step : (t : Bool) (block : ℕ) → cond t None (Some block) ≡ first_gap None block t
gap_step true block = refl
gap_step false block = refl

gap_kept : (t : Bool) (rest all : Option ℕ) (own block : ℕ) (closed : Bool) → all ≡ first_gap rest block closed
    → cond t all (Some own) ≡ first_gap (cond t rest (Some own)) block closed
gap_kept true rest all own block closed e = e
gap_kept false rest all own block closed e = refl

open_more : (task : Task) (prices : List ℚ) (asks : List Asked) (a : Asked)
    → first_open task prices (asks ++ a ∷ [])
    ≡ first_gap (first_open task prices asks) a.block
    (closes (value_at prices a.block) (shown_in task a))
open_more task prices [] a = gap_step (closes (value_at prices a.block) (shown_in task a)) a.block
open_more task prices (b ∷ bs) a =
    gap_kept (closes (value_at prices b.block) (shown_in task b)) (first_open task prices bs)
    (first_open task prices (bs ++ a ∷ [])) b.block a.block
    (closes (value_at prices a.block) (shown_in task a)) (open_more task prices bs a)

none_more : (task : Task) (asks : List Asked) (a : Asked)
    → shows_none task (asks ++ a ∷ []) ≡ (shows_none task asks || is_empty_bound (shown_in task a))
none_more task [] a = or_false (is_empty_bound (shown_in task a))
none_more task (b ∷ bs) a =
    ap (λ t. is_empty_bound (shown_in task b) || t) (none_more task bs a)
    ∙ or_from (is_empty_bound (shown_in task b)) (shows_none task bs)
    (is_empty_bound (shown_in task a))

-- one tree more, behind the others
snoc_tree : Option (List BoundTree) → Option BoundTree → Option TreeBound → Option (List BoundTree)
snoc_tree (Some trees) (Some tree) (Some bound) = Some (trees ++ tree ∷ [])
snoc_tree (Some trees) (Some tree) None = None
snoc_tree (Some trees) None shown = None
snoc_tree None tree shown = None

snoc_cons : (t : Option BoundTree) (b : Option TreeBound) (ts : Option (List BoundTree)) (tree : Option BoundTree)
    (shown : Option TreeBound) → cons_tree t b (snoc_tree ts tree shown) ≡ snoc_tree (cons_tree t b ts) tree shown
unfolding snoc_tree
snoc_cons None b ts tree shown = refl
snoc_cons (Some t) None ts tree shown = refl
snoc_cons (Some t) (Some b) None tree shown = refl
snoc_cons (Some t) (Some b) (Some ts) None shown = refl
snoc_cons (Some t) (Some b) (Some ts) (Some tree) None = refl
snoc_cons (Some t) (Some b) (Some ts) (Some tree) (Some bound) = refl

snoc_one : (tree : Option BoundTree) (shown : Option TreeBound)
    → cons_tree tree shown (Some []) ≡ snoc_tree (Some []) tree shown
unfolding snoc_tree
snoc_one None shown = refl
snoc_one (Some tree) None = refl
snoc_one (Some tree) (Some bound) = refl

trees_more : (task : Task) (asks : List Asked) (a : Asked)
    → trees_in task (asks ++ a ∷ [])
    ≡ snoc_tree (trees_in task asks) (tree_in a.answer) (shown_in task a)
trees_more task [] a = snoc_one (tree_in a.answer) (shown_in task a)
trees_more task (b ∷ bs) a =
    ap (cons_tree (tree_in b.answer) (shown_in task b)) (trees_more task bs a)
    ∙ snoc_cons (tree_in b.answer) (shown_in task b) (trees_in task bs) (tree_in a.answer)
    (shown_in task a)

-- what is accepted of an answer is what its tree shows
pub shown_of : (task : Task) (costs : List ℚ) (block : ℕ) (tree : Option BoundTree) (accepted : Option Accepted)
    → AcceptsTree task costs block tree accepted → bound_in accepted ≡ shown_by task costs block tree
shown_of task costs block tree None e = sym e
shown_of task costs block tree (Some accepted) a = sym a.bound_is

trees_put : (task : Task) (costs : List ℚ) (block : ℕ) (tree : Option BoundTree) (ts : Option (List BoundTree))
    (before : Option (Vec BoundTree Global)) (accepted : Option Accepted) (after : Option (Vec BoundTree Global))
    → AreTrees ts before → AcceptsTree task costs block tree accepted → IsTreePut before accepted after
    → AreTrees (snoc_tree ts tree (shown_by task costs block tree)) after
unfolding snoc_tree
trees_put task costs block tree ts None accepted after h a p =
    subst (λ (o : Option (Vec BoundTree Global)). AreTrees (snoc_tree ts tree (shown_by task costs block tree)) o) (sym p)
    (ap (λ o. snoc_tree o tree (shown_by task costs block tree)) h)
trees_put task costs block tree ts (Some kept) None after h a p =
    subst (λ (o : Option (Vec BoundTree Global)). AreTrees (snoc_tree ts tree (shown_by task costs block tree)) o) (sym p)
    (ap (λ o. snoc_tree o tree (shown_by task costs block tree)) h
    ∙ ap (snoc_tree (Some kept.items) tree) a ∙ no_tree tree)
  where
    no_tree : (t : Option BoundTree) → snoc_tree (Some kept.items) t None ≡ None
    no_tree None = refl
    no_tree (Some tree') = refl
trees_put task costs block tree ts (Some kept) (Some accepted) None h a p = absurd p
trees_put task costs block tree ts (Some kept) (Some accepted) (Some after) h a p =
    ap (λ o. snoc_tree o tree (shown_by task costs block tree)) h
    ∙ ap (λ o. snoc_tree (Some kept.items) o (shown_by task costs block tree)) a.tree_is
    ∙ ap (snoc_tree (Some kept.items) (Some accepted.tree)) a.bound_is ∙ ap Some (sym p)

-- ---- the pool

held_grown : (task : Task) (before after : List PoolPoint) (asks : List Asked) → Grows before after
    → AreHeldOf task before asks → AreHeldOf task after asks
held_grown task before after [] g h = tt
held_grown task before after (a ∷ rest) g h =
    (all_grown task a.block before after (points_in a.answer) g h.0, held_grown task before after rest g h.1)

held_more : (task : Task) (points : List PoolPoint) (asks : List Asked) (a : Asked) → AreHeldOf task points asks
    → AreIn task a.block points (points_in a.answer) → AreHeldOf task points (asks ++ a ∷ [])
held_more task points [] a h k = (k, tt)
held_more task points (b ∷ bs) a h k = (h.0, held_more task points bs a h.1 k)

pub grown_more : (task : Task) (asks : List Asked) (a : Asked) (first middle last : List PoolPoint)
    (growth next : Growth) → growth ≢ Full → IsGrown task asks first middle growth
    → IsOffered task a.block (points_in a.answer) middle last next
    → IsGrown task (asks ++ a ∷ []) first last (joint growth next)
grown_more task asks a first middle last Same Same n h k = (
  k.0 ∙ h.0,
  held_more task last asks a (held_grown task middle last asks (same_grows middle last k.0) h.1) k.1,
)
grown_more task asks a first middle last Same Grown n h k = (
  grows_by first middle last (same_grows first middle h.0) k.0,
  subst (λ (ps : List PoolPoint). length ps < length last) h.0 k.1,
  held_more task last asks a (held_grown task middle last asks k.0 h.1) k.2,
)
grown_more task asks a first middle last Same Full n h k = (
  grows_by first middle last (same_grows first middle h.0) k.0,
  record { earlier = asks; last = a; asks_are = refl; left_out = k.1 },
)
grown_more task asks a first middle last Grown Same n h k = (
  grows_by first middle last h.0 (same_grows middle last k.0),
  subst (λ (ps : List PoolPoint). length first < length ps) (sym k.0) h.1,
  held_more task last asks a (held_grown task middle last asks (same_grows middle last k.0) h.2) k.1,
)
grown_more task asks a first middle last Grown Grown n h k = (
  grows_by first middle last h.0 k.0,
  omega (arith, h.1, k.1),
  held_more task last asks a (held_grown task middle last asks k.0 h.2) k.2,
)
grown_more task asks a first middle last Grown Full n h k = (
  grows_by first middle last h.0 k.0,
  record { earlier = asks; last = a; asks_are = refl; left_out = k.1 },
)
grown_more task asks a first middle last Full next n h k = absurd (n refl)

-- ---- the loop over the blocks

-- what is asked of a block is what is left of its costs
pub answers_at : (task : Task) (rests costs : List ℚ) (block n : ℕ) (told telling : Option (List Told))
    (before after : List PoolPoint) (found : BlockAnswer) → costs ≡ costs_in task rests n → block ≡ n
    → AnswersBlock task costs block told telling before after found
    → AnswersBlock task (costs_in task rests n) n told telling before after found
answers_at task rests costs block n told telling before after found e f h =
    subst (λ (b : ℕ). AnswersBlock task (costs_in task rests n) b told telling before after found) f
    (subst (λ (cs : List ℚ). AnswersBlock task cs block told telling before after found) e h)

pub may_at : (task : Task) (rests costs : List ℚ) (block n : ℕ) (told telling : Option (List Told))
    → costs ≡ costs_in task rests n → block ≡ n → MayAnswer task costs block told telling
    → MayAnswer task (costs_in task rests n) n told telling
may_at task rests costs block n told telling e f h =
    subst (λ (b : ℕ). MayAnswer task (costs_in task rests n) b told telling) f
    (subst (λ (cs : List ℚ). MayAnswer task cs block told telling) e h)

-- the round as far as the first so many blocks
pub record IsRoundTo (task : Task) (rests prices : List ℚ) (told telling : Option (List Told))
    (before after : List PoolPoint) (round : Round) (n : ℕ) : Type 0 where
  pub asks : List Asked
  pub are_asks : AreAsks task rests 0 asks
  pub long : length asks ≡ n
  pub tells : Tells told (told_in task asks) telling
  pub grown : IsGrown task asks before after round.growth
  pub is_told : IsTold task prices asks round

-- of a block that wasn't asked nothing is told, and of one that was all there is to tell
pub may_nothing : (task : Task) (costs : List ℚ) (block : ℕ) (told : Option (List Told)) → MayAnswer task costs block told told
may_nothing task costs block told = record {
  answer = None;
  tells = front_none told told (told_of task (ask_at task costs block None)) (may_none told);
}

may_all : (task : Task) (costs : List ℚ) (block : ℕ) (told telling : Option (List Told))
    (before after : List PoolPoint) (found : BlockAnswer) → AnswersBlock task costs block told telling before after found
    → MayAnswer task costs block told telling
may_all task costs block told telling before after found a = record {
  answer = a.answer;
  tells = front_all told telling (told_of task (ask_at task costs block a.answer)) a.tells;
}

-- one more block was asked, unless want of memory cut it short
pub block_put : {E : Type 0} (task : Task) (rests prices : List ℚ) (block : ℕ) (price : ℚ) (told telling : Option (List Told))
    (points next : List PoolPoint) (before after : Round) (found : BlockAnswer) (result : Result (Unit {0}) E)
    → price ≡ value_at prices block
    → AnswersBlock task (costs_in task rests block) block told telling points next found
    → OnOk result (after.growth ≡ joint before.growth found.growth)
    → OnOk result (after.gap ≡ first_gap before.gap block (closes price (bound_in found.accepted)))
    → OnOk result (after.is_empty ≡ (before.is_empty || is_empty_bound (bound_in found.accepted)))
    → OnOk result (IsTreePut before.trees found.accepted after.trees)
    → MatchResult result (λ _. IsBlockPut task rests prices block told telling points next before after)
    (λ _. MayAnswer task (costs_in task rests block) block told telling)
block_put task rests prices block price told telling points next before after found (Ok done) e a g h n t = record {
  found = found;
  answers = a;
  put = record {
    growth = g;
    gap = h ∙ ap (λ p. first_gap before.gap block (closes p (bound_in found.accepted))) e;
    none = n;
    trees = t;
  };
}
block_put task rests prices block price told telling points next before after found (Err fault) e a g h n t =
    may_all task (costs_in task rests block) block told telling points next found a

module _ (task : Task) (rests prices : List ℚ) (told middle last : Option (List Told))
    (first pool next : List PoolPoint) (before after : Round) (n : ℕ) (going : before.growth ≢ Full)
    (r : IsRoundTo task rests prices told middle first pool before n)
    (b : IsBlockPut task rests prices n middle last pool next before after) where
  shown_is : bound_in b.found.accepted ≡ shown_by task (costs_in task rests n) n (tree_in b.answers.answer)
  shown_is = shown_of task (costs_in task rests n) n (tree_in b.answers.answer) b.found.accepted b.answers.comes.accepted

  pub round_more : IsRoundTo task rests prices told last first next after (n + 1)
  round_more = record {
    asks = r.asks ++ ask_of task rests n b.answers.answer ∷ [];
    are_asks =
        subst (λ k. AreAsks task rests 0 (r.asks ++ ask_of task rests k b.answers.answer ∷ [])) (omega arith)
        (asks_more task rests 0 n r.asks b.answers.answer r.long r.are_asks);
    long = length_push r.asks (ask_of task rests n b.answers.answer) ∙ ap (λ k. k + 1) r.long;
    tells =
        subst (λ (ts : List Told). Tells told ts last) (sym (told_more task r.asks (ask_of task rests n b.answers.answer)))
        (tells_from told middle last (told_in task r.asks) (told_of task (ask_of task rests n b.answers.answer)) r.tells
        b.answers.tells);
    grown =
        subst (IsGrown task (r.asks ++ ask_of task rests n b.answers.answer ∷ []) first next) (sym b.put.growth)
        (grown_more task r.asks (ask_of task rests n b.answers.answer) first pool next before.growth b.found.growth going
        r.grown b.answers.comes.offered);
    is_told = record {
      gap =
          b.put.gap
          ∙ ap (λ g. first_gap g n (closes (value_at prices n) (bound_in b.found.accepted))) r.is_told.gap
          ∙ ap (λ t. first_gap (first_open task prices r.asks) n (closes (value_at prices n) t)) shown_is
          ∙ sym (open_more task prices r.asks (ask_of task rests n b.answers.answer));
      none =
          b.put.none
          ∙ ap (λ t. t || is_empty_bound (bound_in b.found.accepted)) r.is_told.none
          ∙ ap (λ t. shows_none task r.asks || is_empty_bound t) shown_is
          ∙ sym (none_more task r.asks (ask_of task rests n b.answers.answer));
      trees =
          subst (λ (ts : Option (List BoundTree)). AreTrees ts after.trees)
          (sym (trees_more task r.asks (ask_of task rests n b.answers.answer)))
          (trees_put task (costs_in task rests n) n (tree_in b.answers.answer) (trees_in task r.asks) before.trees
          b.found.accepted after.trees r.is_told.trees b.answers.comes.accepted b.put.trees);
    };
  }

-- the pool is full
pub round_full : (task : Task) (rests prices : List ℚ) (told telling : Option (List Told))
    (before after : List PoolPoint) (round : Round) (n : ℕ) → n ≤ length task.kept.subproblems.items
    → round.growth ≡ Full → IsRoundTo task rests prices told telling before after round n
    → IsRound task rests prices told telling before after round
round_full task rests prices told telling before after round n l e r = record {
  asks = r.asks;
  are_asks = r.are_asks;
  tells = r.tells;
  grown = r.grown;
  all = subst (AreAll task prices r.asks round) (sym e) (omega (arith, r.long, l));
}

-- want of memory cut it short
pub round_cut : (task : Task) (rests prices : List ℚ) (told middle last : Option (List Told))
    (first pool : List PoolPoint) (round : Round) (n : ℕ) → n < length task.kept.subproblems.items
    → IsRoundTo task rests prices told middle first pool round n
    → MayAnswer task (costs_in task rests n) n middle last → MayRound task rests told last
round_cut task rests prices told middle last first pool round n l r m = record {
  asks = r.asks ++ ask_of task rests n m.answer ∷ [];
  few = omega (arith, r.long, l, length_push r.asks (ask_of task rests n m.answer));
  are_asks =
      subst (λ k. AreAsks task rests 0 (r.asks ++ ask_of task rests k m.answer ∷ [])) (omega arith)
      (asks_more task rests 0 n r.asks m.answer r.long r.are_asks);
  tells =
      subst (λ (ts : List Told). MayTellTo [] ts told last) (sym (told_more task r.asks (ask_of task rests n m.answer)))
      (front_from told middle last (told_in task r.asks) (told_of task (ask_of task rests n m.answer)) r.tells m.tells);
}
