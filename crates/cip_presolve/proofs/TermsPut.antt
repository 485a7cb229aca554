-- Terms put into a row one after another.
use Rattle.std.proofs.Common.{◌≡◌, ℕ, zero, suc, ◌+◌, ◌<◌, ◌≤◌, Bool, true, false, Result, Ok, Err, IfOk, List, [], ◌∷◌, ◌++◌, length, take, Some, slice_get, refl, sym, ap, ◌∙◌, subst, arith, add-one}
use Rattle.std.specs.Prelude.{⊤}
use Rattle.std.specs.Bool.{MatchBool}
use Rattle.std.specs.List.{AllByRecursion}
use Rattle.std.proofs.lemmas.Option.{none-some, same_Some, slice_get_read}
use Rattle.std.proofs.Math.ListN.{get_or}
use Rattle.cip_rational.specs.Rational.{ℚ, ◌+ℚ◌, ◌*ℚ◌, zeroℚ}
use Rattle.cip_rational.proofs.Rational.Ring.{zero-*ℚ, +ℚ-zero, add-*ℚ}
use Rattle.cip_rational.proofs.Linear.{linear_same}
use Rattle.cip_problem.specs.Program.{Term, Row}
use Rattle.cip_problem.specs.Activity.{activity, value_at, StandsBelow}
use Rattle.cip_presolve.proofs.FixedColumns.{to_rec, from_rec}
use Rattle.cip_presolve.specs.PutTerms.{product_of, HasMore, HasMet, HasBoth, HasAll}
use Rattle.cip_presolve.proofs.Free.{take_whole}

-- ---- one term

pub more_activity : (terms : List Term) (term : Term) (x : List ℚ) → activity (terms ++ term ∷ []) x ≡ activity terms x +ℚ product_of term x
more_activity [] term x = linear_same (product_of term x ∷ []) (λ s w. omega arith)
more_activity (t ∷ ts) term x =
    let e = more_activity ts term x in
    linear_same (product_of t x ∷ activity (ts ++ term ∷ []) x ∷ activity ts x ∷ product_of term x ∷ []) (λ s w. omega (arith, s.same_out))

more_stands_rec : (n : ℕ) (terms : List Term) (term : Term) → AllByRecursion (λ t. t.column < n) terms → term.column < n → AllByRecursion (λ t. t.column < n) (terms ++ term ∷ [])
more_stands_rec n [] term h k = (k, tt)
more_stands_rec n (t ∷ ts) term h k = (h.0, more_stands_rec n ts term h.1 k)

more_stands : (n : ℕ) (terms : List Term) (term : Term) → StandsBelow n terms → term.column < n → StandsBelow n (terms ++ term ∷ [])
more_stands n terms term h k = from_rec (λ t. t.column < n) (terms ++ term ∷ []) (more_stands_rec n terms term (to_rec (λ t. t.column < n) terms h) k)

nothing_of : (term : Term) (x : List ℚ) → term.coefficient ≡ zeroℚ → product_of term x ≡ zeroℚ
nothing_of term x e = ap (λ q. q *ℚ value_at x term.column) e ∙ zero-*ℚ (value_at x term.column)

pub put_nothing : (row new : Row) (term : Term) → term.coefficient ≡ zeroℚ → new ≡ row → HasMore row term new
put_nothing row new term e k = subst (λ (r : Row). HasMore row term r) (sym k) (record {
  activity = λ x. sym (ap (λ q. activity row.terms x +ℚ q) (nothing_of term x e) ∙ +ℚ-zero (activity row.terms x));
  low = refl;
  high = refl;
  stands = λ n h l. h;
})

pub put_one : (row new : Row) (term : Term) → new ≡ record row { terms = row.terms ++ term ∷ [] } → HasMore row term new
put_one row new term k = subst (λ (r : Row). HasMore row term r) (sym k) (record {
  activity = λ x. more_activity row.terms term x;
  low = refl;
  high = refl;
  stands = λ n h l. more_stands n row.terms term h l;
})

pub ruleset putting = (put_nothing, put_one)

-- ---- a term that waits

pub met_later : (row new : Row) (waiting still term : Term) → new ≡ row → still ≡ waiting → HasMet row waiting term new still term
met_later row new waiting still term e k =
    subst (λ (r : Row). HasMet row waiting term r still term) (sym e)
    (subst (λ (t : Term). HasMet row waiting term row t term) (sym k)
    (record { activity = λ x. refl; low = refl; high = refl; column = refl; same = refl; stands = λ n h l. h }))

met_sum : (a w t v : ℚ) → (a +ℚ zeroℚ *ℚ v) +ℚ (t +ℚ w) *ℚ v ≡ (a +ℚ w *ℚ v) +ℚ t *ℚ v
met_sum a w t v =
    let z = zero-*ℚ v in
    let d = add-*ℚ t w v in
    linear_same (a ∷ (zeroℚ *ℚ v) ∷ ((t +ℚ w) *ℚ v) ∷ (w *ℚ v) ∷ (t *ℚ v) ∷ []) (λ s u. omega (arith, s.same_out))

pub met_here : (row new : Row) (waiting still term left : Term) → new ≡ row → term.column ≡ waiting.column → still.column ≡ term.column → still.coefficient ≡ zeroℚ → left.column ≡ term.column → left.coefficient ≡ term.coefficient +ℚ waiting.coefficient → HasMet row waiting term new still left
met_here row new waiting still term left e same c z l q = subst (λ (r : Row). HasMet row waiting term r still left) (sym e) (record {
  activity = λ x. here x;
  low = refl;
  high = refl;
  column = c ∙ same;
  same = l;
  stands = λ n h k. h;
})
  where
    here : (x : List ℚ) → (activity row.terms x +ℚ product_of still x) +ℚ product_of left x ≡ (activity row.terms x +ℚ product_of waiting x) +ℚ product_of term x
    here x =
        let none : product_of still x ≡ zeroℚ *ℚ value_at x term.column = ap (λ n. still.coefficient *ℚ value_at x n) c ∙ ap (λ k. k *ℚ value_at x term.column) z in
        let sum : product_of left x ≡ (term.coefficient +ℚ waiting.coefficient) *ℚ value_at x term.column = ap (λ n. left.coefficient *ℚ value_at x n) l ∙ ap (λ k. k *ℚ value_at x term.column) q in
        let own : waiting.coefficient *ℚ value_at x term.column ≡ product_of waiting x = ap (λ n. waiting.coefficient *ℚ value_at x n) same in
        ap (λ k. (activity row.terms x +ℚ k) +ℚ product_of left x) none
        ∙ ap (λ k. (activity row.terms x +ℚ zeroℚ *ℚ value_at x term.column) +ℚ k) sum
        ∙ met_sum (activity row.terms x) waiting.coefficient term.coefficient (value_at x term.column)
        ∙ ap (λ k. (activity row.terms x +ℚ k) +ℚ product_of term x) own

pub met_before : (row new : Row) (waiting still term : Term) → HasMore row waiting new → still.column ≡ waiting.column → still.coefficient ≡ zeroℚ → HasMet row waiting term new still term
met_before row new waiting still term m c z = record {
  activity = λ x. ap (λ k. (activity new.terms x +ℚ k) +ℚ product_of term x) (nothing_of still x z) ∙ ap (λ k. k +ℚ product_of term x) (+ℚ-zero (activity new.terms x) ∙ m.activity x);
  low = m.low;
  high = m.high;
  column = c;
  same = refl;
  stands = λ n h k. m.stands n h k;
}

pub ruleset meeting = (met_later, met_here, met_before)

pub both_met : (row mid more new : Row) (first second one other term left last : Term) → HasMet row first term mid one left → HasMet mid second left more other last → HasMore more last new → HasBoth row first second term new one other
both_met row mid more new first second one other term left last a b m = record {
  activity = λ x. sums x (a.activity x) (b.activity x) (m.activity x);
  low = m.low ∙ b.low ∙ a.low;
  high = m.high ∙ b.high ∙ a.high;
  one_column = a.column;
  other_column = b.column;
  stands = λ n h k l t. m.stands n (b.stands n (a.stands n h k) l) (subst (λ c. c < n) (sym (b.same ∙ a.same)) t);
}
  where
    sums : (x : List ℚ) → (activity mid.terms x +ℚ product_of one x) +ℚ product_of left x ≡ (activity row.terms x +ℚ product_of first x) +ℚ product_of term x → (activity more.terms x +ℚ product_of other x) +ℚ product_of last x ≡ (activity mid.terms x +ℚ product_of second x) +ℚ product_of left x → activity new.terms x ≡ activity more.terms x +ℚ product_of last x → (activity new.terms x +ℚ product_of one x) +ℚ product_of other x ≡ ((activity row.terms x +ℚ product_of first x) +ℚ product_of second x) +ℚ product_of term x
    sums x e f g =
        linear_same (activity row.terms x ∷ activity mid.terms x ∷ activity more.terms x ∷ activity new.terms x ∷ product_of first x ∷ product_of second x ∷ product_of one x ∷ product_of other x ∷ product_of term x ∷ product_of left x ∷ product_of last x ∷ []) (λ s w. omega (arith, s.same_out))

pub ruleset both_meet = (both_met)

-- what holds where an answer is whole
pub under_ok : {E : Type 0} {P Q : Type 0} (r : Result Bool E) → (P → Q) → IfOk r (λ whole. MatchBool whole P ⊤) → IfOk r (λ whole. MatchBool whole Q ⊤)
under_ok (Ok true) f h = f h
under_ok (Ok false) f h = tt
under_ok (Err e) f h = tt

pub two_put : (row mid new : Row) (first second : Term) → HasMore row first mid → HasMore mid second new → HasAll row first second [] new
two_put row mid new first second a b = record {
  activity = λ x. b.activity x ∙ ap (λ q. q +ℚ product_of second x) (a.activity x) ∙ sym (+ℚ-zero _);
  low = b.low ∙ a.low;
  high = b.high ∙ a.high;
  stands = λ n h k l s. b.stands n (a.stands n h k) l;
}

-- ---- all terms

-- the first terms were put into a row, and two terms wait
pub record PutTo (old : Row) (first second : Term) (terms : List Term) (count : ℕ) (row : Row) (one other : Term) : Type 0 where
  pub activity : (x : List ℚ) → (activity row.terms x +ℚ product_of one x) +ℚ product_of other x ≡ ((activity old.terms x +ℚ product_of first x) +ℚ product_of second x) +ℚ activity (take count terms) x
  pub low : row.low ≡ old.low
  pub high : row.high ≡ old.high
  pub one_column : one.column ≡ first.column
  pub other_column : other.column ≡ second.column
  pub stands : (n : ℕ) → StandsBelow n old.terms → first.column < n → second.column < n → StandsBelow n terms → StandsBelow n row.terms

pub none_put : (row : Row) (first second : Term) (terms : List Term) → PutTo row first second terms 0 row first second
none_put row first second terms = record {
  activity = λ x. sym (+ℚ-zero _);
  low = refl;
  high = refl;
  one_column = refl;
  other_column = refl;
  stands = λ n h k l s. h;
}

take_activity : (terms : List Term) (n : ℕ) (t : Term) (x : List ℚ) → slice_get terms n ≡ Some t → activity (take (suc n) terms) x ≡ activity (take n terms) x +ℚ product_of t x
take_activity [] n t x g = absurd (none-some t g)
take_activity (u ∷ terms) zero t x g =
    ap (λ (v : Term). product_of v x +ℚ zeroℚ) (same_Some u t g) ∙ linear_same (product_of t x ∷ []) (λ s w. omega arith)
take_activity (u ∷ terms) (suc n) t x g =
    let e = take_activity terms n t x g in
    linear_same (product_of u x ∷ activity (take (suc n) terms) x ∷ activity (take n terms) x ∷ product_of t x ∷ []) (λ s w. omega (arith, s.same_out))

column_below : (n : ℕ) (terms : List Term) (k : ℕ) (t : Term) → AllByRecursion (λ u. u.column < n) terms → slice_get terms k ≡ Some t → t.column < n
column_below n [] k t h g = absurd (none-some t g)
column_below n (u ∷ terms) zero t h g = subst (λ (v : Term). v.column < n) (same_Some u t g) h.0
column_below n (u ∷ terms) (suc k) t h g = column_below n terms k t h.1 g

pub next_put : (old row new : Row) (first second one other still last : Term) (terms : List Term) (count : ℕ) (t : Term) → PutTo old first second terms count row one other → count < length terms → t ≡ get_or terms count t → HasBoth row one other t new still last → PutTo old first second terms (count + 1) new still last
next_put old row new first second one other still last terms count t p below is b =
    let g : slice_get terms count ≡ Some t = slice_get_read terms (length terms) count t refl below is in
    record {
      activity = λ x. rw add-one (sums x (p.activity x) (b.activity x) (take_activity terms count t x g));
      low = b.low ∙ p.low;
      high = b.high ∙ p.high;
      one_column = b.one_column ∙ p.one_column;
      other_column = b.other_column ∙ p.other_column;
      stands = λ n h k l s. b.stands n (p.stands n h k l s) (subst (λ c. c < n) (sym p.one_column) k) (subst (λ c. c < n) (sym p.other_column) l) (column_below n terms count t (to_rec (λ u. u.column < n) terms s) g);
    }
  where
    sums : (x : List ℚ) → (activity row.terms x +ℚ product_of one x) +ℚ product_of other x ≡ ((activity old.terms x +ℚ product_of first x) +ℚ product_of second x) +ℚ activity (take count terms) x → (activity new.terms x +ℚ product_of still x) +ℚ product_of last x ≡ ((activity row.terms x +ℚ product_of one x) +ℚ product_of other x) +ℚ product_of t x → activity (take (suc count) terms) x ≡ activity (take count terms) x +ℚ product_of t x → (activity new.terms x +ℚ product_of still x) +ℚ product_of last x ≡ ((activity old.terms x +ℚ product_of first x) +ℚ product_of second x) +ℚ activity (take (suc count) terms) x
    sums x e f g =
        linear_same (activity old.terms x ∷ activity row.terms x ∷ activity new.terms x ∷ product_of first x ∷ product_of second x ∷ product_of one x ∷ product_of other x ∷ product_of still x ∷ product_of last x ∷ product_of t x ∷ activity (take count terms) x ∷ activity (take (suc count) terms) x ∷ []) (λ s w. omega (arith, s.same_out))

pub all_there : (old row new : Row) (first second one other : Term) (terms : List Term) (count : ℕ) → PutTo old first second terms count row one other → length terms ≤ count → HasAll row one other [] new → HasAll old first second terms new
all_there old row new first second one other terms count p l a = record {
  activity = λ x. a.activity x ∙ +ℚ-zero _ ∙ p.activity x ∙ ap (λ (ts : List Term). ((activity old.terms x +ℚ product_of first x) +ℚ product_of second x) +ℚ activity ts x) (take_whole terms count l);
  low = a.low ∙ p.low;
  high = a.high ∙ p.high;
  stands = λ n h k m s. a.stands n (p.stands n h k m s) (subst (λ c. c < n) (sym p.one_column) k) (subst (λ c. c < n) (sym p.other_column) m) (λ i d e. absurd (omega (arith, e)));
}

pub ruleset all_put = (none_put, next_put, all_there)
