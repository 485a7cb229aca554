-- The least number that passes a test, and the shortest way.
use Rattle.std.proofs.Common.{◌≡◌, ℕ, zero, suc, ◌<◌, Bool, true, false, cond, Option, None, Some, refl, sym, ap, ◌∙◌, subst, inl, inr, arith}
use Rattle.std.proofs.lemmas.Bool.{cases_eq, cases_lt, true≢false}
use Rattle.std.proofs.lemmas.Option.{none-some, same_Some}
use Rattle.cip_bland.specs.Tables.{first_of, least}
use Rattle.cip_bland.specs.Dictionary.{Dictionary}
use Rattle.cip_bland.specs.declared.moves.Move.{Move}
use Rattle.cip_rational.specs.Rational.{◌≤ℚ◌, ◌<ℚ◌, lt_test}
use Rattle.cip_rational.proofs.Rational.Order.{≤ℚ_of_eq, ≤ℚ_of_lt, <ℚ_of_lt_of_le, lt_of_test, le_of_lt_test}
use Rattle.cip_bland.specs.Rule.{Way, way_of, shorter, shortest}
use Rattle.cip_bland.specs.MoveList.{wide_way, first_wide_way}

-- ---- the least number

-- a number below n passes the test, and no smaller one does
pub record IsLeast (n : ℕ) (test : ℕ → Bool) (k : ℕ) : Type 0 where
  pub below : k < n
  pub passes : test k ≡ true
  pub first : (l : ℕ) → l < k → test l ≡ false

-- no number below n passes the test
pub record NoneOf (n : ℕ) (test : ℕ → Bool) : Type 0 where
  pub fails : (l : ℕ) → l < n → test l ≡ false

last_case : (b : Bool) (n k : ℕ) → cond b (Some n) None ≡ Some k → (b ≡ true) × (n ≡ k)
last_case true n k e = (refl, same_Some n k e)
last_case false n k e = absurd (none-some k e)

none_case : (b : Bool) (n : ℕ) → cond b (Some n) None ≡ None → b ≡ false
none_case true n e = absurd (none-some n (sym e))
none_case false n e = refl

none_step : (n : ℕ) (test : ℕ → Bool) (o : Option ℕ) → (o ≡ None → NoneOf n test) → first_of o (cond (test n) (Some n) None) ≡ None → NoneOf (suc n) test
none_step n test (Some k) before f = absurd (none-some k (sym f))
none_step n test None before f =
    let h = before refl in
    record {
      fails = λ l lt. elim (cases_eq l n) [
        | inl same ↦ subst (λ k. test k ≡ false) (sym same) (none_case (test n) n f)
        | inr other ↦ h.fails l (omega (arith, lt, other))
      ];
    }

pub least_none : (n : ℕ) (test : ℕ → Bool) → least n test ≡ None → NoneOf n test
least_none zero test e = record { fails = λ l h. absurd (omega (arith, h)) }
least_none (suc n) test e = none_step n test (least n test) (λ f. least_none n test f) e

some_step : (n : ℕ) (test : ℕ → Bool) (k : ℕ) (o : Option ℕ) → (o ≡ None → NoneOf n test) → ((l : ℕ) → o ≡ Some l → IsLeast n test l) → first_of o (cond (test n) (Some n) None) ≡ Some k → IsLeast (suc n) test k
some_step n test k None none before f =
    let h = none refl in
    let here = last_case (test n) n k f in
    record {
      below = omega (arith, here.1);
      passes = subst (λ l. test l ≡ true) here.1 here.0;
      first = λ l lt. h.fails l (omega (arith, lt, here.1));
    }
some_step n test k (Some l) none before f =
    let h = before l refl in
    subst (IsLeast (suc n) test) (same_Some l k f) (record { below = omega (arith, h.below); passes = h.passes; first = h.first })

pub least_some : (n : ℕ) (test : ℕ → Bool) (k : ℕ) → least n test ≡ Some k → IsLeast n test k
least_some zero test k e = absurd (none-some k e)
least_some (suc n) test k e = some_step n test k (least n test) (least_none n test) (λ l f. least_some n test l f) e

-- ---- the shortest way

-- no way of a number below n is shorter, and a way of a smaller number than its own is longer
pub record IsShortest (n : ℕ) (ways : ℕ → Option Way) (k : ℕ) (way : Way) : Type 0 where
  pub below : k < n
  pub is_way : ways k ≡ Some way
  pub none_shorter : (l : ℕ) (other : Way) → l < n → ways l ≡ Some other → way.length ≤ℚ other.length
  pub earlier : (l : ℕ) (other : Way) → l < k → ways l ≡ Some other → way.length <ℚ other.length

-- of two ways, which the shorter one is
data Shorter (first second : Option Way) (way : Way) : Type 0 where
  earlier : first ≡ Some way → ((other : Way) → second ≡ Some other → way.length ≤ℚ other.length) → Shorter first second way
  later : second ≡ Some way → ((other : Way) → first ≡ Some other → way.length <ℚ other.length) → Shorter first second way

shorter_case : (v w way : Way) (b : Bool) → lt_test w.length v.length ≡ b → cond b (Some w) (Some v) ≡ Some way → Shorter (Some v) (Some w) way
shorter_case v w way true t e =
    let same = same_Some w way e in
    later e (λ other f. subst (λ u. u.length <ℚ other.length) same (subst (λ u. w.length <ℚ u.length) (same_Some v other f) (lt_of_test t)))
shorter_case v w way false t e =
    let same = same_Some v way e in
    earlier e (λ other f. subst (λ u. u.length ≤ℚ other.length) same (subst (λ u. v.length ≤ℚ u.length) (same_Some w other f) (le_of_lt_test t)))

shorter_of : (first second : Option Way) (way : Way) → shorter first second ≡ Some way → Shorter first second way
shorter_of None second way e = later e (λ other f. absurd (none-some other f))
shorter_of (Some v) None way e = earlier e (λ other f. absurd (none-some other f))
shorter_of (Some v) (Some w) way e = shorter_case v w way (lt_test w.length v.length) refl e

never_none : (b : Bool) (v w : Way) → ¬ (cond b (Some w) (Some v) ≡ None)
never_none true v w e = none-some w (sym e)
never_none false v w e = none-some v (sym e)

shorter_none : (first second : Option Way) → shorter first second ≡ None → (first ≡ None) × (second ≡ None)
shorter_none None second e = (refl, e)
shorter_none (Some v) None e = absurd (none-some v (sym e))
shorter_none (Some v) (Some w) e = absurd (never_none (lt_test w.length v.length) v w e)

pub shortest_none : (n : ℕ) (ways : ℕ → Option Way) → shortest n ways ≡ None → (l : ℕ) → l < n → ways l ≡ None
shortest_none zero ways e l h = absurd (omega (arith, h))
shortest_none (suc n) ways e l h =
    let both = shorter_none (shortest n ways) (ways n) e in
    elim (cases_eq l n) [
      | inl same ↦ subst (λ k. ways k ≡ None) (sym same) both.1
      | inr other ↦ shortest_none n ways both.0 l (omega (arith, h, other))
    ]

shortest_step : (n : ℕ) (ways : ℕ → Option Way) (way : Way) (o : Option Way) → (o ≡ None → (l : ℕ) → l < n → ways l ≡ None) → ((way : Way) → o ≡ Some way → (k : ℕ) × IsShortest n ways k way) → Shorter o (ways n) way → (k : ℕ) × IsShortest (suc n) ways k way
shortest_step n ways way o none before (earlier e least) =
    let h = (before way e).1 in (
      (before way e).0,
      record {
        below = omega (arith, h.below);
        is_way = h.is_way;
        none_shorter = λ l other lt f. elim (cases_eq l n) [
          | inl same ↦ least other (sym (ap ways same) ∙ f)
          | inr ne ↦ h.none_shorter l other (omega (arith, lt, ne)) f
        ];
        earlier = h.earlier;
      },
    )
shortest_step n ways way None none before (later e least) = (
  n,
  record {
    below = omega arith;
    is_way = e;
    none_shorter = λ l other lt f. elim (cases_eq l n) [
      | inl same ↦ ≤ℚ_of_eq (ap (λ u. u.length) (same_Some way other (sym e ∙ sym (ap ways same) ∙ f)))
      | inr ne ↦ absurd (none-some other (sym (none refl l (omega (arith, lt, ne))) ∙ f))
    ];
    earlier = λ l other lt f. absurd (none-some other (sym (none refl l lt) ∙ f));
  },
)
shortest_step n ways way (Some v) none before (later e least) =
    let h = (before v refl).1 in
    let lt : way.length <ℚ v.length = least v refl in (
      n,
      record {
        below = omega arith;
        is_way = e;
        none_shorter = λ l other l' f. elim (cases_eq l n) [
          | inl same ↦ ≤ℚ_of_eq (ap (λ u. u.length) (same_Some way other (sym e ∙ sym (ap ways same) ∙ f)))
          | inr ne ↦ ≤ℚ_of_lt (<ℚ_of_lt_of_le lt (h.none_shorter l other (omega (arith, l', ne)) f))
        ];
        earlier = λ l other l' f. <ℚ_of_lt_of_le lt (h.none_shorter l other l' f);
      },
    )

pub shortest_some : (n : ℕ) (ways : ℕ → Option Way) (way : Way) → shortest n ways ≡ Some way → (k : ℕ) × IsShortest n ways k way
shortest_some zero ways way e = absurd (none-some way e)
shortest_some (suc n) ways way e =
    shortest_step n ways way (shortest n ways) (shortest_none n ways) (λ v f. shortest_some n ways v f) (shorter_of (shortest n ways) (ways n) way e)

-- ---- what a loop that looks up from 0 has found

-- the first that passes is the least
pub least_is : (n : ℕ) (test : ℕ → Bool) (k : ℕ) → k < n → test k ≡ true → ((l : ℕ) → l < k → test l ≡ false) → least n test ≡ Some k
least_is n test k l passes first = go (least n test) refl
  where
    go : (o : Option ℕ) → least n test ≡ o → o ≡ Some k
    go None e = absurd (true≢false (sym passes ∙ (least_none n test e).fails k l))
    go (Some m) e =
        let h = least_some n test m e in
        elim (cases_lt m k) [
          | inl lt ↦ absurd (true≢false (sym h.passes ∙ first m lt))
          | inr ge ↦ elim (cases_eq m k) [
            | inl same ↦ ap Some same
            | inr ne ↦ absurd (true≢false (sym passes ∙ h.first k (omega (arith, ge, ne))))
          ]
        ]

-- where none passes there is none
pub none_is : (n : ℕ) (test : ℕ → Bool) → ((l : ℕ) → l < n → test l ≡ false) → least n test ≡ None
none_is n test fails = go (least n test) refl
  where
    go : (o : Option ℕ) → least n test ≡ o → o ≡ None
    go None e = refl
    go (Some m) e = let h = least_some n test m e in absurd (true≢false (sym h.passes ∙ fails m h.below))

-- the first way that is out of range is that of all
pub wide_found : (d : Dictionary) (j n k : ℕ) (move : Move) → k < n → first_wide_way d j k ≡ None → wide_way d j (way_of d j k) ≡ Some move → first_wide_way d j n ≡ Some move
wide_found d j zero k move l none here = absurd (omega (arith, l))
wide_found d j (suc n) k move l none here =
    elim (cases_eq k n) [
      | inl same ↦
          (ap (λ o. first_of o (wide_way d j (way_of d j n))) (ap (first_wide_way d j) (sym same) ∙ none)
          ∙ ap (λ u. wide_way d j (way_of d j u)) (sym same) ∙ here)
      | inr ne ↦ ap (λ o. first_of o (wide_way d j (way_of d j n))) (wide_found d j n k move (omega (arith, l, ne)) none here)
    ]
