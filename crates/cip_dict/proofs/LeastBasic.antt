-- The least number that passes a test, by a loop upwards.
use Rattle.std.proofs.Common.{◌≡◌, ℕ, zero, suc, ◌+◌, ◌<◌, Bool, true, false, cond, None, Some, refl, ap, inl, inr, arith, add-one}
use Rattle.std.proofs.lemmas.Bool.{cases_eq}
use Rattle.cip_bland.specs.Tables.{least, first_of}

pub least_more : (n : ℕ) (test : ℕ → Bool) → least n test ≡ None → test n ≡ false → least (n + 1) test ≡ None
least_more n test h e = rw (add-one, h, e) refl

pub least_at : (n k : ℕ) (test : ℕ → Bool) → k < n → least k test ≡ None → test k ≡ true → least n test ≡ Some k
least_at zero k test l h e = absurd (omega (arith, l))
least_at (suc n) k test l h e =
    elim (cases_eq k n) [
      | inl same ↦ (let h' : least n test ≡ None = rw same at h in
          let e' : test n ≡ true = rw same at e in
          rw (h', e', same) refl)
      | inr other ↦ ap (λ o. first_of o (cond (test n) (Some n) None)) (least_at n k test (omega (arith, l, other)) h e)
    ]
