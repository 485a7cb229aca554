-- Sums that fit 64 bits, and their division where they stand.
use Rattle.std.proofs.Common.{◌≡◌, ℕ, zero, suc, ◌*◌, ◌<◌, ◌^◌, false, ℤ, pos, negsuc, ◌*ℤ◌, int_lt, int_le, List, [], ◌∷◌, length, get_or, set, refl, sym, ap, ap₂, ◌∙◌, subst, arith}
use Rattle.std.proofs.lemmas.Int.{ints}
use Rattle.cip_rational.specs.Rational.{ℚ, ratio}
use Rattle.cip_rational.specs.Range.{magnitude}
use Rattle.cip_dict.specs.SparseLines.{Kept}
use Rattle.cip_dict.specs.WholeLines.{Whole, over, AreBelow}
use Rattle.cip_dict.proofs.WholeLines.{whole_lines_tell}

-- the first p numbers of a list have been divided by g, which leaves them below 2^42
abbrev pub IsDivided : ℕ → ℕ → List Whole → List Whole → Type 0
IsDivided g zero now old = now ≡ old
IsDivided g (suc p) [] [] = Unit {0}
IsDivided g (suc p) [] (b ∷ bs) = ⊥
IsDivided g (suc p) (a ∷ ns) [] = ⊥
IsDivided g (suc p) (a ∷ ns) (b ∷ bs) = (a.0 ≡ b.0) × (b.1 ≡ a.1 *ℤ pos g) × (magnitude a.1 < 2 ^ 42) × IsDivided g p ns bs

pub divided_next : (g p : ℕ) (now old : List Whole) (d : Whole) → IsDivided g p now old → get_or now p d ≡ get_or old p d
divided_next g zero now old d h = ap (λ es. get_or es 0 d) h
divided_next g (suc p) [] [] d h = refl
divided_next g (suc p) [] (b ∷ bs) d h = absurd h
divided_next g (suc p) (a ∷ ns) [] d h = absurd h
divided_next g (suc p) (a ∷ ns) (b ∷ bs) d h = divided_next g p ns bs d h.3

pub divided_over : (g p : ℕ) (now old : List Whole) → 0 < g → length old ≡ p → IsDivided g p now old → (d : ℕ) → 0 < d → over d now ≡ over (d * g) old
divided_over g zero [] [] hg l h d hd = refl
divided_over g zero (a ∷ ns) [] hg l h d hd = absurd (omega (arith, ap length h))
divided_over g zero now (b ∷ bs) hg l h d hd = absurd (omega (arith, l))
divided_over g (suc p) [] [] hg l h d hd = refl
divided_over g (suc p) [] (b ∷ bs) hg l h d hd = absurd h
divided_over g (suc p) (a ∷ ns) [] hg l h d hd = absurd h
divided_over g (suc p) (a ∷ ns) (b ∷ bs) hg l h d hd =
    let number : ratio a.1 d ≡ ratio b.1 (d * g) = sym (whole_lines_tell.divided a.1 d g hd hg) ∙ ap (λ t. ratio t (d * g)) (sym h.1) in
    let first : ◌≡◌ {A = Kept} (a.0, ratio a.1 d) (b.0, ratio b.1 (d * g)) = ap₂ (λ (k : ℕ) (q : ℚ). (k, q)) h.0 number in
    let rest : over d ns ≡ over (d * g) bs = divided_over g p ns bs hg (omega (arith, l)) h.3 d hd in
    ap₂ (λ (e : Kept) (es : List Kept). e ∷ es) first rest

pub divided_small : (g p : ℕ) (now old : List Whole) → length old ≡ p → IsDivided g p now old → AreBelow (2 ^ 42) now
divided_small g zero [] old l h = tt
divided_small g zero (a ∷ ns) old l h = absurd (omega (arith, l, ap length h))
divided_small g (suc p) [] old l h = tt
divided_small g (suc p) (a ∷ ns) [] l h = absurd h
divided_small g (suc p) (a ∷ ns) (b ∷ bs) l h = (h.2, divided_small g p ns bs (omega (arith, l)) h.3)

pub divided_step : (g p : ℕ) (now old : List Whole) (w : ℤ) → p < length old → IsDivided g p now old → (get_or old p (0, pos 0)).1 ≡ w *ℤ pos g → magnitude w < 2 ^ 42 → IsDivided g (suc p) (set now p ((get_or now p (0, pos 0)).0, w)) old
divided_step g zero now [] w l h e s = absurd (omega (arith, l))
divided_step g zero now (b ∷ bs) w l h e s =
    subst (λ (es : List Whole). IsDivided g 1 (set es 0 ((get_or es 0 (0, pos 0)).0, w)) (b ∷ bs)) (sym h) (refl, e, s, refl)
divided_step g (suc p) now [] w l h e s = absurd (omega (arith, l))
divided_step g (suc p) [] (b ∷ bs) w l h e s = absurd h
divided_step g (suc p) (a ∷ ns) (b ∷ bs) w l h e s = (h.0, h.1, h.2, divided_step g p ns bs w (omega (arith, l)) h.3 e s)

-- what two tests tell of a number
pub near_by_tests : (z : ℤ) → int_le z (negsuc 9223372036854775807) ≡ false → int_lt (pos 9223372036854775807) z ≡ false → magnitude z < 2 ^ 63
near_by_tests z low high = omega (arith, ints, low, high)
