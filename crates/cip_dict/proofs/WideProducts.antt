-- Products and sums of small whole numbers, as they are formed in 128 bits.
use Rattle.std.proofs.Common.{◌≡◌, ℕ, zero, suc, ◌+◌, ◌*◌, ◌/◌, ◌%◌, ◌-◌, ◌<◌, ◌^◌, ℤ, pos, negsuc, ◌+ℤ◌, ◌*ℤ◌, FitsSigned, to_z, of_z, Bool, cond, sym, ap, ◌∙◌, arith, div-add-mod'}
use Rattle.std.specs.Int.{w64, w128}
use Rattle.std.proofs.lemmas.Int.{ints, unsigned_abs-mul, fits_signed_from_abs}
use Rattle.std.proofs.lemmas.Nat.{mul-le}
use Rattle.cip_rational.specs.Range.{magnitude}
use Rattle.cip_dict.proofs.WholeParts.{read_small}

pub read_wide : (z : ℤ) → magnitude z < 2 ^ 127 → to_z w128 (of_z w128 z) ≡ z
read_wide z h = omega (arith, ints, h)

-- 64 bits, widened
pub widened : (z : ℤ) → magnitude z < 2 ^ 42 → to_z w128 (of_z w128 (to_z w64 (of_z w64 z))) ≡ z
widened z h = ap (λ x. to_z w128 (of_z w128 x)) (read_small z h) ∙ read_wide z (omega (arith, h))

-- how far a number that fits 64 bits is from 0
pub word_size : (z : ℤ) → FitsSigned w64 z → magnitude z < 2 ^ 64
word_size (pos n) f = omega (arith, f.sfits)
word_size (negsuc n) f = omega (arith, f.sfits)

pub product_size : (a c : ℤ) → magnitude a < 2 ^ 42 → magnitude c < 2 ^ 42 → magnitude (a *ℤ c) < 2 ^ 84
product_size a c p q = let l = mul-le (magnitude a) (magnitude c) (2 ^ 42 - 1) (2 ^ 42 - 1) (omega (arith, p)) (omega (arith, q)) in omega (arith, l, unsigned_abs-mul a c)

pub product_fits : (a c : ℤ) → magnitude a < 2 ^ 42 → magnitude c < 2 ^ 42 → FitsSigned w128 (a *ℤ c)
product_fits a c p q = let s = product_size a c p q in fits_signed_from_abs w128 (a *ℤ c) (omega (arith, s))

pub product_is : (a c : ℤ) → magnitude a < 2 ^ 42 → magnitude c < 2 ^ 42 → to_z w128 (of_z w128 (a *ℤ c)) ≡ a *ℤ c
product_is a c p q = let s = product_size a c p q in read_wide (a *ℤ c) (omega (arith, s))

-- a number that is put, by what is equal
pub number_as : (same absent : Bool) (f : ℕ) (x n n' y y' z : ℤ) → n' ≡ n → y' ≡ y → z ≡ cond same (x *ℤ y') (cond absent (pos 0) (n' *ℤ pos f +ℤ x *ℤ y')) → z ≡ cond same (x *ℤ y) (cond absent (pos 0) (n *ℤ pos f +ℤ x *ℤ y))
number_as same absent f x n n' y y' z en ey h = rw (sym en, sym ey) h

-- ---- parts of a denominator

pub part_is : (b g : ℕ) → b % g ≡ 0 → b ≡ g * (b / g)
part_is b g e = let s = div-add-mod' b g in omega (arith, s, e)

pub part_some : (b g q : ℕ) → 0 < b → b ≡ g * q → 0 < q
part_some b g zero h e = absurd (omega (arith, h, e))
part_some b g (suc q) h e = omega arith

pub part_below : (b g q n : ℕ) → 0 < g → b ≡ g * q → b < n → q < n
part_below b zero q n h e l = absurd (omega (arith, h))
part_below b (suc g) q n h e l = let s : b ≡ q + g * q = omega (arith, e) in omega (arith, s, l)
