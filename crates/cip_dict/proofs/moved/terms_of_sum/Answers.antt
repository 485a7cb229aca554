use Rattle.std.proofs.Common.{◌≡◌, ◌<◌, ◌-◌, ◌^◌, ◌*◌, pos, ◌+ℤ◌, ◌*ℤ◌, to_z, of_z, ap₂, refl, arith}
use Rattle.std.specs.Int.{w64}
use Rattle.std.proofs.lemmas.Nat.{mul-le}
use Rattle.std.proofs.lemmas.Int.{ints, fits_signed_from_abs, to_z_pos}
use Rattle.cip_rational.specs.Range.{magnitude}
use Rattle.cip_dict.proofs.Added.{read_word, short_size, sum_size, sum_read, sum_fits_word}
use Rattle.cip_dict.proofs.moved.terms_of_sum.Goals as goal

pub overflow_cast-under : goal.overflow_cast-under
overflow_cast-under c =
    let l = mul-le c.args.below c.args.d (2 ^ 20 - 1) (2 ^ 20 - 1) (omega (arith, c.requires.entry_below)) (omega (arith, c.requires.factor_below)) in
    let short : c.args.below * c.args.d < 2 ^ 40 = omega (arith, l) in
    omega (arith, ints, short)

pub long_product-first-requires-clause-first : goal.long_product-first-requires-clause-first
long_product-first-requires-clause-first c =
    let l = mul-le c.args.below c.args.d (2 ^ 20 - 1) (2 ^ 20 - 1) (omega (arith, c.requires.entry_below)) (omega (arith, c.requires.factor_below)) in
    let short : c.args.below * c.args.d < 2 ^ 40 = omega (arith, l) in
    omega (arith, ints, short)

pub long_product-first-requires-clause-second : goal.long_product-first-requires-clause-second
long_product-first-requires-clause-second c = rw (read_word c.args.a (omega (arith, c.requires.own))) c.requires.own

pub overflow_cast-b : goal.overflow_cast-b
overflow_cast-b c = omega (arith, ints, c.requires.own_below)

pub long_product-second-requires-clause-first : goal.long_product-second-requires-clause-first
long_product-second-requires-clause-first c =
    let n = read_word c.args.n (omega (arith, c.requires.entry)) in
    let f = read_word c.args.c (omega (arith, c.requires.factor)) in
    let product : magnitude (to_z w64 (of_z w64 c.args.n) *ℤ to_z w64 (of_z w64 c.args.c)) < 2 ^ 40 = rw (n, f) (short_size c.args.n c.args.c c.requires.entry c.requires.factor) in
    rw (read_word (to_z w64 (of_z w64 c.args.n) *ℤ to_z w64 (of_z w64 c.args.c)) (omega (arith, product))) product

pub long_product-second-requires-clause-second : goal.long_product-second-requires-clause-second
long_product-second-requires-clause-second c = omega (arith, ints, c.requires.own_below)

pub overflow_add-result : goal.overflow_add-result
overflow_add-result c =
    let a = read_word c.long_product-first.result (omega (arith, c.long_product-first.ensures.short)) in
    let b = read_word c.long_product-second.result (omega (arith, c.long_product-second.ensures.short)) in
    rw (a, b) (sum_fits_word c.long_product-first.result c.long_product-second.result c.long_product-first.ensures.short c.long_product-second.ensures.short)

pub returns-clause-under : goal.returns-clause-under
returns-clause-under c = refl

pub returns-clause-over : goal.returns-clause-over
returns-clause-over c =
    let a = read_word c.long_product-first.result (omega (arith, c.long_product-first.ensures.short)) in
    let b = read_word c.long_product-second.result (omega (arith, c.long_product-second.ensures.short)) in
    let r = sum_read c.long_product-first.result c.long_product-second.result c.long_product-first.ensures.short c.long_product-second.ensures.short in
    let l = mul-le c.args.below c.args.d (2 ^ 20 - 1) (2 ^ 20 - 1) (omega (arith, c.requires.entry_below)) (omega (arith, c.requires.factor_below)) in
    let short : c.args.below * c.args.d < 2 ^ 40 = omega (arith, l) in
    let under : to_z w64 (c.args.below * c.args.d) ≡ pos (c.args.below * c.args.d) = to_z_pos w64 (c.args.below * c.args.d) (omega (arith, short)) in
    let under_b : to_z w64 c.args.b ≡ pos c.args.b = to_z_pos w64 c.args.b (omega (arith, c.requires.own_below)) in
    let own = read_word c.args.a (omega (arith, c.requires.own)) in
    let n = read_word c.args.n (omega (arith, c.requires.entry)) in
    let f = read_word c.args.c (omega (arith, c.requires.factor)) in
    let product : magnitude (to_z w64 (of_z w64 c.args.n) *ℤ to_z w64 (of_z w64 c.args.c)) < 2 ^ 40 = rw (n, f) (short_size c.args.n c.args.c c.requires.entry c.requires.factor) in
    let s = read_word (to_z w64 (of_z w64 c.args.n) *ℤ to_z w64 (of_z w64 c.args.c)) (omega (arith, product)) in
    let first = rw (under, own) at c.long_product-first.ensures.value in
    let second = rw (s, under_b, n, f) at c.long_product-second.ensures.value in
    rw (a, b, r) (ap₂ (λ x y. x +ℤ y) first second)

pub returns-clause-short : goal.returns-clause-short
returns-clause-short c =
    let a = read_word c.long_product-first.result (omega (arith, c.long_product-first.ensures.short)) in
    let b = read_word c.long_product-second.result (omega (arith, c.long_product-second.ensures.short)) in
    let r = sum_read c.long_product-first.result c.long_product-second.result c.long_product-first.ensures.short c.long_product-second.ensures.short in
    rw (a, b, r) (sum_size c.long_product-first.result c.long_product-second.result c.long_product-first.ensures.short c.long_product-second.ensures.short)

pub overflow_mul-under : goal.overflow_mul-under
overflow_mul-under c =
    let l = mul-le c.args.below c.args.d (2 ^ 20 - 1) (2 ^ 20 - 1) (omega (arith, c.requires.entry_below)) (omega (arith, c.requires.factor_below)) in
    let short : c.args.below * c.args.d < 2 ^ 40 = omega (arith, l) in
    omega (arith, short)

pub overflow_mul-result : goal.overflow_mul-result
overflow_mul-result c =
    let l = mul-le c.args.below c.args.d (2 ^ 20 - 1) (2 ^ 20 - 1) (omega (arith, c.requires.entry_below)) (omega (arith, c.requires.factor_below)) in
    let short : c.args.below * c.args.d < 2 ^ 40 = omega (arith, l) in
    let m = mul-le c.args.b (c.args.below * c.args.d) (2 ^ 20 - 1) (2 ^ 40 - 1) (omega (arith, c.requires.own_below)) (omega (arith, short)) in
    omega (arith, m)

pub overflow_mul-n : goal.overflow_mul-n
overflow_mul-n c =
    let n = read_word c.args.n (omega (arith, c.requires.entry)) in
    let f = read_word c.args.c (omega (arith, c.requires.factor)) in
    let product : magnitude (to_z w64 (of_z w64 c.args.n) *ℤ to_z w64 (of_z w64 c.args.c)) < 2 ^ 40 = rw (n, f) (short_size c.args.n c.args.c c.requires.entry c.requires.factor) in
    fits_signed_from_abs w64 (to_z w64 (of_z w64 c.args.n) *ℤ to_z w64 (of_z w64 c.args.c)) (omega (arith, product))
