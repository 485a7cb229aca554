-- Lemmas on `Sums`.
use Rattle.std.proofs.Common.{◌≡◌, List, [], ◌∷◌, ◌++◌, length, refl, sym, ap, ap₂, ◌∙◌, subst, arith}
use Rattle.std.specs.List.{AllByRecursion}
use Rattle.cip_rational.specs.Rational.{ℚ, integer, floor, IsWhole, ◌+ℚ◌, ◌*ℚ◌, zeroℚ, ◌≤ℚ◌}
use Rattle.cip_rational.proofs.Rational.Ring.{+ℚ-zero, zero-+ℚ, +ℚ_assoc, *ℚ_comm, *ℚ_assoc, *ℚ-add, add-*ℚ, *ℚ-zero}
use Rattle.cip_rational.proofs.Rational.Order.{≤ℚ_refl}
use Rattle.cip_rational.proofs.Rational.Monotone.{+ℚ_mono, *ℚ_mono, *ℚ_nonneg}
use Rattle.cip_rational.proofs.Rational.Whole.{IsWhole-zero, IsWhole-add, IsWhole-mul}
use Rattle.cip_rational.proofs.Rational.Rounding.{whole_le_floor}
use Rattle.cip_rational.proofs.Linear.{linear_le, linear_same}
use Rattle.cip_rational.specs.Sums.{dot, scale_list, add_lists, combine, products_of, AllNonneg, AllAtMost}

-- the sum of the entries
abbrev pub sum_of : List ℚ → ℚ
sum_of [] = zeroℚ
sum_of (x ∷ xs) = x +ℚ sum_of xs

-- ---- sums

pub sum_of-append : (xs ys : List ℚ) → sum_of (xs ++ ys) ≡ sum_of xs +ℚ sum_of ys
sum_of-append [] ys = sym (zero-+ℚ (sum_of ys))
sum_of-append (x ∷ xs) ys = ap (λ t. x +ℚ t) (sum_of-append xs ys) ∙ sym (+ℚ_assoc x (sum_of xs) (sum_of ys))

pub sum_of-push : (xs : List ℚ) (x : ℚ) → sum_of (xs ++ x ∷ []) ≡ sum_of xs +ℚ x
sum_of-push xs x = sum_of-append xs (x ∷ []) ∙ ap (λ t. sum_of xs +ℚ t) (+ℚ-zero x)

pub sum_of-scale : (c : ℚ) (xs : List ℚ) → sum_of (scale_list c xs) ≡ c *ℚ sum_of xs
sum_of-scale c [] = sym (*ℚ-zero c)
sum_of-scale c (x ∷ xs) = ap (λ t. c *ℚ x +ℚ t) (sum_of-scale c xs) ∙ sym (*ℚ-add c x (sum_of xs))

pub sum_of-add : (xs ys : List ℚ) → sum_of (add_lists xs ys) ≡ sum_of xs +ℚ sum_of ys
sum_of-add [] ys = sym (zero-+ℚ (sum_of ys))
sum_of-add (x ∷ xs) [] = sym (+ℚ-zero (x +ℚ sum_of xs))
sum_of-add (x ∷ xs) (y ∷ ys) =
    ap (λ t. x +ℚ y +ℚ t) (sum_of-add xs ys) ∙ linear_same (x ∷ y ∷ sum_of xs ∷ sum_of ys ∷ []) (λ s w. omega arith)

pub sum_of_nonneg : (xs : List ℚ) → AllNonneg xs → zeroℚ ≤ℚ sum_of xs
sum_of_nonneg [] h = ≤ℚ_refl zeroℚ
sum_of_nonneg (x ∷ xs) h = let k = sum_of_nonneg xs h.1 in linear_le (x ∷ sum_of xs ∷ []) (λ s w. omega (arith, s.le_out x, s.le_out))

pub sum_of_mono : (xs ys : List ℚ) → AllAtMost xs ys → sum_of xs ≤ℚ sum_of ys
sum_of_mono [] [] h = ≤ℚ_refl zeroℚ
sum_of_mono [] (y ∷ ys) h = absurd h
sum_of_mono (x ∷ xs) [] h = absurd h
sum_of_mono (x ∷ xs) (y ∷ ys) h = +ℚ_mono h.0 (sum_of_mono xs ys h.1)

-- ---- dot products

pub dot-nil : (xs : List ℚ) → dot xs [] ≡ zeroℚ
dot-nil [] = refl
dot-nil (x ∷ xs) = refl

pub dot_comm : (xs ys : List ℚ) → dot xs ys ≡ dot ys xs
dot_comm [] ys = sym (dot-nil ys)
dot_comm (x ∷ xs) [] = refl
dot_comm (x ∷ xs) (y ∷ ys) = ap₂ (λ s t. s +ℚ t) (*ℚ_comm x y) (dot_comm xs ys)

pub dot-append : (xs us ys vs : List ℚ) → length xs ≡ length us → dot (xs ++ ys) (us ++ vs) ≡ dot xs us +ℚ dot ys vs
dot-append [] [] ys vs e = sym (zero-+ℚ (dot ys vs))
dot-append [] (u ∷ us) ys vs e = absurd (omega (arith, e))
dot-append (x ∷ xs) [] ys vs e = absurd (omega (arith, e))
dot-append (x ∷ xs) (u ∷ us) ys vs e =
    ap (λ t. x *ℚ u +ℚ t) (dot-append xs us ys vs (omega (arith, e))) ∙ sym (+ℚ_assoc (x *ℚ u) (dot xs us) (dot ys vs))

pub dot-push : (xs us : List ℚ) (x u : ℚ) → length xs ≡ length us → dot (xs ++ x ∷ []) (us ++ u ∷ []) ≡ dot xs us +ℚ x *ℚ u
dot-push xs us x u e = dot-append xs us (x ∷ []) (u ∷ []) e ∙ ap (λ t. dot xs us +ℚ t) (+ℚ-zero (x *ℚ u))

pub dot-scale_left : (c : ℚ) (xs ys : List ℚ) → dot (scale_list c xs) ys ≡ c *ℚ dot xs ys
dot-scale_left c [] ys = sym (*ℚ-zero c)
dot-scale_left c (x ∷ xs) [] = sym (*ℚ-zero c)
dot-scale_left c (x ∷ xs) (y ∷ ys) =
    ap₂ (λ s t. s +ℚ t) (*ℚ_assoc c x y) (dot-scale_left c xs ys) ∙ sym (*ℚ-add c (x *ℚ y) (dot xs ys))

pub dot-scale_right : (c : ℚ) (xs ys : List ℚ) → dot xs (scale_list c ys) ≡ c *ℚ dot xs ys
dot-scale_right c xs ys = dot_comm xs (scale_list c ys) ∙ dot-scale_left c ys xs ∙ ap (λ t. c *ℚ t) (dot_comm ys xs)

pub dot-add_left : (xs ys zs : List ℚ) → dot (add_lists xs ys) zs ≡ dot xs zs +ℚ dot ys zs
dot-add_left [] ys zs = sym (zero-+ℚ (dot ys zs))
dot-add_left (x ∷ xs) [] zs = sym (+ℚ-zero (dot (x ∷ xs) zs))
dot-add_left (x ∷ xs) (y ∷ ys) [] = sym (+ℚ-zero zeroℚ)
dot-add_left (x ∷ xs) (y ∷ ys) (z ∷ zs) =
    ap₂ (λ s t. s +ℚ t) (add-*ℚ x y z) (dot-add_left xs ys zs) ∙ linear_same ((x *ℚ z) ∷ (y *ℚ z) ∷ dot xs zs ∷ dot ys zs ∷ []) (λ s w. omega arith)

pub dot-add_right : (xs ys zs : List ℚ) → dot xs (add_lists ys zs) ≡ dot xs ys +ℚ dot xs zs
dot-add_right xs ys zs = dot_comm xs (add_lists ys zs) ∙ dot-add_left ys zs xs ∙ ap₂ (λ s t. s +ℚ t) (dot_comm ys xs) (dot_comm zs xs)

pub dot_nonneg : (xs ys : List ℚ) → AllNonneg xs → AllNonneg ys → zeroℚ ≤ℚ dot xs ys
dot_nonneg [] ys h k = ≤ℚ_refl zeroℚ
dot_nonneg (x ∷ xs) [] h k = ≤ℚ_refl zeroℚ
dot_nonneg (x ∷ xs) (y ∷ ys) h k = subst (λ t. t ≤ℚ x *ℚ y +ℚ dot xs ys) (+ℚ-zero zeroℚ) (+ℚ_mono (*ℚ_nonneg h.0 k.0) (dot_nonneg xs ys h.1 k.1))

-- numbers that are not negative keep bounds
pub dot_mono : (xs ys zs : List ℚ) → AllNonneg xs → AllAtMost ys zs → dot xs ys ≤ℚ dot xs zs
dot_mono [] ys zs h k = ≤ℚ_refl zeroℚ
dot_mono (x ∷ xs) [] [] h k = ≤ℚ_refl zeroℚ
dot_mono (x ∷ xs) [] (z ∷ zs) h k = absurd k
dot_mono (x ∷ xs) (y ∷ ys) [] h k = absurd k
dot_mono (x ∷ xs) (y ∷ ys) (z ∷ zs) h k = +ℚ_mono (*ℚ_mono y z x h.0 k.0) (dot_mono xs ys zs h.1 k.1)

-- ---- combinations of rows

pub dot-combine : (ys : List ℚ) (rows : List (List ℚ)) (x : List ℚ) → dot (combine ys rows) x ≡ dot ys (products_of rows x)
dot-combine [] rows x = refl
dot-combine (y ∷ ys) [] x = refl
dot-combine (y ∷ ys) (row ∷ rows) x =
    dot-add_left (scale_list y row) (combine ys rows) x ∙ ap₂ (λ s t. s +ℚ t) (dot-scale_left y row x) (dot-combine ys rows x)

pub combine_holds : (ys : List ℚ) (rows : List (List ℚ)) (bounds x : List ℚ) → AllNonneg ys → AllAtMost (products_of rows x) bounds → dot (combine ys rows) x ≤ℚ dot ys bounds
combine_holds ys rows bounds x h k = rw (dot-combine ys rows x) (dot_mono ys (products_of rows x) bounds h k)

-- ---- whole numbers

-- each entry is whole
abbrev pub AllAreWhole : List ℚ → Type 0
AllAreWhole xs = AllByRecursion IsWhole xs

pub sum_of_whole : (xs : List ℚ) → AllAreWhole xs → IsWhole (sum_of xs)
sum_of_whole [] h = IsWhole-zero
sum_of_whole (x ∷ xs) h = IsWhole-add x (sum_of xs) h.0 (sum_of_whole xs h.1)

pub dot_whole : (xs ys : List ℚ) → AllAreWhole xs → AllAreWhole ys → IsWhole (dot xs ys)
dot_whole [] ys h k = IsWhole-zero
dot_whole (x ∷ xs) [] h k = IsWhole-zero
dot_whole (x ∷ xs) (y ∷ ys) h k = IsWhole-add (x *ℚ y) (dot xs ys) (IsWhole-mul x y h.0 k.0) (dot_whole xs ys h.1 k.1)

-- a row of whole numbers times whole numbers, where it is at most a bound, is at most the bound rounded down
pub rounded_row : (row x : List ℚ) (b : ℚ) → AllAreWhole row → AllAreWhole x → dot row x ≤ℚ b → dot row x ≤ℚ integer (floor b)
rounded_row row x b h k l = whole_le_floor (dot row x) b (dot_whole row x h k) l
