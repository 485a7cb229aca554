-- Lists that are changed from their front on.
use Rattle.std.proofs.Common.{◌≡◌, ℕ, zero, suc, ◌+◌, ◌<◌, ◌≤◌, List, [], ◌∷◌, map, length, get_or, set, refl, ap, ◌∙◌, arith}

-- a list with its first n elements mapped
abbrev pub first_mapped : {X : Type 0} → (X → X) → ℕ → List X → List X
first_mapped f zero xs = xs
first_mapped f (suc n) [] = []
first_mapped f (suc n) (x ∷ xs) = f x ∷ first_mapped f n xs

pub mapped_long : {X : Type 0} (f : X → X) (n : ℕ) (xs : List X) → length (first_mapped f n xs) ≡ length xs
mapped_long f zero xs = refl
mapped_long f (suc n) [] = refl
mapped_long f (suc n) (x ∷ xs) = omega (arith, mapped_long f n xs)

pub mapped_at : {X : Type 0} (f : X → X) (n : ℕ) (xs : List X) (d : X) → get_or (first_mapped f n xs) n d ≡ get_or xs n d
mapped_at f zero xs d = refl
mapped_at f (suc n) [] d = refl
mapped_at f (suc n) (x ∷ xs) d = mapped_at f n xs d

pub mapped_next : {X : Type 0} (f : X → X) (n : ℕ) (xs : List X) (d : X) → n < length xs → set (first_mapped f n xs) n (f (get_or xs n d)) ≡ first_mapped f (suc n) xs
mapped_next f zero [] d l = absurd (omega (arith, l))
mapped_next f zero (x ∷ xs) d l = refl
mapped_next f (suc n) [] d l = absurd (omega (arith, l))
mapped_next f (suc n) (x ∷ xs) d l = ap (λ t. f x ∷ t) (mapped_next f n xs d (omega (arith, l)))

pub mapped_all : {X : Type 0} (f : X → X) (n : ℕ) (xs : List X) → length xs ≤ n → first_mapped f n xs ≡ map f xs
mapped_all f zero [] l = refl
mapped_all f zero (x ∷ xs) l = absurd (omega (arith, l))
mapped_all f (suc n) [] l = refl
mapped_all f (suc n) (x ∷ xs) l = ap (λ t. f x ∷ t) (mapped_all f n xs (omega (arith, l)))

-- one function after another
pub map_map : {X Y Z : Type 0} (f : Y → Z) (g : X → Y) (xs : List X) → map f (map g xs) ≡ map (λ x. f (g x)) xs
map_map f g [] = refl
map_map f g (x ∷ xs) = ap (λ t. f (g x) ∷ t) (map_map f g xs)

-- one more element is mapped
pub one_more : {X : Type 0} (f : X → X) (n : ℕ) (xs now : List X) (r x : X) → now ≡ first_mapped f n xs → r ≡ f x → x ≡ get_or now n x → n < length now → set now n r ≡ first_mapped f (n + 1) xs
one_more f n xs now r x e p q l =
    let was : x ≡ get_or xs n x = q ∙ ap (λ t. get_or t n x) e ∙ mapped_at f n xs x in
    ap (λ t. set t n r) e ∙ ap (set (first_mapped f n xs) n) (p ∙ ap f was)
    ∙ mapped_next f n xs x (omega (arith, l, ap length e, mapped_long f n xs))
    ∙ ap (λ k. first_mapped f k xs) (let s : suc n ≡ n + 1 = omega arith in s)

pub all_mapped : {X : Type 0} (f : X → X) (n : ℕ) (xs now : List X) → now ≡ first_mapped f n xs → length now ≤ n → now ≡ map f xs
all_mapped f n xs now e l = e ∙ mapped_all f n xs (omega (arith, l, ap length e, mapped_long f n xs))
