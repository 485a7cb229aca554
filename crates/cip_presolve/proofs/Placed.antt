-- Values put at the places of the columns that take one.
use Rattle.std.proofs.Common.{◌≡◌, ℕ, zero, suc, ◌+◌, ◌<◌, ◌≤◌, Bool, true, false, List, [], ◌∷◌, ◌++◌, length, drop, Option, None, Some, refl, sym, ap, ◌∙◌, arith, add-one, append_assoc, append-nil}
use Rattle.std.specs.Prelude.{map, is_none, is_some, not}
use Rattle.std.proofs.Math.ListN.{get_or}
use Rattle.cip_rational.specs.Rational.{ℚ, zeroℚ}
use Rattle.cip_presolve.specs.Forms.{Form, placed, gathered}
use Rattle.cip_presolve.specs.WholeParts.{with_wholes}
use Rattle.cip_presolve.specs.Places.{later_values, value_taken, values_behind, is_whole_left, later_flags, whole_and_left}

pub next_of : {X : Type 0} (xs : List X) (k : ℕ) (x d : X) → k < length xs → get_or xs k d ≡ x → drop k xs ≡ x ∷ drop (suc k) xs
next_of [] k x d l e = absurd (omega (arith, l))
next_of (y ∷ xs) zero x d l e = ap (λ t. t ∷ xs) e
next_of (y ∷ xs) (suc k) x d l e = next_of xs k x d (omega (arith, l)) e

pub none_next : {X : Type 0} (xs : List X) (k : ℕ) → length xs ≤ k → drop k xs ≡ []
none_next [] zero l = refl
none_next [] (suc k) l = refl
none_next (x ∷ xs) zero l = absurd (omega (arith, l))
none_next (x ∷ xs) (suc k) l = none_next xs k (omega (arith, l))

-- ---- flags

-- the test that tells that there is none
pub not_some : (o : Option Form) (r : Bool) → is_some o ≡ not r → r ≡ is_none o
not_some None true e = refl
not_some None false e = e
not_some (Some x) true e = e
not_some (Some x) false e = refl

pub one_left : (forms : List (Option Form)) (left new all : List Bool) (k : ℕ) (o d : Option Form) → k < length forms → get_or forms k d ≡ o → left ++ map is_none (drop k forms) ≡ all → new ≡ left ++ is_none o ∷ [] → new ++ map is_none (drop (k + 1) forms) ≡ all
one_left forms left new all k o d l g h e =
    rw add-one
    (ap (λ t. t ++ map is_none (drop (suc k) forms)) e
    ∙ append_assoc left (is_none o ∷ []) (map is_none (drop (suc k) forms))
    ∙ ap (λ fs. left ++ map is_none fs) (sym (next_of forms k o d l g)) ∙ h)

pub all_left : (forms : List (Option Form)) (left all : List Bool) (k : ℕ) → length forms ≤ k → left ++ map is_none (drop k forms) ≡ all → left ≡ all
all_left forms left all k l h = sym (append-nil left) ∙ ap (λ fs. left ++ map is_none fs) (sym (none_next forms k l)) ∙ h

later_drop : (k : ℕ) (whole : List Bool) → drop (suc k) whole ≡ later_flags (drop k whole)
later_drop zero [] = refl
later_drop zero (w ∷ whole) = refl
later_drop (suc k) [] = refl
later_drop (suc k) (w ∷ whole) = later_drop k whole

pub one_flagged : (forms : List (Option Form)) (whole left new all : List Bool) (k : ℕ) (o d : Option Form) → k < length forms → get_or forms k d ≡ o → left ++ whole_and_left (drop k forms) (drop k whole) ≡ all → new ≡ left ++ is_whole_left o (drop k whole) ∷ [] → new ++ whole_and_left (drop (k + 1) forms) (drop (k + 1) whole) ≡ all
one_flagged forms whole left new all k o d l g h e =
    let n : drop k forms ≡ o ∷ drop (suc k) forms = next_of forms k o d l g in
    rw add-one
    (ap (λ t. t ++ whole_and_left (drop (suc k) forms) (drop (suc k) whole)) e
    ∙ append_assoc left (is_whole_left o (drop k whole) ∷ []) (whole_and_left (drop (suc k) forms) (drop (suc k) whole))
    ∙ ap (λ t. left ++ (is_whole_left o (drop k whole) ∷ whole_and_left (drop (suc k) forms) t)) (later_drop k whole)
    ∙ ap (λ fs. left ++ whole_and_left fs (drop k whole)) (sym n) ∙ h)

pub all_flagged : (forms : List (Option Form)) (whole left all : List Bool) (k : ℕ) → length forms ≤ k → left ++ whole_and_left (drop k forms) (drop k whole) ≡ all → left ≡ all
all_flagged forms whole left all k l h =
    sym (append-nil left) ∙ ap (λ fs. left ++ whole_and_left fs (drop k whole)) (sym (none_next forms k l)) ∙ h

pub ruleset flagging = (one_flagged, all_flagged)

-- ---- values

pub drop_later : (n : ℕ) (values : List ℚ) → drop (n + 1) values ≡ later_values (drop n values)
drop_later n values = rw add-one (later n values)
  where
    later : (n : ℕ) (values : List ℚ) → drop (suc n) values ≡ later_values (drop n values)
    later zero [] = refl
    later zero (v ∷ values) = refl
    later (suc n) [] = refl
    later (suc n) (v ∷ values) = later n values

one_taken : (taken : Bool) (takes : List Bool) (values : List ℚ) → with_wholes (taken ∷ takes) values ≡ value_taken taken values ∷ with_wholes takes (values_behind taken values)
one_taken true takes [] = refl
one_taken true takes (v ∷ values) = refl
one_taken false takes values = refl

pub one_placed : (takes : List Bool) (values point new all : List ℚ) (k at after : ℕ) (t d : Bool) → k < length takes → get_or takes k d ≡ t → point ++ with_wholes (drop k takes) (drop at values) ≡ all → new ≡ point ++ value_taken t (drop at values) ∷ [] → drop after values ≡ values_behind t (drop at values) → new ++ with_wholes (drop (k + 1) takes) (drop after values) ≡ all
one_placed takes values point new all k at after t d l g h e f =
    let n : drop k takes ≡ t ∷ drop (suc k) takes = next_of takes k t d l g in
    rw add-one
    (ap (λ s. s ++ with_wholes (drop (suc k) takes) (drop after values)) e
    ∙ append_assoc point (value_taken t (drop at values) ∷ []) (with_wholes (drop (suc k) takes) (drop after values))
    ∙ ap (λ s. point ++ (value_taken t (drop at values) ∷ with_wholes (drop (suc k) takes) s)) f
    ∙ ap (λ s. point ++ s) (sym (one_taken t (drop (suc k) takes) (drop at values)))
    ∙ ap (λ ts. point ++ with_wholes ts (drop at values)) (sym n) ∙ h)

pub all_placed : (takes : List Bool) (values point all : List ℚ) (k at : ℕ) → length takes ≤ k → point ++ with_wholes (drop k takes) (drop at values) ≡ all → point ≡ all
all_placed takes values point all k at l h =
    sym (append-nil point) ∙ ap (λ ts. point ++ with_wholes ts (drop at values)) (sym (none_next takes k l)) ∙ h

-- the places of the values don't pass those of the columns
pub few_behind : (at column behind : ℕ) → at ≤ column → behind ≤ at + 1 → behind ≤ column + 1
few_behind at column behind h l = omega (arith, h, l)

pub ruleset placing = (one_placed, all_placed)

-- ---- what is placed

pub left_placed : (forms : List (Option Form)) (values : List ℚ) → with_wholes (map is_none forms) values ≡ placed forms values
left_placed [] values = refl
left_placed (None ∷ forms) [] = ap (λ t. zeroℚ ∷ t) (left_placed forms [])
left_placed (None ∷ forms) (v ∷ values) = ap (λ t. v ∷ t) (left_placed forms values)
left_placed (Some f ∷ forms) values = ap (λ t. zeroℚ ∷ t) (left_placed forms values)

none_whole : (forms : List (Option Form)) (wholes : List ℚ) → with_wholes (whole_and_left forms []) wholes ≡ placed forms []
none_whole [] wholes = refl
none_whole (None ∷ forms) wholes = ap (λ t. zeroℚ ∷ t) (none_whole forms wholes)
none_whole (Some f ∷ forms) wholes = ap (λ t. zeroℚ ∷ t) (none_whole forms wholes)

pub wholes_placed : (forms : List (Option Form)) (whole : List Bool) (wholes : List ℚ) → with_wholes (whole_and_left forms whole) wholes ≡ placed forms (with_wholes (gathered forms whole) wholes)
wholes_placed [] whole wholes = refl
wholes_placed (None ∷ forms) [] wholes = ap (λ t. zeroℚ ∷ t) (none_whole forms wholes)
wholes_placed (Some f ∷ forms) [] wholes = ap (λ t. zeroℚ ∷ t) (none_whole forms wholes)
wholes_placed (None ∷ forms) (true ∷ whole) [] = ap (λ t. zeroℚ ∷ t) (wholes_placed forms whole [])
wholes_placed (None ∷ forms) (true ∷ whole) (v ∷ wholes) = ap (λ t. v ∷ t) (wholes_placed forms whole wholes)
wholes_placed (None ∷ forms) (false ∷ whole) wholes = ap (λ t. zeroℚ ∷ t) (wholes_placed forms whole wholes)
wholes_placed (Some f ∷ forms) (w ∷ whole) wholes = ap (λ t. zeroℚ ∷ t) (wholes_placed forms whole wholes)
