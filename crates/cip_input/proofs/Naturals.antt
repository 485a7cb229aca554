-- The numbers behind `self`: seeds, and how many columns and rows.
use Rattle.std.specs.Prelude.{◌≡◌, ◌&&◌, ◌||◌, Bool, true, false, ℕ, ◌^◌, ◌<◌, ◌≤◌, List, Option, None, Some, refl, if◌then◌else◌}
use Rattle.std.proofs.Common.{sym, ap, ap₂, ◌∙◌, arith}
use lib.Chars.{codes}
use Rattle.std.specs.Str.{bytes_eq}
use Rattle.std.proofs.lemmas.Slice.Eq.{bytes_eq-Decides}
use Rattle.std.specs.Str.Parse.{IsNumeral, digits_value, without_leading_plus}
use Rattle.std.proofs.lemmas.Option.{same_Some}
use Rattle.std.proofs.lemmas.Bool.{and_from}
use Rattle.clap.specs.Words.{Row, first_of, first_value, rows_of}
use Rattle.clap.specs.declared.parser.matches.Found.{Found}
use Rattle.clap.proofs.WalkLemmas.{both, first_value-rows}
use Rattle.clap.specs.ValueTests.{is_unsigned_in}
use Rattle.clap.specs.Values.{IsUnsignedIn}
use Rattle.clap.specs.declared.builder.value_parser.ValueParser.TheVariants as vp
use Rattle.clap.proofs.ValueTestLemmas.{accepts-Accepts, Accepts-accepts}
use Rattle.cip_input.proofs.Plus.{no_plus}
use Rattle.cip_input.specs.Jobs.{Job, Solve, Check, Generate, AsksForSome, begins_above_zero, begins_plainly, number_up_to, self_behind, self_with, most_seed}
use Rattle.cip_input.specs.Generated.{most_drawn}

-- ---- numbers

-- a text that begins plainly has no `+` in front
plain_or_zero : (text : List ℕ) (zero above : Bool) → bytes_eq text (codes "0") ≡ zero → begins_above_zero text ≡ above → (zero || above) ≡ true → without_leading_plus text ≡ text
plain_or_zero text true above z a e = let same : text ≡ codes "0" = (bytes_eq-Decides text (codes "0")).0 z in ap without_leading_plus same ∙ sym same
plain_or_zero text false above z a e = no_plus text (a ∙ e)

plain_of : (text : List ℕ) → begins_plainly text ≡ true → without_leading_plus text ≡ text
plain_of text e = plain_or_zero text (bytes_eq text (codes "0")) (begins_above_zero text) refl refl e

number_by : (most : ℕ) (same : Bool) (text : List ℕ) → (begins_plainly text && is_unsigned_in 0 most text) ≡ same → number_up_to most (Some text) ≡ (if same then Some (digits_value 10 text) else None)
number_by most same text e = ap (λ (b : Bool). if b then Some (digits_value 10 text) else None) e

-- a number in the range
pub some_number : (most : ℕ) (text : List ℕ) (n : ℕ) → begins_plainly text ≡ true → IsNumeral 10 (without_leading_plus text) → digits_value 10 (without_leading_plus text) < 2 ^ 64 → n ≡ digits_value 10 (without_leading_plus text) → n ≤ most → number_up_to most (Some text) ≡ Some n
some_number most text n plainly numeral fits e high =
    let unsigned = Accepts-accepts false (vp.Unsigned 0 most) text (numeral, fits, omega arith, omega (arith, e, high)) in
    number_by most true text (and_from _ _ plainly unsigned) ∙ ap Some (sym (e ∙ ap (digits_value 10) (plain_of text plainly)))

pub is_not : (b : Bool) → (b ≡ true → ⊥) → (same : Bool) → b ≡ same → b ≡ false
is_not b n true e = absurd (n e)
is_not b n false e = e

-- and what is none
pub no_number_said : (most : ℕ) (text : List ℕ) → (IsUnsignedIn 0 most text → ⊥) → number_up_to most (Some text) ≡ None
no_number_said most text n =
    number_by most false text (is_not _ (λ e. n (accepts-Accepts false (vp.Unsigned 0 most) text (both _ _ e).1)) _ refl)

-- neither does a text with a sign or a 0 in front say one
pub not_plainly : (most : ℕ) (text : List ℕ) → begins_plainly text ≡ false → number_up_to most (Some text) ≡ None
not_plainly most text e = number_by most false text (ap (λ (b : Bool). b && is_unsigned_in 0 most text) e)

-- it is at most the most
most_of : (most : ℕ) (text : List ℕ) (number : ℕ) (same : Bool) → (begins_plainly text && is_unsigned_in 0 most text) ≡ same → (if same then Some (digits_value 10 text) else None) ≡ Some number → number ≤ most
most_of most text number true e h =
    let parts = both _ _ e in
    let within = accepts-Accepts false (vp.Unsigned 0 most) text parts.1 in
    let same : digits_value 10 (without_leading_plus text) ≡ number = ap (digits_value 10) (plain_of text parts.0) ∙ same_Some _ _ h in
    omega (arith, same, within.3)
most_of most text number false e h = absurd (cc)

pub at_most : (most : ℕ) (word : Option (List ℕ)) (number : ℕ) → number_up_to most word ≡ Some number → number ≤ most
at_most most None number h = absurd (cc)
at_most most (Some text) number h = most_of most text number (begins_plainly text && is_unsigned_in 0 most text) refl h

-- ---- the job of what stands behind `self`

self_from : (f : Found) (seed columns rows : Option (List ℕ)) → seed ≡ first_value f (codes "seed") → columns ≡ first_value f (codes "cols") → rows ≡ first_value f (codes "rows") → self_behind (rows_of f) ≡ self_with (number_up_to most_seed seed) (number_up_to most_drawn columns) (number_up_to most_drawn rows)
self_from f seed columns rows s c r =
    ap₂ (λ (x y : Option (List ℕ)). self_with (number_up_to most_seed x) (number_up_to most_drawn y) (number_up_to most_drawn (first_of (codes "rows") (rows_of f)))) (sym (first_value-rows f (codes "seed")) ∙ sym s) (sym (first_value-rows f (codes "cols")) ∙ sym c)
    ∙ ap (λ (x : Option (List ℕ)). self_with (number_up_to most_seed seed) (number_up_to most_drawn columns) (number_up_to most_drawn x)) (sym (first_value-rows f (codes "rows")) ∙ sym r)

pub full_self : (f : Found) (seed columns rows : Option (List ℕ)) (x y z : ℕ) → seed ≡ first_value f (codes "seed") → columns ≡ first_value f (codes "cols") → rows ≡ first_value f (codes "rows") → Some x ≡ number_up_to most_seed seed → Some y ≡ number_up_to most_drawn columns → Some z ≡ number_up_to most_drawn rows → self_behind (rows_of f) ≡ Some (Generate x y z)
full_self f seed columns rows x y z s c r a b d =
    self_from f seed columns rows s c r
    ∙ (sym (ap₂ (λ (x y : Option ℕ). self_with x y (number_up_to most_drawn rows)) a b)
    ∙ sym (ap (λ (z : Option ℕ). self_with (Some x) (Some y) z) d))

pub no_seed : (f : Found) (seed : Option (List ℕ)) → seed ≡ first_value f (codes "seed") → None ≡ number_up_to most_seed seed → self_behind (rows_of f) ≡ None
no_seed f seed s a =
    let columns = first_value f (codes "cols") in
    let rows = first_value f (codes "rows") in
    self_from f seed columns rows s refl refl ∙ sym (ap (λ (x : Option ℕ). self_with x (number_up_to most_drawn columns) (number_up_to most_drawn rows)) a)

pub no_columns : (f : Found) (seed columns : Option (List ℕ)) (x : ℕ) → seed ≡ first_value f (codes "seed") → columns ≡ first_value f (codes "cols") → Some x ≡ number_up_to most_seed seed → None ≡ number_up_to most_drawn columns → self_behind (rows_of f) ≡ None
no_columns f seed columns x s c a b =
    let rows = first_value f (codes "rows") in
    self_from f seed columns rows s c refl ∙ sym (ap₂ (λ (x y : Option ℕ). self_with x y (number_up_to most_drawn rows)) a b)

pub no_rows : (f : Found) (seed columns rows : Option (List ℕ)) (x y : ℕ) → seed ≡ first_value f (codes "seed") → columns ≡ first_value f (codes "cols") → rows ≡ first_value f (codes "rows") → Some x ≡ number_up_to most_seed seed → Some y ≡ number_up_to most_drawn columns → None ≡ number_up_to most_drawn rows → self_behind (rows_of f) ≡ None
no_rows f seed columns rows x y s c r a b d =
    self_from f seed columns rows s c r
    ∙ (sym (ap₂ (λ (x y : Option ℕ). self_with x y (number_up_to most_drawn rows)) a b)
    ∙ sym (ap (λ (z : Option ℕ). self_with (Some x) (Some y) z) d))

-- ---- the range of its numbers

self_range : (seed columns rows : Option (List ℕ)) (x y z : Option ℕ) (job : Job) → number_up_to most_seed seed ≡ x → number_up_to most_drawn columns ≡ y → number_up_to most_drawn rows ≡ z → self_with x y z ≡ Some job → AsksForSome job
self_range seed columns rows (Some x) (Some y) (Some z) (Generate a b c) s t u h =
    let seeds : x ≡ a = cc in
    let counts : y ≡ b = cc in
    let others : z ≡ c = cc in
    (at_most most_seed seed a (s ∙ ap Some seeds), (at_most most_drawn columns b (t ∙ ap Some counts), at_most most_drawn rows c (u ∙ ap Some others)))
self_range seed columns rows (Some x) (Some y) (Some z) (Solve model blocks limits) s t u h = absurd (cc)
self_range seed columns rows (Some x) (Some y) (Some z) (Check model point) s t u h = absurd (cc)
self_range seed columns rows (Some x) (Some y) None job s t u h = absurd (cc)
self_range seed columns rows (Some x) None z job s t u h = absurd (cc)
self_range seed columns rows None y z job s t u h = absurd (cc)

-- what stands behind `self` has a seed and counts in their ranges
pub self_ranged : (rows : List Row) (job : Job) → self_behind rows ≡ Some job → AsksForSome job
self_ranged rows job h =
    self_range (first_of (codes "seed") rows) (first_of (codes "cols") rows) (first_of (codes "rows") rows) _ _ _ job refl refl refl h
