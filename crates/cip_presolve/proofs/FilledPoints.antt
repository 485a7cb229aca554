-- A point with the values of the columns that are gone, value by value.
use Rattle.std.proofs.Common.{◌≡◌, ◌⊎◌, ℕ, zero, suc, ◌+◌, ◌<◌, ◌≤◌, Bool, true, false, List, [], ◌∷◌, ◌++◌, length, drop, min, Option, None, Some, Result, Ok, Err, slice_get, refl, sym, ap, ◌∙◌, subst, arith, add-one, append_assoc, append-nil, inl, inr}
use Rattle.std.specs.Prelude.{IsOk}
use Rattle.std.proofs.Math.ListN.{get_or}
use Rattle.std.proofs.lemmas.Bool.{cases_lt}
use Rattle.std.proofs.lemmas.Option.{none-some, same_Some, slice_get-get_or, slice_get_within}
use Rattle.cip_rational.specs.Rational.{ℚ}
use Rattle.cip_problem.specs.Activity.{value_at}
use Rattle.cip_presolve.specs.Leaf.{at_wholes}
use Rattle.cip_frac.specs.declared.operations.Wide.{Wide}
use Rattle.cip_frac.proofs.Outcomes.{product_added-value}
use Rattle.cip_presolve.specs.Forms.{Form, form_value, filled}
use Rattle.cip_presolve.specs.StepsBack.{form_outcome, value_outcome, HasOverflow, WholesFit}
use Rattle.cip_presolve.specs.FilledPoints.{IsFilled}
use Rattle.cip_presolve.proofs.Placed.{next_of, none_next}

-- ---- one value

-- the value of a column
abbrev own_value : Option Form → List ℚ → ℚ → ℚ
own_value None point own = own
own_value (Some form) point own = form_value form point

one_filled : (o : Option Form) (forms : List (Option Form)) (point : List ℚ) (v : ℚ) (values : List ℚ) → filled (o ∷ forms) point (v ∷ values) ≡ own_value o point v ∷ filled forms point values
one_filled None forms point v values = refl
one_filled (Some f) forms point v values = refl

value_next : (point : List ℚ) (k : ℕ) → k < length point → drop k point ≡ value_at point k ∷ drop (suc k) point
value_next [] k l = absurd (omega (arith, l))
value_next (v ∷ point) zero l = refl
value_next (v ∷ point) (suc k) l = value_next point k (omega (arith, l))

outcome_value : (o : Option Form) (point : List ℚ) (k : ℕ) (v : ℚ) → value_outcome o point k ≡ Ok v → v ≡ own_value o point (value_at point k)
outcome_value None point k v e = cc
outcome_value (Some form) point k v e = rw e at (product_added-value form.constant form.factor (value_at point form.source))

next_filled : (forms : List (Option Form)) (point : List ℚ) (k : ℕ) (o : Option Form) (v : ℚ) → k < length point → drop k forms ≡ o ∷ drop (suc k) forms → value_outcome o point k ≡ Ok v → filled (drop k forms) point (drop k point) ≡ v ∷ filled (drop (suc k) forms) point (drop (suc k) point)
next_filled forms point k o v l n e =
    ap (λ fs. filled fs point (drop k point)) n
    ∙ ap (λ (vs : List ℚ). filled (o ∷ drop (suc k) forms) point vs) (value_next point k l)
    ∙ one_filled o (drop (suc k) forms) point (value_at point k) (drop (suc k) point)
    ∙ ap (λ t. t ∷ filled (drop (suc k) forms) point (drop (suc k) point)) (sym (outcome_value o point k v e))

-- ---- all values

-- the first columns are filled
pub record FilledTo (forms : List (Option Form)) (point values : List ℚ) (k : ℕ) : Type 0 where
  pub rest : values ++ filled (drop k forms) point (drop k point) ≡ filled forms point point
  pub fit : (column : ℕ) (form : Form) → column < k → slice_get forms column ≡ Some (Some form) → IsOk (form_outcome form point)

pub none_filled : (forms : List (Option Form)) (point : List ℚ) → FilledTo forms point [] 0
none_filled forms point = record { rest = refl; fit = λ column form l h. absurd (omega (arith, l)) }

read : {X : Type 0} (xs : List X) (k : ℕ) (x d : X) → k < length xs → get_or xs k d ≡ x → slice_get xs k ≡ Some x
read xs k x d l g = slice_get-get_or xs k d l ∙ ap Some g

ok_is : (r : Result ℚ Wide) (v : ℚ) → r ≡ Ok v → IsOk r
ok_is r v e = rw e refl

one_fits : (forms : List (Option Form)) (point : List ℚ) (k : ℕ) (o : Option Form) (v : ℚ) (form : Form) → slice_get forms k ≡ Some o → value_outcome o point k ≡ Ok v → slice_get forms k ≡ Some (Some form) → IsOk (form_outcome form point)
one_fits forms point k None v form g e h = absurd (none-some form (same_Some None (Some form) (sym g ∙ h)))
one_fits forms point k (Some own) v form g e h =
    subst (λ f. IsOk (form_outcome f point)) (same_Some own form (same_Some (Some own) (Some form) (sym g ∙ h))) (ok_is (form_outcome own point) v e)

pub before_or_at : (column k : ℕ) → column < k + 1 → (column < k) ⊎ (column ≡ k)
before_or_at column k l = go (cases_lt column k)
  where
    go : (column < k) ⊎ (k ≤ column) → (column < k) ⊎ (column ≡ k)
    go (inl h) = inl h
    go (inr h) = inr (omega (arith, l, h))

pub next_one : (forms : List (Option Form)) (point values new : List ℚ) (k : ℕ) (o d : Option Form) (v : ℚ) → FilledTo forms point values k → length forms ≡ length point → k < length forms → get_or forms k d ≡ o → value_outcome o point k ≡ Ok v → new ≡ values ++ v ∷ [] → FilledTo forms point new (k + 1)
next_one forms point values new k o d v f long l g e i = record {
  rest =
      rw add-one
      (ap (λ t. t ++ filled (drop (suc k) forms) point (drop (suc k) point)) i
      ∙ append_assoc values (v ∷ []) (filled (drop (suc k) forms) point (drop (suc k) point))
      ∙ ap (λ t. values ++ t) (sym (next_filled forms point k o v (omega (arith, l, long)) (next_of forms k o d l g) e))
      ∙ f.rest);
  fit = λ column form m h. go column form h (before_or_at column k m);
}
  where
    go : (column : ℕ) (form : Form) → slice_get forms column ≡ Some (Some form) → (column < k) ⊎ (column ≡ k) → IsOk (form_outcome form point)
    go column form h (inl m) = f.fit column form m h
    go column form h (inr m) = one_fits forms point k o v form (read forms k o d l g) e (subst (λ n. slice_get forms n ≡ Some (Some form)) m h)

pub all_filled : (forms : List (Option Form)) (point values : List ℚ) (k : ℕ) → FilledTo forms point values k → length forms ≤ k → IsFilled forms point values
all_filled forms point values k f l = record {
  are = sym (append-nil values) ∙ ap (λ (fs : List (Option Form)). values ++ filled fs point (drop k point)) (sym (none_next forms k l)) ∙ f.rest;
  fit = λ column form h. let w = slice_get_within forms column (Some form) h in f.fit column form (omega (arith, w, l)) h;
}

err_overflows : (forms : List (Option Form)) (point : List ℚ) (k : ℕ) (o : Option Form) (wide : Wide) → slice_get forms k ≡ Some o → value_outcome o point k ≡ Err wide → HasOverflow forms point
err_overflows forms point k None wide g e = absurd (no_err (value_at point k) wide e)
  where
    no_err : (v : ℚ) (wide : Wide) → Ok v ≡ Err wide → ⊥
    no_err v wide e = cc
err_overflows forms point k (Some form) wide g e = record { column = k; form = form; gone = g; overflows = rw e refl }

pub one_overflows : (forms : List (Option Form)) (point : List ℚ) (k : ℕ) (o d : Option Form) (wide : Wide) → k < length forms → get_or forms k d ≡ o → value_outcome o point k ≡ Err wide → HasOverflow forms point
one_overflows forms point k o d wide l g e = err_overflows forms point k o wide (read forms k o d l g) e

pub ruleset filling = (none_filled, next_one, all_filled, one_overflows)

-- ---- whole columns

own_next : (forms : List (Option Form)) (point : List ℚ) (k : ℕ) (o d : Option Form) → length forms ≡ length point → k < length forms → get_or forms k d ≡ o → filled (drop k forms) point (drop k point) ≡ own_value o point (value_at point k) ∷ filled (drop (suc k) forms) point (drop (suc k) point)
own_next forms point k o d long l g =
    ap (λ fs. filled fs point (drop k point)) (next_of forms k o d l g)
    ∙ ap (λ (vs : List ℚ). filled (o ∷ drop (suc k) forms) point vs) (value_next point k (omega (arith, l, long)))
    ∙ one_filled o (drop (suc k) forms) point (value_at point k) (drop (suc k) point)

pub whole_skipped : (forms : List (Option Form)) (whole : List Bool) (point all total : List ℚ) (k : ℕ) → length forms ≡ length point → k < length forms → k < length whole → get_or whole k false ≡ false → all ++ at_wholes (drop k whole) (filled (drop k forms) point (drop k point)) ≡ total → all ++ at_wholes (drop (k + 1) whole) (filled (drop (k + 1) forms) point (drop (k + 1) point)) ≡ total
whole_skipped forms whole point all total k long l m g h =
    let n = own_next forms point k (get_or forms k None) None long l refl in
    let w : drop k whole ≡ false ∷ drop (suc k) whole = next_of whole k false false m g in
    rw add-one
    (ap (λ vs. all ++ at_wholes (false ∷ drop (suc k) whole) vs) (sym n)
    ∙ ap (λ ws. all ++ at_wholes ws (filled (drop k forms) point (drop k point))) (sym w) ∙ h)

pub whole_taken : (forms : List (Option Form)) (whole : List Bool) (point all new total : List ℚ) (k : ℕ) (o d : Option Form) (v : ℚ) → length forms ≡ length point → k < length forms → k < length whole → get_or whole k false ≡ true → get_or forms k d ≡ o → value_outcome o point k ≡ Ok v → all ++ at_wholes (drop k whole) (filled (drop k forms) point (drop k point)) ≡ total → new ≡ all ++ v ∷ [] → new ++ at_wholes (drop (k + 1) whole) (filled (drop (k + 1) forms) point (drop (k + 1) point)) ≡ total
whole_taken forms whole point all new total k o d v long l m g i e h q =
    let n = next_filled forms point k o v (omega (arith, l, long)) (next_of forms k o d l i) e in
    let w : drop k whole ≡ true ∷ drop (suc k) whole = next_of whole k true false m g in
    rw add-one
    (ap (λ t. t ++ at_wholes (drop (suc k) whole) (filled (drop (suc k) forms) point (drop (suc k) point))) q
    ∙ append_assoc all (v ∷ []) (at_wholes (drop (suc k) whole) (filled (drop (suc k) forms) point (drop (suc k) point)))
    ∙ ap (λ vs. all ++ at_wholes (true ∷ drop (suc k) whole) vs) (sym n)
    ∙ ap (λ ws. all ++ at_wholes ws (filled (drop k forms) point (drop k point))) (sym w) ∙ h)

no_values : (whole : List Bool) → at_wholes {X = ℚ} whole [] ≡ []
no_values [] = refl
no_values (w ∷ whole) = refl

shorter : (a b k : ℕ) → min a b ≤ k → (a ≤ k) ⊎ (b ≤ k)
shorter a b k l = go (cases_lt k a)
  where
    go : (k < a) ⊎ (a ≤ k) → (a ≤ k) ⊎ (b ≤ k)
    go (inl h) = inr (omega (arith, l, h))
    go (inr h) = inl h

none_left : (forms : List (Option Form)) (whole : List Bool) (point values : List ℚ) (k : ℕ) → (length forms ≤ k) ⊎ (length whole ≤ k) → at_wholes (drop k whole) (filled (drop k forms) point values) ≡ []
none_left forms whole point values k (inl l) = ap (λ fs. at_wholes (drop k whole) (filled fs point values)) (none_next forms k l) ∙ no_values (drop k whole)
none_left forms whole point values k (inr l) = ap (λ ws. at_wholes ws (filled (drop k forms) point values)) (none_next whole k l)

pub all_taken : (forms : List (Option Form)) (whole : List Bool) (point all total : List ℚ) (k : ℕ) → min (length forms) (length whole) ≤ k → all ++ at_wholes (drop k whole) (filled (drop k forms) point (drop k point)) ≡ total → all ≡ total
all_taken forms whole point all total k l h =
    sym (append-nil all) ∙ ap (λ t. all ++ t) (sym (none_left forms whole point (drop k point) k (shorter _ _ k l))) ∙ h

pub below_both : (end one other k : ℕ) → end ≡ min one other → k < end → (k < one) × (k < other)
below_both end one other k e l = (omega (arith, e, l), omega (arith, e, l))

fits_one : (forms : List (Option Form)) (whole : List Bool) (point : List ℚ) (k : ℕ) (o : Option Form) → WholesFit forms whole point → slice_get forms k ≡ Some o → slice_get whole k ≡ Some true → IsOk (value_outcome o point k)
fits_one forms whole point k None f g h = refl
fits_one forms whole point k (Some form) f g h = f k form g h

pub fits_at : (forms : List (Option Form)) (whole : List Bool) (point : List ℚ) (k : ℕ) (o d : Option Form) → WholesFit forms whole point → k < length forms → k < length whole → get_or whole k false ≡ true → get_or forms k d ≡ o → IsOk (value_outcome o point k)
fits_at forms whole point k o d f l m g i = fits_one forms whole point k o f (read forms k o d l i) (read whole k true false m g)

pub ruleset filling_wholes = (whole_skipped, whole_taken, all_taken, fits_at)
