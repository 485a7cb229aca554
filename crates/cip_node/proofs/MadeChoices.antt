-- The choices of a leaf: for each semi-continuous column of the program, whether it is on.
use Rattle.std.proofs.Common.{◌≡◌, inl, inr, ℕ, zero, suc, ◌+◌, ◌<◌, Bool, true, false, if◌then◌else◌, List, [], ◌∷◌, ◌++◌, take, get_or, length, Option, Some, slice_get, refl, sym, ap, ◌∙◌, arith, true≢false}
use Rattle.std.proofs.lemmas.Option.{same_Some, slice_get_past, none-some}
use Rattle.std.proofs.lemmas.Bool.{cases_lt}
use Rattle.cip_problem.specs.Program.{Sides, Choice, Plain, Open, Off, On, Program}
use Rattle.cip_problem.specs.Box.{sides_at}
use Rattle.cip_problem.specs.Choices.{choice_at, is_open, is_on, AreMade, AreStillOpen, decided_box, made_on}
use Rattle.cip_problem.specs.Log.{Node}
use Rattle.cip_problem.specs.WellFormed.{IsChoice, IsWellFormed}
use Rattle.cip_search.specs.Leaf.{at_wholes, IsOnlyLeaf, Leaf, IsOnlyLeafOf}
use Rattle.cip_search.proofs.Fitting.{open_continuous}
use Rattle.cip_node_rules.specs.OpenColumns.{PassesNowhere}
use Rattle.cip_node_rules.specs.OpenChoices.{is_choice_open}

-- ---- one more column

put_if : (x y : Bool) (xs : List Bool) (t : Bool) → x ∷ (if t then xs ++ y ∷ [] else xs) ≡ (if t then (x ∷ xs) ++ y ∷ [] else x ∷ xs)
put_if x y xs true = refl
put_if x y xs false = refl

made_next : (own now : List Choice) (n : ℕ) (d : Choice) → n < length own → made_on (take (suc n) own) now ≡ (if is_open (get_or own n d) then made_on (take n own) now ++ is_on (choice_at now n) ∷ [] else made_on (take n own) now)
made_next [] now n d l = absurd (omega (arith, l))
made_next (Plain ∷ cs) [] zero d l = refl
made_next (Plain ∷ cs) (o ∷ os) zero d l = refl
made_next (Open own ∷ cs) [] zero d l = refl
made_next (Open own ∷ cs) (o ∷ os) zero d l = refl
made_next (Off ∷ cs) [] zero d l = refl
made_next (Off ∷ cs) (o ∷ os) zero d l = refl
made_next (On ∷ cs) [] zero d l = refl
made_next (On ∷ cs) (o ∷ os) zero d l = refl
made_next (Plain ∷ cs) [] (suc n) d l = made_next cs [] n d (omega (arith, l))
made_next (Plain ∷ cs) (o ∷ os) (suc n) d l = made_next cs os n d (omega (arith, l))
made_next (Open own ∷ cs) [] (suc n) d l =
    ap (λ t. false ∷ t) (made_next cs [] n d (omega (arith, l)))
    ∙ put_if false (is_on (choice_at [] n)) (made_on (take n cs) []) (is_open (get_or cs n d))
made_next (Open own ∷ cs) (o ∷ os) (suc n) d l =
    ap (λ t. is_on o ∷ t) (made_next cs os n d (omega (arith, l)))
    ∙ put_if (is_on o) (is_on (choice_at os n)) (made_on (take n cs) os) (is_open (get_or cs n d))
made_next (Off ∷ cs) [] (suc n) d l = made_next cs [] n d (omega (arith, l))
made_next (Off ∷ cs) (o ∷ os) (suc n) d l = made_next cs os n d (omega (arith, l))
made_next (On ∷ cs) [] (suc n) d l = made_next cs [] n d (omega (arith, l))
made_next (On ∷ cs) (o ∷ os) (suc n) d l = made_next cs os n d (omega (arith, l))

pub one_later : (n : ℕ) → n + 1 ≡ suc n
one_later n = omega arith

pub made_open : (own now : List Choice) (n : ℕ) (d : Choice) → n < length own → is_open (get_or own n d) ≡ true → made_on (take (n + 1) own) now ≡ made_on (take n own) now ++ is_on (choice_at now n) ∷ []
made_open own now n d l e =
    ap (λ k. made_on (take k own) now) (one_later n) ∙ made_next own now n d l
    ∙ ap (λ (t : Bool). if t then made_on (take n own) now ++ is_on (choice_at now n) ∷ [] else made_on (take n own) now) e

pub made_pushed : (own now : List Choice) (n : ℕ) (d : Choice) (had has : List Bool) (on : Bool) → n < length own → is_open (get_or own n d) ≡ true → had ≡ made_on (take n own) now → on ≡ is_on (choice_at now n) → has ≡ had ++ on ∷ [] → has ≡ made_on (take (n + 1) own) now
made_pushed own now n d had has on l e h o p =
    p ∙ ap (λ (t : List Bool). t ++ on ∷ []) h ∙ ap (λ (t : Bool). made_on (take n own) now ++ t ∷ []) o ∙ sym (made_open own now n d l e)

pub made_other : (own now : List Choice) (n : ℕ) (d : Choice) → n < length own → is_open (get_or own n d) ≡ false → made_on (take (n + 1) own) now ≡ made_on (take n own) now
made_other own now n d l e =
    ap (λ k. made_on (take k own) now) (one_later n) ∙ made_next own now n d l
    ∙ ap (λ (t : Bool). if t then made_on (take n own) now ++ is_on (choice_at now n) ∷ [] else made_on (take n own) now) e

-- ---- columns whose choice is open

-- a whole column is plain
pub whole_plain : (choice : Choice) (whole : Option Bool) (sides : Sides) → IsChoice choice whole sides → whole ≡ Some true → choice ≡ Plain
whole_plain Plain whole sides h e = refl
whole_plain (Open own) whole sides h e = absurd (true≢false (same_Some true false (sym e ∙ h.continuous)))
whole_plain Off whole sides h e = absurd h
whole_plain On whole sides h e = absurd h

-- where a choice of a region is open, its column is continuous
pub still_continuous : (program : Program) (now : List Choice) (column : ℕ) → IsWellFormed program → AreStillOpen program.choices now → is_open (choice_at now column) ≡ true → slice_get program.integral column ≡ Some false
still_continuous program now column formed still e =
    open_continuous (choice_at program.choices column) (slice_get program.integral column) (sides_at program.bounds column) (formed.choices column) (ap is_open (still column e) ∙ e)

not_open : (open_ : Bool) → ¬ (open_ ≡ true) → open_ ≡ false
not_open true n = absurd (n refl)
not_open false n = refl

-- no choice is open, where none of the columns is
pub all_made : (program : Program) (now : List Choice) → IsWellFormed program → AreStillOpen program.choices now → PassesNowhere (is_choice_open now) (length program.integral) → AreMade now
all_made program now formed still none column = elim (cases_lt column (length program.integral)) [
  | inl l ↦ none column l
  | inr l ↦ not_open (is_open (choice_at now column)) (λ e. none-some false (sym (slice_get_past program.integral column l) ∙ still_continuous program now column formed still e))
]

-- ---- the leaf

-- whole columns keep their sides where the choices are made
pub wholes_stay : (choices : List Choice) (integral : List Bool) (box : List Sides) (on : List Bool) → ((column : ℕ) → IsChoice (choice_at choices column) (slice_get integral column) (sides_at box column)) → at_wholes integral (decided_box choices box on) ≡ at_wholes integral box
wholes_stay [] integral box on f = refl
wholes_stay (c ∷ cs) integral [] on f = refl
wholes_stay (c ∷ cs) [] (s ∷ ss) on f = refl
wholes_stay (Plain ∷ cs) (true ∷ ws) (s ∷ ss) on f = ap (λ t. s ∷ t) (wholes_stay cs ws ss on (λ column. f (suc column)))
wholes_stay (Plain ∷ cs) (false ∷ ws) (s ∷ ss) on f = wholes_stay cs ws ss on (λ column. f (suc column))
wholes_stay (Open own ∷ cs) (true ∷ ws) (s ∷ ss) on f = absurd (true≢false (same_Some true false (f 0).continuous))
wholes_stay (Open own ∷ cs) (false ∷ ws) (s ∷ ss) [] f = wholes_stay cs ws ss [] (λ column. f (suc column))
wholes_stay (Open own ∷ cs) (false ∷ ws) (s ∷ ss) (o ∷ on) f = wholes_stay cs ws ss on (λ column. f (suc column))
wholes_stay (Off ∷ cs) (w ∷ ws) (s ∷ ss) on f = absurd (f 0)
wholes_stay (On ∷ cs) (w ∷ ws) (s ∷ ss) on f = absurd (f 0)

-- a leaf of whole values and of the choices of a node is its only one
pub only_there : (program : Program) (node : Node) (leaf : Leaf) → AreMade node.choices → leaf.on ≡ made_on program.choices node.choices → IsOnlyLeaf program.integral node.box leaf.values → IsOnlyLeafOf program node leaf
only_there program node leaf made e h = record { made = made; on = e; values = h }
