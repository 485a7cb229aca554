-- A trail of steps: one more at its end, and one less.
use Rattle.std.proofs.Common.{◌≡◌, ℕ, ◌+◌, ◌<◌, ◌≤◌, true, false, List, [], ◌∷◌, ◌++◌, length, take, refl, sym, ap, ◌∙◌, arith, get_or, set, inl, inr, Option, None, Some, subst}
use Rattle.std.specs.Prelude.{All}
use Rattle.std.proofs.lemmas.List.Elements.{All-push}
use Rattle.std.proofs.lemmas.Bool.{cases_lt}
use Rattle.std.proofs.lemmas.Option.{none-some, same_Some}
use Rattle.std.proofs.lemmas.List.{set-set, set-get_or, length_push, take_at, take-take, take-append-le, get_or_push, get_or-take, get_or-set_same, get_or_past, get_or_append_left}
use Rattle.cip_rational.specs.Rational.{ℚ}
use Rattle.cip_problem.specs.Program.{Sides, Choice, Plain, Open, Off, On as MadeOn}
use Rattle.cip_problem.specs.Box.{no_sides, sides_at}
use Rattle.cip_problem.specs.Choices.{choice_at}
use Rattle.cip_lin.specs.ChoiceParts.{own_if_open}
use Rattle.cip_lin.specs.declared.sides.Side.{Side}
use Rattle.cip_lin.specs.declared.sides.Side.TheVariants.{Low as LowSide, High as HighSide}
use Rattle.cip_domain.specs.declared.stores.Was.TheVariants.{On, OwnLow, OwnHigh}
use Rattle.cip_domain.specs.declared.stores.Saved.{Saved}
use Rattle.cip_domain.specs.Changes.{Region, with_column, with_side}
use Rattle.cip_domain.specs.Domain.{Domain, is_unsettled}
use Rattle.cip_domain.specs.Trail.{kind_of, value_of, own_high, sides_back, choice_back, undone, undone_all, regions_before, StandsIn}
use Rattle.cip_domain.proofs.Boxes.{region_same}

-- there is a region for each step
pub length-regions_before : (region : Region) (trail : List Saved) → length (regions_before region trail) ≡ length trail
length-regions_before region [] = refl
length-regions_before region (s ∷ later) = omega (arith, length-regions_before region later)

undone_all-push : (region : Region) (trail : List Saved) (s : Saved) → undone_all region (trail ++ s ∷ []) ≡ undone_all (undone region s) trail
undone_all-push region [] s = refl
undone_all-push region (first ∷ later) s = ap (λ t. undone t first) (undone_all-push region later s)

-- with one more, the region before it is the last of the earlier ones
pub regions_before-push : (region : Region) (trail : List Saved) (s : Saved) → regions_before region (trail ++ s ∷ []) ≡ regions_before (undone region s) trail ++ undone region s ∷ []
regions_before-push region [] s = refl
regions_before-push region (first ∷ later) s =
    rw (undone_all-push region later s, regions_before-push region later s) refl

-- a step that what is saved undoes: the region before it is the last of the earlier ones
pub regions_before_step : (region new : Region) (trail : List Saved) (s : Saved) → undone new s ≡ region → regions_before new (trail ++ s ∷ []) ≡ regions_before region trail ++ region ∷ []
regions_before_step region new trail s e =
    regions_before-push new trail s ∙ ap (λ t. regions_before t trail ++ t ∷ []) e

-- ---- what undoes a step

-- a column that gets other sides and back its own
back_again : (region : Region) (column : ℕ) (sides : Sides) (choice : Choice) (s : Saved) → s.col ≡ column → sides_back s.was s.value (sides_at (with_column region column sides choice).box s.col) ≡ sides_at region.box column → choice_back s.was s.value (choice_at (with_column region column sides choice).choices s.col) ≡ choice_at region.choices column → undone (with_column region column sides choice) s ≡ region
back_again region column sides choice s c e f =
    region_same (undone (with_column region column sides choice) s) region
    (ap (λ k. set (set region.box column sides) k (sides_back s.was s.value (sides_at (with_column region column sides choice).box s.col))) c
    ∙ ap (set (set region.box column sides) column) e ∙ set-set region.box column sides (sides_at region.box column) ∙ set-get_or region.box column no_sides)
    (ap (λ k. set (set region.choices column choice) k (choice_back s.was s.value (choice_at (with_column region column sides choice).choices s.col))) c
    ∙ ap (set (set region.choices column choice) column) f ∙ set-set region.choices column choice (choice_at region.choices column) ∙ set-get_or region.choices column Plain)

side_again : (side : Side) (sides : Sides) (value : Option ℚ) → sides_back (kind_of side) (value_of side sides) (with_side sides side value) ≡ sides
side_again LowSide sides value = refl
side_again HighSide sides value = refl

side_choice : (side : Side) (value : Option ℚ) (choice : Choice) → choice_back (kind_of side) value choice ≡ choice
side_choice LowSide value choice = refl
side_choice HighSide value choice = refl

-- a side that gets another value
pub side_back : (region : Region) (column : ℕ) (side : Side) (value : Option ℚ) → column < length region.box → undone (with_column region column (with_side (sides_at region.box column) side value) (choice_at region.choices column)) (let s : Saved = record { col = column; was = kind_of side; value = value_of side (sides_at region.box column) } in s) ≡ region
side_back region column side value l =
    let own = sides_at region.box column in
    let now = with_side own side value in
    let choice = choice_at region.choices column in
    back_again region column now choice (record { col = column; was = kind_of side; value = value_of side own }) refl
    (ap (sides_back (kind_of side) (value_of side own)) (get_or-set_same region.box column now no_sides l) ∙ side_again side own value)
    (side_choice side (value_of side own) (choice_at (set region.choices column choice) column)
    ∙ ap (λ t. choice_at t column) (set-get_or region.choices column Plain))

-- a column with a choice that isn't plain is among the choices
pub chosen_within : (choices : List Choice) (column : ℕ) → is_unsettled (choice_at choices column) ≡ true → column < length choices
chosen_within choices column e = elim (cases_lt column (length choices)) [
  | inl l ↦ l
  | inr l ↦ absurd (let g : false ≡ true = sym (ap is_unsettled (get_or_past choices column Plain l)) ∙ e in cc)
]

same_sides : (region : Region) (column : ℕ) (choice : Choice) → sides_at (with_column region column (sides_at region.box column) choice).box column ≡ sides_at region.box column
same_sides region column choice = ap (λ t. sides_at t column) (set-get_or region.box column no_sides)

-- a choice that was on
pub on_back : (region : Region) (column : ℕ) (now : Choice) → choice_at region.choices column ≡ MadeOn → undone (with_column region column (sides_at region.box column) now) (let s : Saved = record { col = column; was = On; value = None } in s) ≡ region
on_back region column now e =
    back_again region column (sides_at region.box column) now (record { col = column; was = On; value = None }) refl (same_sides region column now) (sym e)

-- a choice that was open: first without its own low side
pub own_low_back : (region : Region) (column : ℕ) (own : Sides) → choice_at region.choices column ≡ Open own → undone (with_column region column (sides_at region.box column) (Open (let t : Sides = record { low = None; high = own.high } in t))) (let s : Saved = record { col = column; was = OwnLow; value = own.low } in s) ≡ region
own_low_back region column own e =
    let half : Choice = Open (record { low = None; high = own.high }) in
    let l = chosen_within region.choices column (ap is_unsettled e) in
    back_again region column (sides_at region.box column) half (record { col = column; was = OwnLow; value = own.low }) refl (same_sides region column half)
    (ap (λ c. Open (let t : Sides = record { low = own.low; high = own_high c } in t)) (get_or-set_same region.choices column half Plain l) ∙ sym e)

-- and then not open any more
pub own_high_back : (region : Region) (column : ℕ) (high : Option ℚ) (now : Choice) → choice_at region.choices column ≡ Open (let t : Sides = record { low = None; high = high } in t) → undone (with_column region column (sides_at region.box column) now) (let s : Saved = record { col = column; was = OwnHigh; value = high } in s) ≡ region
own_high_back region column high now e =
    back_again region column (sides_at region.box column) now (record { col = column; was = OwnHigh; value = high }) refl (same_sides region column now) (sym e)

-- ---- the regions so far, one fewer

-- where the last step is undone, the regions so far are still the first ones
pub one_undone : (all before : List Region) (region : Region) (earlier : List Region) (back : Region) → before ++ region ∷ [] ≡ take (length before + 1) all → before ≡ earlier ++ back ∷ [] → (length before ≡ length earlier + 1) × (earlier ++ back ∷ [] ≡ take (length earlier + 1) all)
one_undone all before region earlier back h e =
    let n : length before ≡ length earlier + 1 = ap length e ∙ length_push earlier back in
    let first : take (length earlier + 1) (before ++ region ∷ []) ≡ before = take_at before (region ∷ []) (length earlier + 1) n in
    let cut : take (length earlier + 1) (take (length before + 1) all) ≡ take (length earlier + 1) all = take-take (length earlier + 1) (length before + 1) all (omega arith) in
    (n, sym e ∙ sym first ∙ ap (take (length earlier + 1)) h ∙ cut)

-- the region at a mark is the one that has that many before it
pub undone_region : (all before : List Region) (region d : Region) (mark : ℕ) → mark ≡ length before → before ++ region ∷ [] ≡ take (length before + 1) all → region ≡ get_or all mark d
undone_region all before region d mark e h =
    sym (get_or_push before region d mark (sym e)) ∙ ap (λ t. get_or t mark d) h ∙ get_or-take (length before + 1) all mark d (omega (arith, e))

pub undone_before : (first before : List Region) (last region : Region) (mark : ℕ) → mark ≡ length before → mark ≤ length first → before ++ region ∷ [] ≡ take (length before + 1) (first ++ last ∷ []) → before ≡ take mark first
undone_before first before last region mark e l h =
    sym (take_at before (region ∷ []) mark (sym e)) ∙ ap (take mark) h ∙ take-take mark (length before + 1) (first ++ last ∷ []) (omega (arith, e)) ∙ take-append-le mark first (last ∷ []) l

-- equal parts make equal domains
pub domain_same : (a b : List Sides) (c d : List Choice) (p q : List Region) (m n : ℕ) → a ≡ b → c ≡ d → p ≡ q → m ≡ n → let x : Domain = record { box = a; choices = c; before = p; spare = m } in let y : Domain = record { box = b; choices = d; before = q; spare = n } in x ≡ y
domain_same a b c d p q m n e f g h = cc

-- ---- open and on

pub open_is : (choice : Choice) (own : Sides) → own_if_open choice ≡ Some own → choice ≡ Open own
open_is Plain own e = absurd (none-some own e)
open_is (Open sides) own e = ap Open (same_Some sides own e)
open_is Off own e = absurd (none-some own e)
open_is MadeOn own e = absurd (none-some own e)

pub on_is : (choice : Choice) → own_if_open choice ≡ None → is_unsettled choice ≡ true → choice ≡ MadeOn
on_is Plain e f = absurd (let g : false ≡ true = f in cc)
on_is (Open own) e f = absurd (none-some own (sym e))
on_is Off e f = absurd (let g : false ≡ true = f in cc)
on_is MadeOn e f = refl

-- the columns of the steps that are left are those of the box still
pub stands_back : (box new : List Sides) (all trail : List Saved) (s : Saved) → all ≡ trail ++ s ∷ []
    → length new ≡ length box → StandsIn box all → StandsIn new trail
stands_back box new all trail s e n h k d l =
    let within : k < length all = omega (arith, l, ap length e, length_push trail s) in
    let same : (get_or all k d).col ≡ (get_or trail k d).col =
    ap (λ (x : Saved). x.col) (ap (λ t. get_or t k d) e ∙ get_or_append_left trail (s ∷ []) d k l) in
    omega (arith, n, same, h k d within)

-- and so is that of the last one
pub last_within : (box : List Sides) (all trail : List Saved) (s : Saved) → all ≡ trail ++ s ∷ [] → StandsIn box all → s.col < length box
last_within box all trail s e h =
    let within : length trail < length all = omega (arith, ap length e, length_push trail s) in
    let last : get_or all (length trail) s ≡ s =
    ap (λ t. get_or t (length trail) s) e ∙ get_or_push trail s s (length trail) refl in
    subst (λ (x : Saved). x.col < length box) last (h (length trail) s within)

-- and those of one more step are too
pub stands_more : (box new : List Sides) (trail : List Saved) (s : Saved) → length new ≡ length box
    → s.col < length box → StandsIn box trail → StandsIn new (trail ++ s ∷ [])
stands_more box new trail s n h k =
    subst (λ m. All (λ (saved : Saved). saved.col < m) (trail ++ s ∷ [])) (sym n)
    (All-push (λ (saved : Saved). saved.col < length box) trail s k h)
