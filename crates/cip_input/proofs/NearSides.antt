-- The sides of the columns of a text are near: a bound of a size of 10^20 or more is none.
use Rattle.std.proofs.Common.{◌≡◌, ℕ, zero, suc, ◌^◌, Bool, true, false, cond, not, ◌&&◌, List, [], ◌∷◌, map, Option, None, Some, refl, sym, subst}
use Rattle.std.specs.Prelude.{All, pos, fold}
use Rattle.std.specs.List.{AllByRecursion, list_any}
use Rattle.std.specs.Str.{bytes_eq}
use Rattle.std.proofs.lemmas.Bool.{cond_both}
use Rattle.std.proofs.lemmas.List.Elements.{All-map}
use Rattle.cip_rational.specs.Rational.{ℚ, integer, absolute, ratio, whole, negate, zeroℚ, oneℚ, ◌<ℚ◌, le_test, lt_test}
use Rattle.cip_rational.proofs.Rational.Order.{lt_of_le_test}
use Rattle.cip_problem.specs.Program.{Plain, Open, Program}
use Rattle.cip_problem.specs.Choices.{choice_at, greater, open_sides}
use Rattle.cip_text_rules.specs.Lines.{Record, Section, Entry}
use Rattle.cip_rational.specs.Numeral.{Numeral, Exact, NotANumber, Huge, TooFine, value_of, numeral_of, is_minus}
use Rattle.cip_text_rules.specs.MpsWords.{Part, NoPart, Title, Sense, Rows, Columns, RightSides, Ranges, Bounds, End, BoundKind, Low, High, Fixed, WholeLow, WholeHigh, Unbounded, NoLow, NoHigh, Binary, SemiContinuous, section_of, bound_kind_of, has_value, marker_of, is_infinity, is_negative, near_or_huge, bound_number}
use Rattle.cip_text_rules.specs.MpsSayings.{Saying, Skipped, Misplaced, ColumnLine, RightSideLine, RangeLine, BoundLine, LinePlace, opening, section_said, sense_said, row_said, one_value, two_values, is_marker, marker_said, column_said, of_set, right_side_said, range_said, no_value, valued_bound, plain_bound, typed_bound, bound_said, fields_said, said}
use Rattle.cip_text_rules.specs.MpsFacts.{GivenColumn, GivenBound, Facts, facts_with, bounds_in}
use Rattle.cip_text_rules.specs.MpsBounds.{Bounded, unbounded, with_bound, bounded_by, settled, bounds_of, all_bounds, own_sides, is_semi, column_sides, choice_of}
use Rattle.cip_text_rules.specs.MpsProgram.{program_of}
use Rattle.cip_text_rules.specs.MpsOutcome.{Context, said_in, HasProgram}
use Rattle.cip_text_rules.proofs.Quiet.{Keeps}
use Rattle.cip_text_rules.proofs.Outcomes.{of_program}
use Rattle.cip_text_rules.specs.MpsStepStatements.{is_far_value, ValuesAreTested}
use Rattle.cip_text_rules.proofs.LineBytes.{all_append}
use Rattle.cip_problem.specs.NearSides.{IsNear, HasNearSides}
use Rattle.cip_input.specs.LimitedModels.{HasNearOwn}

-- ---- 0 and 1

pub zero_near : absolute zeroℚ <ℚ integer (pos (10 ^ 20))
unfolding absolute lt_test le_test integer ratio whole negate zeroℚ
zero_near = record { lt = tt }

pub one_near : absolute oneℚ <ℚ integer (pos (10 ^ 20))
unfolding absolute lt_test le_test integer ratio whole negate zeroℚ oneℚ
one_near = record { lt = tt }

nothing_near : absolute (ratio (pos 0) 1) <ℚ integer (pos (10 ^ 20))
unfolding absolute lt_test le_test integer ratio whole negate zeroℚ
nothing_near = record { lt = tt }

-- ---- the value of a bound

far_or_near : (far : Bool) (value : ℚ) → is_far_value value ≡ far → IsNear (cond far None (Some value))
far_or_near true value e = tt
far_or_near false value e = lt_of_le_test e

none_near : (numeral : Numeral) → value_of numeral ≡ None → IsNear (value_of (near_or_huge numeral))
none_near (Exact negative size below) e = absurd (cc)
none_near NotANumber e = tt
none_near (Huge negative) e = tt
none_near TooFine e = tt

near_of : (v : ValuesAreTested) (text : List ℕ) (o : Option ℚ) → value_of (numeral_of text) ≡ o → IsNear (value_of (near_or_huge (numeral_of text)))
near_of v text None e = none_near (numeral_of text) e
near_of v text (Some value) e = subst IsNear (sym (v.bound text value e)) (far_or_near (is_far_value value) value refl)

pub bound_near : (v : ValuesAreTested) (text : List ℕ) → IsNear (value_of (bound_number text))
bound_near v text =
    cond_both (is_infinity text) (Huge (is_minus text)) (near_or_huge (numeral_of text)) (λ numeral. IsNear (value_of numeral))
    (λ _. tt) (λ _. near_of v text (value_of (numeral_of text)) refl)

-- ---- what lines say

abbrev AreNear : List GivenBound → Type 0
AreNear bounds = AllByRecursion (λ bound. IsNear (value_of bound.value)) bounds

abbrev Near : Saying → Type 0
Near saying = AreNear (bounds_in saying)

set_near : (first : Option (List ℕ)) (set_name : List ℕ) (saying : Saying) → Near saying → Near (of_set first set_name saying)
set_near None set_name saying h = h
set_near (Some f) set_name saying h = cond_both (bytes_eq f set_name) saying Skipped Near (λ _. h) (λ _. tt)

section_near : (words : List (List ℕ)) → Near (section_said words)
section_near [] = tt
section_near (word ∷ words) = go (section_of word)
  where
    go : (part : Option Part) → Near (opening part words)
    go None = tt
    go (Some part) = tt

marker_near : (marker : Option Bool) → Near (marker_said marker)
marker_near None = tt
marker_near (Some begins) = tt

sense_near : (words : List (List ℕ)) → Near (sense_said words)
sense_near (word ∷ []) = tt
sense_near other = tt

row_near : (words : List (List ℕ)) → Near (row_said words)
row_near (kind ∷ name ∷ []) = tt
row_near other = tt

column_near : (whole : Bool) (words : List (List ℕ)) → Near (column_said whole words)
column_near whole (column ∷ row ∷ text ∷ []) =
    cond_both (is_marker row text) (marker_said (marker_of text)) (ColumnLine column whole (one_value row text)) Near
    (λ _. marker_near (marker_of text)) (λ _. tt)
column_near whole (column ∷ row ∷ text ∷ other_row ∷ other_text ∷ []) = tt
column_near whole other = tt

right_side_near : (first : Option (List ℕ)) (words : List (List ℕ)) → Near (right_side_said first words)
right_side_near first (row ∷ text ∷ []) = set_near first [] (RightSideLine [] (one_value row text)) tt
right_side_near first (set_name ∷ row ∷ text ∷ []) = set_near first set_name (RightSideLine set_name (one_value row text)) tt
right_side_near first (row ∷ text ∷ other_row ∷ other_text ∷ []) = set_near first [] (RightSideLine [] (two_values row text other_row other_text)) tt
right_side_near first (set_name ∷ row ∷ text ∷ other_row ∷ other_text ∷ []) = set_near first set_name (RightSideLine set_name (two_values row text other_row other_text)) tt
right_side_near first other = tt

range_near : (first : Option (List ℕ)) (words : List (List ℕ)) → Near (range_said first words)
range_near first (row ∷ text ∷ []) = set_near first [] (RangeLine [] (one_value row text)) tt
range_near first (set_name ∷ row ∷ text ∷ []) = set_near first set_name (RangeLine set_name (one_value row text)) tt
range_near first (row ∷ text ∷ other_row ∷ other_text ∷ []) = set_near first [] (RangeLine [] (two_values row text other_row other_text)) tt
range_near first (set_name ∷ row ∷ text ∷ other_row ∷ other_text ∷ []) = set_near first set_name (RangeLine set_name (two_values row text other_row other_text)) tt
range_near first other = tt

valued_near : (v : ValuesAreTested) (first : Option (List ℕ)) (kind : BoundKind) (words : List (List ℕ)) → Near (valued_bound first kind words)
valued_near v first kind (column ∷ text ∷ []) = set_near first [] (BoundLine kind [] column (bound_number text)) (bound_near v text, tt)
valued_near v first kind (set_name ∷ column ∷ text ∷ []) = set_near first set_name (BoundLine kind set_name column (bound_number text)) (bound_near v text, tt)
valued_near v first kind other = tt

plain_near : (first : Option (List ℕ)) (kind : BoundKind) (words : List (List ℕ)) → Near (plain_bound first kind words)
plain_near first kind (column ∷ []) = set_near first [] (BoundLine kind [] column no_value) (nothing_near, tt)
plain_near first kind (set_name ∷ column ∷ []) = set_near first set_name (BoundLine kind set_name column no_value) (nothing_near, tt)
plain_near first kind (set_name ∷ column ∷ text ∷ []) = set_near first set_name (BoundLine kind set_name column no_value) (nothing_near, tt)
plain_near first kind other = tt

typed_near : (v : ValuesAreTested) (first : Option (List ℕ)) (kind : Option BoundKind) (words : List (List ℕ)) → Near (typed_bound first kind words)
typed_near v first None words = tt
typed_near v first (Some kind) words =
    cond_both (has_value kind) (valued_bound first kind words) (plain_bound first kind words) Near
    (λ _. valued_near v first kind words) (λ _. plain_near first kind words)

bounds_near : (v : ValuesAreTested) (first : Option (List ℕ)) (words : List (List ℕ)) → Near (bound_said first words)
bounds_near v first [] = tt
bounds_near v first (kind ∷ words) = typed_near v first (bound_kind_of kind) words

fields_near : (v : ValuesAreTested) (part : Part) (place : LinePlace) (words : List (List ℕ)) → Near (fields_said part place words)
fields_near v NoPart place words = tt
fields_near v Title place words = tt
fields_near v Sense place words = cond_both place.sensed Misplaced (sense_said words) Near (λ _. tt) (λ _. sense_near words)
fields_near v Rows place words = row_near words
fields_near v Columns place words = column_near place.whole words
fields_near v RightSides place words = right_side_near place.set_name words
fields_near v Ranges place words = range_near place.set_name words
fields_near v Bounds place words = bounds_near v place.set_name words
fields_near v End place words = tt

said_near : (v : ValuesAreTested) (place : LinePlace) (content : Record) → Near (said place content)
said_near v place (Section words) = section_near words
said_near v place (Entry words) = fields_near v place.part place words

-- ---- the facts

near_with : (v : ValuesAreTested) (context : Context) (content : Record) → Keeps context.facts (said_in context content) → AreNear context.facts.bounds → AreNear (facts_with context.facts (said_in context content)).bounds
near_with v context content k h =
    all_append (λ (bound : GivenBound). IsNear (value_of bound.value)) context.facts.bounds (bounds_in (said_in context content)) h (said_near v context.place content)

-- ---- the sides of a column

record NearBounded (b : Bounded) : Type 0 where
  low : IsNear b.low
  high : IsNear b.high

opened : (away : Bool) (side : Option ℚ) → IsNear side → IsNear (cond away None side)
opened true side h = tt
opened false side h = h

with_near : (b : Bounded) (kind : BoundKind) (value : Numeral) → NearBounded b → IsNear (value_of value) → NearBounded (with_bound b kind value)
with_near b Low value n v = record { low = v; high = n.high }
with_near b High value n v = record { low = opened (is_negative value && not b.low_set) b.low n.low; high = v }
with_near b WholeLow value n v = record { low = v; high = n.high }
with_near b WholeHigh value n v = record { low = opened (is_negative value && not b.low_set) b.low n.low; high = v }
with_near b Fixed value n v = record { low = v; high = v }
with_near b Unbounded value n v = record { low = tt; high = tt }
with_near b NoLow value n v = record { low = tt; high = n.high }
with_near b NoHigh value n v = record { low = n.low; high = tt }
with_near b Binary value n v = record { low = zero_near; high = one_near }
with_near b SemiContinuous value n v = record { low = n.low; high = v }

by_near : (column : List ℕ) (b : Bounded) (bound : GivenBound) → NearBounded b → IsNear (value_of bound.value) → NearBounded (bounded_by column b bound)
by_near column b bound n v =
    cond_both (bytes_eq column bound.column) (with_bound b bound.kind bound.value) b NearBounded
    (λ _. with_near b bound.kind bound.value n v) (λ _. n)

fold_near : (column : List ℕ) (bounds : List GivenBound) (b : Bounded) → AreNear bounds → NearBounded b → NearBounded (fold (bounded_by column) b bounds)
fold_near column [] b h n = n
fold_near column (bound ∷ bounds) b h n = fold_near column bounds (bounded_by column b bound) h.1 (by_near column b bound n h.0)

settled_near : (b : Bounded) → NearBounded b → NearBounded (settled b)
settled_near b n =
    cond_both (b.whole && not b.named) (record b { low = Some zeroℚ; high = Some oneℚ }) b NearBounded
    (λ _. record { low = zero_near; high = one_near }) (λ _. n)

bounds_near_of : (facts : Facts) (column : GivenColumn) → AreNear facts.bounds → NearBounded (bounds_of facts column)
bounds_near_of facts column h = settled_near _ (fold_near column.name facts.bounds (unbounded column.whole) h (record { low = zero_near; high = tt }))

-- the greater of 0 and a side
greater_near : (side : Option ℚ) → IsNear side → IsNear (greater (Some zeroℚ) side)
greater_near None n = zero_near
greater_near (Some side) n = go (le_test zeroℚ side)
  where
    go : (above : Bool) → IsNear (Some (cond above side zeroℚ))
    go true = n
    go false = zero_near

sides_near_of : (b : Bounded) → NearBounded b → HasNearSides (column_sides b)
sides_near_of b n =
    cond_both (is_semi b) (open_sides (own_sides b)) (own_sides b) HasNearSides
    (λ _. record { low = zero_near; high = greater_near b.high n.high }) (λ _. record { low = n.low; high = n.high })

choice_near_of : (b : Bounded) → NearBounded b → HasNearOwn (choice_of b)
choice_near_of b n =
    cond_both (is_semi b) (Open (own_sides b)) Plain HasNearOwn (λ _. record { low = n.low; high = n.high }) (λ _. tt)

-- ---- the program

facts_near : (facts : Facts) → AreNear facts.bounds → All HasNearSides (program_of facts).bounds
facts_near facts near =
    All-map HasNearSides column_sides (all_bounds facts)
    (All-map (λ (b : Bounded). HasNearSides (column_sides b)) (bounds_of facts) facts.columns
    (λ k d l. sides_near_of _ (bounds_near_of facts _ near)))

pub sides_near : (v : ValuesAreTested) (text : List ℕ) (program : Program) → HasProgram text program → All HasNearSides program.bounds
sides_near v = of_program (λ facts. AreNear facts.bounds) (near_with v) tt (λ (program : Program). All HasNearSides program.bounds) facts_near

-- ---- the choices

each_own : (facts : Facts) (columns : List GivenColumn) → AreNear facts.bounds → (k : ℕ) → HasNearOwn (choice_at (map choice_of (map (bounds_of facts) columns)) k)
each_own facts [] near k = tt
each_own facts (column ∷ columns) near zero = choice_near_of _ (bounds_near_of facts column near)
each_own facts (column ∷ columns) near (suc k) = each_own facts columns near k

facts_own : (facts : Facts) → AreNear facts.bounds → (k : ℕ) → HasNearOwn (choice_at (program_of facts).choices k)
facts_own facts near k = go (list_any is_semi (all_bounds facts))
  where
    go : (any : Bool) → HasNearOwn (choice_at (cond any (map choice_of (all_bounds facts)) []) k)
    go true = each_own facts facts.columns near k
    go false = tt

pub own_near : (v : ValuesAreTested) (text : List ℕ) (program : Program) → HasProgram text program → (k : ℕ) → HasNearOwn (choice_at program.choices k)
own_near v =
    of_program (λ facts. AreNear facts.bounds) (near_with v) tt (λ (program : Program). (k : ℕ) → HasNearOwn (choice_at program.choices k)) facts_own
