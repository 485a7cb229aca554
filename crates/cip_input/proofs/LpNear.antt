-- The sides of the columns of an LP text are near: a value of a bound of a size of 10^20 or more is none.
use Rattle.std.proofs.Common.{◌≡◌, ℕ, zero, suc, ◌^◌, Bool, true, false, cond, not, ◌&&◌, ◌||◌, List, [], ◌∷◌, ◌++◌, Option, None, Some, refl, sym, subst}
use Rattle.std.specs.Prelude.{All, pos, slice_index_or, slice_set}
use Rattle.std.specs.List.{AllByRecursion}
use Rattle.std.proofs.lemmas.Bool.{cond_both}
use Rattle.std.proofs.lemmas.List.Elements.{All-from_recursion}
use Rattle.cip_rational.specs.Rational.{ℚ, integer, zeroℚ, ◌<ℚ◌}
use Rattle.cip_rational.proofs.Rational.Extremes.{absolute-negate}
use Rattle.cip_problem.specs.Program.{Sides, Program}
use Rattle.cip_problem.specs.NearSides.{IsNear, HasNearSides}
use Rattle.cip_rational.specs.Numeral.{value_of, numeral_of}
use Rattle.cip_text_rules.specs.MpsWords.{is_too_fine, bound_number, is_in}
use Rattle.cip_text_rules.specs.MpsStepStatements.{ValuesAreTested}
use Rattle.cip_text_rules.specs.LineStatements.{known_after}
use Rattle.cip_text_rules.proofs.LineEnded.{holds_open}
use Rattle.cip_text_rules.specs.LpWords.{LpPart, NoPart, Costs, Constraints, Bounds, Generals, Binaries, End, Relation, AtMost, EqualTo, AtLeast}
use Rattle.cip_text_rules.specs.LpTokens.{Token, Opening, OutsideSection, Free, Infinite, Number, Name, Sign, Colon, Relates, BadToken}
use Rattle.cip_text_rules.specs.LpPlaces.{Amount, unit, Limit, limit_of, is_equality, agree, flipped, Given, goes_on, Place, Start, Labelled, FirstName, FirstSign, FirstNumber, SecondStart, SecondSign, SecondNumber, SecondName, AfterTerm, TermSign, TermNumber, LastDue, LastSign, BoundName, BoundDue, BoundSign, LimitSign, LimitRead, LimitDue, BoundedName, Where, Event, Fails, Opens, NamesObjective, Begins, AddsCost, AddsConstant, Adds, Ends, Mentions, SetsLow, SetsHigh, SetsBoth, MakesWhole, MakesBinary, Reads, fails, moves, says, says_both}
use Rattle.cip_text_rules.specs.LpGrammar.{is_name, is_colon, goes_behind, row_ends, zero_ends, settled_cost, settled_row, settled_in, settled, with_value, with_number, amount_in, limit_in, with_limit, cost_read, second_term, last_value, front_read, row_read, is_wrong, side_of, bound_set, bound_value, bound_front, bound_read, general_read, binary_read, may_end, is_past, is_out_of_order, opened, section_read, outside_read, read_in, read, events_of}
use Rattle.cip_text_rules.specs.LpFacts.{LpFacts, default_sides, sides_of, column_number, with_column, with_row, with_part, facts_with, facts_after}
use Rattle.cip_text_rules.specs.LpOutcome.{LpContext, no_context, token_fault, context_with, is_end, lp_tokens, HasLpProgram}
use Rattle.cip_text_rules.proofs.LpTexts.{end_reached}
use Rattle.cip_input.proofs.NearSides.{zero_near, one_near, bound_near}

-- ---- what is said

-- a side that is set is near
abbrev IsNearEvent : Event → Type 0
IsNearEvent (SetsLow name side) = IsNear side
IsNearEvent (SetsHigh name side) = IsNear side
IsNearEvent (SetsBoth name side) = IsNear side
IsNearEvent other = Unit {0}

-- the value of a bound that stands in front
abbrev limit_at : Place → Option ℚ
limit_at (LimitRead limit) = side_of limit
limit_at (LimitDue limit relation) = side_of limit
limit_at other = None

record AreNear (reads : Reads) : Type 0 where
  events : AllByRecursion IsNearEvent reads.events
  place : IsNear (limit_at reads.next.place)

near_fails : (w : Where) (kind : ℕ) → IsNear (limit_at w.place) → AreNear (fails w kind)
near_fails w kind h = record { events = (tt, tt); place = h }

near_moves : (w : Where) (place : Place) → IsNear (limit_at place) → AreNear (moves w place)
near_moves w place h = record { events = tt; place = h }

near_says : (event : Event) (w : Where) (place : Place) → IsNearEvent event → IsNear (limit_at place) → AreNear (says event w place)
near_says event w place e h = record { events = (e, tt); place = h }

near_both : (first second : Event) (w : Where) (place : Place) → IsNearEvent first → IsNearEvent second → IsNear (limit_at place) → AreNear (says_both first second w place)
near_both first second w place e f h = record { events = (e, (f, tt)); place = h }

near_if : (b : Bool) (left right : Reads) → AreNear left → AreNear right → AreNear (cond b left right)
near_if true left right h k = h
near_if false left right h k = k

-- ---- numbers

near_number : (w : Where) (text : List ℕ) (reads : Reads) → IsNear (limit_at w.place) → AreNear reads → AreNear (with_number w text reads)
near_number w text reads h k = go (value_of (numeral_of text))
  where
    go : (o : Option ℚ) → AreNear (with_value w o (numeral_of text) reads)
    go None = near_fails w _ h
    go (Some value) = k

near_signed : (minus : Bool) (value : Option ℚ) → IsNear value → IsNear (side_of (limit_of minus value))
near_signed minus None h = tt
near_signed false (Some value) h = h
near_signed true (Some value) h = subst (λ (a : ℚ). a <ℚ integer (pos (10 ^ 20))) (sym (absolute-negate value)) h

near_text : (v : ValuesAreTested) (minus : Bool) (text : List ℕ) → IsNear (side_of (limit_in minus text))
near_text v minus text = near_signed minus (value_of (bound_number text)) (bound_near v text)

near_limit : (w : Where) (text : List ℕ) (reads : Reads) → IsNear (limit_at w.place) → AreNear reads → AreNear (with_limit w text reads)
near_limit w text reads h k = near_if (is_too_fine (bound_number text)) (fails w 5) reads (near_fails w 5 h) k

-- ---- what the tokens before say

near_settled_cost : (w : Where) (place : Place) (token : Token) → IsNear (limit_at w.place) → AreNear (settled_cost w place token)
near_settled_cost w (FirstName name) token h = near_if (is_colon token) (moves w w.place) (says (AddsCost (unit false) name) w (AfterTerm None)) (near_moves w w.place h) (near_says _ w _ tt tt)
near_settled_cost w (TermNumber given amount) token h = near_if (w.constant || is_name token) (moves w w.place) (says (AddsConstant amount) (record w { constant = true }) (AfterTerm None)) (near_moves w w.place h) (near_says (AddsConstant amount) (record w { constant = true }) (AfterTerm None) tt tt)
near_settled_cost w place token h = near_moves w w.place h

near_settled_row : (w : Where) (place : Place) (token : Token) → IsNear (limit_at w.place) → AreNear (settled_row w place token)
near_settled_row w (FirstName name) token h = near_if (is_colon token) (moves w w.place) (says_both (Begins None) (Adds (unit false) name) w (AfterTerm None)) (near_moves w w.place h) (near_both _ _ w _ tt tt tt)
near_settled_row w (SecondNumber given amount) token h =
    near_if (not given.amount.zero || ((is_name token && not (is_equality given.relation)) || goes_behind given amount token)) (moves w w.place) (says (zero_ends given amount) w Start)
    (near_moves w w.place h) (near_says _ w _ tt tt)
near_settled_row w (SecondName given amount name) token h = near_if (is_colon token) (says (zero_ends given amount) w (FirstName name)) (says (Adds amount name) w (AfterTerm (Some given))) (near_says _ w _ tt tt) (near_says _ w _ tt tt)
near_settled_row w place token h = near_moves w w.place h

near_settled_in : (part : LpPart) (w : Where) (token : Token) → IsNear (limit_at w.place) → AreNear (settled_in part w w.place token)
near_settled_in (Costs maximized) w token h = near_settled_cost w w.place token h
near_settled_in Constraints w token h = near_settled_row w w.place token h
near_settled_in other w token h = near_moves w w.place h

-- ---- what a token says

near_cost : (w : Where) (place : Place) (token : Token) → IsNear (limit_at w.place) → AreNear (cost_read w place token)
near_cost w Start (Name name) h = near_moves w _ tt
near_cost w Start (Sign minus) h = near_moves w _ tt
near_cost w Start (Number text) h = near_number w text _ h (near_moves w _ tt)
near_cost w Labelled (Name name) h = near_says _ w _ tt tt
near_cost w Labelled (Sign minus) h = near_moves w _ tt
near_cost w Labelled (Number text) h = near_number w text _ h (near_moves w _ tt)
near_cost w (FirstName name) Colon h = near_says _ w _ tt tt
near_cost w (AfterTerm given) (Sign minus) h = near_moves w _ tt
near_cost w (TermSign given minus) (Name name) h = near_says _ w _ tt tt
near_cost w (TermSign given minus) (Number text) h = near_number w text _ h (near_moves w _ tt)
near_cost w (TermNumber given amount) (Name name) h = near_says _ w _ tt tt
near_cost w place token h = near_fails w 3 h

near_second : (w : Where) (given : Given) (amount : Amount) (name : List ℕ) → IsNear (limit_at w.place) → AreNear (second_term w given amount name)
near_second w given amount name h = near_if (is_equality given.relation) (fails w 3) (says (Adds amount name) w (AfterTerm (Some given))) (near_fails w 3 h) (near_says _ w _ tt tt)

near_ends : (given : Option Given) (relation : Relation) (value : ℚ) → IsNearEvent (row_ends given relation value)
near_ends None relation value = tt
near_ends (Some given) AtMost value = tt
near_ends (Some given) EqualTo value = tt
near_ends (Some given) AtLeast value = tt

near_last : (w : Where) (given : Option Given) (relation : Relation) (amount : Amount) (text : List ℕ) → IsNear (limit_at w.place) → AreNear (last_value w given relation amount text)
near_last w given relation amount text h = near_number w text _ h (near_says (row_ends given relation amount.value) w Start (near_ends given relation amount.value) tt)

near_front : (w : Where) (token : Token) → IsNear (limit_at w.place) → AreNear (front_read w token)
near_front w (Name name) h = near_says _ w _ tt tt
near_front w (Sign minus) h = near_moves w _ tt
near_front w (Number text) h = near_number w text _ h (near_moves w _ tt)
near_front w token h = near_fails w 3 h

near_row : (w : Where) (place : Place) (token : Token) → IsNear (limit_at w.place) → AreNear (row_read w place token)
near_row w Start (Name name) h = near_moves w _ tt
near_row w Start (Sign minus) h = near_says _ w _ tt tt
near_row w Start (Number text) h = near_number w text _ h (near_says _ w _ tt tt)
near_row w (FirstName name) Colon h = near_says _ w _ tt tt
near_row w Labelled token h = near_front w token h
near_row w (FirstSign minus) (Name name) h = near_says _ w _ tt tt
near_row w (FirstSign minus) (Number text) h = near_number w text _ h (near_moves w _ tt)
near_row w (FirstNumber amount) (Name name) h = near_says _ w _ tt tt
near_row w (FirstNumber amount) (Relates relation) h = near_if (is_equality relation && not amount.zero) (fails w 3) (moves w (SecondStart (record { amount = amount; relation = relation }))) (near_fails w 3 h) (near_moves w _ tt)
near_row w (SecondStart given) (Name name) h = near_second w given (unit false) name h
near_row w (SecondStart given) (Sign minus) h = near_moves w _ tt
near_row w (SecondStart given) (Number text) h = near_number w text _ h (near_moves w _ tt)
near_row w (SecondSign given minus) (Name name) h = near_second w given (unit minus) name h
near_row w (SecondSign given minus) (Number text) h = near_number w text _ h (near_moves w _ tt)
near_row w (SecondNumber given amount) (Name name) h = near_if given.amount.zero (moves w (SecondName given amount name)) (second_term w given amount name) (near_moves w _ tt) (near_second w given amount name h)
near_row w (SecondNumber given amount) (Relates relation) h = near_if (amount.zero && agree given.relation relation) (moves w (LastDue (Some given) relation)) (fails w 3) (near_moves w _ tt) (near_fails w 3 h)
near_row w (AfterTerm given) (Sign minus) h = near_moves w _ tt
near_row w (AfterTerm given) (Relates relation) h = near_if (goes_on given relation) (moves w (LastDue given relation)) (fails w 3) (near_moves w _ tt) (near_fails w 3 h)
near_row w (TermSign given minus) (Name name) h = near_says _ w _ tt tt
near_row w (TermSign given minus) (Number text) h = near_number w text _ h (near_moves w _ tt)
near_row w (TermNumber given amount) (Name name) h = near_says _ w _ tt tt
near_row w (LastDue given relation) (Sign minus) h = near_moves w _ tt
near_row w (LastDue given relation) (Number text) h = near_last w given relation (amount_in false text) text h
near_row w (LastSign given relation minus) (Number text) h = near_last w given relation (amount_in minus text) text h
near_row w place token h = near_fails w 3 h

near_set : (name : List ℕ) (relation : Relation) (limit : Limit) → IsNear (side_of limit) → IsNearEvent (bound_set name relation limit)
near_set name AtMost limit h = h
near_set name EqualTo limit h = h
near_set name AtLeast limit h = h

near_value : (w : Where) (name : List ℕ) (relation : Relation) (limit : Limit) → IsNear (limit_at w.place) → IsNear (side_of limit) → AreNear (bound_value w name relation limit)
near_value w name relation limit h k = near_if (is_wrong relation limit) (fails w 11) (says (bound_set name relation limit) w Start) (near_fails w 11 h) (near_says _ w _ (near_set name relation limit k) tt)

near_valued : (v : ValuesAreTested) (w : Where) (name : List ℕ) (relation : Relation) (minus : Bool) (text : List ℕ) → IsNear (limit_at w.place) → AreNear (with_limit w text (bound_value w name relation (limit_in minus text)))
near_valued v w name relation minus text h = near_limit w text _ h (near_value w name relation (limit_in minus text) h (near_text v minus text))

near_given : (v : ValuesAreTested) (w : Where) (minus : Bool) (text : List ℕ) → IsNear (limit_at w.place) → AreNear (with_limit w text (moves w (LimitRead (limit_in minus text))))
near_given v w minus text h = near_limit w text _ h (near_moves w (LimitRead (limit_in minus text)) (near_text v minus text))

near_bound_front : (v : ValuesAreTested) (w : Where) (token : Token) → IsNear (limit_at w.place) → AreNear (bound_front w token)
near_bound_front v w (Name name) h = near_says _ w _ tt tt
near_bound_front v w (Sign minus) h = near_moves w _ tt
near_bound_front v w (Number text) h = near_given v w false text h
near_bound_front v w (Infinite text) h = near_given v w false text h
near_bound_front v w token h = near_fails w 3 h

near_bound : (v : ValuesAreTested) (w : Where) (place : Place) (token : Token) → IsNear (limit_at w.place) → IsNear (limit_at place) → AreNear (bound_read w place token)
near_bound v w Start token h k = near_bound_front v w token h
near_bound v w (BoundName name) Free h k = near_says _ w _ tt tt
near_bound v w (BoundName name) (Relates relation) h k = near_moves w _ tt
near_bound v w (BoundDue name relation) (Sign minus) h k = near_moves w _ tt
near_bound v w (BoundDue name relation) (Number text) h k = near_valued v w name relation false text h
near_bound v w (BoundDue name relation) (Infinite text) h k = near_valued v w name relation false text h
near_bound v w (BoundSign name relation minus) (Number text) h k = near_valued v w name relation minus text h
near_bound v w (BoundSign name relation minus) (Infinite text) h k = near_valued v w name relation minus text h
near_bound v w (LimitSign minus) (Number text) h k = near_given v w minus text h
near_bound v w (LimitSign minus) (Infinite text) h k = near_given v w minus text h
near_bound v w (LimitRead limit) (Relates relation) h k = near_if (is_wrong (flipped relation) limit) (fails w 11) (moves w (LimitDue limit relation)) (near_fails w 11 h) (near_moves w (LimitDue limit relation) k)
near_bound v w (LimitDue limit relation) (Name name) h k = near_both (Mentions name) (bound_set name (flipped relation) limit) w (BoundedName name relation) tt (near_set name (flipped relation) limit k) tt
near_bound v w (BoundedName name first) (Relates relation) h k = near_if (agree first relation) (moves w (BoundDue name relation)) (fails w 3) (near_moves w _ tt) (near_fails w 3 h)
near_bound v w (BoundedName name first) token h k = near_bound_front v w token h
near_bound v w place token h k = near_fails w 3 h

near_general : (w : Where) (token : Token) → IsNear (limit_at w.place) → AreNear (general_read w token)
near_general w (Name name) h = near_both _ _ w _ tt tt tt
near_general w token h = near_fails w 3 h

near_binary : (w : Where) (token : Token) → IsNear (limit_at w.place) → AreNear (binary_read w token)
near_binary w (Name name) h = near_both _ _ w _ tt tt tt
near_binary w token h = near_fails w 3 h

near_opened : (w : Where) (part : LpPart) → AreNear (record { events = Opens part ∷ []; next = opened w part })
near_opened w NoPart = record { events = (tt, tt); place = tt }
near_opened w (Costs maximized) = record { events = (tt, tt); place = tt }
near_opened w Constraints = record { events = (tt, tt); place = tt }
near_opened w Bounds = record { events = (tt, tt); place = tt }
near_opened w Generals = record { events = (tt, tt); place = tt }
near_opened w Binaries = record { events = (tt, tt); place = tt }
near_opened w End = record { events = (tt, tt); place = tt }

near_section : (w : Where) (part : LpPart) → IsNear (limit_at w.place) → AreNear (section_read w part)
near_section w part h =
    near_if (is_out_of_order w part) (fails w 2) (cond (may_end w.part w.place) (record { events = Opens part ∷ []; next = opened w part }) (fails w 3)) (near_fails w 2 h)
    (near_if (may_end w.part w.place) _ (fails w 3) (near_opened w part) (near_fails w 3 h))

near_outside : (w : Where) → IsNear (limit_at w.place) → AreNear (outside_read w)
near_outside w h =
    near_if (not (is_past w.part)) (fails w 2) (cond (may_end w.part w.place) (fails w 11) (fails w 3)) (near_fails w 2 h)
    (near_if (may_end w.part w.place) (fails w 11) (fails w 3) (near_fails w 11 h) (near_fails w 3 h))

near_in : (v : ValuesAreTested) (part : LpPart) (w : Where) (token : Token) → IsNear (limit_at w.place) → AreNear (read_in part w token)
near_in v NoPart w token h = near_fails w 2 h
near_in v (Costs maximized) w token h = near_cost w w.place token h
near_in v Constraints w token h = near_row w w.place token h
near_in v Bounds w token h = near_bound v w w.place token h h
near_in v Generals w token h = near_general w token h
near_in v Binaries w token h = near_binary w token h
near_in v End w token h = near_fails w 2 h

near_read : (v : ValuesAreTested) (w : Where) (token : Token) → IsNear (limit_at w.place) → AreNear (read w token)
near_read v w BadToken h = near_fails w 1 h
near_read v w (Opening part) h = near_section w part h
near_read v w OutsideSection h = near_outside w h
near_read v w token h = near_in v w.part w token h

-- ---- the facts

abbrev HasNearBounds : List Sides → Type 0
HasNearBounds bounds = AllByRecursion HasNearSides bounds

near_push : (bounds : List Sides) (sides : Sides) → HasNearBounds bounds → HasNearSides sides → HasNearBounds (bounds ++ sides ∷ [])
near_push [] sides h k = (k, tt)
near_push (s ∷ ss) sides h k = (h.0, near_push ss sides h.1 k)

near_at_place : (bounds : List Sides) (n : ℕ) (other : Sides) → HasNearBounds bounds → HasNearSides other → HasNearSides (slice_index_or bounds n other)
near_at_place [] n other h k = k
near_at_place (s ∷ ss) zero other h k = h.0
near_at_place (s ∷ ss) (suc n) other h k = near_at_place ss n other h.1 k

near_put : (bounds : List Sides) (n : ℕ) (sides : Sides) → HasNearBounds bounds → HasNearSides sides → HasNearBounds (slice_set bounds n sides)
near_put [] n sides h k = tt
near_put (s ∷ ss) zero sides h k = (k, h.1)
near_put (s ∷ ss) (suc n) sides h k = (h.0, near_put ss n sides h.1 k)

default_near : HasNearSides default_sides
default_near = record { low = zero_near; high = tt }

near_sides_of : (facts : LpFacts) (name : List ℕ) → HasNearBounds facts.bounds → HasNearSides (sides_of facts name)
near_sides_of facts name h = near_at_place facts.bounds (column_number facts name) default_sides h default_near

near_column : (facts : LpFacts) (name : List ℕ) → HasNearBounds facts.bounds → HasNearBounds (with_column facts name).bounds
near_column facts name h =
    cond_both (is_in facts.column_names name) facts (record facts { column_names = facts.column_names ++ name ∷ []; costs = facts.costs ++ zeroℚ ∷ []; bounds = facts.bounds ++ default_sides ∷ []; integral = facts.integral ++ false ∷ [] })
    (λ (f : LpFacts). HasNearBounds f.bounds) (λ _. h) (λ _. near_push facts.bounds default_sides h default_near)

near_end : (facts : LpFacts) (name : Option (List ℕ)) (low high : Option ℚ) → HasNearBounds facts.bounds → HasNearBounds (with_row facts name low high).bounds
near_end facts None low high h = h
near_end facts (Some name) low high h = h

near_part : (facts : LpFacts) (part : LpPart) → HasNearBounds facts.bounds → HasNearBounds (with_part facts part).bounds
near_part facts (Costs maximized) h = h
near_part facts Constraints h = h
near_part facts other h = h

near_with : (facts : LpFacts) (event : Event) → IsNearEvent event → HasNearBounds facts.bounds → HasNearBounds (facts_with facts event).bounds
near_with facts (Fails kind) e h = h
near_with facts (Opens part) e h = near_part facts part h
near_with facts (NamesObjective name) e h = h
near_with facts (Begins name) e h = h
near_with facts (AddsCost amount name) e h = near_column facts name h
near_with facts (AddsConstant amount) e h = h
near_with facts (Adds amount name) e h = near_column facts name h
near_with facts (Ends low high) e h = near_end facts facts.row_name low high h
near_with facts (Mentions name) e h = near_column facts name h
near_with facts (SetsLow name side) e h = near_put facts.bounds _ _ h (record { low = e; high = (near_sides_of facts name h).high })
near_with facts (SetsHigh name side) e h = near_put facts.bounds _ _ h (record { low = (near_sides_of facts name h).low; high = e })
near_with facts (SetsBoth name side) e h = near_put facts.bounds _ _ h (record { low = e; high = e })
near_with facts (MakesWhole name) e h = h
near_with facts (MakesBinary name) e h = near_put facts.bounds _ _ h (record { low = zero_near; high = one_near })

near_after : (facts : LpFacts) (events : List Event) → AllByRecursion IsNearEvent events → HasNearBounds facts.bounds → HasNearBounds (facts_after facts events).bounds
near_after facts [] e h = h
near_after facts (event ∷ events) e h = near_after (facts_with facts event) events e.1 (near_with facts event e.0 h)

all_both : (xs ys : List Event) → AllByRecursion IsNearEvent xs → AllByRecursion IsNearEvent ys → AllByRecursion IsNearEvent (xs ++ ys)
all_both [] ys h k = k
all_both (x ∷ xs) ys h k = (h.0, all_both xs ys h.1 k)

-- ---- the program

record IsNearContext (context : LpContext) : Type 0 where
  place : IsNear (limit_at context.where_.place)
  bounds : HasNearBounds context.facts.bounds

near_token : (v : ValuesAreTested) (context : LpContext) (token : Token) → token_fault context token ≡ None → IsNearContext context → IsNearContext (context_with context token)
near_token v context token e h =
    let before = near_settled_in context.where_.part context.where_ token h.place in
    let now = near_read v (settled context.where_ token).next token before.place in
    record {
      place = now.place;
      bounds = near_after context.facts (events_of context.where_ token) (all_both _ _ before.events now.events) h.bounds;
    }

pub lp_sides_near : (v : ValuesAreTested) (text : List ℕ) (program : Program) → HasLpProgram text program → All HasNearSides program.bounds
lp_sides_near v text program h =
    let r = end_reached text program h in
    let start : IsNearContext no_context = record { place = tt; bounds = tt } in
    let open_ = holds_open is_end lp_tokens IsNearContext (near_token v) r.before no_context start r.reached.open_before in
    let all = near_token v (known_after lp_tokens no_context r.before) r.now.item r.no_fault open_ in
    subst (λ (p : Program). All HasNearSides p.bounds) r.is_value (All-from_recursion HasNearSides _ all.bounds)

-- ---- the choices

pub lp_choices_none : (text : List ℕ) (program : Program) → HasLpProgram text program → program.choices ≡ []
lp_choices_none text program h = let r = end_reached text program h in subst (λ (p : Program). p.choices ≡ []) r.is_value refl
