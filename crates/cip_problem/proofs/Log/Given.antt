-- The nodes that a log gives: their boxes lie in the program's, and their choices come from the program's.
use Rattle.std.proofs.Common.{◌≡◌, inl, inr, ℕ, zero, suc, ◌<◌, ℤ, Bool, false, List, [], ◌∷◌, ◌++◌, length, Option, Some, slice_get, slice_set, refl, sym, ap, ◌∙◌, subst, arith, true≢false}
use Rattle.std.specs.List.{AllByRecursion}
use Rattle.std.proofs.lemmas.Bool.{cases_eq}
use Rattle.std.proofs.lemmas.Option.{slice_get_within}
use Rattle.std.proofs.lemmas.List.{length-set, get_or-set_same, get_or-set_other}
use Rattle.std.proofs.lemmas.Slice.Zip.{AllZip-long}
use Rattle.cip_rational.specs.Rational.{ℚ}
use Rattle.cip_problem.specs.Program.{Sides, Choice, Plain, Open, Off, On, Program}
use Rattle.cip_problem.specs.Activity.{value_at}
use Rattle.cip_problem.specs.Box.{Between, IsInBox, no_sides, sides_at}
use Rattle.cip_problem.specs.Wholes.{AllHaveWholes}
use Rattle.cip_problem.specs.Choices.{choice_at, Allows, KeepsChoices, met, zero_sides, is_open, is_on, AreMade, IsStillOpen, AreStillOpen, decided_box, made_on}
use Rattle.cip_problem.specs.Log.{End, Split, Closed, Parked, Entry, Node, root, low_of, high_of, node_of, halves, nodes_of, given_after, CanSplitAt, IsRightEnd, AllFollow}
use Rattle.cip_problem.specs.Statements.{IsNodeOf}
use Rattle.cip_problem.proofs.Points.AtPlaces.{in_box_at}
use Rattle.cip_problem.proofs.Choices.Meeting.{between_both}
use Rattle.cip_problem.proofs.Log.Halves.{low_node_within, high_node_within}
use Rattle.cip_problem.proofs.Log.Length.{node_holds, all_append}

-- ---- a choice and the program's

-- what lies between sides lies between others
abbrev Narrows : Sides → Sides → Type 0
Narrows sides others = (value : ℚ) → Between sides.low sides.high value → Between others.low others.high value

-- a choice is the program's own, or was made of it, and then the sides of its column lie within what it leaves
abbrev ComesAt : (own now : Choice) → Sides → Type 0
ComesAt (Open own) Off sides = Narrows sides zero_sides
ComesAt (Open own) On sides = Narrows sides own
ComesAt own now sides = own ≡ now

comes_itself : (choice : Choice) (sides : Sides) → ComesAt choice choice sides
comes_itself Plain sides = refl
comes_itself (Open own) sides = refl
comes_itself Off sides = refl
comes_itself On sides = refl

open_comes : (own : Choice) (sides others : Sides) → ComesAt own (Open sides) others → own ≡ Open sides
open_comes Plain sides others h = h
open_comes (Open own) sides others h = h
open_comes Off sides others h = h
open_comes On sides others h = h

-- whether a plain choice comes from another doesn't depend on sides
plain_comes : (own : Choice) (sides others : Sides) → ComesAt own Plain sides → ComesAt own Plain others
plain_comes Plain sides others h = h
plain_comes (Open own) sides others h = h
plain_comes Off sides others h = h
plain_comes On sides others h = h

still_open : (own now : Choice) (sides : Sides) → ComesAt own now sides → IsStillOpen own now
still_open own Plain sides h e = absurd (true≢false (sym e))
still_open own (Open o) sides h e = open_comes own o sides h
still_open own Off sides h e = absurd (true≢false (sym e))
still_open own On sides h e = absurd (true≢false (sym e))

off_comes : (own : Choice) (o sides : Sides) → own ≡ Open o → ComesAt own Off (met sides zero_sides)
off_comes own o sides e = subst (λ (c : Choice). ComesAt c Off (met sides zero_sides)) (sym e) (λ value k. (between_both sides zero_sides value k).1)

on_comes : (own : Choice) (o sides : Sides) → own ≡ Open o → ComesAt own On (met sides o)
on_comes own o sides e = subst (λ (c : Choice). ComesAt c On (met sides o)) (sym e) (λ value k. (between_both sides o value k).1)

-- ---- the nodes of a program

-- a node's box lies in the program's, and its choices come from the program's
record Comes (program : Program) (box : List Sides) (choices : List Choice) : Type 0 where
  pub long : length choices ≡ length program.choices
  pub within : (point : List ℚ) → IsInBox box point → IsInBox program.bounds point
  pub each : (column : ℕ) → ComesAt (choice_at program.choices column) (choice_at choices column) (sides_at box column)

-- a column whose choice is open has a place in the list
pub open_inside : (choices : List Choice) (column : ℕ) (own : Sides) → choice_at choices column ≡ Open own → column < length choices
open_inside [] column own e = absurd (cc)
open_inside (c ∷ cs) zero own e = omega arith
open_inside (c ∷ cs) (suc column) own e = omega (arith, open_inside cs column own e)

-- other sides at a plain column
plain_set : (program : Program) (node : Node) (column : ℕ) (sides : Sides) → choice_at node.choices column ≡ Plain → ((point : List ℚ) → IsInBox (slice_set node.box column sides) point → IsInBox node.box point) → Comes program node.box node.choices → Comes program (slice_set node.box column sides) node.choices
plain_set program node column sides e f h = record { long = h.long; within = λ point k. h.within point (f point k); each = each }
  where
    each : (place : ℕ) → ComesAt (choice_at program.choices place) (choice_at node.choices place) (sides_at (slice_set node.box column sides) place)
    each place = elim (cases_eq place column) [
      | inl k ↦
          let plain : choice_at node.choices place ≡ Plain = ap (λ n. choice_at node.choices n) k ∙ e in
          subst (λ (c : Choice). ComesAt (choice_at program.choices place) c (sides_at (slice_set node.box column sides) place)) (sym plain)
          (plain_comes (choice_at program.choices place) (sides_at node.box place) _ (subst (λ (c : Choice). ComesAt (choice_at program.choices place) c (sides_at node.box place)) plain (h.each place)))
      | inr k ↦
          subst (λ (s : Sides). ComesAt (choice_at program.choices place) (choice_at node.choices place) s) (sym (get_or-set_other node.box column place sides no_sides k)) (h.each place)
    ]

-- a choice made
made_set : (program : Program) (node : Node) (column : ℕ) (made : Choice) (sides own : Sides) → choice_at node.choices column ≡ Open own → column < length node.box → ((point : List ℚ) → IsInBox (slice_set node.box column sides) point → IsInBox node.box point) → ((outer : Choice) → outer ≡ Open own → ComesAt outer made sides) → Comes program node.box node.choices → Comes program (slice_set node.box column sides) (slice_set node.choices column made)
made_set program node column made sides own e inside f made_comes h = record {
  long = length-set node.choices column made ∙ h.long;
  within = λ point k. h.within point (f point k);
  each = each;
}
  where
    each : (place : ℕ) → ComesAt (choice_at program.choices place) (choice_at (slice_set node.choices column made) place) (sides_at (slice_set node.box column sides) place)
    each place = elim (cases_eq place column) [
      | inl k ↦
          let outer : choice_at program.choices column ≡ Open own = open_comes _ own _ (subst (λ (c : Choice). ComesAt (choice_at program.choices column) c (sides_at node.box column)) e (h.each column)) in
          subst (λ n. ComesAt (choice_at program.choices n) (choice_at (slice_set node.choices column made) n) (sides_at (slice_set node.box column sides) n)) (sym k)
          (subst (λ (c : Choice). ComesAt (choice_at program.choices column) c (sides_at (slice_set node.box column sides) column)) (sym (get_or-set_same node.choices column made Plain (open_inside node.choices column own e)))
          (subst (λ (s : Sides). ComesAt (choice_at program.choices column) made s) (sym (get_or-set_same node.box column sides no_sides inside)) (made_comes (choice_at program.choices column) outer)))
      | inr k ↦
          subst (λ (c : Choice). ComesAt (choice_at program.choices place) c (sides_at (slice_set node.box column sides) place)) (sym (get_or-set_other node.choices column place made Plain k))
          (subst (λ (s : Sides). ComesAt (choice_at program.choices place) (choice_at node.choices place) s) (sym (get_or-set_other node.box column place sides no_sides k)) (h.each place))
    ]

-- a column that is whole or not has a place in a box with a whole value for each whole column
column_inside : (integral : List Bool) (box : List Sides) (column : ℕ) (sides : Sides) (whole : Bool) → slice_get integral column ≡ Some whole → AllHaveWholes integral (slice_set box column sides) → column < length box
column_inside integral box column sides whole e h =
    omega (arith, slice_get_within integral column whole e, AllZip-long _ integral (slice_set box column sides) h, length-set box column sides)

low_comes : (choice : Choice) (program : Program) (node : Node) (column : ℕ) (at : ℤ) → choice_at node.choices column ≡ choice → CanSplitAt choice (slice_get program.integral column) → AllHaveWholes program.integral (low_of choice node column at).box → ((point : List ℚ) → IsInBox (low_of choice node column at).box point → IsInBox node.box point) → Comes program node.box node.choices → Comes program (low_of choice node column at).box (low_of choice node column at).choices
low_comes Plain program node column at e k w f h = plain_set program node column _ e f h
low_comes (Open own) program node column at e k w f h =
    made_set program node column Off _ own e (column_inside program.integral node.box column _ false k w) f (λ outer o. off_comes outer own (sides_at node.box column) o) h
low_comes Off program node column at e k w f h = absurd k
low_comes On program node column at e k w f h = absurd k

high_comes : (choice : Choice) (program : Program) (node : Node) (column : ℕ) (at : ℤ) → choice_at node.choices column ≡ choice → CanSplitAt choice (slice_get program.integral column) → AllHaveWholes program.integral (high_of choice node column at).box → ((point : List ℚ) → IsInBox (high_of choice node column at).box point → IsInBox node.box point) → Comes program node.box node.choices → Comes program (high_of choice node column at).box (high_of choice node column at).choices
high_comes Plain program node column at e k w f h = plain_set program node column _ e f h
high_comes (Open own) program node column at e k w f h =
    made_set program node column On _ own e (column_inside program.integral node.box column _ false k w) f (λ outer o. on_comes outer own (sides_at node.box column) o) h
high_comes Off program node column at e k w f h = absurd k
high_comes On program node column at e k w f h = absurd k

-- ---- the nodes of a log

abbrev AreComing : Program → List Node → Type 0
AreComing program nodes = AllByRecursion (λ node. Comes program node.box node.choices) nodes

end_comes : (program : Program) (given : List Node) (node : Node) (bound : Option ℚ) (end : End) → Comes program node.box node.choices → IsRightEnd program.integral given node end → AreComing program (halves (Some node) bound end)
end_comes program given node bound Closed h k = tt
end_comes program given node bound Parked h k = tt
end_comes program given node bound (Split column at low high) h k =
    let split = k.0 in (
      low_comes (choice_at node.choices column) program node column at refl split.kind split.low (λ point w. low_node_within program.integral node column at point split w) h,
      (high_comes (choice_at node.choices column) program node column at refl split.kind split.high (λ point w. high_node_within program.integral node column at point split w) h, tt),
    )

follow_comes : (program : Program) (given : List Node) (taken : List ℕ) (entries : List Entry) → AreComing program given → AllFollow program.integral given taken entries → AreComing program (given_after given entries)
follow_comes program given taken [] f h = f
follow_comes program given taken (entry ∷ entries) f h =
    let node = h.0.node in
    let new = halves (Some node) entry.bound entry.end in
    let same : nodes_of given entry ≡ new = ap (λ n. halves n entry.bound entry.end) h.0.given_before in
    let here = node_holds (λ n. Comes program n.box n.choices) given entry.node node f h.0.given_before in
    let news : AreComing program (nodes_of given entry) = subst (λ nodes. AreComing program nodes) (sym same) (end_comes program given node entry.bound entry.end here h.0.right) in
    follow_comes program (given ++ nodes_of given entry) (entry.node ∷ taken) entries (all_append (λ n. Comes program n.box n.choices) given (nodes_of given entry) f news) h.1

root_comes : (program : Program) → Comes program program.bounds program.choices
root_comes program = record {
  long = refl;
  within = λ point h. h;
  each = λ column. comes_itself (choice_at program.choices column) (sides_at program.bounds column);
}

-- ---- where each choice is made

-- a value is one that a choice leaves which comes from another
abbrev FitsAt : (own now : Choice) → ℚ → Type 0
FitsAt (Open own) Off value = Between zero_sides.low zero_sides.high value
FitsAt (Open own) On value = Between own.low own.high value
FitsAt own now value = own ≡ now

fits_at : (own now : Choice) (sides : Sides) (value : ℚ) → ComesAt own now sides → Between sides.low sides.high value → FitsAt own now value
fits_at Plain now sides value h k = h
fits_at (Open own) Plain sides value h k = h
fits_at (Open own) (Open o) sides value h k = h
fits_at (Open own) Off sides value h k = h value k
fits_at (Open own) On sides value h k = h value k
fits_at Off now sides value h k = h
fits_at On now sides value h k = h

made_between : (own : Sides) (now : Choice) (value : ℚ) → FitsAt (Open own) now value → is_open now ≡ false → IsInBox (decided_box (Open own ∷ []) (own ∷ []) (is_on now ∷ [])) (value ∷ [])
made_between own Plain value h e = absurd (cc)
made_between own (Open o) value h e = absurd (true≢false e)
made_between own Off value h e = (h, tt)
made_between own On value h e = (h, tt)

decided_in : (own now : List Choice) (bounds : List Sides) (point : List ℚ) → length now ≡ length own → ((column : ℕ) → FitsAt (choice_at own column) (choice_at now column) (value_at point column)) → AreMade now → IsInBox bounds point → IsInBox (decided_box own bounds (made_on own now)) point
decided_in [] now bounds point e f m h = h
decided_in (c ∷ cs) [] bounds point e f m h = absurd (omega (arith, e))
decided_in (c ∷ cs) (d ∷ ds) [] point e f m h = h
decided_in (c ∷ cs) (d ∷ ds) (s ∷ ss) [] e f m h = absurd h
decided_in (Plain ∷ cs) (d ∷ ds) (s ∷ ss) (v ∷ vs) e f m h = (h.0, decided_in cs ds ss vs (omega (arith, e)) (λ column. f (suc column)) (λ column. m (suc column)) h.1)
decided_in (Open own ∷ cs) (d ∷ ds) (s ∷ ss) (v ∷ vs) e f m h =
    ((made_between own d v (f 0) (m 0)).0, decided_in cs ds ss vs (omega (arith, e)) (λ column. f (suc column)) (λ column. m (suc column)) h.1)
decided_in (Off ∷ cs) (d ∷ ds) (s ∷ ss) (v ∷ vs) e f m h = (h.0, decided_in cs ds ss vs (omega (arith, e)) (λ column. f (suc column)) (λ column. m (suc column)) h.1)
decided_in (On ∷ cs) (d ∷ ds) (s ∷ ss) (v ∷ vs) e f m h = (h.0, decided_in cs ds ss vs (omega (arith, e)) (λ column. f (suc column)) (λ column. m (suc column)) h.1)

node_of_program : (program : Program) (node : Node) → Comes program node.box node.choices → IsNodeOf program node
node_of_program program node h = record {
  within = h.within;
  still_open = λ column. still_open (choice_at program.choices column) (choice_at node.choices column) (sides_at node.box column) (h.each column);
  made = λ made point w.
      decided_in program.choices node.choices program.bounds point h.long
      (λ column. fits_at (choice_at program.choices column) (choice_at node.choices column) (sides_at node.box column) (value_at point column) (h.each column) (in_box_at node.box point column w))
      made (h.within point w);
}

pub node_of_log : (program : Program) (start : Option ℚ) (log : List Entry) (number : ℕ) (node : Node) → AllFollow program.integral (record (root program) { bound = start } ∷ []) [] log → node_of (given_after (record (root program) { bound = start } ∷ []) log) number ≡ Some node → IsNodeOf program node
node_of_log program start log number node h e =
    let first = record (root program) { bound = start } in
    let all = follow_comes program (first ∷ []) [] log (root_comes program, tt) h in
    node_of_program program node (node_holds (λ n. Comes program n.box n.choices) (given_after (first ∷ []) log) number node all e)

-- a point that keeps the program's choices keeps those of a node
pub keeps_now : (own now : List Choice) (point : List ℚ) → AreStillOpen own now → KeepsChoices own point → KeepsChoices now point
keeps_now own now point s k column = kept (choice_at own column) (choice_at now column) (s column) (k column)
  where
    kept : (outer inner : Choice) → IsStillOpen outer inner → Allows outer (value_at point column) → Allows inner (value_at point column)
    kept outer Plain e a = tt
    kept outer (Open o) e a = subst (λ (c : Choice). Allows c (value_at point column)) (e refl) a
    kept outer Off e a = tt
    kept outer On e a = tt
