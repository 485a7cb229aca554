-- The way to the region in work: shorter, longer, and from node to node.
use Rattle.std.proofs.Common.{◌≡◌, ◌⊎◌, inl, inr, ℕ, zero, suc, ◌+◌, ◌-◌, ◌<◌, ◌≤◌, Bool, true, false, List, [], ◌∷◌, ◌++◌, length, map, take, drop, reverse, get_or, Option, None, Some, IfSome, All, refl, sym, ap, ◌∙◌, subst, arith}
use Rattle.std.specs.Prelude.{Result, Ok, Err, IsErr, IfOk}
use Rattle.std.proofs.lemmas.Bool.{cases_lt}
use Rattle.std.proofs.lemmas.Option.{none-some, same_Some, slice_get-get_or}
use Rattle.std.proofs.lemmas.List.{map-append, reverse-append, take_more, take-append-drop, length-take, get_or-take, length_push, get_or_append_left, get_or_push}
use Rattle.std.proofs.lemmas.List.Elements.{All-nil, All-push, All-take}
use Rattle.cip_rational.specs.Rational.{ℚ}
use Rattle.cip_problem.specs.Box.{IsInBox}
use Rattle.cip_domain.specs.Changes.{Region, Change, tightened, narrowed}
use Rattle.cip_domain.specs.Side.{Side}
use Rattle.cip_domain.specs.declared.stores.Tightened.{Tightened}
use Rattle.cip_domain.specs.declared.stores.Tightened.TheVariants.{Yes, Same, Empty}
use Rattle.cip_domain.specs.Domain.{Domain, region_of, region_at, KeepsMarks, after_tightening}
use Rattle.cip_domain.specs.Narrowing.{ArePlainPast, IsNarrowed}
use Rattle.cip_domain.proofs.Marks.{keeps_itself, one_more}
use Rattle.cip_tree.specs.declared.notes.Note.{Note}
use Rattle.cip_tree.specs.Origins.{Origin}
use Rattle.cip_tree.specs.declared.walks.Stop.{Stop}
use Rattle.cip_tree.specs.Notes.{noted_change, noted}
use Rattle.cip_tree.specs.Slots.{Slot, Slots, slot_at, above, HasParent, AreSoundSlots, IsLinked}
use Rattle.cip_tree.specs.Walks.{Way, last_stop, AreRising, AreHeld, AreNarrowed, Arrives, EndsThere, IsRegionAt, IsStop, IsWalked, IsParent, IsDescent, Climbs, StandsAt, IsReached}
use Rattle.cip_tree.proofs.Keeping.{same_slot}
use Rattle.cip_tree.proofs.Links.{first_above, up_of_kept, step_up}
use Rattle.cip_tree.specs.Origins.{filled, after}
use Rattle.cip_tree.proofs.Filled.{after_earlier, after_notes, after_plain, past_stays}
use Rattle.cip_tree.proofs.Within.{within_later, in_wider, within_itself}

-- ---- notes

pub noted-append : (a b : List Note) → noted (a ++ b) ≡ noted b ++ noted a
noted-append a b = ap reverse (map-append noted_change a b) ∙ reverse-append (map noted_change a) (map noted_change b)

noted_more : (notes : List Note) (i : ℕ) (note : Note) → i < length notes → note ≡ get_or notes i note → noted (take (i + 1) notes) ≡ noted_change note ∷ noted (take i notes)
noted_more notes i note l e =
    ap noted (take_more notes i note l) ∙ noted-append (take i notes) (get_or notes i note ∷ []) ∙ ap (λ n. noted_change n ∷ noted (take i notes)) (sym e)

-- a region after one note more
pub one_note_more : (first now new : Region) (notes : List Note) (i : ℕ) (note : Note) → i < length notes → note ≡ get_or notes i note → now ≡ narrowed first (noted (take i notes)) → new ≡ tightened now (noted_change note) → new ≡ narrowed first (noted (take (i + 1) notes))
one_note_more first now new notes i note l e f g =
    g ∙ ap (λ r. tightened r (noted_change note)) f ∙ sym (ap (narrowed first) (noted_more notes i note l e))

-- a point of a box after all changes is one after the first of them
pub after_first : (region : Region) (more earlier : List Change) (point : List ℚ) → IsInBox (narrowed region (more ++ earlier)).box point → IsInBox (narrowed region earlier).box point
after_first region more earlier point h =
    in_wider (narrowed region (more ++ earlier)).box (narrowed region earlier).box point (within_later region (narrowed region earlier).box more earlier (within_itself (narrowed region earlier).box)) h

-- where no point meets a note after those before it, none meets them all
pub none_by_notes : (first now : Region) (notes : List Note) (i : ℕ) (note : Note) → i < length notes → note ≡ get_or notes i note → now ≡ narrowed first (noted (take i notes)) → ((point : List ℚ) → ¬ IsInBox (tightened now (noted_change note)).box point) → (point : List ℚ) → ¬ IsInBox (narrowed first (noted notes)).box point
none_by_notes first now notes i note l e f h point k =
    let apart : noted notes ≡ noted (drop (i + 1) notes) ++ noted (take (i + 1) notes) = ap noted (sym (take-append-drop (i + 1) notes)) ∙ noted-append (take (i + 1) notes) (drop (i + 1) notes) in
    let back = after_first first (noted (drop (i + 1) notes)) (noted (take (i + 1) notes)) point (subst (λ c. IsInBox (narrowed first c).box point) apart k) in
    h point (subst (λ r. IsInBox (tightened r (noted_change note)).box point) (sym f) (subst (λ c. IsInBox (narrowed first c).box point) (noted_more notes i note l e) back))

-- ---- the last of the stops

pub last_index : (stops : List Stop) (stop : Stop) → last_stop stops ≡ Some stop → (0 < length stops) × ((d : Stop) → get_or stops (length stops - 1) d ≡ stop)
last_index [] stop e = absurd (none-some stop e)
last_index (s ∷ ss) stop e = (
  omega arith,
  λ d. same_Some _ stop (sym (slice_get-get_or (s ∷ ss) (length (s ∷ ss) - 1) d (omega arith)) ∙ e),
)

within_take : (k n : ℕ) (stops : List Stop) → k < length (take n stops) → k < n
within_take k n stops l = omega (arith, l, length-take n stops)

within_all : (k n : ℕ) (stops : List Stop) → k < length (take n stops) → k < length stops
within_all k n stops l = omega (arith, l, length-take n stops)

-- the first of the stops
pub rising_take : (stops : List Stop) (n : ℕ) → AreRising stops → AreRising (take n stops)
rising_take stops n h first second other l k =
    let m : second < n = within_take second n stops k in
    subst (λ (s : Stop). s.mark ≤ (get_or (take n stops) second other).mark) (sym (get_or-take n stops first other (omega (arith, l, m))))
    (subst (λ (s : Stop). (get_or stops first other).mark ≤ s.mark) (sym (get_or-take n stops second other m)) (h first second other l (within_all second n stops k)))

pub walked_take : (root : Region) (slots : Slots) (ids n : ℕ) (old new : Way) → new.domain ≡ old.domain → new.stops ≡ take n old.stops → IsWalked root slots ids old → IsWalked root slots ids new
walked_take root slots ids n old new e f w = record {
  plain = w.plain;
  first = ap (λ d. region_at d 0) e ∙ w.first;
  given = w.given;
  stops = subst (λ d. All (IsStop root slots ids d) new.stops) (sym e) (subst (All (IsStop root slots ids old.domain)) (sym f) (All-take (IsStop root slots ids old.domain) n old.stops w.stops));
}

-- a way with one stop more, whose mark is no earlier
pub rising_longer : (stops : List Stop) (last : Stop) → AreRising stops → All (λ stop. stop.mark ≤ last.mark) stops → AreRising (stops ++ last ∷ [])
rising_longer stops last h k first second other l m = elim (cases_lt second (length stops)) [
  | inl b ↦
      subst (λ (s : Stop). s.mark ≤ (get_or (stops ++ last ∷ []) second other).mark) (sym (get_or_append_left stops (last ∷ []) other first (omega (arith, l, b))))
      (subst (λ (s : Stop). (get_or stops first other).mark ≤ s.mark) (sym (get_or_append_left stops (last ∷ []) other second b)) (h first second other l b))
  | inr b ↦
      let at : second ≡ length stops = omega (arith, b, m, length_push stops last) in
      let here : get_or (stops ++ last ∷ []) second other ≡ last = get_or_push stops last other second (sym at) in
      subst (λ (s : Stop). (get_or (stops ++ last ∷ []) first other).mark ≤ s.mark) (sym here) (before (cases_lt first (length stops)))
]
  where
    before : (first < length stops) ⊎ (length stops ≤ first) → (get_or (stops ++ last ∷ []) first other).mark ≤ last.mark
    before (inl b) = subst (λ (s : Stop). s.mark ≤ last.mark) (sym (get_or_append_left stops (last ∷ []) other first b)) (k first other b)
    before (inr b) = omega (arith, ap (λ (s : Stop). s.mark) (get_or_push stops last other first (omega (arith, b, l, m, length_push stops last))))

-- each mark is no later than the last
pub rising_last : (stops : List Stop) (stop : Stop) → AreRising stops → last_stop stops ≡ Some stop → All (λ other. other.mark ≤ stop.mark) stops
rising_last stops stop h e =
    let i = last_index stops stop e in
    λ k d l. subst (λ (s : Stop). (get_or stops k d).mark ≤ s.mark) (i.1 d) (h k (length stops - 1) d (omega (arith, l)) (omega (arith, i.0)))

-- ---- another region in work

-- where the marks on the way stand still, it is still one
pub walked_kept : (root : Region) (slots : Slots) (ids : ℕ) (old new : Way) → new.stops ≡ old.stops → ((mark : ℕ) → mark ≤ 0 → region_at new.domain mark ≡ region_at old.domain mark) → All (λ (stop : Stop). region_at new.domain stop.mark ≡ region_at old.domain stop.mark) old.stops → IsWalked root slots ids old → IsWalked root slots ids new
walked_kept root slots ids old new e first same w = record {
  plain = w.plain;
  first = first 0 (omega arith) ∙ w.first;
  given = w.given;
  stops = subst (All (IsStop root slots ids new.domain)) (sym e) (λ k d l. let s = w.stops k d l in record {
    given = s.given;
    there = λ place slot f g. same k d l ∙ s.there place slot f g;
  });
}

pub tightening_keeps : (answer : Tightened) (old new : Domain) (column : ℕ) (side : Side) (value : ℚ) → new ≡ after_tightening answer old column side value → KeepsMarks old new
tightening_keeps Yes old new column side value e = subst (KeepsMarks old) (sym e) (record {
  grows = omega (arith, length_push old.before (region_of old));
  same = λ mark l. one_more old.before (region_of old) (region_of (after_tightening Yes old column side value)) mark l;
})
tightening_keeps Same old new column side value e = subst (KeepsMarks old) (sym e) (keeps_itself old)
tightening_keeps Empty old new column side value e = subst (KeepsMarks old) (sym e) (keeps_itself old)

pub walked_marks : (root : Region) (slots : Slots) (ids : ℕ) (old new : Way) → new.stops ≡ old.stops → AreHeld old.domain old.stops → KeepsMarks old.domain new.domain → IsWalked root slots ids old → IsWalked root slots ids new
walked_marks root slots ids old new e held keeps w =
    walked_kept root slots ids old new e (λ mark l. keeps.same mark (omega (arith, l))) (λ k d l. keeps.same _ (held k d l)) w

-- marks that were held are held where marks are kept
pub held_longer : (old new : Domain) (stops : List Stop) → AreHeld old stops → KeepsMarks old new → AreHeld new stops
held_longer old new stops h keeps = λ k d l. omega (arith, h k d l, keeps.grows)

-- a stop at the end of the way, where the region stands
pub way_longer : (old new : Domain) (stops : List Stop) (last : Stop) → AreRising stops → AreHeld old stops
    → KeepsMarks old new → last.mark ≡ length new.before
    → AreRising (stops ++ last ∷ []) × AreHeld new (stops ++ last ∷ [])
way_longer old new stops last rising held keeps e = (
  rising_longer stops last rising (λ k d l. omega (arith, held k d l, keeps.grows, e)),
  All-push (λ (stop : Stop). stop.mark ≤ length new.before) stops last (held_longer old new stops held keeps)
      (omega (arith, e)),
)

-- no stop, and one at the root
pub none_rise : (domain : Domain) → AreRising [] × AreHeld domain []
none_rise domain = (λ first second other a b. absurd (omega (arith, b)), All-nil _)

pub one_rises : (domain : Domain) (stop : Stop) → stop.mark ≡ 0 → AreRising (stop ∷ []) × AreHeld domain (stop ∷ [])
one_rises domain stop e = (
  rising_longer [] stop (none_rise domain).0 (All-nil _),
  All-push (λ (s : Stop). s.mark ≤ length domain.before) [] stop (All-nil _) (omega (arith, e)),
)

-- ---- other slots

-- where nodes of numbers that were given are as they were, the way is still one
pub walked_slots : (root : Region) (old new : Slots) (ids more : ℕ) (way : Way) → ids ≤ more → ((place : ℕ) (slot : Slot) → slot_at new place ≡ Some slot → slot.number < more) → ((place : ℕ) (slot : Slot) → slot_at new place ≡ Some slot → slot.number < ids → (before : ℕ) × ((was : Slot) × ((slot_at old before ≡ Some was) × ((was.number ≡ slot.number) × (above slot.number new slot.origin ≡ above was.number old was.origin))))) → IsWalked root old ids way → IsWalked root new more way
walked_slots root old new ids more way l given was w = record {
  plain = w.plain;
  first = w.first;
  given = given;
  stops = λ k d m. let s = w.stops k d m in record {
    given = omega (arith, l, s.given);
    there = λ place slot e f.
        let b = was place slot e (subst (λ n. n < ids) (sym f) s.given) in
        s.there b.0 b.1.0 b.1.1.0 (b.1.1.1.0 ∙ f) ∙ ap (after root) (sym b.1.1.1.1);
  };
}

-- ---- from parent to parent

-- the number of the node at a place, 0 where none is kept
abbrev pub number_of : Option Slot → ℕ
number_of None = 0
number_of (Some slot) = slot.number

abbrev pub number_at : Slots → ℕ → ℕ
number_at slots place = number_of (slot_at slots place)

-- what is kept of a parent
pub parent_kept : (slots : Slots) (place parent : ℕ) → AreSoundSlots slots → (p : IsParent slots place parent) → HasParent slots p.slot (record { parent = parent; change = p.change })
parent_kept slots place parent kept p = subst (λ o. IfSome o (HasParent slots p.slot)) p.origin (kept.parents place p.slot p.found)

-- it has a lower number
pub parent_lower : (slots : Slots) (place parent : ℕ) → AreSoundSlots slots → IsParent slots place parent → number_at slots parent < number_at slots place
parent_lower slots place parent kept p =
    let h = parent_kept slots place parent kept p in
    omega (arith, h.lower, ap number_of h.found, ap number_of p.found)

-- the changes of a node are those of its parent, and the one that gave it
pub parent_above : (slots : Slots) (place parent : ℕ) (kept : AreSoundSlots slots) (p : IsParent slots place parent) → above p.slot.number slots p.slot.origin ≡ p.change ∷ (noted (parent_kept slots place parent kept p).parent.notes ++ above (parent_kept slots place parent kept p).parent.number slots (parent_kept slots place parent kept p).parent.origin)
parent_above slots place parent kept p =
    let h = parent_kept slots place parent kept p in
    ap (above p.slot.number slots) p.origin
    ∙ first_above slots (up_of_kept slots kept) p.slot.number (record { parent = parent; change = p.change }) (record { parent = h.parent; found = h.found; lower = h.lower })

-- one step more of a climb
pub climbs_more : (slots : Slots) (place : ℕ) (places : List ℕ) (top next : ℕ) → Climbs slots place places top → IsParent slots top next → Climbs slots place (places ++ top ∷ []) next
climbs_more slots place [] top next e p = (sym e, (next, (subst (λ t. IsParent slots t next) (sym e) p, refl)))
climbs_more slots place (first ∷ rest) top next c p =
    (c.0, (c.1.0, (c.1.1.0, climbs_more slots c.1.0 rest top next c.1.1.1 p)))

-- and one less
pub climbs_less : (slots : Slots) (place : ℕ) (places : List ℕ) (last top : ℕ) → Climbs slots place (places ++ last ∷ []) top → Climbs slots place places last × IsParent slots last top
climbs_less slots place [] last top c =
    let p : IsParent slots place top = subst (IsParent slots place) c.1.1.1 c.1.1.0 in
    (sym c.0, subst (λ t. IsParent slots t top) (sym c.0) p)
climbs_less slots place (first ∷ rest) last top c =
    let r = climbs_less slots c.1.0 rest last top c.1.1.1 in
    ((c.0, (c.1.0, (c.1.1.0, r.0))), r.1)

-- where the box of a node has no point, those of the nodes below it have none
pub empty_below : (root : Region) (slots : Slots) (place parent : ℕ) → AreSoundSlots slots → IsParent slots place parent → ((slot : Slot) → slot_at slots parent ≡ Some slot → (point : List ℚ) → ¬ IsInBox (after root (above slot.number slots slot.origin)).box point) → (slot : Slot) → slot_at slots place ≡ Some slot → (point : List ℚ) → ¬ IsInBox (after root (above slot.number slots slot.origin)).box point
empty_below root slots place parent kept p h slot e point k =
    let u = parent_kept slots place parent kept p in
    let same : p.slot ≡ slot = same_slot slots place p.slot slot p.found e in
    let k' = subst (λ c. IsInBox (after root c).box point) (parent_above slots place parent kept p) (subst (λ (s : Slot). IsInBox (after root (above s.number slots s.origin)).box point) (sym same) k) in
    h u.parent u.found point (after_earlier root (p.change ∷ noted u.parent.notes) (above u.parent.number slots u.parent.origin) point k')

pub empty_down : (root : Region) (slots : Slots) (place : ℕ) (places : List ℕ) (top : ℕ) → AreSoundSlots slots → Climbs slots place places top → ((slot : Slot) → slot_at slots top ≡ Some slot → (point : List ℚ) → ¬ IsInBox (after root (above slot.number slots slot.origin)).box point) → (slot : Slot) → slot_at slots place ≡ Some slot → (point : List ℚ) → ¬ IsInBox (after root (above slot.number slots slot.origin)).box point
empty_down root slots place [] top kept e h slot f = h slot (ap (slot_at slots) (sym e) ∙ f)
empty_down root slots place (first ∷ rest) top kept c h slot f =
    empty_below root slots place c.1.0 kept c.1.1.0 (empty_down root slots c.1.0 rest top kept c.1.1.1 h) slot f

-- ---- where the way ends

-- the region at the mark of the last stop is that of the node there
pub there_at_last : (root : Region) (slots : Slots) (ids : ℕ) (way : Way) (place : ℕ) (stop : Stop) → IsWalked root slots ids way → EndsThere slots way.stops place → last_stop way.stops ≡ Some stop → IsRegionAt root slots place (region_at way.domain stop.mark)
there_at_last root slots ids way place stop w e last slot f =
    let same : stop ≡ e.ends.stop = same_Some stop e.ends.stop (sym last ∙ e.ends.last) in
    let here : e.slot ≡ slot = same_slot slots place e.slot slot e.found f in
    let i = last_index way.stops stop last in
    let s : IsStop root slots ids way.domain stop = subst (IsStop root slots ids way.domain) (i.1 stop) (w.stops (length way.stops - 1) stop (omega (arith, i.0))) in
    s.there place slot f (sym (ap (λ (t : Slot). t.number) here) ∙ sym e.ends.number_is ∙ ap (λ (t : Stop). t.number) (sym same))

-- ---- one step down

-- whatever a failed step says of its result holds
pub if_failed : {X E : Type 0} (P : X → Type 0) (r : Result X E) → IsErr r → IfOk r P
if_failed P (Ok x) e = absurd (let g : false ≡ true = e in cc)
if_failed P (Err e) h = tt

module _ (root : Region) (slots : Slots) (place : ℕ) (kept : AreSoundSlots slots) (s : Slot) (here : slot_at slots place ≡ Some s) (o : Origin) (from : s.origin ≡ Some o) (u : Slot) (up : slot_at slots o.parent ≡ Some u) where
  above_read : above s.number slots s.origin ≡ o.change ∷ (noted u.notes ++ above u.number slots u.origin)
  above_read =
      let link : IsLinked slots s.number s.origin = record { here = up_of_kept slots kept place s here; up = up_of_kept slots kept } in
      step_up slots s.number s.origin o u link from up

  -- a point in the node's box lies in the parent's after the parent's own work
  in_parent : (point : List ℚ) → IsInBox (after root (above s.number slots s.origin)).box point → IsInBox (tightened (narrowed (after root (above u.number slots u.origin)) (noted u.notes)) (filled root.choices o.change)).box point
  in_parent point k =
      subst (λ r. IsInBox (tightened r (filled root.choices o.change)).box point) (after_notes root u.notes (above u.number slots u.origin))
      (subst (λ c. IsInBox (after root c).box point) above_read k)

  module _ (parent : ℕ) (p : IsParent slots place parent) where
    same_parent : parent ≡ o.parent
    same_parent =
        ap (λ (t : Origin). t.parent) (same_Some (record { parent = parent; change = p.change }) o (sym p.origin ∙ ap (λ (t : Slot). t.origin) (same_slot slots place p.slot s p.found here) ∙ from))

    module _ (ids : ℕ) (old : Way) (st : StandsAt root slots ids old parent) where
      now_is : region_of old.domain ≡ after root (above u.number slots u.origin)
      now_is = st.region u (ap (slot_at slots) same_parent ∙ up)

      now_plain : ArePlainPast (region_of old.domain)
      now_plain = subst ArePlainPast (sym now_is) (after_plain root (above u.number slots u.origin) st.walked.plain)

      not_reached : (new : Way) → ((point : List ℚ) → ¬ IsInBox (tightened (narrowed (region_of old.domain) (noted u.notes)) (filled root.choices o.change)).box point) → IsReached root slots place (region_of new.domain) false
      not_reached new h slot f point k =
          h point (subst (λ r. IsInBox (tightened (narrowed r (noted u.notes)) (filled root.choices o.change)).box point) (sym now_is)
          (in_parent point (subst (λ (t : Slot). IsInBox (after root (above t.number slots t.origin)).box point) (same_slot slots place slot s f here) k)))

      module _ (new : Way) (held : AreHeld old.domain old.stops) where
        -- memory was refused
        pub step_failed : {E : Type 0} (r : Result Bool E) → new.stops ≡ old.stops → KeepsMarks old.domain new.domain → IsErr r → Arrives root slots ids new place r
        step_failed r e keeps f = record {
          walked = walked_marks root slots ids old new e held keeps st.walked;
          reached = if_failed (IsReached root slots place (region_of new.domain)) r f;
        }

        -- no point meets the notes and the change that gave the node
        pub step_empty : {E : Type 0} → new.stops ≡ old.stops → KeepsMarks old.domain new.domain → (ArePlainPast (region_of old.domain) → AreNarrowed (region_of old.domain) (region_of new.domain) (filled root.choices o.change ∷ noted u.notes) false) → Arrives {E = E} root slots ids new place (Ok false)
        step_empty e keeps h = record {
          walked = walked_marks root slots ids old new e held keeps st.walked;
          reached = not_reached new (h now_plain);
        }

        -- the node is reached
        module _ (h : ArePlainPast (region_of old.domain) → AreNarrowed (region_of old.domain) (region_of new.domain) (filled root.choices o.change ∷ noted u.notes) true) where
          arrived : IsRegionAt root slots place (region_of new.domain)
          arrived slot f =
              h now_plain ∙ ap (λ r. tightened r (filled root.choices o.change)) (ap (λ r. narrowed r (noted u.notes)) now_is ∙ sym (after_notes root u.notes (above u.number slots u.origin)))
              ∙ sym (ap (after root) above_read) ∙ ap (λ (t : Slot). after root (above t.number slots t.origin)) (same_slot slots place s slot here f)

          pub step_taken : {E : Type 0} (stop : Stop) → new.stops ≡ old.stops ++ stop ∷ [] → KeepsMarks old.domain new.domain → stop.number ≡ s.number → region_at new.domain stop.mark ≡ region_of new.domain → Arrives {E = E} root slots ids new place (Ok true)
          step_taken stop e keeps n m = record {
            walked = record {
              plain = st.walked.plain;
              first = keeps.same 0 (omega arith) ∙ st.walked.first;
              given = st.walked.given;
              stops = subst (All (IsStop root slots ids new.domain)) (sym e) (All-push (IsStop root slots ids new.domain) old.stops stop
                  (λ k d l. let t = st.walked.stops k d l in record { given = t.given; there = λ q slot f i. keeps.same _ (held k d l) ∙ t.there q slot f i })
                  (record {
                    given = subst (λ k. k < ids) (sym n) (st.walked.given place s here);
                    there = λ q slot f i. m ∙ arrived slot (ap (slot_at slots) (kept.apart place q s slot here f (sym n ∙ sym i)) ∙ f);
                  }));
            };
            reached = λ slot f. arrived slot f;
          }

-- the same by how the node is reached
module _ (root : Region) (slots : Slots) (place number : ℕ) (notes : List Note) (o : Origin) (kept : AreSoundSlots slots) (d : IsDescent slots place number notes o) (ids parent : ℕ) (p : IsParent slots place parent) (old new : Way) (held : AreHeld old.domain old.stops) (st : StandsAt root slots ids old parent) where
  pub descent_failed : {E : Type 0} (r : Result Bool E) → new.stops ≡ old.stops → KeepsMarks old.domain new.domain → IsErr r → Arrives root slots ids new place r
  descent_failed r e keeps f = step_failed root slots place kept d.slot d.found o d.origin_is d.parent d.parent_found parent p ids old st new held r e keeps f

  pub descent_empty : {E : Type 0} → new.stops ≡ old.stops → KeepsMarks old.domain new.domain → (ArePlainPast (region_of old.domain) → AreNarrowed (region_of old.domain) (region_of new.domain) (filled root.choices o.change ∷ noted notes) false) → Arrives {E = E} root slots ids new place (Ok false)
  descent_empty e keeps h =
      step_empty root slots place kept d.slot d.found o d.origin_is d.parent d.parent_found parent p ids old st new held e keeps
      (subst (λ l. ArePlainPast (region_of old.domain) → AreNarrowed (region_of old.domain) (region_of new.domain) (filled root.choices o.change ∷ noted l) false) d.notes_are h)

  pub descent_taken : {E : Type 0} (mark : ℕ) → new.stops ≡ old.stops ++ record { number = number; mark = mark } ∷ [] → KeepsMarks old.domain new.domain → (ArePlainPast (region_of old.domain) → AreNarrowed (region_of old.domain) (region_of new.domain) (filled root.choices o.change ∷ noted notes) true) → region_at new.domain mark ≡ region_of new.domain → Arrives {E = E} root slots ids new place (Ok true)
  descent_taken mark e keeps h m =
      step_taken root slots place kept d.slot d.found o d.origin_is d.parent d.parent_found parent p ids old st new held
      (subst (λ l. ArePlainPast (region_of old.domain) → AreNarrowed (region_of old.domain) (region_of new.domain) (filled root.choices o.change ∷ noted l) true) d.notes_are h)
      (record { number = number; mark = mark }) e keeps d.number_is m

-- notes that no point meets with another change
pub none_more : (before : Region) (change : Change) (earlier : List Change) → ((point : List ℚ) → ¬ IsInBox (narrowed before earlier).box point) → (point : List ℚ) → ¬ IsInBox (narrowed before (change ∷ earlier)).box point
none_more before change earlier h point k = h point (after_first before (change ∷ []) earlier point k)

-- after notes, a region after another change
more_narrowed : {E : Type 0} (before mid after : Region) (change : Change) (earlier : List Change) (r : Result Bool E) → mid ≡ narrowed before earlier → IfOk r (IsNarrowed mid after change) → IfOk r (AreNarrowed before after (change ∷ earlier))
more_narrowed before mid after change earlier (Ok true) e h = h ∙ ap (λ r. tightened r change) e
more_narrowed before mid after change earlier (Ok false) e h = λ point k. h point (subst (λ r. IsInBox (tightened r change).box point) (sym e) k)
more_narrowed before mid after change earlier (Err x) e h = tt

pub narrowed_more : {E : Type 0} (before mid after : Region) (notes : List Note) (change : Change) (r : Result Bool E) → (ArePlainPast before → AreNarrowed before mid (noted notes) true) → (ArePlainPast mid → IfOk r (IsNarrowed mid after change)) → ArePlainPast before → IfOk r (AreNarrowed before after (change ∷ noted notes))
narrowed_more before mid after notes change r f g p =
    let e : mid ≡ narrowed before (noted notes) = f p in
    more_narrowed before mid after change (noted notes) r e (g (subst ArePlainPast (sym e) (past_stays before (noted notes) p)))

-- the region at the last mark is the one that stands
pub mark_here : (domain : Domain) (mark : ℕ) → mark ≡ length domain.before → region_at domain mark ≡ region_of domain
mark_here domain mark e = get_or_push domain.before (region_of domain) (region_of domain) mark (sym e)

-- the mark of the last stop can be brought back
pub held_at_last : (domain : Domain) (stops : List Stop) (stop : Stop) → AreHeld domain stops → last_stop stops ≡ Some stop → stop.mark ≤ length domain.before
held_at_last domain stops stop h e =
    let i = last_index stops stop e in
    subst (λ (s : Stop). s.mark ≤ length domain.before) (i.1 stop) (h (length stops - 1) stop (omega (arith, i.0)))

-- each parent is kept
pub parent_missing : (slots : Slots) (place : ℕ) (s : Slot) (o : Origin) → AreSoundSlots slots → slot_at slots place ≡ Some s → s.origin ≡ Some o → slot_at slots o.parent ≡ None → ⊥
parent_missing slots place s o kept here from none =
    let h : HasParent slots s o = subst (λ x. IfSome x (HasParent slots s)) from (kept.parents place s here) in
    none-some h.parent (sym none ∙ h.found)

-- ---- all steps down

pub arrives_failed : {E F : Type 0} (root : Region) (slots : Slots) (ids : ℕ) (way : Way) (at place : ℕ) (was : Result Bool E) (r : Result Bool F) → Arrives root slots ids way at was → IsErr r → Arrives root slots ids way place r
arrives_failed root slots ids way at place was r a e = record {
  walked = a.walked;
  reached = if_failed (IsReached root slots place (region_of way.domain)) r e;
}

-- where a node on the way down has no point in its box, the last one has none
pub arrives_none : {E F : Type 0} (root : Region) (slots : Slots) (ids : ℕ) (way : Way) (place : ℕ) (places : List ℕ) (at : ℕ) → AreSoundSlots slots → Climbs slots place places at → Arrives {E = E} root slots ids way at (Ok false) → Arrives {E = F} root slots ids way place (Ok false)
arrives_none root slots ids way place places at kept c a = record {
  walked = a.walked;
  reached = empty_down root slots place places at kept c a.reached;
}

pub steps_on : {E : Type 0} (root : Region) (slots : Slots) (ids : ℕ) (way : Way) (at : ℕ) → Arrives {E = E} root slots ids way at (Ok true) → StandsAt root slots ids way at
steps_on root slots ids way at a = record { walked = a.walked; region = a.reached }

pub arrives_here : {E : Type 0} (root : Region) (slots : Slots) (ids : ℕ) (way : Way) (place : ℕ) (places : List ℕ) (top : ℕ) → StandsAt root slots ids way top → Climbs slots place places top → places ≡ [] → Arrives {E = E} root slots ids way place (Ok true)
arrives_here root slots ids way place places top st c e =
    let same : place ≡ top = subst (λ l. Climbs slots place l top) e c in
    record { walked = st.walked; reached = λ slot f. st.region slot (ap (slot_at slots) (sym same) ∙ f) }

pub no_items : {X : Type 0} (xs : List X) → length xs ≡ 0 → xs ≡ []
no_items [] e = refl
no_items (x ∷ xs) e = absurd (omega (arith, e))

-- ---- a way that begins anew

above_none : (n : ℕ) (slots : Slots) → above n slots None ≡ []
above_none zero slots = refl
above_none (suc n) slots = refl

pub walked_root : (root : Region) (slots : Slots) (ids place : ℕ) (s : Slot) (old new : Way) → AreSoundSlots slots → slot_at slots place ≡ Some s → s.origin ≡ None → new.domain ≡ old.domain → new.stops ≡ (let stop : Stop = record { number = s.number; mark = 0 } in stop) ∷ [] → IsWalked root slots ids old → IsWalked root slots ids new
walked_root root slots ids place s old new kept here none e f w =
    let first : region_at new.domain 0 ≡ root = ap (λ d. region_at d 0) e ∙ w.first in
    record {
      plain = w.plain;
      first = first;
      given = w.given;
      stops = subst (All (IsStop root slots ids new.domain)) (sym f) (All-push (IsStop root slots ids new.domain) [] (let stop : Stop = record { number = s.number; mark = 0 } in stop) (λ k d l. absurd (omega (arith, l)))
          (record {
            given = w.given place s here;
            there = λ q slot g i.
                let same : s ≡ slot = same_slot slots place s slot here (ap (slot_at slots) (kept.apart place q s slot here g (sym i)) ∙ g) in
                first ∙ sym (ap (after root) (ap (λ (t : Slot). above t.number slots t.origin) (sym same) ∙ ap (above s.number slots) none ∙ above_none s.number slots));
          }));
    }
