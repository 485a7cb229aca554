-- The log stays right, and knows the nodes that are kept.
use Rattle.cip_tree.specs.declared.notes.Note.{Note}
use Rattle.cip_tree.specs.Notes.{noted}
use Rattle.cip_domain.specs.Changes.{Region}
use Rattle.cip_tree.specs.Nodes.{node_in, region_in}
use Rattle.std.proofs.lemmas.List.Elements.{All-map}
use Rattle.std.proofs.Common.{◌≡◌, ◌≢◌, ◌⊎◌, inl, inr, ℕ, ◌+◌, ◌<◌, ◌≤◌, ℤ, Bool, true, false, List, [], ◌∷◌, ◌++◌, get_or, Option, None, Some, refl, sym, ap, ◌∙◌, subst, arith, All}
use Rattle.std.proofs.lemmas.Bool.{cases_eq}
use Rattle.std.proofs.lemmas.List.{append-nil}
use Rattle.std.proofs.lemmas.Option.{none-some, same_Some}
use Rattle.cip_rational.specs.Rational.{ℚ}
use Rattle.cip_problem.specs.Log.{Entry, Node, Split, Closed, Parked, low_node, high_node, node_of, halves, nodes_of, CanSplit, IsRightEnd}
use Rattle.cip_domain.specs.Changes.{Change, tightened}
use Rattle.cip_tree.specs.declared.kept.Stage.{Stage}
use Rattle.cip_tree.specs.declared.kept.Stage.TheVariants.{Open, Taken, Parked, Ended}
use Rattle.cip_tree.specs.Origins.{Origin, filled, after}
use Rattle.cip_tree.proofs.Filled.{after_within, after_choices}
use Rattle.cip_tree.specs.declared.queue.OpenNode.{OpenNode}
use Rattle.cip_tree.specs.Slots.{Slot, Slots, slot_at, open_slot, above, AreSoundSlots, IsRestaged, IsReleased, IsParted, slot_changes, changes_at}
use Rattle.cip_tree.specs.Nodes.{Base}
use Rattle.cip_tree.specs.Inside.{bases, StandsAs, IsInOrder, node_at, nodes_at}
use Rattle.cip_tree.specs.Freed.{AreReleased}
use Rattle.cip_tree.specs.Searched.{IsSearched, HasNotEnded, IsOpenIn}
use Rattle.cip_tree.specs.Tracked.{IsWithin, given_by, IsGiven, is_live, IsTracked}
use Rattle.cip_tree.proofs.Keeping.{same_slot}
use Rattle.cip_tree.proofs.Paths.{same_up, IsInWork, in_work}
use Rattle.cip_tree.proofs.Restaged as restaged
use Rattle.cip_tree.proofs.Orders.{released_keeps}
use Rattle.cip_tree.proofs.Freeing.{Anywhere, freed_keeps}
use Rattle.cip_tree.proofs.Parted as parted
use Rattle.cip_tree.proofs.Within.{within_itself, within_low, within_high, low_choices, high_choices, split_within, in_wider}
use Rattle.cip_problem.proofs.Log.Entering.{node_of_kept, node_of_new, node_of_here, node_of_later, given_more, follow_more, taken_more, taken_given, node_of_number}

-- ---- the first log

pub tracked_root : (region : Region) (integral : List Bool) (bound : Option ℚ) (slots : Slots) (place : ℕ) → slot_at slots place ≡ Some (open_slot 0 None) → ((other : ℕ) → other ≢ place → slot_at slots other ≡ None) → IsTracked (node_in region 0 bound) integral slots 1 []
tracked_root region integral bound slots place here others = record {
  searched = tt;
  free = λ number l. node_of_later (node_in region 0 bound) [] number (λ e. omega (arith, e, l));
  given = λ k s e. subst (IsGiven region slots (node_in region 0 bound ∷ [])) (only k s e) (record { node = node_in region 0 bound; found = refl; within = within_itself region.box; choices_are = refl });
  live = λ k s e l c. omega (arith, c.1);
}
  where
    only : (k : ℕ) (s : Slot) → slot_at slots k ≡ Some s → open_slot 0 None ≡ s
    only k s e = elim (cases_eq k place) [
      | inl same ↦ same_Some (open_slot 0 None) s (sym here ∙ ap (slot_at slots) (sym same) ∙ e)
      | inr apart ↦ absurd (none-some s (sym (others k apart) ∙ e))
    ]

-- ---- slots that were there before

-- the node in a slot was kept there, with the same changes above it, and was live if it is
pub record WasKept (old new : Slots) (place : ℕ) (slot : Slot) : Type 0 where
  pub before : Slot
  pub found : slot_at old place ≡ Some before
  pub number : before.number ≡ slot.number
  pub above_is : above slot.number new slot.origin ≡ above before.number old before.origin
  pub live : is_live slot.stage ≡ true → is_live before.stage ≡ true

abbrev pub AllWereKept : Slots → Slots → Type 0
AllWereKept old new = (place : ℕ) (slot : Slot) → slot_at new place ≡ Some slot → WasKept old new place slot

given_still : (root : Region) (old new : Slots) (given : List Node) (place : ℕ) (slot : Slot) (w : WasKept old new place slot) → IsGiven root old given w.before → IsGiven root new given slot
given_still root old new given place slot w g = record {
  node = g.node;
  found = ap (node_of given) (sym w.number) ∙ g.found;
  within = subst (λ c. IsWithin (after root c).box g.node.box) (sym w.above_is) g.within;
  choices_are = ap (λ c. (after root c).choices) w.above_is ∙ g.choices_are;
}

-- more nodes are given
given_also : (root : Region) (slots : Slots) (given more : List Node) (slot : Slot) → IsGiven root slots given slot → IsGiven root slots (given ++ more) slot
given_also root slots given more slot g = record {
  node = g.node;
  found = node_of_kept given more slot.number g.node g.found;
  within = g.within;
  choices_are = g.choices_are;
}

module _ (root : Node) (integral : List Bool) (old new : Slots) (ids : ℕ) (log : List Entry) (t : IsTracked root integral old ids log) where
  -- the log is as it was
  pub same_log : AllWereKept old new → IsTracked root integral new ids log
  same_log was = record {
    searched = t.searched;
    free = t.free;
    given = λ k s e. let w = was k s e in given_still (region_in root) old new (given_by root log) k s w (t.given k w.before w.found);
    live = λ k s e l. let w = was k s e in subst (HasNotEnded log) w.number (t.live k w.before w.found (w.live l));
  }

  -- a live node has one entry more
  module _ (entry : Entry) (n : ℕ) (here : Slot) (kept : AreSoundSlots old) (found : slot_at old n ≡ Some here) (live : is_live here.stage ≡ true) (number : here.number ≡ entry.node) where
    abbrev pub node_given : IsGiven (region_in root) old (given_by root log) here
    node_given = t.given n here found

    is_given : node_of (given_by root log) entry.node ≡ Some node_given.node
    is_given = ap (node_of (given_by root log)) (sym number) ∙ node_given.found

    followed : IsRightEnd integral (given_by root log) node_given.node entry.end → IsSearched integral root (log ++ entry ∷ [])
    followed right = follow_more integral (root ∷ []) [] log entry node_given.node t.searched is_given (λ c. omega (arith, c.1)) (subst (HasNotEnded log) number (t.live n here found live)) right

    more_given : given_by root (log ++ entry ∷ []) ≡ given_by root log ++ nodes_of (given_by root log) entry
    more_given = given_more (root ∷ []) log entry

    still_not : (m : ℕ) → HasNotEnded log m → m ≢ entry.node → HasNotEnded (log ++ entry ∷ []) m
    still_not m h d = λ c. elim (taken_more log entry m c) [
      | inl a ↦ absurd (h a)
      | inr e ↦ absurd (d (sym e))
    ]

    -- another node has another number
    other_number : (k : ℕ) (s : Slot) → slot_at old k ≡ Some s → k ≢ n → s.number ≢ entry.node
    other_number k s e d = λ f. d (kept.apart k n s here e found (f ∙ sym number))

    -- it is closed or put aside
    pub ended_log : IsRightEnd integral (given_by root log) node_given.node entry.end → nodes_of (given_by root log) entry ≡ [] → AllWereKept old new → ((k : ℕ) (s : Slot) → slot_at new k ≡ Some s → is_live s.stage ≡ true → k ≢ n) → IsTracked root integral new ids (log ++ entry ∷ [])
    ended_log right none was apart =
        let same : given_by root (log ++ entry ∷ []) ≡ given_by root log = more_given ∙ ap (λ l. given_by root log ++ l) none ∙ append-nil (given_by root log) in
        record {
          searched = followed right;
          free = λ m l. ap (λ g. node_of g m) same ∙ t.free m l;
          given = λ k s e. let w = was k s e in subst (λ g. IsGiven (region_in root) new g s) (sym same) (given_still (region_in root) old new (given_by root log) k s w (t.given k w.before w.found));
          live = λ k s e l.
              let w = was k s e in
              subst (HasNotEnded (log ++ entry ∷ [])) w.number (still_not w.before.number (t.live k w.before w.found (w.live l)) (other_number k w.before w.found (apart k s e l)));
        }

none_closed : (node : Option Node) (bound : Option ℚ) → halves node bound Closed ≡ []
none_closed None bound = refl
none_closed (Some node) bound = refl

none_parked : (node : Option Node) (bound : Option ℚ) → halves node bound Parked ≡ []
none_parked None bound = refl
none_parked (Some node) bound = refl

pub live_taken : (stage : Stage) → stage ≡ Taken → is_live stage ≡ true
live_taken stage e = ap is_live e

pub live_open : (stage : Stage) → stage ≡ Open → is_live stage ≡ true
live_open stage e = ap is_live e

live_stays : (stage : Stage) → is_live stage ≡ true → stage ≢ Ended
live_stays stage e f = let g : false ≡ true = sym (ap is_live f) ∙ e in cc

-- ---- the open nodes

module _ (root : Node) (integral : List Bool) (slots : Slots) (ids : ℕ) (log : List Entry) (t : IsTracked root integral slots ids log) where
  open_in : (e : OpenNode) → StandsAs Open slots e → IsOpenIn root log (node_at (region_in root) slots e)
  open_in e s =
      let g = t.given e.place s.slot s.found in
      let changes = sym (ap (slot_changes slots) s.found) in
      let within : IsWithin (after (region_in root) (changes_at slots e.place)).box g.node.box =
      subst (λ c. IsWithin (after (region_in root) c).box g.node.box) changes (after_within (region_in root) g.node.box (noted s.slot.notes) (above s.slot.number slots s.slot.origin) g.within) in
      record {
        given = g.node;
        number = node_of_number (given_by root log) s.slot.number g.node g.found ∙ s.number;
        found = ap (node_of (given_by root log)) (sym s.number) ∙ g.found;
        choices_are = sym (sym (ap (λ c. (after (region_in root) c).choices) changes) ∙ after_choices (region_in root) s.slot.notes (above s.slot.number slots s.slot.origin) ∙ g.choices_are);
        holds = λ point h. in_wider (after (region_in root) (changes_at slots e.place)).box g.node.box point within h;
        unended = subst (HasNotEnded log) s.number (t.live e.place s.slot s.found (live_open s.slot.stage s.stage_is));
      }

  pub all_open : (nodes : List OpenNode) → All (StandsAs Open slots) nodes → All (IsOpenIn root log) (nodes_at (region_in root) slots nodes)
  all_open nodes h = All-map (IsOpenIn root log) (node_at (region_in root) slots) nodes (λ k d l. open_in _ (h k d l))

-- ---- a node has another stage

module _ (old new : Slots) (n : ℕ) (had notes : List Note) (stage : Stage) (h : IsRestaged old new n had notes stage) (kept : AreSoundSlots old) (live : is_live h.slot.stage ≡ true) (still : stage ≢ Ended) where
  pub restaged_kept : AllWereKept old new
  restaged_kept k s e = elim (cases_eq k n) [
    | inl same ↦
        let t : record h.slot { notes = notes; stage = stage } ≡ s = same_Some _ _ (sym h.now ∙ ap (slot_at new) (sym same) ∙ e) in
        subst (WasKept old new k) t
        (record {
          before = h.slot;
          found = ap (slot_at old) same ∙ h.was;
          number = refl;
          above_is = restaged.above_here old new n had notes stage h kept (live_stays h.slot.stage live) still h.slot.number;
          live = λ l. live;
        })
    | inr apart ↦ record {
      before = s;
      found = sym (h.others k apart) ∙ e;
      number = refl;
      above_is = same_up old new (λ j. j ≢ n) (restaged.keeps old new n had notes stage h kept (live_stays h.slot.stage live) still) k s apart e;
      live = λ l. l;
    }
  ]

pub released_kept : (old new : Slots) (n : ℕ) (r : IsReleased old new n) (kept : AreSoundSlots new) → AllWereKept old new
released_kept old new n r kept k s e = record {
  before = record s { below = (r.left k s e).0 };
  found = (r.left k s e).1;
  number = refl;
  above_is = same_up old new Anywhere (released_keeps old new n r kept) k s tt e;
  live = λ l. l;
}

pub freed_kept : (old new : Slots) (gone : List OpenNode) (r : AreReleased old new gone) (kept : AreSoundSlots new) → AllWereKept old new
freed_kept old new gone r kept k s e = record {
  before = record s { below = (r.left k s e).1.0 };
  found = (r.left k s e).1.1;
  number = refl;
  above_is = same_up old new Anywhere (freed_keeps old new gone r kept) k s tt e;
  live = λ l. l;
}

-- ---- the calls

module _ (root : Node) (integral : List Bool) (old new : Slots) (ids : ℕ) (log : List Entry) (t : IsTracked root integral old ids log) (kept : AreSoundSlots old) where
  -- the first node is taken
  pub tracked_first : (e : OpenNode) (had none : List Note) → StandsAs Open old e → IsRestaged old new e.place had none Taken → IsTracked root integral new ids log
  tracked_first e had none s h =
      let open_ : h.slot.stage ≡ Open = sym (ap (λ (x : Slot). x.stage) (same_slot old e.place s.slot h.slot s.found h.was)) ∙ s.stage_is in
      same_log root integral old new ids log t (restaged_kept old new e.place had none Taken h kept (live_open h.slot.stage open_) (λ f. cc))

  -- a node has no entry before it is taken
  pub first_unended : (e : OpenNode) → StandsAs Open old e → HasNotEnded log e.id
  first_unended e s = subst (HasNotEnded log) s.number (t.live e.place s.slot s.found (live_open s.slot.stage s.stage_is))

  module _ (n : ℕ) (base : Base) (w : get_or (bases old) n None ≡ Some base) where
    work_slot : IsInWork old n base
    work_slot = in_work old n base w

    work_live : is_live work_slot.slot.stage ≡ true
    work_live = live_taken work_slot.slot.stage work_slot.taken

    restaged_live : (had notes : List Note) (stage : Stage) (h : IsRestaged old new n had notes stage) → is_live h.slot.stage ≡ true
    restaged_live had notes stage h = ap (λ (x : Slot). is_live x.stage) (same_slot old n h.slot work_slot.slot h.was work_slot.found) ∙ work_live

    -- it is put back
    pub tracked_back : (had notes : List Note) → IsRestaged old new n had notes Open → IsTracked root integral new ids log
    tracked_back had notes h = same_log root integral old new ids log t (restaged_kept old new n had notes Open h kept (restaged_live had notes Open h) (λ f. cc))

    -- it is put aside
    pub tracked_aside : (had notes : List Note) (number : ℕ) (bound : Option ℚ) → base.number ≡ number → IsRestaged old new n had notes Parked → IsTracked root integral new ids (log ++ record { node = number; bound = bound; end = Parked } ∷ [])
    tracked_aside had notes number bound e h =
        ended_log root integral old new ids log t (record { node = number; bound = bound; end = Parked }) n work_slot.slot kept work_slot.found work_live (work_slot.number ∙ e) tt (none_parked (node_of (given_by root log) number) bound)
        (restaged_kept old new n had notes Parked h kept (restaged_live had notes Parked h) (λ f. cc))
        (λ k s f l same. let p : record h.slot { notes = notes; stage = Parked } ≡ s = same_Some _ _ (sym h.now ∙ ap (slot_at new) (sym same) ∙ f) in let g : false ≡ true = ap (λ (x : Slot). is_live x.stage) p ∙ l in cc)

    -- it is closed
    pub tracked_closed : (number : ℕ) (bound : Option ℚ) → base.number ≡ number → IsReleased old new n → AreSoundSlots new → IsTracked root integral new ids (log ++ record { node = number; bound = bound; end = Closed } ∷ [])
    tracked_closed number bound e r now =
        ended_log root integral old new ids log t (record { node = number; bound = bound; end = Closed }) n work_slot.slot kept work_slot.found work_live (work_slot.number ∙ e) tt (none_closed (node_of (given_by root log) number) bound)
        (released_kept old new n r now)
        (λ k s f l same. none-some s (sym r.gone ∙ ap (slot_at new) (sym same) ∙ f))

  -- open nodes are let go
  pub tracked_freed : (gone : List OpenNode) → AreReleased old new gone → AreSoundSlots new → IsTracked root integral new ids log
  tracked_freed gone r now = same_log root integral old new ids log t (freed_kept old new gone r now)

-- ---- a node is split

module _ (root_bound : Option ℚ) (integral : List Bool) (region : Region) (old new : Slots) (n : ℕ) (notes : List Note) (lp hp : ℕ) (cl ch : Change) (q p : List OpenNode) (ids work : ℕ) (base : Base) (o : IsInOrder old q p ids work) (w : get_or (bases old) n None ≡ Some base) (h : IsParted old new n notes (open_slot ids (Some (let x : Origin = record { parent = n; change = cl } in x))) (open_slot (ids + 1) (Some (let x : Origin = record { parent = n; change = ch } in x))) lp hp) where
  abbrev root : Node
  root = node_in region 0 root_bound

  split_slot : IsInWork old n base
  split_slot = in_work old n base w

  split_live : is_live split_slot.slot.stage ≡ true
  split_live = live_taken split_slot.slot.stage split_slot.taken

  abbrev Half : ℕ → Slot → Type 0
  Half k s = (k ≡ lp) × (open_slot ids (Some (let x : Origin = record { parent = n; change = cl } in x)) ≡ s) ⊎ (k ≡ hp) × (open_slot (ids + 1) (Some (let x : Origin = record { parent = n; change = ch } in x)) ≡ s)

  -- each slot was there, with other places live alone, or is of one of the halves
  pub part_was : (k : ℕ) (s : Slot) → slot_at new k ≡ Some s → WasKept old new k s × (is_live s.stage ≡ true → k ≢ n) ⊎ Half k s
  part_was k s e = elim (cases_eq k n) [
    | inl same ↦
        let t : record h.slot { notes = notes; below = 2; stage = Ended } ≡ s = same_Some _ _ (sym h.now ∙ ap (slot_at new) (sym same) ∙ e) in
        inl (
          subst (WasKept old new k) t
              (record {
                before = h.slot;
                found = ap (slot_at old) same ∙ h.was;
                number = refl;
                above_is = parted.above_same region old new n notes lp hp cl ch q p ids work base o w h;
                live = λ l. let g : false ≡ true = l in cc;
              }),
          (λ l x. let g : false ≡ true = ap (λ (y : Slot). is_live y.stage) t ∙ l in cc),
        )
    | inr apart ↦ elim (cases_eq k lp) [
      | inl same ↦ inr (inl (same, same_Some _ s (sym h.low_now ∙ ap (slot_at new) (sym same) ∙ e)))
      | inr d ↦ elim (cases_eq k hp) [
        | inl same ↦ inr (inr (same, same_Some _ s (sym h.high_now ∙ ap (slot_at new) (sym same) ∙ e)))
        | inr f ↦
            inl (
              record {
                before = s;
                found = sym (h.others k apart d f) ∙ e;
                number = refl;
                above_is = same_up old new (parted.Old region old new n notes lp hp cl ch q p ids work base o w h) (parted.part_keeps region old new n notes lp hp cl ch q p ids work base o w h) k s (apart, d, f) e;
                live = λ l. l;
              },
              (λ l. apart),
            )
      ]
    ]
  ]

  -- the region of the node, and the node as it is shown
  abbrev part_region : Region
  part_region = after region (noted notes ++ base.changes)

  module _ (log : List Entry) (t : IsTracked root integral old ids log) (column : ℕ) (at : ℤ) (number : ℕ) (bound : Option ℚ) (same : base.number ≡ number) (can : CanSplit integral (node_in part_region number bound) column at) (low_is : tightened part_region (filled region.choices cl) ≡ region_in (low_node (node_in part_region number bound) column at)) (high_is : tightened part_region (filled region.choices ch) ≡ region_in (high_node (node_in part_region number bound) column at)) where
    abbrev part_node : Node
    part_node = node_in part_region number bound

    abbrev entry : Entry
    entry = record { node = number; bound = bound; end = Split column at ids (ids + 1) }

    abbrev given : List Node
    given = given_by root log

    abbrev split_given : IsGiven region old given split_slot.slot
    split_given = t.given n split_slot.slot split_slot.found

    split_is : node_of given number ≡ Some split_given.node
    split_is = ap (node_of given) (sym (split_slot.number ∙ same)) ∙ split_given.found

    split_inside : IsWithin part_region.box split_given.node.box
    split_inside = after_within region split_given.node.box (noted notes) base.changes (subst (λ c. IsWithin (after region c).box split_given.node.box) split_slot.changes split_given.within)

    split_choices : part_region.choices ≡ split_given.node.choices
    split_choices =
        after_choices region notes base.changes ∙ sym (ap (λ c. (after region c).choices) split_slot.changes) ∙ split_given.choices_are

    abbrev low_given : Node
    low_given = record (low_node split_given.node column at) { number = ids; bound = bound }

    abbrev high_given : Node
    high_given = record (high_node split_given.node column at) { number = ids + 1; bound = bound }

    more_are : given_by root (log ++ entry ∷ []) ≡ given ++ (low_given ∷ high_given ∷ [])
    more_are = given_more (root ∷ []) log entry ∙ ap (λ x. given ++ halves x bound (Split column at ids (ids + 1))) split_is

    right_end : IsRightEnd integral given split_given.node (Split column at ids (ids + 1))
    right_end = (
      split_within part_node split_given.node column at split_inside split_choices integral can,
      t.free ids (omega arith),
      t.free (ids + 1) (omega arith),
      (λ e. omega (arith, e)),
    )

    -- numbers from `ids` on have no entry
    none_ended : (m : ℕ) → ids ≤ m → HasNotEnded log m
    none_ended m l c =
        let r = taken_given integral (root ∷ []) [] log m t.searched c in
        none-some r.0 (sym (t.free m l) ∙ r.1)

    below_ids : number < ids
    below_ids = omega (arith, o.given n split_slot.slot split_slot.found, split_slot.number, same)

    half_unended : (m : ℕ) → ids ≤ m → HasNotEnded (log ++ entry ∷ []) m
    half_unended m l =
        still_not root integral old new ids log t entry n split_slot.slot o.kept split_slot.found split_live (split_slot.number ∙ same) m (none_ended m l) (λ e. omega (arith, l, below_ids, e))

    -- the regions of the halves
    low_after : after region (above ids new (Some (let x : Origin = record { parent = n; change = cl } in x))) ≡ region_in (low_node part_node column at)
    low_after = ap (after region) (parted.half_changes region old new n notes lp hp cl ch q p ids work base o w h ids cl (omega arith)) ∙ low_is

    high_after : after region (above (ids + 1) new (Some (let x : Origin = record { parent = n; change = ch } in x))) ≡ region_in (high_node part_node column at)
    high_after = ap (after region) (parted.half_changes region old new n notes lp hp cl ch q p ids work base o w h (ids + 1) ch (omega arith)) ∙ high_is

    low_is_given : IsGiven region new (given ++ (low_given ∷ high_given ∷ [])) (open_slot ids (Some (record { parent = n; change = cl })))
    low_is_given = record {
      node = low_given;
      found = node_of_new given (low_given ∷ high_given ∷ []) ids (t.free ids (omega arith)) ∙ node_of_here low_given (high_given ∷ []) ids refl;
      within = subst (λ (r : Region). IsWithin r.box low_given.box) (sym low_after) (within_low part_node split_given.node column at split_inside split_choices);
      choices_are = ap (λ (r : Region). r.choices) low_after ∙ low_choices part_node split_given.node column at split_inside split_choices;
    }

    high_is_given : IsGiven region new (given ++ (low_given ∷ high_given ∷ [])) (open_slot (ids + 1) (Some (record { parent = n; change = ch })))
    high_is_given = record {
      node = high_given;
      found =
          node_of_new given (low_given ∷ high_given ∷ []) (ids + 1) (t.free (ids + 1) (omega arith))
          ∙ node_of_later low_given (high_given ∷ []) (ids + 1) (λ e. omega (arith, e)) ∙ node_of_here high_given [] (ids + 1) refl;
      within = subst (λ (r : Region). IsWithin r.box high_given.box) (sym high_after) (within_high part_node split_given.node column at split_inside split_choices);
      choices_are = ap (λ (r : Region). r.choices) high_after ∙ high_choices part_node split_given.node column at split_inside split_choices;
    }

    pub tracked_split : IsTracked root integral new (ids + 2) (log ++ entry ∷ [])
    tracked_split = record {
      searched = followed root integral old new ids log t entry n split_slot.slot o.kept split_slot.found split_live (split_slot.number ∙ same) right_end;
      free = λ m l.
          ap (λ g. node_of g m) more_are ∙ node_of_new given (low_given ∷ high_given ∷ []) m (t.free m (omega (arith, l)))
          ∙ node_of_later low_given (high_given ∷ []) m (λ e. omega (arith, e, l)) ∙ node_of_later high_given [] m (λ e. omega (arith, e, l));
      given = λ k s e. subst (λ g. IsGiven region new g s) (sym more_are) (elim (part_was k s e) [
        | inl a ↦ given_also region new given (low_given ∷ high_given ∷ []) s (given_still region old new given k s a.0 (t.given k a.0.before a.0.found))
        | inr (inl b) ↦ subst (IsGiven region new (given ++ (low_given ∷ high_given ∷ []))) b.1 low_is_given
        | inr (inr b) ↦ subst (IsGiven region new (given ++ (low_given ∷ high_given ∷ []))) b.1 high_is_given
      ]);
      live = λ k s e l. elim (part_was k s e) [
        | inl a ↦
            subst (HasNotEnded (log ++ entry ∷ [])) a.0.number
            (still_not root integral old new ids log t entry n split_slot.slot o.kept split_slot.found split_live (split_slot.number ∙ same) a.0.before.number (t.live k a.0.before a.0.found (a.0.live l))
            (other_number root integral old new ids log t entry n split_slot.slot o.kept split_slot.found split_live (split_slot.number ∙ same) k a.0.before a.0.found (a.1 l)))
        | inr (inl b) ↦ subst (λ (x : Slot). HasNotEnded (log ++ entry ∷ []) x.number) b.1 (half_unended ids (omega arith))
        | inr (inr b) ↦ subst (λ (x : Slot). HasNotEnded (log ++ entry ∷ []) x.number) b.1 (half_unended (ids + 1) (omega arith))
      ];
    }
