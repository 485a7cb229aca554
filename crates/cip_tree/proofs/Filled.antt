-- Regions after changes, with the sides that choices leave.
use Rattle.std.proofs.Common.{◌≡◌, ℕ, ◌≤◌, ◌==◌, Bool, true, false, cond, List, [], ◌∷◌, ◌++◌, map, Option, None, Some, refl, sym, ap, ◌∙◌, subst}
use Rattle.std.proofs.lemmas.List.{map-append, reverse-append}
use Rattle.std.proofs.lemmas.Option.{none-some, same_Some}
use Rattle.cip_rational.specs.Rational.{ℚ}
use Rattle.cip_problem.specs.Program.{Sides, Choice, Plain, Open, Off, On}
use Rattle.cip_problem.specs.Box.{IsInBox}
use Rattle.cip_problem.specs.Choices.{choice_at}
use Rattle.cip_domain.specs.Changes.{Region, Change, choice_after, narrowed}
use Rattle.cip_domain.specs.Narrowing.{ArePlainPast}
use Rattle.cip_domain.proofs.Boxes.{narrowed-append, length-narrowed}
use Rattle.cip_tree.specs.declared.notes.Note.{Note}
use Rattle.cip_tree.specs.Notes.{noted_change, noted}
use Rattle.cip_tree.specs.Origins.{filled, after}
use Rattle.cip_tree.specs.Nodes.{Base, base_changes, filled_base}
use Rattle.cip_tree.specs.Tracked.{IsWithin}
use Rattle.cip_tree.proofs.Halving.{choice_after_change, plain_stays}
use Rattle.cip_tree.proofs.Within.{within_itself, within_later, in_wider, noted_choices}

-- notes make no choice
pub filled_noted : (choices : List Choice) (notes : List Note) → map (filled choices) (noted notes) ≡ noted notes
filled_noted choices [] = refl
filled_noted choices (n ∷ ns) =
    ap (map (filled choices)) (reverse-append (noted_change n ∷ []) (map noted_change ns))
    ∙ map-append (filled choices) (noted ns) (noted_change n ∷ [])
    ∙ ap (λ l. l ++ noted_change n ∷ []) (filled_noted choices ns)
    ∙ sym (reverse-append (noted_change n ∷ []) (map noted_change ns))

pub after-append : (root : Region) (more earlier : List Change) → after root (more ++ earlier) ≡ narrowed (after root earlier) (map (filled root.choices) more)
after-append root more earlier =
    ap (narrowed root) (map-append (filled root.choices) more earlier) ∙ narrowed-append root (map (filled root.choices) more) (map (filled root.choices) earlier)

-- after changes, and notes
pub after_notes : (root : Region) (notes : List Note) (changes : List Change) → after root (noted notes ++ changes) ≡ narrowed (after root changes) (noted notes)
after_notes root notes changes =
    after-append root (noted notes) changes ∙ ap (narrowed (after root changes)) (filled_noted root.choices notes)

pub after_filled : (root : Region) (notes : List Note) (changes : List Change) → after root (noted notes ++ changes) ≡ narrowed root (noted notes ++ map (filled root.choices) changes)
after_filled root notes changes =
    ap (narrowed root) (map-append (filled root.choices) (noted notes) changes ∙ ap (λ l. l ++ map (filled root.choices) changes) (filled_noted root.choices notes))

pub after_within : (root : Region) (outer : List Sides) (more earlier : List Change) → IsWithin (after root earlier).box outer → IsWithin (after root (more ++ earlier)).box outer
after_within root outer more earlier h =
    subst (λ l. IsWithin (narrowed root l).box outer) (sym (map-append (filled root.choices) more earlier))
    (within_later root outer (map (filled root.choices) more) (map (filled root.choices) earlier) h)

-- a point of a box after all changes is one after the first of them
pub after_earlier : (root : Region) (more earlier : List Change) (point : List ℚ) → IsInBox (after root (more ++ earlier)).box point → IsInBox (after root earlier).box point
after_earlier root more earlier point h =
    in_wider (after root (more ++ earlier)).box (after root earlier).box point (after_within root (after root earlier).box more earlier (within_itself (after root earlier).box)) h

pub after_choices : (root : Region) (notes : List Note) (changes : List Change) → (after root (noted notes ++ changes)).choices ≡ (after root changes).choices
after_choices root notes changes =
    ap (λ (r : Region). r.choices) (after_filled root notes changes) ∙ noted_choices root notes (map (filled root.choices) changes)

-- choices past the end of the box stay plain
pub past_stays : (region : Region) (changes : List Change) → ArePlainPast region → ArePlainPast (narrowed region changes)
past_stays region changes h column l = plain_stays region changes column (h column (subst (λ n. n ≤ column) (length-narrowed region changes) l))

pub after_plain : (root : Region) (changes : List Change) → ArePlainPast root → ArePlainPast (after root changes)
after_plain root changes h = past_stays root (map (filled root.choices) changes) h

-- ---- what is kept of a node in work

-- what is there with the sides that choices leave is there without them
pub record IsFilled (choices : List Choice) (kept : Option Base) (base : Base) : Type 0 where
  pub raw : Base
  pub found : kept ≡ Some raw
  pub number : raw.number ≡ base.number
  pub changes : map (filled choices) raw.changes ≡ base.changes

pub unfilled : (choices : List Choice) (kept : Option Base) (base : Base) → filled_base choices kept ≡ Some base → IsFilled choices kept base
unfilled choices None base e = absurd (none-some base e)
unfilled choices (Some raw) base e =
    let same = same_Some _ base e in
    record { raw = raw; found = refl; number = ap (λ (b : Base). b.number) same; changes = ap (λ (b : Base). b.changes) same }

-- the region of a node in work, with what is kept of it
pub after_base : (root : Region) (notes : List Note) (kept : Option Base) (raw : Base) → kept ≡ Some raw → after root (noted notes ++ raw.changes) ≡ narrowed root (noted notes ++ base_changes (filled_base root.choices kept))
after_base root notes kept raw e =
    after_filled root notes raw.changes ∙ ap (λ b. narrowed root (noted notes ++ base_changes (filled_base root.choices b))) (sym e)

-- ---- a choice that is open

still_open : (choice : Choice) (made : Option Bool) (own : Sides) → choice_after choice made ≡ Open own → choice ≡ Open own
still_open choice None own e = e
still_open Plain (Some on) own e = absurd (let f : Plain ≡ Open own = e in cc)
still_open (Open sides) (Some true) own e = absurd (let f : On ≡ Open own = e in cc)
still_open (Open sides) (Some false) own e = absurd (let f : Off ≡ Open own = e in cc)
still_open Off (Some on) own e = absurd (let f : Off ≡ Open own = e in cc)
still_open On (Some true) own e = absurd (let f : On ≡ Open own = e in cc)
still_open On (Some false) own e = absurd (let f : Off ≡ Open own = e in cc)

-- a choice that is open after changes was open before them, with the same own sides
pub was_open : (root : Region) (changes : List Change) (column : ℕ) (own : Sides) → choice_at (narrowed root changes).choices column ≡ Open own → choice_at root.choices column ≡ Open own
was_open root [] column own e = e
was_open root (c ∷ cs) column own e = was_open root cs column own (by_column (c.column == column) (sym (choice_after_change (narrowed root cs) column c) ∙ e))
  where
    by_column : (same : Bool) → cond same (choice_after (choice_at (narrowed root cs).choices column) c.made) (choice_at (narrowed root cs).choices column) ≡ Open own → choice_at (narrowed root cs).choices column ≡ Open own
    by_column true f = still_open (choice_at (narrowed root cs).choices column) c.made own f
    by_column false f = f
