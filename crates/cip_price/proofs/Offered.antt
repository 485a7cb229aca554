-- Points that are offered one after another.
use Rattle.std.proofs.Common.{◌≡◌, ℕ, ◌+◌, ◌<◌, List, [], ◌∷◌, ◌++◌, length, Option, take, get_or, refl, sym, ap, ◌∙◌, subst, arith}
use Rattle.std.specs.List.{Contains}
use Rattle.std.proofs.lemmas.List.{append-nil, append_assoc, length-append, length_push, get_or_append_left, get_or-append-add, take_more}
use Rattle.std.proofs.lemmas.List.Elements.{All-append, All-cons, All-nil}
use Rattle.std.proofs.lemmas.List.Quantifiers.{Any-push}
use Rattle.cip_rational.specs.Rational.{ℚ}
use Rattle.cip_cert.specs.declared.pricing.BlockPoint.{BlockPoint}
use Rattle.cip_columns.specs.PoolPoints.{PoolPoint}
use Rattle.cip_columns.specs.ColumnPools.{most_points, Serves, IsKnown}
use Rattle.cip_columns.specs.declared.pools.Added.{Added}
use Rattle.cip_columns.specs.declared.pools.Added.TheVariants.{New, Known, Full as NoRoom}
use Rattle.cip_master.specs.TakenPoints.{IsTaken}
use Rattle.cip_master.specs.declared.verdicts.PointVerdict.{PointVerdict}
use Rattle.cip_master.specs.declared.taking.Taken.TheVariants.{Offered}
use Rattle.cip_master.specs.MasterTasks.{Task}
use Rattle.cip_price.specs.Asks.{Told, Tells}
use Rattle.cip_price.specs.OfferedPoints.{Grows, IsIn, IsGood, AreIn, IsLeftOut, IsOffered, growth_of, joint, drop_by, drop_of}
use Rattle.cip_price.specs.declared.offering.Growth.{Growth}
use Rattle.cip_price.specs.declared.offering.Growth.TheVariants.{Same, Grown, Full}
use Rattle.cip_price.proofs.Telling.{tells_none}

-- ---- pools that grow

pub grows_none : (points : List PoolPoint) → Grows points points
grows_none points = ([], sym (append-nil points))

pub grows_by : (first middle last : List PoolPoint) → Grows first middle → Grows middle last → Grows first last
grows_by first middle last (m, e) (n, f) =
    (m ++ n, f ∙ ap (λ ps. ps ++ n) e ∙ append_assoc first m n)

in_more : (points more : List PoolPoint) (block : ℕ) (values : List ℚ) → IsIn points block values
    → IsIn (points ++ more) block values
in_more points more block values (k, x, l, e, p) =
    (k, x, omega (arith, l, length-append points more), get_or_append_left points more x k l ∙ e, p)

pub in_grown : (before after : List PoolPoint) (block : ℕ) (values : List ℚ) → Grows before after
    → IsIn before block values → IsIn after block values
in_grown before after block values (more, e) h =
    subst (λ ps. IsIn ps block values) (sym e) (in_more before more block values h)

pub all_grown : (task : Task) (block : ℕ) (before after : List PoolPoint) (brought : List BlockPoint)
    → Grows before after → AreIn task block before brought → AreIn task block after brought
all_grown task block before after brought g h = λ k d l good.
    in_grown before after block (get_or brought k d).values.items g (h k d l good)

-- ---- one point

known_in : (points : List PoolPoint) (block : ℕ) (values : List ℚ) (id : ℕ) → IsKnown points block values id
    → IsIn points block values
known_in points block values id (k, x, l, e, p) = (k, x, l, e, p.1)

one_in : (task : Task) (block : ℕ) (points : List PoolPoint) (p : BlockPoint)
    → (IsGood task block p.values.items → IsIn points block p.values.items) → AreIn task block points (p ∷ [])
one_in task block points p h =
    All-cons (λ (q : BlockPoint). IsGood task block q.values.items → IsIn points block q.values.items) p [] h
    (All-nil (λ (q : BlockPoint). IsGood task block q.values.items → IsIn points block q.values.items))

pub added_new : (task : Task) (block : ℕ) (p : BlockPoint) (before after : List PoolPoint) (id : ℕ)
    → IsTaken task.program task.kept block p.values.items before after (Offered (New id))
    → IsOffered task block (p ∷ []) before after Grown
added_new task block p before after id t =
    let e = t.1.3 in
    let one : PoolPoint = record { id = length before; block = block; point = p.values.items } in
    let held : IsIn (before ++ one ∷ []) block p.values.items =
    Any-push (Serves block p.values.items) before one (record { same_block = refl; same_values = refl }) in (
      (one ∷ [], e),
      omega (arith, ap length e, length_push before one),
      one_in task block after p (λ good. subst (λ ps. IsIn ps block p.values.items) (sym e) held),
    )

pub added_known : (task : Task) (block : ℕ) (p : BlockPoint) (before after : List PoolPoint) (id : ℕ)
    → IsTaken task.program task.kept block p.values.items before after (Offered (Known id))
    → IsOffered task block (p ∷ []) before after Same
added_known task block p before after id t = (
  t.1.1,
  one_in task block after p (λ good. subst (λ ps. IsIn ps block p.values.items) (sym t.1.1)
      (known_in before block p.values.items id t.1.0)),
)

pub added_full : (task : Task) (block : ℕ) (p : BlockPoint) (before after : List PoolPoint)
    → IsTaken task.program task.kept block p.values.items before after (Offered NoRoom)
    → IsOffered task block (p ∷ []) before after Full
added_full task block p before after t =
    subst (λ (ps : List PoolPoint). IsOffered task block (p ∷ []) before ps Full) (sym t.1.2) (
      grows_none before,
      record {
        full = t.1.1;
        point = p;
        is_brought = (0, omega arith, refl);
        good = t.0;
        unknown = t.1.0;
      },
    )

-- ---- one after another

left_more : (task : Task) (block : ℕ) (points : List PoolPoint) (xs ys : List BlockPoint)
    → IsLeftOut task block points ys → IsLeftOut task block points (xs ++ ys)
left_more task block points xs ys h = record {
  full = h.full;
  point = h.point;
  is_brought = further xs ys h.point h.is_brought;
  good = h.good;
  unknown = h.unknown;
}
  where
    further : (xs ys : List BlockPoint) (p : BlockPoint) → Contains ys p → Contains (xs ++ ys) p
    further xs ys p (k, l, e) =
        (length xs + k, omega (arith, l, length-append xs ys), get_or-append-add xs ys k p ∙ e)

left_first : (task : Task) (block : ℕ) (points : List PoolPoint) (xs ys : List BlockPoint)
    → IsLeftOut task block points xs → IsLeftOut task block points (xs ++ ys)
left_first task block points xs ys h = record {
  full = h.full;
  point = h.point;
  is_brought = nearer xs ys h.point h.is_brought;
  good = h.good;
  unknown = h.unknown;
}
  where
    nearer : (xs ys : List BlockPoint) (p : BlockPoint) → Contains xs p → Contains (xs ++ ys) p
    nearer xs ys p (k, l, e) =
        (k, omega (arith, l, length-append xs ys), get_or_append_left xs ys p k l ∙ e)

both_in : (task : Task) (block : ℕ) (points : List PoolPoint) (xs ys : List BlockPoint)
    → AreIn task block points xs → AreIn task block points ys → AreIn task block points (xs ++ ys)
both_in task block points xs ys h k =
    All-append (λ (q : BlockPoint). IsGood task block q.values.items → IsIn points block q.values.items) xs ys h k

pub same_grows : (before after : List PoolPoint) → after ≡ before → Grows before after
same_grows before after e = ([], e ∙ sym (append-nil before))

pub offered_grows : (task : Task) (block : ℕ) (brought : List BlockPoint) (before after : List PoolPoint)
    (growth : Growth) → IsOffered task block brought before after growth → Grows before after
offered_grows task block brought before after Same h = same_grows before after h.0
offered_grows task block brought before after Grown h = h.0
offered_grows task block brought before after Full h = h.0

pub offered_both : (task : Task) (block : ℕ) (xs ys : List BlockPoint) (first middle last : List PoolPoint)
    (growth next : Growth) → (length middle ≡ most_points → last ≡ middle) → IsOffered task block xs first middle growth
    → IsOffered task block ys middle last next → IsOffered task block (xs ++ ys) first last (joint growth next)
offered_both task block xs ys first middle last Same Same n h k = (
  k.0 ∙ h.0,
  both_in task block last xs ys
      (all_grown task block middle last xs (same_grows middle last k.0) h.1) k.1,
)
offered_both task block xs ys first middle last Same Grown n h k = (
  grows_by first middle last (same_grows first middle h.0) k.0,
  subst (λ (ps : List PoolPoint). length ps < length last) h.0 k.1,
  both_in task block last xs ys (all_grown task block middle last xs k.0 h.1) k.2,
)
offered_both task block xs ys first middle last Same Full n h k = (
  grows_by first middle last (same_grows first middle h.0) k.0,
  left_more task block last xs ys k.1,
)
offered_both task block xs ys first middle last Grown Same n h k = (
  grows_by first middle last h.0 (same_grows middle last k.0),
  subst (λ (ps : List PoolPoint). length first < length ps) (sym k.0) h.1,
  both_in task block last xs ys
      (all_grown task block middle last xs (same_grows middle last k.0) h.2) k.1,
)
offered_both task block xs ys first middle last Grown Grown n h k = (
  grows_by first middle last h.0 k.0,
  omega (arith, h.1, k.1),
  both_in task block last xs ys (all_grown task block middle last xs k.0 h.2) k.2,
)
offered_both task block xs ys first middle last Grown Full n h k = (
  grows_by first middle last h.0 k.0,
  left_more task block last xs ys k.1,
)
offered_both task block xs ys first middle last Full next n h k =
    subst (λ (ps : List PoolPoint). IsOffered task block (xs ++ ys) first ps Full) (sym (n h.1.full))
    (h.0, left_first task block middle xs ys h.1)

-- nothing was offered
pub offered_none : (task : Task) (block : ℕ) (points : List PoolPoint) → IsOffered task block [] points points Same
offered_none task block points =
    (refl, All-nil (λ (q : BlockPoint). IsGood task block q.values.items → IsIn points block q.values.items))

-- one point more of a list
pub offered_more : (task : Task) (block : ℕ) (brought : List BlockPoint) (at : ℕ) (p : BlockPoint)
    (first middle last : List PoolPoint) (growth next : Growth) → at < length brought → p ≡ get_or brought at p
    → (length middle ≡ most_points → last ≡ middle) → IsOffered task block (take at brought) first middle growth
    → IsOffered task block (p ∷ []) middle last next
    → IsOffered task block (take (at + 1) brought) first last (joint growth next)
offered_more task block brought at p first middle last growth next l e n h k =
    subst (λ (ps : List BlockPoint). IsOffered task block ps first last (joint growth next))
    (sym (take_more brought at p l ∙ ap (λ (q : BlockPoint). take at brought ++ q ∷ []) (sym e)))
    (offered_both task block (take at brought) (p ∷ []) first middle last growth next n h k)

-- one point, by what adding it came to
pub offered_one : (task : Task) (block : ℕ) (p : BlockPoint) (before after : List PoolPoint) (added : Added)
    → IsTaken task.program task.kept block p.values.items before after (Offered added)
    → IsOffered task block (p ∷ []) before after (growth_of added)
offered_one task block p before after (New id) t = added_new task block p before after id t
offered_one task block p before after (Known id) t = added_known task block p before after id t
offered_one task block p before after NoRoom t = added_full task block p before after t

-- a full pool takes no point
pub full_stays : (task : Task) (block : ℕ) (p : BlockPoint) (before after : List PoolPoint) (added : Added)
    → IsTaken task.program task.kept block p.values.items before after (Offered added)
    → length before ≡ most_points → after ≡ before
full_stays task block p before after (New id) t e = absurd (omega (arith, e, t.1.1))
full_stays task block p before after (Known id) t e = t.1.1
full_stays task block p before after NoRoom t e = t.1.2

-- nothing is told of a point that was offered
pub offered_tells : (task : Task) (block place : ℕ) (p : BlockPoint) (before after : List PoolPoint) (added : Added)
    (told : Option (List Told)) → IsTaken task.program task.kept block p.values.items before after (Offered added)
    → Tells told (drop_of task block place p) told
offered_tells task block place p before after added told t =
    subst (λ (v : PointVerdict). Tells told (drop_by block place v) told) (sym t.0) (tells_none told)
