-- What the linear program of a node says of its bound.
use Rattle.std.proofs.Common.{◌≡◌, ℕ, Bool, true, false, List, length, Contains, Option, None, Some, IfSome, option_map, Result, Ok, Err, refl, sym, ap, ◌∙◌, subst}
use Rattle.std.specs.Prelude.{IfOk, MatchResult}
use Rattle.std.proofs.lemmas.List.Elements.{All-contains}
use Rattle.cip_rational.specs.Rational.{ℚ, integer, ceil}
use Rattle.cip_problem.specs.Program.{Sides, Row, Program}
use Rattle.cip_problem.specs.WellFormed.{IsWellFormed}
use Rattle.cip_problem.proofs.Points.AtPlaces.{IsInBox-long}
use Rattle.cip_problem.specs.LinearProgram.{IsPoint, HasNoPoint}
use Rattle.cip_problem.specs.Improving.{IsValidRow, IsBoundIn}
use Rattle.cip_problem.proofs.Improving.{fewer}
use Rattle.cip_search.specs.Searched.{NoMore}
use Rattle.cip_search.proofs.Relaxed.{greater}
use Rattle.cip_cert.specs.declared.rows.PoolRow.{PoolRow}
use Rattle.cip_cert.specs.Lent.{KeptFits}
use Rattle.cip_cert.specs.Resting.{valid_below, ArePoolRowsValid}
use Rattle.cip_rows.specs.RowPools.{IsSoundPool}
use Rattle.cip_incumbent.specs.HeldPoint.{Holding}
use Rattle.cip_domain.specs.Changes.{Region}
use Rattle.cip_tree.specs.Nodes.{TakenNode, Nodes, region_of, box_of}
use Rattle.cip_relax.specs.NodeRows.{usable_rows}
use Rattle.cip_relax.specs.Relaxing.{node_program, ShowsLeast, ShowsBound, ShowsNear, ShowsFalling}
use Rattle.cip_relax.specs.Telling.{IsValidPool, NodeProgramsTell}
use Rattle.cip_relax.proofs.Told.{told}
use Rattle.cip_relax.specs.declared.relaxed.Mark.{Mark}
use Rattle.cip_core.specs.Offered.{Offered}
use Rattle.cip_core.specs.PostsolveFault.{PostsolveFault}
use Rattle.cip_core.specs.CoreStates.{CoreState, reduced_of, held_of, rows_lent, IsSound, IsAtWork}
use Rattle.cip_core.proofs.CoreSteps.{work_long, trimmed_is}
use Rattle.cip_core.specs.Steps.{IsTriedBack, IsOfferedBack, IsNotBack, IsRaisedTo}
use Rattle.cip_relax.specs.declared.relaxed.Relaxed.{Relaxed}
use Rattle.cip_relax.specs.declared.relaxed.Relaxed.TheVariants as came
use Rattle.cip_node.specs.Bounding.{IsRelaxedOf, IsMarkOf, IsAsGood, HasTried, point_of, IsFound, told_of}
use Rattle.cip_node.specs.declared.bounding.Found.{Found}

-- a row that is valid below the cost that it needs is valid below the cost held
below_held : (program : Program) (held : Option ℚ) (box : List Sides) (row : Row) (rests : Bool) → IsValidRow program (valid_below held rests) box row → IsValidRow program held box row
below_held program held box row true h = h
below_held program held box row false h = λ point i w. h point (fewer program held None point tt i) w

member_valid : (program : Program) (held : Option ℚ) (pool : List PoolRow) (kept : PoolRow) → ArePoolRowsValid program held pool → Contains pool kept → IsValidRow program held kept.scope kept.row
member_valid program held pool kept h c =
    below_held program held kept.scope kept.row kept.rests (All-contains (λ k. IsValidRow program (valid_below held k.rests) k.scope k.row) pool kept h c)

valid_pool : (core : CoreState) (node : TakenNode) → IsAtWork core node → IsSound core → IsSoundPool core.pool → IsWellFormed (reduced_of core) → IsValidPool (reduced_of core) (held_of core) core.tree.work.box core.pool.rows
valid_pool core node w s kept formed = record {
  valid = λ row c. member_valid (reduced_of core) (held_of core) core.pool.rows row s.valid c;
  long = λ row c. work_long core node formed w ∙ sym s.same ∙ sym (All-contains (KeptFits core.pool.columns) core.pool.rows row kept.fits c).scope;
}

-- over the rows of the program and the valid ones of the pool
pub tells : (core : CoreState) {node : TakenNode} → IsAtWork core node → IsSound core → IsSoundPool core.pool → IsWellFormed (reduced_of core) → NodeProgramsTell (reduced_of core) (held_of core) (rows_lent core) core.tree.work.box
tells core {node} w s kept formed = told (reduced_of core) (held_of core) (rows_lent core) core.tree.work.box refl (valid_pool core node w s kept formed)

pub point_long : (core : CoreState) (box : List Sides) (point : List ℚ) → IsPoint (node_program (reduced_of core) (rows_lent core) box) point → length point ≡ length box
point_long core box point h = IsInBox-long box point h.within

pub long_if : {X : Type 0} (f : X → List ℚ) (core : CoreState) (box : List Sides) (point : Option X) → IfSome point (λ v. IsPoint (node_program (reduced_of core) (rows_lent core) box) (f v)) → IfSome (option_map f point) (λ v. length v ≡ length box)
long_if f core box None h = tt
long_if f core box (Some v) h = point_long core box (f v) h

pub as_long : {X : Type 0} (f : X → List ℚ) (n m : ℕ) (point : Option X) → n ≡ m → IfSome (option_map f point) (λ v. length v ≡ n) → IfSome point (λ v. length (f v) ≡ m)
as_long f n m None e h = tt
as_long f n m (Some v) e h = h ∙ e

-- a bound that was shown beside a mark, if there is one, holds in a node's box
pub safe_if : (core : CoreState) (box own : List Sides) (bound : Option ℚ) → box ≡ own → NodeProgramsTell (reduced_of core) (held_of core) (rows_lent core) box → IfSome bound (ShowsBound (reduced_of core) (rows_lent core) box) → IfSome bound (IsBoundIn (reduced_of core) (held_of core) own)
safe_if core box own None e t h = tt
safe_if core box own (Some b) e t h = subst (λ x. IsBoundIn (reduced_of core) (held_of core) x b) e (t.safe b h)

-- a point that was offered beside a mark, if there is one
pub tried_if : {X : Type 0} (f : X → List ℚ) (core : CoreState) (box : List Sides) (point : Option X) (mark : Mark) → IfSome point (λ v. IsPoint (node_program (reduced_of core) (rows_lent core) box) (f v)) → IfSome point (λ v. IsTriedBack core (f v)) → HasTried core box (option_map f point) (Some mark)
tried_if f core box None mark h k = λ e. cc
tried_if f core box (Some v) mark h k = (h, k)

-- ---- what a linear program tells

-- one that tells nothing has no point
pub none_told : (core : CoreState) (relaxed : Relaxed) → None ≡ told_of relaxed → IsRelaxedOf core relaxed → HasNoPoint (node_program (reduced_of core) (rows_lent core) core.tree.work.box)
none_told core came.Empty e h = h
none_told core (came.Bound point bound combo) e h = cc
none_told core (came.Near point bound) e h = cc
none_told core (came.Falls point) e h = cc
none_told core (came.Unsolved mark point bound) e h = cc

-- its bound, if it shows one, holds in a node's box
pub bound_told : (core : CoreState) (own : List Sides) (relaxed : Relaxed) → core.tree.work.box ≡ own → NodeProgramsTell (reduced_of core) (held_of core) (rows_lent core) core.tree.work.box → IsRelaxedOf core relaxed → IfSome (told_of relaxed) (λ told. IfSome told.bound (IsBoundIn (reduced_of core) (held_of core) own))
bound_told core own came.Empty e t h = tt
bound_told core own (came.Bound point bound combo) e t h = subst (λ x. IsBoundIn (reduced_of core) (held_of core) x bound) e (t.bound point.items bound h)
bound_told core own (came.Near point bound) e t h = subst (λ x. IsBoundIn (reduced_of core) (held_of core) x bound) e (t.safe bound h.shows)
bound_told core own (came.Falls point) e t h = tt
bound_told core own (came.Unsolved mark point bound) e t h = safe_if core core.tree.work.box own bound e t h.1.1

-- its point, if it found one, is as long as the program has columns
pub long_told : (core : CoreState) (n : ℕ) (relaxed : Relaxed) → length core.tree.work.box ≡ n → IsRelaxedOf core relaxed → IfSome (told_of relaxed) (λ told. IfSome told.found.point (λ v. length v.items ≡ n))
long_told core n came.Empty e h = tt
long_told core n (came.Bound point bound combo) e h = point_long core core.tree.work.box point.items h.optimal.is_point ∙ e
long_told core n (came.Near point bound) e h = point_long core core.tree.work.box point.items h.is_point ∙ e
long_told core n (came.Falls point) e h = point_long core core.tree.work.box point.items h.is_point ∙ e
long_told core n (came.Unsolved mark point bound) e h = as_long (λ v. v.items) (length core.tree.work.box) n point e (long_if (λ v. v.items) core core.tree.work.box point h.1.0)

-- what was found by a point of least cost, beside a bound that is no less
found_least : (core : CoreState) (held : Option ℚ) (box : List Sides) (bound : Option ℚ) (point : List ℚ) (b : ℚ) (found : Found) → point_of found ≡ Some point → found.mark ≡ None → NodeProgramsTell (reduced_of core) held (rows_lent core) box → ShowsLeast (reduced_of core) (rows_lent core) box point b → NoMore (Some b) bound → IsTriedBack core point → IsFound core box bound found
found_least core held box bound point b found p m t s l tried = record {
  long = subst (λ o. IfSome o (λ v. length v ≡ length box)) (sym p) (point_long core box point s.optimal.is_point);
  good = subst (IsAsGood core box bound) (sym m) (greater (reduced_of core) (usable_rows box core.pool.rows) box (Some b) bound l (t.relaxed point b s));
  tried = subst (λ o. HasTried core box o found.mark) (sym p) (s.optimal.is_point, tried);
}

-- by one that costs no more than a bound that was rounded up
found_near : (core : CoreState) (held : Option ℚ) (box : List Sides) (bound : Option ℚ) (point : List ℚ) (b : ℚ) (found : Found) → point_of found ≡ Some point → found.mark ≡ None → NodeProgramsTell (reduced_of core) held (rows_lent core) box → ShowsNear (reduced_of core) (rows_lent core) box point b → NoMore (Some (integer (ceil b))) bound → IsTriedBack core point → IsFound core box bound found
found_near core held box bound point b found p m t s l tried = record {
  long = subst (λ o. IfSome o (λ v. length v ≡ length box)) (sym p) (point_long core box point s.is_point);
  good = subst (IsAsGood core box bound) (sym m) (greater (reduced_of core) (usable_rows box core.pool.rows) box (Some (integer (ceil b))) bound l (t.near point b s));
  tried = subst (λ o. HasTried core box o found.mark) (sym p) (s.is_point, tried);
}

-- and by one from which the cost falls
found_falling : (core : CoreState) (held : Option ℚ) (box : List Sides) (bound : Option ℚ) (point : List ℚ) (found : Found) → point_of found ≡ Some point → found.mark ≡ None → NodeProgramsTell (reduced_of core) held (rows_lent core) box → ShowsFalling (reduced_of core) (rows_lent core) box point → IsTriedBack core point → IsFound core box bound found
found_falling core held box bound point found p m t s tried = record {
  long = subst (λ o. IfSome o (λ v. length v ≡ length box)) (sym p) (point_long core box point s.is_point);
  good = subst (IsAsGood core box bound) (sym m) (t.falling point bound s);
  tried = subst (λ o. HasTried core box o found.mark) (sym p) (s.is_point, tried);
}

-- ---- a point that was offered

-- what holds whether there is an answer or not, by what holds where there is one
pub on_ok : {A E : Type 0} (r : Result A E) (P Q : Type 0) → (P → Q) → IfOk r (λ _. P) → IfOk r (λ _. Q)
on_ok (Ok a) P Q f h = f h
on_ok (Err e) P Q f h = tt

-- the region of a node in work stays, as the region in work does
pub offered_region : (old new : CoreState) (node : TakenNode) (point : List ℚ) (r : Result Offered PostsolveFault) → IsAtWork old node → IsAtWork new node → MatchResult r (IsOfferedBack old new point) (IsNotBack old new point) → region_of new.tree node ≡ region_of old.tree node
offered_region old new node point (Ok answer) w v h = sym v.region ∙ ap (λ (n : Nodes). n.work) (trimmed_is old.tree new.tree (held_of new) h.offered.trimmed) ∙ w.region
offered_region old new node point (Err fault) w v h = ap (λ (k : CoreState). region_of k.tree node) h.same

-- ---- what was found in the region in work, seen after its point was offered

abbrev pub offered_core : CoreState → Nodes → Holding → CoreState
offered_core core tree holding = record core { tree = tree; incumbent = holding }

module _ (core : CoreState) (tree : Nodes) (holding : Holding) (node now : TakenNode) (w : IsAtWork core node) (sound : IsSound core) (kept : IsSoundPool core.pool) (formed : IsWellFormed (reduced_of core)) (same : region_of tree now ≡ region_of core.tree node) where
  own_box : core.tree.work.box ≡ box_of tree now
  own_box = ap (λ (r : Region). r.box) (w.region ∙ sym same)

  own_tells : NodeProgramsTell (reduced_of core) (held_of core) (rows_lent core) (box_of tree now)
  own_tells = subst (NodeProgramsTell (reduced_of core) (held_of core) (rows_lent core)) own_box (tells core w sound kept formed)

  pub least_found : (point : List ℚ) (b : ℚ) (found : Found) → point_of found ≡ Some point → found.mark ≡ None → ShowsLeast (reduced_of core) (rows_lent core) core.tree.work.box point b → NoMore (Some b) now.bound → IsTriedBack (offered_core core tree holding) point → IsFound (offered_core core tree holding) (box_of tree now) now.bound found
  least_found point b found p m s l tried =
      found_least (offered_core core tree holding) (held_of core) (box_of tree now) now.bound point b found p m own_tells
      (subst (λ box. ShowsLeast (reduced_of core) (rows_lent core) box point b) own_box s) l tried

  pub near_found : (point : List ℚ) (b : ℚ) (found : Found) → point_of found ≡ Some point → found.mark ≡ None → ShowsNear (reduced_of core) (rows_lent core) core.tree.work.box point b → NoMore (Some (integer (ceil b))) now.bound → IsTriedBack (offered_core core tree holding) point → IsFound (offered_core core tree holding) (box_of tree now) now.bound found
  near_found point b found p m s l tried =
      found_near (offered_core core tree holding) (held_of core) (box_of tree now) now.bound point b found p m own_tells
      (subst (λ box. ShowsNear (reduced_of core) (rows_lent core) box point b) own_box s) l tried

  pub falling_found : (point : List ℚ) (found : Found) → point_of found ≡ Some point → found.mark ≡ None → ShowsFalling (reduced_of core) (rows_lent core) core.tree.work.box point → IsTriedBack (offered_core core tree holding) point → IsFound (offered_core core tree holding) (box_of tree now) now.bound found
  falling_found point found p m s tried =
      found_falling (offered_core core tree holding) (held_of core) (box_of tree now) now.bound point found p m own_tells
      (subst (λ box. ShowsFalling (reduced_of core) (rows_lent core) box point) own_box s) tried

  pub unsolved_found : {X : Type 0} (f : X → List ℚ) (point : Option X) (mark : Mark) (found : Found) → point_of found ≡ option_map f point → found.mark ≡ Some mark → IsMarkOf core core.tree.work.box mark → IfSome point (λ v. IsPoint (node_program (reduced_of core) (rows_lent core) core.tree.work.box) (f v)) → IfSome point (λ v. IsTriedBack (offered_core core tree holding) (f v)) → IsFound (offered_core core tree holding) (box_of tree now) now.bound found
  unsolved_found f point mark found p m marked is_point tried =
      let new = offered_core core tree holding in
      let box = box_of tree now in
      let points = subst (λ b. IfSome point (λ v. IsPoint (node_program (reduced_of core) (rows_lent core) b) (f v))) own_box is_point in
      record {
        long = subst (λ o. IfSome o (λ v. length v ≡ length box)) (sym p) (long_if f new box point points);
        good = subst (IsAsGood new box now.bound) (sym m) (subst (λ b. IsMarkOf core b mark) own_box marked);
        tried = subst (λ o. HasTried new box o found.mark) (sym p) (subst (HasTried new box (option_map f point)) (sym m) (tried_if f new box point mark points tried));
      }

  -- what a linear program tells was found so, once its bound was raised to and its point offered
  pub told_found : (relaxed : Relaxed) → IsRelaxedOf core relaxed → IfSome (told_of relaxed) (λ told. IfSome told.bound (λ b. IsRaisedTo core b now.bound) → IfSome told.found.point (λ v. IsTriedBack (offered_core core tree holding) v.items) → IsFound (offered_core core tree holding) (box_of tree now) now.bound told.found)
  told_found came.Empty h = tt
  told_found (came.Bound point bound combo) h = λ raised tried. least_found point.items bound (record { point = Some point; combo = Some combo; mark = None }) refl refl h raised.plain tried
  told_found (came.Near point bound) h = λ raised tried. near_found point.items bound (record { point = Some point; combo = None; mark = None }) refl refl h (raised.whole h.good.whole) tried
  told_found (came.Falls point) h = λ raised tried. falling_found point.items (record { point = Some point; combo = None; mark = None }) refl refl h tried
  told_found (came.Unsolved mark point bound) h = λ raised tried. unsolved_found (λ v. v.items) point mark (record { point = point; combo = None; mark = Some mark }) refl refl h.0 h.1.0 tried
