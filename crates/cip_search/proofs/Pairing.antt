-- Pairs: a step is one, and they follow one another.
use Rattle.std.proofs.Common.{◌≡◌, ◌⊎◌, ℕ, ◌<◌, Bool, true, List, length, Some, slice_get, refl, sym, ap, ◌∙◌, subst, arith, inl, inr}
use Rattle.cip_rational.specs.Rational.{ℚ, ◌+ℚ◌, ◌*ℚ◌, zeroℚ, oneℚ}
use Rattle.cip_rational.proofs.Rational.Order.{≤ℚ_trans, ≤ℚ_of_eq}
use Rattle.cip_rational.proofs.Rational.Ring.{*ℚ-zero, zero-+ℚ, one-*ℚ, zero-*ℚ, *ℚ-add, *ℚ_assoc, +ℚ_assoc}
use Rattle.cip_rational.proofs.Rational.Whole.{IsWhole-zero, IsWhole-one, IsWhole-add, IsWhole-mul}
use Rattle.cip_problem.specs.Program.{Choice, Program}
use Rattle.cip_problem.specs.Activity.{value_at}
use Rattle.cip_problem.specs.Box.{sides_at, sides_inside}
use Rattle.cip_problem.specs.Choices.{choice_at, is_open}
use Rattle.cip_problem.specs.Points.{IsFeasible}
use Rattle.cip_problem.specs.Wholes.{assignments, AtMost}
use Rattle.cip_problem.proofs.Box.SideTests.{sides_inside_holds}
use Rattle.cip_problem.specs.Reduced.{IsRelaxed}
use Rattle.cip_search.specs.NarrowedPrograms.{IsTightened, IsStep, IsExactStep, IsInfeasible}
use Rattle.cip_search.specs.Forms.{Form}
use Rattle.cip_search.specs.Pairs.{HasSource, IsKept, HasForm, IsWholeIn, own_sides, semi_values, IsHeldFast, HasNear, IsPair, IsBack, IsExactPair}
use Rattle.cip_search.proofs.Inside.{inside_chain, all_self, all_chain, all_long, all_at, all_hold, at_most_chain, fewer_assignments}

-- ---- steps

pub step_self : (program : Program) → IsTightened program program
step_self program = record {
  integral = refl;
  choices = refl;
  inside = all_self program.bounds;
  rows = λ point h. h.rows;
  cost = λ point h. refl;
}

-- a point that keeps the bounds and rows of a narrowed program keeps the program's
pub narrowed_relaxed : (program narrowed : Program) (point : List ℚ) → IsTightened program narrowed → IsRelaxed narrowed point → IsRelaxed program point
narrowed_relaxed program narrowed point n h = record {
  within = all_hold narrowed.bounds program.bounds point n.inside h.within;
  rows = n.rows point h;
}

pub narrowed_after : (first second third : Program) → IsTightened first second → IsTightened second third → IsTightened first third
narrowed_after first second third a b = record {
  integral = b.integral ∙ a.integral;
  choices = b.choices ∙ a.choices;
  inside = all_chain third.bounds second.bounds first.bounds b.inside a.inside;
  rows = λ point h. a.rows point (narrowed_relaxed second third point b h);
  cost = λ point h. a.cost point (narrowed_relaxed second third point b h) ∙ b.cost point h;
}

-- a column held fast stays so where its sides are narrowed
held_inside : (outer inner : Program) (column number : ℕ) → sides_inside (sides_at inner.bounds column) (sides_at outer.bounds number) ≡ true → IsHeldFast outer number → IsHeldFast inner column
held_inside outer inner column number i h = record {
  value = h.value;
  inside = inside_chain (sides_at inner.bounds column) (sides_at outer.bounds number) (record { low = Some h.value; high = Some h.value }) i h.inside;
}

-- a point near one that is near another
module _ (first second third : Program) (kept later : ℕ → ℕ) (point : List ℚ) (f : HasNear first second kept point) (g : HasNear second third later f.other) (within : (column : ℕ) → column < length third.bounds → later column < length second.bounds) (inside : (column : ℕ) → column < length third.bounds → sides_inside (sides_at third.bounds column) (sides_at second.bounds (later column)) ≡ true) (choice : (column : ℕ) → column < length third.bounds → choice_at second.choices (later column) ≡ choice_at third.choices column) where
  near_first : (column : ℕ) → column < length third.bounds → value_at g.other column ≡ value_at f.other (later column) → (value_at f.other (later column) ≡ value_at point (kept (later column))) ⊎ IsHeldFast second (later column) → (value_at g.other column ≡ value_at point (kept (later column))) ⊎ IsHeldFast third column
  near_first column l e (inl d) = inl (e ∙ d)
  near_first column l e (inr h) = inr (held_inside second third column (later column) (inside column l) h)

  near_at : (column : ℕ) → column < length third.bounds → (value_at g.other column ≡ value_at f.other (later column)) ⊎ IsHeldFast third column → (value_at g.other column ≡ value_at point (kept (later column))) ⊎ IsHeldFast third column
  near_at column l (inl e) = near_first column l e (f.near (later column) (within column l))
  near_at column l (inr h) = inr h

  near_after : HasNear first third (λ column. kept (later column)) point
  near_after = record {
    other = g.other;
    feasible = g.feasible;
    no_dearer = ≤ℚ_trans g.no_dearer f.no_dearer;
    near = λ column l. near_at column l (g.near column l);
    semi = λ column l o. g.semi column l o ∙ f.semi (later column) (within column l) (subst (λ (c : Choice). is_open c ≡ true) (sym (choice column l)) o);
  }

narrowed_within : (program narrowed : Program) (column : ℕ) → IsTightened program narrowed → column < length narrowed.bounds → column < length program.bounds
narrowed_within program narrowed column n h = let e = all_long narrowed.bounds program.bounds n.inside in omega (arith, h, e)

pub step_after : (first second third : Program) → IsStep first second → IsStep second third → IsStep first third
step_after first second third a b = record {
  narrowed = narrowed_after first second third a.narrowed b.narrowed;
  none_lost = λ point h.
      let f = a.none_lost point h in
      near_after first second third (λ column. column) (λ column. column) point f (b.none_lost f.other f.feasible)
      (λ column l. narrowed_within second third column b.narrowed l)
      (λ column l. all_at third.bounds second.bounds column b.narrowed.inside)
      (λ column l. ap (λ (cs : List Choice). choice_at cs column) (sym b.narrowed.choices));
}

pub exact_after : (first second third : Program) → IsExactStep first second → IsExactStep second third → IsExactStep first third
exact_after first second third a b = record {
  narrowed = narrowed_after first second third a.narrowed b.narrowed;
  keeps = λ point h. b.keeps point (a.keeps point h);
}

pub exact_self : (program : Program) → IsExactStep program program
exact_self program = record { narrowed = step_self program; keeps = λ point h. h }

pub feasible_relaxed : (program : Program) (point : List ℚ) → IsFeasible program point → IsRelaxed program point
feasible_relaxed program point h = record { within = h.within; rows = h.rows }

-- an exact step is a step
pub exact_step : (program narrowed : Program) → IsExactStep program narrowed → IsStep program narrowed
exact_step program narrowed s = record {
  narrowed = s.narrowed;
  none_lost = λ point h. record {
    other = point;
    feasible = s.keeps point h;
    no_dearer = ≤ℚ_of_eq (sym (s.narrowed.cost point (feasible_relaxed narrowed point (s.keeps point h))));
    near = λ column l. inl refl;
    semi = λ column l o. refl;
  };
}

-- where the narrowed program has no point, the program has none
pub infeasible_before : (program narrowed : Program) → IsStep program narrowed → IsInfeasible narrowed → IsInfeasible program
infeasible_before program narrowed s h point k = let f = s.none_lost point k in h f.other f.feasible

-- ---- a step is a pair

self_form : (program narrowed : Program) (column : ℕ) → narrowed.integral ≡ program.integral → slice_get program.integral column ≡ Some true → HasForm narrowed (λ point. point) column
self_form program narrowed column e h = record {
  form = record { constant = zeroℚ; factor = oneℚ; source = column };
  constant = IsWhole-zero;
  factor = IsWhole-one;
  source = inr (subst (λ (ws : List Bool). slice_get ws column ≡ Some true) (sym e) h);
  value = λ point k. sym (zero-+ℚ _ ∙ one-*ℚ _);
}

narrowed_value : (program narrowed : Program) (point : List ℚ) (column : ℕ) → IsTightened program narrowed → IsWholeIn (sides_at narrowed.bounds column) (value_at point column) → IsWholeIn (sides_at program.bounds column) (value_at point column)
narrowed_value program narrowed point column n h = record {
  whole = h.whole;
  in_range = h.in_range;
  between = sides_inside_holds (sides_at narrowed.bounds column) (sides_at program.bounds column) (value_at point column) (all_at narrowed.bounds program.bounds column n.inside) h.between;
}

pub step_pair : (program narrowed : Program) → IsStep program narrowed → IsPair program narrowed (λ point. point) (λ column. column)
step_pair program narrowed s =
    let n = s.narrowed in
    let same : length program.bounds ≡ length narrowed.bounds = all_long narrowed.bounds program.bounds n.inside in
    record {
      long = λ point h. h ∙ sym same;
      relaxed = λ point h. narrowed_relaxed program narrowed point n h;
      cost = n.cost;
      none_lost = s.none_lost;
      columns = λ column h. record {
        within = narrowed_within program narrowed column n h;
        whole = ap (λ (ws : List Bool). slice_get ws column) (sym n.integral);
        choice = ap (λ (cs : List Choice). choice_at cs column) (sym n.choices);
        inside = all_at narrowed.bounds program.bounds column n.inside;
        value = λ point k. refl;
      };
      forms = λ column h. self_form program narrowed column n.integral h;
      assigned = λ point h. record {
        long = h.long ∙ sym same;
        values = λ column k. narrowed_value program narrowed point column n (h.values column (subst (λ (ws : List Bool). slice_get ws column ≡ Some true) (sym n.integral) k));
      };
      fewer = subst (λ ws. AtMost (assignments ws narrowed.bounds) (assignments program.integral program.bounds)) (sym n.integral) (fewer_assignments program.integral narrowed.bounds program.bounds n.inside);
      semi = record {
        own = ap own_sides (sym n.choices);
        values = λ point h. ap (λ choices. semi_values choices point) (sym n.choices);
      };
    }

pub exact_step_pair : (program narrowed : Program) → IsExactStep program narrowed → IsExactPair program narrowed (λ point. point) (λ column. column)
exact_step_pair program narrowed s = record {
  pair = step_pair program narrowed (exact_step program narrowed s);
  back = λ point h. record {
    other = point;
    feasible = s.keeps point h;
    same = refl;
    cost = sym (s.narrowed.cost point (feasible_relaxed narrowed point (s.keeps point h)));
  };
}

-- ---- pairs follow one another

-- the form of a form
composed : (outer inner : Form) (v : ℚ) → outer.constant +ℚ outer.factor *ℚ (inner.constant +ℚ inner.factor *ℚ v) ≡ (outer.constant +ℚ outer.factor *ℚ inner.constant) +ℚ (outer.factor *ℚ inner.factor) *ℚ v
composed outer inner v =
    ap (λ t. outer.constant +ℚ t) (*ℚ-add outer.factor inner.constant (inner.factor *ℚ v))
    ∙ sym (+ℚ_assoc outer.constant (outer.factor *ℚ inner.constant) (outer.factor *ℚ (inner.factor *ℚ v)))
    ∙ ap (λ t. (outer.constant +ℚ outer.factor *ℚ inner.constant) +ℚ t) (sym (*ℚ_assoc outer.factor inner.factor v))

-- without a factor the source doesn't matter
pub no_factor : (factor v w : ℚ) → factor ≡ zeroℚ → factor *ℚ v ≡ factor *ℚ w
no_factor factor v w e = ap (λ t. t *ℚ v) e ∙ zero-*ℚ v ∙ sym (ap (λ t. t *ℚ w) e ∙ zero-*ℚ w)

zero_factor : (factor other : ℚ) → other ≡ zeroℚ → factor *ℚ other ≡ zeroℚ
zero_factor factor other e = ap (λ t. factor *ℚ t) e ∙ *ℚ-zero factor

module _ (first second third : Program) (post more : List ℚ → List ℚ) (kept later : ℕ → ℕ) (a : IsPair first second post kept) (b : IsPair second third more later) where
  after_constant : (column : ℕ) (f : HasForm second post column) → f.form.factor ≡ zeroℚ → HasForm third (λ point. post (more point)) column
  after_constant column f e = record {
    form = f.form;
    constant = f.constant;
    factor = f.factor;
    source = inl e;
    value = λ point h. f.value (more point) (b.long point h) ∙ ap (λ t. f.form.constant +ℚ t) (no_factor f.form.factor _ _ e);
  }

  after_source : (f : Form) (g : Form) (integral : List Bool) → HasSource integral g → HasSource integral (record { constant = f.constant +ℚ f.factor *ℚ g.constant; factor = f.factor *ℚ g.factor; source = g.source })
  after_source f g integral (inl e) = inl (zero_factor f.factor g.factor e)
  after_source f g integral (inr h) = inr h

  after_form : (column : ℕ) (f : HasForm second post column) → HasForm third more f.form.source → HasForm third (λ point. post (more point)) column
  after_form column f g = record {
    form = record { constant = f.form.constant +ℚ f.form.factor *ℚ g.form.constant; factor = f.form.factor *ℚ g.form.factor; source = g.form.source };
    constant = IsWhole-add _ _ f.constant (IsWhole-mul _ _ f.factor g.constant);
    factor = IsWhole-mul _ _ f.factor g.factor;
    source = after_source f.form g.form third.integral g.source;
    value = λ point h.
        f.value (more point) (b.long point h)
        ∙ ap (λ t. f.form.constant +ℚ f.form.factor *ℚ t) (g.value point h)
        ∙ composed f.form g.form (value_at point g.form.source);
  }

  after_forms : (column : ℕ) (f : HasForm second post column) → HasSource second.integral f.form → HasForm third (λ point. post (more point)) column
  after_forms column f (inl e) = after_constant column f e
  after_forms column f (inr h) = after_form column f (b.forms f.form.source h)

  after_kept : (column : ℕ) (k : IsKept second third more later column) → IsKept first second post kept (later column) → IsKept first third (λ point. post (more point)) (λ column. kept (later column)) column
  after_kept column k j = record {
    within = j.within;
    whole = j.whole ∙ k.whole;
    choice = j.choice ∙ k.choice;
    inside = inside_chain (sides_at third.bounds column) (sides_at second.bounds (later column)) (sides_at first.bounds (kept (later column))) k.inside j.inside;
    value = λ point h. j.value (more point) (b.long point h) ∙ k.value point h;
  }

  after_near : (point : List ℚ) → HasNear first second kept point → HasNear first third (λ column. kept (later column)) point
  after_near point f =
      near_after first second third kept later point f (b.none_lost f.other f.feasible)
      (λ column l. (b.columns column l).within)
      (λ column l. (b.columns column l).inside)
      (λ column l. (b.columns column l).choice)

  pub pair_after : IsPair first third (λ point. post (more point)) (λ column. kept (later column))
  pair_after = record {
    long = λ point h. a.long (more point) (b.long point h);
    relaxed = λ point h. a.relaxed (more point) (b.relaxed point h);
    cost = λ point h. a.cost (more point) (b.relaxed point h) ∙ b.cost point h;
    none_lost = λ point h. after_near point (a.none_lost point h);
    columns = λ column h. let k = b.columns column h in after_kept column k (a.columns (later column) k.within);
    forms = λ column h. after_forms column (a.forms column h) (a.forms column h).source;
    assigned = λ point h. a.assigned (more point) (b.assigned point h);
    fewer = at_most_chain _ _ _ b.fewer a.fewer;
    semi = record {
      own = a.semi.own ∙ b.semi.own;
      values = λ point h. a.semi.values (more point) (b.long point h) ∙ b.semi.values point h;
    };
  }

module _ (first second third : Program) (post more : List ℚ → List ℚ) (kept later : ℕ → ℕ) (a : IsExactPair first second post kept) (b : IsExactPair second third more later) where
  after_back : (point : List ℚ) → IsBack first second post point → IsBack first third (λ point. post (more point)) point
  after_back point f =
      let g = b.back f.other f.feasible in
      record { other = g.other; feasible = g.feasible; same = ap post g.same ∙ f.same; cost = g.cost ∙ f.cost }

  pub exact_pair_after : IsExactPair first third (λ point. post (more point)) (λ column. kept (later column))
  exact_pair_after = record {
    pair = pair_after first second third post more kept later a.pair b.pair;
    back = λ point h. after_back point (a.back point h);
  }
