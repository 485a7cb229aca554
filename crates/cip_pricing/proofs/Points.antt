-- Points of the master program come to mixtures.
use Rattle.std.proofs.Common.{◌≡◌, ℕ, zero, suc, ◌+◌, ◌<◌, List, [], ◌∷◌, ◌++◌, length, map, take, drop, None, Some, IfSome, sym, ap, ap₂, ◌∙◌, subst, arith}
use Rattle.std.specs.List.{AllZip, AllByRecursion}
use Rattle.std.proofs.lemmas.List.{length-map, take-append-drop}
use Rattle.cip_rational.specs.Rational.{ℚ, oneℚ, ◌≤ℚ◌}
use Rattle.cip_rational.specs.Sums.{dot, AllNonneg}
use Rattle.cip_rational.proofs.Rational.Order.{≤ℚ_antisymm}
use Rattle.cip_problem.specs.Program.{Sides, Row, Program}
use Rattle.cip_problem.specs.Activity.{activity}
use Rattle.cip_problem.specs.Box.{Between, IsInBox}
use Rattle.cip_problem.specs.Points.{IsSatisfied}
use Rattle.cip_problem.proofs.Points.AtPlaces.{IsInBox-long}
use Rattle.cip_problem.specs.LinearProgram.{LinearProgram, IsPoint}
use Rattle.cip_pricing.specs.Decomposition.{Decomposition, picked, IsDecomposed, master_rows, IsBlockPoint}
use Rattle.cip_pricing.specs.Mixtures.{Held, total}
use Rattle.cip_pricing.specs.MasterForms.{held_owners, master_form, mixed, weight_sides}
use Rattle.cip_pricing.specs.Statements.{WeightsSumToOne}
use Rattle.cip_pricing.proofs.Masters.{mixture_of, form_same, seconds}
use Rattle.cip_pricing.specs.MasterPrograms.{IsMasterRow, AreSumRows, IsMasterProgram}
use Rattle.cip_pricing.specs.MasterStatements.{AreHeld, ComesToMixture}
use Rattle.cip_pricing.proofs.Sums.{sum_row}

-- ---- lists in two parts

front_in : (first second : List Sides) (point : List ℚ) → IsInBox (first ++ second) point
    → IsInBox first (take (length first) point)
front_in [] second point h = tt
front_in (s ∷ ss) second [] h = absurd h
front_in (s ∷ ss) second (v ∷ vs) h = (h.0, front_in ss second vs h.1)

rest_in : (first second : List Sides) (point : List ℚ) → IsInBox (first ++ second) point
    → IsInBox second (drop (length first) point)
rest_in [] second point h = h
rest_in (s ∷ ss) second [] h = absurd h
rest_in (s ∷ ss) second (v ∷ vs) h = rest_in ss second vs h.1

both_parts : {X : Type 0} (P : X → Type 0) (first second : List X) → AllByRecursion P (first ++ second)
    → AllByRecursion P first × AllByRecursion P second
both_parts P [] second h = (tt, h)
both_parts P (x ∷ xs) second h =
    let k = both_parts P xs second h.1 in
    ((h.0, k.0), k.1)

weights_nonneg : (held : List Held) (weights : List ℚ) → IsInBox (map (λ (h : Held). weight_sides) held) weights
    → AllNonneg weights
weights_nonneg [] [] h = tt
weights_nonneg [] (w ∷ ws) h = absurd h
weights_nonneg (g ∷ hs) [] h = absurd h
weights_nonneg (g ∷ hs) (w ∷ ws) h = (h.0.above, weights_nonneg hs ws h.1)

-- ---- weights sum to 1

-- the value of a row whose sides are 1
one_value : (own : Row) (value : ℚ) → own.low ≡ Some oneℚ → own.high ≡ Some oneℚ → Between own.low own.high value
    → value ≡ oneℚ
one_value own value e f b =
    let low : oneℚ ≤ℚ value = subst (λ o. IfSome o (λ side. side ≤ℚ value)) e b.above in
    let high : value ≤ℚ oneℚ = subst (λ o. IfSome o (λ side. value ≤ℚ side)) f b.below in
    ≤ℚ_antisymm high low

sums_one : (free first block : ℕ) (held : List Held) (owns : List Row) (values weights : List ℚ)
    → length values ≡ free → AreSumRows free first held owns
    → AllByRecursion (λ row. IsSatisfied row (values ++ weights)) owns → block < length owns
    → total (picked (Some (first + block)) (held_owners held) weights) ≡ oneℚ
sums_one free first block held [] values weights e a s l = absurd (omega (arith, l))
sums_one free first zero held (o ∷ os) values weights e a s l =
    let none : first + 0 ≡ first = omega arith in
    ap (λ n. total (picked (Some n) (held_owners held) weights)) none
    ∙ sym (sum_row free first held o values weights e a.0)
    ∙ one_value o (activity o.terms (values ++ weights)) a.0.low a.0.high s.0
sums_one free first (suc block) held (o ∷ os) values weights e a s l =
    let next : first + suc block ≡ suc first + block = omega arith in
    ap (λ n. total (picked (Some n) (held_owners held) weights)) next
    ∙ sums_one free (suc first) block held os values weights e a.1 s.1 (omega (arith, l))

-- ---- master rows

module _ (program : Program) (blocks : Decomposition) (box : List Sides) (held : List Held) (values weights : List ℚ)
    (d : IsDecomposed program blocks) (wide : length box ≡ length blocks.columns)
    (points : AreHeld program blocks box held) (free : IsInBox (picked None blocks.columns box) values)
    (paired : length weights ≡ length held) (one : WeightsSumToOne blocks held weights) where
  same_sum : (form : List ℚ) → length form ≡ length blocks.columns
      → dot form (mixed blocks.columns held values weights)
      ≡ dot (master_form blocks.columns form held) (values ++ weights)
  same_sum form e = form_same program blocks box held form values weights d wide points e free paired one

  masters_met : (rows owns : List Row) → AllZip (IsMasterRow (length blocks.columns) blocks.columns held) rows owns
      → AllByRecursion (λ row. IsSatisfied row (values ++ weights)) owns
      → AllByRecursion (λ row. IsSatisfied row (mixed blocks.columns held values weights)) rows
  masters_met [] owns a s = tt
  masters_met (r ∷ rs) [] a s = absurd a
  masters_met (r ∷ rs) (o ∷ os) a s =
      let same : activity o.terms (values ++ weights)
      ≡ activity r.terms (mixed blocks.columns held values weights) =
      a.0.sums (values ++ weights) ∙ sym (same_sum a.0.form a.0.long)
      ∙ a.0.is_form (mixed blocks.columns held values weights) in (
        subst (λ v. Between r.low r.high v) same
            (subst (λ low. Between low r.high (activity o.terms (values ++ weights))) a.0.low
            (subst (λ high. Between o.low high (activity o.terms (values ++ weights))) a.0.high s.0)),
        masters_met rs os a.1 s.1,
      )

-- ---- the whole

pub comes_to : (program : Program) (blocks : Decomposition) (box : List Sides) (held : List Held) (lp : LinearProgram)
    (point : List ℚ) → IsDecomposed program blocks → length box ≡ length blocks.columns
    → AreHeld program blocks box held → IsMasterProgram program blocks box held lp → IsPoint lp point
    → ComesToMixture program blocks box held lp point
comes_to program blocks box held lp point d wide points m p =
    let n : ℕ = length (picked None blocks.columns box) in
    let within : IsInBox (picked None blocks.columns box ++ map (λ (h : Held). weight_sides) held) point =
    subst (λ (ss : List Sides). IsInBox ss point) m.bounds p.within in
    let values : List ℚ = take n point in
    let weights : List ℚ = drop n point in
    let front : IsInBox (picked None blocks.columns box) values =
    front_in (picked None blocks.columns box) (map (λ (h : Held). weight_sides) held) point within in
    let back : IsInBox (map (λ (h : Held). weight_sides) held) weights =
    rest_in (picked None blocks.columns box) (map (λ (h : Held). weight_sides) held) point within in
    let each_value : length values ≡ n = IsInBox-long (picked None blocks.columns box) values front in
    let each_weight : length weights ≡ length held =
    IsInBox-long (map (λ (h : Held). weight_sides) held) weights back ∙ length-map held (λ (h : Held). weight_sides) in
    let joined : values ++ weights ≡ point = take-append-drop n point in
    let rows = both_parts (λ row. IsSatisfied row (values ++ weights)) m.masters m.sums
    (subst (λ (rows : List Row). AllByRecursion (λ row. IsSatisfied row (values ++ weights)) rows) m.rows
    (subst (λ (x : List ℚ). AllByRecursion (λ row. IsSatisfied row x) lp.rows) (sym joined) p.rows)) in
    let one : WeightsSumToOne blocks held weights =
    (λ (block : ℕ) (l : block < blocks.count).
    let many : length m.sums ≡ blocks.count = m.count in
    let zero_more : 0 + block ≡ block = omega arith in
    subst (λ k. total (picked (Some k) (held_owners held) weights) ≡ oneℚ) zero_more
    (sums_one n 0 block held m.sums values weights each_value m.are_sums rows.1 (omega (arith, l, many)))) in
    let good = seconds (λ (h : Held). h.block < blocks.count)
    (λ (h : Held). IsBlockPoint program blocks box h.block h.point) held points in
    record {
      values = values;
      weights = weights;
      is = sym joined;
      each_value = each_value;
      each_weight = each_weight;
      mixture =
          mixture_of program blocks box held values weights d wide good front each_weight one
          (weights_nonneg held weights back);
      meets =
          masters_met program blocks box held values weights d wide points front each_weight one
          (master_rows program blocks) m.masters m.are_masters rows.0;
      cost =
          ap₂ dot m.costs (sym joined)
          ∙ sym (same_sum program blocks box held values weights d wide points front each_weight one program.costs
          (sym d.each_column));
    }
