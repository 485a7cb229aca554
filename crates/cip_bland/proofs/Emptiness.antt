-- Aggregated rows without coefficients, and where the row of a variable outside shows that there is no point.
use Rattle.std.proofs.Common.{◌≡◌, ℕ, zero, suc, ◌<◌, ◌==◌, Bool, true, false, not, cond, List, [], ◌∷◌, length, replicate, Some, refl, sym, ap, ap₂, ◌∙◌, subst, inl, inr, arith}
use Rattle.std.proofs.lemmas.Bool.{true≢false, and_parts, eq-eqb, ne_eqb, cases_eq}
use Rattle.cip_rational.specs.Rational.{ℚ, ◌+ℚ◌, ◌-ℚ◌, ◌*ℚ◌, negate, zeroℚ, oneℚ, ◌<ℚ◌}
use Rattle.cip_rational.specs.Sums.{dot}
use Rattle.cip_rational.proofs.Rational.Ring.{+ℚ-zero, zero-+ℚ, zero-*ℚ, one-*ℚ, negate-*ℚ}
use Rattle.cip_rational.proofs.Rational.Order.{not_le_of_lt}
use Rattle.cip_rational.proofs.Linear.{linear_le, linear_lt, linear_same}
use Rattle.cip_bland.specs.Program.{Sides}
use Rattle.cip_bland.specs.Box.{sides_at, is_between}
use Rattle.cip_bland.specs.BoxBound.{sum_if_both, least_costs}
use Rattle.cip_bland.specs.LinearProgram.{LinearProgram, IsProper}
use Rattle.cip_bland.specs.Aggregate.{Inequality, aggregate, differences, bound_of}
use Rattle.cip_bland.specs.Multipliers.{paired, IsUsed}
use Rattle.cip_problem.proofs.Aggregates.{length-table}
use Rattle.cip_problem.proofs.Certificates.{combination_bound, certified_empty}
use Rattle.cip_bland.specs.Tables.{total, form}
use Rattle.cip_bland.specs.Dictionary.{Dictionary, size, is_basic, entry, value, Solves, IsConsistent}
use Rattle.cip_bland.specs.ProgramState.{first_of_program}
use Rattle.cip_bland.proofs.Tables.{total_same, total-add, total-only, only, only_here, only_there}
use Rattle.cip_bland.specs.Headings.{back_of, along, side_ahead}
use Rattle.cip_bland.specs.Rule.{is_outside, outside_heading, repairs}
use Rattle.cip_bland.specs.EndAnswers.{parts_of, certificate_of, row_multiplier, outside_certificate}
use Rattle.cip_bland.specs.Statements.{IsStateOf, ShowsNoPoint}
use Rattle.cip_bland.specs.declared.steps.Heading.{Heading}
use Rattle.cip_bland.specs.declared.steps.Heading.TheVariants.{Up, Down}
use Rattle.cip_bland.proofs.Searches.{NoneOf}
use Rattle.cip_bland.proofs.SideCases.{IsPast, outside_past}
use Rattle.cip_bland.proofs.StateFacts.{stuck_row, sizes}
use Rattle.cip_bland.proofs.Multiples.{on_variables, paired_is, sums_to_nothing, UsedAll, uses_sides}
use Rattle.cip_bland.proofs.Named.{parts_are}
use Rattle.cip_bland.proofs.Optima.{is_certificate}

-- ---- costs of 0

pub dot-replicate : (n : ℕ) (xs : List ℚ) → dot (replicate n zeroℚ) xs ≡ zeroℚ
dot-replicate zero xs = refl
dot-replicate (suc n) [] = refl
dot-replicate (suc n) (x ∷ xs) = rw (zero-*ℚ x, dot-replicate n xs) (zero-+ℚ zeroℚ)

pub length-zeros : (n : ℕ) → length (replicate n zeroℚ) ≡ n
length-zeros zero = refl
length-zeros (suc n) = ap suc (length-zeros n)

zero_differences : (n : ℕ) (ds : List ℚ) → length ds ≡ n → differences (replicate n zeroℚ) ds ≡ differences [] ds
zero_differences zero [] l = refl
zero_differences zero (d ∷ ds) l = absurd (omega (arith, l))
zero_differences (suc n) [] l = absurd (omega (arith, l))
zero_differences (suc n) (d ∷ ds) l = ap (λ es. (zeroℚ -ℚ d) ∷ es) (zero_differences n ds (omega (arith, l)))

-- a bound for costs of 0, one for each column, is one for no costs
pub no_costs : (row : Inequality) (box : List Sides) (b : ℚ) → length row.coefficients ≡ length box → bound_of row (replicate (length box) zeroℚ) box ≡ Some b → bound_of row [] box ≡ Some b
no_costs row box b l e =
    let same = zero_differences (length box) row.coefficients l in
    ap (λ ds. sum_if_both (Some row.least) (least_costs ds box)) (sym same) ∙ e

-- ---- multipliers whose sum is 0

pub certified_nothing : (program : LinearProgram) (y u : ℕ → ℚ) → IsProper program → UsedAll program y u → ((x : ℕ → ℚ) → Solves (first_of_program program) x → form (size (first_of_program program)) y x ≡ zeroℚ) → zeroℚ <ℚ form (size (first_of_program program)) y u → ShowsNoPoint program (certificate_of program y)
certified_nothing program y u proper used none positive =
    let n = length program.bounds in
    let zeros = replicate n zeroℚ in
    let uses = uses_sides program y u used in
    let above : zeroℚ <ℚ paired (on_variables program y) (on_variables program u) = subst (λ q. zeroℚ <ℚ q) (sym (paired_is program y u)) positive in
    let row = aggregate n (parts_of program (certificate_of program y)) in
    let bounded : bound_of row zeros program.bounds ≡ Some (paired (on_variables program y) (on_variables program u)) =
    ap (λ ps. bound_of (aggregate n ps) zeros program.bounds) (parts_are program y u used)
    ∙ combination_bound program (on_variables program y) (on_variables program u) zeros proper uses (length-zeros n) (sums_to_nothing program proper y zeros none (dot-replicate n)) in
    record {
      no_point = certified_empty program (on_variables program y) (on_variables program u) proper uses (sums_to_nothing program proper y [] none (λ z. refl)) above;
      certificate = is_certificate program y u used;
      empty = record {
        bound = paired (on_variables program y) (on_variables program u);
        is_bound = no_costs row program.bounds _ (length-table n _) bounded;
        positive = above;
      };
    }

-- ---- ways up and down

pub along-zero : (heading : Heading) → along heading zeroℚ ≡ zeroℚ
along-zero Up = refl
along-zero Down = linear_same [] (λ s w. omega arith)

pub along-one : (heading : Heading) (x : ℚ) → along heading oneℚ *ℚ x ≡ along heading x
along-one Up x = one-*ℚ x
along-one Down x = negate-*ℚ oneℚ x ∙ ap negate (one-*ℚ x)

pub along-mul : (heading : Heading) (a x : ℚ) → along heading a *ℚ x ≡ along heading (a *ℚ x)
along-mul Up a x = refl
along-mul Down a x = negate-*ℚ a x

pub total-along : (n : ℕ) (heading : Heading) (f : ℕ → ℚ) → total n (λ k. along heading (f k)) ≡ along heading (total n f)
total-along zero heading f = sym (along-zero heading)
total-along (suc n) Up f = ap (λ q. q +ℚ f n) (total-along n Up f)
total-along (suc n) Down f =
    ap (λ q. q +ℚ negate (f n)) (total-along n Down f) ∙ linear_same (total n f ∷ f n ∷ []) (λ s w. omega arith)

pub back_and_forth : (heading : Heading) (a : ℚ) → along (back_of (back_of heading)) a ≡ along heading a
back_and_forth Up a = refl
back_and_forth Down a = refl

opposed : (heading : Heading) (a : ℚ) → along (back_of heading) a +ℚ along heading a ≡ zeroℚ
opposed Up a = linear_same (a ∷ []) (λ s w. omega arith)
opposed Down a = linear_same (a ∷ []) (λ s w. omega arith)

apart : (heading : Heading) (a b : ℚ) → along heading a <ℚ along heading b → zeroℚ <ℚ along (back_of heading) a +ℚ along heading b
apart Up a b h = linear_lt (a ∷ b ∷ []) (λ s w. omega (arith, s.lt_out))
apart Down a b h = linear_lt (a ∷ b ∷ []) (λ s w. omega (arith, s.lt_out))

-- the multiplier of the variable outside uses the side that it breaks
past_used : (heading : Heading) (s : Sides) (side : ℚ) → side_ahead heading s ≡ Some side → IsUsed (along (back_of heading) oneℚ) s side
past_used Up s side e = record { low = λ p. absurd (not_le_of_lt p (linear_le [] (λ s w. omega arith))); high = λ n. e }
past_used Down s side e = record { low = λ p. e; high = λ n. absurd (not_le_of_lt n (linear_le [] (λ s w. omega arith))) }

-- ---- the row of a variable outside
module _ (d : Dictionary) (c : IsConsistent d) (i : ℕ) (li : i < size d) (bi : is_basic d i ≡ true) where
  multiplier_here : row_multiplier d i i ≡ along (back_of (outside_heading d i)) oneℚ
  multiplier_here = ap (λ t. cond t (along (back_of (outside_heading d i)) oneℚ) (along (outside_heading d i) (entry d i i))) (eq-eqb i i refl)

  multiplier_there : (v : ℕ) → ¬ (v ≡ i) → row_multiplier d i v ≡ along (outside_heading d i) (entry d i v)
  multiplier_there v ne = ap (λ t. cond t (along (back_of (outside_heading d i)) oneℚ) (along (outside_heading d i) (entry d i v))) (ne_eqb v i ne)

  row_product : (x : ℕ → ℚ) (k : ℕ) → row_multiplier d i k *ℚ x k ≡ only i (along (back_of (outside_heading d i)) (x i)) k +ℚ along (outside_heading d i) (entry d i k *ℚ x k)
  row_product x k =
      elim (cases_eq k i) [
        | inl e ↦ rw e (here)
        | inr ne ↦
            (ap (λ q. q *ℚ x k) (multiplier_there k ne) ∙ along-mul (outside_heading d i) (entry d i k) (x k)
            ∙ sym (ap (λ q. q +ℚ along (outside_heading d i) (entry d i k *ℚ x k)) (only_there i k (along (back_of (outside_heading d i)) (x i)) ne) ∙ zero-+ℚ _))
      ]
    where
      here : row_multiplier d i i *ℚ x i ≡ only i (along (back_of (outside_heading d i)) (x i)) i +ℚ along (outside_heading d i) (entry d i i *ℚ x i)
      here =
          ap (λ q. q *ℚ x i) multiplier_here ∙ along-one (back_of (outside_heading d i)) (x i)
          ∙ sym (ap₂ (λ a b. a +ℚ b) (only_here i (along (back_of (outside_heading d i)) (x i))) (ap (along (outside_heading d i)) (ap (λ q. q *ℚ x i) (c.rows_free i i li bi li bi) ∙ zero-*ℚ (x i)) ∙ along-zero (outside_heading d i)) ∙ +ℚ-zero _)

  pub row_form : (x : ℕ → ℚ) → form (size d) (row_multiplier d i) x ≡ along (back_of (outside_heading d i)) (x i) +ℚ along (outside_heading d i) (form (size d) (entry d i) x)
  row_form x =
      total_same (size d) (λ k. row_multiplier d i k *ℚ x k) (λ k. only i (along (back_of (outside_heading d i)) (x i)) k +ℚ along (outside_heading d i) (entry d i k *ℚ x k)) (λ k l. row_product x k)
      ∙ total-add (size d) (only i (along (back_of (outside_heading d i)) (x i))) (λ k. along (outside_heading d i) (entry d i k *ℚ x k))
      ∙ ap₂ (λ a b. a +ℚ b) (total-only (size d) i (along (back_of (outside_heading d i)) (x i)) li) (total-along (size d) (outside_heading d i) (λ k. entry d i k *ℚ x k))

module _ (program : LinearProgram) (d : Dictionary) (proper : IsProper program) (st : IsStateOf program d) (i : ℕ) (li : i < size d) (out : is_outside d i ≡ true) (none : NoneOf (size d) (repairs d i)) where
  bi : is_basic d i ≡ true
  bi = (and_parts _ _ out).0

  not_between : is_between (sides_at d.sides i).low (sides_at d.sides i).high (value d i) ≡ false
  not_between = go (is_between (sides_at d.sides i).low (sides_at d.sides i).high (value d i)) (and_parts _ _ out).1
    where
      go : (b : Bool) → not b ≡ true → b ≡ false
      go true e = absurd (true≢false (sym e))
      go false e = refl

  broken : (side : ℚ) × IsPast (sides_at d.sides i) (value d i) side (outside_heading d i)
  broken = outside_past (sides_at d.sides i).low (sides_at d.sides i).high (value d i) not_between

  -- the sides that are used: that which i breaks, and the values of the others
  abbrev used_value : ℕ → ℚ
  used_value v = cond (v == i) broken.0 (value d v)

  used_at : (v : ℕ) → v < size d → IsUsed (row_multiplier d i v) (sides_at d.sides v) (used_value v)
  used_at v l =
      elim (cases_eq v i) [
        | inl e ↦
            (let here : used_value i ≡ broken.0 = ap (λ t. cond t broken.0 (value d i)) (eq-eqb i i refl) in
            subst (λ w. IsUsed (row_multiplier d i w) (sides_at d.sides w) (used_value w)) (sym e)
            (subst (λ q. IsUsed q (sides_at d.sides i) (used_value i)) (sym (multiplier_here d st.consistent i li bi)) (subst (IsUsed (along (back_of (outside_heading d i)) oneℚ) (sides_at d.sides i)) (sym here) (past_used (outside_heading d i) (sides_at d.sides i) broken.0 broken.1.there))))
        | inr ne ↦
            (let there : used_value v ≡ value d v = ap (λ t. cond t broken.0 (value d v)) (ne_eqb v i ne) in
            let y : along (back_of (back_of (outside_heading d i))) (entry d i v) ≡ row_multiplier d i v = back_and_forth (outside_heading d i) (entry d i v) ∙ sym (multiplier_there d st.consistent i li bi v ne) in
            subst (IsUsed (row_multiplier d i v) (sides_at d.sides v)) (sym there)
            (subst (λ q. IsUsed q (sides_at d.sides v) (value d v)) y
            (stuck_row d st.consistent (entry d i) (back_of (outside_heading d i)) (λ k lk bk. st.consistent.rows_free i k li bi lk bk) none v l)))
      ]

  used : UsedAll program (row_multiplier d i) used_value
  used v l =
      subst (λ sides. IsUsed (row_multiplier d i v) (sides_at sides v) (used_value v)) (sym st.same.same_sides) (used_at v (subst (λ n. v < n) (sizes program d proper st) l))

  sums : (x : ℕ → ℚ) → Solves (first_of_program program) x → form (size (first_of_program program)) (row_multiplier d i) x ≡ zeroℚ
  sums x s =
      ap (λ n. form n (row_multiplier d i) x) (sizes program d proper st)
      ∙ row_form d st.consistent i li bi x
      ∙ ap (λ q. along (back_of (outside_heading d i)) (x i) +ℚ along (outside_heading d i) q) (sym (st.same.onto x s i li bi))
      ∙ opposed (outside_heading d i) (x i)

  same_products : (k : ℕ) → entry d i k *ℚ used_value k ≡ entry d i k *ℚ value d k
  same_products k =
      elim (cases_eq k i) [
        | inl e ↦
            (let z : entry d i k ≡ zeroℚ = ap (entry d i) e ∙ st.consistent.rows_free i i li bi li bi in
            rw z (zero-*ℚ (used_value k) ∙ sym (zero-*ℚ (value d k))))
        | inr ne ↦ ap (λ t. entry d i k *ℚ cond t broken.0 (value d k)) (ne_eqb k i ne)
      ]

  pairs : form (size (first_of_program program)) (row_multiplier d i) used_value ≡ along (back_of (outside_heading d i)) broken.0 +ℚ along (outside_heading d i) (value d i)
  pairs =
      let here : used_value i ≡ broken.0 = ap (λ t. cond t broken.0 (value d i)) (eq-eqb i i refl) in
      ap (λ n. form n (row_multiplier d i) used_value) (sizes program d proper st)
      ∙ row_form d st.consistent i li bi used_value
      ∙ ap₂ (λ a b. along (back_of (outside_heading d i)) a +ℚ along (outside_heading d i) b) here
      (total_same (size d) (λ k. entry d i k *ℚ used_value k) (λ k. entry d i k *ℚ value d k) (λ k l. same_products k) ∙ sym (st.consistent.solved i li bi))

  pub shows_no_point : ShowsNoPoint program (outside_certificate program d i)
  shows_no_point =
      certified_nothing program (row_multiplier d i) used_value proper used sums
      (subst (λ q. zeroℚ <ℚ q) (sym pairs) (apart (outside_heading d i) broken.0 (value d i) broken.1.past))
