-- The product of two fractions, whose numerators are cancelled against the other's denominator first.
use Rattle.std.proofs.Common.{◌≡◌, ℕ, ◌*◌, ◌/◌, ◌<◌, ◌≤◌, ◌^◌, ℤ, pos, ◌*ℤ◌, unsigned_abs, int_div, true, false, not, sym, ap, subst, ◌∙◌, arith, ◌⊎◌, inl, inr}
use Rattle.std.specs.Int.{IsGcd}
use Prim.Native.Nat.{◌∣◌}
use borrow.Author.Differences.{up, down, same_in, product_is}
use Rattle.std.proofs.lemmas.Int.{unsigned_abs-mul}
use Rattle.std.proofs.Math.Nat.{div-mul_cancel, mul-pos, dvd-mul_right, le-mul_of_pos_right}
use Rattle.cip_rational.specs.Rational.{ℚ, ◌*ℚ◌, ratio, numerator, denominator, is_ratio}
use Rattle.cip_rational.proofs.Rational.Ratio.{ratio-mul, ratio-cancel}
use Rattle.cip_rational.specs.Range.{largest, product_overflows}
use Rattle.cip_frac.specs.LowestTerms.{AreLowest}
use Rattle.cip_frac.proofs.Casts.{kept}
use Rattle.cip_frac.proofs.Divisors.{IsCoprime, coprime_from_divisors, coprime_products, coprime_rests, positive_from_IsGcd, gcd_below}
use Rattle.cip_frac.proofs.Fields.{outside_range, inside_range}
use Rattle.cip_frac.proofs.SumSteps.{read, exact_quotient, factor_some}

four_products : (p q a c : ℤ) (g h : ℕ) → p *ℤ pos g ≡ a → q *ℤ pos h ≡ c → (p *ℤ q) *ℤ pos (g * h) ≡ a *ℤ c
four_products p q a c g h e f =
    let a1 : up (p *ℤ pos g) ≡ up p * g = omega (arith, product_is p (pos g)) in
    let a2 : down (p *ℤ pos g) ≡ down p * g = omega (arith, product_is p (pos g)) in
    let b1 : up (q *ℤ pos h) ≡ up q * h = omega (arith, product_is q (pos h)) in
    let b2 : down (q *ℤ pos h) ≡ down q * h = omega (arith, product_is q (pos h)) in
    let both = rw (a1, a2, b1, b2) at (product_is (p *ℤ pos g) (q *ℤ pos h)) in
    rw (← e, ← f) (same_in _ _ (omega (
      arith,
      both,
      product_is (p *ℤ q) (pos (g * h)),
      ap (λ t. t * (g * h)) (product_is p q).0,
      ap (λ t. t * (g * h)) (product_is p q).1,
    )))

module _ (x y : ℚ) (a c : ℤ) (b d : ℕ) (ea : a ≡ numerator x) (eb : b ≡ denominator x) (ha : AreLowest a b) (ec : c ≡ numerator y) (ed : d ≡ denominator y) (hc : AreLowest c d) (g h : ℕ) (hg : IsGcd (unsigned_abs a) d g) (hh : IsGcd (unsigned_abs c) b h) where
  g_some : 0 < g
  g_some = positive_from_IsGcd (unsigned_abs a) d g hc.positive hg

  h_some : 0 < h
  h_some = positive_from_IsGcd (unsigned_abs c) b h ha.positive hh

  module _ (p q : ℤ) (u o : ℕ) (ep : p *ℤ pos g ≡ a) (eq : q *ℤ pos h ≡ c) (eu : u * h ≡ b) (eo : o * g ≡ d) where
    size_p : unsigned_abs p * g ≡ unsigned_abs a
    size_p = sym (unsigned_abs-mul p (pos g)) ∙ ap unsigned_abs ep

    size_q : unsigned_abs q * h ≡ unsigned_abs c
    size_q = sym (unsigned_abs-mul q (pos h)) ∙ ap unsigned_abs eq

    first_divides : unsigned_abs p ∣ unsigned_abs a
    first_divides = subst (λ n. unsigned_abs p ∣ n) size_p (dvd-mul_right (unsigned_abs p) g)

    second_divides : unsigned_abs q ∣ unsigned_abs c
    second_divides = subst (λ n. unsigned_abs q ∣ n) size_q (dvd-mul_right (unsigned_abs q) h)

    under_divides : u ∣ b
    under_divides = subst (λ n. u ∣ n) eu (dvd-mul_right u h)

    over_divides : o ∣ d
    over_divides = subst (λ n. o ∣ n) eo (dvd-mul_right o g)

    pub product_coprime : IsCoprime (unsigned_abs (p *ℤ q)) (u * o)
    product_coprime =
        let pu : IsCoprime (unsigned_abs p) u = coprime_from_divisors _ _ _ _ ha.lowest first_divides under_divides in
        let po : IsCoprime (unsigned_abs p) o = coprime_rests _ _ g g_some (rw (size_p, eo) hg) in
        let qu : IsCoprime (unsigned_abs q) u = coprime_rests _ _ h h_some (rw (size_q, eu) hh) in
        let qo : IsCoprime (unsigned_abs q) o = coprime_from_divisors _ _ _ _ hc.lowest second_divides over_divides in
        rw (unsigned_abs-mul p q) (coprime_products (unsigned_abs p) (unsigned_abs q) u o pu po qu qo)

    pub under_some : 0 < u
    under_some = factor_some u h (rw eu ha.positive)

    pub over_some : 0 < o
    over_some = factor_some o g (rw eo hc.positive)

    pub product_ratio : ratio (p *ℤ q) (u * o) ≡ x *ℚ y
    product_ratio =
        let some : 0 < g * h = mul-pos g_some h_some in
        let over : (p *ℤ q) *ℤ pos (g * h) ≡ a *ℤ c = four_products p q a c g h ep eq in
        let under : u * o * (g * h) ≡ b * d = omega (arith, ap (λ t. t * (o * g)) eu, ap (λ t. b * t) eo) in
        let cancelled : ratio ((p *ℤ q) *ℤ pos (g * h)) (u * o * (g * h)) ≡ ratio (p *ℤ q) (u * o) = ratio-cancel (p *ℤ q) (u * o) (g * h) (mul-pos under_some over_some) some in
        let left : ratio a b ≡ x = rw (ea, eb) (is_ratio x) in
        let right : ratio c d ≡ y = rw (ec, ed) (is_ratio y) in
        let multiplied : ratio a b *ℚ ratio c d ≡ ratio (a *ℤ c) (b * d) = ratio-mul a c b d ha.positive hc.positive in
        sym (rw (over, under) at cancelled) ∙ sym multiplied ∙ ap (λ z. z *ℚ ratio c d) left ∙ ap (λ z. x *ℚ z) right

    pub product_large : (largest < unsigned_abs (p *ℤ q)) ⊎ (largest < u * o) → product_overflows x y ≡ true
    unfolding product_overflows
    product_large s =
        rw (← product_ratio) (ap not (outside_range (p *ℤ q) (u * o) (mul-pos under_some over_some) product_coprime s))

    pub products_fit : unsigned_abs (p *ℤ q) < 2 ^ 127 → u * o < 2 ^ 127 → product_overflows x y ≡ false
    unfolding product_overflows
    products_fit s t =
        rw (← product_ratio) (ap not (inside_range (p *ℤ q) (u * o) (mul-pos under_some over_some) product_coprime s t))

-- ---- the steps of the code

pub record Parts (x y : ℚ) (a c : ℤ) (b d g h : ℕ) : Type 0 where
  pub ea : a ≡ numerator x
  pub eb : b ≡ denominator x
  pub ha : AreLowest a b
  pub ec : c ≡ numerator y
  pub ed : d ≡ denominator y
  pub hc : AreLowest c d
  pub hg : IsGcd (unsigned_abs a) d g
  pub hh : IsGcd (unsigned_abs c) b h

pub parts : {x y : ℚ} {a c : ℤ} {b d g h : ℕ} {m n : ℕ} → a ≡ numerator x → b ≡ denominator x → AreLowest a b → c ≡ numerator y → d ≡ denominator y → AreLowest c d → m ≡ unsigned_abs (read a) → IsGcd m d g → n ≡ unsigned_abs (read c) → IsGcd n b h → Parts x y a c b d g h
parts {a = a} {c = c} {b = b} {d = d} {g = g} {h = h} ea eb ha ec ed hc em hg en hh =
    record {
      ea = ea;
      eb = eb;
      ha = ha;
      ec = ec;
      ed = ed;
      hc = hc;
      hg = subst (λ k. IsGcd k d g) (em ∙ ap unsigned_abs (kept a ha.over_small)) hg;
      hh = subst (λ k. IsGcd k b h) (en ∙ ap unsigned_abs (kept c hc.over_small)) hh;
    }

module _ {x y : ℚ} {a c : ℤ} {b d g h : ℕ} (w : Parts x y a c b d g h) where
  pub first_some : 0 < g
  first_some = positive_from_IsGcd (unsigned_abs a) d g w.hc.positive w.hg

  pub second_some : 0 < h
  second_some = positive_from_IsGcd (unsigned_abs c) b h w.ha.positive w.hh

  pub first_small : g < 2 ^ 127
  first_small = let l : g ≤ d = gcd_below (unsigned_abs a) d g w.hc.positive w.hg in omega (arith, w.hc.under_small)

  pub second_small : h < 2 ^ 127
  second_small = let l : h ≤ b = gcd_below (unsigned_abs c) b h w.ha.positive w.hh in omega (arith, w.ha.under_small)

  module _ {p q : ℤ} (ep : p ≡ int_div (read a) (pos g)) (eq : q ≡ int_div (read c) (pos h)) where
    p_exact : p *ℤ pos g ≡ a
    p_exact =
        let e : p ≡ int_div a (pos g) = rw (kept a w.ha.over_small) at ep in
        ap (λ k. k *ℤ pos g) e ∙ exact_quotient a g w.hg.0

    q_exact : q *ℤ pos h ≡ c
    q_exact =
        let e : q ≡ int_div c (pos h) = rw (kept c w.hc.over_small) at eq in
        ap (λ k. k *ℤ pos h) e ∙ exact_quotient c h w.hh.0

    pub p_read : read p ≡ p
    p_read =
        let e : unsigned_abs p * g ≡ unsigned_abs a = sym (unsigned_abs-mul p (pos g)) ∙ ap unsigned_abs p_exact in
        let l : unsigned_abs p ≤ unsigned_abs p * g = le-mul_of_pos_right _ first_some in
        kept p (omega (arith, w.ha.over_small))

    pub q_read : read q ≡ q
    q_read =
        let e : unsigned_abs q * h ≡ unsigned_abs c = sym (unsigned_abs-mul q (pos h)) ∙ ap unsigned_abs q_exact in
        let l : unsigned_abs q ≤ unsigned_abs q * h = le-mul_of_pos_right _ second_some in
        kept q (omega (arith, w.hc.over_small))

    u : ℕ
    u = b / h

    u_is : b / h * h ≡ b
    u_is = div-mul_cancel h w.hh.1

    o_is : d / g * g ≡ d
    o_is = div-mul_cancel g w.hg.1

    pub numerator_none : (unsigned_abs (read p) * unsigned_abs (read q) < 2 ^ 127 → ⊥) → product_overflows x y ≡ true
    numerator_none s =
        let s' : unsigned_abs (p *ℤ q) < 2 ^ 127 → ⊥ = rw (unsigned_abs-mul p q) (rw (p_read, q_read) at s) in
        product_large x y a c b d w.ea w.eb w.ha w.ec w.ed w.hc g h w.hg w.hh p q (b / h) (d / g) p_exact q_exact u_is o_is (inl (omega (arith, s')))

    module _ {under over : ℕ} (eu : under ≡ b / h) (eo : over ≡ d / g) where
      pub denominator_none : (under * over < 2 ^ 127 → ⊥) → product_overflows x y ≡ true
      denominator_none s =
          let s' : b / h * (d / g) < 2 ^ 127 → ⊥ = rw (eu, eo) at s in
          product_large x y a c b d w.ea w.eb w.ha w.ec w.ed w.hc g h w.hg w.hh p q (b / h) (d / g) p_exact q_exact u_is o_is (inr (omega (arith, s')))

      module _ {n : ℤ} {m : ℕ} (s : (unsigned_abs (read p) * unsigned_abs (read q) < 2 ^ 127) × (n ≡ read p *ℤ read q)) (t : (under * over < 2 ^ 127) × (m ≡ under * over)) where
        n_is : n ≡ p *ℤ q
        n_is = rw (p_read, q_read) at s.1

        m_is : m ≡ b / h * (d / g)
        m_is = rw (eu, eo) at t.1

        n_small : unsigned_abs (p *ℤ q) < 2 ^ 127
        n_small = rw (unsigned_abs-mul p q) (rw (p_read, q_read) at s.0)

        m_small : b / h * (d / g) < 2 ^ 127
        m_small = rw (eu, eo) at t.0

        n_read : read n ≡ p *ℤ q
        n_read = ap read n_is ∙ kept (p *ℤ q) n_small

        pub all_fit : product_overflows x y ≡ false
        all_fit = products_fit x y a c b d w.ea w.eb w.ha w.ec w.ed w.hc g h w.hg w.hh p q (b / h) (d / g) p_exact q_exact u_is o_is n_small m_small

        pub lowest : AreLowest (read n) m
        lowest =
            rw (n_read, m_is) (record {
              positive = mul-pos
                  (under_some x y a c b d w.ea w.eb w.ha w.ec w.ed w.hc g h w.hg w.hh p q (b / h) (d / g) p_exact q_exact u_is o_is)
                  (over_some x y a c b d w.ea w.eb w.ha w.ec w.ed w.hc g h w.hg w.hh p q (b / h) (d / g) p_exact q_exact u_is o_is);
              lowest = product_coprime x y a c b d w.ea w.eb w.ha w.ec w.ed w.hc g h w.hg w.hh p q (b / h) (d / g) p_exact q_exact u_is o_is;
              over_small = n_small;
              under_small = m_small;
            })

        pub is_product : ratio (read n) m ≡ x *ℚ y
        is_product = rw (n_read, m_is) (product_ratio x y a c b d w.ea w.eb w.ha w.ec w.ed w.hc g h w.hg w.hh p q (b / h) (d / g) p_exact q_exact u_is o_is)
