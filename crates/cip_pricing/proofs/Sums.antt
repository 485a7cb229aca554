-- The rows of the master at values and weights.
use Rattle.std.proofs.Common.{◌≡◌, ℕ, zero, suc, ◌==◌, Bool, true, false, cond, List, [], ◌∷◌, ◌++◌, length, map, replicate, None, Some, refl, sym, ap, ap₂, ◌∙◌, arith}
use Rattle.std.specs.List.{AllZip}
use Rattle.std.proofs.Math.Dec.{eqb-suc-zero, eqb-zero-suc, eqb-suc-suc}
use Rattle.std.proofs.lemmas.List.{length-replicate}
use Rattle.cip_rational.specs.Rational.{ℚ, ◌+ℚ◌, ◌*ℚ◌, zeroℚ, oneℚ}
use Rattle.cip_rational.specs.Sums.{dot}
use Rattle.cip_rational.proofs.Sums.{dot-append}
use Rattle.cip_rational.proofs.Rational.Ring.{+ℚ-zero, zero-+ℚ, *ℚ-zero, zero-*ℚ, one-*ℚ}
use Rattle.cip_rational.proofs.Linear.{linear_same}
use Rattle.cip_problem.specs.Program.{Sides, Row}
use Rattle.cip_problem.specs.Activity.{activity, value_at}
use Rattle.cip_problem.specs.Multipliers.{activities}
use Rattle.cip_pricing.specs.Decomposition.{Owner, picked}
use Rattle.cip_pricing.specs.Mixtures.{Held, total}
use Rattle.cip_pricing.specs.LeastCosts.{row_total}
use Rattle.cip_pricing.specs.MasterForms.{held_owners}
use Rattle.cip_pricing.proofs.Picked.{length_picked}
use Rattle.cip_pricing.specs.MasterPrograms.{IsMasterRow, block_form, IsSumRow, AreSumRows}
use Rattle.cip_pricing.proofs.Spread.{unmixed, dot-master_form}

-- ---- master rows

-- the activities of the master's first rows, each times its multiplier, are those of the master rows
pub masters_total : (columns : ℕ) (owners : List Owner) (box : List Sides) (held : List Held) (ys : List ℚ)
    (rows owns : List Row) (values weights : List ℚ) → length box ≡ columns
    → length values ≡ length (picked None owners box)
    → AllZip (IsMasterRow columns owners held) rows owns
    → dot ys (activities owns (values ++ weights)) ≡ row_total ys rows (unmixed owners held values weights)
masters_total columns owners box held [] rows owns values weights e l a = refl
masters_total columns owners box held (y ∷ ys) [] [] values weights e l a = refl
masters_total columns owners box held (y ∷ ys) [] (o ∷ os) values weights e l a = absurd a
masters_total columns owners box held (y ∷ ys) (r ∷ rs) [] values weights e l a = absurd a
masters_total columns owners box held (y ∷ ys) (r ∷ rs) (o ∷ os) values weights e l a =
    ap₂ (λ s t. y *ℚ s +ℚ t)
    (a.0.sums (values ++ weights)
    ∙ dot-master_form owners a.0.form held values weights
    (length_picked None owners a.0.form box (a.0.long ∙ sym e) ∙ sym l)
    ∙ a.0.is_form (unmixed owners held values weights))
    (masters_total columns owners box held ys rs os values weights e l a.1)

-- ---- rows of sums

-- a block's weights, summed
block_sum : (block : ℕ) (held : List Held) (weights : List ℚ)
    → dot (map (λ (h : Held). cond (h.block == block) oneℚ zeroℚ) held) weights
    ≡ total (picked (Some block) (held_owners held) weights)
block_sum block [] weights = refl
block_sum block (h ∷ hs) [] = refl
block_sum block (h ∷ hs) (w ∷ ws) = step (h.block == block) (block_sum block hs ws)
  where
    step : (t : Bool) → dot (map (λ (h : Held). cond (h.block == block) oneℚ zeroℚ) hs) ws
        ≡ total (picked (Some block) (held_owners hs) ws)
        → cond t oneℚ zeroℚ *ℚ w +ℚ dot (map (λ (h : Held). cond (h.block == block) oneℚ zeroℚ) hs) ws
        ≡ total (cond t (w ∷ picked (Some block) (held_owners hs) ws) (picked (Some block) (held_owners hs) ws))
    step true e = ap₂ (λ a b. a +ℚ b) (one-*ℚ w) e
    step false e = ap₂ (λ a b. a +ℚ b) (zero-*ℚ w) e ∙ zero-+ℚ (total (picked (Some block) (held_owners hs) ws))

zeros_nothing : (n : ℕ) (values : List ℚ) → dot (replicate n zeroℚ) values ≡ zeroℚ
zeros_nothing zero values = refl
zeros_nothing (suc n) [] = refl
zeros_nothing (suc n) (v ∷ vs) = ap₂ (λ a b. a +ℚ b) (zero-*ℚ v) (zeros_nothing n vs) ∙ +ℚ-zero zeroℚ

dot-block_form : (free block : ℕ) (held : List Held) (values weights : List ℚ) → length values ≡ free
    → dot (block_form free block held) (values ++ weights)
    ≡ dot (map (λ (h : Held). cond (h.block == block) oneℚ zeroℚ) held) weights
dot-block_form free block held values weights e =
    dot-append (replicate free zeroℚ) values (map (λ (h : Held). cond (h.block == block) oneℚ zeroℚ) held) weights
    (length-replicate free zeroℚ ∙ sym e)
    ∙ ap (λ t. t +ℚ dot (map (λ (h : Held). cond (h.block == block) oneℚ zeroℚ) held) weights)
    (zeros_nothing free values)
    ∙ zero-+ℚ (dot (map (λ (h : Held). cond (h.block == block) oneℚ zeroℚ) held) weights)

-- the sum of a block's weights, at values and weights
pub sum_row : (free block : ℕ) (held : List Held) (own : Row) (values weights : List ℚ) → length values ≡ free
    → IsSumRow free block held own
    → activity own.terms (values ++ weights) ≡ total (picked (Some block) (held_owners held) weights)
sum_row free block held own values weights e r =
    r.sums (values ++ weights) ∙ dot-block_form free block held values weights e ∙ block_sum block held weights

-- the price of a held point's block, where prices begin with that of this block
abbrev pub price_from : (first : ℕ) → List ℚ → Held → ℚ
price_from first prices h = value_at (replicate first zeroℚ ++ prices) h.block

price_more : (first k : ℕ) (p : ℚ) (ps : List ℚ)
    → value_at (replicate first zeroℚ ++ p ∷ ps) k
    ≡ cond (k == first) p zeroℚ +ℚ value_at (replicate (suc first) zeroℚ ++ ps) k
price_more zero zero p ps = sym (+ℚ-zero p)
price_more zero (suc k) p ps =
    sym (ap (λ t. cond t p zeroℚ +ℚ value_at ps k) (eqb-suc-zero k) ∙ zero-+ℚ (value_at ps k))
price_more (suc first) zero p ps =
    sym (ap (λ t. cond t p zeroℚ +ℚ zeroℚ) (eqb-zero-suc first) ∙ +ℚ-zero zeroℚ)
price_more (suc first) (suc k) p ps =
    price_more first k p ps
    ∙ sym (ap (λ t. cond t p zeroℚ +ℚ value_at (replicate (suc first) zeroℚ ++ ps) k) (eqb-suc-suc k first))

-- one block's price times its weights
prices_step : (first : ℕ) (p : ℚ) (ps : List ℚ) (held : List Held) (weights : List ℚ)
    → dot (map (price_from first (p ∷ ps)) held) weights
    ≡ p *ℚ dot (map (λ (h : Held). cond (h.block == first) oneℚ zeroℚ) held) weights
    +ℚ dot (map (price_from (suc first) ps) held) weights
prices_step first p ps [] weights = sym (ap (λ t. t +ℚ zeroℚ) (*ℚ-zero p) ∙ +ℚ-zero zeroℚ)
prices_step first p ps (h ∷ hs) [] = sym (ap (λ t. t +ℚ zeroℚ) (*ℚ-zero p) ∙ +ℚ-zero zeroℚ)
prices_step first p ps (h ∷ hs) (w ∷ ws) =
    step (h.block == first) (price_more first h.block p ps) (prices_step first p ps hs ws)
  where
    step : (t : Bool) → price_from first (p ∷ ps) h ≡ cond t p zeroℚ +ℚ price_from (suc first) ps h
        → dot (map (price_from first (p ∷ ps)) hs) ws
        ≡ p *ℚ dot (map (λ (h : Held). cond (h.block == first) oneℚ zeroℚ) hs) ws
        +ℚ dot (map (price_from (suc first) ps) hs) ws
        → price_from first (p ∷ ps) h *ℚ w +ℚ dot (map (price_from first (p ∷ ps)) hs) ws
        ≡ p *ℚ (cond t oneℚ zeroℚ *ℚ w +ℚ dot (map (λ (h : Held). cond (h.block == first) oneℚ zeroℚ) hs) ws)
        +ℚ (price_from (suc first) ps h *ℚ w +ℚ dot (map (price_from (suc first) ps) hs) ws)
    step true e f =
        let g : price_from first (p ∷ ps) h *ℚ w ≡ (p +ℚ price_from (suc first) ps h) *ℚ w = ap (λ t. t *ℚ w) e in
        let own : price_from first (p ∷ ps) h *ℚ w +ℚ dot (map (price_from first (p ∷ ps)) hs) ws
        ≡ p *ℚ (w +ℚ dot (map (λ (h : Held). cond (h.block == first) oneℚ zeroℚ) hs) ws)
        +ℚ (price_from (suc first) ps h *ℚ w +ℚ dot (map (price_from (suc first) ps) hs) ws) =
        linear_same
        ((price_from first (p ∷ ps) h *ℚ w) ∷ dot (map (price_from first (p ∷ ps)) hs) ws ∷ (p *ℚ w)
        ∷ (p *ℚ dot (map (λ (h : Held). cond (h.block == first) oneℚ zeroℚ) hs) ws)
        ∷ (price_from (suc first) ps h *ℚ w) ∷ dot (map (price_from (suc first) ps) hs) ws ∷ [])
        (λ s z. let q = s.products tt in omega (arith, s.same_out)) in
        own
        ∙ sym (ap (λ t. p *ℚ (t +ℚ dot (map (λ (h : Held). cond (h.block == first) oneℚ zeroℚ) hs) ws)
        +ℚ (price_from (suc first) ps h *ℚ w +ℚ dot (map (price_from (suc first) ps) hs) ws)) (one-*ℚ w))
    step false e f =
        let g : price_from first (p ∷ ps) h *ℚ w ≡ (zeroℚ +ℚ price_from (suc first) ps h) *ℚ w = ap (λ t. t *ℚ w) e in
        let own : price_from first (p ∷ ps) h *ℚ w +ℚ dot (map (price_from first (p ∷ ps)) hs) ws
        ≡ p *ℚ (zeroℚ +ℚ dot (map (λ (h : Held). cond (h.block == first) oneℚ zeroℚ) hs) ws)
        +ℚ (price_from (suc first) ps h *ℚ w +ℚ dot (map (price_from (suc first) ps) hs) ws) =
        linear_same
        ((price_from first (p ∷ ps) h *ℚ w) ∷ dot (map (price_from first (p ∷ ps)) hs) ws
        ∷ (p *ℚ dot (map (λ (h : Held). cond (h.block == first) oneℚ zeroℚ) hs) ws)
        ∷ (price_from (suc first) ps h *ℚ w) ∷ dot (map (price_from (suc first) ps) hs) ws ∷ [])
        (λ s z. let q = s.products tt in omega (arith, s.same_out)) in
        own
        ∙ sym (ap (λ t. p *ℚ (t +ℚ dot (map (λ (h : Held). cond (h.block == first) oneℚ zeroℚ) hs) ws)
        +ℚ (price_from (suc first) ps h *ℚ w +ℚ dot (map (price_from (suc first) ps) hs) ws)) (zero-*ℚ w))

no_prices : (first : ℕ) (held : List Held) (weights : List ℚ)
    → dot (map (price_from first []) held) weights ≡ zeroℚ
no_prices first [] weights = refl
no_prices first (h ∷ hs) [] = refl
no_prices first (h ∷ hs) (w ∷ ws) =
    ap₂ (λ a b. a +ℚ b) (ap (λ t. t *ℚ w) (none first h.block) ∙ zero-*ℚ w) (no_prices first hs ws) ∙ +ℚ-zero zeroℚ
  where
    none : (n k : ℕ) → value_at (replicate n zeroℚ ++ []) k ≡ zeroℚ
    none zero k = refl
    none (suc n) zero = refl
    none (suc n) (suc k) = none n k

-- the rows of sums, each times its block's price, come to the price of each held point times its weight
pub sums_total : (free first : ℕ) (held : List Held) (ps : List ℚ) (owns : List Row) (values weights : List ℚ)
    → length values ≡ free → length ps ≡ length owns → AreSumRows free first held owns
    → dot ps (activities owns (values ++ weights)) ≡ dot (map (price_from first ps) held) weights
sums_total free first held [] [] values weights e l a = sym (no_prices first held weights)
sums_total free first held [] (o ∷ os) values weights e l a = absurd (omega (arith, l))
sums_total free first held (p ∷ ps) [] values weights e l a = absurd (omega (arith, l))
sums_total free first held (p ∷ ps) (o ∷ os) values weights e l a =
    ap₂ (λ s t. p *ℚ s +ℚ t)
    (a.0.sums (values ++ weights) ∙ dot-block_form free first held values weights e)
    (sums_total free (suc first) held ps os values weights e (omega (arith, l)) a.1)
    ∙ sym (prices_step first p ps held weights)
