-- A linear form on the master's columns has, at values and weights, the sum that it has at one point of the program.
use Rattle.std.proofs.Common.{◌≡◌, Bool, true, false, cond, List, [], ◌∷◌, ◌++◌, length, map, None, Some, refl, sym, ap, ap₂, ◌∙◌}
use Rattle.cip_rational.specs.Rational.{ℚ, ◌+ℚ◌, ◌*ℚ◌, zeroℚ}
use Rattle.cip_rational.specs.Sums.{dot, scale_list, add_lists}
use Rattle.cip_rational.proofs.Sums.{dot-nil, dot-append, dot-add_right, dot-scale_right}
use Rattle.cip_rational.proofs.Rational.Ring.{+ℚ-zero, zero-+ℚ, *ℚ-zero, *ℚ_comm}
use Rattle.cip_pricing.specs.Decomposition.{Owner, same_owner, picked}
use Rattle.cip_pricing.specs.Mixtures.{Held}
use Rattle.cip_pricing.specs.MasterForms.{master_form, first_or_zero, after_first}

-- values of an owner's columns, with 0 on the others
abbrev pub spread : Owner → List Owner → List ℚ → List ℚ
spread who [] values = []
spread who (o ∷ os) values =
    cond (same_owner o who) (first_or_zero values ∷ spread who os (after_first values)) (zeroℚ ∷ spread who os values)

own_step : (t : Bool) (x : ℚ) (xs picks values own others : List ℚ)
    → (t ≡ true → dot picks (after_first values) ≡ dot xs own) → (t ≡ false → dot picks values ≡ dot xs others)
    → dot (cond t (x ∷ picks) picks) values ≡ dot (x ∷ xs) (cond t (first_or_zero values ∷ own) (zeroℚ ∷ others))
own_step true x xs picks [] own others e f =
    sym (ap₂ (λ a b. a +ℚ b) (*ℚ-zero x) (sym (e refl) ∙ dot-nil picks) ∙ +ℚ-zero zeroℚ)
own_step true x xs picks (v ∷ vs) own others e f = ap (λ t. x *ℚ v +ℚ t) (e refl)
own_step false x xs picks values own others e f =
    f refl ∙ sym (zero-+ℚ (dot xs others)) ∙ ap (λ t. t +ℚ dot xs others) (sym (*ℚ-zero x))

-- what an owner picks of a form has at its values the sum that the form has at those, spread
pub dot-spread : (who : Owner) (owners : List Owner) (form values : List ℚ)
    → dot (picked who owners form) values ≡ dot form (spread who owners values)
dot-spread who [] form values = sym (dot-nil form)
dot-spread who (o ∷ os) [] values = refl
dot-spread who (o ∷ os) (x ∷ xs) values =
    own_step (same_owner o who) x xs (picked who os xs) values (spread who os (after_first values))
    (spread who os values) (λ e. dot-spread who os xs (after_first values)) (λ e. dot-spread who os xs values)

-- held points, each spread, times their weights
abbrev pub spread_held : List Owner → List Held → List ℚ → List ℚ
spread_held owners [] weights = []
spread_held owners (h ∷ hs) [] = []
spread_held owners (h ∷ hs) (w ∷ ws) =
    add_lists (scale_list w (spread (Some h.block) owners h.point)) (spread_held owners hs ws)

dot-spread_held : (owners : List Owner) (form : List ℚ) (held : List Held) (weights : List ℚ)
    → dot (map (λ (h : Held). dot (picked (Some h.block) owners form) h.point) held) weights
    ≡ dot form (spread_held owners held weights)
dot-spread_held owners form [] weights = sym (dot-nil form)
dot-spread_held owners form (h ∷ hs) [] = sym (dot-nil form)
dot-spread_held owners form (h ∷ hs) (w ∷ ws) =
    ap₂ (λ a b. a +ℚ b)
    (*ℚ_comm (dot (picked (Some h.block) owners form) h.point) w
    ∙ ap (λ t. w *ℚ t) (dot-spread (Some h.block) owners form h.point)
    ∙ sym (dot-scale_right w form (spread (Some h.block) owners h.point)))
    (dot-spread_held owners form hs ws)
    ∙ sym (dot-add_right form (scale_list w (spread (Some h.block) owners h.point)) (spread_held owners hs ws))

-- the point that values and weights, whatever they sum to, come to
abbrev pub unmixed : List Owner → List Held → (values weights : List ℚ) → List ℚ
unmixed owners held values weights = add_lists (spread None owners values) (spread_held owners held weights)

pub dot-master_form : (owners : List Owner) (form : List ℚ) (held : List Held) (values weights : List ℚ)
    → length (picked None owners form) ≡ length values
    → dot (master_form owners form held) (values ++ weights) ≡ dot form (unmixed owners held values weights)
dot-master_form owners form held values weights e =
    dot-append (picked None owners form) values
    (map (λ (h : Held). dot (picked (Some h.block) owners form) h.point) held) weights e
    ∙ ap₂ (λ a b. a +ℚ b) (dot-spread None owners form values) (dot-spread_held owners form held weights)
    ∙ sym (dot-add_right form (spread None owners values) (spread_held owners held weights))
