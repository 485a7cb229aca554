use Rattle.std.proofs.Common.{◌≡◌, ◌+◌, ◌<◌, List, ◌++◌, ◌∷◌, [], ℕ, length, take, drop, get_or, None, slice_index, sym, ap, ap₂, ◌∙◌, subst, arith}
use Rattle.std.proofs.lemmas.Option.{slice_get-get_or}
use Rattle.std.proofs.lemmas.List.{length-set}
use Rattle.cip_pricing.specs.Decomposition.{Owner}
use Rattle.cip_lagrange.specs.Places.{slot, next_counts}
use Rattle.cip_lagrange.proofs.Placing.{ArePlacesTo, count_inside, places_more, places_done, written}
use Rattle.cip_lagrange.proofs.places.places_of.Goals as goal

pub next_place-requires-clause-low : goal.next_place-requires-clause-low
next_place-requires-clause-low c =
    let owners : List Owner = c.args.owners.now in
    let i = c.loop-owner.owner-index in
    let o : Owner = get_or owners i None in
    let inside : i < length owners = omega arith in
    let k = count_inside c.args.count owners i o c.loop-owner.counts.items c.loop-owner.places.items
    c.loop-owner.invariant (c.requires.below i None inside) in
    let same : slice_index c.as_mut_slice.result.now c.slot.result ≡ slice_index c.loop-owner.counts.items (slot o) =
    ap₂ slice_index c.as_mut_slice.ensures.value c.slot.ensures in
    omega (arith, same, k.1, inside, c.requires.few)

pub loop-owner-preserved : goal.loop-owner-preserved
loop-owner-preserved c =
    let owners : List Owner = c.args.owners.now in
    let i = c.loop-owner.owner-index in
    let o : Owner = get_or owners i None in
    let counts : List ℕ = c.loop-owner.counts.items in
    let inside : i < length owners = omega arith in
    let new : c.next_place.new.counts ≡ next_counts (slot o) counts =
    c.next_place.ensures.counts ∙ ap₂ next_counts c.slot.ensures c.as_mut_slice.ensures.value in
    let long : length c.next_place.new.counts ≡ length counts =
    ap length new ∙ length-set counts (slot o) (slice_index counts (slot o) + 1) in
    let back : take c.loop-owner.counts.len (c.next_place.new.counts ++ drop (length c.next_place.new.counts) counts)
    ≡ next_counts (slot o) counts =
    written c.loop-owner.counts.len c.next_place.new.counts counts c.loop-owner.counts.ok.0 long ∙ new in
    let place : c.next_place.result ≡ slice_index counts (slot o) =
    c.next_place.ensures.place ∙ ap₂ slice_index c.as_mut_slice.ensures.value c.slot.ensures in
    let pushed : c.push.new.self.items ≡ c.loop-owner.places.items ++ slice_index counts (slot o) ∷ [] =
    c.in_ok-push.ensures.items ∙ ap (λ p. c.loop-owner.places.items ++ p ∷ []) place in
    subst (λ (cs : List ℕ). ArePlacesTo c.args.count owners (i + 1) cs c.push.new.self.items) (sym back)
    (subst (λ (ps : List ℕ). ArePlacesTo c.args.count owners (i + 1) (next_counts (slot o) counts) ps) (sym pushed)
    (places_more c.args.count owners i o counts c.loop-owner.places.items (slice_get-get_or owners i None inside)
    (c.requires.below i None inside) c.loop-owner.invariant))

pub returns : goal.returns
returns c =
    places_done c.args.count c.args.owners.now c.loop-owner.owner-index c.loop-owner.counts.items
    c.loop-owner.places.items c.loop-owner.invariant (omega arith)
