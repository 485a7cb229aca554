use Rattle.std.proofs.Common.{◌≡◌, [], length, replicate, take, drop, ◌++◌, sym, ap, subst, ◌∙◌, arith}
use Rattle.std.proofs.lemmas.List.{length-replicate}
use Rattle.cip_rational.specs.Rational.{zeroℚ}
use Rattle.cip_cert.specs.Touched.{Touched, Tells}
use Rattle.cip_cert.proofs.Cleared.{zeros_told, front_of}
use Rattle.cip_cert.proofs.sparse.SparseRow.clear.Goals as goal

pub wipe-requires : goal.wipe-requires
wipe-requires c = rw (c.as_mut_slice.ensures.value, c.as_slice.ensures.value) (c.self.invariant.tells)

pub invariant_of-self : goal.invariant_of-self
invariant_of-self c =
    let same : length c.wipe.new.entries ≡ length c.self.inside.entries.items = ap length c.wipe.ensures
    ∙ length-replicate _ _ ∙ ap length c.as_mut_slice.ensures.value in
    let items : take c.self.inside.entries.len (c.wipe.new.entries ++ drop
    (length c.wipe.new.entries) c.self.inside.entries.items) ≡ c.wipe.new.entries =
    front_of c.wipe.new.entries _ c.self.inside.entries.len (omega (arith, same, c.self.inside.entries.ok.0)) in
    let long : length (take c.self.inside.entries.len (c.wipe.new.entries ++ drop
    (length c.wipe.new.entries) c.self.inside.entries.items)) ≡ length c.self.inside.entries.items = ap length items
    ∙ same in
    record {
      few = omega (arith, long, c.self.invariant.few);
      tells = rw (c.clear.ensures.items) (subst (λ xs. Tells xs []) (sym (items
          ∙ c.wipe.ensures)) (zeros_told (length c.as_mut_slice.result.now)));
      short = omega (arith, c.clear.ensures.len);
      room = omega (arith, long, c.clear.ensures.capacity, c.self.invariant.room);
    }

pub returns-clause-entries : goal.returns-clause-entries
returns-clause-entries c =
    let same : length c.wipe.new.entries ≡ length c.self.inside.entries.items = ap length c.wipe.ensures
    ∙ length-replicate _ _ ∙ ap length c.as_mut_slice.ensures.value in
    front_of c.wipe.new.entries (drop (length c.wipe.new.entries) c.self.inside.entries.items) c.self.inside.entries.len
    (omega (arith, same, c.self.inside.entries.ok.0))
    ∙ c.wipe.ensures
    ∙ ap (λ n. replicate n zeroℚ) (ap length c.as_mut_slice.ensures.value
    ∙ ap (λ (t : Touched). length t.entries) c.self.view_is)

pub returns-clause-touched : goal.returns-clause-touched
returns-clause-touched c = c.clear.ensures.items
