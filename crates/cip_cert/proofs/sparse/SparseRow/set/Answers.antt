use Rattle.std.proofs.lemmas.Grind.{common_steps}
use Rattle.std.proofs.Common.{◌≡◌, ◌*◌, ◌<◌, ◌∙◌, arith, length, ap, set}
use Rattle.std.proofs.lemmas.List.{length-set}
use Rattle.cip_cert.specs.Touched.{Touched}
use Rattle.cip_cert.proofs.Cleared.{tells_set}
use Rattle.cip_cert.proofs.sparse.SparseRow.set.Goals as goal

pub invariant_of-self : goal.invariant_of-self
invariant_of-self c =
    let entries = c.self.inside.entries.items in
    let before : entries ≡ c.args.self.now.entries = ap (λ (t : Touched). t.entries) c.self.view_is ∙ c.make_room.ensures.entries in
    let inside : c.args.column < length entries = omega (arith, ap length before, c.requires) in
    let same : length (set entries c.args.column c.args.value) ≡ length entries = length-set entries c.args.column c.args.value in
    let room : length c.self.inside.touched.items < 2 * length entries = omega (arith, ap (λ (t : Touched). length t.touched) c.self.view_is, ap (λ (t : Touched). length t.entries) c.self.view_is, c.make_room.ensures.room) in
    record {
      few = omega (arith, same, c.self.invariant.few);
      tells = rw c.push_reserved.ensures.items (tells_set entries _ c.args.column c.args.value inside c.self.invariant.tells);
      short = omega (arith, same, c.push_reserved.ensures.len, c.self.inside.touched.ok.0, room);
      room = omega (arith, same, c.push_reserved.ensures.capacity, c.self.invariant.room);
    }

pub index_mut-requires : goal.index_mut-requires
index_mut-requires c = grind (arith, common_steps)

pub push_reserved-requires : goal.push_reserved-requires
push_reserved-requires c = grind (arith, common_steps)

pub returns : goal.returns
returns c = grind (arith, common_steps)

pub make_room-requires : goal.make_room-requires
make_room-requires c = grind (arith, common_steps)
