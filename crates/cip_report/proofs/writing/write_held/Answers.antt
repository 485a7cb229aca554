use Rattle.std.proofs.lemmas.Grind.{common_steps}
use Rattle.std.proofs.Common.{◌≡◌, ◌∙◌, ◌++◌, ℕ, List, map, subst, arith}
use Rattle.std.proofs.lemmas.List.{map-id}
use Rattle.cip_search.specs.Figures.{point_lines}
use Rattle.cip_report.specs.Writing.{Writes}
use Rattle.cip_report.proofs.writing.write_held.Goals as goal

pub returns-in-None-clause-taken : goal.returns-in-None-clause-taken
returns-in-None-clause-taken g c = grind (arith, common_steps)

pub returns-in-Some-clause-taken : goal.returns-in-Some-clause-taken
returns-in-Some-clause-taken g c =
    let point : c.as_slice.result.now ≡ c.in-Some.held.point.items = c.as_slice.ensures.value in
    let names : map (λ (name : List ℕ). name) c.column_names-names.result.now ≡ c.args.program.now.column_names = map-id c.column_names-names.result.now ∙ c.column_names-names.ensures.names in
    rw c.in-Some.is
    (subst (λ xs. Writes c.write_point.result (g.K.Sink.tells c.args.out.now) (g.K.Sink.tells c.write_point.new.out) (c.args.buffer.now ++ point_lines xs c.in-Some.held.point.items) c.write_point.new.buffer) names (rw point at c.write_point.ensures.taken))

pub write_point-requires : goal.write_point-requires
write_point-requires g c = grind (arith, common_steps)

pub returns-in-Some-clause-faults : goal.returns-in-Some-clause-faults
returns-in-Some-clause-faults g c = grind (arith, common_steps)
