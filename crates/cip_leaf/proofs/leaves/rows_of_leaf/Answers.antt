use Rattle.std.proofs.lemmas.Grind.{common_steps}
use Rattle.std.proofs.Common.{◌≡◌, Bool, List, [], ap, ◌∙◌, subst, arith}
use Rattle.std.specs.Prelude.{map, MatchResult}
use Rattle.cip_rational.specs.Rational.{ℚ}
use Rattle.cip_problem.specs.Program.{Row}
use Rattle.cip_search.specs.LeafProgram.{merged}
use Rattle.cip_leaf.specs.Building.{left_of, IsRowsFault}
use Rattle.cip_leaf.proofs.leaves.rows_of_leaf.Goals as goal

pub returns : goal.returns
returns c =
    let program = c.args.program.now in
    let leaf = c.args.leaf.now in
    let result = c.rows_left.result in
    let at = c.as_slice-2.result.now in
    let whole : c.whole-whole.result.now ≡ program.integral = c.whole-whole.ensures.whole in
    let point : at ≡ merged program.integral leaf [] = c.as_slice-2.ensures.value ∙ c.in-Ok.ensures.merged ∙ ap (λ w. merged w leaf []) whole in
    subst (λ (p : List ℚ). MatchResult result (λ rows. rows.items ≡ map (left_of program.integral p) program.rows) (IsRowsFault program.rows p)) point
    (subst (λ (w : List Bool). MatchResult result (λ rows. rows.items ≡ map (left_of w at) program.rows) (IsRowsFault program.rows at)) whole
    (subst (λ (rs : List Row). MatchResult result (λ rows. rows.items ≡ map (left_of c.whole-whole.result.now at) rs) (IsRowsFault rs at)) c.rows.ensures.rows c.rows_left.ensures))

pub new_numbers-requires : goal.new_numbers-requires
new_numbers-requires c = grind (arith, common_steps)

pub rows_left-requires-clause-few : goal.rows_left-requires-clause-few
rows_left-requires-clause-few c = grind (arith, common_steps)

pub rows_left-requires-clause-long : goal.rows_left-requires-clause-long
rows_left-requires-clause-long c = grind (arith, common_steps)

pub rows_left-requires-clause-numbers : goal.rows_left-requires-clause-numbers
rows_left-requires-clause-numbers c = grind (arith, common_steps)

pub rows_left-requires-clause-stand : goal.rows_left-requires-clause-stand
rows_left-requires-clause-stand c = grind (arith, common_steps)
