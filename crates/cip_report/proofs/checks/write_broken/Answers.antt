use Rattle.std.proofs.lemmas.Grind.{common_steps}
use Rattle.std.proofs.Common.{◌≡◌, ◌∙◌, ◌++◌, [], ◌∷◌, append_assoc, List, ℕ, ap, sym, subst, arith, refl}
use Rattle.cip_rational.specs.NumberText.{fraction_text}
use Rattle.cip_search.specs.Figures.{line}
use Rattle.cip_search.specs.Checks.{broken_text}
use Rattle.cip_report.specs.Checks.{broken_side}
use Rattle.cip_report.specs.Writing.{Writes}
use Rattle.cip_report.proofs.WritingLemmas.{first_of_two, second_of_two, Writes-parts, counts_failed, counts_behind}
use Rattle.cip_report.proofs.checks.write_broken.Goals as goal

parts_of : (word name blank value broken feed : List ℕ) → ((word ++ name) ++ (blank ++ (value ++ (blank ++ broken)))) ++ feed ≡ (word ++ (name ++ blank)) ++ (value ++ ((blank ++ broken) ++ feed))
parts_of word name blank value broken feed = simp append_assoc

-- the line, by its parts
broken_parts : (word name value broken : List ℕ) → line (word ++ name) (value ++ 32 ∷ broken) ≡ (word ++ (name ++ 32 ∷ [])) ++ (value ++ (32 ∷ (broken ++ 10 ∷ [])))
broken_parts word name value broken = parts_of word name (32 ∷ []) value broken (10 ∷ [])

pub returns-in_err-write_all-clause-taken : goal.returns-in_err-write_all-clause-taken
returns-in_err-write_all-clause-taken g c =
    let word = c.args.word.now in
    let name = c.args.name.now in
    let value = fraction_text c.args.value in
    let broken = broken_text (broken_side c.args.sides.low c.args.sides.high c.args.value) in
    subst (λ t. Writes c.from_residual.result (g.K.Sink.tells c.args.out.now) (g.K.Sink.tells c.write_all.new.out) (c.args.buffer.now ++ t) c.write_all.new.self) (sym (broken_parts word name value broken))
    (first_of_two c.from_residual.result _ _ c.args.buffer.now (word ++ (name ++ 32 ∷ [])) (value ++ (32 ∷ (broken ++ 10 ∷ []))) _ c.from_residual.ensures.0 c.in_err-write_all.ensures.taken)

pub returns-clause-taken : goal.returns-clause-taken
returns-clause-taken g c =
    let word = c.args.word.now in
    let name = c.args.name.now in
    let value = fraction_text c.args.value in
    let broken = broken_text (broken_side c.args.sides.low c.args.sides.high c.args.value) in
    let way = c.side_broken-side.result.0.now in
    let side = fraction_text c.side_broken-side.result.1 in
    let end : way ++ (side ++ 10 ∷ []) ≡ 32 ∷ (broken ++ 10 ∷ []) = sym (append_assoc way side (10 ∷ [])) ∙ ap (λ t. t ++ 10 ∷ []) c.side_broken-side.ensures in
    subst (λ t. Writes c.write_all-2.result (g.K.Sink.tells c.args.out.now) (g.K.Sink.tells c.write_all-2.new.out) (c.args.buffer.now ++ t) c.write_all-2.new.self) (sym (broken_parts word name value broken))
    (second_of_two c.write_all-2.result _ _ _ c.args.buffer.now (word ++ (name ++ 32 ∷ [])) (value ++ (32 ∷ (broken ++ 10 ∷ []))) _ _ c.in_ok-write_all.ensures.taken
    (subst (λ t. Writes c.write_all-2.result (g.K.Sink.tells c.write_all.new.out) (g.K.Sink.tells c.write_all-2.new.out) (c.write_all.new.self ++ (value ++ t)) c.write_all-2.new.self) end
    (Writes-parts c.write_all-2.result _ _ c.write_all.new.self _ way _ value side (10 ∷ []) _ c.write_into-length.ensures.text c.write_into-end_length.ensures.text c.write_all-2.ensures.taken)))

pub slice_bounds-figure-end-2 : goal.slice_bounds-figure-end-2
slice_bounds-figure-end-2 g c = grind (arith, common_steps)

pub slice_bounds-end-end-2 : goal.slice_bounds-end-end-2
slice_bounds-end-end-2 g c = grind (arith, common_steps)

pub slice_bounds-figure-end : goal.slice_bounds-figure-end
slice_bounds-figure-end g c = grind (arith, common_steps)

pub side_broken-side-requires : goal.side_broken-side-requires
side_broken-side-requires g c = grind (arith, common_steps)

pub slice_bounds-end-end : goal.slice_bounds-end-end
slice_bounds-end-end g c = grind (arith, common_steps)

pub returns-in_err-write_all-clause-faults : goal.returns-in_err-write_all-clause-faults
returns-in_err-write_all-clause-faults g c = counts_failed c.from_residual.result _ _ _ c.from_residual.ensures.0 refl c.in_err-write_all.ensures.faults.1

pub returns-clause-faults : goal.returns-clause-faults
returns-clause-faults g c = counts_behind c.write_all-2.result _ _ _ c.in_ok-write_all.ensures.faults.0 c.write_all-2.ensures.faults
