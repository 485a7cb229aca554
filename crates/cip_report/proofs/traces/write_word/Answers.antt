use Rattle.std.proofs.lemmas.Grind.{common_steps}
use Rattle.std.proofs.Common.{◌≡◌, ◌∙◌, ◌∷◌, ◌++◌, [], ℕ, List, Bor, refl, ap, sym, subst, append-nil, arith}
use Rattle.cip_events.specs.Words.{text_of_word}
use Rattle.cip_events.specs.declared.words.Word.{Word}
use Rattle.cip_events.specs.declared.words.Word.TheVariants.{Dropped, Refused}
use Rattle.cip_report.specs.Traces.{behind_word, word_text}
use Rattle.cip_report.specs.Writing.{Writes}
use Rattle.cip_report.proofs.traces.write_word.Goals as goal

-- nothing follows another word
none_behind : (word : Word) → ((count : ℕ) → word ≡ Dropped count → ⊥) → ((fault : Bor (List ℕ)) → word ≡ Refused fault → ⊥) → behind_word word ≡ []
none_behind (Dropped count) h k = absurd (h count refl)
none_behind (Refused fault) h k = absurd (k fault refl)
none_behind other h k = refl

pub returns-in-Dropped-clause-taken : goal.returns-in-Dropped-clause-taken
returns-in-Dropped-clause-taken g c =
    let text : c.as_bytes-text.result.now ≡ text_of_word (Dropped c.in-Dropped.count) = c.as_bytes-text.ensures.value ∙ c.text.ensures ∙ ap text_of_word c.in-Dropped.is in
    rw c.in-Dropped.is (rw text at c.write_count.ensures.taken)

pub returns-in-Refused-clause-taken : goal.returns-in-Refused-clause-taken
returns-in-Refused-clause-taken g c =
    let text : c.as_bytes-text.result.now ≡ text_of_word (Refused c.in-Refused.fault) = c.as_bytes-text.ensures.value ∙ c.text.ensures ∙ ap text_of_word c.in-Refused.is in
    rw c.in-Refused.is (rw (text, c.as_bytes.ensures.value) at c.write_line.ensures.taken)

pub returns-in_default-clause-taken : goal.returns-in_default-clause-taken
returns-in_default-clause-taken g c =
    let text = text_of_word c.args.word in
    let none = none_behind c.args.word c.in_default.not-Dropped c.in_default.not-Refused in
    let word : c.as_bytes-text.result.now ≡ word_text c.args.word = c.as_bytes-text.ensures.value ∙ c.text.ensures ∙ sym (append-nil text) ∙ ap (λ t. text ++ t) (sym none) in
    subst (λ t. Writes c.write_all.result (g.K.Sink.tells c.args.out.now) (g.K.Sink.tells c.write_all.new.out) (c.args.buffer.now ++ (32 ∷ (t ++ 10 ∷ []))) c.write_all.new.self) word c.write_all.ensures.taken

pub returns-in_default-clause-faults : goal.returns-in_default-clause-faults
returns-in_default-clause-faults g c = grind (arith, common_steps)

pub returns-in-Refused-clause-faults : goal.returns-in-Refused-clause-faults
returns-in-Refused-clause-faults g c = grind (arith, common_steps)

pub returns-in-Dropped-clause-faults : goal.returns-in-Dropped-clause-faults
returns-in-Dropped-clause-faults g c = grind (arith, common_steps)

pub as_bytes-requires-text-self : goal.as_bytes-requires-text-self
as_bytes-requires-text-self g c = grind (arith, common_steps)
