-- The lines of a program that is drawn and of its status, by what is written one after another.
use Rattle.std.proofs.Common.{◌≡◌, ℕ, ◌+◌, ◌<◌, ◌^◌, List, [], ◌∷◌, ◌++◌, ◌∙◌, sym, subst, arith, append_assoc}
use Rattle.std.specs.Prelude.{Result, IsErr, OnOk, MatchResult, decimal}
use lib.Chars.{codes}
use Rattle.cip_rational.specs.NumberText.{natural_text}
use Rattle.cip_rational.proofs.NumberText.{natural_text_decimal}
use Rattle.cip_io.specs.Sink.{SinkTells, TakesAll, PushesPart}
use Rattle.cip_search.specs.Figures.{Figures, line, status_word, cost_lines, end_line}
use Rattle.cip_search.specs.SelfTexts.{Drawn, drawn_lines, self_text}
use Rattle.cip_report.specs.Writing.{Passes, Writes}
use Rattle.cip_report.proofs.WritingLemmas.{first_of_three, second_of_three, third_of_three, Passes-three, Writes-part, failed_told, Writes-flushed}

parts_of : (self_ blank seed columns rows feed word entries status_ status : List ℕ) → self_ ++ (blank ++ (seed ++ (blank ++ (columns ++ (blank ++ (rows ++ (feed ++ (word ++ (blank ++ (entries ++ (feed ++ (status_ ++ (blank ++ (status ++ feed))))))))))))))
    ≡ (((self_ ++ (blank ++ ((seed ++ (blank ++ columns)) ++ (blank ++ rows)))) ++ feed) ++ ((word ++ (blank ++ entries)) ++ feed)) ++ ((status_ ++ (blank ++ status)) ++ feed)
parts_of self_ blank seed columns rows feed word entries status_ status = simp append_assoc

-- what is written first, by its parts
abbrev pub first_text : (seed columns rows entries word : List ℕ) → List ℕ
first_text seed columns rows entries word =
    codes "self " ++ (seed ++ (32 ∷ (columns ++ (32 ∷ (rows ++ (10 ∷ (codes "entries " ++ (entries ++ (10 ∷ (codes "status " ++ (word ++ 10 ∷ [])))))))))))

self_parts : (seed columns rows entries word : List ℕ) → first_text seed columns rows entries word
    ≡ (line (codes "self") (seed ++ 32 ∷ columns ++ 32 ∷ rows) ++ line (codes "entries") entries) ++ line (codes "status") word
self_parts seed columns rows entries word = parts_of (codes "self") (32 ∷ []) seed columns rows (10 ∷ []) (codes "entries") entries (codes "status") word

-- the first lines
abbrev pub first_lines : Drawn → Figures → List ℕ
first_lines drawn figures = drawn_lines drawn ++ line (codes "status") (status_word figures.status)

-- they are written first
pub written_first : (drawn : Drawn) (figures : Figures) (seed columns rows entries word : List ℕ) → seed ≡ decimal drawn.seed → columns ≡ decimal drawn.columns → rows ≡ decimal drawn.rows → entries ≡ decimal drawn.entries → word ≡ status_word figures.status → drawn.seed + drawn.columns + drawn.rows + drawn.entries < 2 ^ 70 → first_text seed columns rows entries word ≡ first_lines drawn figures
written_first drawn figures seed columns rows entries word s k r e w few =
    rw (s ∙ sym (natural_text_decimal drawn.seed (omega (arith, few))), k ∙ sym (natural_text_decimal drawn.columns (omega (arith, few))), r ∙ sym (natural_text_decimal drawn.rows (omega (arith, few))), e ∙ sym (natural_text_decimal drawn.entries (omega (arith, few))), w)
    (self_parts (natural_text drawn.seed) (natural_text drawn.columns) (natural_text drawn.rows) (natural_text drawn.entries) (status_word figures.status))

-- ---- the text of an answer, of which a part or all of it is handed on

abbrev pub IsTold : {T E : Type 0} → Result T E → (old new : SinkTells) → Drawn → Figures → Type 0
IsTold result old new drawn figures =
    MatchResult result (λ _. TakesAll old new (self_text drawn figures)) (λ _. PushesPart old new (self_text drawn figures))

told_by : {T E : Type 0} (result : Result T E) (old new : SinkTells) (drawn : Drawn) (figures : Figures) → MatchResult result (λ _. TakesAll old new (first_lines drawn figures ++ cost_lines figures ++ end_line)) (λ _. PushesPart old new (first_lines drawn figures ++ cost_lines figures ++ end_line)) → IsTold result old new drawn figures
told_by result old new drawn figures h =
    subst (λ text. MatchResult result (λ _. TakesAll old new (text ++ end_line)) (λ _. PushesPart old new (text ++ end_line)))
    (append_assoc (drawn_lines drawn) (line (codes "status") (status_word figures.status)) (cost_lines figures)) h

front_passes : (old mid : SinkTells) (front first lines held : List ℕ) → front ≡ [] → first ≡ lines → Passes old mid (front ++ first) held → Passes old mid lines held
front_passes old mid front first lines held none same done =
    subst (λ t. Passes old mid t held) same (subst (λ f. Passes old mid (f ++ first) held) none done)

-- the first lines failed
pub first_failed : {T E : Type 0} (result : Result T E) (old new : SinkTells) (drawn : Drawn) (figures : Figures) (front first : List ℕ) → IsErr result → front ≡ [] → first ≡ first_lines drawn figures → PushesPart old new (front ++ first) → IsTold result old new drawn figures
first_failed result old new drawn figures front first failed none same part =
    told_by result old new drawn figures (failed_told result old new _ [] failed
    (first_of_three result old new [] (first_lines drawn figures) (cost_lines figures) end_line [] failed
    (subst (λ t. PushesPart old new t) same (subst (λ f. PushesPart old new (f ++ first)) none part))))

-- the lines of the costs failed
pub costs_failed : {T E : Type 0} (result : Result T E) (old mid new : SinkTells) (drawn : Drawn) (figures : Figures) (front first held : List ℕ) → IsErr result → front ≡ [] → first ≡ first_lines drawn figures → Passes old mid (front ++ first) held → PushesPart mid new (held ++ cost_lines figures) → IsTold result old new drawn figures
costs_failed result old mid new drawn figures front first held failed none same done part =
    told_by result old new drawn figures (failed_told result old new _ [] failed
    (second_of_three result old mid new [] (first_lines drawn figures) (cost_lines figures) end_line held [] failed
    (front_passes old mid front first (first_lines drawn figures) held none same done) part))

-- the last line failed
pub end_failed : {T E : Type 0} (result : Result T E) (old mid next new : SinkTells) (drawn : Drawn) (figures : Figures) (front first held kept : List ℕ) → IsErr result → front ≡ [] → first ≡ first_lines drawn figures → Passes old mid (front ++ first) held → Passes mid next (held ++ cost_lines figures) kept → PushesPart next new (kept ++ end_line) → IsTold result old new drawn figures
end_failed result old mid next new drawn figures front first held kept failed none same done more part =
    told_by result old new drawn figures (failed_told result old new _ [] failed
    (third_of_three result old mid next new [] (first_lines drawn figures) (cost_lines figures) end_line held kept []
    (front_passes old mid front first (first_lines drawn figures) held none same done) more
    (Writes-part result next new (kept ++ end_line) [] failed part)))

-- all of it was written, and then handed on
pub told_flushed : {T E : Type 0} (result : Result T E) (old mid next last new : SinkTells) (drawn : Drawn) (figures : Figures) (front first held kept left buffered : List ℕ) → front ≡ [] → first ≡ first_lines drawn figures → Passes old mid (front ++ first) held → Passes mid next (held ++ cost_lines figures) kept → Passes next last (kept ++ end_line) left → Writes result last new left buffered → OnOk result (buffered ≡ []) → IsTold result old new drawn figures
told_flushed result old mid next last new drawn figures front first held kept left buffered none same done more end flushed empty =
    told_by result old new drawn figures
    (Writes-flushed result old last new _ left buffered
    (Passes-three old mid next last [] (first_lines drawn figures) (cost_lines figures) end_line held kept left
    (front_passes old mid front first (first_lines drawn figures) held none same done) more end) flushed empty)
