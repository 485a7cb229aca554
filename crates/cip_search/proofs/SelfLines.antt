-- What the text of an answer to `self` tells.
use lib.Chars.{codes}
use Rattle.std.specs.Prelude.{◌≡◌, ℕ, List, ◌∷◌, ◌++◌}
use Rattle.std.proofs.Common.{sym, ap, ◌∙◌, append_assoc, arith}
use Rattle.cip_rational.specs.NumberText.{natural_text}
use Rattle.cip_rational.proofs.NumberText.{natural_text_injective}
use Rattle.cip_search.specs.Figures.{Figures, status_word, line, end_line, figure_text, held_cost}
use Rattle.cip_search.specs.SelfTexts.{Drawn, sizes_text, self_text}
use Rattle.cip_search.specs.TraceStatements.{SelfIsTold}
use Rattle.cip_search.proofs.TraceTexts.{parted, digits-no_blank}
use Rattle.cip_search.proofs.FrontTexts.{line_parted, feedless_both, digits-no_feed}
use Rattle.cip_search.proofs.AnswerTexts.{HasNoFeed, figure_text-no_feed, figure_text_injective, status_word-no_feed}

-- six texts, by their parts
six : (a b c d e f : List ℕ) → (a ++ b) ++ (c ++ (d ++ e)) ++ f ≡ a ++ (b ++ (c ++ (d ++ (e ++ f))))
six a b c d e f = simp append_assoc

parts_of : (drawn : Drawn) (figures : Figures) → self_text drawn figures ≡ line (codes "self") (sizes_text drawn) ++ (line (codes "entries") (natural_text drawn.entries) ++ (line (codes "status") (status_word figures.status) ++ (line (codes "cost") (figure_text (held_cost figures.held)) ++ (line (codes "bound") (figure_text figures.bound) ++ end_line))))
parts_of drawn figures =
    six (line (codes "self") (sizes_text drawn)) (line (codes "entries") (natural_text drawn.entries)) (line (codes "status") (status_word figures.status))
    (line (codes "cost") (figure_text (held_cost figures.held))) (line (codes "bound") (figure_text figures.bound)) end_line

-- ---- sizes

sizes_parts : (a b c : List ℕ) → a ++ 32 ∷ b ++ 32 ∷ c ≡ a ++ 32 ∷ (b ++ 32 ∷ c)
sizes_parts a b c = simp append_assoc

no_feed_behind : (text : List ℕ) → HasNoFeed text → HasNoFeed (32 ∷ text)
no_feed_behind text p = ((λ e. omega (arith, e)), p)

sizes-no_feed : (drawn : Drawn) → HasNoFeed (sizes_text drawn)
sizes-no_feed drawn =
    feedless_both (natural_text drawn.seed ++ 32 ∷ natural_text drawn.columns) (32 ∷ natural_text drawn.rows)
    (feedless_both (natural_text drawn.seed) (32 ∷ natural_text drawn.columns) (digits-no_feed drawn.seed) (no_feed_behind (natural_text drawn.columns) (digits-no_feed drawn.columns)))
    (no_feed_behind (natural_text drawn.rows) (digits-no_feed drawn.rows))

same_drawn : (drawn other : Drawn) → drawn.seed ≡ other.seed → drawn.columns ≡ other.columns → drawn.rows ≡ other.rows → drawn.entries ≡ other.entries → drawn ≡ other
same_drawn drawn other seed columns rows entries =
    ap (λ x. record { seed = x; columns = drawn.columns; rows = drawn.rows; entries = drawn.entries }) seed
    ∙ ap (λ x. record { seed = other.seed; columns = x; rows = drawn.rows; entries = drawn.entries }) columns
    ∙ ap (λ x. record { seed = other.seed; columns = other.columns; rows = x; entries = drawn.entries }) rows
    ∙ ap (λ x. record { seed = other.seed; columns = other.columns; rows = other.rows; entries = x }) entries

sizes_told : (drawn other : Drawn) → sizes_text drawn ≡ sizes_text other → drawn.entries ≡ other.entries → drawn ≡ other
sizes_told drawn other e entries =
    let same = sym (sizes_parts (natural_text drawn.seed) (natural_text drawn.columns) (natural_text drawn.rows)) ∙ e ∙ sizes_parts (natural_text other.seed) (natural_text other.columns) (natural_text other.rows) in
    let seeds = parted 32 (natural_text drawn.seed) (natural_text other.seed) _ _ (digits-no_blank drawn.seed) (digits-no_blank other.seed) same in
    let counts = parted 32 (natural_text drawn.columns) (natural_text other.columns) _ _ (digits-no_blank drawn.columns) (digits-no_blank other.columns) seeds.1 in
    same_drawn drawn other (natural_text_injective drawn.seed other.seed seeds.0) (natural_text_injective drawn.columns other.columns counts.0)
    (natural_text_injective drawn.rows other.rows counts.1) entries

-- ---- the whole text

pub self_told : SelfIsTold
self_told drawn others figures other e =
    let same = sym (parts_of drawn figures) ∙ e ∙ parts_of others other in
    let sizes = line_parted (codes "self") _ _ _ _ (sizes-no_feed drawn) (sizes-no_feed others) same in
    let entries = line_parted (codes "entries") _ _ _ _ (digits-no_feed drawn.entries) (digits-no_feed others.entries) sizes.1 in
    let words = line_parted (codes "status") _ _ _ _ (status_word-no_feed figures.status) (status_word-no_feed other.status) entries.1 in
    let costs = line_parted (codes "cost") _ _ _ _ (figure_text-no_feed (held_cost figures.held)) (figure_text-no_feed (held_cost other.held)) words.1 in
    let bounds = line_parted (codes "bound") _ _ _ _ (figure_text-no_feed figures.bound) (figure_text-no_feed other.bound) costs.1 in (
      sizes_told drawn others sizes.0 (natural_text_injective drawn.entries others.entries entries.0),
      record {
        word = words.0;
        cost = figure_text_injective (held_cost figures.held) (held_cost other.held) costs.0;
        bound = figure_text_injective figures.bound other.bound bounds.0;
      },
    )
