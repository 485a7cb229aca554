-- The texts of refusals: how they are written, and what they tell.
use lib.Chars.{codes}
use Rattle.std.specs.Prelude.{◌≡◌, ◌≢◌, ◌==◌, ℕ, zero, suc, ◌+◌, ◌-◌, ◌*◌, ◌^◌, ◌<◌, ◌≤◌, Bool, true, ◌&&◌, length, slice_index_or, List, [], ◌∷◌, ◌++◌, pos, decimal, refl, if◌then◌else◌}
use Rattle.std.specs.List.{AllByRecursion}
use Rattle.std.proofs.Common.{sym, ap, ◌∙◌, subst, arith, append_assoc}
use Rattle.std.proofs.lemmas.List.{append_cancel_right}
use Rattle.std.proofs.lemmas.Bool.{eqb-true, and_parts}
use Rattle.std.proofs.lemmas.List.Elements.{recursion_from_All}
use Rattle.cip_rational.specs.Rational.{integer}
use Rattle.cip_rational.specs.NumberText.{natural_text, fraction_text}
use Rattle.cip_rational.proofs.NumberText.{IsFractionByte, fraction_text_plain, natural_text_decimal, natural_text_injective}
use Rattle.cip_search.specs.Figures.{end_line, line, refusal_text}
use Rattle.cip_search.proofs.TraceTexts.{whole_text}
use Rattle.cip_search.proofs.AnswerTexts.{line_then, cancelled}
use Rattle.cip_input.specs.MpsKindTexts.{kind_texts as mps_texts}
use Rattle.cip_input.specs.LpKindTexts.{kind_texts as lp_texts}
use Rattle.cip_input.specs.declared.model_kinds.ModelKind.{ModelKind}
use Rattle.cip_input.specs.declared.model_kinds.ModelKind.TheVariants.{Mps, Lp}
use Rattle.cip_input.specs.Models.{model_kind_number, model_kind_text}
use Rattle.cip_input.specs.BlockKindTexts.{kind_texts as block_texts}
use Rattle.cip_input.specs.PointKindTexts.{kind_texts as point_texts}
use Rattle.cip_input.specs.declared.refusals.FaultyText.{FaultyText}
use Rattle.cip_input.specs.declared.refusals.FaultyText.TheVariants.{Model, Blocks, Point}
use Rattle.cip_input.specs.Refusals.{text_name, line_of, number_of, kind_text, RefusalsTell}

-- ---- how it is written

-- five lists, one after another
five : (a b c d e : List ℕ) → a ++ b ++ c ++ d ++ e ≡ a ++ (b ++ (c ++ (d ++ e)))
five a b c d e = simp append_assoc

-- by its parts
parts_of : (text number kind : List ℕ) → refusal_text text number kind ≡ codes "status refused\ntext " ++ (text ++ 10 ∷ (codes "line " ++ (number ++ 10 ∷ (codes "kind " ++ (kind ++ 10 ∷ end_line)))))
parts_of text number kind =
    five (line (codes "status") (codes "refused")) (line (codes "text") text) (line (codes "line") number) (line (codes "kind") kind) end_line
    ∙ ap (λ rest. line (codes "status") (codes "refused") ++ (line (codes "text") text ++ (line (codes "line") number ++ rest))) (line_then (codes "kind") kind end_line)
    ∙ ap (λ rest. line (codes "status") (codes "refused") ++ (line (codes "text") text ++ rest)) (line_then (codes "line") number (codes "kind" ++ 32 ∷ (kind ++ 10 ∷ end_line)))
    ∙ ap (λ rest. line (codes "status") (codes "refused") ++ rest) (line_then (codes "text") text (codes "line" ++ 32 ∷ (number ++ 10 ∷ (codes "kind" ++ 32 ∷ (kind ++ 10 ∷ end_line)))))

-- seven pieces, one after another
seven : (a b c d e f g : List ℕ) → a ++ b ++ c ++ d ++ e ++ f ++ g ≡ a ++ (b ++ (c ++ (d ++ (e ++ (f ++ g)))))
seven a b c d e f g = simp append_assoc

pub written : (a b c d e f g text number kind : List ℕ) → a ≡ codes "status refused\ntext " → b ≡ a ++ text → c ≡ b ++ codes "\nline " → d ≡ c ++ number → e ≡ d ++ codes "\nkind " → f ≡ e ++ kind → g ≡ f ++ codes "\nend\n" → g ≡ refusal_text text number kind
written a b c d e f g text number kind p q r s t u v =
    v
    ∙ ap (λ front. front ++ codes "\nend\n") (u ∙ ap (λ front. front ++ kind) (t ∙ ap (λ front. front ++ codes "\nkind ") (s ∙ ap (λ front. front ++ number) (r ∙ ap (λ front. front ++ codes "\nline ") (q ∙ ap (λ front. front ++ text) p)))))
    ∙ seven (codes "status refused\ntext ") text (codes "\nline ") number (codes "\nkind ") kind (codes "\nend\n") ∙ sym (parts_of text number kind)

pub line_text : (n : ℕ) → n < 2 ^ 64 → decimal n ≡ natural_text n
line_text n h = sym (natural_text_decimal n (omega (arith, h)))

-- ---- what it tells

abbrev HasNoFeed : List ℕ → Type 0
HasNoFeed text = AllByRecursion (λ byte. byte ≢ 10) text

no_feed : (text : List ℕ) → AllByRecursion IsFractionByte text → HasNoFeed text
no_feed [] plain = tt
no_feed (byte ∷ bytes) plain = (λ e. grind (arith, plain.0), no_feed bytes plain.1)

natural_text-no_feed : (n : ℕ) → HasNoFeed (natural_text n)
natural_text-no_feed n =
    subst HasNoFeed (whole_text n)
    (no_feed (fraction_text (integer (pos n))) (recursion_from_All IsFractionByte (fraction_text (integer (pos n))) (fraction_text_plain (integer (pos n)))))

-- what comes before a line feed, and what comes after it
parted : (xs ys us vs : List ℕ) → HasNoFeed xs → HasNoFeed ys → xs ++ 10 ∷ us ≡ ys ++ 10 ∷ vs → (xs ≡ ys) × (us ≡ vs)
parted [] [] us vs p q e = (refl, cc)
parted [] (y ∷ ys) us vs p q e = absurd (q.0 (cc))
parted (x ∷ xs) [] us vs p q e = absurd (p.0 (cc))
parted (x ∷ xs) (y ∷ ys) us vs p q e =
    let head : x ≡ y = cc in
    let tail : xs ++ 10 ∷ us ≡ ys ++ 10 ∷ vs = cc in
    let rest = parted xs ys us vs p.1 q.1 tail in
    (ap (λ byte. byte ∷ xs) head ∙ ap (λ bytes. y ∷ bytes) rest.0, rest.1)

-- the number of a kind, from its text
kind_read : List ℕ → ℕ
kind_read [] = 0
kind_read (a ∷ []) = 0
kind_read (a ∷ b ∷ bytes) = if b == 32 then a - 48 else (a - 48) * 10 + (b - 48)

-- the texts are those of the numbers from this one on
are_read : ℕ → List (List ℕ) → Bool
are_read from [] = true
are_read from (text ∷ texts) = (kind_read text == from) && are_read (from + 1) texts

read_at : (from : ℕ) (texts : List (List ℕ)) (k : ℕ) → are_read from texts ≡ true → k < length texts → kind_read (slice_index_or texts k []) ≡ from + k
unfolding are_read
read_at from [] k e h = absurd (omega (arith, h))
read_at from (text ∷ texts) zero e h = eqb-true (kind_read text) from (and_parts (kind_read text == from) (are_read (from + 1) texts) e).0 ∙ no_more from
  where
    no_more : (n : ℕ) → n ≡ n + 0
    no_more n = omega arith
read_at from (text ∷ texts) (suc k) e h = read_at (from + 1) texts k (and_parts (kind_read text == from) (are_read (from + 1) texts) e).1 (omega (arith, h)) ∙ one_more from k
  where
    one_more : (m n : ℕ) → (m + 1) + n ≡ m + suc n
    one_more m n = omega arith

-- the number of a kind is that of its text
read_of : (texts : List (List ℕ)) (number : ℕ) → are_read 1 texts ≡ true → 0 < number → number ≤ length texts → kind_read (slice_index_or texts (number - 1) []) ≡ number
read_of texts number e some few = read_at 1 texts (number - 1) e (omega (arith, some, few)) ∙ back number some
  where
    back : (n : ℕ) → 0 < n → 1 + (n - 1) ≡ n
    back n h = omega (arith, h)

mps_read : are_read 1 mps_texts ≡ true
unfolding kind_read are_read
mps_read = refl

lp_read : are_read 1 lp_texts ≡ true
unfolding kind_read are_read
lp_read = refl

blocks_read : are_read 1 block_texts ≡ true
unfolding kind_read are_read
blocks_read = refl

point_read : are_read 1 point_texts ≡ true
unfolding kind_read are_read
point_read = refl

read_model : (kind : ModelKind) → kind_read (model_kind_text kind) ≡ model_kind_number kind
read_model (Mps kind) = read_of mps_texts kind.number mps_read kind.some kind.few
read_model (Lp kind) = read_of lp_texts kind.number lp_read kind.some kind.few

read_kind : (fault : FaultyText) → kind_read (kind_text fault) ≡ number_of fault
read_kind (Model fault) = read_model fault.kind
read_kind (Blocks fault) = read_of block_texts fault.kind.number blocks_read fault.kind.some fault.kind.few
read_kind (Point fault) = read_of point_texts fault.kind.number point_read fault.kind.some fault.kind.few

text_name-no_feed : (fault : FaultyText) → HasNoFeed (text_name fault)
text_name-no_feed (Model fault) = (λ e. omega (arith, e), (λ e. omega (arith, e), (λ e. omega (arith, e), (λ e. omega (arith, e), (λ e. omega (arith, e), tt)))))
text_name-no_feed (Blocks fault) = (λ e. omega (arith, e), (λ e. omega (arith, e), (λ e. omega (arith, e), (λ e. omega (arith, e), (λ e. omega (arith, e), (λ e. omega (arith, e), tt))))))
text_name-no_feed (Point fault) = (λ e. omega (arith, e), (λ e. omega (arith, e), (λ e. omega (arith, e), (λ e. omega (arith, e), (λ e. omega (arith, e), tt)))))

pub refusals_tell : RefusalsTell
refusals_tell fault other e =
    let same = sym (parts_of (text_name fault) (natural_text (line_of fault)) (kind_text fault)) ∙ e ∙ parts_of (text_name other) (natural_text (line_of other)) (kind_text other) in
    let texts = parted (text_name fault) (text_name other) _ _ (text_name-no_feed fault) (text_name-no_feed other) (cancelled (codes "status refused\ntext ") _ _ same) in
    let lines = parted (natural_text (line_of fault)) (natural_text (line_of other)) _ _ (natural_text-no_feed (line_of fault)) (natural_text-no_feed (line_of other)) (cancelled (codes "line ") _ _ texts.1) in
    let kinds = append_cancel_right (kind_text fault) (kind_text other) (10 ∷ end_line) (cancelled (codes "kind ") _ _ lines.1) in
    (texts.0, natural_text_injective (line_of fault) (line_of other) lines.0, sym (read_kind fault) ∙ ap kind_read kinds ∙ read_kind other)
