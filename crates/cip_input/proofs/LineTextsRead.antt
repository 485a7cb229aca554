-- What a text comes to of which as much was read as is looked at.
use Rattle.std.specs.Prelude.{◌≡◌, ℕ, ◌≤◌, ◌<◌, nat_le, Bool, true, false, List, Option, None, Some, IfSome, option_map, take, drop, length, refl, if◌then◌else◌}
use Rattle.std.proofs.Common.{sym, ap, ◌∙◌, subst, arith}
use Rattle.std.proofs.lemmas.Bool.{leb-true, leb-false}
use Rattle.std.proofs.lemmas.List.{length-take, take_all}
use Rattle.cip_io.specs.Store.{StoreTells}
use Rattle.cip_problem.specs.Limits.{longest_text}
use Rattle.cip_text_rules.specs.LineTexts.{Reading, outcome_of, outcome_of_lines, outcome_of_start, HasResult, HasFault}
use Rattle.cip_text_rules.proofs.LineOutcomes.{described}
use Rattle.cip_input.specs.TextPulls.{most_pulled, IsAllRead}
use Rattle.cip_input.specs.TextsRead.{ReadsText, RefusesText}

too_many : (n : ℕ) → most_pulled ≤ n → nat_le n longest_text ≡ false
too_many n l = is_not (nat_le n longest_text) refl
  where
    is_not : (b : Bool) → nat_le n longest_text ≡ b → b ≡ false
    is_not true e = let low : n ≤ longest_text = leb-true n longest_text e in absurd (omega (arith, l, low))
    is_not false e = refl

-- a long text comes to what its first bytes do
long_outcome : {K I X : Type 0} (r : Reading K I X) (text : List ℕ) → most_pulled ≤ length text → outcome_of r text ≡ outcome_of_start r (take most_pulled text)
unfolding outcome_of
long_outcome r text l = ap (λ (b : Bool). if b then outcome_of_lines r text else outcome_of_start r (take most_pulled text)) (too_many (length text) l)

-- a text of which this is the start that is looked at
short_or_long : {K I X : Type 0} (r : Reading K I X) (text bytes : List ℕ) → take most_pulled text ≡ bytes → (b : Bool) → nat_le (length text) longest_text ≡ b → outcome_of r text ≡ outcome_of r bytes
short_or_long r text bytes e true h =
    let short : length text ≤ longest_text = leb-true (length text) longest_text h in
    ap (outcome_of r) (sym (take_all most_pulled text (omega (arith, short))) ∙ e)
short_or_long r text bytes e false h =
    let over : longest_text < length text = leb-false (length text) longest_text h in
    let long : most_pulled ≤ length text = omega (arith, over) in
    let size : length bytes ≡ most_pulled = omega (arith, long, length-take most_pulled text, ap length e) in
    let same : take most_pulled text ≡ take most_pulled bytes = e ∙ sym (take_all most_pulled bytes (omega (arith, size))) in
    long_outcome r text long ∙ ap (outcome_of_start r) same ∙ sym (long_outcome r bytes (omega (arith, size)))

same_outcome : {K I X : Type 0} (r : Reading K I X) (text bytes : List ℕ) → take most_pulled text ≡ bytes → outcome_of r text ≡ outcome_of r bytes
same_outcome r text bytes e = short_or_long r text bytes e (nat_le (length text) longest_text) refl

-- ---- what the start says of the text, where that is told

pub text_told : {K I X : Type 0} (r : Reading K I X) (text : Option (List ℕ)) (bytes : List ℕ) (value : X) → IfSome text (λ all. take most_pulled all ≡ bytes) → HasResult r bytes value → IfSome text (λ all. all ≡ bytes)
text_told r None bytes value h p = tt
text_told r (Some all) bytes value h p =
    let all_has : HasResult r all value = record { means = same_outcome r all bytes h ∙ p.means } in
    let short : length all ≤ longest_text = (described r all value all_has).short in
    sym (take_all most_pulled all (omega (arith, short))) ∙ h

pub fault_told : {K I X : Type 0} (r : Reading K I X) (text : Option (List ℕ)) (bytes : List ℕ) (line kind : ℕ) → IfSome text (λ all. take most_pulled all ≡ bytes) → HasFault r bytes line kind → IfSome text (λ all. HasFault r all line kind)
fault_told r None bytes line kind h p = tt
fault_told r (Some all) bytes line kind h p = record { faulty = same_outcome r all bytes h ∙ p.faulty }

-- a text that was read has the value of what was read of it
pub reads_text : {K I X : Type 0} (r : Reading K I X) (HasRead : List ℕ → Type 0) (text : Option (List ℕ)) (old chosen now : StoreTells) (value : X) (a : IsAllRead HasRead chosen now) → chosen.left ≡ text → chosen.faults ≡ old.faults → HasResult r a.bytes value → ReadsText (HasResult r) text old now value
reads_text r HasRead text old chosen now value a e f h = record {
  bytes = a.bytes;
  described = h;
  told = subst (λ t. IfSome t (λ all. all ≡ a.bytes)) e (text_told r chosen.left a.bytes value a.start h);
  pulled = subst (λ t. now.left ≡ option_map (drop most_pulled) t) e a.pulled;
  sound = a.sound ∙ f;
}

-- or its fault
pub refuses_text : {K I X : Type 0} (r : Reading K I X) (HasRead : List ℕ → Type 0) (text : Option (List ℕ)) (old chosen now : StoreTells) (line kind : ℕ) (a : IsAllRead HasRead chosen now) → chosen.left ≡ text → chosen.faults ≡ old.faults → HasFault r a.bytes line kind → RefusesText (HasFault r) text old now line kind
refuses_text r HasRead text old chosen now line kind a e f h = record {
  fault = subst (λ t. IfSome t (λ all. HasFault r all line kind)) e (fault_told r chosen.left a.bytes line kind a.start h);
  pulled = subst (λ t. now.left ≡ option_map (drop most_pulled) t) e a.pulled;
  sound = a.sound ∙ f;
}
