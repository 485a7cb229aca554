-- What the reading of a text of a point, or of blocks, answers.
use Rattle.std.specs.Prelude.{◌≡◌, ◌⊎◌, ℕ, List, Option, Result, Ok, Err, MatchResult, IfSome, take, drop, option_map}
use Rattle.std.proofs.Common.{inl, inr, refl, sym, ap, ◌∙◌, subst}
use Rattle.cip_io.specs.Faults.{Rose}
use Rattle.cip_io.specs.Store.{StoreTells}
use Rattle.cip_text_rules.specs.LineTexts.{Reading, HasFault, HasResult}
use Rattle.cip_blocks.specs.ReadFault.{ReadFault}
use Rattle.cip_blocks.specs.ReadFault.TheVariants as reader
use Rattle.cip_blocks.specs.TextFaults.{IsFaultBy}
use Rattle.cip_input.specs.TextPulls.{IsAllRead, PullCause, most_pulled}
use Rattle.cip_input.specs.TextsRead.{ReadsText}
use Rattle.cip_input.specs.Unreads.{IsUnread, UnreadCause}
use Rattle.cip_input.specs.declared.unread.Unread.{Unread}
use Rattle.cip_input.specs.declared.unread.Unread.TheVariants.{StoreFailed, Faulty, NoMemory}
use Rattle.cip_input.proofs.LineTextsRead.{reads_text, refuses_text}

-- the same of a store that tells the same of its text and its faults
pub all_read_as : (Old New : List ℕ → Type 0) (chosen like now : StoreTells) → chosen.left ≡ like.left → chosen.faults ≡ like.faults → (all : IsAllRead Old chosen now) → New all.bytes → IsAllRead New like now
all_read_as Old New chosen like now text same all read = record {
  bytes = all.bytes;
  has_read = read;
  start = subst (λ (t : Option (List ℕ)). IfSome t (λ told. take most_pulled told ≡ all.bytes)) text all.start;
  pulled = subst (λ (t : Option (List ℕ)). now.left ≡ option_map (drop most_pulled) t) text all.pulled;
  sound = all.sound ∙ same;
}

pub pull_cause_as : {K : Type 0} (chosen like now : StoreTells) → chosen.faults ≡ like.faults → (cause : Unread K) → PullCause chosen now cause → PullCause like now cause
pull_cause_as chosen like now same StoreFailed p = subst (λ (count : ℕ). Rose count now.faults) same p
pull_cause_as chosen like now same (Faulty fault) p = absurd p
pull_cause_as chosen like now same NoMemory p = p ∙ same

-- want of memory says nothing of the text
pub spent_cause : {K L V : Type 0} (Gives : K → L → Type 0) (old new : StoreTells) (fault : ReadFault K) (cause : Unread L) → ◌≡◌ {A = Result V (ReadFault K)} (Err fault) (Err reader.NoMemory) → IsUnread Gives fault cause → new.faults ≡ old.faults → PullCause old new cause
spent_cause Gives old new (reader.Faulty fault) cause e t same = let no : ⊥ = cc e in absurd no
spent_cause Gives old new reader.NoMemory cause e t same = subst (PullCause old new) (sym t) same

-- the text was read, and has a fault
pub unread : {F K I X : Type 0} (reading : Reading K I X) (number_of : F → ℕ) (HasRead : List ℕ → Type 0) (chosen now : StoreTells) (a : IsAllRead HasRead chosen now) (fault : ReadFault F) → IsFaultBy number_of (HasFault reading a.bytes) fault → (cause : Unread F) → IsUnread (λ kind made. made ≡ kind) fault cause → UnreadCause number_of (HasFault reading) chosen.left chosen now cause
unread reading number_of HasRead chosen now a (reader.Faulty fault) h (Faulty told) e =
    refuses_text reading HasRead chosen.left chosen chosen now told.line (number_of told.kind) a refl refl
    (subst (λ line. HasFault reading a.bytes line (number_of told.kind)) (sym e.0) (subst (λ kind. HasFault reading a.bytes fault.line kind) (sym (ap number_of e.1)) h))
unread reading number_of HasRead chosen now a (reader.Faulty fault) h StoreFailed e = absurd e
unread reading number_of HasRead chosen now a (reader.Faulty fault) h NoMemory e = absurd e
unread reading number_of HasRead chosen now a reader.NoMemory h cause e = subst (UnreadCause number_of (HasFault reading) chosen.left chosen now) (sym e) a.sound

pulled : {F : Type 0} (number_of : F → ℕ) (HasFault : List ℕ → ℕ → ℕ → Type 0) (text : Option (List ℕ)) (old new : StoreTells) (cause : Unread F) → PullCause old new cause → UnreadCause number_of HasFault text old new cause
pulled number_of HasFault text old new StoreFailed p = p
pulled number_of HasFault text old new (Faulty fault) p = absurd p
pulled number_of HasFault text old new NoMemory p = p

-- what a text gave that was read, or its fault, or why it was not read
pub text_told : {V F K I X : Type 0} (reading : Reading K I X) (value_of : V → X) (number_of : F → ℕ) (old new : StoreTells) (result : Result V (Unread F)) → MatchResult result (λ value. IsAllRead (λ bytes. HasResult reading bytes (value_of value)) old new)
    (λ cause. PullCause old new cause ⊎ ((fault : ReadFault F) × IsUnread (λ kind made. made ≡ kind) fault cause × IsAllRead (λ bytes. IsFaultBy number_of (HasFault reading bytes) fault) old new))
    → MatchResult result (λ value. ReadsText (HasResult reading) old.left old new (value_of value)) (UnreadCause number_of (HasFault reading) old.left old new)
text_told reading value_of number_of old new (Ok value) all = reads_text reading _ old.left old old new (value_of value) all refl refl all.has_read
text_told reading value_of number_of old new (Err cause) (inl p) = pulled number_of (HasFault reading) old.left old new cause p
text_told reading value_of number_of old new (Err cause) (inr told) = unread reading number_of _ old new told.2 told.0 told.2.has_read cause told.1

-- the same over a call that began before the text was chosen
pub later : {V X K : Type 0} (HasValue : List ℕ → X → Type 0) (value_of : V → X) (number_of : K → ℕ) (HasFault : List ℕ → ℕ → ℕ → Type 0) (text : Option (List ℕ)) (old chosen new : StoreTells) (result : Result V (Unread K)) → chosen.left ≡ text → chosen.faults ≡ old.faults
    → MatchResult result (λ value. ReadsText HasValue chosen.left chosen new (value_of value)) (UnreadCause number_of HasFault chosen.left chosen new) → MatchResult result (λ value. ReadsText HasValue text old new (value_of value)) (UnreadCause number_of HasFault text old new)
later {V = V} {K = K} HasValue value_of number_of HasFault text old chosen new result is_text same m = go result (subst (λ t. MatchResult result (λ value. ReadsText HasValue t chosen new (value_of value)) (UnreadCause number_of HasFault t chosen new)) is_text m)
  where
    go : (result : Result V (Unread K)) → MatchResult result (λ value. ReadsText HasValue text chosen new (value_of value)) (UnreadCause number_of HasFault text chosen new) → MatchResult result (λ value. ReadsText HasValue text old new (value_of value)) (UnreadCause number_of HasFault text old new)
    go (Ok value) m = record { bytes = m.bytes; described = m.described; told = m.told; pulled = m.pulled; sound = m.sound ∙ same }
    go (Err StoreFailed) m = subst (λ count. Rose count new.faults) same m
    go (Err (Faulty fault)) m = record { fault = m.fault; pulled = m.pulled; sound = m.sound ∙ same }
    go (Err NoMemory) m = m ∙ same
