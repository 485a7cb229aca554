-- What the calls of a reader of LP texts answer.
use Rattle.std.proofs.Common.{◌≡◌, ℕ, ◌+◌, Bool, true, List, [], ◌++◌, Option, None, Some, is_some, Result, Ok, Err, refl, sym, ap, subst, ◌∙◌}
use Rattle.std.specs.Prelude.{option_map, IsErr, MatchResult}
use Rattle.std.specs.Result.{IsErrAnd}
use Rattle.std.proofs.lemmas.List.{append-nil, append_assoc}
use Rattle.cip_problem.specs.Program.{Program}
use Rattle.cip_text_rules.specs.LineEnds.{Stage}
use Rattle.cip_text_rules.specs.LineTexts.{Outcome, Means, outcome_at, outcome_of, HasFault}
use Rattle.cip_text_rules.specs.LineStream.{Progress, Failed, outcome_from}
use Rattle.cip_text.specs.declared.faults.KnownFault.{KnownFault}
use Rattle.cip_text.specs.declared.text_faults.TextFault.{TextFault}
use Rattle.cip_text.specs.declared.text_faults.ReadFault.{ReadFault}
use Rattle.cip_text.specs.declared.text_faults.ReadFault.TheVariants.{Faulty, NoMemory}
use Rattle.cip_text.specs.TextFaults.{by_number, IsSaid}
use Rattle.cip_text.specs.PieceReaders.{IsFed}
use Rattle.cip_text.specs.PieceFaults.{first_fault, has_kind_to}
use Rattle.cip_text.specs.PieceStands.{progress_of, progress_after, outcome_with}
use Rattle.cip_text.proofs.Streams.{few_kinds}
use Rattle.cip_text_rules.specs.LpOutcome.{LpContext, lp_reading, told_kind, HasLpFault}
use Rattle.cip_text_rules.specs.LpBytes.{LpBytes, part_read, behind, beyond, text_taken, IsTold}
use Rattle.cip_text_rules.specs.LpTakenTexts.{last_line, TakenFaultsStay, TakenTextsComeOut}
use Rattle.cip_lp.specs.declared.kinds.LpKind.{LpKind}
use Rattle.cip_lp.specs.declared.lp_text.LpText.{LpText}
use Rattle.cip_lp.specs.LpKindTexts.{kind_number}
use Rattle.cip_lp.specs.LpTexts.{bytes_of, shown_of}
use Rattle.cip_lp.specs.LpReaders.{HasCome, IsKnown, KnownLpFaultsStay, as_told, IsAnswered, IsFaultOf}

-- ---- bytes

-- the progress behind tokens
pub after_is : (number : ℕ) (kind : Option ℕ) (stage : Stage LpContext) → progress_of (first_fault None number kind) stage ≡ progress_after number kind stage
after_is number None stage = refl
after_is number (Some kind) stage = refl

abbrev pub bytes_with : Stage LpContext → (ended : ℕ) → (front : Bool) → (rest : List ℕ) → (size : ℕ) → LpBytes
bytes_with stage ended front rest size = record { stage = stage; ended = ended; front = front; rest = rest; size = size }

-- what is kept behind tokens
pub moved : (f : Option KnownFault) (stage : Stage LpContext) (p : Progress (Stage LpContext)) (ended ended_then : ℕ) (front : Bool) (rest rest_then : List ℕ) (size size_then : ℕ)
    → progress_of f stage ≡ p → ended ≡ ended_then → rest ≡ rest_then → size ≡ size_then → progress_of f (bytes_with stage ended front rest size) ≡ behind p ended_then front rest_then size_then
moved f stage p ended ended_then front rest rest_then size size_then e same_ended same_rest same_size =
    here f ∙ (λ i. behind (e i) (same_ended i) front (same_rest i) (same_size i))
  where
    here : (g : Option KnownFault) → progress_of g (bytes_with stage ended front rest size) ≡ behind (progress_of g stage) ended front rest size
    here None = refl
    here (Some g) = refl

-- behind the first byte too many
pub beyond_going : (stage : Stage LpContext) (p : Progress (Stage LpContext)) (bytes : LpBytes) (f : Option KnownFault) (line : ℕ) → f ≡ None → progress_of f stage ≡ p → progress_of (first_fault None line (Some 12)) bytes ≡ beyond p line
beyond_going stage p bytes f line none e = ap (λ q. beyond q line) (sym (ap (λ g. progress_of g stage) none) ∙ e)

pub beyond_failed : (stage : Stage LpContext) (p : Progress (Stage LpContext)) (bytes : LpBytes) (f : Option KnownFault) (line : ℕ) → is_some f ≡ true → progress_of f stage ≡ p → progress_of f bytes ≡ beyond p line
beyond_failed stage p bytes None line some e = absurd (cc)
beyond_failed stage p bytes (Some fault) line some e = ap (λ q. beyond q line) e

-- ---- the end

-- what progress comes to
outcome_is : (last : ℕ) (f : Option KnownFault) (stage : Stage LpContext) → outcome_from lp_reading last (progress_of f stage) ≡ outcome_with (first_fault f (last + 1) (lp_reading.end_fault stage)) (lp_reading.result stage)
outcome_is last None stage = go (lp_reading.end_fault stage)
  where
    go : (o : Option ℕ) → ◌≡◌ {A = Outcome Program} (outcome_at o (last + 1) (Means (lp_reading.result stage))) (outcome_with (first_fault None (last + 1) o) (lp_reading.result stage))
    go None = refl
    go (Some kind) = refl
outcome_is last (Some f) stage = refl

-- the outcome of a text that ends here
pub closes : TakenTextsComeOut → (text : List ℕ) (old : LpText) (f : Option KnownFault) (stage : Stage LpContext) (last : ℕ) (fault : Option KnownFault) → old.fault ≡ None → shown_of old ≡ text_taken text → last ≡ last_line (bytes_of old)
    → progress_of f stage ≡ part_read (bytes_of old) → fault ≡ first_fault f (last + 1) (lp_reading.end_fault stage) → outcome_of lp_reading text ≡ outcome_with fault (lp_reading.result stage)
closes law text old f stage last fault none stands is_last read is_fault =
    law text (bytes_of old) (sym stands ∙ ap (λ g. progress_of g (bytes_of old)) none)
    ∙ (λ i. outcome_from lp_reading (sym is_last i) (sym read i))
    ∙ outcome_is last f stage
    ∙ ap (λ g. outcome_with g (lp_reading.result stage)) (sym is_fault)

-- ---- the calls

-- a fault that is known, as it is told
abbrev IsSaidBy : KnownFault → (line kind : ℕ) → Type 0
IsSaidBy known line kind = (line ≡ known.line) × (kind ≡ told_kind known.kind)

said_by : (known : KnownFault) (fault : TextFault LpKind) → IsSaid kind_number (Some (as_told known)) (Err fault) → IsSaidBy known fault.line (kind_number fault.kind)
said_by known fault s =
    let same : as_told known ≡ by_number kind_number fault = cc s in
    (sym (ap (λ (f : KnownFault). f.line) same), sym (ap (λ (f : KnownFault). f.kind) same))

is_known : TakenFaultsStay → (now : LpText) (text : List ℕ) (known : KnownFault) (line kind : ℕ) → shown_of now ≡ text_taken text → now.fault ≡ Some known → has_kind_to 12 (Some known) ≡ true → IsSaidBy known line kind → IsKnown text line kind
is_known law now text known line kind stands e few said = record {
  told = record {
    number = known.kind;
    taken = taken ∙ ap (λ (n : ℕ). Failed n known.kind) (sym said.0);
    is_kind = sym said.1;
  };
  of_text = λ rest. record {
    number = known.kind;
    fault = subst (λ (n : ℕ). HasFault lp_reading (text ++ rest) n known.kind) (sym said.0) (law.of_text text rest known.line known.kind taken (few_kinds 12 known few));
    is_kind = sym said.1;
  };
}
  where
    taken : text_taken text ≡ Failed known.line known.kind
    taken = sym stands ∙ ap (λ g. progress_of g (bytes_of now)) e

said_known : TakenFaultsStay → (now : LpText) (text : List ℕ) (f : Option KnownFault) (fault : TextFault LpKind) → shown_of now ≡ text_taken text → now.fault ≡ f → has_kind_to 12 f ≡ true → IsSaid kind_number (option_map as_told f) (Err fault) → IsKnown text fault.line (kind_number fault.kind)
said_known law now text None fault stands e few said = absurd (cc said)
said_known law now text (Some known) fault stands e few said = is_known law now text known fault.line (kind_number fault.kind) stands e few (said_by known fault said)

nothing_told : (now : LpText) (bytes : List ℕ) (f : Option KnownFault) → HasCome now bytes → now.fault ≡ f → option_map as_told f ≡ None → (line kind : ℕ) → ¬ IsTold bytes line kind
nothing_told now bytes (Some f) h e none line kind = absurd (cc none)
nothing_told now bytes None h e none line kind = λ told.
    let failed : progress_of None (bytes_of now) ≡ Failed line told.number = sym (ap (λ g. progress_of g (bytes_of now)) e) ∙ h ∙ told.taken in
    absurd (cc)

-- what is told of the bytes that have come
pub answered : TakenFaultsStay → (now : LpText) (bytes : List ℕ) (result : Result (Unit {0}) (TextFault LpKind)) → HasCome now bytes → has_kind_to 12 now.fault ≡ true → IsSaid kind_number (option_map as_told now.fault) result → IsAnswered bytes result
answered law now bytes (Ok u) h few said = nothing_told now bytes now.fault h refl said
answered law now bytes (Err fault) h few said = said_known law now bytes now.fault fault h refl few said

-- a known fault is the text's
known_fault : (text : List ℕ) (line kind : ℕ) → IsKnown text line kind → HasLpFault text line kind
known_fault text line kind h = subst (λ (t : List ℕ). HasLpFault t line kind) (append-nil text) (h.of_text [])

-- why a text that came whole gives no program
pub whole_fault : (bytes : List ℕ) (HasRead IsSpent : Type 0) (cause : ReadFault LpKind) → IsFed HasRead IsSpent (IsAnswered bytes) (Err cause) → IsFaultOf bytes cause
whole_fault bytes HasRead IsSpent (Faulty fault) h = known_fault bytes fault.line (kind_number fault.kind) h.1
whole_fault bytes HasRead IsSpent NoMemory h = tt

-- why a text whose fault was known gives none
pub known_cause : TakenFaultsStay → (now : LpText) (bytes : List ℕ) → HasCome now bytes → has_kind_to 12 now.fault ≡ true → (fault : TextFault LpKind) → IsSaid kind_number (option_map as_told now.fault) (Err fault) → HasLpFault bytes fault.line (kind_number fault.kind)
known_cause law now bytes stands few fault said = known_fault bytes fault.line (kind_number fault.kind) (said_known law now bytes now.fault fault stands refl few said)

-- known faults stay
pub stays : TakenFaultsStay → KnownLpFaultsStay
stays law text rest line kind h = record {
  told = record {
    number = h.told.number;
    taken = law.taken text rest line h.told.number h.told.taken;
    is_kind = h.told.is_kind;
  };
  of_text = λ more. subst (λ (t : List ℕ). HasLpFault t line kind) (sym (append_assoc text rest more)) (h.of_text (rest ++ more));
}

-- ---- what `?` passes on

pub err_is : {X E : Type 0} (cause : E) (result : Result X E) → IsErr result × IsErrAnd result (λ given. given ≡ cause) → result ≡ Err cause
err_is cause (Ok x) h = let no : ⊥ = let failed = h.0 in cc in absurd no
err_is cause (Err given) h = ap Err h.1

pub passed_on : {X E : Type 0} (Done : X → Type 0) (Cause : E → Type 0) (cause : E) (result : Result X E) → Cause cause → IsErr result × IsErrAnd result (λ given. given ≡ cause) → MatchResult result Done Cause
passed_on Done Cause cause result h e = subst (λ r. MatchResult r Done Cause) (sym (err_is cause result e)) h
