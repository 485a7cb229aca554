-- What an LP text comes to, as a reader takes it in pieces.
use Rattle.std.specs.Prelude.{◌≡◌, ℕ, List, ◌++◌, Result, Ok, Err}
use Rattle.cip_text.specs.declared.faults.KnownFault.{KnownFault}
use Rattle.cip_text.specs.declared.text_faults.TextFault.{TextFault}
use Rattle.cip_text.specs.declared.text_faults.ReadFault.{ReadFault}
use Rattle.cip_text.specs.TextFaults.{IsFaultBy}
use Rattle.cip_text_rules.specs.LpOutcome.{told_kind, HasLpFault}
use Rattle.cip_text_rules.specs.LpBytes.{text_taken, IsTold}
use Rattle.cip_lp.specs.declared.kinds.LpKind.{LpKind}
use Rattle.cip_lp.specs.declared.lp_text.LpText.{LpText}
use Rattle.cip_lp.specs.LpKindTexts.{kind_number}
use Rattle.cip_lp.specs.LpTexts.{shown_of}

-- these bytes have come
abbrev pub HasCome : LpText → (bytes : List ℕ) → Type 0
HasCome text bytes = shown_of text ≡ text_taken bytes

-- a token that has ended is faulty, or the text is too long; and this is the text's fault, whatever follows
pub record IsKnown (text : List ℕ) (line kind : ℕ) : Type 0 where
  pub told : IsTold text line kind
  pub of_text : (rest : List ℕ) → HasLpFault (text ++ rest) line kind

-- a known fault is that of the text with whatever follows, and stays known
abbrev pub KnownLpFaultsStay : Type 0
KnownLpFaultsStay =
    (text rest : List ℕ) (line kind : ℕ) → IsKnown text line kind → IsKnown (text ++ rest) line kind

-- a fault with the kind that is told
abbrev pub as_told : KnownFault → KnownFault
as_told known = record { line = known.line; kind = told_kind known.kind }

-- what is told of these bytes where more may follow
abbrev pub IsAnswered : (bytes : List ℕ) → Result (Unit {0}) (TextFault LpKind) → Type 0
IsAnswered bytes (Ok _) = (line kind : ℕ) → ¬ IsTold bytes line kind
IsAnswered bytes (Err fault) = IsKnown bytes fault.line (kind_number fault.kind)

-- why a text gives no program
abbrev pub IsFaultOf : (text : List ℕ) → ReadFault LpKind → Type 0
IsFaultOf text = IsFaultBy kind_number (HasLpFault text)
