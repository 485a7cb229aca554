-- A substitution stays one while the program changes.
use Rattle.std.proofs.Common.{◌≡◌, ℕ, ◌<◌, List, length, slice_get, sym, ap, ◌∙◌, subst}
use Rattle.cip_problem.specs.Program.{Choice, Sides, Row, Program}
use Rattle.cip_problem.specs.Choices.{choice_at, is_open}
use Rattle.cip_search.specs.NarrowedPrograms.{IsExactStep}
use Rattle.cip_search.specs.Forms.{Form}
use Rattle.cip_search.proofs.Pairing.{exact_after, exact_self}
use Rattle.cip_presolve.specs.ColumnForms.{RowGives, IsSubstitute}
use Rattle.cip_presolve.specs.declared.substituting.Substitution.{Substitution}
use Rattle.cip_presolve.specs.Substitutions.{IsFound}
use Rattle.cip_presolve.proofs.Chained.{open_ends}

pub found_parts : (program : Program) (row column : ℕ) (form : Form) → row < length program.rows → RowGives program row column form → IsSubstitute program column form → IsFound program (record { row = row; column = column; form = form })
found_parts program row column form there gives substitute = record { there = there; gives = gives; substitute = substitute }

pub ruleset finding = (found_parts)

-- rows, bounds and choices stay
pub found_later : (old new : Program) (found : Substitution) → IsFound old found → IsExactStep old new → new.rows ≡ old.rows → new.bounds ≡ old.bounds → IsFound new found
found_later old new found f step rows bounds = record {
  there = subst (λ (rs : List Row). found.row < length rs) (sym rows) f.there;
  gives = λ row e. f.gives row (ap (λ (rs : List Row). slice_get rs found.row) (sym rows) ∙ e);
  substitute = record {
    inside = subst (λ (b : List Sides). found.column < length b) (sym bounds) f.substitute.inside;
    source = subst (λ (b : List Sides). found.form.source < length b) (sym bounds) f.substitute.source;
    apart = f.substitute.apart;
    plain = ap (λ (cs : List Choice). is_open (choice_at cs found.column)) step.narrowed.choices ∙ f.substitute.plain;
    source_plain = ap (λ (cs : List Choice). is_open (choice_at cs found.form.source)) step.narrowed.choices ∙ f.substitute.source_plain;
  };
}

-- the row gives the form still
pub found_still : (old new : Program) (found : Substitution) → IsFound old found → length new.rows ≡ length old.rows → RowGives new found.row found.column found.form → IsSubstitute new found.column found.form → IsFound new found
found_still old new found f rows gives substitute = record {
  there = subst (λ n. found.row < n) (sym rows) f.there;
  gives = gives;
  substitute = substitute;
}

pub ruleset taking = (exact_self, exact_after, found_later, open_ends)
