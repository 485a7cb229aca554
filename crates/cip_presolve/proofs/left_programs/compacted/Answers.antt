use Rattle.std.proofs.lemmas.Grind.{common_steps}
use Rattle.std.proofs.Common.{◌≡◌, sym, ap, ◌∙◌, subst, arith}
use Rattle.cip_presolve.specs.EntriesLeft.{gone_of}
use Rattle.cip_presolve.specs.StepsBack.{StepsTaken}
use Rattle.cip_presolve.specs.LeftProgram.{left_program}
use Rattle.cip_presolve.specs.PresolvedPrograms.{IsPresolved, IsExactlyPresolved}
use Rattle.cip_presolve.proofs.LeftPairs.{leaves, left_pair, left_exact_pair, left_numbers, left_whole, can_leave}
use Rattle.cip_presolve.proofs.LeavesFit.{leaves_fit}
use Rattle.cip_presolve.proofs.left_programs.compacted.Goals as goal

pub returns-in-Ok-left-clause-pair : goal.returns-in-Ok-left-clause-pair
returns-in-Ok-left-clause-pair c =
    let gone : c.in-Ok.out.gone.items ≡ gone_of c.in-Ok.out.forms.items = c.in-Ok.ensures.gone in
    let reduced : c.in-Ok-left.reduced ≡ left_program c.args.program.now c.args.draft c.in-Ok.out.gone.items = c.in-Ok-left.ensures ∙ ap (λ g. left_program c.args.program.now c.args.draft g) c.as_slice.ensures.value in
    let whole : c.in-Ok.out.whole.items ≡ c.args.program.now.integral = c.in-Ok.ensures.lists.1 in
    subst (λ (s : StepsTaken). IsPresolved c.args.program.now (record { reduced = c.in-Ok-left.reduced; steps = s; kept = c.in-Ok.out.kept })) (sym c.new.ensures) (record {
      pair = left_pair c.args.program.now c.args.draft c.in-Ok-left.reduced c.in-Ok.out.forms.items c.in-Ok.out.gone.items c.columns-columns.ensures.formed c.bounds-bounds.ensures.formed c.requires.step c.requires.rows
          (leaves c.args.draft c.in-Ok.out.forms.items c.bounds-bounds.ensures.formed c.in-Ok.ensures.may c.in-Ok.ensures.sources c.in-Ok.ensures.rows) gone reduced;
      numbers = record {
        kept = left_numbers c.in-Ok.out.forms.items c.in-Ok.out.gone.items c.in-Ok.out.kept.items gone c.in-Ok.ensures.lists.0;
        whole = whole;
        left = left_whole c.args.program.now c.args.draft c.in-Ok-left.reduced c.in-Ok.out.forms.items c.in-Ok.out.gone.items c.in-Ok.out.whole.items c.requires.step gone reduced whole;
      };
      leaves = leaves_fit c.args.program.now c.args.draft c.in-Ok-left.reduced c.in-Ok.out.forms.items c.in-Ok.out.gone.items c.in-Ok.out.whole.items c.in-Ok.ensures.may c.in-Ok.ensures.sources gone reduced whole c.requires.step.narrowed.integral;
    })

pub returns-in-Ok-left-clause-exact : goal.returns-in-Ok-left-clause-exact
returns-in-Ok-left-clause-exact c step =
    let gone : c.in-Ok.out.gone.items ≡ gone_of c.in-Ok.out.forms.items = c.in-Ok.ensures.gone in
    let reduced : c.in-Ok-left.reduced ≡ left_program c.args.program.now c.args.draft c.in-Ok.out.gone.items = c.in-Ok-left.ensures ∙ ap (λ g. left_program c.args.program.now c.args.draft g) c.as_slice.ensures.value in
    let whole : c.in-Ok.out.whole.items ≡ c.args.program.now.integral = c.in-Ok.ensures.lists.1 in
    subst (λ (s : StepsTaken). IsExactlyPresolved c.args.program.now (record { reduced = c.in-Ok-left.reduced; steps = s; kept = c.in-Ok.out.kept })) (sym c.new.ensures) (record {
      pair = left_exact_pair c.args.program.now c.args.draft c.in-Ok-left.reduced c.in-Ok.out.forms.items c.in-Ok.out.gone.items c.columns-columns.ensures.formed c.bounds-bounds.ensures.formed step c.requires.rows
          (leaves c.args.draft c.in-Ok.out.forms.items c.bounds-bounds.ensures.formed c.in-Ok.ensures.may c.in-Ok.ensures.sources c.in-Ok.ensures.rows) gone reduced;
      numbers = record {
        kept = left_numbers c.in-Ok.out.forms.items c.in-Ok.out.gone.items c.in-Ok.out.kept.items gone c.in-Ok.ensures.lists.0;
        whole = whole;
        left = left_whole c.args.program.now c.args.draft c.in-Ok-left.reduced c.in-Ok.out.forms.items c.in-Ok.out.gone.items c.in-Ok.out.whole.items c.requires.step gone reduced whole;
      };
      leaves = leaves_fit c.args.program.now c.args.draft c.in-Ok-left.reduced c.in-Ok.out.forms.items c.in-Ok.out.gone.items c.in-Ok.out.whole.items c.in-Ok.ensures.may c.in-Ok.ensures.sources gone reduced whole c.requires.step.narrowed.integral;
    })

pub left-requires : goal.left-requires
left-requires c =
    can_leave c.args.program.now c.args.draft c.in-Ok.out.forms.items c.as_slice.result.now c.columns-columns.ensures.formed c.bounds-bounds.ensures.formed c.requires.step c.requires.rows
    c.in-Ok.ensures.may c.in-Ok.ensures.sources c.in-Ok.ensures.rows (c.as_slice.ensures.value ∙ c.in-Ok.ensures.gone)

pub left_out-requires : goal.left_out-requires
left_out-requires c = grind (arith, common_steps)

pub returns-in_default-clause-pair : goal.returns-in_default-clause-pair
returns-in_default-clause-pair c = grind (arith, common_steps)

pub returns-in_default-clause-exact : goal.returns-in_default-clause-exact
returns-in_default-clause-exact c = grind (arith, common_steps)
