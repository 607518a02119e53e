use Rattle.std.proofs.Common.{List, [], map, sym, ap, ◌∙◌, subst}
use Rattle.std.specs.Prelude.{All}
use Rattle.udb_spec.specs.Lawful.{Lawful}
use Rattle.idl_tree.specs.declared.programs.Body.{Body}
use Rattle.idl_tree.specs.declared.programs.Program.{Program}
use Rattle.idl_spec.specs.Fields.{bits_scope}
use Rattle.idl_forms.specs.Ready.{IsLawfulProgram, AreLawfulVariables}
use Rattle.idl_mean.proofs.evaluator.Evaluator.new.Goals as goal

pub invariant_of-result : goal.invariant_of-result
invariant_of-result c =
    let p = c.in_ok-prepared.prepared in
    let e = c.in_ok-prepared.ensures in
    record {
      lawful = subst Lawful (sym e.0) c.requires.space;
      program = subst IsLawfulProgram (sym e.1) c.requires.program;
      variables = subst (λ (bodies : List Body). All (λ b. AreLawfulVariables b.variables) bodies) (sym e.2) c.requires.variables;
      scopes = c.in_ok-bits_scopes.ensures ∙ ap (λ (bodies : List Body). map (λ b. bits_scope c.args.program.now b.variables) bodies) (sym e.2)
          ∙ ap (λ (program : Program). map (λ b. bits_scope program b.variables) p.bodies) (sym e.1);
      bare_scope = c.in_ok-bare_widths.ensures ∙ ap (λ (program : Program). bits_scope program []) (sym e.1);
    }
