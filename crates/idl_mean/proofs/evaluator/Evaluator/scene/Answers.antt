use Rattle.std.proofs.Common.{◌≡◌, ◌≤◌, ◌⊎◌, ℕ, sym, subst, arith}
use Rattle.udb_spec.specs.Spaces.{Valid}
use Rattle.idl_spec.specs.Fields.{bits_scope}
use Rattle.idl_forms.proofs.SceneKinds.{width-limit}
use Rattle.idl_mean.specs.declared.prepared.Prepared.{Prepared}
use Rattle.idl_mean.proofs.StatesKept.{register-width}
use Rattle.idl_mean.proofs.evaluator.Evaluator.scene.Goals as goal

pub overflow_cast-result : goal.overflow_cast-result
overflow_cast-result c =
    let valid = subst (λ (p : Prepared). Valid p.space c.args.full.now) (sym c.self.view_is) c.requires.valid in
    let width = register-width c.self.inside.prepared.space c.args.full.now c.self.invariant.lawful valid in
    let small : c.mxlen.result ≤ 64 = subst (λ (n : ℕ). n ≤ 64) (sym c.mxlen.ensures) (width-limit _ width) in
    omega arith

pub returns-clause-ready : goal.returns-clause-ready
returns-clause-ready c =
    let valid = subst (λ (p : Prepared). Valid p.space c.args.full.now) (sym c.self.view_is) c.requires.valid in
    let width = register-width c.self.inside.prepared.space c.args.full.now c.self.invariant.lawful valid in
    record {
      valid = valid;
      registers = sym c.mxlen.ensures;
      width = subst (λ (n : ℕ). (n ≡ 32) ⊎ (n ≡ 64)) (sym c.mxlen.ensures) width;
      program = c.self.invariant.program;
      variables = c.requires.variables;
      widths = subst (λ (p : Prepared). c.args.widths.now ≡ bits_scope p.program c.args.variables.now) (sym c.self.view_is) c.requires.widths;
      bare_widths = c.self.invariant.bare_scope;
    }
