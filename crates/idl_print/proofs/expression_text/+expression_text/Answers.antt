use Rattle.std.proofs.Common.{◌≡◌, ◌++◌, List, ℕ, OnOk, codes, sym, refl, subst, append_assoc}
use Rattle.idl_tree.specs.Print.{expr_form}
use Rattle.idl_tree.proofs.Printed.{expr_form-SoftRead}
use Rattle.idl_print.proofs.expression_text.+expression_text.Goals as goal

regroup : (out a x b : List ℕ) → ((out ++ a) ++ x) ++ b ≡ out ++ ((a ++ x) ++ b)
regroup out a x b = simp append_assoc

pub push_expression-returns-in-SoftRead : goal.push_expression-returns-in-SoftRead
push_expression-returns-in-SoftRead t c =
    let inner = c.get-in-SoftRead.result.now in
    let form : (expr_form c.args.e.now).1 ≡ (codes "CSR[" ++ (expr_form inner).1) ++ codes "].sw_read()" = rw (c.in-SoftRead.is, expr_form-SoftRead, c.get-in-SoftRead.ensures) refl in
    subst (λ (x : List ℕ). OnOk c.push_enclosed-in-SoftRead.result (c.push_enclosed-in-SoftRead.new.out ≡ c.args.out.now ++ x)) (sym form)
    (subst (λ (x : List ℕ). OnOk c.push_enclosed-in-SoftRead.result (c.push_enclosed-in-SoftRead.new.out ≡ x)) (regroup c.args.out.now (codes "CSR[") (expr_form inner).1 (codes "].sw_read()")) c.push_enclosed-in-SoftRead.ensures)
