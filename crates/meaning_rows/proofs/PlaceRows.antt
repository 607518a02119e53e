-- Test places with their contexts, quiet operands, and the words of a body.
use Rattle.std.proofs.Common.{◌≡◌, true, false, [], ◌∷◌, None, Some, refl}
use Rattle.std.specs.Prelude.{codes}
use Rattle.udb_base.specs.declared.conditions.Cond.{Cond}
use Rattle.udb_base.specs.declared.conditions.Cond.TheVariants as c
use Rattle.udb_base.specs.declared.conditions.Value.TheVariants as given
use Rattle.udb_base.specs.declared.conditions.Test.TheVariants as test
use Rattle.udb_base.specs.declared.spaces.Domain.TheVariants as d
use Rattle.udb_base.specs.declared.spaces.Space.{Space}
use Rattle.idl_tree.specs.declared.widths.Width.TheVariants as wd
use Rattle.idl_tree.specs.declared.widths.EnumKind.TheVariants.{ExceptionCode}
use Rattle.idl_tree.specs.declared.widths.Shape.TheVariants as sh
use Rattle.idl_tree.specs.declared.expressions.Binary.TheVariants as b
use Rattle.idl_tree.specs.declared.expressions.Unary.TheVariants as u
use Rattle.idl_tree.specs.declared.expressions.Expr.{Expr}
use Rattle.idl_tree.specs.declared.expressions.Expr.TheVariants as ex
use Rattle.idl_tree.specs.declared.statements.Stmt.{Stmt}
use Rattle.idl_tree.specs.declared.statements.Stmt.TheVariants as st
use Rattle.idl_tree.specs.declared.statements.Target.TheVariants as target
use Rattle.idl_tree.specs.declared.programs.Function.{Function}
use Rattle.idl_spec.specs.Formulas.{claims, of_formula}
use Rattle.idl_spec.specs.FormulaLaws.{all_claims}
use Rattle.idl_spec.specs.Deeds.{is_quiet, reached}
use Rattle.idl_spec.specs.DeedLaws.{deeds}
use Rattle.idl_spec.specs.TestPlaces.{place, test_places}
use Rattle.idl_spec.specs.TestPlaceLaws.{all_places}
use Rattle.idl_spec.specs.Words.{words}
use Rattle.idl_spec.specs.WordLaws.{all_words}

-- Boolean parameters A and B, a number N, a text T, and an extension M
abbrev space : Space
space = record {
  extensions = record { name = codes "M"; versions = []; needs = c.Always } ∷ [];
  params =
      record { name = codes "A"; domain = d.Flags; defined = c.Always; needs = c.Always }
      ∷ record { name = codes "B"; domain = d.Flags; defined = c.Always; needs = c.Always }
      ∷ record { name = codes "N"; domain = d.Numbers (1 ∷ 2 ∷ []); defined = c.Always; needs = c.Always }
      ∷ record { name = codes "T"; domain = d.Words (codes "x" ∷ codes "y" ∷ []); defined = c.Always; needs = c.Always } ∷ [];
}

abbrev flag_a : Expr
flag_a = ex.Word (codes "A")

abbrev flag_b : Expr
flag_b = ex.Word (codes "B")

-- X[1] == 0, which is no formula
abbrev open_test : Expr
open_test = ex.Binary b.Equal (ex.Register (ex.Number 1)) (ex.Number 0)

-- 2 > N is the formula N < 2
mirrored : claims space (ex.Binary b.Above (ex.Number 2) (ex.Word (codes "N"))) ≡ of_formula (c.Param (codes "N") test.Below (given.Number 2))
mirrored = simp all_claims refl

-- T != "x", and no formula of two number parameters
of_texts : claims space (ex.Binary b.NotEqual (ex.Word (codes "T")) (ex.Text (codes "x"))) ≡ of_formula (c.Param (codes "T") test.NotEqual (given.Word (codes "x")))
of_texts = simp all_claims refl

of_two : (claims space (ex.Binary b.Equal (ex.Word (codes "N")) (ex.Word (codes "N")))).formula ≡ None
of_two = simp all_claims refl

-- A && X[1] == 0 is none, but says A where it is true
half_known : claims space (ex.Binary b.And flag_a open_test) ≡ record {
  formula = None;
  when_true = c.All (c.Param (codes "A") test.Equal (given.Flag true) ∷ c.Always ∷ []);
  when_false = c.Always;
}
half_known = simp all_claims refl

abbrev a_holds : Cond
a_holds = c.Param (codes "A") test.Equal (given.Flag true)

-- X[2] = 1;
abbrev write : Stmt
write = st.Assign (target.Register (ex.Number 2)) (ex.Number 1)

-- if (A) { if (!B) { X[2] = 1; } } else { X[2] = B ? 1 : 2; }
nested : test_places space [] (st.If flag_a (st.If (ex.Unary u.Not flag_b) (write ∷ []) None ∷ [])
    (Some (st.Assign (target.Register (ex.Number 2)) (ex.Choice flag_b (ex.Number 1) (ex.Number 2)) ∷ [])) ∷ []) []
    ≡ place [] flag_a ∷ place (a_holds ∷ []) (ex.Unary u.Not flag_b) ∷ place (a_holds ∷ []) flag_b
    ∷ place (c.Not a_holds ∷ []) flag_b ∷ []
nested = simp (all_places, all_claims) refl

-- function f { returns Boolean body { raise(ExceptionCode::Breakpoint, mode(), 0); return true; } }
abbrev f : Function
f = record {
  name = codes "f";
  result = Some sh.Boolean;
  arguments = [];
  body = record { variables = []; statements = st.Raise (ex.Member ExceptionCode (codes "Breakpoint")) (ex.Number 0) ∷ st.Return (ex.Flag true) ∷ [] };
}

-- function g { returns Boolean body { return f(); } }
abbrev g : Function
g = record {
  name = codes "g";
  result = Some sh.Boolean;
  arguments = [];
  body = record { variables = []; statements = st.Return (ex.Call (codes "f") []) ∷ [] };
}

-- g() isn't quiet, since f raises
loud : is_quiet (f ∷ g ∷ []) (ex.Call (codes "g") []) ≡ false
unfolding is_quiet reached
loud = simp deeds refl

quiet : is_quiet (f ∷ g ∷ []) open_test ≡ true
unfolding is_quiet reached
quiet = simp deeds refl

-- the `false` of g() && false may stay
kept_literal : test_places space (f ∷ g ∷ []) (st.If (ex.Binary b.And (ex.Call (codes "g") []) (ex.Flag false)) (write ∷ []) None ∷ []) []
    ≡ place [] (ex.Binary b.And (ex.Call (codes "g") []) (ex.Flag false)) ∷ place [] (ex.Call (codes "g") [])
    ∷ record { context = c.Always ∷ []; test = ex.Flag false; literal = true } ∷ []
unfolding is_quiet reached
kept_literal = simp (all_places, all_claims, deeds) refl

-- Bits<N> v = CSR[A].sw_read() + B; names N and B, and the CSR A
named : words (st.Declare (sh.Bits false (wd.Word (codes "N"))) (codes "v") (ex.Binary b.Add (ex.SoftRead flag_a) flag_b) ∷ [])
    ≡ codes "N" ∷ codes "B" ∷ []
named = simp all_words refl
