-- Operators, both sides of `? :`, and `&&` that stops early.
use Rattle.std.proofs.Common.{◌≡◌, ℕ, true, false, [], ◌∷◌, None, Some, refl}
use Rattle.std.specs.Prelude.{codes, replicate}
use Rattle.udb_base.specs.declared.conditions.Cond.TheVariants as c
use Rattle.udb_base.specs.declared.conditions.Value.TheVariants as given
use Rattle.udb_base.specs.declared.spaces.Domain.TheVariants as d
use Rattle.udb_base.specs.declared.spaces.Space.{Space}
use Rattle.udb_base.specs.declared.spaces.Full.{Full}
use Rattle.udb_spec.specs.CondLaws.{holds-Always}
use Rattle.idl_tree.specs.declared.widths.Width.TheVariants as wd
use Rattle.idl_tree.specs.declared.widths.EnumKind.TheVariants.{ExceptionCode}
use Rattle.idl_tree.specs.declared.widths.Shape.TheVariants as sh
use Rattle.idl_tree.specs.declared.expressions.Binary.TheVariants as b
use Rattle.idl_tree.specs.declared.expressions.Expr.{Expr}
use Rattle.idl_tree.specs.declared.expressions.Expr.TheVariants as ex
use Rattle.idl_tree.specs.declared.statements.Stmt.{Stmt}
use Rattle.idl_tree.specs.declared.statements.Stmt.TheVariants as st
use Rattle.idl_tree.specs.declared.statements.Target.TheVariants as target
use Rattle.idl_tree.specs.declared.programs.Function.{Function}
use Rattle.idl_tree.specs.declared.programs.Program.{Program}
use Rattle.idl_bits.specs.Number.{number, pattern_of, number_beside}
use Rattle.idl_bits.specs.Operators.{sum_of, wide_sum_of, quotient_of, repeat_of, copies, bit_of, is_equal}
use Rattle.idl_width.specs.Numbers.{larger}
use Rattle.idl_width.specs.NumberLaws.{width_numbers}
use Rattle.idl_spec.specs.Values.{bits, plain, least_width, member_number}
use Rattle.idl_spec.specs.Harts.{State, done, raised}
use Rattle.idl_spec.specs.ShapeLaws.{shapes}
use Rattle.idl_spec.specs.Settings.{Setting}
use Rattle.idl_spec.specs.Mean.{mean_expr}
use Rattle.idl_spec.specs.MeanLaws.{meanings}
use Rattle.idl_spec.specs.Programs.{blank_state, bare, mean, as_operation, loud_setting}

-- an extension I, and a parameter MXLEN of 32 or 64 that is 32
abbrev space : Space
space = record {
  extensions = [];
  params = record { name = codes "MXLEN"; domain = d.Numbers (32 ∷ 64 ∷ []); defined = c.Always; needs = c.Always } ∷ [];
}

abbrev full : Full
full = record { extensions = []; params = given.Number 32 ∷ [] }

abbrev empty : Program
empty = record { functions = []; csrs = [] }

setting : Setting
setting = bare space full empty None

-- 8'd255 and 8'sd255
abbrev unsigned : ℕ → ℕ → Expr
unsigned width n = ex.Sized (wd.Number width) false n

abbrev signed : ℕ → ℕ → Expr
signed width n = ex.Sized (wd.Number width) true n

abbrev mxlen_word : Expr
mxlen_word = ex.Word (codes "MXLEN")

-- 8'd255 + 8'd1
wraps : mean_expr setting (ex.Binary b.Add (unsigned 8 255) (unsigned 8 1)) [] blank_state ≡ done (bits (plain 8 0)) blank_state
unfolding sum_of number pattern_of
wraps = simp (meanings, width_numbers) refl

-- 8'd255 `+ 8'd1
widens : mean_expr setting (ex.Binary b.WideAdd (unsigned 8 255) (unsigned 8 1)) [] blank_state ≡ done (bits (plain 9 256)) blank_state
unfolding wide_sum_of number pattern_of
widens = simp (meanings, width_numbers) refl

-- 8'sd128 / 8'sd255, which overflows
overflows : mean_expr setting (ex.Binary b.Div (signed 8 128) (signed 8 255)) [] blank_state ≡ done (bits (record { width = 8; signed = true; pattern = 128 })) blank_state
unfolding quotient_of number pattern_of number_beside
overflows = simp (meanings, width_numbers) refl

-- 4'sd8 + 8'd0
extends : mean_expr setting (ex.Binary b.Add (signed 4 8) (unsigned 8 0)) [] blank_state ≡ done (bits (plain 8 248)) blank_state
unfolding sum_of number pattern_of
extends = simp (meanings, width_numbers) refl

-- {2{4'd5}}
repeats : mean_expr setting (ex.Repeat (wd.Number 2) (unsigned 4 5)) [] blank_state ≡ done (bits (plain 8 85)) blank_state
unfolding repeat_of copies
repeats = simp (meanings, width_numbers) refl

-- 8'd5[X[1]] where X[1] is 200
abbrev two_hundred : State
two_hundred = record blank_state { x = 0 ∷ 200 ∷ replicate 30 0 }

past_the_width : mean_expr setting (ex.Index (unsigned 8 5) (ex.Register (ex.Number 1))) [] two_hundred ≡ done (bits (plain 1 0)) two_hundred
unfolding bit_of least_width setting
past_the_width = simp (meanings, width_numbers) refl

-- MXLEN + MXLEN, at the 7 bits that hold 64
doubles : mean_expr setting (ex.Binary b.Add mxlen_word mxlen_word) [] blank_state ≡ done (bits (plain 7 64)) blank_state
unfolding sum_of number pattern_of setting least_width
doubles = simp (meanings, holds-Always) refl

-- ((MXLEN == 32) ? 4'd15 : 8'd0) + 4'd1, at the 8 bits of both sides
keeps_both_widths : mean_expr setting (ex.Binary b.Add (ex.Choice (ex.Binary b.Equal mxlen_word (ex.Number 32)) (unsigned 4 15) (unsigned 8 0)) (unsigned 4 1)) [] blank_state ≡ done (bits (plain 8 16)) blank_state
unfolding sum_of number pattern_of setting least_width is_equal number_beside larger
keeps_both_widths = simp (meanings, width_numbers, shapes, holds-Always) refl

-- function f { returns Boolean body { raise(ExceptionCode::Breakpoint, mode(), 0); return true; } }
abbrev f : Function
f = record {
  name = codes "f";
  result = Some sh.Boolean;
  arguments = [];
  body = record { variables = []; statements = st.Raise (ex.Member ExceptionCode (codes "Breakpoint")) (ex.Number 0) ∷ st.Return (ex.Flag true) ∷ [] };
}

abbrev with_f : Program
with_f = record { functions = f ∷ []; csrs = [] }

abbrev write_one : Stmt
write_one = st.Assign (target.Register (ex.Number 1)) (ex.Number 1)

-- if (f() && false) { X[1] = 1; } raises
raises : mean space full with_f as_operation (record { variables = []; statements = st.If (ex.Binary b.And (ex.Call (codes "f") []) (ex.Flag false)) (write_one ∷ []) None ∷ [] }) blank_state ≡ raised 3 0 blank_state
unfolding mean loud_setting member_number least_width number pattern_of
raises = simp meanings refl

-- if (false && f()) { X[1] = 1; } does nothing
stops_early : mean space full with_f as_operation (record { variables = []; statements = st.If (ex.Binary b.And (ex.Flag false) (ex.Call (codes "f") [])) (write_one ∷ []) None ∷ [] }) blank_state ≡ done None blank_state
unfolding mean loud_setting
stops_early = simp meanings refl
