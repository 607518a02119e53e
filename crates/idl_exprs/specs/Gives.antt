-- What a function returned and where its cursor then stands is what reading gives, unless memory ran out.
use Rattle.std.specs.Prelude.{◌≡◌, ℕ, zero, suc, List, Result, Ok, Err}
use Rattle.idl_token.specs.Symbol.{Symbol}
use Rattle.idl_grammar.specs.Outcome.{Outcome, Reader, refuse}
use Rattle.idl_grammar.specs.WidthReader as wr
use Rattle.idl_grammar.specs.ExprReader as er
use Rattle.idl_token.specs.Seen.{symbols}
use Rattle.idl_exprs.specs.declared.cursor.Cursor.{Cursor}
use Rattle.idl_exprs.specs.declared.stop.Stop.{Stop}
use Rattle.idl_exprs.specs.declared.stop.Stop.TheVariants as stop

abbrev pub Fails : {Y : Type 0} → Outcome Y → Stop → List Symbol → Type 0
Fails read stop.Memory new = Unit {0}
Fails read stop.Fault new = read ≡ Err new

abbrev pub Gives : {X Y : Type 0} → (X → Y) → Outcome Y → Result X Stop → List Symbol → Type 0
Gives view read (Ok x) new = read ≡ Ok (view x, new)
Gives view read (Err e) new = Fails read e new

-- the tokens from the cursor on
abbrev pub ahead : Cursor → List Symbol
ahead c = symbols c.rest.now

-- from the one cursor to the other
abbrev pub Reads : {X Y : Type 0} → (X → Y) → Reader Y → Cursor → Result X Stop → Cursor → Type 0
Reads view p old result new = Gives view (p (ahead old)) result (ahead new)

-- ---- what is answered, as the grammar sees it

abbrev pub pair : {A B : Type 0} → A × B → A × B
pair x = (x.0, x.1)

abbrev pub triple : {A B C : Type 0} → A × B × C → A × B × C
triple x = (x.0, x.1, x.2)

-- ---- the grammar's readers over those within one level less

-- there are none within 0
unfoldable pub widths_below : ℕ → wr.Part → Reader wr.Found
widths_below zero = λ _. refuse
widths_below (suc n) = wr.width_part n

abbrev pub in_width : {A : Type 0} → (ℕ → (wr.Part → Reader wr.Found) → A) → ℕ → A
in_width p n = p n (widths_below n)

abbrev pub in_expr : {A : Type 0} → (ℕ → (er.Part → Reader er.Found) → A) → ℕ → A
in_expr p n = p n (er.expr_part n)
