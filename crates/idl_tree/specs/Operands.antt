-- The parts that stand right below a node, in the order of the text, and the same node over other parts. A
-- walk, a copy or a count that treats all forms alike is written over these, and not form by form.
use Rattle.std.specs.Prelude.{◌≡◌, ℕ, suc, sum, List, [], ◌∷◌, ◌++◌, map, length, Option, None, Some}
use Rattle.std.proofs.Common.{refl, ap, ◌∙◌, arith}
use Rattle.idl_tree.specs.declared.expressions.Expr.{Expr}
use Rattle.idl_tree.specs.declared.expressions.Expr.TheOpen.{Expr-F}
use Rattle.idl_tree.specs.declared.expressions.Expr.TheViews.{out-Expr, roll-Expr, out-roll-Expr, roll-out-Expr}
use Rattle.idl_tree.specs.declared.expressions.Expr.TheFolds.{fold-Expr}
use Rattle.idl_tree.specs.declared.statements.Target.{Target}
use Rattle.idl_tree.specs.declared.statements.Target.TheVariants as target
use Rattle.idl_tree.specs.declared.statements.Stmt.{Stmt}
use Rattle.idl_tree.specs.declared.statements.Stmt.TheOpen.{Stmt-F}
use Rattle.idl_tree.specs.declared.statements.Stmt.TheViews.{out-Stmt, roll-Stmt, out-roll-Stmt, roll-out-Stmt}

-- ---- expressions

-- the operands of one layer
abbrev pub layer_operands : {A : Type 0} → Expr-F A → List A
layer_operands (Expr-F.Unary sign a) = a ∷ []
layer_operands (Expr-F.Binary sign a b) = a ∷ b ∷ []
layer_operands (Expr-F.WideLeft a by) = a ∷ []
layer_operands (Expr-F.Choice test taken other) = test ∷ taken ∷ other ∷ []
layer_operands (Expr-F.Join es) = es
layer_operands (Expr-F.Repeat times a) = a ∷ []
layer_operands (Expr-F.Index a at) = a ∷ at ∷ []
layer_operands (Expr-F.Slice a high low) = a ∷ []
layer_operands (Expr-F.Call name es) = es
layer_operands (Expr-F.Signed a) = a ∷ []
layer_operands (Expr-F.Resize width a) = a ∷ []
layer_operands (Expr-F.Register a) = a ∷ []
layer_operands (Expr-F.SoftRead a) = a ∷ []
layer_operands (Expr-F.ReadMemory bits at) = at ∷ []
layer_operands _ = []

-- one layer over other operands; over another number of them it stays as it is
abbrev pub layer_over : {A : Type 0} → Expr-F A → List A → Expr-F A
layer_over (Expr-F.Unary sign a) (x ∷ []) = Expr-F.Unary sign x
layer_over (Expr-F.Binary sign a b) (x ∷ y ∷ []) = Expr-F.Binary sign x y
layer_over (Expr-F.WideLeft a by) (x ∷ []) = Expr-F.WideLeft x by
layer_over (Expr-F.Choice test taken other) (x ∷ y ∷ z ∷ []) = Expr-F.Choice x y z
layer_over (Expr-F.Join es) xs = Expr-F.Join xs
layer_over (Expr-F.Repeat times a) (x ∷ []) = Expr-F.Repeat times x
layer_over (Expr-F.Index a at) (x ∷ y ∷ []) = Expr-F.Index x y
layer_over (Expr-F.Slice a high low) (x ∷ []) = Expr-F.Slice x high low
layer_over (Expr-F.Call name es) xs = Expr-F.Call name xs
layer_over (Expr-F.Signed a) (x ∷ []) = Expr-F.Signed x
layer_over (Expr-F.Resize width a) (x ∷ []) = Expr-F.Resize width x
layer_over (Expr-F.Register a) (x ∷ []) = Expr-F.Register x
layer_over (Expr-F.SoftRead a) (x ∷ []) = Expr-F.SoftRead x
layer_over (Expr-F.ReadMemory bits at) (x ∷ []) = Expr-F.ReadMemory bits x
layer_over layer _ = layer

-- the operands of an expression; a call's are its arguments
unfoldable pub operands : Expr → List Expr
operands e = layer_operands (out-Expr e)

-- the same expression over other operands
unfoldable pub rebuild : Expr → List Expr → Expr
rebuild e es = roll-Expr (layer_over (out-Expr e) es)

own_layer : {A : Type 0} (layer : Expr-F A) → layer_over layer (layer_operands layer) ≡ layer
own_layer (Expr-F.Unary sign a) = refl
own_layer (Expr-F.Binary sign a b) = refl
own_layer (Expr-F.WideLeft a by) = refl
own_layer (Expr-F.Choice test taken other) = refl
own_layer (Expr-F.Repeat times a) = refl
own_layer (Expr-F.Index a at) = refl
own_layer (Expr-F.Slice a high low) = refl
own_layer (Expr-F.Signed a) = refl
own_layer (Expr-F.Resize width a) = refl
own_layer (Expr-F.Register a) = refl
own_layer (Expr-F.SoftRead a) = refl
own_layer (Expr-F.ReadMemory bits at) = refl
own_layer _ = refl

-- a fact of a list that has as many parts
at_one : {A : Type 0} (P : List A → Type 0) (xs : List A) → length xs ≡ 1 → ((x : A) → P (x ∷ [])) → P xs
at_one P [] h at = absurd (omega arith)
at_one P (x ∷ []) h at = at x
at_one P (x ∷ y ∷ xs) h at = absurd (omega arith)

at_two : {A : Type 0} (P : List A → Type 0) (xs : List A) → length xs ≡ 2 → ((x y : A) → P (x ∷ y ∷ [])) → P xs
at_two P [] h at = absurd (omega arith)
at_two P (x ∷ []) h at = absurd (omega arith)
at_two P (x ∷ y ∷ []) h at = at x y
at_two P (x ∷ y ∷ z ∷ xs) h at = absurd (omega arith)

at_three : {A : Type 0} (P : List A → Type 0) (xs : List A) → length xs ≡ 3 → ((x y z : A) → P (x ∷ y ∷ z ∷ [])) → P xs
at_three P [] h at = absurd (omega arith)
at_three P (x ∷ []) h at = absurd (omega arith)
at_three P (x ∷ y ∷ []) h at = absurd (omega arith)
at_three P (x ∷ y ∷ z ∷ []) h at = at x y z
at_three P (x ∷ y ∷ z ∷ w ∷ xs) h at = absurd (omega arith)

none : {A : Type 0} (xs : List A) → length xs ≡ 0 → [] ≡ xs
none [] h = refl
none (x ∷ xs) h = absurd (omega arith)

module _ {A : Type 0} where
  given_layer : (layer : Expr-F A) (xs : List A) → length xs ≡ length (layer_operands layer) → layer_operands (layer_over layer xs) ≡ xs
  given_layer (Expr-F.Unary sign a) xs h = at_one (λ ys. layer_operands (layer_over (Expr-F.Unary sign a) ys) ≡ ys) xs h (λ x. refl)
  given_layer (Expr-F.Binary sign a b) xs h = at_two (λ ys. layer_operands (layer_over (Expr-F.Binary sign a b) ys) ≡ ys) xs h (λ x y. refl)
  given_layer (Expr-F.WideLeft a by) xs h = at_one (λ ys. layer_operands (layer_over (Expr-F.WideLeft a by) ys) ≡ ys) xs h (λ x. refl)
  given_layer (Expr-F.Choice test taken other) xs h = at_three (λ ys. layer_operands (layer_over (Expr-F.Choice test taken other) ys) ≡ ys) xs h (λ x y z. refl)
  given_layer (Expr-F.Join es) xs h = refl
  given_layer (Expr-F.Repeat times a) xs h = at_one (λ ys. layer_operands (layer_over (Expr-F.Repeat times a) ys) ≡ ys) xs h (λ x. refl)
  given_layer (Expr-F.Index a at) xs h = at_two (λ ys. layer_operands (layer_over (Expr-F.Index a at) ys) ≡ ys) xs h (λ x y. refl)
  given_layer (Expr-F.Slice a high low) xs h = at_one (λ ys. layer_operands (layer_over (Expr-F.Slice a high low) ys) ≡ ys) xs h (λ x. refl)
  given_layer (Expr-F.Call name es) xs h = refl
  given_layer (Expr-F.Signed a) xs h = at_one (λ ys. layer_operands (layer_over (Expr-F.Signed a) ys) ≡ ys) xs h (λ x. refl)
  given_layer (Expr-F.Resize width a) xs h = at_one (λ ys. layer_operands (layer_over (Expr-F.Resize width a) ys) ≡ ys) xs h (λ x. refl)
  given_layer (Expr-F.Register a) xs h = at_one (λ ys. layer_operands (layer_over (Expr-F.Register a) ys) ≡ ys) xs h (λ x. refl)
  given_layer (Expr-F.SoftRead a) xs h = at_one (λ ys. layer_operands (layer_over (Expr-F.SoftRead a) ys) ≡ ys) xs h (λ x. refl)
  given_layer (Expr-F.ReadMemory bits at) xs h = at_one (λ ys. layer_operands (layer_over (Expr-F.ReadMemory bits at) ys) ≡ ys) xs h (λ x. refl)
  given_layer (Expr-F.Number n) xs h = none xs h
  given_layer (Expr-F.Sized width signed value) xs h = none xs h
  given_layer (Expr-F.Text text) xs h = none xs h
  given_layer (Expr-F.Flag flag) xs h = none xs h
  given_layer (Expr-F.Word name) xs h = none xs h
  given_layer (Expr-F.Member kind name) xs h = none xs h
  given_layer Expr-F.Pc xs h = none xs h
  given_layer Expr-F.Encoding xs h = none xs h
  given_layer (Expr-F.Field csr field) xs h = none xs h
  given_layer (Expr-F.NewField name) xs h = none xs h
  given_layer Expr-F.Mode xs h = none xs h
  given_layer (Expr-F.Implemented name) xs h = none xs h
  given_layer (Expr-F.ImplementedVersion extension text) xs h = none xs h

-- an expression over its own operands is itself
pub rebuild-operands : (e : Expr) → rebuild e (operands e) ≡ e
unfolding rebuild operands
rebuild-operands e = ap roll-Expr (own_layer (out-Expr e)) ∙ roll-out-Expr e

-- an expression over as many operands has these
pub operands-rebuild : (e : Expr) (es : List Expr) → length es ≡ length (operands e) → operands (rebuild e es) ≡ es
unfolding rebuild operands
operands-rebuild e es h = ap layer_operands (out-roll-Expr (layer_over (out-Expr e) es)) ∙ given_layer (out-Expr e) es h

-- ---- statements

-- the operand of a target
abbrev pub target_operands : Target → List Expr
target_operands (target.Bit name at) = at ∷ []
target_operands (target.Register at) = at ∷ []
target_operands _ = []

-- what stands right below a statement: expressions, that of a target before the value, then blocks
pub record Parts (A : Type 0) : Type 0 where
  pub values : List Expr
  pub blocks : List (List A)

abbrev pub values_alone : {A : Type 0} → List Expr → Parts A
values_alone es = record { values = es; blocks = [] }

abbrev pub branches : {A : Type 0} → List A → Option (List A) → List (List A)
branches taken None = taken ∷ []
branches taken (Some other) = taken ∷ other ∷ []

-- the parts of one layer
abbrev pub layer_parts : {A : Type 0} → Stmt-F A → Parts A
layer_parts (Stmt-F.Declare shape name value) = values_alone (value ∷ [])
layer_parts (Stmt-F.Assign to value) = values_alone (target_operands to ++ (value ∷ []))
layer_parts (Stmt-F.Block block) = record { values = []; blocks = block ∷ [] }
layer_parts (Stmt-F.Return value) = values_alone (value ∷ [])
layer_parts (Stmt-F.If test taken other) = record { values = test ∷ []; blocks = branches taken other }
layer_parts (Stmt-F.For name from to block) = record { values = []; blocks = block ∷ [] }
layer_parts (Stmt-F.Jump to) = values_alone (to ∷ [])
layer_parts (Stmt-F.Raise cause tval) = values_alone (cause ∷ tval ∷ [])
layer_parts (Stmt-F.WriteMemory bits at value) = values_alone (at ∷ value ∷ [])
layer_parts (Stmt-F.SoftWrite address value) = values_alone (address ∷ value ∷ [])
layer_parts (Stmt-F.Call name args) = values_alone args

-- an assignment over another operand of its target and another value
abbrev pub assign_over : {A : Type 0} → Target → Expr → List Expr → Stmt-F A
assign_over (target.Bit name at) value (x ∷ y ∷ []) = Stmt-F.Assign (target.Bit name x) y
assign_over (target.Register at) value (x ∷ y ∷ []) = Stmt-F.Assign (target.Register x) y
assign_over (target.Word name) value (y ∷ []) = Stmt-F.Assign (target.Word name) y
assign_over (target.Slice name high low) value (y ∷ []) = Stmt-F.Assign (target.Slice name high low) y
assign_over (target.Field csr field) value (y ∷ []) = Stmt-F.Assign (target.Field csr field) y
assign_over to value _ = Stmt-F.Assign to value

abbrev pub if_over : {A : Type 0} → Expr → List A → Option (List A) → Expr → List (List A) → Stmt-F A
if_over test taken None x (b ∷ []) = Stmt-F.If x b None
if_over test taken (Some other) x (b ∷ c ∷ []) = Stmt-F.If x b (Some c)
if_over test taken other _ _ = Stmt-F.If test taken other

-- one layer over other parts; over another number of values or blocks it stays as it is
abbrev pub statement_over : {A : Type 0} → Stmt-F A → List Expr → List (List A) → Stmt-F A
statement_over (Stmt-F.Declare shape name value) (x ∷ []) _ = Stmt-F.Declare shape name x
statement_over (Stmt-F.Assign to value) es _ = assign_over to value es
statement_over (Stmt-F.Block block) _ (b ∷ []) = Stmt-F.Block b
statement_over (Stmt-F.Return value) (x ∷ []) _ = Stmt-F.Return x
statement_over (Stmt-F.If test taken other) (x ∷ []) bs = if_over test taken other x bs
statement_over (Stmt-F.For name from to block) _ (b ∷ []) = Stmt-F.For name from to b
statement_over (Stmt-F.Jump to) (x ∷ []) _ = Stmt-F.Jump x
statement_over (Stmt-F.Raise cause tval) (x ∷ y ∷ []) _ = Stmt-F.Raise x y
statement_over (Stmt-F.WriteMemory bits at value) (x ∷ y ∷ []) _ = Stmt-F.WriteMemory bits x y
statement_over (Stmt-F.SoftWrite address value) (x ∷ y ∷ []) _ = Stmt-F.SoftWrite x y
statement_over (Stmt-F.Call name args) es _ = Stmt-F.Call name es
statement_over layer _ _ = layer

-- the parts of a statement
unfoldable pub parts : Stmt → Parts Stmt
parts s = layer_parts (out-Stmt s)

-- the same statement over other parts
unfoldable pub rebuild_statement : Stmt → Parts Stmt → Stmt
rebuild_statement s p = roll-Stmt (statement_over (out-Stmt s) p.values p.blocks)

-- as many values and as many blocks
pub record Fits {A : Type 0} (p q : Parts A) : Type 0 where
  pub values : length p.values ≡ length q.values
  pub blocks : length p.blocks ≡ length q.blocks

own_assign : {A : Type 0} (to : Target) (value : Expr) → assign_over {A = A} to value (target_operands to ++ (value ∷ [])) ≡ Stmt-F.Assign to value
own_assign (target.Bit name at) value = refl
own_assign (target.Register at) value = refl
own_assign (target.Word name) value = refl
own_assign (target.Slice name high low) value = refl
own_assign (target.Field csr field) value = refl

own_parts : {A : Type 0} (layer : Stmt-F A) → statement_over layer (layer_parts layer).values (layer_parts layer).blocks ≡ layer
own_parts (Stmt-F.Declare shape name value) = refl
own_parts (Stmt-F.Assign to value) = own_assign to value
own_parts (Stmt-F.Block block) = refl
own_parts (Stmt-F.Return value) = refl
own_parts (Stmt-F.If test taken None) = refl
own_parts (Stmt-F.If test taken (Some other)) = refl
own_parts (Stmt-F.For name from to block) = refl
own_parts (Stmt-F.Jump to) = refl
own_parts (Stmt-F.Raise cause tval) = refl
own_parts (Stmt-F.WriteMemory bits at value) = refl
own_parts (Stmt-F.SoftWrite address value) = refl
own_parts (Stmt-F.Call name args) = refl

-- a statement over its own parts is itself
pub rebuild_statement-parts : (s : Stmt) → rebuild_statement s (parts s) ≡ s
unfolding rebuild_statement parts
rebuild_statement-parts s = ap roll-Stmt (own_parts (out-Stmt s)) ∙ roll-out-Stmt s

module _ {A : Type 0} where
  blockless : (es : List Expr) (bs : List (List A)) → length bs ≡ 0 → values_alone es ≡ record { values = es; blocks = bs }
  blockless es bs h = ap (λ (cs : List (List A)). record { values = es; blocks = cs }) (none bs h)

  given_assign : (to : Target) (value : Expr) (es : List Expr) → length es ≡ length (target_operands to ++ (value ∷ [])) → layer_parts (assign_over {A = A} to value es) ≡ values_alone es
  given_assign (target.Bit name at) value es h = at_two (λ xs. layer_parts (assign_over {A = A} (target.Bit name at) value xs) ≡ values_alone xs) es h (λ x y. refl)
  given_assign (target.Register at) value es h = at_two (λ xs. layer_parts (assign_over {A = A} (target.Register at) value xs) ≡ values_alone xs) es h (λ x y. refl)
  given_assign (target.Word name) value es h = at_one (λ xs. layer_parts (assign_over {A = A} (target.Word name) value xs) ≡ values_alone xs) es h (λ y. refl)
  given_assign (target.Slice name high low) value es h = at_one (λ xs. layer_parts (assign_over {A = A} (target.Slice name high low) value xs) ≡ values_alone xs) es h (λ y. refl)
  given_assign (target.Field csr field) value es h = at_one (λ xs. layer_parts (assign_over {A = A} (target.Field csr field) value xs) ≡ values_alone xs) es h (λ y. refl)

  -- the layer's parts are those given
  abbrev Takes : Stmt-F A → List Expr → List (List A) → Type 0
  Takes layer es bs = layer_parts (statement_over layer es bs) ≡ record { values = es; blocks = bs }

  given_parts : (layer : Stmt-F A) (es : List Expr) (bs : List (List A)) → length es ≡ length (layer_parts layer).values → length bs ≡ length (layer_parts layer).blocks → Takes layer es bs
  given_parts (Stmt-F.Declare shape name value) es bs h k = at_one (λ xs. Takes (Stmt-F.Declare shape name value) xs bs) es h (λ x. blockless (x ∷ []) bs k)
  given_parts (Stmt-F.Assign to value) es bs h k = given_assign to value es h ∙ blockless es bs k
  given_parts (Stmt-F.Block block) es bs h k = at_one (λ cs. Takes (Stmt-F.Block block) es cs) bs k (λ b. ap (λ (xs : List Expr). record { values = xs; blocks = b ∷ [] }) (none es h))
  given_parts (Stmt-F.Return value) es bs h k = at_one (λ xs. Takes (Stmt-F.Return value) xs bs) es h (λ x. blockless (x ∷ []) bs k)
  given_parts (Stmt-F.If test taken None) es bs h k = at_one (λ xs. Takes (Stmt-F.If test taken None) xs bs) es h (λ x. at_one (λ cs. Takes (Stmt-F.If test taken None) (x ∷ []) cs) bs k (λ b. refl))
  given_parts (Stmt-F.If test taken (Some other)) es bs h k = at_one (λ xs. Takes (Stmt-F.If test taken (Some other)) xs bs) es h (λ x. at_two (λ cs. Takes (Stmt-F.If test taken (Some other)) (x ∷ []) cs) bs k (λ b c. refl))
  given_parts (Stmt-F.For name from to block) es bs h k = at_one (λ cs. Takes (Stmt-F.For name from to block) es cs) bs k (λ b. ap (λ (xs : List Expr). record { values = xs; blocks = b ∷ [] }) (none es h))
  given_parts (Stmt-F.Jump to) es bs h k = at_one (λ xs. Takes (Stmt-F.Jump to) xs bs) es h (λ x. blockless (x ∷ []) bs k)
  given_parts (Stmt-F.Raise cause tval) es bs h k = at_two (λ xs. Takes (Stmt-F.Raise cause tval) xs bs) es h (λ x y. blockless (x ∷ y ∷ []) bs k)
  given_parts (Stmt-F.WriteMemory bits at value) es bs h k = at_two (λ xs. Takes (Stmt-F.WriteMemory bits at value) xs bs) es h (λ x y. blockless (x ∷ y ∷ []) bs k)
  given_parts (Stmt-F.SoftWrite address value) es bs h k = at_two (λ xs. Takes (Stmt-F.SoftWrite address value) xs bs) es h (λ x y. blockless (x ∷ y ∷ []) bs k)
  given_parts (Stmt-F.Call name args) es bs h k = blockless es bs k

-- a statement over parts that fit has these
pub parts-rebuild_statement : (s : Stmt) (p : Parts Stmt) → Fits p (parts s) → parts (rebuild_statement s p) ≡ p
unfolding rebuild_statement parts
parts-rebuild_statement s p fits =
    ap layer_parts (out-roll-Stmt (statement_over (out-Stmt s) p.values p.blocks))
    ∙ given_parts (out-Stmt s) p.values p.blocks fits.values fits.blocks
