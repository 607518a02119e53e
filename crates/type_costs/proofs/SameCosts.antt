-- Costs are the same as far as the bound where the prices that they depend on are.
use Rattle.std.proofs.Common.{◌≡◌, ◌<◌, ◌+◌, ◌*◌, length, get_or, drop, ℕ, Bool, true, false, List, [], ◌∷◌, ◌++◌, Option, None, Some, refl, sym, ap, ◌∙◌}
use Rattle.std.specs.Prelude.{sum_by, find, IfSome, if◌then◌else◌}
use Rattle.std.proofs.lemmas.List.{drop_more}
use Rattle.std.proofs.lemmas.List.Sums.{sum_by-cons}
use Rattle.udb_base.specs.declared.names.Name.{Name}
use Rattle.udb_base.specs.declared.spaces.Space.{Space}
use Rattle.udb_spec.specs.Conditions.{same_bytes}
use Rattle.idl_tree.specs.Each.{Each}
use Rattle.idl_tree.specs.ExprLaws.{induct-Expr}
use Rattle.idl_tree.specs.StmtLaws.{induct-Stmt}
use Rattle.idl_tree.specs.declared.widths.Width.{Width}
use Rattle.idl_tree.specs.declared.expressions.Expr.{Expr}
use Rattle.idl_tree.specs.declared.statements.Target.{Target}
use Rattle.idl_tree.specs.declared.statements.Target.TheVariants as t
use Rattle.idl_tree.specs.declared.statements.Stmt.{Stmt}
use Rattle.idl_tree.specs.declared.statements.Stmt.TheVariants as st
use Rattle.idl_tree.specs.declared.programs.Function.{Function}
use Rattle.idl_tree.specs.declared.programs.Program.{Program}
use Rattle.idl_spec.specs.Costs.{Prices, expr_cost, stmt_cost, cost_under, greatest_turns, function_prices}
use Rattle.type_costs.specs.Capped.{capped}
use Rattle.type_costs.specs.Prices.{price_among, target_cost, capped_prices, bare_prices}
use Rattle.type_costs.proofs.CappedSums.{capped-both, capped-right, capped-again}
use Rattle.type_costs.proofs.ExpressionCosts as e
use Rattle.type_costs.proofs.StatementCosts as s

both-same : {a c d f : ℕ} → a ≡ c → d ≡ f → capped (a + d) ≡ capped (c + f)
both-same {a} {c} {d} {f} h k = ap (λ n. capped (n + d)) h ∙ ap (λ n. capped (c + n)) k

more-same : (a c : ℕ) → capped a ≡ capped c → capped (1 + a) ≡ capped (1 + c)
more-same a c h = sym (capped-right 1 a) ∙ (ap (λ n. capped (1 + n)) h ∙ capped-right 1 c)

-- the sums over a list whose parts have the same costs
sums-same : {X : Type 0} (f g : X → ℕ) (xs : List X) → Each (λ x. capped (f x) ≡ capped (g x)) xs → capped (sum_by f xs) ≡ capped (sum_by g xs)
sums-same f g [] h = refl
sums-same f g (x ∷ xs) h =
    ap capped (sum_by-cons f x xs) ∙ sym (capped-both (f x) (sum_by f xs)) ∙ both-same h.0 (sums-same f g xs h.1) ∙ capped-both (g x) (sum_by g xs)
    ∙ sym (ap capped (sum_by-cons g x xs))

each-so : {X : Type 0} (P : X → Type 0) → ((x : X) → P x) → (xs : List X) → Each P xs
each-so P h [] = tt
each-so P h (x ∷ xs) = (h x, each-so P h xs)

price-capped : (fs : List (Name × ℕ)) (name : Name) → price_among (capped_prices fs) name ≡ capped (price_among fs name)
price-capped [] name = sym e.none-cost
price-capped (f ∷ fs) name = at (same_bytes f.0 name) (price-capped fs name)
  where
    at : (b : Bool) → price_among (capped_prices fs) name ≡ capped (price_among fs name)
        → elim (if b then Some (f.0, capped f.1) else find (λ p. same_bytes p.0 name) (capped_prices fs)) [ None ↦ 0 | Some p ↦ p.1 ]
        ≡ capped (elim (if b then Some f else find (λ p. same_bytes p.0 name) fs) [ None ↦ 0 | Some p ↦ p.1 ])
    at true h = refl
    at false h = h

price-same : (fs gs : List (Name × ℕ)) → capped_prices fs ≡ capped_prices gs → (name : Name) → capped (price_among fs name) ≡ capped (price_among gs name)
price-same fs gs h name = sym (price-capped fs name) ∙ (ap (λ ps. price_among ps name) h ∙ price-capped gs name)

-- prices that are the same as far as the bound
pub record SamePrices (q r : Prices) : Type 0 where
  pub space : q.space ≡ r.space
  pub program : q.program ≡ r.program
  pub variables : q.variables ≡ r.variables
  pub functions : capped_prices q.functions ≡ capped_prices r.functions
  pub soft : capped q.soft ≡ capped r.soft

module _ (q r : Prices) (same : SamePrices q r) where
  -- ---- expressions

  abbrev SameCost : Expr → Type 0
  SameCost x = capped (expr_cost q x) ≡ capped (expr_cost r x)

  called : (name : Name) → capped (1 + price_among q.functions name) ≡ capped (1 + price_among r.functions name)
  called name = more-same (price_among q.functions name) (price_among r.functions name) (price-same q.functions r.functions same.functions name)

  soft-too : capped (1 + q.soft) ≡ capped (1 + r.soft)
  soft-too = more-same q.soft r.soft same.soft

  pub expr-same : (x : Expr) → SameCost x
  expr-same = induct-Expr SameCost (record {
    number = λ n. e.cost-Number q n ∙ sym (e.cost-Number r n);
    sized = λ width signed n. e.cost-Sized q width signed n ∙ sym (e.cost-Sized r width signed n);
    text = λ x. e.cost-Text q x ∙ sym (e.cost-Text r x);
    flag = λ x. e.cost-Flag q x ∙ sym (e.cost-Flag r x);
    word = λ name. e.cost-Word q name ∙ sym (e.cost-Word r name);
    member = λ kind name. e.cost-Member q kind name ∙ sym (e.cost-Member r kind name);
    pc = e.cost-Pc q ∙ sym (e.cost-Pc r);
    encoding = e.cost-Encoding q ∙ sym (e.cost-Encoding r);
    field = λ csr f. e.cost-Field q csr f ∙ sym (e.cost-Field r csr f);
    new_field = λ name. e.cost-NewField q name ∙ sym (e.cost-NewField r name);
    mode = e.cost-Mode q ∙ sym (e.cost-Mode r);
    implemented = λ name. e.cost-Implemented q name ∙ sym (e.cost-Implemented r name);
    implemented_version = λ extension x. e.cost-ImplementedVersion q extension x ∙ sym (e.cost-ImplementedVersion r extension x);
    unary = λ sign a h. e.cost-Unary q sign a ∙ (ap (λ m. capped (1 + m)) h ∙ sym (e.cost-Unary r sign a));
    wide_left = λ a by h. e.cost-WideLeft q a by ∙ (ap (λ m. capped (1 + m)) h ∙ sym (e.cost-WideLeft r a by));
    repeat = λ times a h. e.cost-Repeat q times a ∙ (ap (λ m. capped (1 + m)) h ∙ sym (e.cost-Repeat r times a));
    slice = λ a high low h. e.cost-Slice q a high low ∙ (ap (λ m. capped (1 + m)) h ∙ sym (e.cost-Slice r a high low));
    signed = λ a h. e.cost-Signed q a ∙ (ap (λ m. capped (1 + m)) h ∙ sym (e.cost-Signed r a));
    resize = λ width a h. e.cost-Resize q width a ∙ (ap (λ m. capped (1 + m)) h ∙ sym (e.cost-Resize r width a));
    register = λ a h. e.cost-Register q a ∙ (ap (λ m. capped (1 + m)) h ∙ sym (e.cost-Register r a));
    read_memory = λ count a h. e.cost-ReadMemory q count a ∙ (ap (λ m. capped (1 + m)) h ∙ sym (e.cost-ReadMemory r count a));
    binary = λ sign a c h k. e.cost-Binary q sign a c ∙ (ap (λ m. capped (1 + m)) (both-same h k) ∙ sym (e.cost-Binary r sign a c));
    index = λ a c h k. e.cost-Index q a c ∙ (ap (λ m. capped (1 + m)) (both-same h k) ∙ sym (e.cost-Index r a c));
    choice = λ a c d h k l. e.cost-Choice q a c d ∙ (ap (λ m. capped (1 + m)) (both-same h (both-same k l)) ∙ sym (e.cost-Choice r a c d));
    join = λ es h. e.cost-Join q es ∙ (ap (λ m. capped (1 + m)) (sums-same (expr_cost q) (expr_cost r) es h) ∙ sym (e.cost-Join r es));
    call = λ name es h. e.cost-Call q name es ∙ (both-same (called name) (sums-same (expr_cost q) (expr_cost r) es h) ∙ sym (e.cost-Call r name es));
    soft_read = λ a h. e.cost-SoftRead q a ∙ (both-same soft-too h ∙ sym (e.cost-SoftRead r a));
  })

  exprs-same : (es : List Expr) → capped (sum_by (expr_cost q) es) ≡ capped (sum_by (expr_cost r) es)
  exprs-same es = sums-same (expr_cost q) (expr_cost r) es (each-so SameCost expr-same es)

  -- ---- statements

  target-same : (to : Target) → capped (target_cost q to) ≡ capped (target_cost r to)
  target-same (t.Word name) = s.target-Word q name ∙ sym (s.target-Word r name)
  target-same (t.Bit name a) = s.target-Bit q name a ∙ (ap (λ m. capped (1 + m)) (expr-same a) ∙ sym (s.target-Bit r name a))
  target-same (t.Slice name high low) = s.target-Slice q name high low ∙ sym (s.target-Slice r name high low)
  target-same (t.Register a) = s.target-Register q a ∙ (ap (λ m. capped (1 + m)) (expr-same a) ∙ sym (s.target-Register r a))
  target-same (t.Field csr field) = s.target-Field q csr field ∙ sym (s.target-Field r csr field)

  abbrev SameStmt : Stmt → Type 0
  SameStmt x = capped (stmt_cost q x) ≡ capped (stmt_cost r x)

  block-same : (ss : List Stmt) → Each SameStmt ss → capped (cost_under q ss) ≡ capped (cost_under r ss)
  block-same ss h = sums-same (stmt_cost q) (stmt_cost r) ss h

  turns-same : (from to : Width) → greatest_turns q.space q.program q.variables from to ≡ greatest_turns r.space r.program r.variables from to
  turns-same from to =
      ap (λ z. greatest_turns z q.program q.variables from to) same.space
      ∙ (ap (λ z. greatest_turns r.space z q.variables from to) same.program ∙ ap (λ z. greatest_turns r.space r.program z from to) same.variables)

  if-same : (x : Expr) (ss : List Stmt) (other : Option (List Stmt)) → Each SameStmt ss → IfSome other (Each SameStmt) → SameStmt (st.If x ss other)
  if-same x ss None h k = s.cost-If q x ss ∙ (ap (λ m. capped (1 + m)) (both-same (expr-same x) (block-same ss h)) ∙ sym (s.cost-If r x ss))
  if-same x ss (Some zs) h k =
      s.cost-Else q x ss zs ∙ (ap (λ m. capped (1 + m)) (both-same (expr-same x) (both-same (block-same ss h) (block-same zs k))) ∙ sym (s.cost-Else r x ss zs))

  pub stmt-same : (x : Stmt) → SameStmt x
  stmt-same = induct-Stmt SameStmt (record {
    declare = λ d name x. s.cost-Declare q d name x ∙ (ap (λ m. capped (1 + m)) (expr-same x) ∙ sym (s.cost-Declare r d name x));
    assign = λ to x. s.cost-Assign q to x ∙ (both-same (ap (λ m. capped (1 + m)) (target-same to)) (expr-same x) ∙ sym (s.cost-Assign r to x));
    block = λ ss h. s.cost-Block q ss ∙ (ap (λ m. capped (1 + m)) (block-same ss h) ∙ sym (s.cost-Block r ss));
    return = λ x. s.cost-Return q x ∙ (ap (λ m. capped (1 + m)) (expr-same x) ∙ sym (s.cost-Return r x));
    if = λ x ss other h k. if-same x ss other h k;
    for = λ name from to ss h. s.cost-For q name from to ss
        ∙ (ap (λ n. capped (1 + capped (n * capped (cost_under q ss)))) (turns-same from to)
        ∙ (ap (λ m. capped (1 + capped (greatest_turns r.space r.program r.variables from to * m))) (block-same ss h) ∙ sym (s.cost-For r name from to ss)));
    jump = λ x. s.cost-Jump q x ∙ (ap (λ m. capped (1 + m)) (expr-same x) ∙ sym (s.cost-Jump r x));
    raise = λ a x. s.cost-Raise q a x ∙ (ap (λ m. capped (1 + m)) (both-same (expr-same a) (expr-same x)) ∙ sym (s.cost-Raise r a x));
    write_memory = λ count a x. s.cost-WriteMemory q count a x ∙ (ap (λ m. capped (1 + m)) (both-same (expr-same a) (expr-same x)) ∙ sym (s.cost-WriteMemory r count a x));
    soft_write = λ a x. s.cost-SoftWrite q a x ∙ (both-same soft-too (both-same (expr-same a) (expr-same x)) ∙ sym (s.cost-SoftWrite r a x));
    call = λ name es. s.cost-Call q name es ∙ (both-same (called name) (exprs-same es) ∙ sym (s.cost-Call r name es));
  })

  pub under-same : (ss : List Stmt) → capped (cost_under q ss) ≡ capped (cost_under r ss)
  under-same ss = block-same ss (each-so SameStmt stmt-same ss)

-- ---- the prices of functions

capped-append : (fs gs : List (Name × ℕ)) → capped_prices (fs ++ gs) ≡ capped_prices fs ++ capped_prices gs
capped-append [] gs = refl
capped-append (f ∷ fs) gs = ap (λ ps. (f.0, capped f.1) ∷ ps) (capped-append fs gs)

-- one more price that is the same as far as the bound
pub more-prices : (fs gs : List (Name × ℕ)) (name : Name) (m n : ℕ) → capped_prices fs ≡ capped_prices gs → capped m ≡ capped n
    → capped_prices (fs ++ (name, m) ∷ []) ≡ capped_prices (gs ++ (name, n) ∷ [])
more-prices fs gs name m n h k =
    capped-append fs ((name, m) ∷ []) ∙ (ap (λ ps. ps ++ (name, capped m) ∷ []) h ∙ (ap (λ c. capped_prices gs ++ (name, c) ∷ []) k ∙ sym (capped-append gs ((name, n) ∷ []))))

pub bare-same : (space : Space) (program : Program) (fs gs : List (Name × ℕ)) (m n : ℕ) → capped_prices fs ≡ capped_prices gs → capped m ≡ capped n
    → SamePrices (bare_prices space program fs m) (bare_prices space program gs n)
bare-same space program fs gs m n h k = record { space = refl; program = refl; variables = refl; functions = h; soft = k }

pub prices-same : (space : Space) (program : Program) (m n : Name → ℕ) (fs gs : List (Name × ℕ)) (functions : List Function)
    → ((name : Name) → capped (m name) ≡ capped (n name)) → capped_prices fs ≡ capped_prices gs
    → capped_prices (function_prices space program m fs functions) ≡ capped_prices (function_prices space program n gs functions)
prices-same space program m n fs gs [] k h = h
prices-same space program m n fs gs (f ∷ more) k h =
    let one = cost_under (bare_prices space program fs (m f.name)) f.body.statements in
    let two = cost_under (bare_prices space program gs (n f.name)) f.body.statements in
    let here = under-same (bare_prices space program fs (m f.name)) (bare_prices space program gs (n f.name)) (bare-same space program fs gs (m f.name) (n f.name) h (k f.name)) f.body.statements in
    prices-same space program m n (fs ++ (f.name, one) ∷ []) (gs ++ (f.name, two) ∷ []) more k (more-prices fs gs f.name one two h here)

-- one more function
pub prices-next : (space : Space) (program : Program) (soft : Name → ℕ) (functions : List Function) (i : ℕ) (f : Function) (fs gs : List (Name × ℕ))
    → i < length functions → f ≡ get_or functions i f → gs ≡ fs ++ (f.name, capped (cost_under (bare_prices space program fs (soft f.name)) f.body.statements)) ∷ []
    → capped_prices (function_prices space program soft gs (drop (i + 1) functions)) ≡ capped_prices (function_prices space program soft fs (drop i functions))
prices-next space program soft functions i f fs gs lt is next =
    let rest = drop (i + 1) functions in
    let cost = cost_under (bare_prices space program fs (soft f.name)) f.body.statements in
    let item : drop i functions ≡ f ∷ rest = drop_more functions i f lt ∙ ap (λ g. g ∷ rest) (sym is) in
    prices-same space program soft soft gs (fs ++ (f.name, cost) ∷ []) rest (λ name. refl)
    (ap capped_prices next ∙ more-prices fs fs f.name (capped cost) cost refl (capped-again cost))
    ∙ sym (ap (λ all. capped_prices (function_prices space program soft fs all)) item)
