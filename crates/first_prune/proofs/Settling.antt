-- What is shown of a body of the first path is settled: each of its tests is open where it stands.
use Rattle.std.proofs.Common.{◌≡◌, ◌++◌, ℕ, suc, Bool, true, false, not, List, [], ◌∷◌, map, refl, ap, sym, ◌∙◌, subst, Option, None, Some, inl, inr, append_assoc, append-nil}
use Rattle.std.specs.Prelude.{All, IfSome}
use Rattle.std.specs.Option.{option_map}
use Rattle.std.proofs.lemmas.List.Elements.{All-nil, All-cons, All-head, All-tail, All-append, All-contains}
use Rattle.udb_base.specs.declared.conditions.Cond.{Cond}
use Rattle.udb_base.specs.declared.conditions.Cond.TheVariants as c
use Rattle.udb_base.specs.declared.conditions.Value.{Value}
use Rattle.udb_base.specs.declared.conditions.Value.TheVariants as v
use Rattle.udb_base.specs.declared.spaces.Space.{Space}
use Rattle.udb_base.specs.declared.spaces.Full.{Full}
use Rattle.udb_base.specs.declared.refutations.Partial.{Partial}
use Rattle.udb_spec.specs.Conditions.{holds, value_of, same_bytes}
use Rattle.udb_spec.specs.CondLaws.{holds-Not}
use Rattle.udb_spec.specs.Spaces.{Completes}
use Rattle.idl_tree.specs.declared.widths.Width.TheVariants as w
use Rattle.idl_tree.specs.declared.expressions.Unary.TheVariants as u
use Rattle.idl_tree.specs.declared.expressions.Binary.TheVariants.{Add}
use Rattle.idl_tree.specs.declared.expressions.Expr.{Expr}
use Rattle.idl_tree.specs.declared.expressions.Expr.TheVariants as e
use Rattle.idl_tree.specs.declared.statements.Target.TheVariants as t
use Rattle.idl_tree.specs.declared.statements.Stmt.{Stmt}
use Rattle.idl_tree.specs.declared.statements.Stmt.TheVariants as s
use Rattle.idl_spec.specs.Formulas.{Claims, claims, of_formula}
use Rattle.idl_spec.specs.TestPlaces.{TestPlace, place, test_places, expr_places, stmt_places, other_places, if_places}
use Rattle.idl_spec.specs.TestPlaceLaws.{places-Number, places-Sized, places-Word, places-Unary, places-Binary, places-Register, tests-Assign, tests-Block, tests-If}
use Rattle.idl_spec.specs.Words.{words, expr_words, stmt_words}
use Rattle.idl_spec.specs.WordLaws.{words-width-Number, words-Number, words-Sized, words-Word, words-Unary, words-Binary, words-Register, words-stmt-Assign, words-stmt-Block, words-stmt-If}
use Rattle.entry_tree.specs.declared.ParamEntry.{ParamEntry}
use Rattle.entry_tree.specs.declared.Given.{Given}
use Rattle.first_spec.specs.Bundle.{IsValue, literal, register, plus_literal, plus_register, IsTest, switch, not_switch, IsParam, IsGiven, Rise, IsStatement, assign, block, when, either, AreStatements, none, more, is_switch_name}
use Rattle.manual_spec.specs.Settled.{HasOneValue, MeetsContext, IsAlways, IsDecided, IsOpen, NoLiteral, CompletesWith, SettledBody}
use Rattle.first_prune.specs.Known.{Known, look, known_of, completion_with}
use Rattle.first_prune.specs.Pruning.{prunes, pruned, pruned_one, pruned_if, known_truth, known_after, truth_under, truth-Word, truth-Unary, pruned-Assign, pruned-Block, pruned-If}
use Rattle.first_prune.proofs.Worlds.{chosen_true, chosen_false, same_so, same_itself, space_with, part_with, Agrees, Extends, made_completes, made_agrees}
use Rattle.first_prune.proofs.Asking.{turned, turned_back, Asks, asks}

-- ---- values have no words and no places

value_words : (x : Expr) → IsValue x → expr_words x ≡ []
value_words _ (literal k l) = rw (words-Sized (w.Number 32) false k, words-width-Number 32) refl
value_words _ (register n l) = rw (words-Register (e.Number n), words-Number n) refl
value_words _ (plus_literal n k l m) = rw (words-Binary Add (e.Register (e.Number n)) (e.Sized (w.Number 32) false k), words-Register (e.Number n), words-Number n, words-Sized (w.Number 32) false k, words-width-Number 32) refl
value_words _ (plus_register n m l k) = rw (words-Binary Add (e.Register (e.Number n)) (e.Register (e.Number m)), words-Register (e.Number n), words-Number n, words-Register (e.Number m), words-Number m) refl

value_places : (space : Space) (x : Expr) → IsValue x → (context : List Cond) → expr_places space [] x context ≡ []
value_places space _ (literal k l) context = rw (places-Sized space [] (w.Number 32) false k context) refl
value_places space _ (register n l) context = rw (places-Register space [] (e.Number n) context, places-Number space [] n context) refl
value_places space _ (plus_literal n k l m) context = rw (places-Binary space [] Add (e.Register (e.Number n)) (e.Sized (w.Number 32) false k) context, places-Register space [] (e.Number n) context, places-Number space [] n context, places-Sized space [] (w.Number 32) false k context) refl
value_places space _ (plus_register n m l k) context = rw (places-Binary space [] Add (e.Register (e.Number n)) (e.Register (e.Number m)) context, places-Register space [] (e.Number n) context, places-Number space [] n context, places-Register space [] (e.Number m) context, places-Number space [] m context) refl

assign_words : (n : ℕ) (x : Expr) → IsValue x → words (s.Assign (t.Register (e.Number n)) x ∷ []) ≡ []
assign_words n x v = rw (words-stmt-Assign (t.Register (e.Number n)) x, words-Number n, value_words x v) refl

assign_places : (space : Space) (n : ℕ) (x : Expr) → IsValue x → (context : List Cond) → test_places space [] (s.Assign (t.Register (e.Number n)) x ∷ []) context ≡ []
assign_places space n x v context = rw (tests-Assign space [] (t.Register (e.Number n)) x context, places-Number space [] n context, value_places space x v context) refl

-- ---- words and places of statements side by side

places-append : (space : Space) (a b : List Stmt) (context : List Cond) → test_places space [] (a ++ b) context ≡ test_places space [] a context ++ test_places space [] b context
places-append space [] b context = refl
places-append space (x ∷ xs) b context = ap (λ (ps : List TestPlace). stmt_places space [] x context ++ ps) (places-append space xs b context) ∙ sym (append_assoc (stmt_places space [] x context) (test_places space [] xs context) (test_places space [] b context))

words-append : (a b : List Stmt) → words (a ++ b) ≡ words a ++ words b
words-append [] b = refl
words-append (x ∷ xs) b = ap (λ (ws : List (List ℕ)). stmt_words x ++ ws) (words-append xs b) ∙ sym (append_assoc (stmt_words x) (words xs) (words b))

block_places : (space : Space) (xs : List Stmt) (context : List Cond) → test_places space [] (s.Block xs ∷ []) context ≡ test_places space [] xs context
block_places space xs context =
    append-nil (stmt_places space [] (s.Block xs) context)
    ∙ (tests-Block space [] xs context ∙ append-nil (test_places space [] xs context))

block_words : (xs : List Stmt) → words (s.Block xs ∷ []) ≡ words xs
block_words xs = append-nil (stmt_words (s.Block xs)) ∙ (words-stmt-Block xs ∙ append-nil (words xs))

if_places_are : (space : Space) (test : Expr) (taken : List Stmt) (other : Option (List Stmt)) (context : List Cond) → test_places space [] (s.If test taken other ∷ []) context ≡ if_places space [] test (map (stmt_places space []) taken) (option_map (map (stmt_places space [])) other) context
if_places_are space test taken other context = append-nil (stmt_places space [] (s.If test taken other) context) ∙ tests-If space [] test taken other context

-- the words of the other block
abbrev other_words : Option (List Stmt) → List (List ℕ)
other_words None = []
other_words (Some xs) = words xs

if_words_are : (test : Expr) (taken : List Stmt) (other : Option (List Stmt)) → words (s.If test taken other ∷ []) ≡ expr_words test ++ (words taken ++ other_words other)
if_words_are test taken None =
    append-nil (stmt_words (s.If test taken None))
    ∙ (words-stmt-If test taken None
    ∙ ap (λ (ws : List (List ℕ)). ws ++ (words taken ++ [])) (append-nil (expr_words test)))
if_words_are test taken (Some other) =
    append-nil (stmt_words (s.If test taken (Some other)))
    ∙ (words-stmt-If test taken (Some other)
    ∙ (ap (λ (ws : List (List ℕ)). ws ++ (words taken ++ (words other ++ []))) (append-nil (expr_words test))
    ∙ ap (λ (ws : List (List ℕ)). expr_words test ++ (words taken ++ ws)) (append-nil (words other))))

-- ---- settled statements in a context

-- a name that doesn't have one value
abbrev Free : Space → Partial → List ℕ → Type 0
Free space part name = HasOneValue space part name → ⊥

pub record Settles (space : Space) (part : Partial) (context : List Cond) (statements : List Stmt) : Type 0 where
  pub named : All (Free space part) (words statements)
  pub opened : All (IsOpen space (Completes space part)) (test_places space [] statements context)
  pub no_literal : All NoLiteral (test_places space [] statements context)

-- a completion that meets the context in which the condition has the truth value
record IsWorld (space : Space) (part : Partial) (context : List Cond) (x : Cond) (answer : Bool) : Type 0 where
  full : Full
  completes : Completes space part full
  meets : MeetsContext space full context
  says : holds space full x ≡ answer

undecided : (space : Space) (part : Partial) (context : List Cond) (x : Cond) → ((b : Bool) → IsWorld space part context x b) → IsDecided space (Completes space part) context x → ⊥
undecided space part context x worlds (inl h) = at (worlds false) h
  where
    at : (world : IsWorld space part context x false) → IsAlways space (Completes space part) context x true → ⊥
    at world h = differ (holds space world.full x) world.says (h world.full world.completes world.meets)
      where
        differ : (b : Bool) → b ≡ false → b ≡ true → ⊥
        differ b f g = cc
undecided space part context x worlds (inr h) = at (worlds true) h
  where
    at : (world : IsWorld space part context x true) → IsAlways space (Completes space part) context x false → ⊥
    at world h = differ (holds space world.full x) world.says (h world.full world.completes world.meets)
      where
        differ : (b : Bool) → b ≡ true → b ≡ false → ⊥
        differ b f g = cc

open_place : (space : Space) (part : Partial) (context : List Cond) (test : Expr) (x : Cond) → claims space test ≡ of_formula x → ((b : Bool) → IsWorld space part context x b) → IsOpen space (Completes space part) (place context test)
open_place space part context test x is worlds = λ l. subst (λ (k : Claims). IfSome k.formula (λ y. IsDecided space (Completes space part) context y → ⊥)) (sym is) (undecided space part context x worlds)

module _ (space : Space) (part : Partial) (context : List Cond) where
  settles_nil : Settles space part context []
  settles_nil = record { named = All-nil (Free space part); opened = All-nil (IsOpen space (Completes space part)); no_literal = All-nil NoLiteral }

  settles_append : (a b : List Stmt) → Settles space part context a → Settles space part context b → Settles space part context (a ++ b)
  settles_append a b h k = record {
    named = subst (All (Free space part)) (sym (words-append a b)) (All-append (Free space part) (words a) (words b) h.named k.named);
    opened = subst (All (IsOpen space (Completes space part))) (sym (places-append space a b context)) (All-append (IsOpen space (Completes space part)) (test_places space [] a context) (test_places space [] b context) h.opened k.opened);
    no_literal = subst (All NoLiteral) (sym (places-append space a b context)) (All-append NoLiteral (test_places space [] a context) (test_places space [] b context) h.no_literal k.no_literal);
  }

  settles_block : (xs : List Stmt) → Settles space part context xs → Settles space part context (s.Block xs ∷ [])
  settles_block xs h = record {
    named = subst (All (Free space part)) (sym (block_words xs)) h.named;
    opened = subst (All (IsOpen space (Completes space part))) (sym (block_places space xs context)) h.opened;
    no_literal = subst (All NoLiteral) (sym (block_places space xs context)) h.no_literal;
  }

  settles_assign : (n : ℕ) (x : Expr) → IsValue x → Settles space part context (s.Assign (t.Register (e.Number n)) x ∷ [])
  settles_assign n x v = record {
    named = subst (All (Free space part)) (sym (assign_words n x v)) (All-nil (Free space part));
    opened = subst (All (IsOpen space (Completes space part))) (sym (assign_places space n x v context)) (All-nil (IsOpen space (Completes space part)));
    no_literal = subst (All NoLiteral) (sym (assign_places space n x v context)) (All-nil NoLiteral);
  }

  -- a test by itself
  record SettlesTest (test : Expr) : Type 0 where
    free : All (Free space part) (expr_words test)
    opens : All (IsOpen space (Completes space part)) (place context test ∷ expr_places space [] test context)
    plain : All NoLiteral (place context test ∷ expr_places space [] test context)

abbrev SettlesAny : Space → Partial → List Cond → Option (List Stmt) → Type 0
SettlesAny space part context None = Unit {0}
SettlesAny space part context (Some xs) = Settles space part context xs

other_free : (space : Space) (part : Partial) (context : List Cond) (other : Option (List Stmt)) → SettlesAny space part context other → All (Free space part) (other_words other)
other_free space part context None h = All-nil (Free space part)
other_free space part context (Some xs) h = h.named

other_open : (space : Space) (part : Partial) (context : List Cond) (other : Option (List Stmt)) → SettlesAny space part context other → All (IsOpen space (Completes space part)) (other_places (option_map (map (stmt_places space [])) other) context)
other_open space part context None h = All-nil (IsOpen space (Completes space part))
other_open space part context (Some xs) h = h.opened

other_plain : (space : Space) (part : Partial) (context : List Cond) (other : Option (List Stmt)) → SettlesAny space part context other → All NoLiteral (other_places (option_map (map (stmt_places space [])) other) context)
other_plain space part context None h = All-nil NoLiteral
other_plain space part context (Some xs) h = h.no_literal

settles_if : (space : Space) (part : Partial) (context : List Cond) (test : Expr) (taken : List Stmt) (other : Option (List Stmt)) → SettlesTest space part context test → Settles space part (context ++ (claims space test).when_true ∷ []) taken → SettlesAny space part (context ++ (claims space test).when_false ∷ []) other → Settles space part context (s.If test taken other ∷ [])
settles_if space part context test taken other h k l =
    let inner : List Cond = context ++ (claims space test).when_true ∷ [] in
    let outer : List Cond = context ++ (claims space test).when_false ∷ [] in
    let rest : List TestPlace = other_places (option_map (map (stmt_places space [])) other) outer in
    record {
      named = subst (All (Free space part)) (sym (if_words_are test taken other))
          (All-append (Free space part) (expr_words test) (words taken ++ other_words other) h.free
          (All-append (Free space part) (words taken) (other_words other) k.named (other_free space part outer other l)));
      opened = subst (All (IsOpen space (Completes space part))) (sym (if_places_are space test taken other context))
          (All-append (IsOpen space (Completes space part)) (place context test ∷ expr_places space [] test context) (test_places space [] taken inner ++ rest) h.opens
          (All-append (IsOpen space (Completes space part)) (test_places space [] taken inner) rest k.opened (other_open space part outer other l)));
      no_literal = subst (All NoLiteral) (sym (if_places_are space test taken other context))
          (All-append NoLiteral (place context test ∷ expr_places space [] test context) (test_places space [] taken inner ++ rest) h.plain
          (All-append NoLiteral (test_places space [] taken inner) rest k.no_literal (other_plain space part outer other l)));
    }

-- ---- contexts and what is known in them

not_none : {A : Type 0} (o : Option A) (x : A) → o ≡ None → o ≡ Some x → ⊥
not_none o x h k = cc

-- what is known of a name that wasn't known leaves the rest
look_more : (known : Known) (name : List ℕ) (b : Bool) → look known name ≡ None → (other : List ℕ) (x : Bool) → look known other ≡ Some x → look ((name, b) ∷ known) other ≡ Some x
look_more known name b l other x h = at (same_bytes name other) refl
  where
    at : (same : Bool) → same_bytes name other ≡ same → look ((name, b) ∷ known) other ≡ Some x
    at true same = absurd (not_none (look known other) x (ap (look known) (sym (same_so name other same)) ∙ l) h)
    at false same = chosen_false (Some b) (look known other) (same_bytes name other) same ∙ h

look_newest : (known : Known) (name : List ℕ) (b : Bool) → look ((name, b) ∷ known) name ≡ Some b
look_newest known name b = chosen_true (Some b) (look known name) (same_bytes name name) (same_itself name)

agrees_less : (params : List ParamEntry) (full : Full) (known : Known) (name : List ℕ) (b : Bool) → look known name ≡ None → Agrees params full ((name, b) ∷ known) → Agrees params full known
agrees_less params full known name b l agree = record { agrees = λ other x h e. agree.agrees other x h (look_more known name b l other x e) }

none_before : (on : Bool) (o : Option Bool) → option_map (turned on) o ≡ None → o ≡ None
none_before on None h = refl
none_before on (Some b) h = absurd (cc)

none_under : (o : Option Bool) → truth_under u.Not o ≡ None → o ≡ None
none_under None h = refl
none_under (Some b) h = absurd (cc)

module _ (params : List ParamEntry) (is_params : All IsParam params) (givens : List Given) (is_givens : All (IsGiven params) givens) (rises : Rise (map (λ g. g.name) givens)) where
  -- all given values are known, and what is known makes the context true
  pub record Fits (known : Known) (context : List Cond) : Type 0 where
    pub keeps : Extends givens known
    pub meets : (full : Full) → Completes (space_with params) (part_with givens) full → Agrees params full known → MeetsContext (space_with params) full context

  extends_more : (known : Known) (name : List ℕ) (b : Bool) → look known name ≡ None → Extends givens known → Extends givens ((name, b) ∷ known)
  extends_more known name b l k = record { extends = λ other x h. look_more known name b l other x (k.extends other x h) }

  -- a completion in which an unknown name has a truth value
  record NameWorld (known : Known) (context : List Cond) (name : List ℕ) (b : Bool) : Type 0 where
    full : Full
    completes : Completes (space_with params) (part_with givens) full
    meets : MeetsContext (space_with params) full context
    has : value_of (space_with params) full name ≡ Some (v.Flag b)

  name_world : (known : Known) (context : List Cond) → Fits known context → (name : List ℕ) → is_switch_name params name ≡ true → look known name ≡ None → (b : Bool) → NameWorld known context name b
  name_world known context fits name is_name l b =
      let full : Full = completion_with ((name, b) ∷ known) params in
      let agree : Agrees params full ((name, b) ∷ known) = made_agrees params ((name, b) ∷ known) in
      let complete : Completes (space_with params) (part_with givens) full = made_completes params is_params givens is_givens rises ((name, b) ∷ known) (extends_more known name b l fits.keeps) in
      record {
        full = full;
        completes = complete;
        meets = fits.meets full complete (agrees_less params full known name b l agree);
        has = agree.agrees name b is_name (look_newest known name b);
      }

  test_world : (known : Known) (context : List Cond) → Fits known context → (test : Expr) (a : Asks params test) → look known a.name ≡ None → (b : Bool) → IsWorld (space_with params) (part_with givens) context a.formula b
  test_world known context fits test a l b =
      let world : NameWorld known context a.name (turned a.on b) = name_world known context fits a.name a.named l (turned a.on b) in
      record {
        full = world.full;
        completes = world.completes;
        meets = world.meets;
        says = a.says world.full (turned a.on b) world.has ∙ turned_back a.on b;
      }

  free_name : (known : Known) (context : List Cond) → Fits known context → (name : List ℕ) → is_switch_name params name ≡ true → look known name ≡ None → Free (space_with params) (part_with givens) name
  free_name known context fits name is_name l one =
      let yes : NameWorld known context name true = name_world known context fits name is_name l true in
      let no : NameWorld known context name false = name_world known context fits name is_name l false in
      differ one.0 (sym yes.has ∙ one.1 yes.full yes.completes) (sym no.has ∙ one.1 no.full no.completes)
    where
      differ : (x : Value) → Some (v.Flag true) ≡ Some x → Some (v.Flag false) ≡ Some x → ⊥
      differ x h k = cc

  unknown_name : (known : Known) (test : Expr) (a : Asks params test) → known_truth known test ≡ None → look known a.name ≡ None
  unknown_name known test a h = none_before a.on (look known a.name) (sym (a.truth known) ∙ h)

  no_flag : (context : List Cond) (test : Expr) → IsTest params test → NoLiteral (place context test)
  no_flag context _ (switch name h) = λ x is. absurd (cc)
  no_flag context _ (not_switch name h) = λ x is. absurd (cc)

  one_open : (known : Known) (context : List Cond) → Fits known context → (test : Expr) → IsTest params test → known_truth known test ≡ None → IsOpen (space_with params) (Completes (space_with params) (part_with givens)) (place context test)
  one_open known context fits test is_test h =
      let a : Asks params test = asks params is_params test is_test in
      open_place (space_with params) (part_with givens) context test a.formula a.claimed (test_world known context fits test a (unknown_name known test a h))

  settles_test : (known : Known) (context : List Cond) → Fits known context → (test : Expr) → IsTest params test → known_truth known test ≡ None → SettlesTest (space_with params) (part_with givens) context test
  settles_test known context fits _ (switch name h) l =
      let free : Free (space_with params) (part_with givens) name = free_name known context fits name h (sym (truth-Word known name) ∙ l) in
      let none_inside : expr_places (space_with params) [] (e.Word name) context ≡ [] = places-Word (space_with params) [] name context in
      record {
        free = subst (All (Free (space_with params) (part_with givens))) (sym (words-Word name)) (All-cons (Free (space_with params) (part_with givens)) name [] free (All-nil (Free (space_with params) (part_with givens))));
        opens = All-cons (IsOpen (space_with params) (Completes (space_with params) (part_with givens))) (place context (e.Word name)) (expr_places (space_with params) [] (e.Word name) context)
            (one_open known context fits (e.Word name) (switch name h) l)
            (subst (All (IsOpen (space_with params) (Completes (space_with params) (part_with givens)))) (sym none_inside) (All-nil (IsOpen (space_with params) (Completes (space_with params) (part_with givens)))));
        plain = All-cons NoLiteral (place context (e.Word name)) (expr_places (space_with params) [] (e.Word name) context)
            (no_flag context (e.Word name) (switch name h))
            (subst (All NoLiteral) (sym none_inside) (All-nil NoLiteral));
      }
  settles_test known context fits _ (not_switch name h) l =
      let test : Expr = e.Unary u.Not (e.Word name) in
      let word_unknown : known_truth known (e.Word name) ≡ None = none_under (known_truth known (e.Word name)) (sym (truth-Unary known u.Not (e.Word name)) ∙ l) in
      let unknown : look known name ≡ None = sym (truth-Word known name) ∙ word_unknown in
      let free : Free (space_with params) (part_with givens) name = free_name known context fits name h unknown in
      let inside : expr_places (space_with params) [] test context ≡ place context (e.Word name) ∷ [] =
      places-Unary (space_with params) [] u.Not (e.Word name) context
      ∙ ap (λ (ps : List TestPlace). place context (e.Word name) ∷ ps) (places-Word (space_with params) [] name context) in
      record {
        free = subst (All (Free (space_with params) (part_with givens))) (sym (words-Unary u.Not (e.Word name) ∙ (append-nil (expr_words (e.Word name)) ∙ words-Word name))) (All-cons (Free (space_with params) (part_with givens)) name [] free (All-nil (Free (space_with params) (part_with givens))));
        opens = All-cons (IsOpen (space_with params) (Completes (space_with params) (part_with givens))) (place context test) (expr_places (space_with params) [] test context)
            (one_open known context fits test (not_switch name h) l)
            (subst (All (IsOpen (space_with params) (Completes (space_with params) (part_with givens)))) (sym inside)
            (All-cons (IsOpen (space_with params) (Completes (space_with params) (part_with givens))) (place context (e.Word name)) [] (one_open known context fits (e.Word name) (switch name h) word_unknown) (All-nil (IsOpen (space_with params) (Completes (space_with params) (part_with givens))))));
        plain = All-cons NoLiteral (place context test) (expr_places (space_with params) [] test context)
            (no_flag context test (not_switch name h))
            (subst (All NoLiteral) (sym inside) (All-cons NoLiteral (place context (e.Word name)) [] (no_flag context (e.Word name) (switch name h)) (All-nil NoLiteral)));
      }

  -- under a test with a truth value
  fits_after : (known : Known) (context : List Cond) → Fits known context → (test : Expr) (a : Asks params test) → look known a.name ≡ None → (b : Bool) (x : Cond) → ((full : Full) → holds (space_with params) full a.formula ≡ b → holds (space_with params) full x ≡ true) → Fits (known_after known test b) (context ++ x ∷ [])
  fits_after known context fits test a l b x says =
      subst (λ (k : Known). Fits k (context ++ x ∷ []))
      (sym (a.after known (turned a.on b)) ∙ ap (known_after known test) (turned_back a.on b))
      (record {
        keeps = extends_more known a.name (turned a.on b) l fits.keeps;
        meets = λ full complete agree.
            All-append (λ y. holds (space_with params) full y ≡ true) context (x ∷ [])
            (fits.meets full complete (agrees_less params full known a.name (turned a.on b) l agree))
            (All-cons (λ y. holds (space_with params) full y ≡ true) x []
            (says full (a.says full (turned a.on b) (agree.agrees a.name (turned a.on b) a.named (look_newest known a.name (turned a.on b))) ∙ turned_back a.on b))
            (All-nil (λ y. holds (space_with params) full y ≡ true)));
      })

  fits_true : (known : Known) (context : List Cond) → Fits known context → (test : Expr) → IsTest params test → known_truth known test ≡ None → Fits (known_after known test true) (context ++ (claims (space_with params) test).when_true ∷ [])
  fits_true known context fits test is_test h =
      let a : Asks params test = asks params is_params test is_test in
      subst (λ (k : Claims). Fits (known_after known test true) (context ++ k.when_true ∷ [])) (sym a.claimed)
      (fits_after known context fits test a (unknown_name known test a h) true a.formula (λ full is. is))

  fits_false : (known : Known) (context : List Cond) → Fits known context → (test : Expr) → IsTest params test → known_truth known test ≡ None → Fits (known_after known test false) (context ++ (claims (space_with params) test).when_false ∷ [])
  fits_false known context fits test is_test h =
      let a : Asks params test = asks params is_params test is_test in
      subst (λ (k : Claims). Fits (known_after known test false) (context ++ k.when_false ∷ [])) (sym a.claimed)
      (fits_after known context fits test a (unknown_name known test a h) false (c.Not a.formula) (λ full is. holds-Not (space_with params) full a.formula ∙ ap not is))

  -- ---- what is shown

  abbrev SettlesIn : List Cond → List Stmt → Type 0
  SettlesIn context statements = Settles (space_with params) (part_with givens) context statements

  abbrev AllSettle : List Stmt → Type 0
  AllSettle xs = (known : Known) (context : List Cond) → Fits known context → SettlesIn context (pruned known xs)

  abbrev AnySettle : Option (List Stmt) → Type 0
  AnySettle None = Unit {0}
  AnySettle (Some xs) = AllSettle xs

  any_settle : (other : Option (List Stmt)) → AnySettle other → (known : Known) (context : List Cond) → Fits known context → SettlesAny (space_with params) (part_with givens) context (option_map (pruned known) other)
  any_settle None h known context fits = tt
  any_settle (Some xs) h known context fits = h known context fits

  settles_chosen : (o : Option Bool) (test : Expr) (taken : List Stmt) (other : Option (List Stmt)) → IsTest params test → AllSettle taken → AnySettle other → (known : Known) (context : List Cond) → Fits known context → known_truth known test ≡ o → SettlesIn context (pruned_if o known test (prunes taken) (option_map prunes other))
  settles_chosen (Some true) test taken other is_test h k known context fits l = settles_block (space_with params) (part_with givens) context (pruned known taken) (h known context fits)
  settles_chosen (Some false) test taken None is_test h k known context fits l = settles_nil (space_with params) (part_with givens) context
  settles_chosen (Some false) test taken (Some other) is_test h k known context fits l = settles_block (space_with params) (part_with givens) context (pruned known other) (k known context fits)
  settles_chosen None test taken None is_test h k known context fits l =
      settles_if (space_with params) (part_with givens) context test (pruned (known_after known test true) taken) None
      (settles_test known context fits test is_test l)
      (h (known_after known test true) (context ++ (claims (space_with params) test).when_true ∷ []) (fits_true known context fits test is_test l))
      tt
  settles_chosen None test taken (Some other) is_test h k known context fits l =
      settles_if (space_with params) (part_with givens) context test (pruned (known_after known test true) taken) (Some (pruned (known_after known test false) other))
      (settles_test known context fits test is_test l)
      (h (known_after known test true) (context ++ (claims (space_with params) test).when_true ∷ []) (fits_true known context fits test is_test l))
      (k (known_after known test false) (context ++ (claims (space_with params) test).when_false ∷ []) (fits_false known context fits test is_test l))

  settles_whole_if : (test : Expr) (taken : List Stmt) (other : Option (List Stmt)) → IsTest params test → AllSettle taken → AnySettle other → (known : Known) (context : List Cond) → Fits known context → SettlesIn context (pruned_one (s.If test taken other) known)
  settles_whole_if test taken other is_test h k known context fits =
      subst (SettlesIn context) (sym (pruned-If test taken other known)) (settles_chosen (known_truth known test) test taken other is_test h k known context fits refl)

  mutual
    one_settles : (depth : ℕ) (x : Stmt) → IsStatement params depth x → (known : Known) (context : List Cond) → Fits known context → SettlesIn context (pruned_one x known)
    one_settles depth _ (assign _ n x l m v) known context fits = subst (SettlesIn context) (sym (pruned-Assign (t.Register (e.Number n)) x known)) (settles_assign (space_with params) (part_with givens) context n x v)
    one_settles depth _ (block _ xs l are) known context fits = subst (SettlesIn context) (sym (pruned-Block xs known)) (settles_block (space_with params) (part_with givens) context (pruned known xs) (all_settle (suc depth) xs are known context fits))
    one_settles depth _ (when _ test taken l is_test are) known context fits = settles_whole_if test taken None is_test (all_settle (suc depth) taken are) tt known context fits
    one_settles depth _ (either _ test taken other l is_test are others) known context fits = settles_whole_if test taken (Some other) is_test (all_settle (suc depth) taken are) (all_settle (suc depth) other others) known context fits

    pub all_settle : (depth : ℕ) (xs : List Stmt) → AreStatements params depth xs → (known : Known) (context : List Cond) → Fits known context → SettlesIn context (pruned known xs)
    all_settle depth _ (none _) known context fits = settles_nil (space_with params) (part_with givens) context
    all_settle depth _ (more _ x xs is are) known context fits = settles_append (space_with params) (part_with givens) context (pruned_one x known) (pruned known xs) (one_settles depth x is known context fits) (all_settle depth xs are known context fits)

  -- the given values alone, in no context
  fits_first : Fits (known_of givens) []
  fits_first = record { keeps = record { extends = λ name b h. h }; meets = λ full complete agree. All-nil (λ y. holds (space_with params) full y ≡ true) }

  -- every completion has the entry, so that what is decided in those that have it is decided in all
  module _ (Has : Full → Type 0) (has : (full : Full) → Has full) where
    abbrev WithEntry : Full → Type 0
    WithEntry = CompletesWith (space_with params) (part_with givens) Has

    decided_in_all : (context : List Cond) (x : Cond) → IsDecided (space_with params) WithEntry context x → IsDecided (space_with params) (Completes (space_with params) (part_with givens)) context x
    decided_in_all context x (inl h) = inl (λ full complete meets. h full (complete, has full) meets)
    decided_in_all context x (inr h) = inr (λ full complete meets. h full (complete, has full) meets)

    open_formula : (context : List Cond) (formula : Option Cond) → IfSome formula (λ x. IsDecided (space_with params) (Completes (space_with params) (part_with givens)) context x → ⊥) → IfSome formula (λ x. IsDecided (space_with params) WithEntry context x → ⊥)
    open_formula context None h = h
    open_formula context (Some x) h = λ d. h (decided_in_all context x d)

    all_open : (ps : List TestPlace) → All (IsOpen (space_with params) (Completes (space_with params) (part_with givens))) ps → All (IsOpen (space_with params) WithEntry) ps
    all_open [] h = All-nil (IsOpen (space_with params) WithEntry)
    all_open (p ∷ ps) h =
        All-cons (IsOpen (space_with params) WithEntry) p ps
        (λ l. open_formula p.context (claims (space_with params) p.test).formula (All-head (IsOpen (space_with params) (Completes (space_with params) (part_with givens))) p ps h l))
        (all_open ps (All-tail (IsOpen (space_with params) (Completes (space_with params) (part_with givens))) p ps h))

    pub body_settles : (depth : ℕ) (xs : List Stmt) → AreStatements params depth xs → SettledBody (space_with params) (part_with givens) Has [] (pruned (known_of givens) xs)
    body_settles depth xs are =
        let h : SettlesIn [] (pruned (known_of givens) xs) = all_settle depth xs are (known_of givens) [] fits_first in
        record {
          parameters = λ k d l named one. All-contains (Free (space_with params) (part_with givens)) (words (pruned (known_of givens) xs)) _ h.named named one;
          tests = all_open (test_places (space_with params) [] (pruned (known_of givens) xs) []) h.opened;
          literals = h.no_literal;
        }
