-- What is read part by part.
use Rattle.std.proofs.Common.{◌≡◌, ℕ, List, [], codes, Option, None, Some, Result, Ok, Err, IfOk, refl, sym, ap, subst, ◌∙◌}
use Rattle.idl_tree.specs.declared.programs.Body.{Body}
use Rattle.idl_grammar.specs.Faults.{Grammar, OfBody, OfFunctions}
use Rattle.idl_grammar.specs.StmtReader.{whole_body, whole_functions}
use Rattle.idl_grammar.proofs.Whole.{body_exact, functions_exact}
use Rattle.idl_token.specs.Rows.{IsBadAt}
use Rattle.idl_parse.specs.declared.faults.ParseFault.{ParseFault}
use Rattle.idl_parse.specs.declared.faults.ParseFault.TheVariants as parse
use Rattle.idl_parse.specs.Parse.{IsAnswer, Spells, IsUnexpectedAt, IsTooDeepAt}
use Rattle.idl_parse.proofs.Causes.{answer_one}
use Rattle.idl_tree.specs.declared.statements.Stmt.{Stmt}
use Rattle.idl_tree.specs.declared.programs.Function.{Function}
use Rattle.udb_entry.specs.declared.answers.Breach.{Breach}
use Rattle.udb_entry.specs.declared.answers.EntryFault.{EntryFault}
use Rattle.udb_entry.specs.declared.answers.EntryFault.TheVariants.{Memory, Broken}
use Rattle.udb_entry.specs.Bodies.{body_known, body_answer, functions_known, functions_answer, read_parts, body_of, functions_of}
use Rattle.udb_entry.specs.Rules.{unread, body_rule, declared_names, declared_in}
use Rattle.udb_entry.specs.First.{broken, or_else, first_of, functions_rules}
use Rattle.udb_entry.specs.Parts.{Reads, Matches, IsUnread}

-- a value that is made of what was read
pub gained : {A B : Type 0} (build : A → B) (b : Option Breach) (x v : A) (r : Result A EntryFault) → Reads b x r → r ≡ Ok v → (b ≡ None) × (build v ≡ build x)
gained build b x v r h is = let k = subst (Reads b x) is h in (k.0, ap build k.1)

same_fault : {A B : Type 0} (b : Option Breach) (x : A) (y : B) (e : EntryFault) → Reads b x (Err e) → Reads b y (Err e)
same_fault b x y Memory h = tt
same_fault b x y (Broken rule shows) h = h

-- a fault is one of whatever was to be made
pub failed : {A B : Type 0} (b : Option Breach) (x : A) (y : B) (r : Result A EntryFault) (e : EntryFault) → Reads b x r → r ≡ Err e → Reads b y (Err e)
failed b x y r e h is = same_fault b x y e (subst (Reads b x) is h)

-- ---- sources

module _ {A T : Type 0} (R : Grammar A) (view : T → A) (source : List ℕ) (a : Result A ParseFault) (one : (r : Result A ParseFault) → IsAnswer R 64 source r → a ≡ r) where
  pub matched : (r : Result T ParseFault) → IfOk r (λ x. Spells R 64 source (view x)) → ((at : ℕ) → r ≡ Err (parse.BadToken at) → IsBadAt source at) → ((at : ℕ) → r ≡ Err (parse.Unexpected at) → IsUnexpectedAt R source at) → ((at : ℕ) → r ≡ Err (parse.TooDeep at) → IsTooDeepAt R 64 source at) → Matches view a r
  matched (Ok x) found bad unexpected deep = one (Ok (view x)) found
  matched (Err parse.Memory) found bad unexpected deep = tt
  matched (Err (parse.BadToken at)) found bad unexpected deep = one (Err (parse.BadToken at)) (bad at refl)
  matched (Err (parse.Unexpected at)) found bad unexpected deep = one (Err (parse.Unexpected at)) (unexpected at refl)
  matched (Err (parse.TooDeep at)) found bad unexpected deep = one (Err (parse.TooDeep at)) (deep at refl)

pub body_one : (source : List ℕ) (r : Result (List Stmt) ParseFault) → IsAnswer OfBody 64 source r → body_answer source ≡ r
unfolding body_answer
body_one source r is = answer_one OfBody whole_body body_exact 64 source (body_known source).0 r (body_known source).1 is

pub functions_one : (source : List ℕ) (r : Result (List Function) ParseFault) → IsAnswer OfFunctions 64 source r → functions_answer source ≡ r
unfolding functions_answer
functions_one source r is = answer_one OfFunctions whole_functions functions_exact 64 source (functions_known source).0 r (functions_known source).1 is

-- ---- bodies and functions

unread_by : {A T B : Type 0} (view : T → A) (name : List ℕ) (a : Result A ParseFault) (e : ParseFault) (f : EntryFault) (y : B) → Matches view a (Err e) → IsUnread name e f → Reads (broken 9 (unread name a)) y (Err f)
unread_by view name a e Memory y m u = tt
unread_by view name a parse.Memory (Broken rule shows) y m u = absurd u
unread_by view name a (parse.BadToken at) (Broken rule shows) y m u = rw m (ap Some (sym u))
unread_by view name a (parse.Unexpected at) (Broken rule shows) y m u = rw m (ap Some (sym u))
unread_by view name a (parse.TooDeep at) (Broken rule shows) y m u = rw m (ap Some (sym u))

-- a body that can't be read
pub body_unread : {B : Type 0} (name source : List ℕ) (r : Result Body ParseFault) (e : ParseFault) (f : EntryFault) (y : B) → r ≡ Err e → Matches (λ (b : Body). b.statements) (body_answer source) r → IsUnread name e f → Reads (broken 9 (body_rule name source)) y (Err f)
body_unread name source r e f y is m u = unread_by (λ (b : Body). b.statements) name (body_answer source) e f y (subst (Matches (λ (b : Body). b.statements) (body_answer source)) is m) u

whole_body_is : (b : Body) (a : Result (List Stmt) ParseFault) → b.variables ≡ [] → a ≡ Ok b.statements → b ≡ record { variables = []; statements = read_parts a }
whole_body_is b a v e = rw e (ap (λ vs. record { variables = vs; statements = b.statements }) v)

body_kept : (name source : List ℕ) (b : Body) (a : Result (List Stmt) ParseFault) → a ≡ Ok b.statements → broken 9 (unread name a) ≡ None
body_kept name source b a e = rw e refl

-- a body that is read
pub body_read : (name source : List ℕ) (r : Result Body ParseFault) (b : Body) → r ≡ Ok b → IfOk r (λ (b : Body). b.variables ≡ []) → Matches (λ (b : Body). b.statements) (body_answer source) r → Reads (broken 9 (body_rule name source)) (body_of source) (Ok b)
body_read name source r b is bare m =
    let e = subst (Matches (λ (b : Body). b.statements) (body_answer source)) is m in
    (body_kept name source b (body_answer source) e, whole_body_is b (body_answer source) (subst (λ q. IfOk q (λ (b : Body). b.variables ≡ [])) is bare) e)

or_none : (b : Option Breach) → or_else b None ≡ b
or_none None = refl
or_none (Some b) = refl

functions_by : (a : Result (List Function) ParseFault) (fs : List Function) (r : Result (List Function) EntryFault) → a ≡ Ok fs → Reads (broken 4 (declared_names fs)) fs r → Reads (or_else (broken 4 (declared_in a)) (or_else (broken 9 (unread (codes "body") a)) None)) (read_parts a) r
functions_by a fs r e h = rw e (subst (λ b. Reads b fs r) (sym (or_none (broken 4 (declared_names fs)))) h)

-- functions that are read, with their names
pub functions_read : (source : List ℕ) (answer : Result (List Function) ParseFault) (fs : List Function) (r : Result (List Function) EntryFault) → answer ≡ Ok fs → Matches (λ x. x) (functions_answer source) answer → Reads (broken 4 (declared_names fs)) fs r → Reads (first_of (functions_rules source)) (functions_of source) r
functions_read source answer fs r is m h = functions_by (functions_answer source) fs r (subst (Matches (λ x. x) (functions_answer source)) is m) h

functions_lost : {B : Type 0} (a : Result (List Function) ParseFault) (e : ParseFault) (f : EntryFault) (y : B) → Matches (λ x. x) a (Err e) → IsUnread (codes "body") e f → Reads (or_else (broken 4 (declared_in a)) (or_else (broken 9 (unread (codes "body") a)) None)) y (Err f)
functions_lost a e Memory y m u = tt
functions_lost a parse.Memory (Broken rule shows) y m u = absurd u
functions_lost a (parse.BadToken at) (Broken rule shows) y m u = rw m (ap Some (sym u))
functions_lost a (parse.Unexpected at) (Broken rule shows) y m u = rw m (ap Some (sym u))
functions_lost a (parse.TooDeep at) (Broken rule shows) y m u = rw m (ap Some (sym u))

-- functions that can't be read
pub functions_unread : {B : Type 0} (source : List ℕ) (answer : Result (List Function) ParseFault) (e : ParseFault) (f : EntryFault) (y : B) → answer ≡ Err e → Matches (λ x. x) (functions_answer source) answer → IsUnread (codes "body") e f → Reads (first_of (functions_rules source)) y (Err f)
functions_unread source answer e f y is m u = functions_lost (functions_answer source) e f y (subst (Matches (λ x. x) (functions_answer source)) is m) u
