-- A row has one answer: the entry that it gives, or the first rule that it breaks.
use Rattle.std.proofs.Common.{◌≡◌, ℕ, ◌<◌, true, false, List, [], ◌∷◌, Option, Some, None, Result, Ok, Err, IsOk, inl, inr, ◌⊎◌, refl, sym, ap, subst, ◌∙◌, arith}
use Rattle.yaml_spec.specs.declared.tree.Tree.{Tree}
use Rattle.yaml_spec.specs.declared.tree.Mark.{Mark}
use Rattle.yaml_spec.specs.declared.tree.YamlFault.{YamlFault}
use Rattle.yaml_spec.specs.declared.tree.YamlFault.TheVariants as yaml
use Rattle.yaml_spec.specs.Spells.{Line}
use Rattle.yaml_spec.specs.Texts.{lines_of, Spelled}
use Rattle.yaml_spec.specs.Faults.{IsLeast, IsOutside, line_at}
use Rattle.yaml_spec.specs.Marks as marks
use Rattle.yaml_spec.proofs.Whole.{spells_one, least_none}
use Rattle.yaml_spec.proofs.Outside.{mark_again}
use Rattle.udb_yaml.specs.Answers.{HasMark}
use Rattle.udb_base.specs.declared.kinds.Kind.{Kind}
use Rattle.udb_base.specs.declared.rows.Row.{Row}
use Rattle.udb_schema.specs.declared.words.Word.{Word}
use Rattle.udb_schema.specs.declared.words.Schema.{Schema}
use Rattle.udb_schema.specs.declared.validating.SchemaFault.{SchemaFault}
use Rattle.udb_schema.specs.declared.validating.SchemaFault.TheVariants as unfit_by
use Rattle.udb_schema.specs.Meets.{meets}
use Rattle.udb_schema.specs.Faults.{FirstFault}
use Rattle.udb_schema.proofs.MeetLemmas.{one_refutes}
use Rattle.udb_schema.proofs.FirstFaults.{fault_unique}
use Rattle.udb_entry.specs.declared.answers.Entry.{Entry}
use Rattle.udb_entry.specs.declared.answers.Breach.{Breach}
use Rattle.udb_entry.specs.declared.answers.EntryFault.{EntryFault}
use Rattle.udb_entry.specs.declared.answers.EntryFault.TheVariants.{Memory, Broken}
use Rattle.entry_form.specs.Forms.{schema_of}
use Rattle.udb_entry.specs.Entries.{entry_of}
use Rattle.udb_entry.specs.First.{fault_line, word_text, breach, first_breach, FirstBroken, unspelled, unfit, wrong, Gives, fault_of, IsOrMemory, IsAnswer}
use Rattle.udb_entry.specs.Parts.{IsUnspelled, IsUnfit, IsExamined, IsKept}

-- ---- the line of a text that spells no tree

least_by : (ls : List Line) (n m : ℕ) → IsLeast ls n → IsLeast ls m → n < m → ⊥
least_by ls n m a b lt = let x = b.before n lt in a.spells_none x.0 x.1

nat_one : (n m : ℕ) → (n < m → ⊥) → (m < n → ⊥) → n ≡ m
nat_one n m a b = omega (arith, a, b)

least_one : (ls : List Line) (n m : ℕ) → IsLeast ls n → IsLeast ls m → n ≡ m
least_one ls n m a b = nat_one n m (least_by ls n m a b) (least_by ls m n b a)

line_same : (l k : Line) (ls : List Line) → ls ≡ l ∷ [] → ls ≡ k ∷ [] → l ≡ k
line_same l k ls a b = let e : l ∷ [] ≡ k ∷ [] = sym a ∙ b in cc

some_same : {X : Type 0} (x y : X) → Some x ≡ Some y → x ≡ y
some_same x y e = cc

sign_same : (l k : Line) (w v : Mark) → l ≡ k → IsOutside l w → IsOutside k v → w ≡ v
sign_same l k w v e a b = some_same w v (sym (mark_again l w a) ∙ (ap marks.line_mark e ∙ mark_again k v b))

mark_one : (ls : List Line) (n : ℕ) (a b : Option Mark) → HasMark ls n a → HasMark ls n b → a ≡ b
mark_one ls n None None h g = refl
mark_one ls n None (Some v) h g = absurd (h g.0 v g.1 g.2)
mark_one ls n (Some w) None h g = absurd (g h.0 w h.1 h.2)
mark_one ls n (Some w) (Some v) h g = ap Some (sign_same h.0 g.0 w v (line_same h.0 g.0 (line_at n ls) h.1 g.1) h.2 g.2)

-- ---- a row breaks one rule first

shown_same : (n m : ℕ) (a b : Option Mark) → n ≡ m → a ≡ b → breach 1 (fault_line n a ∷ []) ≡ breach 1 (fault_line m b ∷ [])
shown_same n m a b e f = ap (λ k. breach 1 (fault_line k a ∷ [])) e ∙ ap (λ o. breach 1 (fault_line m o ∷ [])) f

line_one : (row : Row) (b c : Breach) (n m : ℕ) (o p : Option Mark) → IsLeast (lines_of row.text) n → HasMark (lines_of row.text) n o → b ≡ breach 1 (fault_line n o ∷ []) → IsLeast (lines_of row.text) m → HasMark (lines_of row.text) m p → c ≡ breach 1 (fault_line m p ∷ []) → b ≡ c
line_one row b c n m o p l h e k g f =
    let same = least_one (lines_of row.text) n m l k in
    let mark = mark_one (lines_of row.text) m o p (subst (λ i. HasMark (lines_of row.text) i o) same h) g in
    e ∙ (shown_same n m o p same mark ∙ sym f)

place_same : (p q : List ℕ) (u v : Word) → p ≡ q → u ≡ v → breach 2 (p ∷ word_text u ∷ []) ≡ breach 2 (q ∷ word_text v ∷ [])
place_same p q u v e f = ap (λ r. breach 2 (r ∷ word_text u ∷ [])) e ∙ ap (λ w. breach 2 (q ∷ word_text w ∷ [])) f

place_one : (s : Schema) (t x : Tree) (b c : Breach) (p q : List ℕ) (u v : Word) → t ≡ x → FirstFault (s ∷ []) t p u → b ≡ breach 2 (p ∷ word_text u ∷ []) → FirstFault (s ∷ []) x q v → c ≡ breach 2 (q ∷ word_text v ∷ []) → b ≡ c
place_one s t x b c p q u v same h e g f =
    let one = fault_unique h q v (subst (λ y. FirstFault (s ∷ []) y q v) (sym same) g) in
    e ∙ (place_same p q u v one.0 one.1 ∙ sym f)

met_refuted : (s : Schema) (t x : Tree) (p : List ℕ) (u : Word) → t ≡ x → FirstFault (s ∷ []) t p u → meets s x ≡ true → ⊥
met_refuted s t x p u same h m = let e : false ≡ true = sym (one_refutes h) ∙ (ap (meets s) same ∙ m) in absurd (cc)

rule_one : (row : Row) (t x : Tree) (b c : Breach) → t ≡ x → first_breach row t ≡ Some b → first_breach row x ≡ Some c → b ≡ c
rule_one row t x b c same h g = some_same b c (sym h ∙ (ap (λ y. first_breach row y) same ∙ g))

pub broken_one : (row : Row) (b c : Breach) → FirstBroken row b → FirstBroken row c → b ≡ c
broken_one row b c (unspelled n o l h e) (unspelled m p k g f) = line_one row b c n m o p l h e k g f
broken_one row b c (unspelled n o l h e) (unfit x q v s g f) = absurd (least_none (lines_of row.text) n x l s)
broken_one row b c (unspelled n o l h e) (wrong x s m g) = absurd (least_none (lines_of row.text) n x l s)
broken_one row b c (unfit t p u r h e) (unspelled m o k g f) = absurd (least_none (lines_of row.text) m t k r)
broken_one row b c (unfit t p u r h e) (unfit x q v s g f) = place_one (schema_of row.kind) t x b c p q u v (spells_one (lines_of row.text) t x r s) h e g f
broken_one row b c (unfit t p u r h e) (wrong x s m g) = absurd (met_refuted (schema_of row.kind) t x p u (spells_one (lines_of row.text) t x r s) h m)
broken_one row b c (wrong t r m h) (unspelled n o k g f) = absurd (least_none (lines_of row.text) n t k r)
broken_one row b c (wrong t r m h) (unfit x q v s g f) = absurd (met_refuted (schema_of row.kind) x t q v (spells_one (lines_of row.text) x t s r) g m)
broken_one row b c (wrong t r m h) (wrong x s k g) = rule_one row t x b c (spells_one (lines_of row.text) t x r s) h g

-- ---- a row that gives an entry breaks none

kept_none : (row : Row) (t x : Tree) (b : Breach) → t ≡ x → first_breach row t ≡ None → first_breach row x ≡ Some b → ⊥
kept_none row t x b same h g = let e : None ≡ Some b = sym h ∙ (ap (λ y. first_breach row y) same ∙ g) in absurd (cc)

pub gives_unbroken : (row : Row) (e : Entry) (b : Breach) → Gives row e → FirstBroken row b → ⊥
gives_unbroken row e b gives (unspelled n o l h is) = least_none (lines_of row.text) n gives.tree l gives.spelled
gives_unbroken row e b gives (unfit x p u s h is) = met_refuted (schema_of row.kind) x gives.tree p u (spells_one (lines_of row.text) x gives.tree s gives.spelled) h gives.meets_schema
gives_unbroken row e b gives (wrong x s m h) = kept_none row gives.tree x b (spells_one (lines_of row.text) gives.tree x gives.spelled s) gives.unbroken h

pub gives_one : (row : Row) (e d : Entry) → Gives row e → Gives row d → e ≡ d
gives_one row e d g h = g.is ∙ (ap (entry_of row.kind) (spells_one (lines_of row.text) g.tree h.tree g.spelled h.spelled) ∙ sym h.is)

-- ---- answers

pub answer_given : (row : Row) (r : Result Entry EntryFault) (e : Entry) → IsAnswer row r → r ≡ Ok e → Gives row e
answer_given row r e a is = subst (IsAnswer row) is a

pub answer_only : (row : Row) (r : Result Entry EntryFault) (e : Entry) → IsAnswer row r → Gives row e → IsOrMemory (Ok e) r
answer_only row (Ok d) e a g = inl (ap Ok (gives_one row d e a g))
answer_only row (Err Memory) e a g = inr refl
answer_only row (Err (Broken rule shows)) e a g = absurd (gives_unbroken row e (breach rule shows) g a)

pub answer_broken : (row : Row) (r : Result Entry EntryFault) (b : Breach) → IsAnswer row r → r ≡ Err (fault_of b) → FirstBroken row b
answer_broken row r b a is = subst (IsAnswer row) is a

pub answer_broken_only : (row : Row) (r : Result Entry EntryFault) (b : Breach) → IsAnswer row r → FirstBroken row b → IsOrMemory (Err (fault_of b)) r
answer_broken_only row (Ok d) b a f = absurd (gives_unbroken row d b a f)
answer_broken_only row (Err Memory) b a f = inr refl
answer_broken_only row (Err (Broken n ls)) b a f = inl (ap (λ x. Err (fault_of x)) (broken_one row (breach n ls) b a f))

-- ---- parts of answers

abbrev BadAt : List ℕ → YamlFault → Type 0
BadAt text f = (n : ℕ) → f ≡ yaml.Bad n → IsLeast (lines_of text) n × HasMark (lines_of text) n None

abbrev OutsideAt : List ℕ → YamlFault → Type 0
OutsideAt text f = (n : ℕ) (w : Mark) → f ≡ yaml.Outside n w → IsLeast (lines_of text) n × HasMark (lines_of text) n (Some w)

pub unspelled_answer : (row : Row) (f : YamlFault) (e : EntryFault) → BadAt row.text f → OutsideAt row.text f → IsUnspelled f e → IsAnswer row (Err e)
unspelled_answer row f Memory bad out h = tt
unspelled_answer row yaml.Memory (Broken rule shows) bad out h = absurd h
unspelled_answer row (yaml.Bad n) (Broken rule shows) bad out h = let at = bad n refl in unspelled n None at.0 at.1 h
unspelled_answer row (yaml.Outside n w) (Broken rule shows) bad out h = let at = out n w refl in unspelled n (Some w) at.0 at.1 h

pub unfit_examined : (kind : Kind) (t : Tree) (f : SchemaFault) (e : EntryFault) → ((path : List ℕ) (w : Word) → f ≡ unfit_by.At path w → FirstFault (schema_of kind ∷ []) t path w) → IsUnfit f e → IsExamined kind t (Err e)
unfit_examined kind t f Memory at h = tt
unfit_examined kind t unfit_by.Memory (Broken rule shows) at h = absurd h
unfit_examined kind t (unfit_by.At path w) (Broken rule shows) at h = (path, w, at path w refl, h)

pub examined_answer : (row : Row) (t : Tree) (e : EntryFault) → IsExamined row.kind t (Err e) → Spelled row.text t → IsAnswer row (Err e)
examined_answer row t Memory h s = tt
examined_answer row t (Broken rule shows) h s = unfit t h.0 h.1 s h.2 h.3

pub kept_answer : (row : Row) (t : Tree) (r : Result Entry EntryFault) → IsKept row t r → meets (schema_of row.kind) t ≡ true → Spelled row.text t → IsAnswer row r
kept_answer row t (Ok e) h m s = record { tree = t; spelled = s; meets_schema = m; unbroken = h.0; is = h.1 }
kept_answer row t (Err Memory) h m s = tt
kept_answer row t (Err (Broken rule shows)) h m s = wrong t s m h

-- ---- the same of the calls of `read` and `examine`

pub spelled_at : (row : Row) (text : List ℕ) (t : Tree) (r : Result Entry EntryFault) → text ≡ row.text → Spelled text t → (Spelled row.text t → IsAnswer row r) → IsAnswer row r
spelled_at row text t r same s h = h (subst (λ z. Spelled z t) same s)

pub unspelled_at : (row : Row) (text : List ℕ) (r : Result Tree YamlFault) (f : YamlFault) (e : EntryFault) → text ≡ row.text → r ≡ Err f → ((n : ℕ) → r ≡ Err (yaml.Bad n) → IsLeast (lines_of text) n × HasMark (lines_of text) n None) → ((n : ℕ) (w : Mark) → r ≡ Err (yaml.Outside n w) → IsLeast (lines_of text) n × HasMark (lines_of text) n (Some w)) → IsUnspelled f e → IsAnswer row (Err e)
unspelled_at row text r f e same is bad out h =
    unspelled_answer row f e
    (λ n q. subst (λ z. IsLeast (lines_of z) n × HasMark (lines_of z) n None) same (bad n (is ∙ ap Err q)))
    (λ n w q. subst (λ z. IsLeast (lines_of z) n × HasMark (lines_of z) n (Some w)) same (out n w (is ∙ ap Err q))) h

pub is_ok_by : (r : Result (Unit {0}) SchemaFault) (u : Unit {0}) → r ≡ Ok u → IsOk r
is_ok_by (Ok x) u e = refl
is_ok_by (Err f) u e = absurd (cc)

pub fit_at : (kind : Kind) (t : Tree) (s : Schema) (r : Result (Unit {0}) SchemaFault) (u : Unit {0}) → s ≡ schema_of kind → r ≡ Ok u → (IsOk r → meets s t ≡ true) → meets (schema_of kind) t ≡ true
fit_at kind t s r u same is h = subst (λ z. meets z t ≡ true) same (h (is_ok_by r u is))

pub unfit_at : (kind : Kind) (t : Tree) (s : Schema) (r : Result (Unit {0}) SchemaFault) (f : SchemaFault) (e : EntryFault) → s ≡ schema_of kind → r ≡ Err f → ((path : List ℕ) (w : Word) → r ≡ Err (unfit_by.At path w) → (meets s t ≡ false) × FirstFault (s ∷ []) t path w) → IsUnfit f e → IsExamined kind t (Err e)
unfit_at kind t s r f e same is h g = unfit_examined kind t f e (λ path w q. subst (λ z. FirstFault (z ∷ []) t path w) same (h path w (is ∙ ap Err q)).1) g
