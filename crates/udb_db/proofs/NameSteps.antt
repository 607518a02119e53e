-- The first name that doesn't fit, of a list of conditions and of an entry.
use Rattle.std.proofs.Common.{◌≡◌, ℕ, zero, suc, ◌<◌, Bool, true, false, IsTrue, List, [], ◌∷◌, ◌++◌, length, get_or, map, Option, Some, None, refl, sym, ap, subst, ◌∙◌, arith}
use Rattle.std.specs.List.{Contains}
use Rattle.std.specs.Option.{is_none}
use Rattle.std.proofs.lemmas.List.{map-append}
use Rattle.udb_base.specs.declared.conditions.Test.TheVariants.{Equal}
use Rattle.udb_base.specs.declared.conditions.Cond.{Cond}
use Rattle.udb_base.specs.declared.spaces.Space.{Space}
use Rattle.udb_spec.specs.Lawful.{fits}
use Rattle.udb_lawful.specs.Misfit.{has_extension, param_fits, unless, first_name, first_misfit}
use Rattle.udb_lawful.specs.MisfitLaws.{misfit-Ext, misfit-Param, misfit-none}
use Rattle.entry_tree.specs.declared.Given.{Given}
use Rattle.entry_tree.specs.declared.Member.{Member}
use Rattle.udb_entry.specs.declared.answers.Entry.{Entry}
use Rattle.udb_entry.specs.Rules.{Lines}
use Rattle.udb_entry.specs.Config.{present}
use Rattle.db_spec.specs.Entries.{given, conditions_of, DependsOnWidth, HasWidths}
use Rattle.db_spec.specs.Breaks.{HasUnknownName, named, no_width}
use Rattle.udb_db.specs.Phases.{first_unfit, KnowsNames, IsNamed, or_name, unknown_lines, IsLacking}

-- ---- one atom

unless_by : (b : Bool) (name : List ℕ) (o : Option (List ℕ)) → o ≡ unless b name → o ≡ unless (is_none o) name
unless_by true name o e = e ∙ sym (ap (λ x. unless (is_none x) name) e)
unless_by false name o e = e ∙ sym (ap (λ x. unless (is_none x) name) e)

pub given_unless : (space : Space) (g : Given) → first_misfit space (given g) ≡ unless (fits space (given g)) g.name
given_unless space g =
    unless_by (param_fits space g.name Equal g.value) g.name (first_misfit space (given g)) (misfit-Param space g.name Equal g.value)
    ∙ ap (λ b. unless b g.name) (sym (misfit-none space (given g)))

pub present_unless : (space : Space) (m : Member) → first_misfit space (present m) ≡ unless (fits space (present m)) m.name
present_unless space m =
    unless_by (has_extension space m.name) m.name (first_misfit space (present m)) (misfit-Ext space m.name m.needs)
    ∙ ap (λ b. unless b m.name) (sym (misfit-none space (present m)))

-- ---- lists of conditions

name_here : (xs ys : List (Option (List ℕ))) (n : List ℕ) → first_name xs ≡ Some n → first_name (xs ++ ys) ≡ Some n
name_here [] ys n e = absurd (cc)
name_here (None ∷ xs) ys n e = name_here xs ys n e
name_here (Some m ∷ xs) ys n e = e

name_later : (xs ys : List (Option (List ℕ))) → first_name xs ≡ None → first_name (xs ++ ys) ≡ first_name ys
name_later [] ys e = refl
name_later (None ∷ xs) ys e = name_later xs ys e
name_later (Some m ∷ xs) ys e = absurd (cc)

pub unfit_here : (space : Space) (xs ys : List Cond) (n : List ℕ) → first_unfit space xs ≡ Some n → first_unfit space (xs ++ ys) ≡ Some n
unfit_here space xs ys n e = ap first_name (map-append (first_misfit space) xs ys) ∙ name_here (map (first_misfit space) xs) (map (first_misfit space) ys) n e

pub unfit_later : (space : Space) (xs ys : List Cond) → first_unfit space xs ≡ None → first_unfit space (xs ++ ys) ≡ first_unfit space ys
unfit_later space xs ys e = ap first_name (map-append (first_misfit space) xs ys) ∙ name_later (map (first_misfit space) xs) (map (first_misfit space) ys) e

pub record Unfit (space : Space) (conds : List Cond) (name : List ℕ) : Type 0 where
  pub cond : Cond
  pub among : Contains conds cond
  pub is : first_misfit space cond ≡ Some name

unfit_more : (space : Space) (x : Cond) (xs : List Cond) (n : List ℕ) → Unfit space xs n → Unfit space (x ∷ xs) n
unfit_more space x xs n u = record { cond = u.cond; among = (suc u.among.0, omega (arith, u.among.1), u.among.2); is = u.is }

unfit_by : (space : Space) (x : Cond) (xs : List Cond) (n : List ℕ) (o : Option (List ℕ)) → first_misfit space x ≡ o → first_name (o ∷ map (first_misfit space) xs) ≡ Some n → (first_unfit space xs ≡ Some n → Unfit space xs n) → Unfit space (x ∷ xs) n
unfit_by space x xs n None h e more = unfit_more space x xs n (more e)
unfit_by space x xs n (Some m) h e more = record { cond = x; among = (0, omega arith, refl); is = h ∙ e }

pub unfit_some : (space : Space) (conds : List Cond) (n : List ℕ) → first_unfit space conds ≡ Some n → Unfit space conds n
unfit_some space [] n e = absurd (cc)
unfit_some space (x ∷ xs) n e = unfit_by space x xs n (first_misfit space x) refl e (unfit_some space xs n)

fit_head : (o : Option (List ℕ)) (os : List (Option (List ℕ))) → first_name (o ∷ os) ≡ None → o ≡ None
fit_head None os e = refl
fit_head (Some n) os e = absurd (cc)

fit_tail : (o : Option (List ℕ)) (os : List (Option (List ℕ))) → first_name (o ∷ os) ≡ None → first_name os ≡ None
fit_tail None os e = e
fit_tail (Some n) os e = absurd (cc)

fit_at : (space : Space) (conds : List Cond) (k : ℕ) (x : Cond) → first_unfit space conds ≡ None → k < length conds → get_or conds k x ≡ x → first_misfit space x ≡ None
fit_at space [] k x e lt is = absurd (omega arith)
fit_at space (y ∷ ys) zero x e lt is = ap (first_misfit space) (sym is) ∙ fit_head (first_misfit space y) (map (first_misfit space) ys) e
fit_at space (y ∷ ys) (suc k) x e lt is = fit_at space ys k x (fit_tail (first_misfit space y) (map (first_misfit space) ys) e) (omega arith) is

none_some : (o : Option (List ℕ)) (n : List ℕ) → o ≡ None → o ≡ Some n → ⊥
none_some o n e f = let h : None ≡ Some n = sym e ∙ f in absurd (cc)

pub fit_all : (space : Space) (conds : List Cond) → first_unfit space conds ≡ None → (x : Cond) → Contains conds x → first_misfit space x ≡ None
fit_all space conds e x among = fit_at space conds among.0 x e among.1 among.2

-- ---- entries

pub unknown_by : (space : Space) (e : Entry) (n : List ℕ) (shows : Lines) → first_unfit space (conditions_of e) ≡ Some n → shows ≡ n ∷ [] → HasUnknownName space e shows
unknown_by space e n shows h is = let u = unfit_some space (conditions_of e) n h in named u.cond n u.among u.is is

pub known_by : (space : Space) (e : Entry) → first_unfit space (conditions_of e) ≡ None → (DependsOnWidth e → HasWidths space) → KnowsNames space e
known_by space e h w shows (named x n among is shown) = none_some (first_misfit space x) n (fit_all space (conditions_of e) h x among) is
known_by space e h w shows (no_width depends none shown) = none (w depends)

-- ---- one list after another

unfit_or : (space : Space) (xs ys : List Cond) (o : Option (List ℕ)) → first_unfit space xs ≡ o → first_unfit space (xs ++ ys) ≡ or_name o (first_unfit space ys)
unfit_or space xs ys None e = unfit_later space xs ys e
unfit_or space xs ys (Some n) e = unfit_here space xs ys n e

or_twice : (a b c : Option (List ℕ)) → or_name a (or_name b c) ≡ or_name (or_name a b) c
or_twice None b c = refl
or_twice (Some n) b c = refl

append_or : (space : Space) (xs ys : List Cond) → first_unfit space (xs ++ ys) ≡ or_name (first_unfit space xs) (first_unfit space ys)
append_or space xs ys = unfit_or space xs ys (first_unfit space xs) refl

four_or : (space : Space) (a b d f : List Cond) → first_unfit space (a ++ (b ++ (d ++ f))) ≡ or_name (or_name (or_name (first_unfit space a) (first_unfit space b)) (first_unfit space d)) (first_unfit space f)
four_or space a b d f =
    append_or space a (b ++ (d ++ f)) ∙ (ap (or_name (first_unfit space a)) (append_or space b (d ++ f) ∙ ap (or_name (first_unfit space b)) (append_or space d f))
    ∙ (or_twice (first_unfit space a) (first_unfit space b) (or_name (first_unfit space d) (first_unfit space f)) ∙ or_twice (or_name (first_unfit space a) (first_unfit space b)) (first_unfit space d) (first_unfit space f)))

pub four_by : (space : Space) (a b d f : List Cond) (first second third last : Option (List ℕ)) → first ≡ first_unfit space a → second ≡ or_name first (first_unfit space b) → third ≡ or_name second (first_unfit space d) → last ≡ or_name third (first_unfit space f) → last ≡ first_unfit space (a ++ (b ++ (d ++ f)))
four_by space a b d f first second third last e g h i =
    i ∙ (ap (λ o. or_name o (first_unfit space f)) (h ∙ ap (λ o. or_name o (first_unfit space d)) (g ∙ ap (λ o. or_name o (first_unfit space b)) e)) ∙ sym (four_or space a b d f))

-- ---- what is shown of an entry

named_lines : (space : Space) (e : Entry) (w b : Bool) (o : Option (List ℕ)) → (IsTrue w → HasWidths space) → (HasWidths space → IsTrue w) → IsLacking w e b → o ≡ first_unfit space (conditions_of e) → IsNamed space e (unknown_lines o b)
named_lines space e w b (Some n) to from lack h = unknown_by space e n (n ∷ []) (sym h) refl
named_lines space e w true None to from lack h = no_width lack.0 (λ has. let t : false ≡ true = sym lack.1 ∙ from has in absurd (cc)) refl
named_lines space e w false None to from lack h = known_by space e (sym h) (λ d. to (lack d))

pub named_by : (space : Space) (e : Entry) (w b : Bool) (o : Option (List ℕ)) (shows : Option Lines) → (IsTrue w → HasWidths space) → (HasWidths space → IsTrue w) → IsLacking w e b → o ≡ first_unfit space (conditions_of e) → shows ≡ unknown_lines o b → IsNamed space e shows
named_by space e w b o shows to from lack h is = subst (IsNamed space e) (sym is) (named_lines space e w b o to from lack h)
