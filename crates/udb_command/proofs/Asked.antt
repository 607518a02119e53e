-- Which words are which command.
use Rattle.std.proofs.Common.{◌≡◌, ◌≤◌, ◌<◌, ℕ, Bool, true, false, cond, List, [], ◌∷◌, length, get_or, Option, Some, None, Result, Ok, Err, IfOk, OnErr, MatchOption, arith, refl, sym, ap, ◌∙◌, subst}
use Rattle.std.specs.Prelude.{codes}
use Rattle.std.specs.Str.{bytes_eq}
use Rattle.std.proofs.lemmas.Option.{same_Some, none-some}
use Rattle.std.proofs.lemmas.Slice.Eq.{bytes_eq-Decides}
use Rattle.udb_base.specs.declared.kinds.Kind.{Kind}
use Rattle.udb_base.specs.declared.kinds.Kind.TheVariants as kinds
use Rattle.udb_base.specs.Kinds.{kind_word}
use Rattle.udb_command.specs.declared.commands.Command.{Command}
use Rattle.udb_command.specs.declared.commands.Command.TheVariants.{Manual, Refute, CheckProof}
use Rattle.udb_command.specs.declared.questions.Question.{Question}
use Rattle.udb_command.specs.Words.{IsArgument, AsksAbout, AreArguments, Asks, IsCommand, IsNoCommand}
use Rattle.udb_command.specs.Questions.{IsOtherWords, IsOtherRow, IsNoManual, kind_of, Asking, IsQuestion, IsNoQuestion}

-- ---- rows of words

same_argument : (first a b : List ℕ) → first ∷ a ∷ [] ≡ first ∷ b ∷ [] → a ≡ b
same_argument first a b e = cc

two_or_four : (a b c d e f : List ℕ) → a ∷ b ∷ [] ≡ c ∷ d ∷ e ∷ f ∷ [] → ⊥
two_or_four a b c d e f h = absurd (cc)

same_row : (f g a b c d x y : List ℕ) → f ∷ a ∷ c ∷ x ∷ [] ≡ g ∷ b ∷ d ∷ y ∷ [] → (f ≡ g) × (a ≡ b) × (c ≡ d) × (x ≡ y)
same_row f g a b c d x y e = (cc, cc, cc, cc)

row_parts : (f g a b c d x y : List ℕ) → f ∷ a ∷ c ∷ x ∷ [] ≡ g ∷ b ∷ d ∷ y ∷ [] → (a ≡ b) × (c ≡ d) × (x ≡ y)
row_parts f g a b c d x y e = (cc, cc, cc)

pub row_of : (f g a b c d x y : List ℕ) → f ≡ g → a ≡ b → c ≡ d → x ≡ y → f ∷ a ∷ c ∷ x ∷ [] ≡ g ∷ b ∷ d ∷ y ∷ []
row_of f g a b c d x y p q r s = cc

refute_or_check : codes "refute" ≡ codes "check-proof" → ⊥
refute_or_check e = absurd (cc)

-- a list of two is its two items
pub two_items : {X : Type 0} (xs : List X) (a b : X) → 2 ≤ length xs → length xs < 3 → a ≡ get_or xs 0 a → b ≡ get_or xs 1 b → xs ≡ a ∷ b ∷ []
two_items [] a b l m p q = absurd (omega arith)
two_items (x ∷ []) a b l m p q = absurd (omega arith)
two_items (x ∷ y ∷ []) a b l m p q = cc
two_items (x ∷ y ∷ z ∷ zs) a b l m p q = absurd (omega arith)

-- and one of four is its four
pub four_items : {X : Type 0} (xs : List X) (a b c d : X) → 4 ≤ length xs → length xs < 5 → a ≡ get_or xs 0 a → b ≡ get_or xs 1 b → c ≡ get_or xs 2 c → d ≡ get_or xs 3 d → xs ≡ a ∷ b ∷ c ∷ d ∷ []
four_items [] a b c d l m p q r s = absurd (omega arith)
four_items (x ∷ []) a b c d l m p q r s = absurd (omega arith)
four_items (x ∷ y ∷ []) a b c d l m p q r s = absurd (omega arith)
four_items (x ∷ y ∷ z ∷ []) a b c d l m p q r s = absurd (omega arith)
four_items (x ∷ y ∷ z ∷ w ∷ []) a b c d l m p q r s = cc
four_items (x ∷ y ∷ z ∷ w ∷ v ∷ vs) a b c d l m p q r s = absurd (omega arith)

-- two words of which the first is another, and four of which it is
pub other_first : (words : List (List ℕ)) (first a b : List ℕ) → words ≡ a ∷ b ∷ [] → (a ≡ first → ⊥) → IsOtherWords words first
other_first words first a b e h word f = h (same_first a first b word (sym e ∙ f))
  where
    same_first : (a b x y : List ℕ) → a ∷ x ∷ [] ≡ b ∷ y ∷ [] → a ≡ b
    same_first a b x y e = cc

pub other_row : (words : List (List ℕ)) (first a b c d : List ℕ) → words ≡ a ∷ b ∷ c ∷ d ∷ [] → (a ≡ first → ⊥) → IsOtherRow words first
other_row words first a b c d e h x y z f = h (same_row a first b x c y d z (sym e ∙ f)).0

-- ---- kinds

abbrev word_kind : List ℕ → Kind
word_kind w =
    cond (bytes_eq w (codes "extension")) kinds.Extension
    (cond (bytes_eq w (codes "parameter")) kinds.Parameter
    (cond (bytes_eq w (codes "instruction")) kinds.Instruction
    (cond (bytes_eq w (codes "csr")) kinds.Csr
    (cond (bytes_eq w (codes "functions")) kinds.Functions kinds.Config))))

its_kind : (k : Kind) → word_kind (kind_word k) ≡ k
its_kind kinds.Extension = refl
its_kind kinds.Parameter = refl
its_kind kinds.Instruction = refl
its_kind kinds.Csr = refl
its_kind kinds.Functions = refl
its_kind kinds.Config = refl

-- kinds of one word are one
one_kind : (a b : Kind) → kind_word a ≡ kind_word b → a ≡ b
one_kind a b e = sym (its_kind a) ∙ (ap word_kind e ∙ its_kind b)

abbrev Names : List ℕ → Option Kind → Type 0
Names w o = (k : Kind) → o ≡ Some k → w ≡ kind_word k

names_by : (w : List ℕ) (b : Bool) (p : Kind) (o : Option Kind) → (b ≡ true → w ≡ kind_word p) → Names w o → Names w (cond b (Some p) o)
names_by w true p o h rest q e = subst (λ (r : Kind). w ≡ kind_word r) (same_Some p q e) (h refl)
names_by w false p o h rest q e = rest q e

same_bytes : (a b : List ℕ) → bytes_eq a b ≡ true → a ≡ b
same_bytes a b h = (bytes_eq-Decides a b).0 h

names_next : (w : List ℕ) (p : Kind) (o : Option Kind) → Names w o → Names w (cond (bytes_eq w (kind_word p)) (Some p) o)
names_next w p o rest = names_by w (bytes_eq w (kind_word p)) p o (same_bytes w (kind_word p)) rest

-- the kind that is read has that word
kind_of_word : (w : List ℕ) → Names w (kind_of w)
kind_of_word w =
    names_next w kinds.Extension _ (names_next w kinds.Parameter _ (names_next w kinds.Instruction _
    (names_next w kinds.Csr _ (names_next w kinds.Config None (λ p e. absurd (none-some p e))))))

-- and the word of each kind that is asked about is read
asked_kind : (config name : List ℕ) (k : Kind) → AsksAbout config k name → kind_of (kind_word k) ≡ Some k
asked_kind config name kinds.Extension h = refl
asked_kind config name kinds.Parameter h = refl
asked_kind config name kinds.Instruction h = refl
asked_kind config name kinds.Csr h = refl
asked_kind config name kinds.Functions h = absurd h
asked_kind config name kinds.Config h = refl

-- ---- questions

module _ (words : List (List ℕ)) (first config word name : List ℕ) (e : words ≡ first ∷ config ∷ word ∷ name ∷ []) where
  -- a question that the words ask has these parts
  parts : (q : Question) → Asking words first q → (config ≡ q.config) × (word ≡ kind_word q.kind) × (name ≡ q.name)
  parts q a = row_parts first first config q.config word (kind_word q.kind) name q.name (sym e ∙ a.spelled)

  pub no_kind : kind_of word ≡ None → IsNoQuestion words first
  no_kind n q a =
      let p = parts q a in
      absurd (none-some q.kind (sym n ∙ (ap kind_of p.1 ∙ asked_kind q.config q.name q.kind a.arguments.about)))

  module _ (kind : Kind) (k : kind_of word ≡ Some kind) where
    is_word : word ≡ kind_word kind
    is_word = kind_of_word word kind k

    pub no_question : (AreArguments config kind name → ⊥) → IsNoQuestion words first
    no_question n q a =
        let p = parts q a in
        let same : kind ≡ q.kind = one_kind kind q.kind (sym is_word ∙ p.1) in
        n (subst (λ (c : List ℕ). AreArguments c kind name) (sym p.0)
        (subst (λ (k : Kind). AreArguments q.config k name) (sym same)
        (subst (λ (n : List ℕ). AreArguments q.config q.kind n) (sym p.2) a.arguments)))

    pub is_question : (q : Question) → q.config ≡ config → q.kind ≡ kind → q.name ≡ name → AreArguments config kind name → Asking words first q
    is_question q c d n h = record {
      spelled = e ∙ (ap (λ (x : List ℕ). first ∷ x ∷ word ∷ name ∷ []) (sym c)
          ∙ (ap (λ (x : List ℕ). first ∷ q.config ∷ x ∷ name ∷ []) (is_word ∙ ap kind_word (sym d))
          ∙ ap (λ (x : List ℕ). first ∷ q.config ∷ kind_word q.kind ∷ x ∷ []) (sym n)));
      arguments = subst (λ (x : List ℕ). AreArguments x q.kind q.name) (sym c)
          (subst (λ (x : Kind). AreArguments config x q.name) (sym d)
          (subst (λ (x : List ℕ). AreArguments config kind x) (sym n) h));
    }

    pub some_question : AreArguments config kind name → IsQuestion words first
    some_question h = (record { config = config; kind = kind; name = name }, is_question (record { config = config; kind = kind; name = name }) refl refl refl h)

    pub result_question : {E : Type 0} (r : Result (Option Question) E) → IfOk r (λ o. MatchOption o (AreArguments config kind name → ⊥) (λ q. (q.config ≡ config) × (q.kind ≡ kind) × (q.name ≡ name) × AreArguments config kind name)) → IfOk r (λ o. MatchOption o (IsNoQuestion words first) (Asking words first))
    result_question (Ok (Some q)) (c, d, n, h) = is_question q c d n h
    result_question (Ok None) h = no_question h
    result_question (Err f) h = tt

    pub result_memory : {A E : Type 0} (r : Result A E) → OnErr r (AreArguments config kind name) → OnErr r (IsQuestion words first)
    result_memory (Ok o) h = tt
    result_memory (Err f) h = some_question h

pub other_asks_none : (words : List (List ℕ)) (first : List ℕ) → IsOtherRow words first → IsNoQuestion words first
other_asks_none words first h q a = h q.config (kind_word q.kind) q.name a.spelled

-- ---- commands

pub other_is_none : (words : List (List ℕ)) → IsOtherWords words (codes "manual") → IsNoManual words
other_is_none words h config asks = h config asks.spelled

pub unnamed_is_none : (words : List (List ℕ)) (word : List ℕ) → words ≡ codes "manual" ∷ word ∷ [] → (IsArgument word → ⊥) → IsNoManual words
unnamed_is_none words word e h config asks =
    h (subst IsArgument (same_argument (codes "manual") config word (sym asks.spelled ∙ e)) asks.arguments)

-- words that ask for the manual of a name
pub asks_manual : (words : List (List ℕ)) (config word : List ℕ) → words ≡ codes "manual" ∷ word ∷ [] → config ≡ word → IsArgument word → Asks words (Manual config)
asks_manual words config word e same h = record { spelled = e ∙ ap (λ (w : List ℕ). codes "manual" ∷ w ∷ []) (sym same); arguments = subst IsArgument (sym same) h }

-- words that ask a question behind the first word of a search
pub asks_refute : (words : List (List ℕ)) (q : Question) → Asking words (codes "refute") q → Asks words (Refute q.config q.kind q.name)
asks_refute words q a = record { spelled = a.spelled; arguments = a.arguments }

pub asks_check : (words : List (List ℕ)) (q : Question) → Asking words (codes "check-proof") q → Asks words (CheckProof q.config q.kind q.name)
asks_check words q a = record { spelled = a.spelled; arguments = a.arguments }

pub is_refute : (words : List (List ℕ)) → IsQuestion words (codes "refute") → IsCommand words
is_refute words (q, a) = (Refute q.config q.kind q.name, asks_refute words q a)

pub is_check : (words : List (List ℕ)) → IsQuestion words (codes "check-proof") → IsCommand words
is_check words (q, a) = (CheckProof q.config q.kind q.name, asks_check words q a)

-- words that ask for nothing of these
pub is_none : (words : List (List ℕ)) → IsNoManual words → IsNoQuestion words (codes "refute") → IsNoQuestion words (codes "check-proof") → IsNoCommand words
is_none words m r k (Manual config) a = m config a
is_none words m r k (Refute config kind name) a = r (record { config = config; kind = kind; name = name }) (record { spelled = a.spelled; arguments = a.arguments })
is_none words m r k (CheckProof config kind name) a = k (record { config = config; kind = kind; name = name }) (record { spelled = a.spelled; arguments = a.arguments })

-- words ask for at most one command
module _ (words : List (List ℕ)) where
  one_refute : (c d : List ℕ) (k l : Kind) (n m : List ℕ) → (c ≡ d) × (kind_word k ≡ kind_word l) × (n ≡ m) → Refute c k n ≡ Refute d l m
  one_refute c d k l n m (p, q, r) =
      ap (λ (x : List ℕ). Refute x k n) p
      ∙ (ap (λ (x : Kind). Refute d x n) (one_kind k l q) ∙ ap (λ (x : List ℕ). Refute d l x) r)

  one_check : (c d : List ℕ) (k l : Kind) (n m : List ℕ) → (c ≡ d) × (kind_word k ≡ kind_word l) × (n ≡ m) → CheckProof c k n ≡ CheckProof d l m
  one_check c d k l n m (p, q, r) =
      ap (λ (x : List ℕ). CheckProof x k n) p
      ∙ (ap (λ (x : Kind). CheckProof d x n) (one_kind k l q) ∙ ap (λ (x : List ℕ). CheckProof d l x) r)

  pub one_command : (a b : Command) → Asks words a → Asks words b → a ≡ b
  one_command (Manual x) (Manual y) a b = ap Manual (same_argument (codes "manual") x y (sym a.spelled ∙ b.spelled))
  one_command (Manual x) (Refute c k n) a b = absurd (two_or_four _ _ _ _ _ _ (sym a.spelled ∙ b.spelled))
  one_command (Manual x) (CheckProof c k n) a b = absurd (two_or_four _ _ _ _ _ _ (sym a.spelled ∙ b.spelled))
  one_command (Refute c k n) (Manual x) a b = absurd (two_or_four _ _ _ _ _ _ (sym b.spelled ∙ a.spelled))
  one_command (Refute c k n) (Refute d l m) a b = one_refute c d k l n m (row_parts _ _ c d _ _ n m (sym a.spelled ∙ b.spelled))
  one_command (Refute c k n) (CheckProof d l m) a b = absurd (refute_or_check (same_row _ _ c d _ _ n m (sym a.spelled ∙ b.spelled)).0)
  one_command (CheckProof c k n) (Manual x) a b = absurd (two_or_four _ _ _ _ _ _ (sym b.spelled ∙ a.spelled))
  one_command (CheckProof c k n) (Refute d l m) a b = absurd (refute_or_check (same_row _ _ d c _ _ m n (sym b.spelled ∙ a.spelled)).0)
  one_command (CheckProof c k n) (CheckProof d l m) a b = one_check c d k l n m (row_parts _ _ c d _ _ n m (sym a.spelled ∙ b.spelled))
