-- The entries that rows give: one for each row, of its kind and name.
use Rattle.std.proofs.Common.{◌≡◌, ℕ, zero, suc, ◌+◌, ◌<◌, ◌≤◌, Bool, true, false, cond, List, [], ◌∷◌, ◌++◌, length, get_or, take, Option, Some, None, codes, refl, sym, ap, subst, ◌∙◌, arith}
use Rattle.std.specs.List.{Contains, AllZip, All}
use Rattle.std.specs.Str.{bytes_eq}
use Rattle.std.specs.Cmp.Lexicographic.{bytes_decides}
use Rattle.std.proofs.lemmas.List.{get_or_default}
use Rattle.yaml_spec.specs.declared.tree.Tree.{Tree}
use Rattle.udb_base.specs.declared.kinds.Kind.{Kind}
use Rattle.udb_base.specs.declared.kinds.Kind.TheVariants as kind
use Rattle.udb_base.specs.declared.rows.Row.{Row}
use Rattle.udb_entry.specs.declared.answers.Entry.{Entry}
use Rattle.udb_entry.specs.Keys.{text_at}
use Rattle.udb_entry.specs.Entries.{entry_of}
use Rattle.udb_entry.specs.Rules.{Lines, name_rule, one_line}
use Rattle.udb_entry.specs.declared.answers.Breach.{Breach}
use Rattle.udb_entry.specs.First.{broken, or_else, Gives}
use Rattle.udb_entry.proofs.AnswerLemmas.{gives_one}
use Rattle.db_spec.specs.Entries.{kind_of, name_of}
use Rattle.db_spec.specs.Breaks.{Give}

-- ---- the key of an entry is its row's

kind_kept : (k : Kind) (t : Tree) → kind_of (entry_of k t) ≡ k
kind_kept kind.Extension t = refl
kind_kept kind.Parameter t = refl
kind_kept kind.Instruction t = refl
kind_kept kind.Csr t = refl
kind_kept kind.Functions t = refl
kind_kept kind.Config t = refl

name_kept : (k : Kind) (t : Tree) → name_of (entry_of k t) ≡ text_at t (codes "name")
name_kept kind.Extension t = refl
name_kept kind.Parameter t = refl
name_kept kind.Instruction t = refl
name_kept kind.Csr t = refl
name_kept kind.Functions t = refl
name_kept kind.Config t = refl

-- where neither of two is broken
pub both_kept : (n : ℕ) (o : Option Lines) (b : Option Breach) → or_else (broken n o) b ≡ None → (o ≡ None) × (b ≡ None)
both_kept n None b e = (refl, e)
both_kept n (Some s) b e = absurd (cc)

same_by : (b : Bool) (s : Lines) (a c : List ℕ) → bytes_eq a c ≡ b → cond b None (Some s) ≡ None → a ≡ c
same_by true s a c e h = (bytes_decides a c).0 e
same_by false s a c e h = absurd (cc)

pub gives_kind : (row : Row) (e : Entry) → Gives row e → kind_of e ≡ row.kind
gives_kind row e g = ap kind_of g.is ∙ kind_kept row.kind g.tree

pub gives_name : (row : Row) (e : Entry) → Gives row e → name_of e ≡ row.name
gives_name row e g =
    ap name_of g.is ∙ (name_kept row.kind g.tree
    ∙ same_by (bytes_eq (text_at g.tree (codes "name")) row.name) (one_line (text_at g.tree (codes "name"))) (text_at g.tree (codes "name")) row.name refl (both_kept 3 _ _ g.unbroken).0)

-- ---- one list of entries

pub give_one : (rows : List Row) (es ds : List Entry) → Give rows es → Give rows ds → es ≡ ds
give_one [] [] [] g h = refl
give_one [] [] (d ∷ ds) g h = absurd h
give_one [] (e ∷ es) ds g h = absurd g
give_one (r ∷ rs) [] ds g h = absurd g
give_one (r ∷ rs) (e ∷ es) [] g h = absurd h
give_one (r ∷ rs) (e ∷ es) (d ∷ ds) g h = ap (λ x. x ∷ es) (gives_one r e d g.0 h.0) ∙ ap (λ xs. d ∷ xs) (give_one rs es ds g.1 h.1)

pub give_long : (rows : List Row) (es : List Entry) → Give rows es → length es ≡ length rows
give_long [] [] g = refl
give_long [] (e ∷ es) g = absurd g
give_long (r ∷ rs) [] g = absurd g
give_long (r ∷ rs) (e ∷ es) g = ap suc (give_long rs es g.1)

pub record GivesAt (rows : List Row) (es : List Entry) (k : ℕ) : Type 0 where
  pub row : Row
  pub entry : Entry
  pub in_rows : k < length rows
  pub in_entries : k < length es
  pub row_is : row ≡ get_or rows k row
  pub entry_is : entry ≡ get_or es k entry
  pub gives : Gives row entry

pub gives_at : (rows : List Row) (es : List Entry) (k : ℕ) → Give rows es → k < length rows → GivesAt rows es k
gives_at [] es k g lt = absurd (omega arith)
gives_at (r ∷ rs) [] k g lt = absurd g
gives_at (r ∷ rs) (e ∷ es) zero g lt = record { row = r; entry = e; in_rows = lt; in_entries = omega arith; row_is = refl; entry_is = refl; gives = g.0 }
gives_at (r ∷ rs) (e ∷ es) (suc k) g lt =
    let at = gives_at rs es k g.1 (omega arith) in
    record { row = at.row; entry = at.entry; in_rows = lt; in_entries = omega (arith, at.in_entries); row_is = at.row_is; entry_is = at.entry_is; gives = at.gives }

-- ---- one more row

pub give_none : Give [] []
give_none = tt

give_push : (rows : List Row) (es : List Entry) (r : Row) (e : Entry) → Give rows es → Gives r e → Give (rows ++ r ∷ []) (es ++ e ∷ [])
give_push [] [] r e g h = (h, tt)
give_push [] (d ∷ ds) r e g h = absurd g
give_push (q ∷ qs) [] r e g h = absurd g
give_push (q ∷ qs) (d ∷ ds) r e g h = (g.0, give_push qs ds r e g.1 h)

take_one_more : (rows : List Row) (i : ℕ) (r : Row) → i < length rows → r ≡ get_or rows i r → take (suc i) rows ≡ take i rows ++ r ∷ []
take_one_more [] i r lt is = absurd (omega arith)
take_one_more (q ∷ qs) zero r lt is = ap (λ x. x ∷ []) (sym is)
take_one_more (q ∷ qs) (suc i) r lt is = ap (λ xs. q ∷ xs) (take_one_more qs i r (omega arith) is)

pub give_more : (rows : List Row) (i : ℕ) (r : Row) (es : List Entry) (e : Entry) → i < length rows → r ≡ get_or rows i r → Give (take i rows) es → Gives r e → Give (take (i + 1) rows) (es ++ e ∷ [])
give_more rows i r es e lt is g h = let step : take (i + 1) rows ≡ take i rows ++ r ∷ [] = let n : i + 1 ≡ suc i = omega arith in ap (λ k. take k rows) n ∙ take_one_more rows i r lt is in subst (λ xs. Give xs (es ++ e ∷ [])) (sym step) (give_push (take i rows) es r e g h)

-- the rows before a place
pub give_front : (rows : List Row) (es : List Entry) (k : ℕ) → Give rows es → Give (take k rows) (take k es)
give_front [] [] zero g = tt
give_front [] [] (suc k) g = tt
give_front [] (e ∷ es) k g = absurd g
give_front (r ∷ rs) [] k g = absurd g
give_front (r ∷ rs) (e ∷ es) zero g = tt
give_front (r ∷ rs) (e ∷ es) (suc k) g = (g.0, give_front rs es k g.1)
