-- A parameter whose row breaks no rule has a lawful domain, where the domain lists something.
use Rattle.std.proofs.Common.{◌≡◌, ℕ, ◌≤◌, nat_le, nat_eq, Bool, true, false, [], length, Option, Some, None, refl, sym, subst, arith, if◌then◌else◌}
use Rattle.std.specs.Prelude.{codes}
use Rattle.std.proofs.lemmas.Bool.Decides.{nat_tests}
use Rattle.yaml_spec.specs.declared.tree.Tree.{Tree}
use Rattle.udb_base.specs.declared.kinds.Kind.{Kind}
use Rattle.udb_base.specs.declared.kinds.Kind.TheVariants as kind
use Rattle.udb_base.specs.declared.rows.Row.{Row}
use Rattle.udb_base.specs.declared.spaces.Domain.{Domain}
use Rattle.udb_base.specs.declared.spaces.Domain.TheVariants.{Flags, Numbers, Range, Words}
use Rattle.udb_base.specs.Lists.{are_distinct}
use Rattle.udb_spec.specs.Conditions.{same_bytes}
use Rattle.udb_spec.specs.Lawful.{IsLawfulDomain}
use Rattle.udb_lawful.proofs.Lists.{numbers-at, words-at}
use Rattle.udb_entry.specs.declared.answers.Entry.{Entry}
use Rattle.udb_entry.specs.declared.answers.Entry.TheVariants.{Extension, Param, Instruction, Csr, Functions, Config}
use Rattle.udb_entry.specs.Entries.{domain_at, entry_of}
use Rattle.udb_entry.specs.Rules.{Lines, domain_rule, is_domain}
use Rattle.udb_entry.specs.First.{kind_breach, Gives}
use Rattle.db_spec.proofs.EntryLaws.{both_kept}
use Rattle.udb_db.proofs.VersionLaws.{kind_kept}

-- a listed domain has a value
abbrev pub HasSome : Domain → Type 0
HasSome Flags = Unit {0}
HasSome (Numbers ns) = 1 ≤ length ns
HasSome (Range low high) = Unit {0}
HasSome (Words ws) = 1 ≤ length ws

le_of : (a b : ℕ) → nat_le a b ≡ true → a ≤ b
le_of a b h = grind (arith, nat_tests)

domain_by : (d : Domain) → is_domain d ≡ true → HasSome d → IsLawfulDomain d
domain_by Flags h some = tt
domain_by (Numbers ns) h some = (numbers-at (Numbers ns) ns (are_distinct nat_eq ns) refl some refl).0 h
domain_by (Range low high) h some = le_of low high h
domain_by (Words ws) h some = (words-at (Words ws) ws (are_distinct same_bytes ws) refl some refl).0 h

chosen : (b : Bool) → (if b then None else Some []) ≡ (let n : Option Lines = None in n) → b ≡ true
chosen true h = refl
chosen false h = absurd (cc)

abbrev pub HasLawfulDomain : Entry → Type 0
HasLawfulDomain (Extension x) = Unit {0}
HasLawfulDomain (Param x) = HasSome x.domain → IsLawfulDomain x.domain
HasLawfulDomain (Instruction x) = Unit {0}
HasLawfulDomain (Csr x) = Unit {0}
HasLawfulDomain (Functions x) = Unit {0}
HasLawfulDomain (Config x) = Unit {0}

of_kind : (k : Kind) (t : Tree) → kind_breach k t ≡ None → HasLawfulDomain (entry_of k t)
of_kind kind.Extension t h = tt
of_kind kind.Parameter t h = λ some. domain_by (domain_at t (codes "schema")) (chosen (is_domain (domain_at t (codes "schema"))) (both_kept 6 (domain_rule t) _ h).0) some
of_kind kind.Instruction t h = tt
of_kind kind.Csr t h = tt
of_kind kind.Functions t h = tt
of_kind kind.Config t h = tt

pub domains_are_lawful : (row : Row) (e : Entry) → Gives row e → HasLawfulDomain e
domains_are_lawful row e g = subst HasLawfulDomain (sym g.is) (of_kind row.kind g.tree (kind_kept row g.tree g.unbroken))
