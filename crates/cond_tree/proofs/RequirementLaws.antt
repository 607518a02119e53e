-- What is read as a requirement, by the function that the definitions cite.
use Rattle.std.proofs.Common.{◌≡◌, ℕ, List, Option, Some, None, Result, Ok, Err, IfOk, refl, sym}
use Rattle.std.specs.Result.{result_ok}
use Rattle.udb_base.specs.declared.versions.Requirement.{Requirement}
use Rattle.udb_spec.specs.Grammar.{SpellsRequirement}
use Rattle.udb_cond.specs.Requirements.{requirement_of}
use Rattle.udb_cond.proofs.RequirementLemmas.{read-spells, spells-read}

none_read : {E : Type 0} (text : List ℕ) (fault : E) (o : Option Requirement) → requirement_of text ≡ o → ((x : Requirement) → SpellsRequirement text x → Err fault ≡ Ok x) → None ≡ o
none_read text fault None is exact = refl
none_read text fault (Some x) is exact = absurd (let h = exact x (read-spells text x is) in cc)

-- a parser that answers exactly what is spelled answers what is read
pub exactly_read : {E : Type 0} (text : List ℕ) (r : Result Requirement E) → IfOk r (SpellsRequirement text) → ((x : Requirement) → SpellsRequirement text x → r ≡ Ok x) → result_ok r ≡ requirement_of text
exactly_read text (Ok x) spelled exact = sym (spells-read text x spelled)
exactly_read text (Err fault) spelled exact = none_read text fault (requirement_of text) refl exact
