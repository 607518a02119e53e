-- What the steps of a command answer.
use Rattle.std.specs.Prelude.{◌≡◌, ℕ, List, Option, None, Some}
use Rattle.udb_base.specs.declared.kinds.Kind.{Kind}
use Rattle.udb_base.specs.declared.rows.Row.{Row}
use Rattle.udb_base.specs.declared.conditions.Cond.{Cond}
use Rattle.udb_base.specs.declared.refutations.Partial.{Partial}
use Rattle.udb_base.specs.declared.spaces.Space.{Space}
use Rattle.udb_bundle.specs.declared.bundle.Bundle.{Bundle}
use Rattle.db_spec.specs.First.{HasReadKinds}
use Rattle.udb_command.specs.declared.replies.Reply.{Reply}
use Rattle.udb_command.specs.declared.replies.Reply.TheVariants.{Done}
use Rattle.udb_search.specs.declared.commands.Names.{Names}
use Rattle.udb_search.specs.declared.commands.Names.TheVariants.{Lacking, Asked}
use Rattle.udb_search.specs.Replies.{IsBuilt, IsTables, LacksName, IsAsked}
use Rattle.udb_db.specs.Databases.{IsSpaceOf}

-- an answer's text is printed
abbrev pub IsDone : (Space → Partial → Cond → List ℕ → Type 0) → Space → Partial → Cond → Reply → Type 0
IsDone Answer space part cond reply = (text : List ℕ) × Answer space part cond text × (reply ≡ Done text)

-- a refusal where the tables lack a name, or what is asked of them
abbrev pub AreNames : List Row → List ℕ → Kind → List ℕ → Names → Type 0
AreNames rows config kind name (Lacking reply) = LacksName rows config kind name reply
AreNames rows config kind name (Asked part cond) = (space : Space) → IsSpaceOf rows space → IsAsked rows config kind name space part cond

-- the tables of a bundle, where all that it has is built
abbrev pub IsTablesOf : Bundle → Option (List Row) → Type 0
IsTablesOf b None = IsBuilt b → ⊥
IsTablesOf b (Some rows) = IsBuilt b × IsTables b rows × HasReadKinds rows
