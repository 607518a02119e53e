-- What `refute` and `check-proof` reply to an input. Where more than one completion meets a condition, or more than one
-- proof refutes it, any of them may be shown.
use Rattle.std.specs.Prelude.{◌≡◌, ◌≤◌, true, false, ℕ, List, None, Some}
use Rattle.std.specs.List.Sorted.{IsPermutation}
use Rattle.udb_base.specs.declared.kinds.Kind.{Kind}
use Rattle.udb_base.specs.declared.kinds.Kind.TheVariants as kind_is
use Rattle.udb_base.specs.declared.rows.Row.{Row}
use Rattle.udb_base.specs.declared.conditions.Cond.{Cond}
use Rattle.udb_base.specs.declared.refutations.Partial.{Partial}
use Rattle.udb_base.specs.declared.refutations.Proof.{Proof}
use Rattle.udb_base.specs.declared.spaces.Space.{Space}
use Rattle.udb_base.specs.Lines.{Lines}
use Rattle.udb_spec.specs.Refutes.{refutes, first_wrong}
use Rattle.udb_spec.specs.ProofText.{SpellsProof, SpellProof, IsFirstBadLine}
use Rattle.udb_refute.specs.declared.search.Found.{Found}
use Rattle.udb_refute.specs.Answers.{IsAnswer}
use Rattle.udb_entry.specs.declared.answers.Entry.{Entry}
use Rattle.udb_bundle.specs.declared.bundle.Bundle.{Bundle}
use Rattle.udb_bundle.specs.Bundles.{Spells}
use Rattle.udb_bundle.specs.Faults.{IsFaultLine}
use Rattle.udb_tables.specs.Order.{IsInOrder}
use Rattle.db_spec.specs.declared.broken.Broken.{Broken}
use Rattle.db_spec.specs.Entries.{asked}
use Rattle.db_spec.specs.Breaks.{IsRowAt}
use Rattle.db_spec.specs.First.{IsFirst, Sound, KeepsUpTo, HasReadKinds}
use Rattle.udb_db.specs.Databases.{IsSpaceOf, FindsEntry, FindsConfig}
use Rattle.udb_command.specs.declared.replies.Reply.{Reply}
use Rattle.udb_command.specs.declared.replies.Reply.TheVariants.{Done, Refused}
use Rattle.udb_search.specs.Texts.{broken_text, no_bundle_text, not_built_text, no_such_text, found_text, accepted_text, bad_line_text, rejected_text}

-- ---- the tables of an input

-- all rows are of kinds that are examined so far, and the shipped rows aren't asked for
pub record IsBuilt (b : Bundle) : Type 0 where
  pub kinds : HasReadKinds b.rows
  pub unshipped : b.shipped ≡ false

-- its rows, in order
pub record IsTables (b : Bundle) (rows : List Row) : Type 0 where
  pub same : IsPermutation b.rows rows
  pub order : IsInOrder rows

-- An input that is no bundle is refused at its line, then what isn't built; else the reply is one to the bundle and its
-- tables.
pub data FromBundle (P : Bundle → List Row → Reply → Type 0) (input : List ℕ) (reply : Reply) : Type 0 where
  no_bundle : (number : ℕ) → IsFaultLine input number → reply ≡ Refused 10 (no_bundle_text number) → FromBundle P input reply
  not_built : (b : Bundle) → Spells input b → (IsBuilt b → ⊥) → reply ≡ Refused 12 not_built_text → FromBundle P input reply
  tables : (b : Bundle) (rows : List Row) → Spells input b → IsBuilt b → IsTables b rows → P b rows reply → FromBundle P input reply

-- ---- the names that are asked for

-- Tables lack a name. The configuration is looked for before the entry.
pub data LacksName (rows : List Row) (config : List ℕ) (kind : Kind) (name : List ℕ) (reply : Reply) : Type 0 where
  no_config : FindsConfig rows config None → reply ≡ Refused 9 (no_such_text kind_is.Config config) → LacksName rows config kind name reply
  no_entry : (part : Partial) → FindsConfig rows config (Some part) → FindsEntry rows kind name None → reply ≡ Refused 9 (no_such_text kind name) → LacksName rows config kind name reply

-- the space of the tables, the constraints of the configuration of a name, and the condition under which a full
-- configuration has the entry that is asked for
pub record IsAsked (rows : List Row) (config : List ℕ) (kind : Kind) (name : List ℕ) (space : Space) (part : Partial) (cond : Cond) : Type 0 where
  pub space_is : IsSpaceOf rows space
  pub part_is : FindsConfig rows config (Some part)
  pub entry : Entry
  pub entry_is : FindsEntry rows kind name (Some entry)
  pub cond_is : cond ≡ asked entry

-- a name that the tables lack, or an answer to what is asked
pub data IsReplyTo (Answer : Space → Partial → Cond → List ℕ → Type 0) (rows : List Row) (config : List ℕ) (kind : Kind) (name : List ℕ) (reply : Reply) : Type 0 where
  unnamed : LacksName rows config kind name reply → IsReplyTo Answer rows config kind name reply
  answered : (space : Space) (part : Partial) (cond : Cond) (text : List ℕ) → IsAsked rows config kind name space part cond → Answer space part cond text → reply ≡ Done text → IsReplyTo Answer rows config kind name reply

-- ---- refute

-- a completion of the configuration that meets the condition, or a proof that there is none, as text
abbrev pub IsFoundText : Space → Partial → Cond → List ℕ → Type 0
IsFoundText space part cond text = (answer : Found) × IsAnswer space part cond answer × (text ≡ found_text space answer)

-- tables that break a rule are refused by the first
pub data RefuteReply (config : List ℕ) (kind : Kind) (name : List ℕ) (b : Bundle) (rows : List Row) (reply : Reply) : Type 0 where
  broken : (first : Broken) → IsFirst rows first → reply ≡ Refused 1 (broken_text first) → RefuteReply config kind name b rows reply
  found : Sound rows → IsReplyTo IsFoundText rows config kind name reply → RefuteReply config kind name b rows reply

abbrev pub RefuteReplies : List ℕ → Kind → List ℕ → List ℕ → Reply → Type 0
RefuteReplies config kind name = FromBundle (RefuteReply config kind name)

-- ---- check-proof

-- that a proof refutes, or its first wrong node
pub data IsVerdictOn (space : Space) (part : Partial) (cond : Cond) (proof : Proof) (text : List ℕ) : Type 0 where
  accepted : refutes space part cond proof ≡ true → text ≡ accepted_text → IsVerdictOn space part cond proof text
  rejected : (path : List ℕ) → first_wrong space part cond proof ≡ Some path → text ≡ rejected_text path → IsVerdictOn space part cond proof text

-- the same of the proof that lines spell, or the first line with which no proof goes on
pub data IsVerdict (lines : Lines) (space : Space) (part : Partial) (cond : Cond) (text : List ℕ) : Type 0 where
  unread : (number : ℕ) → IsFirstBadLine (SpellProof space) lines number → text ≡ bad_line_text number → IsVerdict lines space part cond text
  read : (proof : Proof) → SpellsProof space lines proof → IsVerdictOn space part cond proof text → IsVerdict lines space part cond text

-- the last rule on the names in read entries: the space of the entries stands, so that a proof can be checked
abbrev pub last_name_rule : ℕ
last_name_rule = 12

-- the same order, but that later rules than those on names aren't asked
pub data CheckReply (config : List ℕ) (kind : Kind) (name : List ℕ) (b : Bundle) (rows : List Row) (reply : Reply) : Type 0 where
  broken : (first : Broken) → IsFirst rows first → first.rule ≤ last_name_rule → reply ≡ Refused 1 (broken_text first) → CheckReply config kind name b rows reply
  checked : KeepsUpTo last_name_rule rows → IsReplyTo (IsVerdict b.proof) rows config kind name reply → CheckReply config kind name b rows reply

abbrev pub CheckReplies : List ℕ → Kind → List ℕ → List ℕ → Reply → Type 0
CheckReplies config kind name = FromBundle (CheckReply config kind name)
