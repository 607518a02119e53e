-- What the program answers to words and an input.
use Rattle.std.specs.Prelude.{◌≡◌, ◌≢◌, ◌≤◌, ◌<◌, ◌⊎◌, ◌++◌, ℕ, List, length, codes, Option, Some}
use Rattle.std.specs.Fmt.{decimal}
use Rattle.udb_base.specs.Faults.{Rose}
use Rattle.udb_command.specs.declared.commands.Command.{Command}
use Rattle.udb_command.specs.declared.commands.Command.TheVariants.{Manual, Refute, CheckProof}
use Rattle.udb_command.specs.declared.replies.Reply.{Reply}
use Rattle.udb_command.specs.declared.replies.Reply.TheVariants.{Done, Refused}
use Rattle.udb_command.specs.Words.{Asks}
use Rattle.udb_command.specs.Input.{input_limit, IsRead}
use Rattle.udb_command.specs.Replies.{status_of, IsReplyStatus, IsFaultStatus, IsCut}
use Rattle.udb_bundle.specs.declared.bundle.Bundle.{Bundle}
use Rattle.udb_bundle.specs.Bundles.{Spells}
use Rattle.udb_bundle.specs.Faults.{SpellsNone, IsFaultLine}
use Rattle.first_spec.specs.declared.bundle.FirstBundle.{FirstBundle}
use Rattle.first_spec.specs.Bundle.{SpellsFirst}
use Rattle.udb_search.specs.Replies.{RefuteReplies, CheckReplies}
use Rattle.udb_top.specs.Making.{IsManualText}

-- ---- the command `manual`

-- the input is a bundle
abbrev pub IsBundle : List ℕ → Type 0
IsBundle input = (bundle : Bundle) × Spells input bundle

-- the input is no bundle of the first form
abbrev pub NotBuilt : List ℕ → Type 0
NotBuilt input = (bundle : FirstBundle) → SpellsFirst input bundle → ⊥

-- the input is a bundle of the first form whose configuration has another name
pub record NoSuchConfig (input config : List ℕ) : Type 0 where
  pub bundle : FirstBundle
  pub spelled : SpellsFirst input bundle
  pub other : bundle.config.name ≢ config

-- the input is a bundle of the first form whose configuration has the asked name, and the text is
-- that of a manual of it
pub record ShowsManual (input config text : List ℕ) : Type 0 where
  pub bundle : FirstBundle
  pub spelled : SpellsFirst input bundle
  pub named : bundle.config.name ≡ config
  pub shows : IsManualText bundle text

abbrev pub no_bundle_text : ℕ → List ℕ
no_bundle_text number = codes "no bundle at line " ++ (decimal number ++ codes "\n")

abbrev pub no_config_text : List ℕ → List ℕ
no_config_text config = codes "no such config " ++ (config ++ codes "\n")

-- its replies to an input, which is no bundle and has a first bad line, or is a bundle
pub data ManualReplies (config input : List ℕ) : Reply → Type 0 where
  no_bundle : (number : ℕ) → IsFaultLine input number → ManualReplies config input (Refused 10 (no_bundle_text number))
  not_built : IsBundle input → NotBuilt input → ManualReplies config input (Refused 12 (codes "not built\n"))
  no_such_config : IsBundle input → NoSuchConfig input config → ManualReplies config input (Refused 9 (no_config_text config))
  manual : IsBundle input → (text : List ℕ) → ShowsManual input config text → ManualReplies config input (Done text)

-- which status they have
pub record ManualStatuses : Type 0 where
  pub unread : (config input : List ℕ) (reply : Reply) → ManualReplies config input reply → SpellsNone input → status_of reply ≡ 10
  pub unbuilt : (config input : List ℕ) (reply : Reply) → ManualReplies config input reply → IsBundle input → NotBuilt input → status_of reply ≡ 12
  pub unnamed : (config input : List ℕ) (reply : Reply) → ManualReplies config input reply → IsBundle input → NoSuchConfig input config → status_of reply ≡ 9
  pub shown : (config input : List ℕ) (reply : Reply) → ManualReplies config input reply → IsBundle input → (bundle : FirstBundle) → SpellsFirst input bundle → bundle.config.name ≡ config → status_of reply ≡ 0

-- ---- every command

-- the replies that a command may have to an input; which of them it has is free
abbrev pub Replies : Command → List ℕ → Reply → Type 0
Replies (Manual config) input reply = ManualReplies config input reply
Replies (Refute config kind name) input reply = RefuteReplies config kind name input reply
Replies (CheckProof config kind name) input reply = CheckReplies config kind name input reply

-- the replies of a command to an input have one status
abbrev pub OneStatus : Type 0
OneStatus = (command : Command) (input : List ℕ) (a b : Reply) → Replies command input a → Replies command input b → status_of a ≡ status_of b

-- ---- a run

-- 0, 1 and 9 to 16 for replies; 2, 3, 7 and 8 for what comes in place of one; 4 for a failed write
abbrev pub IsStatus : ℕ → Type 0
IsStatus n = IsReplyStatus n ⊎ (IsFaultStatus n ⊎ (n ≡ 4))

-- the words ask for a command, the input was read to its end and is within its limit, and this is
-- a reply to it
pub record HasReply (words : List (List ℕ)) (before now : Option (List ℕ)) (reply : Reply) : Type 0 where
  pub command : Command
  pub asked : Asks words command
  pub input : List ℕ
  pub read : IsRead input before now
  pub replied : Replies command input reply

-- the same of a success of whose text the output received a front
pub record HasCutReply (words : List (List ℕ)) (before now out_before out_now : Option (List ℕ)) : Type 0 where
  pub reply : Reply
  pub has : HasReply words before now reply
  pub cut : IsCut reply out_before out_now

-- a command's reply to the input with this status
abbrev pub RepliesWith : Command → List ℕ → ℕ → Type 0
RepliesWith command input status = (reply : Reply) × (Replies command input reply × (status_of reply ≡ status))

-- where no count rises, the status is 8 for an input past the limit, else that of a reply, which
-- all replies have, unless memory runs out
pub record IsComplete (command : Command) (input : List ℕ) (status : ℕ) : Type 0 where
  pub long : input_limit < length input → (status ≡ 8) ⊎ (status ≡ 7)
  pub some : length input ≤ input_limit → RepliesWith command input status ⊎ (status ≡ 7)
  pub each : length input ≤ input_limit → (reply : Reply) → Replies command input reply → (status ≡ status_of reply) ⊎ (status ≡ 7)

-- of what the input has and the command that the words ask for
abbrev pub IfAsked : List (List ℕ) → Option (List ℕ) → (Command → List ℕ → Type 0) → Type 0
IfAsked words told P = (command : Command) (xs : List ℕ) → Asks words command → told ≡ Some xs → P command xs

abbrev pub NoRise : ℕ → ℕ → Type 0
NoRise before now = Rose before now → ⊥
