-- The replies of the command `manual`, and that they have one status.
use Rattle.std.proofs.Common.{◌≡◌, ◌≢◌, ◌≤◌, ◌⊎◌, ℕ, List, Result, Ok, Err, IfOk, codes, refl, sym, ap, subst, inl, inr, arith, ◌∙◌}
use Rattle.udb_command.specs.declared.commands.Command.{Command}
use Rattle.udb_command.specs.declared.commands.Command.TheVariants.{Manual, Refute, CheckProof}
use Rattle.udb_command.specs.declared.replies.Reply.{Reply}
use Rattle.udb_command.specs.declared.replies.Reply.TheVariants.{Done, Refused}
use Rattle.udb_command.specs.Replies.{status_of, IsReplyStatus}
use Rattle.udb_bundle.specs.Bundles.{lines_of}
use Rattle.udb_bundle.specs.Faults.{SpellsNone, IsFaultLine}
use Rattle.udb_bundle.proofs.FrontLemmas.{spells_one}
use Rattle.udb_search.proofs.OneStatus.{refute_status, check_status, refute_reply_status, check_reply_status}
use Rattle.first_spec.specs.declared.bundle.FirstBundle.{FirstBundle}
use Rattle.first_spec.specs.Bundle.{IsFirst, SpellsFirst}
use Rattle.first_bundle.proofs.Spelled.{one_bundle}
use Rattle.udb_top.specs.Making.{IsManualText}
use Rattle.udb_top.specs.Run.{IsBundle, NotBuilt, NoSuchConfig, ManualReplies, no_bundle, not_built, no_such_config, manual, no_bundle_text, no_config_text, ManualStatuses, Replies, OneStatus}

module _ (config : List ℕ) (x : FirstBundle) (text : List ℕ) where
  pub other_reply : text ≡ no_config_text config → x.config.name ≢ config → (input : List ℕ) → IsBundle input → SpellsFirst input x → ManualReplies config input (Refused 9 text)
  other_reply e n input b s = subst (λ (t : List ℕ). ManualReplies config input (Refused 9 t)) (sym e) (no_such_config b (record { bundle = x; spelled = s; other = n }))

  pub named_reply : (IsFirst x → IsManualText x text) → x.config.name ≡ config → (input : List ℕ) → IsBundle input → SpellsFirst input x → ManualReplies config input (Done text)
  named_reply shows e input b s = manual b text (record { bundle = x; spelled = s; named = e; shows = shows s.first })

pub result_not_built : {E : Type 0} (config input : List ℕ) → NotBuilt input → (r : Result Reply E) → IfOk r (λ reply. reply ≡ Refused 12 (codes "not built\n")) → IfOk r (λ reply. IsBundle input → ManualReplies config input reply)
result_not_built config input n (Ok reply) e = λ b. subst (ManualReplies config input) (sym e) (not_built b n)
result_not_built config input n (Err f) e = tt

pub result_built : {E : Type 0} (config input : List ℕ) (x : FirstBundle) → SpellsFirst input x → (r : Result Reply E) → IfOk r (λ reply. (input : List ℕ) → IsBundle input → SpellsFirst input x → ManualReplies config input reply) → IfOk r (λ reply. IsBundle input → ManualReplies config input reply)
result_built config input x s (Ok reply) h = λ b. h input b s
result_built config input x s (Err f) h = tt

pub result_bundle : {E : Type 0} (config input : List ℕ) → IsBundle input → (r : Result Reply E) → IfOk r (λ reply. IsBundle input → ManualReplies config input reply) → IfOk r (ManualReplies config input)
result_bundle config input b (Ok reply) h = h b
result_bundle config input b (Err f) h = tt

pub result_no_bundle : {E : Type 0} (config input : List ℕ) (number : ℕ) → IsFaultLine input number → (r : Result Reply E) → IfOk r (λ reply. reply ≡ Refused 10 (no_bundle_text number)) → IfOk r (ManualReplies config input)
result_no_bundle config input number l (Ok reply) e = subst (ManualReplies config input) (sym e) (no_bundle number l)
result_no_bundle config input number l (Err f) e = tt

module _ (config input : List ℕ) where
  two_names : (a b : FirstBundle) → SpellsFirst input a → SpellsFirst input b → a.config.name ≡ config → b.config.name ≢ config → ⊥
  two_names a b s t n o = o (ap (λ (x : FirstBundle). x.config.name) (one_bundle input b a t s) ∙ n)

  none_and_some : SpellsNone input → IsBundle input → ⊥
  none_and_some n (b, s) = n b s

  unread_status : (reply : Reply) → ManualReplies config input reply → SpellsNone input → status_of reply ≡ 10
  unread_status _ (no_bundle number l) h = refl
  unread_status _ (not_built b n) h = absurd (none_and_some h b)
  unread_status _ (no_such_config b o) h = absurd (none_and_some h b)
  unread_status _ (manual b text m) h = absurd (none_and_some h b)

  unbuilt_status : (reply : Reply) → ManualReplies config input reply → IsBundle input → NotBuilt input → status_of reply ≡ 12
  unbuilt_status _ (no_bundle number l) b h = absurd (none_and_some l.0 b)
  unbuilt_status _ (not_built _ n) b h = refl
  unbuilt_status _ (no_such_config _ o) b h = absurd (h o.bundle o.spelled)
  unbuilt_status _ (manual _ text m) b h = absurd (h m.bundle m.spelled)

  unnamed_status : (reply : Reply) → ManualReplies config input reply → IsBundle input → NoSuchConfig input config → status_of reply ≡ 9
  unnamed_status _ (no_bundle number l) b h = absurd (none_and_some l.0 b)
  unnamed_status _ (not_built _ n) b h = absurd (n h.bundle h.spelled)
  unnamed_status _ (no_such_config _ o) b h = refl
  unnamed_status _ (manual _ text m) b h = absurd (two_names m.bundle h.bundle m.spelled h.spelled m.named h.other)

  shown_status : (reply : Reply) → ManualReplies config input reply → IsBundle input → (bundle : FirstBundle) → SpellsFirst input bundle → bundle.config.name ≡ config → status_of reply ≡ 0
  shown_status _ (no_bundle number l) b x s e = absurd (none_and_some l.0 b)
  shown_status _ (not_built _ n) b x s e = absurd (n x s)
  shown_status _ (no_such_config _ o) b x s e = absurd (two_names x o.bundle s o.spelled e o.other)
  shown_status _ (manual _ text m) b x s e = refl

  same_status : (a b : Reply) → ManualReplies config input a → ManualReplies config input b → status_of a ≡ status_of b
  same_status _ b (no_bundle number l) h = sym (unread_status b h l.0)
  same_status _ b (not_built i n) h = sym (unbuilt_status b h i n)
  same_status _ b (no_such_config i o) h = sym (unnamed_status b h i o)
  same_status _ b (manual i text m) h = sym (shown_status b h i m.bundle m.spelled m.named)

  manual_status : (reply : Reply) → ManualReplies config input reply → IsReplyStatus (status_of reply)
  manual_status _ (no_bundle number l) = inr (omega arith, omega arith)
  manual_status _ (not_built b n) = inr (omega arith, omega arith)
  manual_status _ (no_such_config b o) = inr (omega arith, omega arith)
  manual_status _ (manual b text m) = inl (omega arith)

pub manual_statuses : ManualStatuses
manual_statuses = record { unread = unread_status; unbuilt = unbuilt_status; unnamed = unnamed_status; shown = shown_status }

pub one_status : (command : Command) (input : List ℕ) (a b : Reply) → Replies command input a → Replies command input b → status_of a ≡ status_of b
one_status (Manual config) input a b h k = same_status config input a b h k
one_status (Refute config kind name) input a b h k = refute_status config kind name input (spells_one (lines_of input)) a b h k
one_status (CheckProof config kind name) input a b h k = check_status config kind name input (spells_one (lines_of input)) a b h k

pub reply_status : (command : Command) (input : List ℕ) (reply : Reply) → Replies command input reply → IsReplyStatus (status_of reply)
reply_status (Manual config) input reply h = manual_status config input reply h
reply_status (Refute config kind name) input reply h = refute_reply_status config kind name input reply h
reply_status (CheckProof config kind name) input reply h = check_reply_status config kind name input reply h
