-- The replies of one command to one input have one status, and it is that of a reply.
use Rattle.std.proofs.Common.{◌≡◌, ◌≤◌, ◌<◌, ℕ, List, length, get_or, None, Some, IsTrue, refl, sym, ap, ◌∙◌, subst, arith, inl, inr}
use Rattle.std.specs.List.Sorted.{IsPermutation}
use Rattle.std.proofs.lemmas.List.{get_or_default}
use Rattle.std.proofs.lemmas.List.Sorted.{All-permutation}
use Rattle.udb_base.specs.declared.kinds.Kind.{Kind}
use Rattle.udb_base.specs.declared.kinds.Kind.TheVariants as kind_is
use Rattle.udb_base.specs.declared.rows.Row.{Row}
use Rattle.udb_base.specs.declared.conditions.Cond.{Cond}
use Rattle.udb_base.specs.declared.refutations.Partial.{Partial}
use Rattle.udb_base.specs.declared.spaces.Space.{Space}
use Rattle.udb_entry.specs.declared.answers.Entry.{Entry}
use Rattle.db_spec.specs.Kinds.{is_read_kind}
use Rattle.udb_bundle.specs.declared.bundle.Bundle.{Bundle}
use Rattle.udb_bundle.specs.Bundles.{Spells}
use Rattle.db_spec.specs.Entries.{kind_of, name_of}
use Rattle.db_spec.specs.Breaks.{IsRowAt, IsEntryAt}
use Rattle.udb_entry.specs.Rules.{Lines}
use Rattle.db_spec.specs.declared.broken.Broken.{Broken}
use Rattle.db_spec.specs.Rules.{Rule, rule_number}
use Rattle.db_spec.specs.Sites.{Site, entry, database}
use Rattle.db_spec.specs.First.{HasReadKinds, IsFirst, told}
use Rattle.db_spec.proofs.EntryLaws.{gives_kind, gives_name, give_long, gives_at}
use Rattle.udb_db.specs.Databases.{FindsEntry, FindsConfig}
use Rattle.udb_command.specs.declared.replies.Reply.{Reply}
use Rattle.udb_command.specs.Replies.{status_of, IsReplyStatus}
use Rattle.udb_search.specs.Replies as spec
use Rattle.udb_search.proofs.SameRows.{same_tables}

-- ---- what is found is there

entry_row : (rows : List Row) (k : Kind) (n : List ℕ) (es : List Entry) (e : Entry) → HasReadKinds rows → IsEntryAt rows k n es e → (row : Row) × IsRowAt rows k n row
entry_row rows k n es e kinds at =
    let i = at.among.0 in
    let in_rows : i < length rows = omega (arith, give_long rows es at.give, at.among.1) in
    let x = gives_at rows es i at.give in_rows in
    let same : x.entry ≡ e = x.entry_is ∙ (get_or_default es i x.entry e at.among.1 ∙ at.among.2) in (
      x.row,
      record {
        among = (i, in_rows, sym x.row_is);
        of_kind = sym (gives_kind x.row x.entry x.gives) ∙ (ap kind_of same ∙ at.of_kind);
        of_name = sym (gives_name x.row x.entry x.gives) ∙ (ap name_of same ∙ at.of_name);
      },
    )

config_there : (rows : List Row) (n : List ℕ) (part : Partial) → HasReadKinds rows → FindsConfig rows n None → FindsConfig rows n (Some part) → ⊥
config_there rows n part kinds none found = let r = entry_row rows kind_is.Config n found.0 _ kinds found.2 in none r.0 r.1

entry_there : (rows : List Row) (k : Kind) (n : List ℕ) (e : Entry) → HasReadKinds rows → FindsEntry rows k n None → FindsEntry rows k n (Some e) → ⊥
entry_there rows k n e kinds none found = let r = entry_row rows k n found.0 e kinds found.1 in none r.0 r.1

-- ---- replies to names

lacking_status : (rows : List Row) (config : List ℕ) (kind : Kind) (name : List ℕ) (reply : Reply) → spec.LacksName rows config kind name reply → status_of reply ≡ 9
lacking_status rows config kind name reply (spec.no_config n e) = ap status_of e
lacking_status rows config kind name reply (spec.no_entry part c n e) = ap status_of e

asked_is_there : (rows : List Row) (config : List ℕ) (kind : Kind) (name : List ℕ) (reply : Reply) (space : Space) (part : Partial) (cond : Cond) → HasReadKinds rows → spec.LacksName rows config kind name reply → spec.IsAsked rows config kind name space part cond → ⊥
asked_is_there rows config kind name reply space part cond kinds (spec.no_config n e) asked = config_there rows config part kinds n asked.part_is
asked_is_there rows config kind name reply space part cond kinds (spec.no_entry p c n e) asked = entry_there rows kind name asked.entry kinds n asked.entry_is

module _ (A : Space → Partial → Cond → List ℕ → Type 0) (rows : List Row) (config : List ℕ) (kind : Kind) (name : List ℕ) (kinds : HasReadKinds rows) where
  pub reply_to_status : (x y : Reply) → spec.IsReplyTo A rows config kind name x → spec.IsReplyTo A rows config kind name y → status_of x ≡ status_of y
  reply_to_status x y (spec.unnamed l) (spec.unnamed m) = lacking_status rows config kind name x l ∙ sym (lacking_status rows config kind name y m)
  reply_to_status x y (spec.unnamed l) (spec.answered s p c t asked a e) = absurd (asked_is_there rows config kind name x s p c kinds l asked)
  reply_to_status x y (spec.answered s p c t asked a e) (spec.unnamed l) = absurd (asked_is_there rows config kind name y s p c kinds l asked)
  reply_to_status x y (spec.answered s p c t asked a e) (spec.answered s' p' c' t' asked' a' e') = ap status_of e ∙ sym (ap status_of e')

-- ---- replies to tables

refute_tables : (config : List ℕ) (kind : Kind) (name : List ℕ) (b : Bundle) (rows : List Row) → HasReadKinds rows → (x y : Reply) → spec.RefuteReply config kind name b rows x → spec.RefuteReply config kind name b rows y → status_of x ≡ status_of y
refute_tables config kind name b rows kinds x y (spec.RefuteReply.broken f h e) (spec.RefuteReply.broken g i d) = ap status_of e ∙ sym (ap status_of d)
refute_tables config kind name b rows kinds x y (spec.RefuteReply.broken f h e) (spec.RefuteReply.found s r) = absurd (s h.site h.rule h.shows h.first.breaks)
refute_tables config kind name b rows kinds x y (spec.RefuteReply.found s r) (spec.RefuteReply.broken f h e) = absurd (s h.site h.rule h.shows h.first.breaks)
refute_tables config kind name b rows kinds x y (spec.RefuteReply.found s r) (spec.RefuteReply.found t q) = reply_to_status spec.IsFoundText rows config kind name kinds x y r q

told_rule : (site : Site) (rule : Rule) (shows : Lines) → (told site rule shows).rule ≡ rule_number rule
told_rule (entry kind name) rule shows = refl
told_rule database rule shows = refl

early : (rows : List Row) (first : Broken) (h : IsFirst rows first) → first.rule ≤ spec.last_name_rule → rule_number h.rule ≤ spec.last_name_rule
early rows first h n = let is : first.rule ≡ rule_number h.rule = ap (λ (b : Broken). b.rule) h.is ∙ told_rule h.site h.rule h.shows in subst (λ k. k ≤ spec.last_name_rule) is n

check_tables : (config : List ℕ) (kind : Kind) (name : List ℕ) (b : Bundle) (rows : List Row) → HasReadKinds rows → (x y : Reply) → spec.CheckReply config kind name b rows x → spec.CheckReply config kind name b rows y → status_of x ≡ status_of y
check_tables config kind name b rows kinds x y (spec.CheckReply.broken f h n e) (spec.CheckReply.broken g i m d) = ap status_of e ∙ sym (ap status_of d)
check_tables config kind name b rows kinds x y (spec.CheckReply.broken f h n e) (spec.CheckReply.checked s r) = absurd (s h.site h.rule h.shows (early rows f h n) h.first.breaks)
check_tables config kind name b rows kinds x y (spec.CheckReply.checked s r) (spec.CheckReply.broken f h n e) = absurd (s h.site h.rule h.shows (early rows f h n) h.first.breaks)
check_tables config kind name b rows kinds x y (spec.CheckReply.checked s r) (spec.CheckReply.checked t q) = reply_to_status (spec.IsVerdict b.proof) rows config kind name kinds x y r q

-- ---- replies to inputs, which spell at most one bundle

tables_kinds : (b : Bundle) (rows : List Row) → spec.IsBuilt b → spec.IsTables b rows → HasReadKinds rows
tables_kinds b rows u t = All-permutation (λ r. IsTrue (is_read_kind r.kind)) b.rows rows t.same u.kinds

module _ (P : Bundle → List Row → Reply → Type 0) (each : (b : Bundle) (rows : List Row) → HasReadKinds rows → (x y : Reply) → P b rows x → P b rows y → status_of x ≡ status_of y) (input : List ℕ) (one : (a b : Bundle) → Spells input a → Spells input b → a ≡ b) where
  from_status : (x y : Reply) → spec.FromBundle P input x → spec.FromBundle P input y → status_of x ≡ status_of y
  from_status x y (spec.no_bundle n f e) (spec.no_bundle m g d) = ap status_of e ∙ sym (ap status_of d)
  from_status x y (spec.no_bundle n f e) (spec.not_built b s u d) = absurd (f.0 b s)
  from_status x y (spec.no_bundle n f e) (spec.tables b rows s u t p) = absurd (f.0 b s)
  from_status x y (spec.not_built b s u d) (spec.no_bundle n f e) = absurd (f.0 b s)
  from_status x y (spec.not_built b s u d) (spec.not_built c t v e) = ap status_of d ∙ sym (ap status_of e)
  from_status x y (spec.not_built b s u d) (spec.tables c rows t v k p) = absurd (u (subst spec.IsBuilt (one c b t s) v))
  from_status x y (spec.tables b rows s u t p) (spec.no_bundle n f e) = absurd (f.0 b s)
  from_status x y (spec.tables b rows s u t p) (spec.not_built c v w e) = absurd (w (subst spec.IsBuilt (one b c s v) u))
  from_status x y (spec.tables b rows s u t p) (spec.tables c cols v w k q) =
      let same : b ≡ c = one b c s v in
      let list : rows ≡ cols = same_tables b.rows rows cols t.same (subst (λ d. IsPermutation d.rows cols) (sym same) k.same) t.order k.order in
      each b rows (tables_kinds b rows u t) x y p (subst (λ r. P b r y) (sym list) (subst (λ d. P d cols y) (sym same) q))

pub refute_status : (config : List ℕ) (kind : Kind) (name input : List ℕ) → ((a b : Bundle) → Spells input a → Spells input b → a ≡ b) → (x y : Reply) → spec.RefuteReplies config kind name input x → spec.RefuteReplies config kind name input y → status_of x ≡ status_of y
refute_status config kind name input one = from_status (spec.RefuteReply config kind name) (refute_tables config kind name) input one

pub check_status : (config : List ℕ) (kind : Kind) (name input : List ℕ) → ((a b : Bundle) → Spells input a → Spells input b → a ≡ b) → (x y : Reply) → spec.CheckReplies config kind name input x → spec.CheckReplies config kind name input y → status_of x ≡ status_of y
check_status config kind name input one = from_status (spec.CheckReply config kind name) (check_tables config kind name) input one

-- ---- each has the status of a reply

is_reply : (reply : Reply) (n : ℕ) → status_of reply ≡ n → IsReplyStatus n → IsReplyStatus (status_of reply)
is_reply reply n e h = subst IsReplyStatus (sym e) h

named_reply : (A : Space → Partial → Cond → List ℕ → Type 0) (rows : List Row) (config : List ℕ) (kind : Kind) (name : List ℕ) (x : Reply) → spec.IsReplyTo A rows config kind name x → IsReplyStatus (status_of x)
named_reply A rows config kind name x (spec.unnamed l) = is_reply x 9 (lacking_status rows config kind name x l) (inr (omega arith, omega arith))
named_reply A rows config kind name x (spec.answered s p c t asked a e) = is_reply x 0 (ap status_of e) (inl (omega arith))

refute_table_reply : (config : List ℕ) (kind : Kind) (name : List ℕ) (b : Bundle) (rows : List Row) (x : Reply) → spec.RefuteReply config kind name b rows x → IsReplyStatus (status_of x)
refute_table_reply config kind name b rows x (spec.RefuteReply.broken f h e) = is_reply x 1 (ap status_of e) (inl (omega arith))
refute_table_reply config kind name b rows x (spec.RefuteReply.found s r) = named_reply spec.IsFoundText rows config kind name x r

check_table_reply : (config : List ℕ) (kind : Kind) (name : List ℕ) (b : Bundle) (rows : List Row) (x : Reply) → spec.CheckReply config kind name b rows x → IsReplyStatus (status_of x)
check_table_reply config kind name b rows x (spec.CheckReply.broken f h n e) = is_reply x 1 (ap status_of e) (inl (omega arith))
check_table_reply config kind name b rows x (spec.CheckReply.checked s r) = named_reply (spec.IsVerdict b.proof) rows config kind name x r

from_reply : (P : Bundle → List Row → Reply → Type 0) → ((b : Bundle) (rows : List Row) (x : Reply) → P b rows x → IsReplyStatus (status_of x)) → (input : List ℕ) (x : Reply) → spec.FromBundle P input x → IsReplyStatus (status_of x)
from_reply P each input x (spec.no_bundle n f e) = is_reply x 10 (ap status_of e) (inr (omega arith, omega arith))
from_reply P each input x (spec.not_built b s u e) = is_reply x 12 (ap status_of e) (inr (omega arith, omega arith))
from_reply P each input x (spec.tables b rows s u t p) = each b rows x p

pub refute_reply_status : (config : List ℕ) (kind : Kind) (name input : List ℕ) (x : Reply) → spec.RefuteReplies config kind name input x → IsReplyStatus (status_of x)
refute_reply_status config kind name = from_reply (spec.RefuteReply config kind name) (refute_table_reply config kind name)

pub check_reply_status : (config : List ℕ) (kind : Kind) (name input : List ℕ) (x : Reply) → spec.CheckReplies config kind name input x → IsReplyStatus (status_of x)
check_reply_status config kind name = from_reply (spec.CheckReply config kind name) (check_table_reply config kind name)
