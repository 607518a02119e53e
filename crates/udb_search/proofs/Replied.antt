-- From what the steps answer to replies.
use Rattle.std.proofs.Common.{◌≡◌, ◌≤◌, ℕ, List, Option, None, Some, Result, IfOk, IsTrue, subst, refl, sym}
use Rattle.std.proofs.lemmas.Result.{IfOk-weaker}
use Rattle.udb_base.specs.declared.kinds.Kind.{Kind}
use Rattle.udb_base.specs.declared.rows.Row.{Row}
use Rattle.udb_base.specs.declared.conditions.Cond.{Cond}
use Rattle.udb_base.specs.declared.refutations.Partial.{Partial}
use Rattle.udb_base.specs.declared.refutations.Proof.{Proof}
use Rattle.udb_base.specs.declared.spaces.Space.{Space}
use Rattle.udb_base.specs.Lines.{Lines}
use Rattle.udb_spec.specs.Refutes.{first_wrong}
use Rattle.udb_spec.specs.ProofText.{is_named, SpellsProof, SpellProof, IsFirstBadLine}
use Rattle.udb_refute.specs.declared.search.Found.{Found}
use Rattle.udb_refute.specs.declared.search.Found.TheVariants.{Refuted}
use Rattle.udb_refute.specs.Answers.{IsAnswer}
use Rattle.udb_bundle.specs.declared.bundle.Bundle.{Bundle}
use Rattle.udb_bundle.specs.Bundles.{Spells}
use Rattle.udb_bundle.specs.Faults.{IsFaultLine}
use Rattle.db_spec.specs.declared.broken.Broken.{Broken}
use Rattle.db_spec.specs.First.{IsFirst, Sound, KeepsUpTo}
use Rattle.udb_db.specs.Databases.{IsSpaceOf, FindsEntry, FindsConfig}
use Rattle.udb_db.proofs.NamedProofs.{refuted_named}
use Rattle.udb_command.specs.declared.replies.Reply.{Reply}
use Rattle.udb_command.specs.declared.replies.Reply.TheVariants.{Refused}
use Rattle.udb_search.specs.declared.commands.Names.{Names}
use Rattle.udb_search.specs.declared.commands.Names.TheVariants.{Lacking, Asked}
use Rattle.udb_search.specs.Texts.{broken_text, no_bundle_text, not_built_text, no_such_text, bad_line_text, rejected_text}
use Rattle.udb_search.specs.Replies as spec
use Rattle.udb_search.specs.Steps.{IsDone, AreNames, IsTablesOf}

-- ---- what is searched and checked

-- a proof that is found names places of the space
pub found_named : (space : Space) (part : Partial) (cond : Cond) (found : Found) (proof : Proof) → IsAnswer space part cond found → found ≡ Refuted proof → IsTrue (is_named space proof)
found_named space part cond found proof h e = refuted_named space part cond proof (subst (IsAnswer space part cond) e h).0

pub rejects : {E : Type 0} (space : Space) (part : Partial) (cond : Cond) (proof : Proof) (path : List ℕ) → first_wrong space part cond proof ≡ Some path → (r : Result (List ℕ) E) → IfOk r (λ text. text ≡ rejected_text path) → IfOk r (spec.IsVerdictOn space part cond proof)
rejects space part cond proof path h r = IfOk-weaker r (λ text. text ≡ rejected_text path) (spec.IsVerdictOn space part cond proof) (λ text e. spec.rejected path h e)

pub reads : {E : Type 0} (lines : Lines) (space : Space) (part : Partial) (cond : Cond) (proof : Proof) → SpellsProof space lines proof → (r : Result (List ℕ) E) → IfOk r (spec.IsVerdictOn space part cond proof) → IfOk r (spec.IsVerdict lines space part cond)
reads lines space part cond proof h r = IfOk-weaker r (spec.IsVerdictOn space part cond proof) (spec.IsVerdict lines space part cond) (λ text v. spec.read proof h v)

pub unread : {E : Type 0} (lines : Lines) (space : Space) (part : Partial) (cond : Cond) (number : ℕ) → IsFirstBadLine (SpellProof space) lines number → (r : Result (List ℕ) E) → IfOk r (λ text. text ≡ bad_line_text number) → IfOk r (spec.IsVerdict lines space part cond)
unread lines space part cond number h r = IfOk-weaker r (λ text. text ≡ bad_line_text number) (spec.IsVerdict lines space part cond) (λ text e. spec.unread number h e)

-- ---- names

pub lacks_entry : {E : Type 0} (rows : List Row) (config : List ℕ) (kind : Kind) (name : List ℕ) (found : Option Partial) (part : Partial) → FindsConfig rows config found → found ≡ Some part → FindsEntry rows kind name None → (r : Result Names E) → IfOk r (λ names. names ≡ Lacking (Refused 9 (no_such_text kind name))) → IfOk r (AreNames rows config kind name)
lacks_entry rows config kind name found part c e n r =
    IfOk-weaker r (λ names. names ≡ Lacking (Refused 9 (no_such_text kind name))) (AreNames rows config kind name)
    (λ names is. rw is (spec.no_entry part (subst (FindsConfig rows config) e c) n cc))

pub lacking_reply : (A : Space → Partial → Cond → List ℕ → Type 0) (rows : List Row) (config : List ℕ) (kind : Kind) (name : List ℕ) (names : Names) (reply : Reply) → AreNames rows config kind name names → names ≡ Lacking reply → spec.IsReplyTo A rows config kind name reply
lacking_reply A rows config kind name names reply h e = spec.unnamed (subst (AreNames rows config kind name) e h)

pub asked_reply : {E : Type 0} (A : Space → Partial → Cond → List ℕ → Type 0) (rows : List Row) (config : List ℕ) (kind : Kind) (name : List ℕ) (names : Names) (part : Partial) (cond : Cond) (space : Space) → AreNames rows config kind name names → names ≡ Asked part cond → IsSpaceOf rows space → (r : Result Reply E) → IfOk r (IsDone A space part cond) → IfOk r (spec.IsReplyTo A rows config kind name)
asked_reply A rows config kind name names part cond space h e s r =
    let asked : spec.IsAsked rows config kind name space part cond = subst (AreNames rows config kind name) e h space s in
    IfOk-weaker r (IsDone A space part cond) (spec.IsReplyTo A rows config kind name) (λ reply d. spec.answered space part cond d.0 asked d.1 d.2)

-- ---- tables

pub broken_refute : {E : Type 0} (config : List ℕ) (kind : Kind) (name : List ℕ) (rows : List Row) (first : Broken) → IsFirst rows first → (r : Result Reply E) → IfOk r (λ reply. reply ≡ Refused 1 (broken_text first)) → IfOk r (λ reply. (b : Bundle) → spec.RefuteReply config kind name b rows reply)
broken_refute config kind name rows first h r =
    IfOk-weaker r (λ reply. reply ≡ Refused 1 (broken_text first)) (λ reply. (b : Bundle) → spec.RefuteReply config kind name b rows reply) (λ reply e b. spec.RefuteReply.broken first h e)

pub broken_check : {E : Type 0} (config : List ℕ) (kind : Kind) (name : List ℕ) (rows : List Row) (lines : Lines) (first : Broken) → IsFirst rows first → first.rule ≤ spec.last_name_rule → (r : Result Reply E) → IfOk r (λ reply. reply ≡ Refused 1 (broken_text first)) → IfOk r (λ reply. (b : Bundle) → b.proof ≡ lines → spec.CheckReply config kind name b rows reply)
broken_check config kind name rows lines first h n r =
    IfOk-weaker r (λ reply. reply ≡ Refused 1 (broken_text first)) (λ reply. (b : Bundle) → b.proof ≡ lines → spec.CheckReply config kind name b rows reply) (λ reply e b is. spec.CheckReply.broken first h n e)

-- ---- bundles

pub unbundled : {E : Type 0} (P : Bundle → List Row → Reply → Type 0) (input : List ℕ) (number : ℕ) → IsFaultLine input number → (r : Result Reply E) → IfOk r (λ reply. reply ≡ Refused 10 (no_bundle_text number)) → IfOk r (spec.FromBundle P input)
unbundled P input number h r = IfOk-weaker r (λ reply. reply ≡ Refused 10 (no_bundle_text number)) (spec.FromBundle P input) (λ reply e. spec.no_bundle number h e)

pub unbuilt : {E : Type 0} (P : Bundle → List Row → Reply → Type 0) (input : List ℕ) (b : Bundle) → Spells input b → (spec.IsBuilt b → ⊥) → (r : Result Reply E) → IfOk r (λ reply. reply ≡ Refused 12 not_built_text) → IfOk r (spec.FromBundle P input)
unbuilt P input b s n r = IfOk-weaker r (λ reply. reply ≡ Refused 12 not_built_text) (spec.FromBundle P input) (λ reply e. spec.not_built b s n e)

pub tabled : {E : Type 0} (P : Bundle → List Row → Reply → Type 0) (input : List ℕ) (b : Bundle) (rows : List Row) → Spells input b → spec.IsBuilt b → spec.IsTables b rows → (r : Result Reply E) → IfOk r (P b rows) → IfOk r (spec.FromBundle P input)
tabled P input b rows s u t r = IfOk-weaker r (P b rows) (spec.FromBundle P input) (λ reply p. spec.tables b rows s u t p)

pub untabled : (b : Bundle) (found : Option (List Row)) → IsTablesOf b found → found ≡ None → spec.IsBuilt b → ⊥
untabled b found h e = subst (IsTablesOf b) e h

pub with_tables : (b : Bundle) (found : Option (List Row)) (rows : List Row) → IsTablesOf b found → found ≡ Some rows → spec.IsBuilt b × spec.IsTables b rows
with_tables b found rows h e = let t = subst (IsTablesOf b) e h in (t.0, t.1)

pub refutes_bundle : {E : Type 0} (config : List ℕ) (kind : Kind) (name : List ℕ) (b : Bundle) (rows : List Row) → (r : Result Reply E) → IfOk r (λ reply. (b : Bundle) → spec.RefuteReply config kind name b rows reply) → IfOk r (spec.RefuteReply config kind name b rows)
refutes_bundle config kind name b rows r = IfOk-weaker r (λ reply. (b : Bundle) → spec.RefuteReply config kind name b rows reply) (spec.RefuteReply config kind name b rows) (λ reply p. p b)

pub checks_bundle : {E : Type 0} (config : List ℕ) (kind : Kind) (name : List ℕ) (b : Bundle) (rows : List Row) → (r : Result Reply E) → IfOk r (λ reply. (c : Bundle) → c.proof ≡ b.proof → spec.CheckReply config kind name c rows reply) → IfOk r (spec.CheckReply config kind name b rows)
checks_bundle config kind name b rows r = IfOk-weaker r (λ reply. (c : Bundle) → c.proof ≡ b.proof → spec.CheckReply config kind name c rows reply) (spec.CheckReply config kind name b rows) (λ reply p. p b refl)

pub refuted_by : {E : Type 0} (config : List ℕ) (kind : Kind) (name : List ℕ) (rows tables : List Row) → rows ≡ tables → Sound tables → (r : Result Reply E) → IfOk r (spec.IsReplyTo spec.IsFoundText rows config kind name) → IfOk r (λ reply. (b : Bundle) → spec.RefuteReply config kind name b tables reply)
refuted_by config kind name rows tables same sound r =
    IfOk-weaker r (spec.IsReplyTo spec.IsFoundText rows config kind name) (λ reply. (b : Bundle) → spec.RefuteReply config kind name b tables reply)
    (λ reply h b. spec.RefuteReply.found sound (subst (λ t. spec.IsReplyTo spec.IsFoundText t config kind name reply) same h))

pub checked_by : {E : Type 0} (config : List ℕ) (kind : Kind) (name : List ℕ) (lines : Lines) (rows tables : List Row) → rows ≡ tables → KeepsUpTo 12 tables → (r : Result Reply E) → IfOk r (spec.IsReplyTo (spec.IsVerdict lines) rows config kind name) → IfOk r (λ reply. (b : Bundle) → b.proof ≡ lines → spec.CheckReply config kind name b tables reply)
checked_by config kind name lines rows tables same keeps r =
    IfOk-weaker r (spec.IsReplyTo (spec.IsVerdict lines) rows config kind name) (λ reply. (b : Bundle) → b.proof ≡ lines → spec.CheckReply config kind name b tables reply)
    (λ reply h b e. spec.CheckReply.checked keeps (subst (λ l. spec.IsReplyTo (spec.IsVerdict l) tables config kind name reply) (sym e) (subst (λ t. spec.IsReplyTo (spec.IsVerdict lines) t config kind name reply) same h)))
