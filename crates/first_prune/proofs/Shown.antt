-- What is shown of a bundle's body keeps its outcomes and is settled, and the manual's completion
-- completes the configuration.
use Rattle.std.proofs.Common.{◌≡◌, Bool, true, false, List, [], ◌∷◌, map, ap, sym, ◌∙◌, subst, refl, Option, None}
use Rattle.std.specs.Prelude.{All, ◌≢◌, ◌&&◌, find, is_some, Result, Ok, Err, IfOk}
use Rattle.std.proofs.lemmas.List.Elements.{All-nil}
use Rattle.udb_base.specs.declared.spaces.Space.{Space}
use Rattle.udb_base.specs.declared.spaces.Full.{Full}
use Rattle.udb_spec.specs.Conditions.{holds}
use Rattle.udb_spec.specs.Spaces.{Completes, mxlen}
use Rattle.idl_tree.specs.declared.statements.Stmt.{Stmt}
use Rattle.idl_tree.specs.declared.programs.Variable.{Variable}
use Rattle.idl_spec.specs.Harts.{State, Outcome, done, stuck, and_then}
use Rattle.idl_spec.specs.Values.{Value as Meant}
use Rattle.idl_spec.specs.Settings.{Flow}
use Rattle.idl_spec.specs.Fields.{is_for}
use Rattle.idl_spec.specs.Mean.{mean_stmts}
use Rattle.idl_spec.specs.Programs.{mean, as_operation, loud_setting, returned, without_value}
use Rattle.entry_tree.specs.declared.ParamEntry.{ParamEntry}
use Rattle.entry_tree.specs.declared.Encoding.{Encoding}
use Rattle.entry_tree.specs.declared.InstructionEntry.{InstructionEntry}
use Rattle.entry_tree.specs.declared.Given.{Given}
use Rattle.entry_tree.specs.declared.ConfigKind.{ConfigKind}
use Rattle.entry_tree.specs.declared.ConfigKind.TheVariants as kind
use Rattle.first_spec.specs.declared.bundle.FirstBundle.{FirstBundle}
use Rattle.first_spec.specs.Bundle.{IsGiven, Rise, GivesParams, IsInstruction, IsFirst}
use Rattle.hart_spec.specs.Presence.{has_instruction, suits_base, encoding_for}
use Rattle.manual_spec.specs.Entries.{space_of, HasInstruction}
use Rattle.first_prune.specs.Known.{Known, known_of, entries_of, partial_of, completion_with, no_program}
use Rattle.first_prune.specs.Pruning.{pruned}
use Rattle.first_prune.specs.Bundles.{shown_of, completion_of, CompletesFirst, KeepsFirst, SettlesFirst}
use Rattle.first_prune.proofs.Worlds.{always_holds, space_with, Extends, first_agrees, made_completes}
use Rattle.first_prune.proofs.Asking.{setting_with}
use Rattle.first_prune.proofs.Steady.{GoOn, all_steady}
use Rattle.first_prune.proofs.Settling.{body_settles}

-- given values are of Boolean parameters, and their names rise
record AreGiven (params : List ParamEntry) (givens : List Given) : Type 0 where
  switches : All (IsGiven params) givens
  rises : Rise (map (λ g. g.name) givens)

are_given : (params : List ParamEntry) (k : ConfigKind) (givens : List Given) → GivesParams params k givens → AreGiven params givens
are_given params kind.Unconfigured givens h = subst (AreGiven params) (sym h) (record { switches = All-nil (IsGiven params); rises = tt })
are_given params kind.Partially givens h = record { switches = h.1.0; rises = h.1.1 }
are_given params kind.Fully givens h = absurd h

given_of : (x : FirstBundle) → IsFirst x → AreGiven x.params x.config.params
given_of x h = are_given x.params x.config.kind x.config.params h.config.gives

-- what keeps the given values makes a completion
pub completes_with : (x : FirstBundle) → IsFirst x → (known : Known) → Extends x.config.params known → Completes (space_of (entries_of x)) (partial_of x.config) (completion_with known x.params)
completes_with x h known e = made_completes x.params h.params x.config.params (given_of x h).switches (given_of x h).rises known e

pub completes : (x : FirstBundle) → IsFirst x → CompletesFirst x (completion_of x)
completes x h = completes_with x h (known_of x.config.params) (record { extends = λ name b e. e })

-- the outcome of an operation whose statements go on
abbrev ended : Outcome Flow → Outcome (Option Meant)
ended o = and_then (and_then o (λ flow t. done (returned flow) t)) without_value

-- the meaning of an operation without variables that names neither functions nor CSRs
mean_is : (space : Space) (full : Full) (variables : List Variable) (statements : List Stmt) (state : State) → variables ≡ [] → mean space full no_program as_operation (record { variables = variables; statements = statements }) state ≡ ended (mean_stmts (setting_with space full) statements [] state)
unfolding mean loud_setting
mean_is space full [] statements state e = refl
mean_is space full (v ∷ vs) statements state e = absurd (cc)

not_stuck : (next : State) (o : Outcome (Option Meant)) → o ≡ done None next → o ≢ stuck
not_stuck next o e h = cc

pub keeps : (x : FirstBundle) → IsFirst x → KeepsFirst x (shown_of x)
keeps x h full complete has state is_state =
    let space : Space = space_with x.params in
    let statements : List Stmt = x.instruction.operation.statements in
    let variables : List Variable = x.instruction.operation.variables in
    let known : Known = known_of x.config.params in
    let g : GoOn space full statements (pruned known statements) state =
    all_steady x.params h.params full complete.valid 0 statements h.instruction.statements known
    (first_agrees x.params h.params x.config.params (given_of x h).switches (given_of x h).rises full complete) state in
    let whole : mean space full no_program as_operation x.instruction.operation state ≡ done None g.next =
    mean_is space full variables statements state h.instruction.variables ∙ ap ended g.whole_goes in
    let shown : mean space full no_program as_operation (record x.instruction.operation { statements = pruned known statements }) state ≡ done None g.next =
    mean_is space full variables (pruned known statements) state h.instruction.variables ∙ ap ended g.shown_goes in
    record {
      same = shown ∙ sym whole;
      never_stuck = not_stuck g.next (mean space full no_program as_operation (record x.instruction.operation { statements = pruned known statements }) state) shown;
    }

both_so : (a b c : Bool) → a ≡ true → b ≡ true → c ≡ true → (a && (b && c)) ≡ true
both_so true true true h k l = refl
both_so false b c h k l = absurd (cc)
both_so true false c h k l = absurd (cc)
both_so true true false h k l = absurd (cc)

-- every full configuration has the instruction of a bundle
pub has_first : (space : Space) (full : Full) (params : List ParamEntry) (x : InstructionEntry) → IsInstruction params x → HasInstruction space full x
unfolding has_instruction
has_first space full params x h =
    both_so (holds space full x.defined) (suits_base (mxlen space full) x.base) (is_some (encoding_for (mxlen space full) x))
    (always_holds space full x.defined h.defined)
    (ap (suits_base (mxlen space full)) h.base)
    (ap (λ (es : List Encoding). is_some (find (λ one. is_for (mxlen space full) one.base) es)) h.encodings)

pub settles : (x : FirstBundle) → IsFirst x → SettlesFirst x (shown_of x)
settles x h =
    body_settles x.params h.params x.config.params (given_of x h).switches (given_of x h).rises
    (λ full. HasInstruction (space_of (entries_of x)) full x.instruction)
    (λ full. has_first (space_of (entries_of x)) full x.params x.instruction h.instruction)
    0 x.instruction.operation.statements h.instruction.statements

-- of a result that has what is shown
module _ (x : FirstBundle) (givens : List Given) (statements : List Stmt) (same_givens : givens ≡ x.config.params) (same_statements : statements ≡ x.instruction.operation.statements) where
  same_shown : (shown : List Stmt) → shown ≡ pruned (known_of givens) statements → shown ≡ shown_of x
  same_shown shown e = e ∙ (ap (λ (g : List Given). pruned (known_of g) statements) same_givens ∙ ap (λ (ss : List Stmt). pruned (known_of x.config.params) ss) same_statements)

  pub result_keeps : {E : Type 0} (r : Result (List Stmt) E) → IfOk r (λ shown. shown ≡ pruned (known_of givens) statements) → IfOk r (λ shown. IsFirst x → KeepsFirst x shown)
  result_keeps (Ok shown) e = λ h. subst (KeepsFirst x) (sym (same_shown shown e)) (keeps x h)
  result_keeps (Err why) e = tt

  pub result_settles : {E : Type 0} (r : Result (List Stmt) E) → IfOk r (λ shown. shown ≡ pruned (known_of givens) statements) → IfOk r (λ shown. IsFirst x → SettlesFirst x shown)
  result_settles (Ok shown) e = λ h. subst (SettlesFirst x) (sym (same_shown shown e)) (settles x h)
  result_settles (Err why) e = tt
