-- What is shown of a bundle of the first path, and what that has to be.
use Rattle.std.specs.Prelude.{List}
use Rattle.udb_base.specs.declared.spaces.Full.{Full}
use Rattle.udb_spec.specs.Spaces.{Completes}
use Rattle.idl_tree.specs.declared.statements.Stmt.{Stmt}
use Rattle.first_spec.specs.declared.bundle.FirstBundle.{FirstBundle}
use Rattle.manual_spec.specs.Entries.{space_of}
use Rattle.manual_spec.specs.Faithful.{KeepsMean}
use Rattle.manual_spec.specs.Settled.{SettlesEntry}
use Rattle.first_prune.specs.Known.{known_of, entries_of, partial_of, completion_with, no_program}
use Rattle.first_prune.specs.Pruning.{pruned}

-- the body of its instruction, pruned with the given values
abbrev pub shown_of : FirstBundle → List Stmt
shown_of x = pruned (known_of x.config.params) x.instruction.operation.statements

abbrev pub completion_of : FirstBundle → Full
completion_of x = completion_with (known_of x.config.params) x.params

abbrev pub CompletesFirst : FirstBundle → Full → Type 0
CompletesFirst x full = Completes (space_of (entries_of x)) (partial_of x.config) full

-- the statements have every outcome of the body, and are never stuck
abbrev pub KeepsFirst : FirstBundle → List Stmt → Type 0
KeepsFirst x shown =
    KeepsMean (space_of (entries_of x)) (partial_of x.config) (record { whole = no_program; shown = no_program })
    x.instruction shown

-- no test of the statements is decided where it stands, and no parameter with one value is named
abbrev pub SettlesFirst : FirstBundle → List Stmt → Type 0
SettlesFirst x shown = SettlesEntry (entries_of x) (partial_of x.config) x.instruction shown
