-- Read entries: their keys, the conditions that they hold, their space.
use Rattle.std.specs.Prelude.{◌≡◌, ◌++◌, ℕ, List, [], ◌∷◌, map, codes}
use Rattle.std.specs.List.{flat_map, Any}
use Rattle.udb_base.specs.declared.kinds.Kind.{Kind}
use Rattle.udb_base.specs.declared.kinds.Kind.TheVariants as kind
use Rattle.udb_base.specs.declared.conditions.Test.TheVariants.{Equal}
use Rattle.udb_base.specs.declared.conditions.Cond.{Cond}
use Rattle.udb_base.specs.declared.conditions.Cond.TheVariants as c
use Rattle.udb_base.specs.declared.refutations.Partial.{Partial}
use Rattle.udb_base.specs.declared.spaces.ParamSpace.{ParamSpace}
use Rattle.udb_base.specs.declared.spaces.Space.{Space}
use Rattle.udb_spec.specs.Lawful.{ListsWidths}
use Rattle.entry_tree.specs.declared.ExtensionEntry.{ExtensionEntry}
use Rattle.entry_tree.specs.declared.ParamEntry.{ParamEntry}
use Rattle.entry_tree.specs.declared.InstructionEntry.{InstructionEntry}
use Rattle.entry_tree.specs.declared.CsrEntry.{CsrEntry}
use Rattle.entry_tree.specs.declared.FunctionsEntry.{FunctionsEntry}
use Rattle.entry_tree.specs.declared.Given.{Given}
use Rattle.entry_tree.specs.declared.ConfigEntry.{ConfigEntry}
use Rattle.manual_spec.specs.Entries as manual
use Rattle.udb_entry.specs.declared.answers.Entry.{Entry}
use Rattle.udb_entry.specs.declared.answers.Entry.TheVariants.{Extension, Param, Instruction, Csr, Functions, Config}
use Rattle.udb_entry.specs.Config.{present, config_constraints}

-- ---- keys

abbrev pub kind_of : Entry → Kind
kind_of (Extension x) = kind.Extension
kind_of (Param x) = kind.Parameter
kind_of (Instruction x) = kind.Instruction
kind_of (Csr x) = kind.Csr
kind_of (Functions x) = kind.Functions
kind_of (Config x) = kind.Config

abbrev pub name_of : Entry → List ℕ
name_of (Extension x) = x.name
name_of (Param x) = x.name
name_of (Instruction x) = x.name
name_of (Csr x) = x.name
name_of (Functions x) = x.name
name_of (Config x) = x.name

-- ---- the space

abbrev pub extension_in : Entry → List ExtensionEntry
extension_in (Extension x) = x ∷ []
extension_in _ = []

abbrev pub param_in : Entry → List ParamEntry
param_in (Param x) = x ∷ []
param_in _ = []

abbrev pub instruction_in : Entry → List InstructionEntry
instruction_in (Instruction x) = x ∷ []
instruction_in _ = []

abbrev pub csr_in : Entry → List CsrEntry
csr_in (Csr x) = x ∷ []
csr_in _ = []

abbrev pub functions_in : Entry → List FunctionsEntry
functions_in (Functions x) = x ∷ []
functions_in _ = []

-- the entries of each kind, of which the manual is made
abbrev pub entries_of : List Entry → manual.Entries
entries_of es = record {
  extensions = flat_map extension_in es;
  params = flat_map param_in es;
  instructions = flat_map instruction_in es;
  csrs = flat_map csr_in es;
  functions = flat_map functions_in es;
}

-- the space that configurations choose from
abbrev pub space_of : List Entry → Space
space_of es = manual.space_of (entries_of es)

-- ---- conditions

-- a value that a configuration gives a parameter, as a condition
abbrev pub given : Given → Cond
given g = c.Param g.name Equal g.value

-- the conditions that an entry holds; what a configuration names counts as one. Those of instructions, CSRs and functions
-- come with the rules that examine these.
abbrev pub conditions_of : Entry → List Cond
conditions_of (Extension x) = x.needs ∷ []
conditions_of (Param x) = x.defined ∷ x.needs ∷ []
conditions_of (Instruction x) = []
conditions_of (Csr x) = []
conditions_of (Functions x) = []
conditions_of (Config x) = map given x.params ++ (map present x.mandatory ++ (map present x.prohibited ++ map present x.implemented))

-- the parameter of the width of a register
abbrev pub width_name : List ℕ
width_name = codes "MXLEN"

-- what the entry says depends on MXLEN; instructions and CSRs add what they say
abbrev pub DependsOnWidth : Entry → Type 0
DependsOnWidth (Extension x) = ⊥
DependsOnWidth (Param x) = x.name ≡ width_name
DependsOnWidth (Instruction x) = ⊥
DependsOnWidth (Csr x) = ⊥
DependsOnWidth (Functions x) = ⊥
DependsOnWidth (Config x) = ⊥

-- a parameter MXLEN whose domain lists only 32 and 64
abbrev pub IsWidths : ParamSpace → Type 0
IsWidths p = (p.name ≡ width_name) × ListsWidths p.domain

-- there is one
abbrev pub HasWidths : Space → Type 0
HasWidths space = Any IsWidths space.params

-- the condition under which a full configuration has the entry, as it is asked in a search. An instruction adds its base and
-- the bases of its encodings once instructions are examined.
abbrev pub asked : Entry → Cond
asked (Extension x) = c.Ext x.name []
asked (Param x) = x.defined
asked (Instruction x) = x.defined
asked (Csr x) = x.defined
asked (Functions x) = c.Always
asked (Config x) = c.Always

-- ---- configurations

abbrev pub unconfigured : Partial
unconfigured = record { constraints = [] }

-- the constraints that a configuration adds to the space
abbrev pub part_of : Space → ConfigEntry → Partial
part_of space x = record { constraints = config_constraints space x }
