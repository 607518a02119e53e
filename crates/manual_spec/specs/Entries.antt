-- The entries that a manual is made from, and when a full configuration has one.
use Rattle.std.specs.Prelude.{IsTrue, List, map, flat_map}
use Rattle.udb_base.specs.declared.spaces.ExtSpace.{ExtSpace}
use Rattle.udb_base.specs.declared.spaces.ParamSpace.{ParamSpace}
use Rattle.udb_base.specs.declared.spaces.Space.{Space}
use Rattle.udb_base.specs.declared.spaces.Full.{Full}
use Rattle.idl_tree.specs.declared.programs.FieldBodies.{FieldBodies}
use Rattle.idl_tree.specs.declared.programs.CsrBody.{CsrBody}
use Rattle.idl_tree.specs.declared.programs.Program.{Program}
use Rattle.entry_tree.specs.declared.ExtensionEntry.{ExtensionEntry}
use Rattle.entry_tree.specs.declared.ParamEntry.{ParamEntry}
use Rattle.entry_tree.specs.declared.InstructionEntry.{InstructionEntry}
use Rattle.entry_tree.specs.declared.CsrEntry.{CsrEntry}
use Rattle.entry_tree.specs.declared.FunctionsEntry.{FunctionsEntry}
use Rattle.hart_spec.specs.Presence.{has_extension, has_parameter, has_instruction, has_csr, has_field}

-- entries of each kind, in the order of their names
pub record Entries : Type 0 where
  pub extensions : List ExtensionEntry
  pub params : List ParamEntry
  pub instructions : List InstructionEntry
  pub csrs : List CsrEntry
  pub functions : List FunctionsEntry

abbrev pub ext_space : ExtensionEntry → ExtSpace
ext_space x = record { name = x.name; versions = x.versions; needs = x.needs }

abbrev pub param_space : ParamEntry → ParamSpace
param_space x = record { name = x.name; domain = x.domain; defined = x.defined; needs = x.needs }

-- the space of the entries
abbrev pub space_of : Entries → Space
space_of entries = record { extensions = map ext_space entries.extensions; params = map param_space entries.params }

abbrev pub csr_body : CsrEntry → CsrBody
csr_body x = record {
  name = x.name;
  present = x.defined;
  address = x.address;
  length = x.length;
  fields = map (λ f. f.bodies) x.fields;
}

-- the program of the entries: functions by their entry's name, then in the order of the text
abbrev pub program_of : Entries → Program
program_of entries =
    record { functions = flat_map (λ x. x.functions) entries.functions; csrs = map csr_body entries.csrs }

-- a full configuration has an entry, or a field of one
abbrev pub HasExtension : Space → Full → ExtensionEntry → Type 0
HasExtension space full x = IsTrue (has_extension space full x)

abbrev pub HasParam : Space → Full → ParamEntry → Type 0
HasParam space full x = IsTrue (has_parameter space full x)

abbrev pub HasInstruction : Space → Full → InstructionEntry → Type 0
HasInstruction space full x = IsTrue (has_instruction space full x)

abbrev pub HasCsr : Space → Full → CsrEntry → Type 0
HasCsr space full x = IsTrue (has_csr space full x)

abbrev pub HasField : Space → Full → CsrEntry → FieldBodies → Type 0
HasField space full x f = IsTrue (has_field space full x f)
