-- What stands round a body, as the definitions have it.
use Rattle.std.specs.Prelude.{Bool, ℕ, Option, None, Some, option_map, if◌then◌else◌}
use Rattle.udb_base.specs.declared.spaces.Space.{Space}
use Rattle.udb_base.specs.declared.spaces.Full.{Full}
use Rattle.idl_tree.specs.declared.programs.CsrBody.{CsrBody}
use Rattle.idl_tree.specs.declared.programs.Program.{Program}
use Rattle.idl_spec.specs.Harts.{State}
use Rattle.idl_spec.specs.Settings as setting
use Rattle.idl_spec.specs.Settings.{Setting}
use Rattle.idl_spec.specs.Fields as given
use Rattle.idl_spec.specs.Forms as found
use Rattle.idl_spec.specs.Programs.{bare, write_csr}
use Rattle.idl_spec.specs.ProgramLaws.{callees_of}
use Rattle.idl_forms.specs.declared.scenes.Scene.{Scene}
use Rattle.idl_forms.specs.declared.scenes.NewNumber.{NewNumber}
use Rattle.idl_forms.specs.declared.fields.Placed.{Placed}
use Rattle.idl_forms.specs.declared.fields.Addressed.{Addressed}

abbrev pub new_number : NewNumber → setting.NewNumber
new_number n = record { csr = n.csr.now; number = n.number }

-- `sw_write` writes where the scene is loud, and is stuck where it is quiet
abbrev pub writing : Space → Full → Program → Bool → Option (CsrBody → ℕ → State → Option State)
writing space full program loud = if loud then Some (write_csr space full program) else None

abbrev pub setting_of : Scene → Setting
setting_of c = record {
  space = c.space.now;
  full = c.full.now;
  program = c.program.now;
  variables = c.variables.now;
  callees = callees_of (bare c.space.now c.full.now c.program.now (writing c.space.now c.full.now c.program.now c.loud)) c.functions.now;
  soft_write = writing c.space.now c.full.now c.program.now c.loud;
  written = option_map new_number c.written;
}

abbrev pub placed_of : Placed → given.Placed
placed_of p = record { field = p.field.now; bits = p.bits }

abbrev pub addressed_of : Addressed → found.Addressed
addressed_of a = record { address = a.address; csr = option_map (λ c. c.now) a.csr }
