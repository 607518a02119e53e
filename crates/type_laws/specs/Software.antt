-- What a body that writes CSRs stands on: `sw_write` leaves states of the configuration, and names tell fields apart.
use Rattle.std.specs.Prelude.{◌≡◌, ◌≢◌, ◌<◌, ◌^◌, true, ℕ, All, AllPairs, Option, Some}
use Rattle.udb_spec.specs.Conditions.{holds}
use Rattle.idl_tree.specs.Each.{Each}
use Rattle.idl_tree.specs.declared.programs.CsrBody.{CsrBody}
use Rattle.idl_tree.specs.declared.programs.Program.{Program}
use Rattle.idl_spec.specs.Harts.{State}
use Rattle.idl_spec.specs.Settings.{Setting, registers}
use Rattle.idl_spec.specs.Programs.{IsState}
use Rattle.type_laws.specs.Kinds.{Mode, loud}

-- CSRs, and the fields of each, have distinct names
pub record HasDistinctNames (program : Program) : Type 0 where
  pub csrs : AllPairs (λ a b. a.name ≢ b.name) program.csrs
  pub fields : All (λ c. AllPairs (λ a b. a.name ≢ b.name) c.fields) program.csrs

-- a write left a state of the configuration
pub record HasWritten (e : Setting) (o : Option State) : Type 0 where
  pub state : State
  pub is : o ≡ Some state
  pub kept : IsState e.space e.full e.program state

-- a CSR that is present takes each number that a register holds
abbrev pub TakesNumbers : (e : Setting) → (CsrBody → ℕ → State → Option State) → CsrBody → Type 0
TakesNumbers e write csr =
    holds e.space e.full csr.present ≡ true
    → (n : ℕ) → n < 2 ^ registers e → (s : State) → IsState e.space e.full e.program s → HasWritten e (write csr n s)

-- software can write the CSRs of the program
pub record CanWrite (e : Setting) : Type 0 where
  pub write : CsrBody → ℕ → State → Option State
  pub is : e.soft_write ≡ Some write
  pub takes : Each (TakesNumbers e write) e.program.csrs

pub record Software (e : Setting) (mode : Mode) : Type 0 where
  pub names : HasDistinctNames e.program
  pub writes : mode ≡ loud → CanWrite e
