-- The bodies of a program all of whose bodies are typed are never stuck.
use Rattle.std.proofs.Common.{◌≡◌}
use Rattle.udb_base.specs.declared.spaces.Space.{Space}
use Rattle.udb_base.specs.declared.spaces.Full.{Full}
use Rattle.udb_spec.specs.Spaces.{Valid}
use Rattle.idl_tree.specs.declared.programs.Program.{Program}
use Rattle.idl_spec.specs.declared.scopes.BodyScope.TheVariants as scope
use Rattle.type_laws.specs.Fitting.{IsFitting, FittingBodiesAreNeverStuck}
use Rattle.idl_types.specs.Typing.{IsReady, TypedBodiesAreNeverStuck, FormulasAreTrue}
use Rattle.type_laws.proofs.TestForms.{tells}
use Rattle.type_laws.proofs.GivenWorlds.{tested}
use Rattle.idl_types.proofs.FitLaws.{fits-all}
use Rattle.idl_types.proofs.ProgramLaws.{typed-fits}

fitting : (space : Space) (program : Program) → IsReady space program → (full : Full) → Valid space full → IsFitting space full program
fitting space program r full valid = record {
  lawful = r.lawful;
  read = r.read;
  valid = valid;
  names = r.names;
  bare = r.bare;
  fit = typed-fits space full valid program r.typed;
}

pub typed-never-stuck : FittingBodiesAreNeverStuck → TypedBodiesAreNeverStuck
typed-never-stuck law = record {
  operations = λ space program r presence body o full valid here s state.
      law.operations space full program (fitting space program r full valid) presence body
      (record { variables = o.variables; read = o.read; here = here; fit = fits-all space program presence scope.Operation body o.typed full valid }) s state;
  functions = λ space program r name f named values suit full valid s state. law.functions space full program (fitting space program r full valid) name f named values suit s state;
  types = λ space program r full valid csr h p k. law.types space full program (fitting space program r full valid) csr h p k;
  resets = λ space program r full valid csr h p k. law.resets space full program (fitting space program r full valid) csr h p k;
  writes = λ space program r full valid csr h p k body is n s state. law.writes space full program (fitting space program r full valid) csr h p k body is n s state;
}

pub formulas-true : FormulasAreTrue
formulas-true e valid read apart names scope m x small s t v is =
    (tells e (tested e valid read apart) x names scope s t v m small is).formula
