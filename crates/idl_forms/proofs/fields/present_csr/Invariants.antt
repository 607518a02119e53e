use Rattle.std.proofs.Common.{◌≡◌, drop}
use Rattle.std.specs.Prelude.{find}
use Rattle.idl_forms.specs.Scenes.{setting_of}
use Rattle.idl_forms.specs.FieldSums.{is_at}
use Rattle.idl_forms.proofs.fields.present_csr.Given as goal

abbrev pub invariant-loop-csr : goal.invariant-loop-csr
invariant-loop-csr l = find (is_at (setting_of l.scene) l.address) (drop l.csr-index l.scene.program.now.csrs) ≡ find (is_at (setting_of l.scene) l.address) l.scene.program.now.csrs
