-- The body at a place, and sound states beside the parts of a scene.
use Rattle.std.proofs.Common.{◌≡◌, ◌<◌, ℕ, length, get_or, Option, Some, sym, ap, ◌∙◌, subst}
use Rattle.std.proofs.lemmas.Option.{slice_get-get_or}
use Rattle.udb_base.specs.declared.spaces.Space.{Space}
use Rattle.udb_base.specs.declared.spaces.Full.{Full}
use Rattle.idl_tree.specs.declared.programs.Body.{Body}
use Rattle.idl_tree.specs.declared.programs.Program.{Program}
use Rattle.idl_spec.specs.Harts.{State, or_stuck}
use Rattle.idl_spec.specs.Programs.{mean, as_operation}
use Rattle.idl_forms.specs.declared.scenes.Scene.{Scene}
use Rattle.idl_forms.specs.Ready.{IsSound, IsSoundAt}
use Rattle.idl_mean.specs.declared.prepared.Prepared.{Prepared}
use Rattle.idl_mean.specs.Evaluators.{operation}

pub operation-at : (p : Prepared) (i : ℕ) (full : Full) (b : Body) (s : State) → i < length p.bodies → b ≡ get_or p.bodies i b
    → operation p i full s ≡ mean p.space full p.program as_operation b s
operation-at p i full b s l e =
    ap (λ (o : Option Body). or_stuck o (λ x. mean p.space full p.program as_operation x s)) (slice_get-get_or p.bodies i b l ∙ ap Some (sym e))

pub sound-at : (c : Scene) (space : Space) (full : Full) (program : Program) (s : State) → c.space.now ≡ space → c.full.now ≡ full → c.program.now ≡ program
    → IsSound space full program s → IsSoundAt c s
sound-at c space full program s a b d h =
    subst (λ (x : Space). IsSound x c.full.now c.program.now s) (sym a) (subst (λ (x : Full). IsSound space x c.program.now s) (sym b) (subst (λ (x : Program). IsSound space full x s) (sym d) h))

pub sound-of : (c : Scene) (space : Space) (full : Full) (program : Program) (s : State) → c.space.now ≡ space → c.full.now ≡ full → c.program.now ≡ program
    → IsSoundAt c s → IsSound space full program s
sound-of c space full program s a b d h =
    subst (λ (x : Program). IsSound space full x s) d (subst (λ (x : Full). IsSound space x c.program.now s) b (subst (λ (x : Space). IsSound x c.full.now c.program.now s) a h))
