use Rattle.std.proofs.Common.{◌≡◌, ◌∙◌}
use Rattle.udb_cond.specs.Places.{extension_place}
use Rattle.udb_cond.proofs.PlaceLemmas.{place-found, place-only}
use Rattle.udb_cond.proofs.lookups.extension_place.Goals as goal

pub returns-clause-found : goal.returns-clause-found
returns-clause-found c =
    let is : c.place_of_extension.result ≡ extension_place c.args.space.now c.args.name.now = cc in
    place-found (λ x. x.name) c.args.space.now.extensions c.args.name.now _ is

pub returns-clause-only : goal.returns-clause-only
returns-clause-only c = λ lawful k at.
    let is : c.place_of_extension.result ≡ extension_place c.args.space.now c.args.name.now = cc in
    is ∙ place-only (λ x. x.name) c.args.space.now.extensions c.args.name.now k lawful.extension_names at
