use Rattle.std.proofs.Common.{◌≡◌, ◌∙◌, Some, sym, ap, refl}
use Rattle.std.specs.Prelude.{Option, option_map}
use Rattle.matchit.specs.Router.{RouteOf}
use Rattle.udb_http.specs.declared.paths.Place.{Place}
use Rattle.udb_http.specs.declared.paths.Place.TheVariants.{Entries, Entry, Manual, Decode, Run, Proof}
use Rattle.udb_http.specs.Routes.{place_of}
use Rattle.udb_http.specs.Table.{row_of}
use Rattle.udb_http.proofs.RouteLemmas.{has_row, low_bytes}
use Rattle.udb_http.proofs.routing.place.Goals as goal

abbrev values : Option (RouteOf Place) → Option Place
values o = option_map (λ row. row.value) o

same : (p : Place) → (row_of p).value ≡ p
same Entries = refl
same Entry = refl
same Manual = refl
same Decode = refl
same Run = refl
same Proof = refl

pub returns-in-Ok : goal.returns-in-Ok
returns-in-Ok c r h =
    let path = c.args.path.now in
    let here = has_row path r (low_bytes path c.type_inv.path) h in
    let told = rw c.args.routes.now.whole at c.in-Ok.ensures.found in
    ap values (sym told) ∙ ap values here ∙ ap Some (same (place_of r))

pub returns-in-Err : goal.returns-in-Err
returns-in-Err c r h =
    let path = c.args.path.now in
    let here = has_row path r (low_bytes path c.type_inv.path) h in
    let told = rw c.args.routes.now.whole at c.in-Err.ensures.missing in
    absurd (let e = sym told ∙ here in cc)
