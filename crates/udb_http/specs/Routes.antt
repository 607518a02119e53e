-- Which route a path has.
use Rattle.std.specs.Prelude.{◌≡◌, ◌≢◌, Option, None, Some, ◌≤◌, ℕ, List, [], ◌∷◌, ◌++◌, length, codes, All}
use Rattle.udb_base.specs.Kinds.{kind_word}
use Rattle.udb_base.specs.Names.{IsName}
use Rattle.udb_http.specs.declared.paths.Route.{Route}
use Rattle.udb_http.specs.declared.paths.Route.TheVariants.{Entries, Entry, Manual, Decode, Run, Proof}
use Rattle.udb_http.specs.declared.paths.Place.{Place}
use Rattle.udb_http.specs.declared.paths.Place.TheVariants as row

-- a segment of a path (RFC 3986, section 3.3) that isn't empty
pub record IsSegment (bytes : List ℕ) : Type 0 where
  pub some : 1 ≤ length bytes
  pub whole : All (λ b. b ≢ 47) bytes

-- the table of routes: a path as it stands, with nothing decoded
abbrev pub HasRoute : List ℕ → Route → Type 0
HasRoute path Entries = path ≡ codes "/entries"
HasRoute path (Entry kind name) =
    (path ≡ codes "/entries/" ++ (kind_word kind ++ 47 ∷ name)) × IsName name
HasRoute path (Manual config) = (path ≡ codes "/manuals/" ++ config) × IsName config
HasRoute path (Decode config word) =
    (path ≡ codes "/decode/" ++ (config ++ 47 ∷ word)) × IsName config × IsSegment word
HasRoute path (Run config steps) =
    (path ≡ codes "/runs/" ++ (config ++ 47 ∷ steps)) × IsName config × IsSegment steps
HasRoute path (Proof config kind name) =
    (path ≡ codes "/proofs/" ++ (config ++ 47 ∷ (kind_word kind ++ 47 ∷ name)))
    × IsName config × IsName name

-- the methods of a route, in the order of the table
abbrev pub methods_of : Route → List (List ℕ)
methods_of Entries = codes "GET" ∷ []
methods_of (Entry kind name) = codes "GET" ∷ codes "PUT" ∷ codes "DELETE" ∷ []
methods_of (Manual config) = codes "GET" ∷ []
methods_of (Decode config word) = codes "GET" ∷ []
methods_of (Run config steps) = codes "POST" ∷ []
methods_of (Proof config kind name) = codes "GET" ∷ []

-- ---- the rows of the table

abbrev pub place_of : Route → Place
place_of Entries = row.Entries
place_of (Entry kind name) = row.Entry
place_of (Manual config) = row.Manual
place_of (Decode config word) = row.Decode
place_of (Run config steps) = row.Run
place_of (Proof config kind name) = row.Proof

-- what a path is told of one row: a route that it has, or none exactly where it has none of that row
abbrev pub IsRouteAt : List ℕ → Place → Option Route → Type 0
IsRouteAt path place None = (r : Route) → place_of r ≡ place → ¬ (HasRoute path r)
IsRouteAt path place (Some r) = HasRoute path r

-- a route that the path has, or none exactly where it has none
abbrev pub IsRoute : List ℕ → Option Route → Type 0
IsRoute path None = (r : Route) → ¬ (HasRoute path r)
IsRoute path (Some r) = HasRoute path r
