-- Versions of extensions, and the requirements that they meet.
use Rattle.std.specs.Prelude.{◌==◌, ◌&&◌, ◌||◌, Bool, not, nat_lt, List, map, Contains}
use Rattle.std.specs.List.{list_any}
use Rattle.udb_base.specs.declared.versions.Version.{Version}
use Rattle.udb_base.specs.declared.versions.Compare.{Compare}
use Rattle.udb_base.specs.declared.versions.Compare.TheVariants.{Equal, NotEqual, Above, AtLeast, Below, AtMost, Compatible}
use Rattle.udb_base.specs.declared.versions.Requirement.{Requirement}
use Rattle.udb_base.specs.declared.versions.Listed.{Listed}

-- versions compare part by part
abbrev pub same_version : Version → Version → Bool
same_version a b = (a.major == b.major) && ((a.minor == b.minor) && (a.patch == b.patch))

abbrev pub version_lt : Version → Version → Bool
version_lt a b = nat_lt a.major b.major || ((a.major == b.major) && (nat_lt a.minor b.minor || ((a.minor == b.minor) && nat_lt a.patch b.patch)))

-- u lies above r and at most at v
abbrev pub is_between : Version → Version → Version → Bool
is_between r v u = version_lt r u && not (version_lt v u)

-- no listed version above r and up to v breaks
abbrev pub none_breaks : List Listed → Version → Version → Bool
none_breaks list r v = not (list_any (λ u. u.breaking && is_between r v u.version) list)

-- a listed version v meets a requirement
abbrev pub meets_by : Compare → List Listed → Version → Version → Bool
meets_by Equal list r v = same_version v r
meets_by NotEqual list r v = not (same_version v r)
meets_by Above list r v = version_lt r v
meets_by AtLeast list r v = not (version_lt v r)
meets_by Below list r v = version_lt v r
meets_by AtMost list r v = not (version_lt r v)
meets_by Compatible list r v = not (version_lt v r) && none_breaks list r v

abbrev pub meets : List Listed → Requirement → Version → Bool
meets list need v = meets_by need.compare list need.version v

-- the version is one of the list
abbrev pub IsListed : List Listed → Version → Type 0
IsListed list v = Contains (map (λ l. l.version) list) v
