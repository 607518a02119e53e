-- Extensions that a condition or a configuration names, with requirements on their versions.
use Rattle.std.specs.Prelude.{List, [], codes, Option, None, Some, option_map, option_and_then, if◌then◌else◌}
use Rattle.udb_base.specs.declared.versions.Compare.{Compare}
use Rattle.udb_base.specs.declared.versions.Compare.TheVariants.{Equal}
use Rattle.udb_base.specs.declared.versions.Requirement.{Requirement}
use Rattle.yaml_spec.specs.declared.tree.Tree.{Tree, out-Tree}
use Rattle.yaml_spec.specs.declared.tree.Tree.TheOpen.{Tree-F}
use Rattle.yaml_spec.specs.declared.tree.Pair.{Pair}
use Rattle.entry_tree.specs.declared.Member.{Member}
use Rattle.udb_cond.specs.Requirements.{requirement_of}
use Rattle.cond_tree.specs.declared.members.Wanted.{Wanted}
use Rattle.cond_tree.specs.declared.members.Wanted.TheVariants as wanted
use Rattle.udb_base.specs.Lists.{one}
use Rattle.yaml_spec.specs.Trees.{Layer, text_of}
use Rattle.cond_tree.specs.Values.{one_or_list, is_key, only, beside_name}

-- ---- requirements

-- a text that spells a requirement
abbrev pub requirement_at : Tree → Option Requirement
requirement_at t = option_and_then requirement_of (text_of t)

-- one requirement, or a list of requirements that are all to be met
abbrev pub requirements_of : Tree → Option (List Requirement)
requirements_of t = one_or_list requirement_at t

abbrev pub if_compares : Compare → Requirement → Option Requirement
if_compares Equal r = Some r
if_compares _ r = None

-- one version, with or without `=`
abbrev pub exact_at : Tree → Option (List Requirement)
exact_at t = one (option_and_then (λ r. if_compares r.compare r) (requirement_at t))

-- what stands under `version`
abbrev pub needs_by : Wanted → Tree → Option (List Requirement)
needs_by wanted.Any = requirements_of
needs_by wanted.One = exact_at

-- ---- members

-- the name under `name`, with requirements where they can be read
abbrev pub member_named : Tree → Option (List Requirement) → Option Member
member_named x needs = option_and_then (λ s. option_map (λ rs. record { name = s; needs = rs }) needs) (text_of x)

-- `name` alone
abbrev pub name_alone : Pair → Option Member
name_alone p = if is_key (codes "name") p then member_named p.value (Some []) else None

-- `name` beside `version`
abbrev pub name_beside : Wanted → Tree → Pair → Option Member
name_beside w x p = if is_key (codes "version") p then member_named x (needs_by w p.value) else None

abbrev pub with_version : Wanted → List Pair → Option Member
with_version w ps = option_and_then (λ x. name_beside w x.0 x.1) (beside_name ps)

abbrev pub one_or_two : Wanted → List Pair → Option Pair → Option Member
one_or_two w ps (Some p) = name_alone p
one_or_two w ps None = with_version w ps

abbrev pub member_in : Wanted → List Pair → Option Member
member_in w ps = one_or_two w ps (only ps)

abbrev pub member_layer : Wanted → Layer → Option Member
member_layer w (Tree-F.Text s) = Some (record { name = s; needs = [] })
member_layer w (Tree-F.Map ps) = member_in w ps
member_layer w _ = None

-- a name, or a map with `name` and, optionally, `version`
unfoldable pub member_by : Wanted → Tree → Option Member
member_by w t = member_layer w (out-Tree t)

-- the members of a list of mandatory or prohibited extensions
abbrev pub members_of : Tree → Option (List Member)
members_of t = one_or_list (member_by wanted.Any) t

-- the members of a list of implemented extensions: the version of each is one version
abbrev pub implemented_of : Tree → Option (List Member)
implemented_of t = one_or_list (member_by wanted.One) t
