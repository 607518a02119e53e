-- The kinds of entries that acceptance examines so far, and the rules on their texts kind by kind: what a rule shows, or
-- None where it is kept. Instructions, CSRs and functions aren't examined yet.
use Rattle.std.specs.Prelude.{Bool, true, false, codes, Option, None}
use Rattle.yaml_spec.specs.declared.tree.Tree.{Tree}
use Rattle.udb_base.specs.declared.kinds.Kind.{Kind}
use Rattle.udb_base.specs.declared.kinds.Kind.TheVariants.{Extension, Parameter, Config}
use Rattle.udb_entry.specs.Rules.{Lines, or_later, version_rule, domain_rule, condition_rule, members_rule, implemented_rule}

-- one of the kinds that are examined so far
abbrev pub is_read_kind : Kind → Bool
is_read_kind Extension = true
is_read_kind Parameter = true
is_read_kind Config = true
is_read_kind _ = false

-- versions can be read and rise strictly
abbrev pub kind_version_rule : Kind → Tree → Option Lines
kind_version_rule Extension t = version_rule t
kind_version_rule _ t = None

-- a domain has no value twice, and no low end above its high end
abbrev pub kind_domain_rule : Kind → Tree → Option Lines
kind_domain_rule Parameter t = domain_rule t
kind_domain_rule _ t = None

-- conditions, requirements and members can be read
abbrev pub kind_condition_rule : Kind → Tree → Option Lines
kind_condition_rule Extension t = condition_rule t (codes "requirements")
kind_condition_rule Parameter t = or_later (condition_rule t (codes "definedBy")) (condition_rule t (codes "requirements"))
kind_condition_rule Config t =
    or_later (members_rule t (codes "mandatory_extensions"))
    (or_later (members_rule t (codes "prohibited_extensions")) (implemented_rule t (codes "implemented_extensions")))
kind_condition_rule _ t = None
