-- The condition that a tree spells.
use Rattle.std.specs.Prelude.{ℕ, zero, suc, Bool, true, false, List, codes, Option, None, Some, option_map, option_and_then, if◌then◌else◌}
use Rattle.std.specs.Str.{bytes_eq}
use Rattle.udb_base.specs.declared.conditions.Value.{Value}
use Rattle.udb_base.specs.declared.conditions.Value.TheVariants as v
use Rattle.udb_base.specs.declared.conditions.Test.{Test}
use Rattle.udb_base.specs.declared.conditions.Test.TheVariants as t
use Rattle.udb_base.specs.declared.conditions.Cond.{Cond}
use Rattle.udb_base.specs.declared.conditions.Cond.TheVariants as c
use Rattle.yaml_spec.specs.declared.tree.Tree.{Tree}
use Rattle.yaml_spec.specs.declared.tree.Pair.{Pair}
use Rattle.entry_tree.specs.declared.Member.{Member}
use Rattle.cond_tree.specs.declared.forms.Join.{Join}
use Rattle.cond_tree.specs.declared.forms.Join.TheVariants as join
use Rattle.cond_tree.specs.declared.forms.Form.{Form}
use Rattle.cond_tree.specs.declared.forms.Form.TheVariants as form
use Rattle.udb_base.specs.Lists.{each}
use Rattle.yaml_spec.specs.Trees.{text_of, entries_of}
use Rattle.cond_tree.specs.declared.members.Wanted.TheVariants as wanted
use Rattle.cond_tree.specs.Values.{value_of, few_items, only_entry, beside_name}
use Rattle.cond_tree.specs.Members.{member_by}

-- ---- parameters

-- the test that a key names
abbrev pub test_of : List ℕ → Option Test
test_of key =
    if bytes_eq key (codes "equal") then Some t.Equal else
    if bytes_eq key (codes "notEqual") then Some t.NotEqual else
    if bytes_eq key (codes "lessThan") then Some t.Below else
    if bytes_eq key (codes "greaterThan") then Some t.Above else
    if bytes_eq key (codes "lessThanOrEqual") then Some t.AtMost else
    if bytes_eq key (codes "greaterThanOrEqual") then Some t.AtLeast else None

abbrev pub is_number : Value → Bool
is_number (v.Number n) = true
is_number _ = false

-- values are compared by their order only where they are numbers
abbrev pub is_testable : Test → Value → Bool
is_testable t.Equal x = true
is_testable t.NotEqual x = true
is_testable _ x = is_number x

abbrev pub param_cond : List ℕ → Test → Value → Option Cond
param_cond name test x = if is_testable test x then Some (c.Param name test x) else None

abbrev pub param_cond_with : List ℕ → Test → Tree → Option Cond
param_cond_with name test t = option_and_then (param_cond name test) (value_of t)

-- the value under `name`, and the test with its value
abbrev pub atom_of : Tree → Pair → Option Cond
atom_of x p = option_and_then (λ name. option_and_then (λ test. param_cond_with name test p.value) (test_of p.key)) (text_of x)

abbrev pub param_parts : Tree → Option (Tree × Pair)
param_parts t = option_and_then beside_name (entries_of t)

abbrev pub param_of : Tree → Option Cond
param_of t = option_and_then (λ x. atom_of x.0 x.1) (param_parts t)

-- ---- forms

-- the form that a key names
abbrev pub form_named : List ℕ → Option Form
form_named key =
    if bytes_eq key (codes "extension") then Some form.Extension else
    if bytes_eq key (codes "param") then Some form.Param else
    if bytes_eq key (codes "allOf") then Some (form.Joined join.All) else
    if bytes_eq key (codes "anyOf") then Some (form.Joined join.Any) else
    if bytes_eq key (codes "oneOf") then Some (form.Joined join.One) else
    if bytes_eq key (codes "not") then Some form.Not else None

abbrev pub form_in : Pair → Option (Form × Tree)
form_in p = option_map (λ f. (f, p.value)) (form_named p.key)

-- a map with one entry, whose key names a form
abbrev pub form_of : Tree → Option (Form × Tree)
form_of t = option_and_then form_in (only_entry t)

abbrev pub join_of : Join → List Cond → Cond
join_of join.All parts = c.All parts
join_of join.Any parts = c.Any parts
join_of join.One parts = c.One parts

-- one to 64 conditions
abbrev pub parts_of : (Tree → Option Cond) → Tree → Option (List Cond)
parts_of read t = option_and_then (each read) (few_items t)

-- what stands under the key of a form; `read` reads the conditions in it
abbrev pub by_form : (Tree → Option Cond) → Form → Tree → Option Cond
by_form read form.Extension t = read t
by_form read form.Param t = param_of t
by_form read (form.Joined j) t = option_map (join_of j) (parts_of read t)
by_form read form.Not t = option_map c.Not (read t)

abbrev pub form_cond : (Tree → Option Cond) → Tree → Option Cond
form_cond read t = option_and_then (λ x. by_form read x.0 x.1) (form_of t)

-- an extension by its name, in any version that meets its requirements
abbrev pub member_or : Option Member → Option Cond → Option Cond
member_or (Some m) other = Some (c.Ext m.name m.needs)
member_or None other = other

-- the condition that a tree spells with at most that many forms round one another
unfoldable pub cond_of : ℕ → Tree → Option Cond
cond_of zero t = None
cond_of (suc n) t = member_or (member_by wanted.Any t) (form_cond (cond_of n) t)
