-- Issues of widths and of fields.
use Rattle.std.proofs.Common.{◌≡◌, Bool, true, false, List, [], ◌∷◌, ◌++◌, Option, None, Some, refl, ap, append_assoc}
use Rattle.std.proofs.lemmas.List.{append-nil}
use Rattle.std.specs.Prelude.{is_some, if◌then◌else◌}
use Rattle.udb_base.specs.declared.names.Name.{Name}
use Rattle.idl_tree.specs.declared.programs.CsrBody.{CsrBody}
use Rattle.idl_spec.specs.Fields.{csr_named, field_named}
use Rattle.idl_spec.specs.Demands.{View, Issue, unknown_name, demand, present, unknown_unless, field_issues, present_issues}
use Rattle.idl_spec.specs.CheckLaws.{issues-Number, issues-Word, issues-Plus, issues-Minus, issues-Times, issues-Max, issues-Bits}
use Rattle.type_issues.specs.Names.{missing}

pub ruleset appends = (append_assoc)

pub ruleset width_laws = (append_assoc, append-nil, issues-Number, issues-Word, issues-Plus, issues-Minus, issues-Times, issues-Max, issues-Bits)

-- ---- fields

step : (b : Bool) (field name : Name) → (if b then None else Some field) ≡ Some name → unknown_unless b field ≡ unknown_name name ∷ []
step true field name h = cc
step false field name h = cc

none : (b : Bool) (field : Name) → (if b then None else Some field) ≡ None → unknown_unless b field ≡ []
none true field h = refl
none false field h = cc

abbrev lacking : Name → Name → Option CsrBody → Option Name
lacking csr field o = elim o [ None ↦ Some csr | Some one ↦ if is_some (field_named one.fields field) then None else Some field ]

abbrev raised : Name → Name → Option CsrBody → List Issue
raised csr field o = elim o [ None ↦ unknown_name csr ∷ [] | Some one ↦ unknown_unless (is_some (field_named one.fields field)) field ]

at-some : (view : View) (csr field name : Name) (o : Option CsrBody) → lacking csr field o ≡ Some name
    → raised csr field o ≡ unknown_name name ∷ []
at-some view csr field name None h = cc
at-some view csr field name (Some one) h = step (is_some (field_named one.fields field)) field name h

at-none : (view : View) (csr field : Name) (o : Option CsrBody) → lacking csr field o ≡ None
    → raised csr field o ≡ []
at-none view csr field None h = cc
at-none view csr field (Some one) h = none (is_some (field_named one.fields field)) field h

pub field-missing : (view : View) (csr field name : Name) → missing view csr field ≡ Some name → field_issues view csr field ≡ unknown_name name ∷ []
field-missing view csr field name h = at-some view csr field name (csr_named view.program.csrs csr) h

pub field-there : (view : View) (csr field : Name) → missing view csr field ≡ None → field_issues view csr field ≡ []
field-there view csr field h = at-none view csr field (csr_named view.program.csrs csr) h

abbrev presence : (csr field : Name) → List Issue → List Issue
presence csr field is = elim is [ [] ↦ demand (present csr field) ∷ [] | i ∷ more ↦ i ∷ more ]

pub present-missing : (view : View) (csr field name : Name) → missing view csr field ≡ Some name → present_issues view csr field ≡ unknown_name name ∷ []
present-missing view csr field name h = ap (presence csr field) (field-missing view csr field name h)

pub present-there : (view : View) (csr field : Name) → missing view csr field ≡ None → present_issues view csr field ≡ demand (present csr field) ∷ []
present-there view csr field h = ap (presence csr field) (field-there view csr field h)

pub ruleset field_laws = (field-missing, field-there, present-missing, present-there)
