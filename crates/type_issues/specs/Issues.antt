-- Issues and checks as the definitions have them.
use Rattle.std.specs.Prelude.{◌-◌, ◌^◌, List, map, ℤ, pos, negsuc}
use Rattle.idl_spec.specs.Demands as meant
use Rattle.type_issues.specs.declared.issues.Limits.{Limits}
use Rattle.type_issues.specs.declared.issues.Limits.TheVariants as l
use Rattle.type_issues.specs.declared.issues.Demand.{Demand}
use Rattle.type_issues.specs.declared.issues.Demand.TheVariants as d
use Rattle.type_issues.specs.declared.issues.Issue.{Issue}
use Rattle.type_issues.specs.declared.issues.Issue.TheVariants as i
use Rattle.type_issues.specs.declared.issues.Check.{Check}

abbrev pub lowest : Limits → ℤ
lowest l.Width = pos 1
lowest l.Shift = pos 0
lowest l.Bound = pos 0
lowest l.Turns = negsuc 999999

abbrev pub highest : Limits → ℤ
highest l.Width = pos 128
highest l.Shift = pos 127
highest l.Bound = pos (2 ^ 32 - 1)
highest l.Turns = pos 1024

abbrev pub demand_of : Demand → meant.Demand
demand_of (d.InRange limits width) = meant.in_range (lowest limits) (highest limits) width
demand_of (d.InSlice high low of) = meant.in_slice high low of
demand_of (d.Defined x) = meant.defined x
demand_of (d.Present csr field) = meant.present csr field

abbrev pub issue_of : Issue → meant.Issue
issue_of (i.UnknownName name) = meant.unknown_name name
issue_of (i.LaterFunction name) = meant.later_function name
issue_of i.Mismatch = meant.mismatch
issue_of (i.Demand one) = meant.demand (demand_of one)

abbrev pub issues_of : List Issue → List meant.Issue
issues_of is = map issue_of is

abbrev pub check_of : Check → meant.Check
check_of c = record { context = c.context; issues = issues_of c.issues }

abbrev pub checks_of : List Check → List meant.Check
checks_of cs = map check_of cs
