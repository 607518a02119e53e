-- How the first fault is looked for: one pass over a body's checks for each sort of fault.
use Rattle.std.specs.Prelude.{◌≡◌, ◌<◌, ◌||◌, Bool, true, false, ℕ, nat_lt, List, Option, None, Some, slice_get, Contains}
use Rattle.std.specs.List.{list_any}
use Rattle.udb_base.specs.declared.names.Name.{Name}
use Rattle.udb_base.specs.declared.conditions.Cond.{Cond}
use Rattle.udb_base.specs.declared.spaces.Space.{Space}
use Rattle.udb_base.specs.declared.spaces.Full.{Full}
use Rattle.idl_tree.specs.declared.programs.Variable.{Variable}
use Rattle.idl_tree.specs.declared.programs.Body.{Body}
use Rattle.idl_tree.specs.declared.programs.Program.{Program}
use Rattle.idl_spec.specs.declared.scopes.BodyScope.{BodyScope}
use Rattle.idl_spec.specs.Demands.{Demand, Issue, mismatch, demand, Check}
use Rattle.idl_spec.specs.Checks.{body_checks}
use Rattle.idl_spec.specs.Costs.{is_costly, cost_of}
use Rattle.idl_spec.specs.Faults.{Fault, unknown_at, mismatch_at, width_at, slice_at, absent_at, order_at, first_unknown, first_later, is_width, is_slice, is_absence, node_number}
use Rattle.type_demands.specs.Breaks.{Breaks}
use Rattle.idl_types.specs.declared.demands.Sort.{Sort}
use Rattle.idl_types.specs.declared.demands.Sort.TheVariants as sorts

-- ---- a pass looks for faults that a node's check shows

-- no check of the list shows a fault
abbrev pub NoneOf : (Fault → Check → Type 0) → List Check → Type 0
NoneOf Shows checks =
    (f : Fault) (one : Check) → slice_get checks (node_number f) ≡ Some one → Shows f one → ⊥

-- no check before a node shows one
pub record NoneBefore (Shows : Fault → Check → Type 0) (checks : List Check) (node : ℕ) : Type 0 where
  pub none : (f : Fault) (one : Check) → node_number f < node → slice_get checks (node_number f) ≡ Some one → Shows f one → ⊥

-- the check of the fault's node shows it, and none before does
pub record IsFirstOf (Shows : Fault → Check → Type 0) (checks : List Check) (f : Fault) : Type 0 where
  pub one : Check
  pub at : slice_get checks (node_number f) ≡ Some one
  pub shown : Shows f one
  pub first : NoneBefore Shows checks (node_number f)

-- ---- names and kinds

abbrev pub is_mismatch : Issue → Bool
is_mismatch mismatch = true
is_mismatch _ = false

pub record IsUnknown (f : Fault) (one : Check) : Type 0 where
  pub name : Name
  pub is : f ≡ unknown_at (node_number f) name
  pub named : first_unknown one.issues ≡ Some name

pub record IsMismatch (f : Fault) (one : Check) : Type 0 where
  pub is : f ≡ mismatch_at (node_number f)
  pub has : list_any is_mismatch one.issues ≡ true

pub record IsLate (f : Fault) (one : Check) : Type 0 where
  pub name : Name
  pub is : f ≡ order_at (node_number f) name
  pub named : first_later one.issues ≡ Some name

-- ---- demands

-- a full configuration with the property, where there is one
abbrev pub IsShown : (Full → Type 0) → Option Full → Type 0
IsShown P None = (full : Full) → P full → ⊥
IsShown P (Some full) = P full

abbrev pub asks : Sort → Demand → Bool
asks sorts.Width = is_width
asks sorts.Slice = is_slice
asks sorts.Absence = is_absence

abbrev pub shown_at : Sort → ℕ → Full → Fault
shown_at sorts.Width = width_at
shown_at sorts.Slice = slice_at
shown_at sorts.Absence = absent_at

module _ (space : Space) (program : Program) (variables : List Variable) (sort : Sort) where
  -- the full configuration breaks a demand of the sort that isn't costly
  pub record BreaksDemand (context : List Cond) (broken : Demand) (full : Full) : Type 0 where
    pub sort_of : asks sort broken ≡ true
    pub cheap : is_costly program variables broken ≡ false
    pub breaks : Breaks space program variables context broken full

  -- it breaks such a demand, which is the issue
  pub record BreaksIssue (context : List Cond) (issue : Issue) (full : Full) : Type 0 where
    pub broken : Demand
    pub is : issue ≡ demand broken
    pub breaks : BreaksDemand context broken full

  -- it breaks such a demand of a node
  pub record BreaksCheck (one : Check) (full : Full) : Type 0 where
    pub broken : Demand
    pub asked : Contains one.issues (demand broken)
    pub breaks : BreaksDemand one.context broken full

  pub record IsBroken (f : Fault) (one : Check) : Type 0 where
    pub full : Full
    pub is : f ≡ shown_at sort (node_number f) full
    pub breaks : BreaksCheck one full

-- ---- costs

abbrev pub is_issue_costly : Program → List Variable → Issue → Bool
is_issue_costly program variables (demand one) = is_costly program variables one
is_issue_costly program variables _ = false

abbrev pub is_check_costly : Program → List Variable → Check → Bool
is_check_costly program variables one = list_any (is_issue_costly program variables) one.issues

-- some demand is costly, or the body costs too much
abbrev pub is_body_costly : Space → Program → BodyScope → Body → List Check → Bool
is_body_costly space program scope body checks =
    list_any (is_check_costly program body.variables) checks
    || nat_lt 1048576 (cost_of space program scope body)

-- ---- all passes

-- what holds wherever these are the checks of the body
abbrev pub WhereChecked : Space → Program → BodyScope → Body → List Check → (Cond → Type 0) → Type 0
WhereChecked space program scope body checks P =
    (presence : Cond) → checks ≡ body_checks space program presence scope body → P presence
