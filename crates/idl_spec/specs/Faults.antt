-- The faults of a body, and the first of them.
use Rattle.std.specs.Prelude.{◌≡◌, ◌<◌, ◌≤◌, ◌⊎◌, Bool, true, false, ℕ, List, [], ◌∷◌, Option, None, Some, slice_get, Contains}
use Rattle.udb_base.specs.declared.names.Name.{Name}
use Rattle.udb_base.specs.declared.conditions.Cond.{Cond}
use Rattle.udb_base.specs.declared.spaces.Space.{Space}
use Rattle.udb_base.specs.declared.spaces.Full.{Full}
use Rattle.udb_spec.specs.Spaces.{Valid}
use Rattle.idl_tree.specs.declared.programs.Body.{Body}
use Rattle.idl_tree.specs.declared.programs.Program.{Program}
use Rattle.idl_spec.specs.declared.scopes.BodyScope.{BodyScope}
use Rattle.idl_spec.specs.Demands.{Demand, in_range, in_slice, defined, present, Issue, unknown_name, later_function, mismatch, demand, Check}
use Rattle.idl_spec.specs.Checks.{body_checks, is_met, context_holds, under_of}
use Rattle.idl_spec.specs.Costs.{is_costly, cost_of}

-- a fault at a node, which an unknown or later name, or a configuration, shows
pub data Fault : Type 0 where
  unknown_at : (node : ℕ) → Name → Fault
  mismatch_at : (node : ℕ) → Fault
  width_at : (node : ℕ) → Full → Fault
  slice_at : (node : ℕ) → Full → Fault
  absent_at : (node : ℕ) → Full → Fault
  costs : Fault
  order_at : (node : ℕ) → Name → Fault

-- the first unknown or later name of a node
abbrev pub first_unknown : List Issue → Option Name
first_unknown [] = None
first_unknown (unknown_name name ∷ more) = Some name
first_unknown (_ ∷ more) = first_unknown more

abbrev pub first_later : List Issue → Option Name
first_later [] = None
first_later (later_function name ∷ more) = Some name
first_later (_ ∷ more) = first_later more

-- which fault a broken demand is
abbrev pub is_width : Demand → Bool
is_width (in_range low high width) = true
is_width _ = false

abbrev pub is_slice : Demand → Bool
is_slice (in_slice high low of) = true
is_slice _ = false

abbrev pub is_absence : Demand → Bool
is_absence (defined x) = true
is_absence (present csr field) = true
is_absence _ = false

module _ (space : Space) (program : Program) (presence : Cond) (scope : BodyScope)
    (body : Body) where
  -- the check of a node
  abbrev pub HasCheck : ℕ → Check → Type 0
  HasCheck node one = slice_get (body_checks space program presence scope body) node ≡ Some one

  -- a valid full configuration meets the context and breaks a demand of that sort, which names at
  -- most two parameters
  pub record Shows (sort : Demand → Bool) (one : Check) (full : Full) : Type 0 where
    pub valid : Valid space full
    pub context : context_holds (under_of space full program body) one.context ≡ true
    pub broken : Demand
    pub asked : Contains one.issues (demand broken)
    pub sort_of : sort broken ≡ true
    pub cheap : is_costly program body.variables broken ≡ false
    pub unmet : is_met (under_of space full program body) broken ≡ false

  -- a demand that names more than two parameters, or a cost past 1,048,576
  abbrev pub IsCostly : Type 0
  IsCostly =
      ((node : ℕ) × (one : Check) × (broken : Demand) × HasCheck node one × Contains one.issues (demand broken) × (is_costly program body.variables broken ≡ true))
      ⊎ (1048576 < cost_of space program scope body)

  -- the body has the fault
  abbrev pub HasFault : Fault → Type 0
  HasFault (unknown_at node name) =
      (one : Check) × HasCheck node one × (first_unknown one.issues ≡ Some name)
  HasFault (mismatch_at node) = (one : Check) × HasCheck node one × Contains one.issues mismatch
  HasFault (width_at node full) = (one : Check) × HasCheck node one × Shows is_width one full
  HasFault (slice_at node full) = (one : Check) × HasCheck node one × Shows is_slice one full
  HasFault (absent_at node full) = (one : Check) × HasCheck node one × Shows is_absence one full
  HasFault costs = IsCostly
  HasFault (order_at node name) =
      (one : Check) × HasCheck node one × (first_later one.issues ≡ Some name)

-- the order of faults: by their sort, then by the node
abbrev pub sort_number : Fault → ℕ
sort_number (unknown_at node name) = 0
sort_number (mismatch_at node) = 1
sort_number (width_at node full) = 2
sort_number (slice_at node full) = 3
sort_number (absent_at node full) = 4
sort_number costs = 5
sort_number (order_at node name) = 6

abbrev pub node_number : Fault → ℕ
node_number (unknown_at node name) = node
node_number (mismatch_at node) = node
node_number (width_at node full) = node
node_number (slice_at node full) = node
node_number (absent_at node full) = node
node_number costs = 0
node_number (order_at node name) = node

abbrev pub NotBefore : Fault → Fault → Type 0
NotBefore f g =
    (sort_number f < sort_number g) ⊎
    ((sort_number f ≡ sort_number g) × (node_number f ≤ node_number g))

-- the first fault of the body; a configuration that shows it may be any
pub record IsFirstFault (space : Space) (program : Program) (presence : Cond) (scope : BodyScope)
    (body : Body) (f : Fault) : Type 0 where
  pub has : HasFault space program presence scope body f
  pub first : (g : Fault) → HasFault space program presence scope body g → NotBefore f g

abbrev pub HasNoFault : Space → Program → Cond → BodyScope → Body → Type 0
HasNoFault space program presence scope body =
    (f : Fault) → HasFault space program presence scope body f → ⊥
