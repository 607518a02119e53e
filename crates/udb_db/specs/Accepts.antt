-- What `accept` answers.
use Rattle.std.specs.Prelude.{◌≡◌, ◌≤◌, ◌⊎◌, List, Result, Ok, Err}
use Rattle.udb_base.specs.declared.rows.Row.{Row}
use Rattle.udb_spec.specs.Lawful.{Lawful}
use Rattle.db_spec.specs.declared.broken.Broken.{Broken}
use Rattle.db_spec.specs.Entries.{space_of}
use Rattle.db_spec.specs.Breaks.{Give}
use Rattle.db_spec.specs.First.{Sound, IsFirst, KeepsUpTo}
use Rattle.udb_db.specs.declared.accepting.Examined.{Examined}
use Rattle.udb_db.specs.declared.accepting.AcceptFault.{AcceptFault}
use Rattle.udb_db.specs.declared.accepting.AcceptFault.TheVariants as fault
use Rattle.udb_db.specs.declared.examining.Halt.{Halt}
use Rattle.udb_db.specs.Phases.{IsEarlyHalt}

-- the answer is the database of these tables, or that there was no memory
abbrev pub IsSuccess : List Row → Result (List Row) AcceptFault → Type 0
IsSuccess rows answer = (answer ≡ Ok rows) ⊎ (answer ≡ Err (fault.Memory rows))

-- the same entry and the same rule; of several breaches of it any may be shown
pub record IsSameBreach (a b : Broken) : Type 0 where
  pub kind : a.kind ≡ b.kind
  pub name : a.name ≡ b.name
  pub rule : a.rule ≡ b.rule

-- the answer is this breach, or that there was no memory
abbrev pub IsRefusal : List Row → Broken → Result (List Row) AcceptFault → Type 0
IsRefusal rows b (Ok tables) = ⊥
IsRefusal rows b (Err (fault.Memory tables)) = tables ≡ rows
IsRefusal rows b (Err (fault.Broken first tables)) = IsSameBreach first b × (tables ≡ rows)

abbrev pub IsAccepted : List Row → Result (List Row) AcceptFault → Type 0
IsAccepted rows (Ok tables) = (tables ≡ rows) × Sound rows
IsAccepted rows (Err (fault.Memory tables)) = tables ≡ rows
IsAccepted rows (Err (fault.Broken first tables)) = IsFirst rows first × (tables ≡ rows)

abbrev pub IsOpened : List Row → Result (List Row) AcceptFault → Type 0
IsOpened rows (Ok tables) = (tables ≡ rows) × KeepsUpTo 12 rows
IsOpened rows (Err (fault.Memory tables)) = tables ≡ rows
IsOpened rows (Err (fault.Broken first tables)) = IsFirst rows first × (first.rule ≤ 12) × (tables ≡ rows)

pub record IsWhole (rows : List Row) (x : Examined) : Type 0 where
  pub give : Give rows x.entries
  pub space : x.space ≡ space_of x.entries
  pub kept : KeepsUpTo 12 rows
  pub lawful : Lawful x.space

abbrev pub IsFinished : List Row → Result Examined Halt → Type 0
IsFinished rows (Ok x) = IsWhole rows x
IsFinished rows (Err h) = IsEarlyHalt rows h
