-- What a reply writes, what comes in place of one, and what a sink received.
use Rattle.std.specs.Prelude.{◌≡◌, ◌≤◌, ◌⊎◌, ◌++◌, ◌==◌, ℕ, List, [], take, codes, Option, Some, if◌then◌else◌}
use Rattle.udb_command.specs.Input.{IfTold}
use Rattle.udb_command.specs.declared.replies.Reply.{Reply}
use Rattle.udb_command.specs.declared.replies.Reply.TheVariants.{Done, Refused}
use Rattle.udb_command.specs.declared.replies.Fault.{Fault}
use Rattle.udb_command.specs.declared.replies.Fault.TheVariants.{NoCommand, Read, Memory, TooLong}

-- the status of a reply, and what it writes on the output and on the output for errors
abbrev pub status_of : Reply → ℕ
status_of (Done text) = 0
status_of (Refused status text) = status

abbrev pub out_of : Reply → List ℕ
out_of (Done text) = text
out_of (Refused status text) = []

abbrev pub err_of : Reply → List ℕ
err_of (Done text) = []
err_of (Refused status text) = text

-- the statuses of replies: 0, 1 and 9 to 16
abbrev pub IsReplyStatus : ℕ → Type 0
IsReplyStatus n = (n ≤ 1) ⊎ ((9 ≤ n) × (n ≤ 16))

-- the status of a fault
abbrev pub fault_status : Fault → ℕ
fault_status NoCommand = 2
fault_status Read = 3
fault_status Memory = 7
fault_status TooLong = 8

-- the statuses of faults
abbrev pub IsFaultStatus : ℕ → Type 0
IsFaultStatus n = (n ≡ 2) ⊎ ((n ≡ 3) ⊎ ((n ≡ 7) ⊎ (n ≡ 8)))

-- the text of such a status on the output for errors
abbrev pub fixed_text : ℕ → List ℕ
fixed_text n =
    if n == 2 then codes "not a command\n"
    else (if n == 3 then codes "read failed\n"
    else (if n == 7 then codes "out of memory\n"
    else (if n == 8 then codes "input too long\n" else [])))

-- a sink received exactly a text, or a front of one, where it tells what it received
abbrev pub Received : Option (List ℕ) → Option (List ℕ) → List ℕ → Type 0
Received before now text = IfTold before (λ xs. now ≡ Some (xs ++ text))

abbrev pub ReceivedFront : Option (List ℕ) → Option (List ℕ) → List ℕ → Type 0
ReceivedFront before now text = IfTold before (λ xs. (n : ℕ) × (now ≡ Some (xs ++ take n text)))

-- the reply is a success, and the output received a front of its text
pub record IsCut (reply : Reply) (before now : Option (List ℕ)) : Type 0 where
  pub text : List ℕ
  pub success : reply ≡ Done text
  pub front : ReceivedFront before now text
