-- Sources, sinks, keepers and links in memory.
use Rattle.std.specs.Prelude.{ℕ, ◌≡◌, ◌<◌, ◌↔◌, ◌⊎◌, ◌+◌, ◌-◌, ◌^◌, min, Bool, List, [], Some, length, Contains, Result, MatchResult, Err, IsErr}
use Rattle.udb_base.specs.declared.rows.Row.{Row}
use Rattle.udb_base.specs.declared.outside.KeepFault.{KeepFault}
use Rattle.udb_base.specs.declared.outside.KeepFault.TheVariants.{Failed}
use Rattle.udb_base.specs.Links.{Sessions, Takes}
use Rattle.udb_base.specs.Tables.{Edits, LeavesTables, only}

-- one more, up to the last value of 64 bits
abbrev pub one_more : ℕ → ℕ
one_more n = min (n + 1) (2 ^ 64 - 1)

-- what is left, the calls that fail, how many calls were made, and how many failed
pub record SourceState : Type 0 where
  pub left : List ℕ
  pub fails : List ℕ
  pub calls : ℕ
  pub faults : ℕ

-- what was received, how many bytes there is room for, the calls that fail, and the two counts
pub record SinkState : Type 0 where
  pub written : List ℕ
  pub room : ℕ
  pub fails : List ℕ
  pub calls : ℕ
  pub faults : ℕ

-- the rows, the calls that fail, how many calls were made, and how many failed by this
pub record KeeperState : Type 0 where
  pub rows : List Row
  pub fails : List ℕ
  pub calls : ℕ
  pub faults : ℕ

-- the session's unread bytes, the later sessions, the bytes that were sent, the most bytes that a
-- read gives, how many bytes may be sent, the calls that fail, how many calls were made, and how many
-- failed of those that are no `next`, and of those that are
pub record LinkState : Type 0 where
  pub left : List ℕ
  pub later : Sessions
  pub sent : List ℕ
  pub cut : ℕ
  pub room : ℕ
  pub fails : List ℕ
  pub calls : ℕ
  pub faults : ℕ
  pub next_faults : ℕ

-- a failure adds one to the count, up to its last value, and a success leaves it
abbrev pub CountsFailures : {T E : Type 0} → ℕ → ℕ → Result T E → Type 0
CountsFailures before now result = MatchResult result (λ _. now ≡ before) (λ _. now ≡ one_more before)

-- the call after so many fails exactly where its number is listed
abbrev pub FailsWhereListed : {T E : Type 0} → List ℕ → ℕ → Result T E → Type 0
FailsWhereListed fails calls result = IsErr result ↔ Contains fails (one_more calls)

-- a piece is past the room that holds what went out
abbrev pub IsPast : ℕ → List ℕ → List ℕ → Type 0
IsPast room held piece = room < length held + length piece

-- a write fails exactly where its number is listed or its piece is past the room
abbrev pub SinkFails : {T E : Type 0} → SinkState → List ℕ → Result T E → Type 0
SinkFails s piece result = IsErr result ↔ (Contains s.fails (one_more s.calls) ⊎ IsPast s.room s.written piece)

abbrev pub LinkFails : {T E : Type 0} → LinkState → List ℕ → Result T E → Type 0
LinkFails s piece result = IsErr result ↔ (Contains s.fails (one_more s.calls) ⊎ IsPast s.room s.sent piece)

-- how many bytes a read of a link gives into so much room
abbrev pub read_count : LinkState → ℕ → ℕ
read_count s size = min s.cut (min (length s.left) size)

-- a link takes its next session
abbrev pub TakesSession : {E : Type 0} → LinkState → LinkState → Result Bool E → Type 0
TakesSession before now result = Takes before.later (Some now.later) (Some now.left) result

-- what the calls of a keeper do to its rows
abbrev pub LeavesRows : KeeperState → KeeperState → Type 0
LeavesRows before now = LeavesTables (only before.rows) (only now.rows)

abbrev pub EditsRows : {E : Type 0} → KeeperState → KeeperState → Result (Unit {0}) E → (List Row → List Row) → Type 0
EditsRows before now result turn = Edits (only before.rows) (only now.rows) result turn

-- a keeper's call fails exactly where its number is listed or memory is wanting, and its count tells
-- the first of these alone
pub record KeepsCount {T : Type 0} (before now : KeeperState) (result : Result T KeepFault) : Type 0 where
  pub listed : (result ≡ Err Failed) ↔ Contains before.fails (one_more before.calls)
  pub failed : result ≡ Err Failed → now.faults ≡ one_more before.faults
  pub well : ¬ (result ≡ Err Failed) → now.faults ≡ before.faults
  pub calls : now.calls ≡ one_more before.calls
  pub fails : now.fails ≡ before.fails

-- a call of a link is counted, and what the link was made with stays
pub record IsCounted (before now : LinkState) : Type 0 where
  pub calls : now.calls ≡ one_more before.calls
  pub fails : now.fails ≡ before.fails
  pub cut : now.cut ≡ before.cut
  pub room : now.room ≡ before.room

-- a new source, a new sink, a new keeper, a new link
abbrev pub IsNewSource : List ℕ → List ℕ → SourceState → Type 0
IsNewSource bytes fails s = (s.left ≡ bytes) × (s.fails ≡ fails) × (s.calls ≡ 0) × (s.faults ≡ 0)

abbrev pub IsNewSink : ℕ → List ℕ → SinkState → Type 0
IsNewSink room fails s = (s.written ≡ []) × (s.room ≡ room) × (s.fails ≡ fails) × (s.calls ≡ 0) × (s.faults ≡ 0)

abbrev pub IsNewKeeper : List ℕ → KeeperState → Type 0
IsNewKeeper fails s = (s.rows ≡ []) × (s.fails ≡ fails) × (s.calls ≡ 0) × (s.faults ≡ 0)

abbrev pub IsNewLink : Sessions → ℕ → ℕ → List ℕ → LinkState → Type 0
IsNewLink sessions cut room fails s =
    (s.left ≡ []) × (s.later ≡ sessions) × (s.sent ≡ []) × (s.cut ≡ cut) × (s.room ≡ room) × (s.fails ≡ fails) × (s.calls ≡ 0) × (s.faults ≡ 0)
    × (s.next_faults ≡ 0)
