use Rattle.std.proofs.Common.{◌≡◌, take, map}
use Rattle.udb_base.proofs.memory_link.copy_sessions.Given as goal

abbrev pub invariant-loop-session : goal.invariant-loop-session
invariant-loop-session l = l.copies ≡ map (λ s. s.now) (take l.session-index l.sessions)
