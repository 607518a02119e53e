-- What the answer of a run says, where a reply was written and where a fault was.
use Rattle.std.proofs.Common.{◌≡◌, ◌≢◌, ◌≤◌, ◌<◌, ◌+◌, ◌⊎◌, ◌++◌, ℕ, List, [], length, Option, Some, Result, Ok, Err, IfOk, refl, sym, ap, subst, inl, inr, arith, append-nil, ◌∙◌}
use Rattle.udb_command.specs.declared.commands.Command.{Command}
use Rattle.udb_command.specs.declared.replies.Reply.{Reply}
use Rattle.udb_command.specs.declared.replies.Fault.{Fault}
use Rattle.udb_command.specs.declared.replies.Fault.TheVariants as fault
use Rattle.udb_command.specs.Words.{Asks, IsNoCommand}
use Rattle.udb_command.specs.Input.{input_limit, IsRead, TookTooMany}
use Rattle.udb_command.specs.Replies.{status_of, IsReplyStatus, IsFaultStatus, fault_status, Received, IsCut}
use Rattle.udb_command.proofs.Asked.{one_command}
use Rattle.udb_top.specs.Run.{Replies, IsStatus, HasReply, HasCutReply, IsComplete}
use Rattle.udb_top.proofs.OneReply.{one_status, reply_status}

-- ---- statuses

pub not_four : (n : ℕ) → IsReplyStatus n → n ≡ 4 → ⊥
not_four n (inl e) f = omega (arith, e)
not_four n (inr h) f = omega (arith, h.0)

fault_bounds : (n : ℕ) → IsFaultStatus n → (2 ≤ n) × (n ≤ 8)
fault_bounds n (inl e) = (omega arith, omega arith)
fault_bounds n (inr (inl e)) = (omega arith, omega arith)
fault_bounds n (inr (inr (inl e))) = (omega arith, omega arith)
fault_bounds n (inr (inr (inr e))) = (omega arith, omega arith)

fault_not_four : (n : ℕ) → IsFaultStatus n → n ≡ 4 → ⊥
fault_not_four n (inl e) f = omega arith
fault_not_four n (inr (inl e)) f = omega arith
fault_not_four n (inr (inr (inl e))) f = omega arith
fault_not_four n (inr (inr (inr e))) f = omega arith

apart : (n : ℕ) → IsReplyStatus n → IsFaultStatus n → ⊥
apart n (inl e) f = let b = fault_bounds n f in omega (arith, b.0, e)
apart n (inr h) f = let b = fault_bounds n f in omega (arith, b.1, h.0)

fault_is : (f : Fault) → IsFaultStatus (fault_status f)
fault_is fault.NoCommand = inl refl
fault_is fault.Read = inr (inl refl)
fault_is fault.Memory = inr (inr (inl refl))
fault_is fault.TooLong = inr (inr (inr refl))

-- ---- inputs

pub same_rest : (a b : List ℕ) → Some a ≡ Some b → a ≡ b
same_rest a b h = cc

-- an input that wasn't touched has no bytes taken
pub took_none : (xs : List ℕ) (left : Option (List ℕ)) → left ≡ Some xs → TookTooMany xs left → ⊥
took_none xs left e (rest, (f, l)) = let same : rest ≡ xs = same_rest rest xs (sym f ∙ e) in omega (arith, l, ap (λ (x : List ℕ). length x) same)

-- more bytes than the limit are there where more were taken
took_more : (xs : List ℕ) (left : Option (List ℕ)) → TookTooMany xs left → input_limit < length xs
took_more xs left (rest, (f, l)) = omega (arith, l)

pub nothing_received : (o : Option (List ℕ)) → Received o o []
nothing_received o xs e = e ∙ ap (λ (ys : List ℕ). Some ys) (sym (append-nil xs))

module _ (words : List (List ℕ)) (before now : Option (List ℕ)) (reply : Reply) (has : HasReply words before now reply) where
  pub has_status : IsReplyStatus (status_of reply)
  has_status = reply_status has.command has.input reply has.replied

  pub is_asked : IsNoCommand words → ⊥
  is_asked n = n has.command has.asked

  -- the bytes that were read are those that the input tells
  pub read_within : (xs : List ℕ) → before ≡ Some xs → length xs ≤ input_limit
  read_within xs l = subst (λ (ys : List ℕ). length ys ≤ input_limit) (has.read.whole xs l).0 has.read.within

  pub took_few : (xs : List ℕ) → before ≡ Some xs → TookTooMany xs now → ⊥
  took_few xs l t = let within = read_within xs l in let more = took_more xs now t in omega (arith, within, more)

  has_replied : (command : Command) (xs : List ℕ) → Asks words command → before ≡ Some xs → Replies command xs reply
  has_replied command xs asked l =
      subst (λ (c : Command). Replies c xs reply) (one_command words has.command command has.asked asked)
      (subst (λ (ys : List ℕ). Replies has.command ys reply) (has.read.whole xs l).0 has.replied)

  -- ---- a reply that was written, with its status or 4
  module _ (r : ℕ) (status : (r ≡ status_of reply) ⊎ (r ≡ 4)) where
    pub replied_status : IsStatus r
    replied_status = by_status r status
      where
        by_status : (n : ℕ) → (n ≡ status_of reply) ⊎ (n ≡ 4) → IsStatus n
        by_status n (inl e) = inl (subst IsReplyStatus (sym e) has_status)
        by_status n (inr e) = inr (inr e)

    pub no_fault : IsFaultStatus r → ⊥
    no_fault = by_status r status
      where
        by_status : (n : ℕ) → (n ≡ status_of reply) ⊎ (n ≡ 4) → IsFaultStatus n → ⊥
        by_status n (inl e) f = apart n (subst IsReplyStatus (sym e) has_status) f
        by_status n (inr e) f = fault_not_four n f e

    pub replied_own : r ≢ 4 → r ≡ status_of reply
    replied_own h = by_status r status h
      where
        by_status : (n : ℕ) → (n ≡ status_of reply) ⊎ (n ≡ 4) → n ≢ 4 → n ≡ status_of reply
        by_status n (inl e) h = e
        by_status n (inr e) h = absurd (h e)

    pub replied_complete : (command : Command) (xs : List ℕ) → Asks words command → before ≡ Some xs → r ≢ 4 → IsComplete command xs r
    replied_complete command xs asked l h =
        let within = read_within xs l in
        let own : r ≡ status_of reply = replied_own h in
        let replied = has_replied command xs asked l in
        record {
          long = λ m. absurd (omega (arith, within, m));
          some = λ _. inl (reply, (replied, sym own));
          each = λ _ other k. inl (own ∙ one_status command xs reply other replied k);
        }

-- ---- the fault that a result is

pub same_fault : {X : Type 0} (r : Result X Fault) (a b : Fault) → r ≡ Err a → r ≡ Err b → a ≡ b
same_fault r a b e f = cc

-- a command's reply to what was read is one to the words that ask for the command
pub result_has : (words : List (List ℕ)) (before now : Option (List ℕ)) (command : Command) → Asks words command → (r : Result Reply Fault) → IfOk r (λ reply. (bytes : List ℕ) × (IsRead bytes before now × Replies command bytes reply)) → IfOk r (HasReply words before now)
result_has words before now command asked (Ok reply) (bytes, (read, replied)) = record { command = command; asked = asked; input = bytes; read = read; replied = replied }
result_has words before now command asked (Err f) h = tt

-- ---- a fault that was written, with its status or 4

abbrev Faulted : ℕ → Fault → Type 0
Faulted r f = (r ≡ fault_status f) ⊎ (r ≡ 4)

pub faulted_status : (r : ℕ) (f : Fault) → Faulted r f → IsStatus r
faulted_status r f (inl e) = inr (inl (subst IsFaultStatus (sym e) (fault_is f)))
faulted_status r f (inr e) = inr (inr e)

pub no_reply : (r : ℕ) (f : Fault) → Faulted r f → IsReplyStatus r → ⊥
no_reply r f (inl e) h = apart r h (subst IsFaultStatus (sym e) (fault_is f))
no_reply r f (inr e) h = not_four r h e

pub fault_no_four : (r : ℕ) → IsFaultStatus r → r ≢ 4
fault_no_four r h e = fault_not_four r h e

pub faulted_own : (r : ℕ) (f : Fault) → Faulted r f → r ≢ 4 → r ≡ fault_status f
faulted_own r f (inl e) h = e
faulted_own r f (inr e) h = absurd (h e)

pub is_no_command : (r : ℕ) (f : Fault) → Faulted r f → r ≡ 2 → f ≡ fault.NoCommand
is_no_command r f (inr h) e = absurd (omega arith)
is_no_command r fault.NoCommand (inl h) e = refl
is_no_command r fault.Read (inl h) e = absurd (omega arith)
is_no_command r fault.Memory (inl h) e = absurd (omega arith)
is_no_command r fault.TooLong (inl h) e = absurd (omega arith)

pub is_read : (r : ℕ) (f : Fault) → Faulted r f → r ≡ 3 → f ≡ fault.Read
is_read r f (inr h) e = absurd (omega arith)
is_read r fault.NoCommand (inl h) e = absurd (omega arith)
is_read r fault.Read (inl h) e = refl
is_read r fault.Memory (inl h) e = absurd (omega arith)
is_read r fault.TooLong (inl h) e = absurd (omega arith)

pub is_too_long : (r : ℕ) (f : Fault) → Faulted r f → r ≡ 8 → f ≡ fault.TooLong
is_too_long r f (inr h) e = absurd (omega arith)
is_too_long r fault.NoCommand (inl h) e = absurd (omega arith)
is_too_long r fault.Read (inl h) e = absurd (omega arith)
is_too_long r fault.Memory (inl h) e = absurd (omega arith)
is_too_long r fault.TooLong (inl h) e = refl

-- the status where it is known which fault it is
pub as_two : (r : ℕ) (f : Fault) (Failed : Type 0) → Faulted r f → (r ≡ 4 → Failed) → f ≡ fault.NoCommand → (r ≡ 2) ⊎ ((r ≡ 4) × Failed)
as_two r f Failed (inl h) failed e = inl (h ∙ ap fault_status e)
as_two r f Failed (inr h) failed e = inr (h, failed h)

pub took_many : (r : ℕ) (f : Fault) (Took Failed : Type 0) → Faulted r f → (r ≡ 4 → Failed) → (f ≢ fault.TooLong → f ≢ fault.Memory → Took → ⊥) → Took → (r ≡ 8) ⊎ ((r ≡ 7) ⊎ ((r ≡ 4) × Failed))
took_many r f Took Failed (inr h) failed few t = inr (inr (h, failed h))
took_many r fault.TooLong Took Failed (inl h) failed few t = inl h
took_many r fault.Memory Took Failed (inl h) failed few t = inr (inl h)
took_many r fault.NoCommand Took Failed (inl h) failed few t = absurd (few (λ q. cc) (λ q. cc) t)
took_many r fault.Read Took Failed (inl h) failed few t = absurd (few (λ q. cc) (λ q. cc) t)

-- with no rise the fault is want of memory or an input past the limit
pub faulted_complete : (r : ℕ) (f : Fault) (command : Command) (xs : List ℕ) (left : Option (List ℕ)) → Faulted r f → r ≢ 4 → (f ≡ fault.NoCommand → ⊥) → (f ≡ fault.Read → ⊥) → (f ≡ fault.TooLong → TookTooMany xs left) → IsComplete command xs r
faulted_complete r f command xs left (inr h) n no_command no_read long = absurd (n h)
faulted_complete r fault.NoCommand command xs left (inl h) n no_command no_read long = absurd (no_command refl)
faulted_complete r fault.Read command xs left (inl h) n no_command no_read long = absurd (no_read refl)
faulted_complete r fault.Memory command xs left (inl h) n no_command no_read long = record { long = λ _. inr h; some = λ _. inr h; each = λ _ reply k. inr h }
faulted_complete r fault.TooLong command xs left (inl h) n no_command no_read long =
    let more : input_limit < length xs = took_more xs left (long refl) in
    record { long = λ _. inl h; some = λ w. absurd (omega (arith, more, w)); each = λ w reply k. absurd (omega (arith, more, w)) }
