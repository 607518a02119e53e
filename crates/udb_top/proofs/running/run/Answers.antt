use Rattle.std.proofs.Common.{◌≡◌, ◌⊎◌, sym, ap, inl, inr, Err, refl, ⊎_elim}
use Rattle.udb_base.specs.Faults.{Rose}
use Rattle.udb_command.specs.Input.{TookTooMany}
use Rattle.udb_top.proofs.Answered.{not_four, nothing_received, has_status, is_asked, took_few, replied_status, no_fault, replied_own, replied_complete, faulted_status, no_reply, fault_no_four, is_no_command, is_read, is_too_long, as_two, took_many, same_fault, faulted_complete}
use Rattle.udb_top.proofs.running.run.Goals as goal

pub write_reply-requires : goal.write_reply-requires
write_reply-requires g c = has_status _ _ _ _ c.in-Ok.ensures.reply

pub returns-in-Ok-clause-status : goal.returns-in-Ok-clause-status
returns-in-Ok-clause-status g c = replied_status _ _ _ _ c.in-Ok.ensures.reply c.write_reply.result c.write_reply.ensures.status

pub returns-in-Ok-clause-no_command : goal.returns-in-Ok-clause-no_command
returns-in-Ok-clause-no_command g c e = absurd (no_fault _ _ _ _ c.in-Ok.ensures.reply c.write_reply.result c.write_reply.ensures.status (inl e))

pub returns-in-Ok-clause-command : goal.returns-in-Ok-clause-command
returns-in-Ok-clause-command g c n = absurd (is_asked _ _ _ _ c.in-Ok.ensures.reply n)

pub returns-in-Ok-clause-read : goal.returns-in-Ok-clause-read
returns-in-Ok-clause-read g c e = absurd (no_fault _ _ _ _ c.in-Ok.ensures.reply c.write_reply.result c.write_reply.ensures.status (inr (inl e)))

pub returns-in-Ok-clause-too_long : goal.returns-in-Ok-clause-too_long
returns-in-Ok-clause-too_long g c xs l e = absurd (no_fault _ _ _ _ c.in-Ok.ensures.reply c.write_reply.result c.write_reply.ensures.status (inr (inr (inr e))))

pub returns-in-Ok-clause-too_many : goal.returns-in-Ok-clause-too_many
returns-in-Ok-clause-too_many g c xs l t = absurd (took_few _ _ _ _ c.in-Ok.ensures.reply xs l t)

pub returns-in-Ok-clause-replied : goal.returns-in-Ok-clause-replied
returns-in-Ok-clause-replied g c h =
    let whole = not_four c.write_reply.result h in (
      c.in-Ok.reply,
      (
        c.in-Ok.ensures.reply,
        sym (replied_own _ _ _ _ c.in-Ok.ensures.reply c.write_reply.result c.write_reply.ensures.status whole),
        c.write_reply.ensures.out whole,
        c.write_reply.ensures.err whole,
      ),
    )

pub returns-in-Ok-clause-fixed : goal.returns-in-Ok-clause-fixed
returns-in-Ok-clause-fixed g c f = absurd (no_fault _ _ _ _ c.in-Ok.ensures.reply c.write_reply.result c.write_reply.ensures.status f)

pub returns-in-Ok-clause-cut : goal.returns-in-Ok-clause-cut
returns-in-Ok-clause-cut g c e = ⊎_elim (λ p. inl p) (λ p. inr (p.0, record { reply = c.in-Ok.reply; has = c.in-Ok.ensures.reply; cut = p.1 })) (c.write_reply.ensures.cut e)

pub returns-in-Ok-clause-complete : goal.returns-in-Ok-clause-complete
returns-in-Ok-clause-complete g c command xs asked l no_read no_out no_err =
    replied_complete _ _ _ _ c.in-Ok.ensures.reply c.write_reply.result c.write_reply.ensures.status command xs asked l
    (λ e. ⊎_elim (λ p. no_err p.0) (λ p. no_out p.0) (c.write_reply.ensures.cut e))

pub returns-in-Err-clause-status : goal.returns-in-Err-clause-status
returns-in-Err-clause-status g c = faulted_status c.send.result c.in-Err.fault c.send.ensures.status

pub returns-in-Err-clause-no_command : goal.returns-in-Err-clause-no_command
returns-in-Err-clause-no_command g c e = c.in-Err.ensures.no_command (ap Err (is_no_command c.send.result c.in-Err.fault c.send.ensures.status e))

pub returns-in-Err-clause-command : goal.returns-in-Err-clause-command
returns-in-Err-clause-command g c n =
    let known = c.in-Err.ensures.command n in
    (known.1, as_two c.send.result c.in-Err.fault _ c.send.ensures.status c.send.ensures.failed (same_fault _ _ _ refl known.0))

pub returns-in-Err-clause-read : goal.returns-in-Err-clause-read
returns-in-Err-clause-read g c e = c.in-Err.ensures.failed (ap Err (is_read c.send.result c.in-Err.fault c.send.ensures.status e))

pub returns-in-Err-clause-too_long : goal.returns-in-Err-clause-too_long
returns-in-Err-clause-too_long g c xs l e = c.in-Err.ensures.too_long xs l (ap Err (is_too_long c.send.result c.in-Err.fault c.send.ensures.status e))

pub returns-in-Err-clause-too_many : goal.returns-in-Err-clause-too_many
returns-in-Err-clause-too_many g c xs l t =
    took_many c.send.result c.in-Err.fault _ _ c.send.ensures.status c.send.ensures.failed
    (λ a b. c.in-Err.ensures.few xs l (λ e. a (same_fault _ _ _ refl e)) (λ e. b (same_fault _ _ _ refl e))) t

pub returns-in-Err-clause-replied : goal.returns-in-Err-clause-replied
returns-in-Err-clause-replied g c h = absurd (no_reply c.send.result c.in-Err.fault c.send.ensures.status h)

pub returns-in-Err-clause-fixed : goal.returns-in-Err-clause-fixed
returns-in-Err-clause-fixed g c h = (nothing_received _, c.send.ensures.received (fault_no_four c.send.result h))

pub returns-in-Err-clause-cut : goal.returns-in-Err-clause-cut
returns-in-Err-clause-cut g c e = inl (c.send.ensures.failed e, nothing_received _)

pub returns-in-Err-clause-complete : goal.returns-in-Err-clause-complete
returns-in-Err-clause-complete g c command xs asked l no_read no_out no_err =
    faulted_complete c.send.result c.in-Err.fault command xs _ c.send.ensures.status
    (λ e. no_err (c.send.ensures.failed e))
    (λ e. c.in-Err.ensures.no_command (ap Err e) command asked)
    (λ e. no_read (c.in-Err.ensures.failed (ap Err e)))
    (λ e. c.in-Err.ensures.too_long xs l (ap Err e))
