use Rattle.std.proofs.Common.{subst, sym}
use Rattle.udb_http.specs.Frames.{IsFrameOf}
use Rattle.udb_http.specs.Sessions.{Refuses}
use Rattle.udb_http.proofs.AnswerLemmas.{refused, fell_short, asked}
use Rattle.udb_http.proofs.reader.read_request.Goals as goal

pub returns-in-Err-clause-answers : goal.returns-in-Err-clause-answers
returns-in-Err-clause-answers g c bytes told =
    let now = c.in_ok-end.ensures.stays bytes (rw (sym c.room.view_is) at told) in
    let found = rw c.in-Some.is at c.in_ok-end.ensures.found in
    let head = rw c.bytes.ensures at c.front_of-head.ensures in
    (refused bytes _ _ _ _ now found.0 found.2 (subst (λ b. Refuses b c.in-Err.fault) head c.in-Err.ensures), now)

pub returns-in-Err-read_body-clause-answers : goal.returns-in-Err-read_body-clause-answers
returns-in-Err-read_body-clause-answers g c bytes told =
    let now = c.in_ok-end.ensures.stays bytes (rw (sym c.room.view_is) at told) in
    let found = rw c.in-Some.is at c.in_ok-end.ensures.found in
    let head = rw c.bytes.ensures at c.front_of-head.ensures in
    let frame = c.in-Ok.ensures.1 in
    let read = c.in-Err-read_body.ensures in
    (fell_short bytes _ _ _ c.in-Ok.frame frame.0 _ now found.0 found.2 (subst (λ b. IsFrameOf b c.in-Ok.frame frame.0) head frame.1) read.found, read.stays bytes now)

pub returns-in-Ok-request_from-clause-answers : goal.returns-in-Ok-request_from-clause-answers
returns-in-Ok-request_from-clause-answers g c bytes told =
    let now = c.in_ok-end.ensures.stays bytes (rw (sym c.room.view_is) at told) in
    let found = rw c.in-Some.is at c.in_ok-end.ensures.found in
    let head = rw c.bytes.ensures at c.front_of-head.ensures in
    let frame = c.in-Ok.ensures.1 in
    let read = c.in-Ok-read_body.ensures in
    let made = rw c.bytes-2.ensures at c.in-Ok-request_from.ensures in
    let a = asked bytes _ _ _ _ _ c.in-Ok.frame frame.0 _ now (read.stays bytes now) found.0 found.2
    (subst (λ b. IsFrameOf b c.in-Ok.frame frame.0) head frame.1) read.found made in
    (a.0, a.1, rw c.take_front.ensures a.2)
