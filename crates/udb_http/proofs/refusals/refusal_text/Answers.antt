use Rattle.std.proofs.Common.{refl}
use Rattle.serde_json.proofs.OnLiterals.{serde_json_on_literals}
use Rattle.udb_http.proofs.refusals.refusal_text.Goals as goal

pub returns-in-HeadTooLong : goal.returns-in-HeadTooLong
unfolding serde_json_on_literals
returns-in-HeadTooLong c = rw c.in-HeadTooLong.is refl

pub returns-in-BadRequest : goal.returns-in-BadRequest
unfolding serde_json_on_literals
returns-in-BadRequest c = rw c.in-BadRequest.is refl

pub returns-in-LengthRequired : goal.returns-in-LengthRequired
unfolding serde_json_on_literals
returns-in-LengthRequired c = rw c.in-LengthRequired.is refl

pub returns-in-TooLong : goal.returns-in-TooLong
unfolding serde_json_on_literals
returns-in-TooLong c = rw c.in-TooLong.is refl

pub returns-in-NotFound : goal.returns-in-NotFound
unfolding serde_json_on_literals
returns-in-NotFound c = rw c.in-NotFound.is refl

pub returns-in-MethodNotAllowed : goal.returns-in-MethodNotAllowed
unfolding serde_json_on_literals
returns-in-MethodNotAllowed c = rw c.in-MethodNotAllowed.is refl

pub returns-in-KeeperFailed : goal.returns-in-KeeperFailed
unfolding serde_json_on_literals
returns-in-KeeperFailed c = rw c.in-KeeperFailed.is refl

pub returns-in-OutOfMemory : goal.returns-in-OutOfMemory
unfolding serde_json_on_literals
returns-in-OutOfMemory c = rw c.in-OutOfMemory.is refl
