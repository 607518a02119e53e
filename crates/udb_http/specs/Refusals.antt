-- The statuses and messages of refusals.
use Rattle.std.specs.Prelude.{ℕ, List, codes, true, Option, None, Some}
use Rattle.serde_json.specs.Data.{Data, string, boolean, object, member, no_members}
use Rattle.udb_http.specs.declared.requests.ReadFault.{ReadFault}
use Rattle.udb_http.specs.declared.requests.ReadFault.TheVariants.{Memory, Link, Cut, BadHead, NoLength}
use Rattle.udb_http.specs.declared.requests.ReadFault.TheVariants as fault
use Rattle.udb_http.specs.declared.refusals.Refusal.{Refusal}
use Rattle.udb_http.specs.declared.refusals.Refusal.TheVariants.{HeadTooLong, BadRequest, LengthRequired, TooLong, NotFound, MethodNotAllowed, KeeperFailed, OutOfMemory}

abbrev pub status_of : Refusal → ℕ
status_of HeadTooLong = 431
status_of BadRequest = 400
status_of LengthRequired = 411
status_of TooLong = 413
status_of NotFound = 404
status_of MethodNotAllowed = 405
status_of KeeperFailed = 500
status_of OutOfMemory = 503

abbrev pub message_of : Refusal → List ℕ
message_of HeadTooLong = codes "head too long"
message_of BadRequest = codes "bad request"
message_of LengthRequired = codes "length required"
message_of TooLong = codes "too long"
message_of NotFound = codes "not found"
message_of MethodNotAllowed = codes "method not allowed"
message_of KeeperFailed = codes "keeper failed"
message_of OutOfMemory = codes "out of memory"

-- the refusal that answers a fault of reading; a session that ended inside a request, or whose link
-- failed, ends without a reply
abbrev pub refusal_of : ReadFault → Option Refusal
refusal_of Memory = Some OutOfMemory
refusal_of Link = None
refusal_of Cut = None
refusal_of BadHead = Some BadRequest
refusal_of NoLength = Some LengthRequired
refusal_of fault.TooLong = Some TooLong
refusal_of fault.HeadTooLong = Some HeadTooLong

-- the JSON value {"error":message}
abbrev pub error_data : List ℕ → Data
error_data message = object (member (codes "error") (string message) no_members)

-- the JSON value {"done":true}
abbrev pub done_data : Data
done_data = object (member (codes "done") (boolean true) no_members)
