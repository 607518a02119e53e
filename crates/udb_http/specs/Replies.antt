-- The bytes of a reply.
use Rattle.std.specs.Prelude.{◌≡◌, ◌↔◌, ◌==◌, ℕ, List, [], ◌∷◌, ◌++◌, length, codes, decimal, unwrap_or, Bool, true, false, Option, None, Some, IsSome, IsTrue, if◌then◌else◌}
use Rattle.std.specs.List.{list_any, flat_map}
use Rattle.http.specs.StatusCode.{reason_phrase}
use Rattle.udb_http.specs.declared.replies.Form.{Form}
use Rattle.udb_http.specs.declared.replies.Form.TheVariants.{Json, Plain}
use Rattle.udb_http.specs.declared.replies.Reply.{Reply}

-- the statuses of replies: success, and the codes of refusals
abbrev pub statuses : List ℕ
statuses = 200 ∷ 400 ∷ 404 ∷ 405 ∷ 409 ∷ 411 ∷ 413 ∷ 422 ∷ 431 ∷ 500 ∷ 503 ∷ []

abbrev pub IsReplyStatus : ℕ → Type 0
IsReplyStatus status = IsTrue (list_any (λ s. s == status) statuses)

-- the status is one of them, and methods stand in a 405 alone
pub record IsReply (reply : Reply) : Type 0 where
  pub status : IsReplyStatus reply.status
  pub allow : IsSome reply.allow ↔ (reply.status ≡ 405)

-- ---- the lines of a head (RFC 9112, sections 4 and 5)

abbrev pub type_line : Form → List ℕ
type_line Json = codes "Content-Type: application/json\r\n"
type_line Plain = codes "Content-Type: text/plain; charset=utf-8\r\n"

-- methods joined by a comma and a space
abbrev pub methods_text : List (List ℕ) → List ℕ
methods_text [] = []
methods_text (m ∷ ms) = m ++ flat_map (λ more. codes ", " ++ more) ms

abbrev pub allow_line : Option (List (List ℕ)) → List ℕ
allow_line None = []
allow_line (Some methods) = codes "Allow: " ++ methods_text methods ++ codes "\r\n"

abbrev pub close_line : Bool → List ℕ
close_line true = codes "Connection: close\r\n"
close_line false = []

-- what a refusal for want of memory says
abbrev pub unavailable : List ℕ
unavailable = codes "{\"error\":\"out of memory\"}"

-- the body that is sent: that of a 503 is always the same
abbrev pub body_of : Reply → List ℕ
body_of reply = if reply.status == 503 then unavailable else reply.body

-- the status line and the fields, up to the empty line that ends the head
abbrev pub head_text : ℕ → Form → ℕ → List ℕ → Bool → List ℕ
head_text status form size allow close =
    codes "HTTP/1.1 " ++ decimal status ++ codes " " ++ unwrap_or (reason_phrase status) []
    ++ codes "\r\n" ++ type_line form ++ codes "Content-Length: " ++ decimal size ++ codes "\r\n"
    ++ allow ++ close_line close ++ codes "\r\n"

-- the bytes of a reply: its head and its body
abbrev pub reply_text : Reply → List ℕ
reply_text reply =
    head_text reply.status reply.form (length (body_of reply)) (allow_line reply.allow) reply.close
    ++ body_of reply

-- the reply for want of memory
abbrev pub out_of_memory : Bool → Reply
out_of_memory close = record { status = 503; form = Json; body = []; allow = None; close = close }
