-- The head of a reply, as one format writes it.
use Rattle.std.proofs.Common.{◌≡◌, ◌++◌, ℕ, List, append_assoc, codes, decimal}
use Rattle.std.specs.Prelude.{unwrap_or, [], Bool}
use Rattle.http.specs.StatusCode.{reason_phrase}
use Rattle.udb_http.specs.declared.replies.Form.{Form}
use Rattle.udb_http.specs.Replies.{type_line, close_line, head_text}

regroup : (a b c d e f g h i j k l : List ℕ)
    → a ++ (b ++ (c ++ (d ++ (e ++ (f ++ (g ++ (h ++ (i ++ (j ++ (k ++ l))))))))))
    ≡ a ++ b ++ c ++ d ++ e ++ f ++ g ++ h ++ i ++ j ++ k ++ l
regroup a b c d e f g h i j k l = simp append_assoc

pub head_is : (status : ℕ) (form : Form) (size : ℕ) (allow : List ℕ) (close : Bool) (phrase kind last : List ℕ)
    → phrase ≡ unwrap_or (reason_phrase status) [] → kind ≡ type_line form → last ≡ close_line close
    → codes "HTTP/1.1 " ++ (decimal status ++ (codes " " ++ (phrase ++ (codes "\r\n" ++ (kind
    ++ (codes "Content-Length: " ++ (decimal size ++ (codes "\r\n" ++ (allow ++ (last ++ codes "\r\n"))))))))))
    ≡ head_text status form size allow close
head_is status form size allow close phrase kind last p k l =
    rw (p, k, l)
    (regroup (codes "HTTP/1.1 ") (decimal status) (codes " ") (unwrap_or (reason_phrase status) []) (codes "\r\n")
    (type_line form) (codes "Content-Length: ") (decimal size) (codes "\r\n") allow (close_line close) (codes "\r\n"))
