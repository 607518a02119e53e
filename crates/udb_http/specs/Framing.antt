-- What the head of a request says of its body (RFC 9112, section 6), and whether the session closes
-- after it (RFC 9112, section 9.6).
use Rattle.std.specs.Prelude.{ℕ, ◌==◌, List, [], ◌∷◌, map, length, codes, Bool, not, ◌&&◌, ◌||◌, nat_le, if◌then◌else◌, Option, None, Some, Result, Ok, Err}
use Rattle.std.specs.List.{list_any, list_all}
use Rattle.std.specs.Char.{to_ascii_lowercase, is_ascii_digit}
use Rattle.std.specs.Str.{bytes_eq}
use Rattle.std.specs.Str.Parse.{digits_value}
use Rattle.udb_http.specs.declared.requests.ReadFault.{ReadFault}
use Rattle.udb_http.specs.declared.requests.ReadFault.TheVariants.{BadHead, NoLength, TooLong}

-- the name of a field, and its value without the white space round it
abbrev pub Pair : Type 0
Pair = List ℕ × List ℕ

-- the same word, whatever its case
abbrev pub same_word : List ℕ → List ℕ → Bool
same_word a b = bytes_eq (map to_ascii_lowercase a) (map to_ascii_lowercase b)

-- whether a field has the name (RFC 9110, section 5.1)
abbrev pub is_named : List ℕ → Pair → Bool
is_named name field = same_word name field.0

-- whether there is a field of the name
abbrev pub has_field : List ℕ → List Pair → Bool
has_field name fields = list_any (is_named name) fields

-- the value of the first field of the name
abbrev pub first_value : List ℕ → List Pair → Option (List ℕ)
first_value name [] = None
first_value name (field ∷ fields) = if is_named name field then Some field.1 else first_value name fields

-- whether the value of each field of the name is this one
abbrev pub agree : List ℕ → List ℕ → List Pair → Bool
agree name value fields = list_all (λ field. not (is_named name field) || bytes_eq value field.1) fields

-- 1 to 18 digits
abbrev pub is_length : List ℕ → Bool
is_length value = nat_le 1 (length value) && (nat_le (length value) 18 && list_all is_ascii_digit value)

-- the methods whose requests must state a length
abbrev pub needs_length : List ℕ → Bool
needs_length method = bytes_eq method (codes "PUT") || bytes_eq method (codes "POST")

-- the most bytes of a body
abbrev pub body_limit : ℕ
body_limit = 65536

-- the length by the value of Content-Length, where there is one and all of them are the same
abbrev pub stated_length : List ℕ → Option (List ℕ) → List Pair → Result ℕ ReadFault
stated_length method None fields = if needs_length method then Err NoLength else Ok 0
stated_length method (Some value) fields =
    if is_length value && agree (codes "content-length") value fields
    then (if nat_le (digits_value 10 value) body_limit then Ok (digits_value 10 value) else Err TooLong)
    else Err BadHead

-- the length of the body, or why the head is refused
abbrev pub body_length : List ℕ → List Pair → Result ℕ ReadFault
body_length method fields =
    if has_field (codes "transfer-encoding") fields then Err BadHead
    else stated_length method (first_value (codes "content-length") fields) fields

-- whether the session closes after the request: by its version or by a field whose whole value is `close`
abbrev pub closes : ℕ → List Pair → Bool
closes minor fields =
    minor == 0 || list_any (λ field. is_named (codes "connection") field && same_word (codes "close") field.1) fields
