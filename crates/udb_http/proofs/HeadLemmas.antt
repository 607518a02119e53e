-- A head has no more fields than bytes.
use Rattle.std.proofs.Common.{◌≤◌, ℕ, List, [], ◌∷◌, ◌++◌, length, arith, ap}
use Rattle.std.specs.List.{flat_map}
use Rattle.std.proofs.lemmas.List.{length-append}
use Rattle.httparse.specs.Ascii.{colon}
use Rattle.httparse.specs.Grammar.{Field, print_field, print_end, print_section, RequestHead, print_request}
use Rattle.udb_http.specs.Sessions.{IsHead}

a_byte_each : (f : Field) → 1 ≤ length (print_field f)
a_byte_each f = omega (arith, length-append (f.name ++ colon ∷ f.raw) (print_end f.end), length-append f.name (colon ∷ f.raw))

fields_within : (fields : List Field) → length fields ≤ length (flat_map print_field fields)
fields_within [] = omega arith
fields_within (f ∷ fields) =
    omega (arith, fields_within fields, length-append (print_field f) (flat_map print_field fields), a_byte_each f)

tail_within : (front tail : List ℕ) → length tail ≤ length (front ++ tail)
tail_within front tail = omega (arith, length-append front tail)

print_within : (h : RequestHead) → length h.fields ≤ length (print_request h)
unfolding print_request
print_within h =
    let section : length (print_section h.fields h.last) ≤ length (print_request h) = tail_within _ (print_section h.fields h.last) in
    omega (arith, section, fields_within h.fields, length-append (flat_map print_field h.fields) (print_end h.last))

pub head_within : (bytes : List ℕ) (h : RequestHead) → IsHead bytes h → length h.fields ≤ length bytes
head_within bytes h x = omega (arith, print_within h, ap length x.1, length-append (print_request h) [])
