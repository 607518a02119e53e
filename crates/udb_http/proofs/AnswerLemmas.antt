-- What the bytes of a session spell, from what was found in the buffer.
use Rattle.std.proofs.Common.{◌≡◌, ℕ, ◌+◌, ◌<◌, ◌≤◌, List, ◌++◌, length, drop, take, Option, Some, None, Bool, true, false, refl, sym, ap, ◌∙◌, arith, inl, inr, subst, codes}
use Rattle.std.specs.Prelude.{◌⊎◌, ⊤, Result, Ok, Err, ◌&&◌, nat_le, if◌then◌else◌}
use Rattle.std.specs.Str.Parse.{digits_value}
use Rattle.std.proofs.lemmas.List.{length-append, length-drop, take-append-le, drop-append-le}
use Rattle.httparse.specs.Grammar.{RequestHead}
use Rattle.udb_http.specs.declared.heads.Frame.{Frame}
use Rattle.udb_http.specs.declared.requests.Request.{Request}
use Rattle.udb_http.specs.declared.requests.ReadFault.{ReadFault}
use Rattle.udb_http.specs.declared.requests.ReadFault.TheVariants.{Memory, Link, Cut, BadHead, NoLength, TooLong, HeadTooLong}
use Rattle.udb_http.specs.Frames.{IsFrameOf}
use Rattle.udb_http.specs.Framing.{Pair, has_field, first_value, agree, is_length, needs_length, stated_length, body_limit}
use Rattle.udb_http.specs.Sessions.{IsHead, Refuses, HasEnd, Frames, EndsInside, SpellsRefused, SpellsFault, SpellsRequest, request_of, size_of, pairs, unread}
use Rattle.udb_http.proofs.ScanLemmas.{unread_is}

-- ---- what a head says of its body is refused in three ways alone

abbrev pub IsFraming : ReadFault → Type 0
IsFraming Memory = ⊥
IsFraming Link = ⊥
IsFraming Cut = ⊥
IsFraming BadHead = ⊤
IsFraming NoLength = ⊤
IsFraming TooLong = ⊤
IsFraming HeadTooLong = ⊥

abbrev Size : Type 0
Size = Result ℕ ReadFault

abbrev choose : Bool → Size → Size → Size
choose b x y = if◌then◌else◌ {A = Size} b x y

framing_fault : (known fault : ReadFault) (r : Size) → IsFraming known → r ≡ Err known → r ≡ Err fault → IsFraming fault
framing_fault known fault r h e f = let g = sym e ∙ f in let same : known ≡ fault = cc in subst IsFraming same h

no_fault : (n : ℕ) (fault : ReadFault) (r : Size) → r ≡ Ok n → r ≡ Err fault → ⊥
no_fault n fault r e f = let g = sym e ∙ f in cc

is_limited : (n : ℕ) (fault : ReadFault) (fits : Bool) → choose fits (Ok n) (Err TooLong) ≡ Err fault → IsFraming fault
is_limited n fault true e = absurd (no_fault n fault (Ok n) refl e)
is_limited n fault false e = framing_fault TooLong fault (Err TooLong) tt refl e

is_whole : (n : ℕ) (fault : ReadFault) (right fits : Bool) → choose right (choose fits (Ok n) (Err TooLong)) (Err BadHead) ≡ Err fault → IsFraming fault
is_whole n fault true fits e = is_limited n fault fits e
is_whole n fault false fits e = framing_fault BadHead fault (Err BadHead) tt refl e

is_needed : (fault : ReadFault) (needs : Bool) → choose needs (Err NoLength) (Ok 0) ≡ Err fault → IsFraming fault
is_needed fault true e = framing_fault NoLength fault (Err NoLength) tt refl e
is_needed fault false e = absurd (no_fault 0 fault (Ok 0) refl e)

is_stated : (method : List ℕ) (fields : List Pair) (value : Option (List ℕ)) (fault : ReadFault) → stated_length method value fields ≡ Err fault → IsFraming fault
is_stated method fields None fault e = is_needed fault (needs_length method) e
is_stated method fields (Some value) fault e =
    is_whole (digits_value 10 value) fault (is_length value && agree (codes "content-length") value fields) (nat_le (digits_value 10 value) body_limit) e

is_coded : (fault : ReadFault) (coded : Bool) (r : Size) → (r ≡ Err fault → IsFraming fault) → choose coded (Err BadHead) r ≡ Err fault → IsFraming fault
is_coded fault true r h e = framing_fault BadHead fault (Err BadHead) tt refl e
is_coded fault false r h e = h e

is_framing : (h : RequestHead) (fault : ReadFault) → size_of h ≡ Err fault → IsFraming fault
is_framing h fault e =
    let fields = pairs h in
    is_coded fault (has_field (codes "transfer-encoding") fields) (stated_length h.method (first_value (codes "content-length") fields) fields)
    (is_stated h.method fields (first_value (codes "content-length") fields) fault) e

refuses_so : (bytes : List ℕ) (fault : ReadFault) → Refuses bytes fault → IsFraming fault
refuses_so bytes fault (inl x) = subst IsFraming (sym x.1) tt
refuses_so bytes fault (inr x) = is_framing x.0 fault x.2

spells_so : (bytes : List ℕ) (fault : ReadFault) → IsFraming fault → SpellsRefused bytes fault → SpellsFault bytes fault
spells_so bytes Memory f s = absurd f
spells_so bytes Link f s = absurd f
spells_so bytes Cut f s = absurd f
spells_so bytes BadHead f s = s
spells_so bytes NoLength f s = s
spells_so bytes TooLong f s = s
spells_so bytes HeadTooLong f s = absurd f

-- ---- what was found in the buffer

same_front : (n : ℕ) (held rest bytes : List ℕ) → bytes ≡ held ++ rest → n ≤ length held → take n bytes ≡ take n held
same_front n held rest bytes e fits = ap (take n) e ∙ take-append-le n held rest fits

abbrev pub Ends : List ℕ → ℕ → Type 0
Ends held n = (more : List ℕ) → HasEnd (held ++ more) n

pub refused : (bytes held : List ℕ) (left : Option (List ℕ)) (n : ℕ) (fault : ReadFault) → unread held left ≡ Some bytes → n ≤ length held → Ends held n
    → Refuses (take n held) fault → SpellsFault bytes fault
refused bytes held left n fault told fits ends h =
    let rest = unread_is held left bytes told in
    let front = same_front n held rest.0 bytes rest.2 fits in
    let end : HasEnd bytes n = subst (λ b. HasEnd b n) (sym rest.2) (ends rest.0) in
    spells_so bytes fault (refuses_so (take n held) fault h) (n, end, subst (λ b. Refuses b fault) (sym front) h)

frames : (bytes held : List ℕ) (left : Option (List ℕ)) (n : ℕ) (frame : Frame) (h : RequestHead) → unread held left ≡ Some bytes → n ≤ length held → Ends held n
    → IsFrameOf (take n held) frame h → Frames bytes n frame.size h
frames bytes held left n frame h told fits ends f =
    let rest = unread_is held left bytes told in
    let front = same_front n held rest.0 bytes rest.2 fits in record {
      ends = subst (λ b. HasEnd b n) (sym rest.2) (ends rest.0);
      head = subst (λ b. IsHead b h) (sym front) f.head;
      size_is = f.size;
    }

cut : (bytes held : List ℕ) (left : Option (List ℕ)) (n : ℕ) (frame : Frame) (h : RequestHead) → unread held left ≡ Some bytes → n ≤ length held → Ends held n
    → IsFrameOf (take n held) frame h → length bytes < n + frame.size → EndsInside bytes
cut bytes held left n frame h told fits ends f short = inr (n, frame.size, h, frames bytes held left n frame h told fits ends f, short)

pub fell_short : (bytes held : List ℕ) (left : Option (List ℕ)) (n : ℕ) (frame : Frame) (h : RequestHead) (fault : ReadFault)
    → unread held left ≡ Some bytes → n ≤ length held → Ends held n → IsFrameOf (take n held) frame h
    → (((fault ≡ Memory) ⊎ (fault ≡ Link)) ⊎ ((fault ≡ Cut) × ((b : List ℕ) → unread held left ≡ Some b → length b < n + frame.size)))
    → SpellsFault bytes fault
fell_short bytes held left n frame h fault told fits ends f (inl (inl e)) = subst (SpellsFault bytes) (sym e) tt
fell_short bytes held left n frame h fault told fits ends f (inl (inr e)) = subst (SpellsFault bytes) (sym e) tt
fell_short bytes held left n frame h fault told fits ends f (inr x) =
    subst (SpellsFault bytes) (sym x.0) (cut bytes held left n frame h told fits ends f (x.1 bytes told))

pub asked : (bytes held read : List ℕ) (left over : Option (List ℕ)) (n : ℕ) (frame : Frame) (h : RequestHead) (r : Request)
    → unread held left ≡ Some bytes → unread read over ≡ Some bytes → n ≤ length held → Ends held n → IsFrameOf (take n held) frame h → n + frame.size ≤ length read
    → ((h : RequestHead) → IsFrameOf (take n read) frame h → r ≡ request_of h (take frame.size (drop n read)))
    → (x : ℕ) × SpellsRequest bytes r x × (unread (drop (n + frame.size) read) over ≡ Some (drop x bytes))
asked bytes held read left over n frame h r told now fits ends f whole made =
    let first = unread_is held left bytes told in
    let rest = unread_is read over bytes now in
    let short : n ≤ length read = omega (arith, whole) in
    let front = same_front n held first.0 bytes first.2 fits in
    let here = same_front n read rest.0 bytes rest.2 short in
    let g : IsFrameOf (take n read) frame h = subst (λ b. IsFrameOf b frame h) (sym front ∙ here) f in
    let body : take frame.size (drop n bytes) ≡ take frame.size (drop n read) =
    ap (λ b. take frame.size (drop n b)) rest.2 ∙ ap (take frame.size) (drop-append-le n read rest.0 short)
    ∙ take-append-le frame.size (drop n read) rest.0 (omega (arith, whole, length-drop n read)) in
    let spelled : SpellsRequest bytes r (n + frame.size) = record {
      head_size = n;
      size = frame.size;
      head = h;
      frames = frames bytes held left n frame h told fits ends f;
      whole = refl;
      within = omega (arith, whole, ap length rest.2, length-append read rest.0);
      is = made h g ∙ ap (request_of h) (sym body);
    } in
    let left_over : unread (drop (n + frame.size) read) over ≡ Some (drop (n + frame.size) bytes) =
    ap (λ o. unread (drop (n + frame.size) read) o) rest.1
    ∙ ap Some (sym (ap (drop (n + frame.size)) rest.2 ∙ drop-append-le (n + frame.size) read rest.0 whole)) in
    (n + frame.size, spelled, left_over)
