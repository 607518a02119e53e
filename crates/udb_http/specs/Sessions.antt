-- Which requests the bytes of a session spell, however they come.
use Rattle.std.specs.Prelude.{◌≡◌, ◌≤◌, ◌<◌, ◌+◌, ◌⊎◌, ℕ, zero, suc, List, [], ◌∷◌, ◌++◌, map, take, drop, length, true, false, Option, None, Some, option_map, Result, Ok, Err, ⊤}
use Rattle.udb_base.specs.Faults.{Rose}
use Rattle.httparse.specs.Grammar.{RequestHead, ReadsRequest}
use Rattle.httparse.specs.Spans.{name_and_value}
use Rattle.udb_http.specs.declared.requests.Request.{Request}
use Rattle.udb_http.specs.declared.requests.ReadFault.{ReadFault}
use Rattle.udb_http.specs.declared.requests.ReadFault.TheVariants.{Memory, Link, Cut, BadHead, NoLength, TooLong, HeadTooLong}
use Rattle.udb_http.specs.Framing.{Pair, body_length, closes}
use Rattle.udb_http.specs.Heads.{head_limit, head_length}

-- the fields of a head
abbrev pub pairs : RequestHead → List Pair
pairs h = map name_and_value h.fields

-- the bytes are a head and nothing more (RFC 9112, section 3)
abbrev pub IsHead : List ℕ → RequestHead → Type 0
IsHead bytes h = ReadsRequest bytes h []

-- the length of the body by a head, or why it is refused
abbrev pub size_of : RequestHead → Result ℕ ReadFault
size_of h = body_length h.method (pairs h)

-- why the bytes of a head are refused: they are none, or what it says of its body
abbrev pub Refuses : List ℕ → ReadFault → Type 0
Refuses bytes fault =
    (((h : RequestHead) → ¬ (IsHead bytes h)) × (fault ≡ BadHead))
    ⊎ ((h : RequestHead) × IsHead bytes h × (size_of h ≡ Err fault))

-- the request of a head with a body
abbrev pub request_of : RequestHead → List ℕ → Request
request_of h body = record { method = h.method; path = h.target; body = body; close = closes h.minor (pairs h) }

-- the first bytes of a session hold the end of a head, and n bytes belong to it
abbrev pub HasEnd : List ℕ → ℕ → Type 0
HasEnd bytes n = head_length (take head_limit bytes) ≡ Some n

abbrev pub HasNoEnd : List ℕ → Type 0
HasNoEnd bytes = head_length (take head_limit bytes) ≡ None

-- bytes begin with a head of n bytes whose body has so many
pub record Frames (bytes : List ℕ) (n size : ℕ) (h : RequestHead) : Type 0 where
  pub ends : HasEnd bytes n
  pub head : IsHead (take n bytes) h
  pub size_is : size_of h ≡ Ok size

-- bytes begin with a request, which takes n of them
pub record SpellsRequest (bytes : List ℕ) (request : Request) (n : ℕ) : Type 0 where
  pub head_size : ℕ
  pub size : ℕ
  pub head : RequestHead
  pub frames : Frames bytes head_size size head
  pub whole : n ≡ head_size + size
  pub within : n ≤ length bytes
  pub is : request ≡ request_of head (take size (drop head_size bytes))

-- bytes end inside a request: in its head, or in its body
abbrev pub EndsInside : List ℕ → Type 0
EndsInside bytes =
    ((1 ≤ length bytes) × (length bytes < head_limit) × HasNoEnd bytes)
    ⊎ ((n : ℕ) × (size : ℕ) × (h : RequestHead) × Frames bytes n size h × (length bytes < n + size))

-- the head that bytes begin with is refused
abbrev pub SpellsRefused : List ℕ → ReadFault → Type 0
SpellsRefused bytes fault = (n : ℕ) × HasEnd bytes n × Refuses (take n bytes) fault

-- why the bytes that are left of a session give no request; want of memory and failures of the link
-- are no matter of the bytes
abbrev pub SpellsFault : List ℕ → ReadFault → Type 0
SpellsFault bytes Memory = ⊤
SpellsFault bytes Link = ⊤
SpellsFault bytes Cut = EndsInside bytes
SpellsFault bytes BadHead = SpellsRefused bytes BadHead
SpellsFault bytes NoLength = SpellsRefused bytes NoLength
SpellsFault bytes TooLong = SpellsRefused bytes TooLong
SpellsFault bytes HeadTooLong = (head_limit ≤ length bytes) × HasNoEnd bytes

-- faults that are of the bytes
abbrev pub IsOfBytes : ReadFault → Type 0
IsOfBytes Memory = ⊥
IsOfBytes Link = ⊥
IsOfBytes Cut = ⊤
IsOfBytes BadHead = ⊤
IsOfBytes NoLength = ⊤
IsOfBytes TooLong = ⊤
IsOfBytes HeadTooLong = ⊤

-- what the bytes that are left of a session spell: nothing, a request, or a fault
abbrev pub Spells : List ℕ → Result (Option Request) ReadFault → Type 0
Spells bytes (Ok None) = bytes ≡ []
Spells bytes (Ok (Some request)) = (n : ℕ) × SpellsRequest bytes request n
Spells bytes (Err fault) = IsOfBytes fault × SpellsFault bytes fault

-- that is at most one
abbrev pub OneAnswer : Type 0
OneAnswer = (bytes : List ℕ) (x y : Result (Option Request) ReadFault) → Spells bytes x → Spells bytes y → x ≡ y

-- ---- what is left of a session: what was read ahead, and what the link has left, where it tells it

abbrev pub unread : List ℕ → Option (List ℕ) → Option (List ℕ)
unread held left = option_map (λ rest. held ++ rest) left

-- whatever bytes were left are left
abbrev pub Stays : Option (List ℕ) → Option (List ℕ) → Type 0
Stays before after = (bytes : List ℕ) → before ≡ Some bytes → after ≡ Some bytes

-- a failure of the link comes only where its count rose, and the count never falls
abbrev pub HasLinkCause : {T : Type 0} → ℕ → ℕ → Result T ReadFault → Type 0
HasLinkCause before now result = (before ≤ now) × (result ≡ Err Link → Rose before now)

-- what was found in reading a head into a buffer: nothing at all, where it ends, or why it doesn't
abbrev pub FoundHead : Option (List ℕ) → List ℕ → Result (Option ℕ) ReadFault → Type 0
FoundHead before held (Ok None) = (bytes : List ℕ) → before ≡ Some bytes → bytes ≡ []
FoundHead before held (Ok (Some n)) =
    (n ≤ length held) × (n ≤ 16384) × ((more : List ℕ) → HasEnd (held ++ more) n)
FoundHead before held (Err fault) = (bytes : List ℕ) → before ≡ Some bytes → SpellsFault bytes fault

-- what was found in reading up to a place: enough, or the end of the session before it
abbrev pub FoundBody : Option (List ℕ) → ℕ → List ℕ → Result (Unit {0}) ReadFault → Type 0
FoundBody before end held (Ok u) = end ≤ length held
FoundBody before end held (Err fault) =
    ((fault ≡ Memory) ⊎ (fault ≡ Link)) ⊎ ((fault ≡ Cut) × ((bytes : List ℕ) → before ≡ Some bytes → length bytes < end))

-- an answer is what the bytes spell, and it takes its request's bytes and no others
abbrev pub Answers : List ℕ → Result (Option Request) ReadFault → Option (List ℕ) → Type 0
Answers bytes (Ok None) after = (bytes ≡ []) × (after ≡ Some bytes)
Answers bytes (Ok (Some request)) after = (n : ℕ) × SpellsRequest bytes request n × (after ≡ Some (drop n bytes))
Answers bytes (Err fault) after = SpellsFault bytes fault × (after ≡ Some bytes)

-- ---- sessions

-- the head of a refused request is the last of its session
abbrev pub IsRefusal : ReadFault → Type 0
IsRefusal Memory = ⊥
IsRefusal Link = ⊥
IsRefusal Cut = ⊥
IsRefusal BadHead = ⊤
IsRefusal NoLength = ⊤
IsRefusal TooLong = ⊤
IsRefusal HeadTooLong = ⊤

-- the requests that bytes spell from the front, at most so many, up to the first after which the
-- session closes; a refused one is told by its fault
abbrev pub Spelled : ℕ → List ℕ → List (Result Request ReadFault) → Type 0
Spelled zero bytes requests = requests ≡ []
Spelled (suc n) bytes [] = (bytes ≡ []) ⊎ EndsInside bytes
Spelled (suc n) bytes (Err fault ∷ rest) = IsRefusal fault × SpellsFault bytes fault × (rest ≡ [])
Spelled (suc n) bytes (Ok request ∷ rest) =
    (size : ℕ) × SpellsRequest bytes request size
    × (request.close ≡ true → rest ≡ []) × (request.close ≡ false → Spelled n (drop size bytes) rest)

-- the most requests of a session
abbrev pub session_limit : ℕ
session_limit = 1000

-- the requests of a session
abbrev pub Session : List ℕ → List (Result Request ReadFault) → Type 0
Session bytes requests = Spelled session_limit bytes requests

-- what the requests of a session are by the answer for the first: none, a refused one that is the last,
-- or one after which the session closes or goes on with the bytes that are left
abbrev pub IsNext : ℕ → Result (Option Request) ReadFault → Option (List ℕ) → List (Result Request ReadFault) → Type 0
IsNext n (Ok None) after requests = requests ≡ []
IsNext n (Ok (Some request)) after requests =
    (rest : List (Result Request ReadFault)) × (requests ≡ Ok request ∷ rest) × (request.close ≡ true → rest ≡ [])
    × (request.close ≡ false → (bytes : List ℕ) → after ≡ Some bytes → Spelled n bytes rest)
IsNext n (Err Memory) after requests = ⊤
IsNext n (Err Link) after requests = ⊤
IsNext n (Err Cut) after requests = requests ≡ []
IsNext n (Err BadHead) after requests = requests ≡ Err BadHead ∷ []
IsNext n (Err NoLength) after requests = requests ≡ Err NoLength ∷ []
IsNext n (Err TooLong) after requests = requests ≡ Err TooLong ∷ []
IsNext n (Err HeadTooLong) after requests = requests ≡ Err HeadTooLong ∷ []

-- an answer is the next of a session's requests
abbrev pub GivesNext : Type 0
GivesNext =
    (bytes : List ℕ) (x : Result (Option Request) ReadFault) (after : Option (List ℕ)) → Answers bytes x after
    → (n : ℕ) (requests : List (Result Request ReadFault)) → Spelled (suc n) bytes requests → IsNext n x after requests
