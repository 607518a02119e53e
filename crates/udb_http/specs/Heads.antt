-- Where the head of a request ends.
use Rattle.std.specs.Prelude.{ℕ, ◌+◌, ◌==◌, List, [], ◌∷◌, Bool, true, false, cond, Option, None, Some, option_map}
use Rattle.udb_http.specs.declared.scans.Line.{Line}
use Rattle.udb_http.specs.declared.scans.Line.TheVariants.{Empty, Return, Text}

-- the most bytes of a head
unfoldable pub head_limit : ℕ
head_limit = 16384

-- a line is empty where nothing or one CR stands before its line feed (RFC 9112, section 2.2)
abbrev pub is_empty_line : Line → Bool
is_empty_line Empty = true
is_empty_line Return = true
is_empty_line Text = false

-- a line with one more byte that is no line feed
abbrev pub longer : Line → ℕ → Line
longer Empty byte = cond (byte == 13) Return Text
longer Return byte = Text
longer Text byte = Text

abbrev pub one_more : Option ℕ → Option ℕ
one_more n = option_map (λ n. n + 1) n

-- how many of the bytes belong to a head, of which lines that aren't empty stood before (`begun`) and a
-- part of a line: up to the first empty line after a line that isn't; none where they have no such line
abbrev pub head_from : Bool → Line → List ℕ → Option ℕ
head_from begun line [] = None
head_from begun line (byte ∷ bytes) =
    cond (byte == 10)
    (cond (is_empty_line line)
    (cond begun (Some 1) (one_more (head_from false Empty bytes)))
    (one_more (head_from true Empty bytes)))
    (one_more (head_from begun (longer line byte) bytes))

-- the length of the head that begins bytes
abbrev pub head_length : List ℕ → Option ℕ
head_length bytes = head_from false Empty bytes
