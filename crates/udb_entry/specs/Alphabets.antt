-- The alphabets of the names of entries.
use Rattle.std.specs.Prelude.{◌==◌, ◌&&◌, ◌||◌, Bool, false, not, ℕ, nat_le, List, [], ◌∷◌, length}
use Rattle.std.specs.List.{list_all}
use Rattle.udb_base.specs.declared.kinds.Kind.{Kind}
use Rattle.udb_base.specs.declared.kinds.Kind.TheVariants.{Extension, Parameter, Instruction, Csr, Functions, Config}
use Rattle.idl_token.specs.Front.{is_reserved}

abbrev pub is_upper : ℕ → Bool
is_upper b = nat_le 65 b && nat_le b 90

abbrev pub is_lower : ℕ → Bool
is_lower b = nat_le 97 b && nat_le b 122

abbrev pub is_digit : ℕ → Bool
is_digit b = nat_le 48 b && nat_le b 57

abbrev pub is_letter : ℕ → Bool
is_letter b = is_upper b || is_lower b

-- letters, digits and `_`
abbrev pub is_word_byte : ℕ → Bool
is_word_byte b = is_letter b || (is_digit b || (b == 95))

abbrev pub begins : (ℕ → Bool) → List ℕ → Bool
begins test [] = false
begins test (b ∷ bs) = test b

-- the names of instructions also have `.`
abbrev pub is_instruction_byte : ℕ → Bool
is_instruction_byte b = is_word_byte b || (b == 46)

-- at most 64 bytes of an alphabet, the first of them in another
abbrev pub is_word_of : (ℕ → Bool) → (ℕ → Bool) → List ℕ → Bool
is_word_of first alphabet name = begins first name && (list_all alphabet name && nat_le (length name) 64)

abbrev pub is_word : (ℕ → Bool) → List ℕ → Bool
is_word first name = is_word_of first is_word_byte name

-- the name of an entry of a kind; instructions, CSRs, functions and configurations begin with a letter of either case
abbrev pub has_alphabet : Kind → List ℕ → Bool
has_alphabet Extension name = is_word is_upper name
has_alphabet Parameter name = is_word is_upper name && not (is_reserved name)
has_alphabet Instruction name = is_word_of is_letter is_instruction_byte name
has_alphabet Csr name = is_word is_letter name
has_alphabet Functions name = is_word is_letter name
has_alphabet Config name = is_word is_letter name

-- the name of a field
abbrev pub is_field_name : List ℕ → Bool
is_field_name name = is_word is_upper name

-- the name of a variable or of a function
abbrev pub is_local_name : List ℕ → Bool
is_local_name name = is_word is_lower name && not (is_reserved name)
