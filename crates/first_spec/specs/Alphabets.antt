-- The alphabets of names, texts and encodings in a bundle of the first path.
use Rattle.std.specs.Prelude.{◌==◌, ◌&&◌, ◌||◌, Bool, true, false, not, ℕ, nat_le, List, [], ◌∷◌, length, drop, codes, if◌then◌else◌}
use Rattle.std.specs.List.{list_all, list_any}
use Rattle.udb_spec.specs.Conditions.{same_bytes}

abbrev pub is_upper : ℕ → Bool
is_upper b = nat_le 65 b && nat_le b 90

abbrev pub is_lower : ℕ → Bool
is_lower b = nat_le 97 b && nat_le b 122

abbrev pub is_digit : ℕ → Bool
is_digit b = nat_le 48 b && nat_le b 57

abbrev pub is_letter : ℕ → Bool
is_letter b = is_upper b || is_lower b

abbrev pub is_letter_or_digit : ℕ → Bool
is_letter_or_digit b = is_letter b || is_digit b

-- letters, digits and `_`
abbrev pub is_word_byte : ℕ → Bool
is_word_byte b = is_letter_or_digit b || (b == 95)

-- the same and `.`
abbrev pub is_dotted_byte : ℕ → Bool
is_dotted_byte b = is_word_byte b || (b == 46)

abbrev pub begins : (ℕ → Bool) → List ℕ → Bool
begins test [] = false
begins test (b ∷ bs) = test b

-- a plain scalar that isn't a text
abbrev pub is_plain_word : List ℕ → Bool
is_plain_word n = same_bytes n (codes "true") || (same_bytes n (codes "false") || same_bytes n (codes "null"))

-- the words of the language that begin with an upper-case letter
abbrev pub is_idl_type : List ℕ → Bool
is_idl_type n =
    same_bytes n (codes "Bits") || (same_bytes n (codes "Boolean") || (same_bytes n (codes "XReg")
    || (same_bytes n (codes "U32") || same_bytes n (codes "U64"))))

abbrev pub is_idl_member : List ℕ → Bool
is_idl_member n =
    same_bytes n (codes "X") || (same_bytes n (codes "CSR") || (same_bytes n (codes "PrivilegeMode")
    || (same_bytes n (codes "ExceptionCode") || (same_bytes n (codes "CsrFieldType") || same_bytes n (codes "ExtensionName")))))

-- a name of a parameter: no word of the language
abbrev pub is_parameter_name : List ℕ → Bool
is_parameter_name n =
    begins is_upper n && (list_all is_word_byte n && (nat_le (length n) 64 && not (is_idl_type n || is_idl_member n)))

abbrev pub is_instruction_name : List ℕ → Bool
is_instruction_name n = begins is_lower n && (list_all is_dotted_byte n && (nat_le (length n) 64 && not (is_plain_word n)))

abbrev pub is_config_name : List ℕ → Bool
is_config_name n = begins is_letter n && (list_all is_word_byte n && (nat_le (length n) 64 && not (is_plain_word n)))

-- words of letters and digits joined by single spaces: a space stands before a letter or digit alone
abbrev pub is_spaced : List ℕ → Bool
is_spaced [] = true
is_spaced (b ∷ bs) = (if b == 32 then begins is_letter_or_digit bs else is_letter_or_digit b) && is_spaced bs

-- a text: the first word begins with an upper-case letter
abbrev pub is_text : List ℕ → Bool
is_text t = begins is_upper t && is_spaced t

abbrev pub is_fixed_digit : ℕ → Bool
is_fixed_digit b = (b == 48) || (b == 49)

abbrev pub is_match_digit : ℕ → Bool
is_match_digit b = is_fixed_digit b || (b == 45)

-- 32 of 0, 1 and -, of which the last seven are fixed and at least one isn't
abbrev pub is_match : List ℕ → Bool
is_match m = (length m == 32) && (list_all is_match_digit m && (list_all is_fixed_digit (drop 25 m) && list_any (λ b. b == 45) m))
