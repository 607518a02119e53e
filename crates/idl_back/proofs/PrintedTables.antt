-- What the tables of the grammar say of signs and words, in the words of the printer.
use Rattle.std.proofs.Common.{◌≡◌, ℕ, zero, suc, Bool, true, List, [], ◌∷◌, ◌++◌, Option, None, Some, codes, refl}
use Rattle.idl_token.specs.declared.kinds.Reserved.{Reserved}
use Rattle.idl_token.specs.declared.kinds.Reserved.TheVariants as r
use Rattle.idl_token.specs.declared.kinds.Sign.{Sign}
use Rattle.idl_token.specs.declared.kinds.Sign.TheVariants as s
use Rattle.idl_token.specs.declared.kinds.TokenKind.TheVariants as k
use Rattle.idl_token.specs.Spelling.{reserved_text}
use Rattle.idl_tree.specs.declared.widths.Width.{Width}
use Rattle.idl_tree.specs.declared.widths.EnumKind.{EnumKind}
use Rattle.idl_tree.specs.declared.expressions.Unary.{Unary}
use Rattle.idl_tree.specs.Print.{within, width_form, unary_word, binary_word, enum_word}
use Rattle.idl_tree.proofs.Printed.{width_form-Plus, width_form-Minus}
use Rattle.idl_grammar.specs.Tables.{Infix, plain, wide, binding, unary_of, summing, enum_of}
use Rattle.idl_back.specs.Piece.{text_of, Sits, ends_before, begins_part, keeps_flag}
use Rattle.idl_back.proofs.FrontSigns.{part_ends}
use Rattle.idl_back.proofs.FrontRows.{sign_within}
use Rattle.idl_back.proofs.PrintedTexts.{signed, spaced}

-- ---- sums of widths

abbrev pub SumFact : Sign → Option (Width → Width → Width) → Type 0
SumFact c None = Unit {0}
SumFact c (Some op) =
    ((v : Bool) (y : List ℕ) → begins_part y ≡ true → Sits v (signed c ∷ []) y v)
    × ((y : List ℕ) → ends_before (text_of (signed c ∷ []) ++ y) ≡ true)
    × ((a b : Width) → width_form (op a b) ≡ (2, within 2 (width_form a) ++ text_of (signed c ∷ []) ++ within 1 (width_form b)))

pub sum_fact : (c : Sign) → SumFact c (summing c)
sum_fact s.Plus = (λ v y b. sign_within v s.Plus y refl (part_ends y b), λ y. refl, width_form-Plus)
sum_fact s.Minus = (λ v y b. sign_within v s.Minus y refl (part_ends y b), λ y. refl, width_form-Minus)
sum_fact _ = tt

-- ---- what stands between operands

-- a number more, so often
abbrev pub rise : ℕ → ℕ → ℕ
rise zero n = n
rise (suc d) n = rise d (suc n)

abbrev pub infix_word : Infix → List ℕ
infix_word (plain op) = binary_word op
infix_word wide = codes " `<< "

-- how many levels are above it, and its text
abbrev pub InfixFact : Sign → Option (ℕ × Infix) → Type 0
InfixFact c None = Unit {0}
InfixFact c (Some p) = (d : ℕ) × (rise d (suc p.0) ≡ 10) × (infix_word p.1 ≡ text_of (spaced c))

pub infix_fact : (c : Sign) → InfixFact c (binding c)
infix_fact s.Less = (6, refl, refl)
infix_fact s.Greater = (6, refl, refl)
infix_fact s.Equal = (5, refl, refl)
infix_fact s.NotEqual = (5, refl, refl)
infix_fact s.AtMost = (6, refl, refl)
infix_fact s.AtLeast = (6, refl, refl)
infix_fact s.Left = (7, refl, refl)
infix_fact s.Right = (7, refl, refl)
infix_fact s.RightSigned = (7, refl, refl)
infix_fact s.WideLeft = (7, refl, refl)
infix_fact s.WidePlus = (8, refl, refl)
infix_fact s.WideMinus = (8, refl, refl)
infix_fact s.WideTimes = (9, refl, refl)
infix_fact s.Plus = (8, refl, refl)
infix_fact s.Minus = (8, refl, refl)
infix_fact s.Times = (9, refl, refl)
infix_fact s.Divide = (9, refl, refl)
infix_fact s.Remainder = (9, refl, refl)
infix_fact s.Ampersand = (4, refl, refl)
infix_fact s.Bar = (2, refl, refl)
infix_fact s.Caret = (3, refl, refl)
infix_fact s.And = (1, refl, refl)
infix_fact s.Or = (0, refl, refl)
infix_fact _ = tt

-- ---- what stands before an operand

abbrev pub UnaryFact : Sign → Option Unary → Type 0
UnaryFact c None = Unit {0}
UnaryFact c (Some op) = (unary_word op ≡ text_of (signed c ∷ [])) × (begins_part (text_of (signed c ∷ [])) ≡ true)

pub unary_fact : (c : Sign) → UnaryFact c (unary_of c)
unary_fact s.Minus = (refl, refl)
unary_fact s.Tilde = (refl, refl)
unary_fact s.Not = (refl, refl)
unary_fact _ = tt

-- ---- words of the kinds of members

abbrev pub EnumFact : Reserved → Option EnumKind → Type 0
EnumFact c None = Unit {0}
EnumFact c (Some kind) = (enum_word kind ≡ reserved_text c) × (keeps_flag (k.Reserved c) ≡ true)

pub enum_fact : (c : Reserved) → EnumFact c (enum_of c)
enum_fact r.PrivilegeMode = (refl, refl)
enum_fact r.ExceptionCode = (refl, refl)
enum_fact r.CsrFieldType = (refl, refl)
enum_fact _ = tt
