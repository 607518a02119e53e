-- Machinery: a recogniser of bodies and functions with a stack of what is still to be read. It builds
-- no trees and has no limit of nesting. Each thing to be read looks at the next token alone and says
-- what is to be read in its place.
use Rattle.std.specs.Prelude.{◌≡◌, ℕ, zero, suc, Bool, true, false, if◌then◌else◌, nat_eq, List, [], ◌∷◌, ◌++◌, map, Option, Some, None, Result, Ok, Err}
use Rattle.idl_token.specs.declared.kinds.Reserved.{Reserved}
use Rattle.idl_token.specs.declared.kinds.Reserved.TheVariants as r
use Rattle.idl_token.specs.declared.kinds.Special.TheVariants as p
use Rattle.idl_token.specs.declared.kinds.Sign.{Sign}
use Rattle.idl_token.specs.declared.kinds.Sign.TheVariants as s
use Rattle.idl_tree.specs.declared.widths.Width.{Width}
use Rattle.idl_tree.specs.declared.widths.EnumKind.{EnumKind}
use Rattle.idl_tree.specs.declared.widths.Shape.{Shape}
use Rattle.idl_tree.specs.declared.expressions.Unary.{Unary}
use Rattle.idl_token.specs.Symbol.{Symbol}
use Rattle.idl_token.specs.Symbol as t
use Rattle.idl_grammar.specs.Tables.{Infix, plain, wide, binding, loosest, unary_of, enum_of, is_access, is_short, sized_width, summing, sw_read, sw_write}
use Rattle.idl_grammar.specs.Outcome.{head, after, is_sign, is_reserved, is_word, same_text, Outcome, farther, ended}
use Rattle.idl_grammar.specs.StmtGrammar.{short_shape}
use Rattle.idl_grammar.specs.StmtReader.{begins}

pub data Item : Type 0 where
  -- one token: a sign, a word of the language, any word, one certain word, a text, the bits of an access
  sign : Sign → Item
  reserved : Reserved → Item
  word : Item
  same : List ℕ → Item
  quoted : Item
  bits : Item
  -- widths; where the flag stands only what may be multiplied
  watom : Bool → Item
  term : Bool → Item
  after_number : Item
  multiplied : Item
  short : Item
  sums : Item
  width : Item
  of_bits : Item
  -- says whether the width that was read may be multiplied
  may : Bool → Item
  -- expressions
  any : Item
  tight : ℕ → Item
  behind : Item
  operand : Item
  primary : Item
  parts : Item
  inside : Item
  onward : ℕ → Item
  more : ℕ → Item
  choice : Item
  rest : Item
  named : Item
  called : Item
  args : Item
  more_args : Item
  braced : Item
  csr : Item
  csr_word : Item
  csr_field : Item
  read_or_field : Item
  -- statements
  stmts : Item
  stmt : Item
  worded : Item
  call_stmt : Item
  csr_stmt : Item
  csr_stmt_word : Item
  csr_target : Item
  write_or_set : Item
  when : Item
  otherwise : Item
  else_block : Item
  count : Item
  shape : Item
  -- functions
  functions : Item
  function : Item
  result : Item
  taken : Item
  arguments : Item
  more_arguments : Item
  about : Item
  about_text : Item

-- what a thing to be read does at the next token
pub data Plan : Type 0 where
  -- takes the token, and then these are to be read
  takes : List Item → Plan
  -- leaves it
  passes : List Item → Plan
  refuses : Plan
  sets : Bool → Plan
  -- these are to be read, or those, whichever comes farther
  both : List Item → List Item → Plan

-- one token that the test accepts
abbrev pub accept : (Symbol → Bool) → Option Symbol → Plan
accept test None = refuses
accept test (Some c) = if test c then takes [] else refuses

abbrev pub word_plan : Option Symbol → Plan
word_plan (Some (t.word x)) = takes []
word_plan _ = refuses

abbrev pub quoted_plan : Option Symbol → Plan
quoted_plan (Some (t.quoted x)) = takes []
quoted_plan _ = refuses

abbrev pub bits_plan : Option Symbol → Plan
bits_plan (Some (t.number k)) = if is_access k then takes [] else refuses
bits_plan _ = refuses

-- ---- widths

abbrev pub if_short : ℕ → List Item → Plan
if_short k xs = if is_short k then takes xs else refuses

abbrev pub watom_plan : Bool → Option Symbol → Plan
watom_plan m (Some (t.number k)) = if_short k (may true ∷ [])
watom_plan m (Some (t.word x)) = takes (may true ∷ [])
watom_plan m (Some (t.special p.WidthOf)) = takes (sign s.OpenParen ∷ of_bits ∷ [])
watom_plan true (Some (t.sign s.OpenParen)) = takes (term true ∷ sign s.CloseParen ∷ [])
watom_plan false (Some (t.sign s.OpenParen)) = takes (term false ∷ sums ∷ sign s.CloseParen ∷ [])
watom_plan false (Some (t.reserved r.Max)) = takes (sign s.OpenParen ∷ width ∷ sign s.Comma ∷ width ∷ sign s.CloseParen ∷ may false ∷ [])
watom_plan _ _ = refuses

abbrev pub of_bits_plan : Option Symbol → Plan
of_bits_plan (Some (t.word x)) = takes (sign s.CloseParen ∷ may true ∷ [])
of_bits_plan (Some (t.reserved r.Csr)) = takes (sign s.OpenBracket ∷ word ∷ sign s.CloseBracket ∷ sign s.Dot ∷ word ∷ sign s.CloseParen ∷ may true ∷ [])
of_bits_plan _ = refuses

abbrev pub term_plan : Bool → Option Symbol → Plan
term_plan m (Some (t.number k)) = if_short k (after_number ∷ [])
term_plan m _ = passes (watom m ∷ multiplied ∷ [])

abbrev pub after_number_plan : Option Symbol → Plan
after_number_plan (Some (t.sign s.Times)) = takes (watom true ∷ may true ∷ [])
after_number_plan _ = passes (may true ∷ [])

abbrev pub multiplied_plan : Bool → Option Symbol → Plan
multiplied_plan b (Some (t.sign s.Times)) = if b then takes (short ∷ []) else passes []
multiplied_plan b _ = passes []

abbrev pub short_plan : Option Symbol → Plan
short_plan (Some (t.number k)) = if_short k (may true ∷ [])
short_plan _ = refuses

abbrev pub sum_plan : Option (Width → Width → Width) → Plan
sum_plan None = passes []
sum_plan (Some op) = takes (term false ∷ may false ∷ sums ∷ [])

abbrev pub sums_plan : Option Symbol → Plan
sums_plan (Some (t.sign c)) = sum_plan (summing c)
sums_plan _ = passes []

-- ---- expressions

abbrev pub unary_plan : Option Unary → Plan
unary_plan None = passes (primary ∷ parts ∷ [])
unary_plan (Some op) = takes (tight 0 ∷ [])

abbrev pub operand_plan : Option Symbol → Plan
operand_plan (Some (t.sign c)) = unary_plan (unary_of c)
operand_plan _ = passes (primary ∷ parts ∷ [])

abbrev pub sized_plan : Option Width → Plan
sized_plan None = refuses
sized_plan (Some a) = takes []

abbrev pub member_plan : Option EnumKind → Plan
member_plan None = refuses
member_plan (Some kind) = takes (sign s.Path ∷ word ∷ [])

abbrev pub primary_reserved : Reserved → Plan
primary_reserved r.True = takes []
primary_reserved r.False = takes []
primary_reserved r.X = takes (sign s.OpenBracket ∷ any ∷ sign s.CloseBracket ∷ [])
primary_reserved r.Csr = takes (sign s.OpenBracket ∷ csr ∷ [])
primary_reserved r.ReadMemory = takes (sign s.Less ∷ bits ∷ sign s.Greater ∷ sign s.OpenParen ∷ any ∷ sign s.CloseParen ∷ [])
primary_reserved r.CsrValue = takes (sign s.Dot ∷ word ∷ [])
primary_reserved r.Xlen = takes (sign s.OpenParen ∷ sign s.CloseParen ∷ [])
primary_reserved r.Mode = takes (sign s.OpenParen ∷ sign s.CloseParen ∷ [])
primary_reserved c = member_plan (enum_of c)

abbrev pub primary_plan : Option Symbol → Plan
primary_plan (Some (t.number k)) = takes []
primary_plan (Some (t.sized v f k)) = sized_plan (sized_width v)
primary_plan (Some (t.quoted x)) = takes []
primary_plan (Some (t.word x)) = takes (named ∷ [])
primary_plan (Some (t.reserved c)) = primary_reserved c
primary_plan (Some (t.special p.AsSigned)) = takes (sign s.OpenParen ∷ any ∷ sign s.CloseParen ∷ [])
primary_plan (Some (t.special p.Resize)) = takes (sign s.Less ∷ width ∷ sign s.Greater ∷ sign s.OpenParen ∷ any ∷ sign s.CloseParen ∷ [])
primary_plan (Some (t.special p.Pc)) = takes []
primary_plan (Some (t.special p.Encoding)) = takes []
primary_plan (Some (t.special p.Implemented)) = takes (sign s.OpenParen ∷ reserved r.ExtensionName ∷ sign s.Path ∷ word ∷ sign s.CloseParen ∷ [])
primary_plan (Some (t.special p.ImplementedVersion)) = takes (sign s.OpenParen ∷ reserved r.ExtensionName ∷ sign s.Path ∷ word ∷ sign s.Comma ∷ quoted ∷ sign s.CloseParen ∷ [])
primary_plan (Some (t.sign s.OpenParen)) = takes (tight 0 ∷ rest ∷ sign s.CloseParen ∷ [])
primary_plan (Some (t.sign s.OpenBrace)) = takes (braced ∷ [])
primary_plan _ = refuses

abbrev pub parts_plan : Option Symbol → Plan
parts_plan (Some (t.sign s.OpenBracket)) = takes (inside ∷ parts ∷ [])
parts_plan _ = passes []

abbrev pub onward_plan : ℕ → Plan
onward_plan zero = passes []
onward_plan (suc k) = passes (onward k ∷ more k ∷ [])

abbrev pub right_of : ℕ → Infix → Item
right_of k (plain op) = tight k
right_of k wide = watom false

abbrev pub infix_plan : ℕ → Option (ℕ × Infix) → Plan
infix_plan k None = passes []
infix_plan k (Some (j, op)) = if nat_eq j k then takes (right_of k op ∷ more k ∷ []) else passes []

abbrev pub more_plan : ℕ → Option Symbol → Plan
more_plan k (Some (t.sign c)) = infix_plan k (binding c)
more_plan k _ = passes []

abbrev pub choice_plan : Option Symbol → Plan
choice_plan (Some (t.sign s.Question)) = takes (any ∷ sign s.Colon ∷ any ∷ [])
choice_plan _ = passes []

abbrev pub named_plan : Option Symbol → Plan
named_plan (Some (t.sign s.OpenParen)) = takes (called ∷ [])
named_plan _ = passes []

abbrev pub called_plan : Option Symbol → Plan
called_plan (Some (t.sign s.CloseParen)) = takes []
called_plan _ = passes (args ∷ sign s.CloseParen ∷ [])

abbrev pub more_args_plan : Option Symbol → Plan
more_args_plan (Some (t.sign s.Comma)) = takes (args ∷ [])
more_args_plan _ = passes []

-- after the bracket behind an address
abbrev pub soft_read : List Item
soft_read = sign s.Dot ∷ same sw_read ∷ sign s.OpenParen ∷ sign s.CloseParen ∷ []

abbrev pub csr_plan : Option Symbol → Plan
csr_plan (Some (t.word x)) = takes (csr_word ∷ [])
csr_plan _ = passes (any ∷ sign s.CloseBracket ∷ soft_read)

abbrev pub csr_word_plan : Option Symbol → Plan
csr_word_plan (Some (t.sign s.CloseBracket)) = takes (sign s.Dot ∷ csr_field ∷ [])
csr_word_plan _ = passes (behind ∷ sign s.CloseBracket ∷ soft_read)

abbrev pub csr_field_plan : Option Symbol → Plan
csr_field_plan (Some (t.word y)) = if same_text y sw_read then takes (read_or_field ∷ []) else takes []
csr_field_plan _ = refuses

abbrev pub read_or_field_plan : Option Symbol → Plan
read_or_field_plan (Some (t.sign s.OpenParen)) = takes (sign s.CloseParen ∷ [])
read_or_field_plan _ = passes []

-- ---- statements

-- from the value that is assigned to the end of the statement
abbrev pub value_ends : List Item
value_ends = any ∷ sign s.Semicolon ∷ []

abbrev pub assign_ends : List Item
assign_ends = sign s.Assign ∷ value_ends

-- from the value that is written to the end of the statement
abbrev pub write_ends : List Item
write_ends = any ∷ sign s.CloseParen ∷ sign s.Semicolon ∷ []

abbrev pub soft_write : List Item
soft_write = sign s.Dot ∷ same sw_write ∷ sign s.OpenParen ∷ write_ends

-- after the opening brace
abbrev pub block : List Item
block = stmts ∷ sign s.CloseBrace ∷ []

abbrev pub stmts_by : Bool → Plan
stmts_by b = if b then passes (stmt ∷ stmts ∷ []) else passes []

abbrev pub stmts_plan : Option Symbol → Plan
stmts_plan None = passes []
stmts_plan (Some c) = stmts_by (begins c)

abbrev pub stmt_reserved : Reserved → Plan
stmt_reserved r.X = takes (sign s.OpenBracket ∷ any ∷ sign s.CloseBracket ∷ assign_ends)
stmt_reserved r.Csr = takes (sign s.OpenBracket ∷ csr_stmt ∷ [])
stmt_reserved r.Return = takes value_ends
stmt_reserved r.If = takes (when ∷ [])
stmt_reserved r.For = takes (sign s.OpenParen ∷ reserved r.U32 ∷ count ∷ [])
stmt_reserved r.Jump = takes (sign s.OpenParen ∷ write_ends)
stmt_reserved r.Raise = takes (sign s.OpenParen ∷ any ∷ sign s.Comma ∷ reserved r.Mode ∷ sign s.OpenParen ∷ sign s.CloseParen ∷ sign s.Comma ∷ write_ends)
stmt_reserved r.WriteMemory = takes (sign s.Less ∷ bits ∷ sign s.Greater ∷ sign s.OpenParen ∷ any ∷ sign s.Comma ∷ write_ends)
stmt_reserved _ = passes (shape ∷ word ∷ assign_ends)

abbrev pub stmt_plan : Option Symbol → Plan
stmt_plan (Some (t.word x)) = takes (worded ∷ [])
stmt_plan (Some (t.sign s.OpenBrace)) = takes block
stmt_plan (Some (t.reserved c)) = stmt_reserved c
stmt_plan _ = passes (shape ∷ word ∷ assign_ends)

abbrev pub worded_plan : Option Symbol → Plan
worded_plan (Some (t.sign s.OpenParen)) = takes (call_stmt ∷ [])
worded_plan (Some (t.sign s.Assign)) = takes value_ends
worded_plan (Some (t.sign s.OpenBracket)) = takes (inside ∷ assign_ends)
worded_plan _ = refuses

abbrev pub call_stmt_plan : Option Symbol → Plan
call_stmt_plan (Some (t.sign s.CloseParen)) = takes (sign s.Semicolon ∷ [])
call_stmt_plan _ = passes (args ∷ sign s.CloseParen ∷ sign s.Semicolon ∷ [])

abbrev pub csr_stmt_plan : Option Symbol → Plan
csr_stmt_plan (Some (t.word x)) = takes (csr_stmt_word ∷ [])
csr_stmt_plan _ = passes (any ∷ sign s.CloseBracket ∷ soft_write)

abbrev pub csr_stmt_word_plan : Option Symbol → Plan
csr_stmt_word_plan (Some (t.sign s.CloseBracket)) = takes (sign s.Dot ∷ csr_target ∷ [])
csr_stmt_word_plan _ = passes (behind ∷ sign s.CloseBracket ∷ soft_write)

abbrev pub csr_target_plan : Option Symbol → Plan
csr_target_plan (Some (t.word y)) = if same_text y sw_write then takes (write_or_set ∷ []) else takes assign_ends
csr_target_plan _ = refuses

abbrev pub write_or_set_plan : Option Symbol → Plan
write_or_set_plan (Some (t.sign s.OpenParen)) = takes write_ends
write_or_set_plan _ = passes assign_ends

abbrev pub otherwise_plan : Option Symbol → Plan
otherwise_plan (Some (t.reserved r.Else)) = takes (else_block ∷ [])
otherwise_plan _ = passes []

abbrev pub else_block_plan : Option Symbol → Plan
else_block_plan (Some (t.sign s.OpenBrace)) = takes block
else_block_plan (Some (t.reserved r.If)) = takes (when ∷ [])
else_block_plan _ = refuses

abbrev pub count_plan : Option Symbol → Plan
count_plan (Some (t.word x)) = takes (sign s.Assign ∷ width ∷ sign s.Semicolon ∷ same x ∷ sign s.Less ∷ width ∷ sign s.Semicolon ∷ same x ∷ sign s.Increment ∷ sign s.CloseParen ∷ sign s.OpenBrace ∷ block)
count_plan _ = refuses

abbrev pub short_shape_plan : Option Shape → Plan
short_shape_plan None = refuses
short_shape_plan (Some x) = takes []

abbrev pub shape_plan : Option Symbol → Plan
shape_plan (Some (t.reserved r.Bits)) = takes (sign s.Less ∷ width ∷ sign s.Greater ∷ [])
shape_plan (Some (t.reserved r.Signed)) = takes (reserved r.Bits ∷ sign s.Less ∷ width ∷ sign s.Greater ∷ [])
shape_plan (Some (t.reserved c)) = short_shape_plan (short_shape c)
shape_plan _ = refuses

-- ---- functions

abbrev pub functions_plan : Option Symbol → Plan
functions_plan (Some (t.reserved r.Function)) = passes (function ∷ functions ∷ [])
functions_plan _ = passes []

abbrev pub result_plan : Option Symbol → Plan
result_plan (Some (t.reserved r.Returns)) = takes (shape ∷ [])
result_plan _ = passes []

abbrev pub taken_plan : Option Symbol → Plan
taken_plan (Some (t.reserved r.Arguments)) = takes (arguments ∷ [])
taken_plan _ = passes []

abbrev pub more_arguments_plan : Option Symbol → Plan
more_arguments_plan (Some (t.sign s.Comma)) = takes (arguments ∷ [])
more_arguments_plan _ = passes []

abbrev pub about_plan : Option Symbol → Plan
about_plan (Some (t.reserved r.Description)) = takes (sign s.OpenBrace ∷ about_text ∷ [])
about_plan _ = passes []

abbrev pub about_text_plan : Option Symbol → Plan
about_text_plan (Some t.described) = takes (sign s.CloseBrace ∷ [])
about_text_plan _ = passes (sign s.CloseBrace ∷ [])

-- ---- all of them; the flag says whether the width that was read last may be multiplied

abbrev pub plan : Bool → Item → Option Symbol → Plan
plan b (sign x) c = accept (is_sign x) c
plan b (reserved x) c = accept (is_reserved x) c
plan b word c = word_plan c
plan b (same x) c = accept (is_word x) c
plan b quoted c = quoted_plan c
plan b bits c = bits_plan c
plan b (watom m) c = watom_plan m c
plan b (term m) c = term_plan m c
plan b after_number c = after_number_plan c
plan b multiplied c = multiplied_plan b c
plan b short c = short_plan c
plan b sums c = sums_plan c
plan b width c = passes (term false ∷ sums ∷ [])
plan b of_bits c = of_bits_plan c
plan b (may m) c = sets m
plan b any c = passes (operand ∷ rest ∷ [])
plan b (tight k) c = passes (operand ∷ onward k ∷ [])
plan b behind c = passes (named ∷ parts ∷ rest ∷ [])
plan b operand c = operand_plan c
plan b primary c = primary_plan c
plan b parts c = parts_plan c
plan b inside c = both (any ∷ sign s.CloseBracket ∷ []) (width ∷ sign s.Colon ∷ width ∷ sign s.CloseBracket ∷ [])
plan b (onward k) c = onward_plan k
plan b (more k) c = more_plan k c
plan b choice c = choice_plan c
plan b rest c = passes (onward loosest ∷ choice ∷ [])
plan b named c = named_plan c
plan b called c = called_plan c
plan b args c = passes (any ∷ more_args ∷ [])
plan b more_args c = more_args_plan c
plan b braced c = both (args ∷ sign s.CloseBrace ∷ []) (width ∷ sign s.OpenBrace ∷ any ∷ sign s.CloseBrace ∷ sign s.CloseBrace ∷ [])
plan b csr c = csr_plan c
plan b csr_word c = csr_word_plan c
plan b csr_field c = csr_field_plan c
plan b read_or_field c = read_or_field_plan c
plan b stmts c = stmts_plan c
plan b stmt c = stmt_plan c
plan b worded c = worded_plan c
plan b call_stmt c = call_stmt_plan c
plan b csr_stmt c = csr_stmt_plan c
plan b csr_stmt_word c = csr_stmt_word_plan c
plan b csr_target c = csr_target_plan c
plan b write_or_set c = write_or_set_plan c
plan b when c = passes (sign s.OpenParen ∷ any ∷ sign s.CloseParen ∷ sign s.OpenBrace ∷ stmts ∷ sign s.CloseBrace ∷ otherwise ∷ [])
plan b otherwise c = otherwise_plan c
plan b else_block c = else_block_plan c
plan b count c = count_plan c
plan b shape c = shape_plan c
plan b functions c = functions_plan c
plan b function c = passes (reserved r.Function ∷ word ∷ sign s.OpenBrace ∷ result ∷ taken ∷ about ∷ reserved r.Body ∷ sign s.OpenBrace ∷ stmts ∷ sign s.CloseBrace ∷ sign s.CloseBrace ∷ [])
plan b result c = result_plan c
plan b taken c = taken_plan c
plan b arguments c = passes (shape ∷ word ∷ more_arguments ∷ [])
plan b more_arguments c = more_arguments_plan c
plan b about c = about_plan c
plan b about_text c = about_text_plan c

-- ---- the stack

-- what one of two readings gave: the tokens after it, or those from its fault on
abbrev pub Reading : Type 0
Reading = Outcome (Unit {0})

abbrev pub reached : List Symbol → Reading
reached ts = Ok (tt, ts)

pub data Frame : Type 0 where
  reads : Item → Frame
  -- behind the first of two readings: the second, and the tokens from which both start
  second : List Item → List Symbol → Frame
  -- behind the second: what the first gave
  compare : Reading → Frame

abbrev pub frames : List Item → List Frame
frames xs = map reads xs

-- the tokens were read, or the tokens from the fault on
abbrev pub Verdict : Type 0
Verdict = Result (Unit {0}) (List Symbol)

pub data Next : Type 0 where
  halts : Verdict → Next
  goes : List Frame → Bool → List Symbol → Next

-- on from what two readings gave, or by what a fault leads to
abbrev pub settle_by : Reading → List Frame → (List Symbol → Next) → Next
settle_by (Ok q) k f = goes k false q.1
settle_by (Err ts) k f = f ts

-- The stack after a fault: the second of two readings is still to be tried, or the two are compared.
unfoldable pub fault : List Frame → List Symbol → Next
fault [] ts = halts (Err ts)
fault (reads a ∷ k) ts = fault k ts
fault (second xs start ∷ k) ts = goes (frames xs ++ compare (Err ts) ∷ k) false start
fault (compare q ∷ k) ts = settle_by (farther q (Err ts)) k (λ us. fault k us)

abbrev pub settle : Reading → List Frame → Next
settle q k = settle_by q k (λ us. fault k us)

abbrev pub act : Plan → List Frame → Bool → List Symbol → Next
act (takes xs) k b ts = goes (frames xs ++ k) b (after ts)
act (passes xs) k b ts = goes (frames xs ++ k) b ts
act refuses k b ts = fault k ts
act (sets c) k b ts = goes k c ts
act (both xs ys) k b ts = goes (frames xs ++ second ys ts ∷ k) b ts

abbrev pub next : List Frame → Bool → List Symbol → Next
next [] b ts = halts (ended tt ts)
next (reads a ∷ k) b ts = act (plan b a (head ts)) k b ts
next (second xs start ∷ k) b ts = goes (frames xs ++ compare (reached ts) ∷ k) false start
next (compare q ∷ k) b ts = settle (farther q (reached ts)) k

-- what the machine comes to
pub data Runs : List Frame → Bool → List Symbol → Verdict → Type 0 where
  halted : {k : List Frame} {b : Bool} {ts : List Symbol} {v : Verdict} → next k b ts ≡ halts v → Runs k b ts v
  went : {k k' : List Frame} {b b' : Bool} {ts ts' : List Symbol} {v : Verdict} → next k b ts ≡ goes k' b' ts' → Runs k' b' ts' v → Runs k b ts v
