-- The machine reads operands and whole expressions as the readers do.
use Rattle.std.proofs.Common.{◌≡◌, ℕ, zero, suc, ◌+◌, ◌<◌, ◌≤◌, Bool, true, false, cond, List, [], ◌∷◌, length, Option, Some, None, refl, ap, arith}
use Rattle.idl_token.specs.declared.kinds.Reserved.{Reserved}
use Rattle.idl_token.specs.declared.kinds.Reserved.TheVariants as r
use Rattle.idl_token.specs.declared.kinds.Special.TheVariants as p
use Rattle.idl_token.specs.declared.kinds.Sign.{Sign}
use Rattle.idl_token.specs.declared.kinds.Sign.TheVariants as s
use Rattle.idl_tree.specs.declared.widths.Width.{Width}
use Rattle.idl_tree.specs.declared.widths.EnumKind.{EnumKind}
use Rattle.idl_tree.specs.declared.expressions.Unary.{Unary}
use Rattle.idl_tree.specs.declared.expressions.Expr.{Expr}
use Rattle.idl_tree.specs.declared.expressions.Expr.TheVariants as e
use Rattle.idl_token.specs.Numbers.{SizedWidth}
use Rattle.idl_token.specs.Symbol.{Symbol}
use Rattle.idl_token.specs.Symbol as t
use Rattle.idl_grammar.specs.Tables.{unary_of, enum_of, is_access, sized_width, sw_read}
use Rattle.idl_grammar.specs.Outcome as o
use Rattle.idl_grammar.specs.Outcome.{Reader, ◌>>=◌}
use Rattle.idl_grammar.specs.ExprReader as er
use Rattle.idl_grammar.specs.ExprReader.{Found, Part}
use Rattle.idl_fault.specs.Machine as m
use Rattle.idl_fault.specs.Machine.{Item, takes, passes, plan}
use Rattle.idl_fault.proofs.Steps.{Past, Follows, ends, follows_map, binds, binds_all, takes_on, passes_on, refuses_on, takes_if, takes_deeper, only_on, next_on, name_on, expects, reserves, words, names}
use Rattle.idl_fault.proofs.Both.{both_on}
use Rattle.idl_fault.proofs.Lists.{in_lower, commas_on}
use Rattle.idl_fault.proofs.WidthRuns.{In, width_on}
use Rattle.idl_fault.proofs.Tails.{item_of, size, parts_on, onward_on, rest_on}

-- ---- plans by a test

next_args_is : (b : Bool) (ts : List Symbol) → plan b m.more_args (o.head ts) ≡ cond (o.sees (o.is_sign s.Comma) ts) (takes (m.args ∷ [])) (passes [])
next_args_is b [] = refl
next_args_is b (t.sign s.Comma ∷ ts) = refl
next_args_is b (c ∷ ts) = refl

named_is : (b : Bool) (ts : List Symbol) → plan b m.named (o.head ts) ≡ cond (o.sees (o.is_sign s.OpenParen) ts) (takes (m.called ∷ [])) (passes [])
named_is b [] = refl
named_is b (t.sign s.OpenParen ∷ ts) = refl
named_is b (c ∷ ts) = refl

called_is : (b : Bool) (ts : List Symbol) → plan b m.called (o.head ts) ≡ cond (o.sees (o.is_sign s.CloseParen) ts) (takes []) (passes (m.args ∷ m.sign s.CloseParen ∷ []))
called_is b [] = refl
called_is b (t.sign s.CloseParen ∷ ts) = refl
called_is b (c ∷ ts) = refl

csr_word_is : (b : Bool) (ts : List Symbol) → plan b m.csr_word (o.head ts) ≡ cond (o.sees (o.is_sign s.CloseBracket) ts) (takes (m.sign s.Dot ∷ m.csr_field ∷ [])) (passes (m.behind ∷ m.sign s.CloseBracket ∷ m.soft_read))
csr_word_is b [] = refl
csr_word_is b (t.sign s.CloseBracket ∷ ts) = refl
csr_word_is b (c ∷ ts) = refl

-- ---- lists of expressions, and the bits of an access

pub args_on : (n : ℕ) (one : Reader Found) → ((ts : List Symbol) (b : Bool) → length ts < n → Follows (In 1 (length ts)) (m.any ∷ []) (one ts) b ts) → (ts : List Symbol) (b : Bool) → length ts < n → Follows (In 0 (length ts)) (m.args ∷ []) (o.commas one ts) b ts
args_on n one one_on = commas_on n one (m.any ∷ []) m.args m.more_args (λ b c. refl) next_args_is (λ ts b lt. in_lower (one_on ts b lt))

access_bits_on : (ts : List Symbol) (b : Bool) → Follows (Past b (length ts)) (m.bits ∷ []) (o.among er.access_by ts) b ts
access_bits_on [] b = refuses_on refl
access_bits_on (t.number k ∷ ts) b = takes_if _ _ (is_access k) refl (λ _. ends (record { flag = refl; less = omega arith }))
access_bits_on (c ∷ ts) b = refuses_on refl

pub access_on : (l : ℕ) (ts : List Symbol) (b : Bool) → length ts ≤ l → Follows {A = ℕ} (Past b l) (m.sign s.Less ∷ m.bits ∷ m.sign s.Greater ∷ []) (er.access ts) b ts
unfolding er.access
access_on l ts b le = expects s.Less _ (λ us d. binds (access_bits_on us b) (λ k vs c h. let less = h.less in expects s.Greater _ (λ ws f. ends (record { flag = h.flag; less = omega arith }))))

module _ (n : ℕ) (inner : Part → Reader Found) (below : (q : Part) (ts : List Symbol) (b : Bool) → size q ts < n → Follows (In 1 (size q ts)) (item_of q ∷ []) (inner q ts) b ts) where
  some_args : (ts : List Symbol) (b : Bool) → length ts < n → Follows (In 0 (length ts)) (m.args ∷ []) (o.commas (inner er.any) ts) b ts
  some_args = args_on n (inner er.any) (λ ts b lt. below er.any ts b lt)

  -- ---- calls, braces, forms with a word in front

  called_on : (l : ℕ) (x : List ℕ) (ts : List Symbol) (b : Bool) → length ts < n → suc (length ts) < l → Follows (In 1 l) (m.called ∷ []) (er.called n inner x ts) b ts
  unfolding er.called
  called_on l x ts b lt high = next_on s.CloseParen (o.pure (e.Call x [], 1)) (o.only n (o.commas (inner er.any) >>= (λ xs. o.expect s.CloseParen >>= (λ _. o.pure (e.Call x xs.0, suc xs.1))))) (called_is b ts) (λ us d. ends (record { low = omega arith; less = omega arith; high = omega arith }))
      (only_on (o.commas (inner er.any) >>= (λ xs. o.expect s.CloseParen >>= (λ _. o.pure (e.Call x xs.0, suc xs.1)))) n (omega arith) (binds (some_args ts b lt) (λ xs us c h. let rise = h.high in let fall = h.less in expects s.CloseParen _ (λ vs d. ends (record { low = omega arith; less = omega arith; high = omega arith })))))

  pub named_on : (x : List ℕ) (ts : List Symbol) (b : Bool) → length ts < n → Follows (In 1 (suc (length ts))) (m.named ∷ []) (er.named n inner x ts) b ts
  unfolding er.named
  named_on x ts b lt = next_on s.OpenParen (er.called n inner x) (o.pure (e.Word x, 1)) (named_is b ts) (λ us d. called_on (suc (length ts)) x us b (omega arith) (omega arith)) (ends (record { low = omega arith; less = omega arith; high = omega arith }))

  joined_on : (ts : List Symbol) (b : Bool) → length ts < n → Follows (In 0 (length ts)) (m.args ∷ m.sign s.CloseBrace ∷ []) (er.joined n inner ts) b ts
  unfolding er.joined
  joined_on ts b lt = binds (some_args ts b lt) (λ xs us c h. let rise = h.high in let fall = h.less in expects s.CloseBrace _ (λ vs d. ends (record { low = omega arith; less = omega arith; high = omega arith })))

  repeated_on : (ts : List Symbol) (b : Bool) → length ts < n → Follows (In 0 (length ts)) (m.width ∷ m.sign s.OpenBrace ∷ m.any ∷ m.sign s.CloseBrace ∷ m.sign s.CloseBrace ∷ []) (er.repeated n inner ts) b ts
  unfolding er.repeated
  repeated_on ts b lt = binds (width_on n ts b (omega arith)) (λ a us c h. let i = h.high in let j = h.less in expects s.OpenBrace _ (λ vs d. binds (below er.any vs c (omega arith)) (λ x ws f k. let rise = k.high in let fall = k.less in
      expects s.CloseBrace _ (λ ys g. expects s.CloseBrace _ (λ zs h. ends (record { low = omega arith; less = omega arith; high = omega arith }))))))

  braced_on : (ts : List Symbol) (b : Bool) → length ts < n → Follows (In 1 (suc (length ts))) (m.braced ∷ []) (er.braced n inner ts) b ts
  unfolding er.braced
  braced_on ts b lt = binds (both_on (In 0 (length ts)) (λ x c d us h. record { low = h.low; less = h.less; high = h.high }) refl (joined_on ts b lt) (repeated_on ts false lt))
      (λ x us c h. let rise = h.high in let fall = h.less in ends (record { low = omega arith; less = omega arith; high = omega arith }))

  as_signed_on : (ts : List Symbol) (b : Bool) → length ts < n → Follows (In 1 (suc (length ts))) (m.sign s.OpenParen ∷ m.any ∷ m.sign s.CloseParen ∷ []) (er.as_signed n inner ts) b ts
  unfolding er.as_signed
  as_signed_on ts b lt = expects s.OpenParen _ (λ us d. binds (below er.any us b (omega arith)) (λ x vs c h. let rise = h.high in let fall = h.less in expects s.CloseParen _ (λ ws f. ends (record { low = omega arith; less = omega arith; high = omega arith }))))

  resized_on : (ts : List Symbol) (b : Bool) → length ts < n → Follows (In 1 (suc (length ts))) (m.sign s.Less ∷ m.width ∷ m.sign s.Greater ∷ m.sign s.OpenParen ∷ m.any ∷ m.sign s.CloseParen ∷ []) (er.resized n inner ts) b ts
  unfolding er.resized
  resized_on ts b lt = expects s.Less _ (λ us d. binds (width_on n us b (omega arith)) (λ a vs c h. let i = h.high in let j = h.less in expects s.Greater _ (λ ws f. expects s.OpenParen _ (λ ys g. binds (below er.any ys c (omega arith)) (λ x zs w k. let rise = k.high in let fall = k.less in
      expects s.CloseParen _ (λ us v. ends (record { low = omega arith; less = omega arith; high = omega arith })))))))

  register_on : (ts : List Symbol) (b : Bool) → length ts < n → Follows (In 1 (suc (length ts))) (m.sign s.OpenBracket ∷ m.any ∷ m.sign s.CloseBracket ∷ []) (er.register n inner ts) b ts
  unfolding er.register
  register_on ts b lt = expects s.OpenBracket _ (λ us d. binds (below er.any us b (omega arith)) (λ x vs c h. let rise = h.high in let fall = h.less in expects s.CloseBracket _ (λ ws f. ends (record { low = omega arith; less = omega arith; high = omega arith }))))

  memory_on : (ts : List Symbol) (b : Bool) → length ts < n → Follows (In 1 (suc (length ts))) (m.sign s.Less ∷ m.bits ∷ m.sign s.Greater ∷ m.sign s.OpenParen ∷ m.any ∷ m.sign s.CloseParen ∷ []) (er.memory n inner ts) b ts
  unfolding er.memory
  memory_on ts b lt = binds_all (m.sign s.Less ∷ m.bits ∷ m.sign s.Greater ∷ []) (access_on (length ts) ts b (omega arith)) (λ k us c h. let i = h.less in expects s.OpenParen _ (λ vs d. binds (below er.any vs c (omega arith)) (λ x ws f j. let rise = j.high in let fall = j.less in
      expects s.CloseParen _ (λ ys g. ends (record { low = omega arith; less = omega arith; high = omega arith })))))

  member_on : (kind : EnumKind) (ts : List Symbol) (b : Bool) → Follows (In 1 (suc (length ts))) (m.sign s.Path ∷ m.word ∷ []) (er.member n inner kind ts) b ts
  unfolding er.member
  member_on kind ts b = expects s.Path _ (λ us d. names (λ x vs f. ends (record { low = omega arith; less = omega arith; high = omega arith })))

  new_field_on : (ts : List Symbol) (b : Bool) → Follows (In 1 (suc (length ts))) (m.sign s.Dot ∷ m.word ∷ []) (er.new_field n inner ts) b ts
  unfolding er.new_field
  new_field_on ts b = expects s.Dot _ (λ us d. names (λ x vs f. ends (record { low = omega arith; less = omega arith; high = omega arith })))

  empty_call_on : (x : Expr) (ts : List Symbol) (b : Bool) → Follows (In 1 (suc (length ts))) (m.sign s.OpenParen ∷ m.sign s.CloseParen ∷ []) (er.empty_call n inner x ts) b ts
  unfolding er.empty_call
  empty_call_on x ts b = expects s.OpenParen _ (λ us d. expects s.CloseParen _ (λ vs f. ends (record { low = omega arith; less = omega arith; high = omega arith })))

  extension_on : (ts : List Symbol) (b : Bool) → Follows {A = List ℕ} (λ x c us. length us < length ts) (m.sign s.OpenParen ∷ m.reserved r.ExtensionName ∷ m.sign s.Path ∷ m.word ∷ []) (er.extension n inner ts) b ts
  unfolding er.extension
  extension_on ts b = expects s.OpenParen _ (λ us d. reserves r.ExtensionName _ (λ vs f. expects s.Path _ (λ ws g. follows_past (omega arith) (name_on b ws))))
    where
      follows_past : {ws : List Symbol} → length ws ≤ length ts → Follows (Past b (length ws)) (m.word ∷ []) (o.name ws) b ws → Follows {A = List ℕ} (λ x c us. length us < length ts) (m.word ∷ []) (o.name ws) b ws
      follows_past le first = follows_map (λ x c us h. let less = h.less in omega arith) first

  implemented_on : (ts : List Symbol) (b : Bool) → Follows (In 1 (suc (length ts))) (m.sign s.OpenParen ∷ m.reserved r.ExtensionName ∷ m.sign s.Path ∷ m.word ∷ m.sign s.CloseParen ∷ []) (er.implemented n inner ts) b ts
  unfolding er.implemented
  implemented_on ts b = binds_all (m.sign s.OpenParen ∷ m.reserved r.ExtensionName ∷ m.sign s.Path ∷ m.word ∷ []) (extension_on ts b) (λ x us c lt. expects s.CloseParen _ (λ vs d. ends (record { low = omega arith; less = omega arith; high = omega arith })))

  text_on : (ts : List Symbol) (b : Bool) → Follows (Past b (length ts)) (m.quoted ∷ []) (o.among (er.text_by n inner) ts) b ts
  text_on [] b = refuses_on refl
  text_on (t.quoted x ∷ ts) b = takes_on refl (ends (record { flag = refl; less = omega arith }))
  text_on (c ∷ ts) b = refuses_on refl

  implemented_version_on : (ts : List Symbol) (b : Bool) → Follows (In 1 (suc (length ts))) (m.sign s.OpenParen ∷ m.reserved r.ExtensionName ∷ m.sign s.Path ∷ m.word ∷ m.sign s.Comma ∷ m.quoted ∷ m.sign s.CloseParen ∷ []) (er.implemented_version n inner ts) b ts
  unfolding er.implemented_version
  implemented_version_on ts b = binds_all (m.sign s.OpenParen ∷ m.reserved r.ExtensionName ∷ m.sign s.Path ∷ m.word ∷ []) (extension_on ts b) (λ x us c lt. expects s.Comma _ (λ vs d. binds (text_on vs c) (λ y ws f h. let less = h.less in
      expects s.CloseParen _ (λ ys g. ends (record { low = omega arith; less = omega arith; high = omega arith })))))

  -- ---- CSRs

  soft_read_on : (l : ℕ) (x : Found) (ts : List Symbol) (b : Bool) → x.1 + length ts ≤ l → Follows (In 1 l) m.soft_read (er.soft_read n inner x ts) b ts
  unfolding er.soft_read
  soft_read_on l x ts b high = expects s.Dot _ (λ us d. words sw_read _ (λ vs f. expects s.OpenParen _ (λ ws g. expects s.CloseParen _ (λ ys h. ends (record { low = omega arith; less = omega arith; high = omega arith })))))

  address_on : (l : ℕ) (q : Part) (ts : List Symbol) (b : Bool) → size q ts < n → size q ts ≤ l → Follows (In 1 l) (item_of q ∷ m.sign s.CloseBracket ∷ m.soft_read) (er.address n inner q ts) b ts
  unfolding er.address
  address_on l q ts b lt le = binds (below q ts b lt) (λ x us c h. let rise = h.high in expects s.CloseBracket _ (λ vs d. soft_read_on l x vs c (omega arith)))

  read_or_field_on : (l : ℕ) (x y : List ℕ) (ts : List Symbol) (b : Bool) → 1 ≤ n → 2 + length ts ≤ l → Follows (In 1 l) (m.read_or_field ∷ []) (o.choose (er.read_by n inner x) (o.pure (e.Field x y, 1)) ts) b ts
  read_or_field_on l x y [] b low le = passes_on refl (ends (record { low = omega arith; less = omega arith; high = omega arith }))
  read_or_field_on l x y (t.sign s.OpenParen ∷ ts) b low le = takes_deeper _ _ n low refl (expects s.CloseParen _ (λ us d. ends (record { low = omega arith; less = omega arith; high = omega arith })))
  read_or_field_on l x y (c ∷ ts) b low le = passes_on refl (ends (record { low = omega arith; less = omega arith; high = omega arith }))

  csr_field_on : (l : ℕ) (x : List ℕ) (ts : List Symbol) (b : Bool) → 1 ≤ n → 2 + length ts ≤ l → Follows (In 1 l) (m.csr_field ∷ []) (o.and_then (o.name ts) (er.field_or_read n inner x)) b ts
  unfolding o.name er.field_or_read
  csr_field_on l x [] b low le = refuses_on refl
  csr_field_on l x (t.word y ∷ ts) b low le = go (o.same_text y sw_read) refl
    where
      go : (f : Bool) → plan b m.csr_field (Some (t.word y)) ≡ cond f (takes (m.read_or_field ∷ [])) (takes []) → Follows (In 1 l) (m.csr_field ∷ []) (cond f (o.choose (er.read_by n inner x) (o.pure (e.Field x y, 1))) (o.pure (e.Field x y, 1)) ts) b (t.word y ∷ ts)
      go true is = takes_on is (read_or_field_on l x y ts b low (omega arith))
      go false is = takes_on is (ends (record { low = omega arith; less = omega arith; high = omega arith }))
  csr_field_on l x (c ∷ ts) b low le = refuses_on refl

  field_on : (l : ℕ) (x : List ℕ) (ts : List Symbol) (b : Bool) → 1 ≤ n → 1 + length ts ≤ l → Follows (In 1 l) (m.sign s.Dot ∷ m.csr_field ∷ []) (er.field n inner x ts) b ts
  unfolding er.field
  field_on l x ts b low le = expects s.Dot _ (λ us d. csr_field_on l x us b low (omega arith))

  csr_word_on : (l : ℕ) (x : List ℕ) (ts : List Symbol) (b : Bool) → suc (length ts) < n → suc (length ts) ≤ l → Follows (In 1 l) (m.csr_word ∷ []) (er.csr_word n inner x ts) b ts
  unfolding er.csr_word
  csr_word_on l x ts b lt le = next_on s.CloseBracket (er.field n inner x) (o.only n (er.address n inner (er.behind x))) (csr_word_is b ts) (λ us d. field_on l x us b (omega arith) (omega arith)) (only_on (er.address n inner (er.behind x)) n (omega arith) (address_on l (er.behind x) ts b lt le))

  csr_by_on : (l : ℕ) (ts : List Symbol) (b : Bool) → suc (length ts) < n → length ts ≤ l → Follows (In 1 l) (m.csr ∷ []) (o.choose (er.csr_by n inner) (o.only n (er.address n inner er.any)) ts) b ts
  csr_by_on l [] b lt le = passes_on refl (only_on (er.address n inner er.any) n (omega arith) (address_on l er.any [] b (omega arith) le))
  csr_by_on l (t.word x ∷ ts) b lt le = takes_on refl (csr_word_on l x ts b (omega arith) (omega arith))
  csr_by_on l (c ∷ ts) b lt le = passes_on refl (only_on (er.address n inner er.any) n (omega arith) (address_on l er.any (c ∷ ts) b (omega arith) le))

  csr_on : (ts : List Symbol) (b : Bool) → length ts < n → Follows (In 1 (suc (length ts))) (m.sign s.OpenBracket ∷ m.csr ∷ []) (er.csr n inner ts) b ts
  unfolding er.csr
  csr_on ts b lt = expects s.OpenBracket _ (λ us d. csr_by_on (suc (length ts)) us b (omega arith) (omega arith))

  -- ---- operands

  parens_on : (ts : List Symbol) (b : Bool) → length ts < n → Follows (In 1 (suc (length ts))) (m.tight 0 ∷ m.rest ∷ m.sign s.CloseParen ∷ []) (er.parens n inner ts) b ts
  unfolding er.parens
  parens_on ts b lt = binds (below (er.tight 0) ts b lt) (λ x us c h. let i = h.high in let j = h.less in binds (rest_on n inner below x.1 (length ts) x (omega arith) (omega arith) us c j i) (λ y vs d k. let low = k.low in let rise = k.high in let fall = k.less in
      expects s.CloseParen _ (λ ws f. ends (record { low = omega arith; less = omega arith; high = omega arith }))))

  sized_on : (v : SizedWidth) (f : Bool) (k : ℕ) (found : Option Width) → sized_width v ≡ found → (ts : List Symbol) (b : Bool) → Follows (In 1 (suc (length ts))) (m.primary ∷ []) (o.moved (er.sized_by n inner found f k) o.refuse (t.sized v f k ∷ ts)) b (t.sized v f k ∷ ts)
  sized_on v f k None is ts b = refuses_on (ap m.sized_plan is)
  sized_on v f k (Some a) is ts b = takes_on (ap m.sized_plan is) (ends (record { low = omega arith; less = omega arith; high = omega arith }))

  enum_on : (c : Reserved) (found : Option EnumKind) (ts : List Symbol) (b : Bool) → plan b m.primary (Some (t.reserved c)) ≡ m.member_plan found → Follows (In 1 (suc (length ts))) (m.primary ∷ []) (o.moved (er.member_by n inner found) o.refuse (t.reserved c ∷ ts)) b (t.reserved c ∷ ts)
  enum_on c None ts b is = refuses_on is
  enum_on c (Some kind) ts b is = takes_on is (member_on kind ts b)

  reserved_on : (c : Reserved) (ts : List Symbol) (b : Bool) → length ts < n → Follows (In 1 (suc (length ts))) (m.primary ∷ []) (o.moved (er.reserved_by n inner c) o.refuse (t.reserved c ∷ ts)) b (t.reserved c ∷ ts)
  reserved_on r.True ts b lt = takes_on refl (ends (record { low = omega arith; less = omega arith; high = omega arith }))
  reserved_on r.False ts b lt = takes_on refl (ends (record { low = omega arith; less = omega arith; high = omega arith }))
  reserved_on r.X ts b lt = takes_deeper _ _ n (omega arith) refl (register_on ts b lt)
  reserved_on r.Csr ts b lt = takes_on refl (csr_on ts b lt)
  reserved_on r.ReadMemory ts b lt = takes_deeper _ _ n (omega arith) refl (memory_on ts b lt)
  reserved_on r.CsrValue ts b lt = takes_on refl (new_field_on ts b)
  reserved_on r.Xlen ts b lt = takes_on refl (empty_call_on _ ts b)
  reserved_on r.Mode ts b lt = takes_on refl (empty_call_on _ ts b)
  reserved_on c ts b lt = enum_on c (enum_of c) ts b refl

  atom_on : (c : Symbol) (ts : List Symbol) (b : Bool) → length ts < n → Follows (In 1 (suc (length ts))) (m.primary ∷ []) (o.moved (er.atom_by n inner c) o.refuse (c ∷ ts)) b (c ∷ ts)
  atom_on (t.number k) ts b lt = takes_on refl (ends (record { low = omega arith; less = omega arith; high = omega arith }))
  atom_on (t.sized v f k) ts b lt = sized_on v f k (sized_width v) refl ts b
  atom_on (t.quoted x) ts b lt = takes_on refl (ends (record { low = omega arith; less = omega arith; high = omega arith }))
  atom_on (t.word x) ts b lt = takes_on refl (named_on x ts b lt)
  atom_on (t.reserved c) ts b lt = reserved_on c ts b lt
  atom_on (t.special p.AsSigned) ts b lt = takes_deeper _ _ n (omega arith) refl (as_signed_on ts b lt)
  atom_on (t.special p.Resize) ts b lt = takes_deeper _ _ n (omega arith) refl (resized_on ts b lt)
  atom_on (t.special p.Pc) ts b lt = takes_on refl (ends (record { low = omega arith; less = omega arith; high = omega arith }))
  atom_on (t.special p.Encoding) ts b lt = takes_on refl (ends (record { low = omega arith; less = omega arith; high = omega arith }))
  atom_on (t.special p.Implemented) ts b lt = takes_on refl (implemented_on ts b)
  atom_on (t.special p.ImplementedVersion) ts b lt = takes_on refl (implemented_version_on ts b)
  atom_on (t.sign s.OpenParen) ts b lt = takes_deeper _ _ n (omega arith) refl (parens_on ts b lt)
  atom_on (t.sign s.OpenBrace) ts b lt = takes_deeper _ _ n (omega arith) refl (braced_on ts b lt)
  atom_on c ts b lt = refuses_on refl

  primary_on : (ts : List Symbol) (b : Bool) → length ts ≤ n → Follows (In 1 (length ts)) (m.primary ∷ []) (o.among (er.atom_by n inner) ts) b ts
  primary_on [] b le = refuses_on refl
  primary_on (c ∷ ts) b le = atom_on c ts b (omega arith)

  post_on : (ts : List Symbol) (b : Bool) → length ts ≤ n → Follows (In 1 (length ts)) (m.primary ∷ m.parts ∷ []) (er.post n inner ts) b ts
  unfolding er.post
  post_on ts b le = binds (primary_on ts b le) (λ x us c h. parts_on n inner below 1 (length ts) (suc n) x h.low le (omega arith) us c h.less h.high)

  signed_on : (c : Sign) (found : Option Unary) → unary_of c ≡ found → (ts : List Symbol) (b : Bool) → length (t.sign c ∷ ts) ≤ n
      → Follows (In 1 (length (t.sign c ∷ ts))) (m.operand ∷ []) (o.moved (er.signed_by n inner found) (er.post n inner) (t.sign c ∷ ts)) b (t.sign c ∷ ts)
  signed_on c None is ts b le = passes_on (ap m.unary_plan is) (post_on (t.sign c ∷ ts) b le)
  signed_on c (Some op) is ts b le = takes_deeper _ _ n (omega arith) (ap m.unary_plan is) (binds (below (er.tight 0) ts b (omega arith)) (λ x us d h. let rise = h.high in let fall = h.less in ends (record { low = omega arith; less = omega arith; high = omega arith })))

  operand_on : (ts : List Symbol) (b : Bool) → length ts ≤ n → Follows (In 1 (length ts)) (m.operand ∷ []) (er.operand n inner ts) b ts
  unfolding er.operand
  operand_on [] b le = passes_on refl (post_on [] b le)
  operand_on (t.sign c ∷ ts) b le = signed_on c (unary_of c) refl ts b le
  operand_on (c ∷ ts) b le = passes_on refl (post_on (c ∷ ts) b le)

  level_on : (q : Part) (ts : List Symbol) (b : Bool) → size q ts ≤ n → Follows (In 1 (size q ts)) (item_of q ∷ []) (er.level n inner q ts) b ts
  unfolding er.level
  level_on (er.tight k) ts b le = passes_on refl (binds (operand_on ts b le) (λ x us c h. onward_on n inner below 1 (length ts) k x h.low le us c h.less h.high))
  level_on er.any ts b le = passes_on refl (binds (operand_on ts b le) (λ x us c h. rest_on n inner below 1 (length ts) x h.low le us c h.less h.high))
  level_on (er.behind w) ts b le = passes_on refl (binds (named_on w ts b (omega arith)) (λ x us c h. binds (parts_on n inner below 1 (suc (length ts)) (suc n) x h.low le (omega arith) us c h.less h.high) (λ y vs d k.
      rest_on n inner below 1 (suc (length ts)) y k.low le vs d k.less k.high)))

pub expr_part_on : (n : ℕ) (q : Part) (ts : List Symbol) (b : Bool) → size q ts < n → Follows (In 1 (size q ts)) (item_of q ∷ []) (er.expr_part n q ts) b ts
unfolding er.expr_part
expr_part_on zero q ts b lt = absurd (omega arith)
expr_part_on (suc n) q ts b lt = level_on n (er.expr_part n) (λ q us c le. expr_part_on n q us c le) q ts b (omega arith)

pub expr_on : (n : ℕ) (ts : List Symbol) (b : Bool) → length ts < n → Follows (In 1 (length ts)) (m.any ∷ []) (er.expr n ts) b ts
expr_on n ts b lt = expr_part_on n er.any ts b lt
