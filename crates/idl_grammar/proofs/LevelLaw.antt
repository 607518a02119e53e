-- The readers of the parts of expressions keep the law.
use Rattle.std.proofs.Common.{◌≡◌, ℕ, zero, suc, ◌≤◌, Bool, true, false, cond, List, [], ◌∷◌, ◌++◌, Option, Some, None, refl, sym, ap, subst, ◌∙◌, append_assoc, arith}
use Rattle.std.specs.Prelude.{max, nat_le, nat_eq}
use Rattle.std.proofs.lemmas.Bool.{leb-true, eqb-true}
use Rattle.idl_token.specs.declared.kinds.Reserved.{Reserved}
use Rattle.idl_token.specs.declared.kinds.Reserved.TheVariants as r
use Rattle.idl_token.specs.declared.kinds.Special.TheVariants as p
use Rattle.idl_token.specs.declared.kinds.Sign.{Sign}
use Rattle.idl_token.specs.declared.kinds.Sign.TheVariants as s
use Rattle.idl_token.specs.Numbers.{SizedWidth}
use Rattle.idl_tree.specs.declared.widths.Width.{Width}
use Rattle.idl_tree.specs.declared.widths.EnumKind.{EnumKind}
use Rattle.idl_tree.specs.declared.expressions.Unary.{Unary}
use Rattle.idl_tree.specs.declared.expressions.Expr.TheVariants as e
use Rattle.idl_token.specs.Symbol.{Symbol}
use Rattle.idl_token.specs.Symbol as t
use Rattle.idl_grammar.specs.Tables.{Infix, plain, wide, binding, loosest, unary_of, enum_of, sized_width, mxlen, sw_read}
use Rattle.idl_grammar.specs.ExprGrammar as g
use Rattle.idl_grammar.specs.ExprGrammar.{Inside, part_of, ReadsPost, ReadsLevel, ReadsBinary, ReadsChoice, ReadsExpr}
use Rattle.idl_grammar.specs.Outcome as o
use Rattle.idl_grammar.specs.Outcome.{Reader, Move, take, stop, pass, ◌>>=◌}
use Rattle.idl_grammar.specs.WidthReader as wr
use Rattle.idl_grammar.specs.ExprReader as er
use Rattle.idl_grammar.specs.ExprReader.{Found, Part}
use Rattle.idl_grammar.proofs.Law.{Reads, behind, Whole, Sample, Law, LawMove, law_pure, law_refuse, law_fixed, Fixed, Anything, law_map, law_behind, law_bind, law_choose, law_among, law_deeper, law_move_if, law_only, law_if, law_if_next, law_expect, law_reserved, law_word, law_name, name_law, same_text-true}
use Rattle.idl_grammar.proofs.ListLaw.{law_either}
use Rattle.idl_grammar.proofs.Bounds.{level_bounded, post_bounded}
use Rattle.idl_grammar.proofs.Scan.{closed, opened, width_scans}
use Rattle.idl_grammar.proofs.WidthLaw.{width_law, width_part_law}
use Rattle.idl_grammar.proofs.ExprLaw.{ExprAt, LevelAt, PostAt, BracedAt, PartAt, UpTo, lone, grown, RestAt, up_to, chosen, up_to_level, up_to_base, up_to_more, rest_expr, rest_closed, args_law, args_sight, Seen, inside_law, law_access}

-- what one text tells behind another
pub whole_behind : {A : Type 0} (Q : Reads A) (a b : List Symbol) (x : A) → Whole (behind a Q) b x → Whole Q (a ++ b) x
whole_behind Q a b x q us = subst (λ (ts : List Symbol). Q ts us x) (sym (append_assoc a b us)) (q us)

module _ (n : ℕ) (inner : Part → Reader Found) (laws : (q : Part) → 1 ≤ n → Law (PartAt n q) (inner q)) where
  abbrev pub Post : Reads Found
  Post = PostAt (suc n)

  zero_post : Sample Post
  zero_post = record { more = t.number 0 ∷ []; value = (e.Number 0, 1); reads = λ us. record { reads = g.number; within = omega arith } }

  word_level : (k : ℕ) (x : List ℕ) (us : List Symbol) → ReadsLevel 1 k (t.word x ∷ us) us (e.Word x)
  word_level zero x us = g.post g.word
  word_level (suc k) x us = g.looser (word_level k x us)

  -- ---- calls, braces, forms with a word in front

  pub called_law : (x : List ℕ) → Law (behind (t.word x ∷ t.sign s.OpenParen ∷ []) Post) (er.called n inner x)
  unfolding er.called
  called_law x = law_if_next s.CloseParen _ _ (law_pure _ _ (λ us. record { reads = g.call_none; within = omega arith }))
      (law_only n _ (record { more = t.sign s.CloseParen ∷ []; value = (e.Call x [], 1); reads = λ us. record { reads = g.call_none; within = omega arith } })
      (λ le. law_bind _ _ (args_law n (inner er.any) (laws er.any le)) (λ xs a q. law_expect _ _ (law_pure _ _ (λ us. let k = q (t.sign s.CloseParen ∷ us) in record { reads = g.call k.reads; within = let i = k.within in omega arith })))))

  pub named_law : (x : List ℕ) → Law (behind (t.word x ∷ []) Post) (er.named n inner x)
  unfolding er.named
  named_law x = law_if_next s.OpenParen _ _ (called_law x) (law_pure _ _ (λ us. record { reads = g.word; within = omega arith }))

  pub joined_law : 1 ≤ n → Law (Seen (BracedAt n) closed) (er.joined n inner)
  unfolding er.joined
  joined_law le = law_bind _ _ (args_law n (inner er.any) (laws er.any le)) (λ xs a q. law_expect _ _ (law_pure _ _ (λ us. let k = q (t.sign s.CloseBrace ∷ us) in
      record { told = record { reads = g.join k.reads; within = k.within }; sight = args_sight k.reads refl })))

  pub repeated_law : 1 ≤ n → Law (Seen (BracedAt n) opened) (er.repeated n inner)
  unfolding er.repeated
  repeated_law le = law_bind _ _ (width_law n) (λ a b q. law_expect _ _ (law_bind _ _ (laws er.any le) (λ x c v. law_expect _ _ (law_expect _ _ (law_pure _ _
      (λ us. let k = q (t.sign s.OpenBrace ∷ (c ++ (t.sign s.CloseBrace ∷ t.sign s.CloseBrace ∷ us))) in let l = v (t.sign s.CloseBrace ∷ t.sign s.CloseBrace ∷ us) in
      record { told = record { reads = g.repeat k.reads l.reads; within = let i = k.within in let j = l.within in omega arith }; sight = width_scans k.reads 0 0 }))))))

  braced_law : 1 ≤ n → Law (behind (t.sign s.OpenBrace ∷ []) Post) (er.braced n inner)
  unfolding er.braced
  braced_law le = law_bind _ _ (law_either {Q = BracedAt n} _ _ (law_map _ (λ ts us x k. k.told) (joined_law le)) (law_map _ (λ ts us x k. k.told) (repeated_law le)))
      (λ x a q. law_pure _ _ (λ us. let k = q us in record { reads = g.braces k.reads; within = let i = k.within in omega arith }))

  as_signed_law : 1 ≤ n → Law (behind (t.special p.AsSigned ∷ []) Post) (er.as_signed n inner)
  unfolding er.as_signed
  as_signed_law le = law_expect _ _ (law_bind _ _ (laws er.any le) (λ x a q. law_expect _ _ (law_pure _ _ (λ us. let k = q (t.sign s.CloseParen ∷ us) in record { reads = g.as_signed k.reads; within = let i = k.within in omega arith }))))

  resized_law : 1 ≤ n → Law (behind (t.special p.Resize ∷ []) Post) (er.resized n inner)
  unfolding er.resized
  resized_law le = law_expect _ _ (law_bind _ _ (width_law n) (λ a b q. law_expect _ _ (law_expect _ _ (law_bind _ _ (laws er.any le) (λ x c v. law_expect _ _ (law_pure _ _
      (λ us. let k = q (t.sign s.Greater ∷ t.sign s.OpenParen ∷ (c ++ (t.sign s.CloseParen ∷ us))) in let l = v (t.sign s.CloseParen ∷ us) in
      record { reads = g.resize k.reads l.reads; within = let i = k.within in let j = l.within in omega arith })))))))

  register_law : 1 ≤ n → Law (behind (t.reserved r.X ∷ []) Post) (er.register n inner)
  unfolding er.register
  register_law le = law_expect _ _ (law_bind _ _ (laws er.any le) (λ x a q. law_expect _ _ (law_pure _ _ (λ us. let k = q (t.sign s.CloseBracket ∷ us) in record { reads = g.register k.reads; within = let i = k.within in omega arith }))))

  memory_law : 1 ≤ n → Law (behind (t.reserved r.ReadMemory ∷ []) Post) (er.memory n inner)
  unfolding er.memory
  memory_law le = law_access _ (λ k is. law_expect _ _ (law_bind _ _ (laws er.any le) (λ x a q. law_expect _ _ (law_pure _ _
      (λ us. let k = q (t.sign s.CloseParen ∷ us) in record { reads = g.read_memory is k.reads; within = let i = k.within in omega arith })))))

  member_law : (c : Reserved) (kind : EnumKind) → enum_of c ≡ Some kind → Law (behind (t.reserved c ∷ []) Post) (er.member n inner kind)
  unfolding er.member
  member_law c kind is = law_expect _ _ (law_name _ (λ x. law_pure _ _ (λ us. record { reads = g.member is; within = omega arith })))

  new_field_law : Law (behind (t.reserved r.CsrValue ∷ []) Post) (er.new_field n inner)
  unfolding er.new_field
  new_field_law = law_expect _ _ (law_name _ (λ x. law_pure _ _ (λ us. record { reads = g.new_field; within = omega arith })))

  xlen_law : Law (behind (t.reserved r.Xlen ∷ []) Post) (er.empty_call n inner (e.Word mxlen))
  unfolding er.empty_call
  xlen_law = law_expect _ _ (law_expect _ _ (law_pure _ _ (λ us. record { reads = g.xlen; within = omega arith })))

  mode_law : Law (behind (t.reserved r.Mode ∷ []) Post) (er.empty_call n inner e.Mode)
  unfolding er.empty_call
  mode_law = law_expect _ _ (law_expect _ _ (law_pure _ _ (λ us. record { reads = g.mode; within = omega arith })))

  abbrev extension_text : List ℕ → List Symbol
  extension_text x = t.sign s.OpenParen ∷ t.reserved r.ExtensionName ∷ t.sign s.Path ∷ t.word x ∷ []

  extension_law : Law (Fixed extension_text Anything) (er.extension n inner)
  unfolding er.extension
  extension_law = law_expect _ _ (law_reserved _ _ (law_expect _ _ (law_map o.name (λ ts us x q. (ap (λ (v : List Symbol). t.sign s.OpenParen ∷ t.reserved r.ExtensionName ∷ t.sign s.Path ∷ v) q.0, tt)) name_law)))

  implemented_law : Law (behind (t.special p.Implemented ∷ []) Post) (er.implemented n inner)
  unfolding er.implemented
  implemented_law = law_fixed extension_text Anything _ _ extension_law (λ x _. law_expect _ _ (law_pure _ _ (λ us. record { reads = g.implemented; within = omega arith })))

  text_move : (x : List ℕ) (c : Symbol) → LawMove (behind (c ∷ []) (Fixed (λ y. t.quoted y ∷ []) Anything)) (er.text_by n inner c)
  text_move x (t.quoted y) = law_pure _ y (λ us. (refl, tt))
  text_move x c = tt

  implemented_version_law : Law (behind (t.special p.ImplementedVersion ∷ []) Post) (er.implemented_version n inner)
  unfolding er.implemented_version
  implemented_version_law = law_fixed extension_text Anything _ _ extension_law (λ x _. law_expect _ _
      (law_fixed (λ y. t.quoted y ∷ []) Anything (o.among (er.text_by n inner)) _ (law_among (er.text_by n inner) (record { more = t.quoted [] ∷ []; value = []; reads = λ us. (refl, tt) }) (text_move x))
      (λ y _. law_expect _ _ (law_pure _ _ (λ us. record { reads = g.implemented_version; within = omega arith })))))

  -- ---- CSRs

  soft_read_law : (Q : Reads Found) (x : Found) → ((us : List Symbol) → Q (t.sign s.Dot ∷ t.word sw_read ∷ t.sign s.OpenParen ∷ t.sign s.CloseParen ∷ us) us (e.SoftRead x.0, suc x.1)) → Law Q (er.soft_read n inner x)
  unfolding er.soft_read
  soft_read_law Q x q = law_expect _ _ (law_word _ _ (law_expect _ _ (law_expect _ _ (law_pure _ _ q))))

  -- after the bracket, where what stands in front of the address has been read
  address_law : (q : Part) (front : List Symbol) → Law (behind front (ExprAt n)) (inner q) → Law (behind (t.reserved r.Csr ∷ t.sign s.OpenBracket ∷ front) Post) (er.address n inner q)
  unfolding er.address
  address_law q front law = law_bind (inner q) _ law (λ x a v. law_expect _ _ (soft_read_law _ x
      (λ us. let k = v (t.sign s.CloseBracket ∷ t.sign s.Dot ∷ t.word sw_read ∷ t.sign s.OpenParen ∷ t.sign s.CloseParen ∷ us) in record { reads = g.soft_read k.reads; within = let i = k.within in omega arith })))

  abbrev after_field : List ℕ → List ℕ → List Symbol
  after_field x y = t.reserved r.Csr ∷ t.sign s.OpenBracket ∷ t.word x ∷ t.sign s.CloseBracket ∷ t.sign s.Dot ∷ t.word y ∷ []

  read_move : (x : List ℕ) (c : Symbol) → LawMove (behind (c ∷ []) (behind (after_field x sw_read) Post)) (er.read_by n inner x c)
  read_move x (t.sign s.OpenParen) = law_deeper n _ (λ le. law_expect _ _ (law_pure _ _ (λ us. record { reads = g.soft_read (g.level (word_level loosest x _)); within = omega arith })))
  read_move x c = tt

  field_or_read_law : (x y : List ℕ) → Law (behind (after_field x y) Post) (er.field_or_read n inner x y)
  unfolding er.field_or_read
  field_or_read_law x y = law_if (o.same_text y sw_read) _ _
      (λ is. subst (λ (z : List ℕ). Law (behind (after_field x z) Post) (o.choose (er.read_by n inner x) (o.pure (e.Field x z, 1)))) (sym (same_text-true sw_read y is))
      (law_choose (er.read_by n inner x) _ (read_move x) (law_pure _ _ (λ us. record { reads = g.field; within = omega arith }))))
      (λ other. law_pure _ _ (λ us. record { reads = g.field; within = omega arith }))

  field_law : (x : List ℕ) → Law (behind (t.reserved r.Csr ∷ t.sign s.OpenBracket ∷ t.word x ∷ t.sign s.CloseBracket ∷ []) Post) (er.field n inner x)
  unfolding er.field
  field_law x = law_expect _ _ (law_name _ (λ y. field_or_read_law x y))

  csr_word_law : (x : List ℕ) → Law (behind (t.reserved r.Csr ∷ t.sign s.OpenBracket ∷ t.word x ∷ []) Post) (er.csr_word n inner x)
  unfolding er.csr_word
  csr_word_law x = law_if_next s.CloseBracket _ _ (field_law x) (law_only n _
      (record { more = t.sign s.CloseBracket ∷ t.sign s.Dot ∷ t.word [] ∷ []; value = (e.Field x [], 1); reads = λ us. record { reads = g.field; within = omega arith } })
      (λ le. address_law (er.behind x) (t.word x ∷ []) (laws (er.behind x) le)))

  csr_move : (c : Symbol) → LawMove (behind (c ∷ []) (behind (t.reserved r.Csr ∷ t.sign s.OpenBracket ∷ []) Post)) (er.csr_by n inner c)
  csr_move (t.word x) = csr_word_law x
  csr_move c = tt

  csr_law : Law (behind (t.reserved r.Csr ∷ []) Post) (er.csr n inner)
  unfolding er.csr
  csr_law = law_expect _ _ (law_choose (er.csr_by n inner) _ csr_move (law_only n _
      (record { more = t.word [] ∷ t.sign s.CloseBracket ∷ t.sign s.Dot ∷ t.word [] ∷ []; value = (e.Field [] [], 1); reads = λ us. record { reads = g.field; within = omega arith } })
      (λ le. address_law er.any [] (laws er.any le))))

  -- ---- what follows an operand

  abbrev pub Goes : (Q : Reads Found) → (Found → Reader Found) → Type 0
  Goes Q again = (x : Found) (text : List Symbol) → Whole Q text x → Law (behind text Q) (again x)

  refused : (Q : Reads Found) → Goes Q (λ _. o.refuse)
  refused Q x text q = law_refuse _ (record { more = []; value = x; reads = q })

  part_move : (again : Found → Reader Found) → Goes Post again → (x : Found) (text : List Symbol) → Whole Post text x → (c : Symbol) → LawMove (behind (c ∷ []) (behind text Post)) (er.part_by n inner again x c)
  part_move again goes x text q (t.sign s.OpenBracket) = law_move_if (nat_le x.1 n) _ (λ is. let le : x.1 ≤ n = leb-true _ _ is in let low = (post_bounded (q []).reads).low in
      law_bind _ _ (inside_law n (inner er.any) (laws er.any (omega arith))) (λ j a v. law_behind Post text (t.sign s.OpenBracket ∷ a) _ (goes (part_of x.0 j.0, suc (max x.1 j.1)) (text ++ t.sign s.OpenBracket ∷ a)
      (whole_behind Post text (t.sign s.OpenBracket ∷ a) _ (λ us. let k = v us in record { reads = g.part (q (t.sign s.OpenBracket ∷ (a ++ us))).reads k.reads; within = let i = k.within in omega arith })))))
  part_move again goes x text q c = tt

  pub parts_law : (f : ℕ) → Goes Post (er.parts n inner f)
  unfolding er.parts
  parts_law zero x text q = law_choose (er.part_by n inner (λ _. o.refuse) x) (o.pure x) (part_move (λ _. o.refuse) (refused Post) x text q) (law_pure _ x q)
  parts_law (suc f) x text q = law_choose (er.part_by n inner (er.parts n inner f) x) (o.pure x) (part_move (er.parts n inner f) (parts_law f) x text q) (law_pure _ x q)

  pub right_law : (b k : ℕ) (op : Infix) (c : Sign) (x : Found) (text : List Symbol) → binding c ≡ Some (k, op) → x.1 ≤ n → 1 ≤ n → Whole (UpTo b (suc n) (suc k)) text x
      → Law (behind (t.sign c ∷ []) (behind text (UpTo b (suc n) (suc k)))) (er.right_of n inner k op x)
  right_law b k (plain op) c x text is le low q = law_bind _ _ (laws (er.tight k) low) (λ y a v. law_pure _ _ (λ us. let l = up_to_level (q (t.sign c ∷ (a ++ us))) in let m = v us in let base = up_to_base (q us) in
      grown (g.between l.reads is m.reads) (omega arith) (omega arith) (let i = m.within in omega arith)))
  right_law b k wide c x text is le low q = law_bind _ _ (width_part_law n wr.atom) (λ y a v. law_pure _ _ (λ us. let l = up_to_level (q (t.sign c ∷ (a ++ us))) in let m = v us in let base = up_to_base (q us) in
      grown (g.widened l.reads is m.reads) (omega arith) (omega arith) (let i = m.within in omega arith)))

  operator_move : (b k : ℕ) (again : Found → Reader Found) → Goes (UpTo b (suc n) (suc k)) again → (x : Found) (text : List Symbol) → Whole (UpTo b (suc n) (suc k)) text x → (c : Sign) (found : Option (ℕ × Infix)) → binding c ≡ found
      → LawMove (behind (t.sign c ∷ []) (behind text (UpTo b (suc n) (suc k)))) (er.operator_by n inner again k x found)
  operator_move b k again goes x text q c None is = tt
  operator_move b k again goes x text q c (Some (j, op)) is = go (nat_eq j k) refl
    where
      go : (same : Bool) → nat_eq j k ≡ same → LawMove (behind (t.sign c ∷ []) (behind text (UpTo b (suc n) (suc k)))) (cond same (o.allowed x.1 n (er.right_of n inner k op x >>= again)) pass)
      go true e = let level : j ≡ k = eqb-true _ _ e in let low = (level_bounded (up_to_level (q [])).reads).low in
          law_move_if (nat_le x.1 n) (er.right_of n inner k op x >>= again) (λ le. let le : x.1 ≤ n = leb-true _ _ le in
          law_bind (er.right_of n inner k op x) again (right_law b k op c x text (is ∙ ap (λ (i : ℕ). Some (i, op)) level) le (omega arith) q)
          (λ y a v. law_behind (UpTo b (suc n) (suc k)) text (t.sign c ∷ a) (again y) (goes y (text ++ t.sign c ∷ a) (whole_behind (UpTo b (suc n) (suc k)) text (t.sign c ∷ a) y v))))
      go false e = tt

  more_move : (b k : ℕ) (again : Found → Reader Found) → Goes (UpTo b (suc n) (suc k)) again → (x : Found) (text : List Symbol) → Whole (UpTo b (suc n) (suc k)) text x → (c : Symbol)
      → LawMove (behind (c ∷ []) (behind text (UpTo b (suc n) (suc k)))) (er.more_by n inner again k x c)
  more_move b k again goes x text q (t.sign c) = operator_move b k again goes x text q c (binding c) refl
  more_move b k again goes x text q c = tt

  pub more_law : (b f k : ℕ) → Goes (UpTo b (suc n) (suc k)) (er.more n inner f k)
  unfolding er.more
  more_law b zero k x text q = law_choose (er.more_by n inner (λ _. o.refuse) k x) (o.pure x) (more_move b k (λ _. o.refuse) (refused (UpTo b (suc n) (suc k))) x text q) (law_pure _ x q)
  more_law b (suc f) k x text q = law_choose (er.more_by n inner (er.more n inner f k) k x) (o.pure x) (more_move b k (er.more n inner f k) (more_law b f k) x text q) (law_pure _ x q)

  pub onward_law : (b k : ℕ) (x : Found) (text : List Symbol) → Whole (UpTo b (suc n) 0) text x → Law (behind text (UpTo b (suc n) k)) (er.onward n inner k x)
  unfolding er.onward
  onward_law b zero x text q = law_pure _ x q
  onward_law b (suc k) x text q = law_bind (er.onward n inner k x) (er.more n inner (suc n) k) (onward_law b k x text q)
      (λ y a v. law_behind (UpTo b (suc n) (suc k)) text a _ (more_law b (suc n) k y (text ++ a) (whole_behind (UpTo b (suc n) (suc k)) text a y (λ us. up_to_more (v us)))))

  choice_move : (b : ℕ) (x : Found) (text : List Symbol) → Whole (UpTo b (suc n) loosest) text x → (c : Symbol) → LawMove (behind (c ∷ []) (behind text (RestAt b (suc n)))) (er.choice_by n inner x c)
  choice_move b x text q (t.sign s.Question) = law_move_if (nat_le x.1 n) _ (λ is. let le : x.1 ≤ n = leb-true _ _ is in let low = (level_bounded (up_to_level (q [])).reads).low in
      law_bind _ _ (laws er.any (omega arith)) (λ y a v. law_expect _ _ (law_bind _ _ (laws er.any (omega arith)) (λ z d u. law_pure _ _
      (λ us. let l = up_to_level (q (t.sign s.Question ∷ (a ++ (t.sign s.Colon ∷ (d ++ us))))) in let m = v (t.sign s.Colon ∷ (d ++ us)) in let k = u us in let base = up_to_base (q us) in
      chosen (g.choice l.reads m.reads k.reads) (omega arith) (let i = m.within in let j = k.within in omega arith))))))
  choice_move b x text q c = tt

  pub choice_law : (b : ℕ) (x : Found) (text : List Symbol) → Whole (UpTo b (suc n) loosest) text x → Law (behind text (RestAt b (suc n))) (er.choice n inner x)
  unfolding er.choice
  choice_law b x text q = law_choose (er.choice_by n inner x) (o.pure x) (choice_move b x text q) (law_pure _ x (λ us. up_to (q us)))

  pub rest_law : (b : ℕ) (x : Found) (text : List Symbol) → Whole (UpTo b (suc n) 0) text x → Law (behind text (RestAt b (suc n))) (er.rest_of n inner x)
  unfolding er.rest_of
  rest_law b x text q = law_bind (er.onward n inner loosest x) (er.choice n inner) (onward_law b loosest x text q)
      (λ y a v. law_behind (RestAt b (suc n)) text a _ (choice_law b y (text ++ a) (whole_behind (UpTo b (suc n) loosest) text a y v)))

  -- ---- operands

  parens_law : 1 ≤ n → Law (behind (t.sign s.OpenParen ∷ []) Post) (er.parens n inner)
  unfolding er.parens
  parens_law le = law_bind _ _ (laws (er.tight 0) le) (λ x a q. let low = (q []).within in law_bind (er.rest_of n inner x) _ (rest_law x.1 x a (λ us. lone (q us).reads refl (omega arith)))
      (λ y d v. law_expect _ _ (law_pure _ _ (λ us. rest_closed x.1 (suc n) (a ++ (d ++ (t.sign s.CloseParen ∷ us))) us y (omega arith) (v (t.sign s.CloseParen ∷ us))))))

  sized_move : (v : SizedWidth) (f : Bool) (k : ℕ) (found : Option Width) → sized_width v ≡ found → LawMove (behind (t.sized v f k ∷ []) Post) (er.sized_by n inner found f k)
  sized_move v f k None is = tt
  sized_move v f k (Some a) is = law_pure _ _ (λ us. record { reads = g.sized is; within = omega arith })

  member_move : (c : Reserved) (found : Option EnumKind) → enum_of c ≡ found → LawMove (behind (t.reserved c ∷ []) Post) (er.member_by n inner found)
  member_move c None is = tt
  member_move c (Some kind) is = member_law c kind is

  reserved_move : (c : Reserved) → LawMove (behind (t.reserved c ∷ []) Post) (er.reserved_by n inner c)
  reserved_move r.True = law_pure _ _ (λ us. record { reads = g.yes_flag; within = omega arith })
  reserved_move r.False = law_pure _ _ (λ us. record { reads = g.no_flag; within = omega arith })
  reserved_move r.X = law_deeper n _ register_law
  reserved_move r.Csr = csr_law
  reserved_move r.ReadMemory = law_deeper n _ memory_law
  reserved_move r.CsrValue = new_field_law
  reserved_move r.Xlen = xlen_law
  reserved_move r.Mode = mode_law
  reserved_move c = member_move c (enum_of c) refl

  atom_move : (c : Symbol) → LawMove (behind (c ∷ []) Post) (er.atom_by n inner c)
  atom_move (t.number k) = law_pure _ _ (λ us. record { reads = g.number; within = omega arith })
  atom_move (t.sized v f k) = sized_move v f k (sized_width v) refl
  atom_move (t.quoted x) = law_pure _ _ (λ us. record { reads = g.quoted; within = omega arith })
  atom_move (t.word x) = named_law x
  atom_move (t.reserved c) = reserved_move c
  atom_move (t.special p.AsSigned) = law_deeper n _ as_signed_law
  atom_move (t.special p.Resize) = law_deeper n _ resized_law
  atom_move (t.special p.Pc) = law_pure _ _ (λ us. record { reads = g.pc; within = omega arith })
  atom_move (t.special p.Encoding) = law_pure _ _ (λ us. record { reads = g.encoding; within = omega arith })
  atom_move (t.special p.Implemented) = implemented_law
  atom_move (t.special p.ImplementedVersion) = implemented_version_law
  atom_move (t.sign s.OpenParen) = law_deeper n _ parens_law
  atom_move (t.sign s.OpenBrace) = law_deeper n _ braced_law
  atom_move c = tt

  pub atoms_law : Law Post (o.among (er.atom_by n inner))
  atoms_law = law_among (er.atom_by n inner) zero_post atom_move

  pub post_law : Law Post (er.post n inner)
  unfolding er.post
  post_law = law_bind (o.among (er.atom_by n inner)) (er.parts n inner (suc n)) atoms_law (λ x a q. parts_law (suc n) x a q)

  signed_move : (c : Sign) (found : Option Unary) → unary_of c ≡ found → LawMove (behind (t.sign c ∷ []) (LevelAt (suc n) 0)) (er.signed_by n inner found)
  signed_move c None is = tt
  signed_move c (Some op) is = law_deeper n _ (λ le. law_bind _ _ (laws (er.tight 0) le) (λ x a q. law_pure _ _ (λ us. let k = q us in record { reads = g.unary is k.reads; within = let i = k.within in omega arith })))

  unary_move : (c : Symbol) → LawMove (behind (c ∷ []) (LevelAt (suc n) 0)) (er.unary_by n inner c)
  unary_move (t.sign c) = signed_move c (unary_of c) refl
  unary_move c = tt

  pub operand_law : Law (LevelAt (suc n) 0) (er.operand n inner)
  unfolding er.operand
  operand_law = law_choose (er.unary_by n inner) _ unary_move (law_map _ (λ ts us x q. record { reads = g.post q.reads; within = q.within }) post_law)

  level_law : (q : Part) → Law (PartAt (suc n) q) (er.level n inner q)
  unfolding er.level
  level_law (er.tight k) = law_bind (er.operand n inner) (er.onward n inner k) operand_law (λ x a q. law_map _ (λ ts us y v. up_to_level v) (onward_law x.1 k x a (λ us. lone (q us).reads refl (q us).within)))
  level_law er.any = law_bind (er.operand n inner) (er.rest_of n inner) operand_law (λ x a q. law_map _ (λ ts us y v. rest_expr v) (rest_law x.1 x a (λ us. lone (q us).reads refl (q us).within)))
  level_law (er.behind w) = law_bind (er.named n inner w) _ (named_law w) (λ x a q. law_bind (er.parts n inner (suc n) x) _ (law_behind Post (t.word w ∷ []) a _ (parts_law (suc n) x (t.word w ∷ a) q))
      (λ y d v. law_map _ (λ ts us z u. rest_expr u) (behind_rest w a y d v)))
    where
      behind_rest : (w : List ℕ) (a : List Symbol) (y : Found) (d : List Symbol) → Whole (behind a (behind (t.word w ∷ []) Post)) d y → Law (behind d (behind a (behind (t.word w ∷ []) (RestAt y.1 (suc n))))) (er.rest_of n inner y)
      behind_rest w a y d v = law_behind (behind (t.word w ∷ []) (RestAt y.1 (suc n))) a d _ (law_behind (RestAt y.1 (suc n)) (t.word w ∷ []) (a ++ d) _ (rest_law y.1 y (t.word w ∷ (a ++ d))
          (whole_behind (λ ts us x. UpTo y.1 (suc n) 0 (t.word w ∷ ts) us x) a d y (λ us. lone (g.post (v us).reads) refl (v us).within))))

pub expr_part_law : (n : ℕ) (q : Part) → 1 ≤ n → Law (PartAt n q) (er.expr_part n q)
unfolding er.expr_part
expr_part_law zero q le = absurd (omega arith)
expr_part_law (suc n) q le = level_law n (er.expr_part n) (λ q le. expr_part_law n q le) q

pub expr_law : (n : ℕ) → 1 ≤ n → Law (ExprAt n) (er.expr n)
expr_law n le = expr_part_law n er.any le
