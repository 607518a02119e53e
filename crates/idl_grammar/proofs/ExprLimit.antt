-- With a higher limit an expression is read the same, or was refused at a token.
use Rattle.std.proofs.Common.{◌≡◌, ℕ, zero, suc, ◌+◌, ◌<◌, ◌≤◌, Bool, true, false, cond, List, [], ◌∷◌, ◌++◌, length, Option, Some, None, Ok, Err, refl, ap, ◌∙◌, length-append, arith, inl, inr}
use Rattle.std.specs.Prelude.{max, nat_le, nat_eq}
use Rattle.std.proofs.lemmas.Bool.{leb-true, le-leb, eqb-true}
use Rattle.std.proofs.lemmas.Bool.Decides.{leb_tells}
use Rattle.idl_token.specs.declared.kinds.Reserved.{Reserved}
use Rattle.idl_token.specs.declared.kinds.Reserved.TheVariants as r
use Rattle.idl_token.specs.declared.kinds.Special.TheVariants as p
use Rattle.idl_token.specs.declared.kinds.Sign.{Sign}
use Rattle.idl_token.specs.declared.kinds.Sign.TheVariants as s
use Rattle.idl_tree.specs.declared.expressions.Unary.{Unary}
use Rattle.idl_tree.specs.declared.expressions.Expr.TheVariants as e
use Rattle.idl_token.specs.Symbol.{Symbol}
use Rattle.idl_token.specs.Symbol as t
use Rattle.idl_grammar.specs.Tables.{Infix, plain, wide, binding, loosest, unary_of, sw_read}
use Rattle.idl_grammar.specs.ExprGrammar as g
use Rattle.idl_grammar.specs.ExprGrammar.{Inside, part_of}
use Rattle.idl_grammar.specs.Outcome as o
use Rattle.idl_grammar.specs.Outcome.{Outcome, Reader, Move, take, stop, pass, left_of, ◌>>=◌}
use Rattle.idl_grammar.specs.WidthReader as wr
use Rattle.idl_grammar.specs.ExprReader as er
use Rattle.idl_grammar.specs.ExprReader.{Found, Part}
use Rattle.idl_grammar.proofs.Law.{Reads, behind, Whole, Law, tells_left, name_law}
use Rattle.idl_grammar.proofs.Apart.{law_took}
use Rattle.idl_grammar.proofs.Scan.{closed, divided, opened}
use Rattle.idl_grammar.proofs.Bounds.{level_bounded, post_bounded, args_bounded}
use Rattle.idl_grammar.proofs.WidthLaw.{width_law}
use Rattle.idl_grammar.proofs.WidthLimit.{width_grows, width_part_grows}
use Rattle.idl_grammar.proofs.ExprLaw as at
use Rattle.idl_grammar.proofs.ExprLaw.{ExprAt, LevelAt, PostAt, ArgsAt, InsideAt, BracedAt, PartAt, Seen, UpTo, lone, grown, RestAt, up_to_level, up_to_more, args_law, single_law, range_law, inside_law, expr_shortens}
use Rattle.idl_grammar.proofs.LevelLaw as law
use Rattle.idl_grammar.proofs.LevelLaw.{whole_behind, joined_law, repeated_law, expr_part_law}
use Rattle.idl_grammar.proofs.ExprAgain.{seen_apart, braces_apart, ok_parts}
use Rattle.idl_grammar.proofs.Limit.{Deeper, same, weaken, deeper_bind, deeper_want, deeper_after, law_left, law_nothing, guard_grows, test_grows, only_grows, if_grows, either_grows, commas_grows}

pub high_false : (h n : ℕ) → nat_le h n ≡ false → n < h
high_false h n e = elim (leb_tells h n) [ inl k ↦ absurd (let is = k.0 in cc) | inr k ↦ k.1 ]

-- a width within an expression, behind a token
pub width_in : (n n' l : ℕ) (ts : List Symbol) → n ≤ n' → length ts < l → Deeper (suc n) l (wr.width n ts) (wr.width n' ts)
width_in n n' l ts le lt = weaken n (length ts) (suc n) l _ _ (omega arith) (width_grows n n' (length ts) ts le (omega arith))

atom_in : (n n' l : ℕ) (ts : List Symbol) → n ≤ n' → length ts < l → Deeper (suc n) l (wr.width_part n wr.atom ts) (wr.width_part n' wr.atom ts)
atom_in n n' l ts le lt = weaken n (length ts) (suc n) l _ _ (omega arith) (width_part_grows n n' le wr.atom (length ts) ts (omega arith))

-- ---- what follows an opening bracket

module _ (n n' m l : ℕ) (le : n ≤ n') (one one' : Reader Found) (ts : List Symbol) (wide : (us : List Symbol) → length us ≤ length ts → Deeper m l (wr.width n us) (wr.width n' us)) (grow : Deeper m l (one ts) (one' ts)) where
  range_grows : Deeper m l (er.range n one ts) (er.range n' one' ts)
  unfolding er.range
  range_grows = deeper_bind _ _ (wide ts (omega arith)) (λ x us e. let a = law_left _ (wr.width n) (width_law n) ts us x e in deeper_want _ _ _ us (λ vs b. deeper_bind _ _ (wide vs (omega arith)) (λ y ws e. same refl)))

  single_grows : Deeper m l (er.single n one ts) (er.single n' one' ts)
  unfolding er.single
  single_grows = deeper_bind _ _ grow (λ x us e. same refl)

  pub inside_grows : Law (ExprAt n') one' → Deeper m l (er.inside n one ts) (er.inside n' one' ts)
  unfolding er.inside
  inside_grows law' = either_grows (Seen (InsideAt n') closed) (Seen (InsideAt n') divided) (seen_apart (InsideAt n') (InsideAt n')) ts m l (er.single n one ts) (er.range n one ts) (er.single n' one' ts) (er.range n' one' ts) single_grows range_grows
      ((single_law n' one' law').tells ts) ((range_law n' one').tells ts)

-- how many tokens stand in front: what goes on from a word has it in front
abbrev pub Room : Part → ℕ → ℕ → Type 0
Room (er.tight k) m l = m < l
Room er.any m l = m < l
Room (er.behind x) m l = suc m < l

-- the arguments of a call, after its parenthesis
abbrev call_rest : (Part → Reader Found) → List ℕ → Reader Found
call_rest inner x = o.commas (inner er.any) >>= (λ xs. o.expect s.CloseParen >>= (λ _. o.pure (e.Call x xs.0, suc xs.1)))

module _ (n n' : ℕ) (le : n ≤ n') (inner inner' : Part → Reader Found) (laws : (q : Part) → 1 ≤ n → Law (PartAt n q) (inner q)) (laws' : (q : Part) → 1 ≤ n' → Law (PartAt n' q) (inner' q))
    (below : 1 ≤ n → (q : Part) (l : ℕ) (ts : List Symbol) → Room q (length ts) l → Deeper (suc n) l (inner q ts) (inner' q ts)) where
  any_left : (ts us : List Symbol) (x : Found) → 1 ≤ n → inner er.any ts ≡ Ok (x, us) → length us ≤ length ts
  any_left ts us x low e = law_left (ExprAt n) (inner er.any) (laws er.any low) ts us x e

  args_grows : (l : ℕ) (ts : List Symbol) → 1 ≤ n → length ts < l → Deeper (suc n) l (o.commas (inner er.any) ts) (o.commas (inner' er.any) ts)
  args_grows l ts low lt = commas_grows (suc n) l (inner er.any) (inner' er.any) (λ us m. below low er.any l us m) (λ us vs x e. any_left us vs x low e) ts lt

  args_nothing : 1 ≤ n' → o.commas (inner' er.any) [] ≡ Err []
  args_nothing low = law_nothing (ArgsAt n') (o.commas (inner' er.any)) (λ ts us xs q. let b = args_bounded q.reads in let l = b.low in let h = b.high in omega arith) (args_law n' (inner' er.any) (laws' er.any low))

  called_grows : (x : List ℕ) (l : ℕ) (ts : List Symbol) → length ts < l → Deeper (suc n) l (er.called n inner x ts) (er.called n' inner' x ts)
  unfolding er.called
  called_grows x l ts lt = if_grows (o.is_sign s.CloseParen) (o.pure (e.Call x [], 1)) (o.pure (e.Call x [], 1)) (o.only n (call_rest inner x)) (o.only n' (call_rest inner' x)) ts (λ us m. same refl)
      (only_grows n n' (call_rest inner x) (call_rest inner' x) ts le (λ z. omega arith) (λ z low. let first = args_nothing low in rw first refl) (λ low. deeper_bind _ _ (args_grows l ts low lt) (λ xs us z. same refl)))

  named_grows : (x : List ℕ) (l : ℕ) (ts : List Symbol) → length ts ≤ l → Deeper (suc n) l (er.named n inner x ts) (er.named n' inner' x ts)
  unfolding er.named
  named_grows x l ts b = if_grows (o.is_sign s.OpenParen) (er.called n inner x) (er.called n' inner' x) (o.pure (e.Word x, 1)) (o.pure (e.Word x, 1)) ts (λ us m. called_grows x l us (omega arith)) (same refl)

  joined_grows : (l : ℕ) (ts : List Symbol) → 1 ≤ n → length ts < l → Deeper (suc n) l (er.joined n inner ts) (er.joined n' inner' ts)
  unfolding er.joined
  joined_grows l ts low lt = deeper_bind _ _ (args_grows l ts low lt) (λ xs us e. same refl)

  repeated_grows : (l : ℕ) (ts : List Symbol) → 1 ≤ n → length ts < l → Deeper (suc n) l (er.repeated n inner ts) (er.repeated n' inner' ts)
  unfolding er.repeated
  repeated_grows l ts low lt = deeper_bind _ _ (width_in n n' l ts le lt) (λ x us e. let a = law_left _ (wr.width n) (width_law n) ts us x e in deeper_want _ _ _ us (λ vs b. deeper_bind _ _ (below low er.any l vs (omega arith)) (λ y ws e. same refl)))

  braced_grows : (l : ℕ) (ts : List Symbol) → 1 ≤ n → length ts < l → Deeper (suc n) l (er.braced n inner ts) (er.braced n' inner' ts)
  unfolding er.braced
  braced_grows l ts low lt = deeper_bind (o.either (er.joined n inner) (er.repeated n inner) ts) (o.either (er.joined n' inner') (er.repeated n' inner') ts)
      (either_grows (Seen (BracedAt n') closed) (Seen (BracedAt n') opened) (braces_apart (BracedAt n') (BracedAt n')) ts (suc n) l _ _ _ _ (joined_grows l ts low lt) (repeated_grows l ts low lt)
      ((joined_law n' inner' laws' (omega arith)).tells ts) ((repeated_law n' inner' laws' (omega arith)).tells ts)) (λ x us e. same refl)

  as_signed_grows : (l : ℕ) (ts : List Symbol) → 1 ≤ n → length ts < l → Deeper (suc n) l (er.as_signed n inner ts) (er.as_signed n' inner' ts)
  unfolding er.as_signed
  as_signed_grows l ts low lt = deeper_want _ _ _ ts (λ us a. deeper_bind _ _ (below low er.any l us (omega arith)) (λ x vs e. same refl))

  resized_grows : (l : ℕ) (ts : List Symbol) → 1 ≤ n → length ts < l → Deeper (suc n) l (er.resized n inner ts) (er.resized n' inner' ts)
  unfolding er.resized
  resized_grows l ts low lt = deeper_want _ _ _ ts (λ us a. deeper_bind _ _ (width_in n n' l us le (omega arith)) (λ x vs e. let b = law_left _ (wr.width n) (width_law n) us vs x e in
      deeper_want _ _ _ vs (λ ws c. deeper_want _ _ _ ws (λ zs d. deeper_bind _ _ (below low er.any l zs (omega arith)) (λ y ys e. same refl)))))

  register_grows : (l : ℕ) (ts : List Symbol) → 1 ≤ n → length ts < l → Deeper (suc n) l (er.register n inner ts) (er.register n' inner' ts)
  unfolding er.register
  register_grows l ts low lt = deeper_want _ _ _ ts (λ us a. deeper_bind _ _ (below low er.any l us (omega arith)) (λ x vs e. same refl))

  memory_grows : (l : ℕ) (ts : List Symbol) → 1 ≤ n → length ts < l → Deeper (suc n) l (er.memory n inner ts) (er.memory n' inner' ts)
  unfolding er.memory
  memory_grows l ts low lt = deeper_after _ er.access at.access_law _ _ ts (λ k us a. deeper_want _ _ _ us (λ vs b. deeper_bind _ _ (below low er.any l vs (omega arith)) (λ x ws e. same refl)))

  -- ---- CSRs

  read_grows : (x : List ℕ) (other other' : Reader Found) (l : ℕ) (ts : List Symbol) → length ts ≤ l → Deeper (suc n) l (other ts) (other' ts) → Deeper (suc n) l (o.choose (er.read_by n inner x) other ts) (o.choose (er.read_by n' inner' x) other' ts)
  read_grows x other other' l [] b next = next
  read_grows x other other' l (t.sign s.OpenParen ∷ ts) b next = guard_grows n n' _ _ other other' (t.sign s.OpenParen) ts le (λ e. omega arith) (λ low. same refl)
  read_grows x other other' l (c ∷ ts) b next = next

  field_grows : (x : List ℕ) (l : ℕ) (ts : List Symbol) → length ts ≤ l → Deeper (suc n) l (er.field n inner x ts) (er.field n' inner' x ts)
  unfolding er.field er.field_or_read
  field_grows x l ts b = deeper_want _ _ _ ts (λ us a. deeper_after _ o.name name_law _ _ us (λ y vs c. go y vs (o.same_text y sw_read) (omega arith)))
    where
      go : (y : List ℕ) (ts : List Symbol) (f : Bool) → length ts ≤ l → Deeper (suc n) l (cond f (o.choose (er.read_by n inner x) (o.pure (e.Field x y, 1))) (o.pure (e.Field x y, 1)) ts) (cond f (o.choose (er.read_by n' inner' x) (o.pure (e.Field x y, 1))) (o.pure (e.Field x y, 1)) ts)
      go y ts true b = read_grows x _ _ l ts b (same refl)
      go y ts false b = same refl

  address_grows : (q : Part) (l : ℕ) (ts : List Symbol) → 1 ≤ n → Room q (length ts) l → Deeper (suc n) l (er.address n inner q ts) (er.address n' inner' q ts)
  unfolding er.address er.soft_read
  address_grows q l ts low lt = deeper_bind _ _ (below low q l ts lt) (λ x us e. same refl)

  address_nothing : (q : Part) (front : List Symbol) → Law (behind front (ExprAt n')) (inner' q) → er.address n' inner' q [] ≡ Err []
  unfolding er.address o.want
  address_nothing q front law' = go (inner' q []) (tells_left (behind front (ExprAt n')) [] (inner' q []) (law'.tells []))
    where
      go : (r : Outcome Found) → left_of r ≤ 0 → o.and_then r (λ x us. o.and_then (o.want (o.is_sign s.CloseBracket) us) (λ _. er.soft_read n' inner' x)) ≡ Err []
      go (Ok (x, [])) b = refl
      go (Ok (x, c ∷ us)) b = absurd (omega arith)
      go (Err []) b = refl
      go (Err (c ∷ us)) b = absurd (omega arith)

  csr_word_grows : (x : List ℕ) (l : ℕ) (ts : List Symbol) → suc (length ts) < l → Deeper (suc n) l (er.csr_word n inner x ts) (er.csr_word n' inner' x ts)
  unfolding er.csr_word
  csr_word_grows x l ts lt = if_grows (o.is_sign s.CloseBracket) (er.field n inner x) (er.field n' inner' x) (o.only n (er.address n inner (er.behind x))) (o.only n' (er.address n' inner' (er.behind x))) ts (λ us m. field_grows x l us (omega arith))
      (only_grows n n' (er.address n inner (er.behind x)) (er.address n' inner' (er.behind x)) ts le (λ z. omega arith) (λ z low. address_nothing (er.behind x) (t.word x ∷ []) (laws' (er.behind x) low)) (λ low. address_grows (er.behind x) l ts low lt))

  csr_by_grows : (l : ℕ) (ts : List Symbol) → length ts < l → Deeper (suc n) l (o.choose (er.csr_by n inner) (o.only n (er.address n inner er.any)) ts) (o.choose (er.csr_by n' inner') (o.only n' (er.address n' inner' er.any)) ts)
  csr_by_grows l (t.word x ∷ ts) lt = csr_word_grows x l ts (omega arith)
  csr_by_grows l [] lt = only_grows n n' (er.address n inner er.any) (er.address n' inner' er.any) [] le (λ e. omega arith) (λ e low. address_nothing er.any [] (laws' er.any low)) (λ low. address_grows er.any l [] low lt)
  csr_by_grows l (c ∷ ts) lt = only_grows n n' (er.address n inner er.any) (er.address n' inner' er.any) (c ∷ ts) le (λ e. omega arith) (λ e low. address_nothing er.any [] (laws' er.any low)) (λ low. address_grows er.any l (c ∷ ts) low lt)

  csr_grows : (l : ℕ) (ts : List Symbol) → length ts < l → Deeper (suc n) l (er.csr n inner ts) (er.csr n' inner' ts)
  unfolding er.csr
  csr_grows l ts lt = deeper_want _ _ _ ts (λ us a. csr_by_grows l us (omega arith))

  -- ---- what follows an operand

  abbrev Post : Reads Found
  Post = PostAt (suc n)

  abbrev Upto : ℕ → ℕ → Reads Found
  Upto b k = UpTo b (suc n) k

  test_up : (h : ℕ) → nat_le h n ≡ true → nat_le h n' ≡ true
  test_up h e = let m = leb-true h n e in le-leb h n' (omega arith)

  -- after a turn from x
  abbrev From : Reads Found → Found → (Found → Reader Found) → (Found → Reader Found) → ℕ → Type 0
  From Q x again again' l = x.1 ≤ n → (y : Found) (text : List Symbol) → Whole Q text y → (ts : List Symbol) → x.1 < y.1 → length text + length ts ≤ l → Deeper (suc n) l (again y ts) (again' y ts)

  post_high : (text : List Symbol) (x : Found) → Whole Post text x → x.1 ≤ length text
  post_high text x q = let h = (post_bounded (q []).reads).high in omega (arith, h, length-append text [])

  up_to_high : (b k : ℕ) (text : List Symbol) (x : Found) → Whole (Upto b k) text x → x.1 ≤ length text
  up_to_high b k text x q = let h = (level_bounded (up_to_level (q [])).reads).high in omega (arith, h, length-append text [])

  part_by_grows : (again again' : Found → Reader Found) (l : ℕ) (x : Found) (text : List Symbol) → Whole Post text x → From Post x again again' l → (ts : List Symbol) → length text + length ts ≤ l
      → Deeper (suc n) l (o.choose (er.part_by n inner again x) (o.pure x) ts) (o.choose (er.part_by n' inner' again' x) (o.pure x) ts)
  part_by_grows again again' l x text q next [] b = same refl
  part_by_grows again again' l x text q next (t.sign s.OpenBracket ∷ ts) b = let high = post_high text x q in let low = (post_bounded (q []).reads).low in
      test_grows (nat_le x.1 n) (nat_le x.1 n') _ _ (o.pure x) (o.pure x) (t.sign s.OpenBracket) ts (test_up x.1) (λ z. let above = high_false x.1 n z in omega arith)
      (λ z. let small = leb-true x.1 n z in deeper_bind (er.inside n (inner er.any) ts) (er.inside n' (inner' er.any) ts) (inside_grows n n' (suc n) l le (inner er.any) (inner' er.any) ts (λ us m. width_in n n' l us le (omega arith)) (below (omega arith) er.any l ts (omega arith)) (laws' er.any (omega arith)))
      (λ j us is. let k = law_took (InsideAt n) (er.inside n (inner er.any)) (inside_law n (inner er.any) (laws er.any (omega arith))) ts us j is in
      next small (part_of x.0 j.0, suc (max x.1 j.1)) (text ++ t.sign s.OpenBracket ∷ k.text) (whole_behind Post text (t.sign s.OpenBracket ∷ k.text) _ (λ vs. let m = k.reads vs in record { reads = g.part (q (t.sign s.OpenBracket ∷ (k.text ++ vs))).reads m.reads; within = let i = m.within in omega arith })) us (omega arith)
      (omega (arith, length-append text (t.sign s.OpenBracket ∷ k.text), ap length k.parts, length-append k.text us))))
  part_by_grows again again' l x text q next (c ∷ ts) b = same refl

  parts_grows : (f f' l : ℕ) (x : Found) (text : List Symbol) → Whole Post text x → (ts : List Symbol) → length text + length ts ≤ l → n < f + x.1 → n' < f' + x.1 → Deeper (suc n) l (er.parts n inner f x ts) (er.parts n' inner' f' x ts)
  unfolding er.parts
  parts_grows zero zero l x text q ts b m m' = part_by_grows (λ _. o.refuse) (λ _. o.refuse) l x text q (λ small y a v us lt b. same refl) ts b
  parts_grows zero (suc f') l x text q ts b m m' = part_by_grows (λ _. o.refuse) (er.parts n' inner' f') l x text q (λ small y a v us lt b. absurd (omega arith)) ts b
  parts_grows (suc f) zero l x text q ts b m m' = part_by_grows (er.parts n inner f) (λ _. o.refuse) l x text q (λ small y a v us lt b. absurd (omega arith)) ts b
  parts_grows (suc f) (suc f') l x text q ts b m m' = part_by_grows (er.parts n inner f) (er.parts n' inner' f') l x text q (λ small y a v us lt b. parts_grows f f' l y a v us b (omega arith) (omega arith)) ts b

  right_grows : (k : ℕ) (op : Infix) (x : Found) (l : ℕ) (ts : List Symbol) → 1 ≤ n → length ts < l → Deeper (suc n) l (er.right_of n inner k op x ts) (er.right_of n' inner' k op x ts)
  right_grows k (plain op) x l ts low lt = deeper_bind _ _ (below low (er.tight k) l ts lt) (λ y us z. same refl)
  right_grows k wide x l ts low lt = deeper_bind _ _ (atom_in n n' l ts le lt) (λ y us z. same refl)

  right_more : (k : ℕ) (op : Infix) (x y : Found) (ts us : List Symbol) → er.right_of n inner k op x ts ≡ Ok (y, us) → x.1 < y.1
  right_more k (plain op) x y ts us z = go (inner (er.tight k) ts) z
    where
      go : (q : Outcome Found) → ◌≡◌ {A = Outcome Found} (o.and_then q (λ y. o.pure (e.Binary op x.0 y.0, suc (max x.1 y.1)))) (Ok (y, us)) → x.1 < y.1
      go (Ok p) z = let is = (ok_parts (e.Binary op x.0 p.0.0, suc (max x.1 p.0.1)) y p.1 us z).0 in let nest = ap (λ (w : Found). w.1) is in omega (arith, nest)
      go (Err vs) z = absurd cc
  right_more k wide x y ts us z = go (wr.width_part n wr.atom ts) z
    where
      go : (q : Outcome wr.Found) → ◌≡◌ {A = Outcome Found} (o.and_then q (λ y. o.pure (e.WideLeft x.0 y.0, suc (max x.1 y.2)))) (Ok (y, us)) → x.1 < y.1
      go (Ok p) z = let is = (ok_parts (e.WideLeft x.0 p.0.0, suc (max x.1 p.0.2)) y p.1 us z).0 in let nest = ap (λ (w : Found). w.1) is in omega (arith, nest)
      go (Err vs) z = absurd cc

  operator_grows : (b k : ℕ) (again again' : Found → Reader Found) (l : ℕ) (x : Found) (text : List Symbol) → Whole (Upto b (suc k)) text x → From (Upto b (suc k)) x again again' l → (c : Sign) (found : Option (ℕ × Infix)) → binding c ≡ found → (ts : List Symbol)
      → length text + length (t.sign c ∷ ts) ≤ l → Deeper (suc n) l (o.moved (er.operator_by n inner again k x found) (o.pure x) (t.sign c ∷ ts)) (o.moved (er.operator_by n' inner' again' k x found) (o.pure x) (t.sign c ∷ ts))
  operator_grows b k again again' l x text q next c None is ts m = same refl
  operator_grows b k again again' l x text q next c (Some (j, op)) is ts m = go (nat_eq j k) refl
    where
      here : j ≡ k → nat_le x.1 n ≡ true → Deeper (suc n) l (o.and_then (er.right_of n inner k op x ts) again) (o.and_then (er.right_of n' inner' k op x ts) again')
      here level z =
          let small = leb-true x.1 n z in let low = (level_bounded (up_to_level (q [])).reads).low in
          deeper_bind (er.right_of n inner k op x ts) (er.right_of n' inner' k op x ts) (right_grows k op x l ts (omega arith) (omega arith)) (λ y us e'.
          let v = law_took (behind (t.sign c ∷ []) (behind text (Upto b (suc k)))) (er.right_of n inner k op x) (law.right_law n inner laws b k op c x text (is ∙ ap (λ (i : ℕ). Some (i, op)) level) small (omega arith) q) ts us y e' in
          next small y (text ++ t.sign c ∷ v.text) (whole_behind (Upto b (suc k)) text (t.sign c ∷ v.text) y v.reads) us (right_more k op x y ts us e') (omega (arith, length-append text (t.sign c ∷ v.text), ap length v.parts, length-append v.text us)))

      go : (f : Bool) → nat_eq j k ≡ f → Deeper (suc n) l (o.moved (cond f (o.allowed x.1 n (er.right_of n inner k op x >>= again)) pass) (o.pure x) (t.sign c ∷ ts)) (o.moved (cond f (o.allowed x.1 n' (er.right_of n' inner' k op x >>= again')) pass) (o.pure x) (t.sign c ∷ ts))
      go true z = let high = up_to_high b (suc k) text x q in test_grows (nat_le x.1 n) (nat_le x.1 n') (er.right_of n inner k op x >>= again) (er.right_of n' inner' k op x >>= again') (o.pure x) (o.pure x) (t.sign c) ts (test_up x.1) (λ v. let above = high_false x.1 n v in omega arith) (here (eqb-true j k z))
      go false z = same refl

  more_by_grows : (b k : ℕ) (again again' : Found → Reader Found) (l : ℕ) (x : Found) (text : List Symbol) → Whole (Upto b (suc k)) text x → From (Upto b (suc k)) x again again' l → (ts : List Symbol) → length text + length ts ≤ l
      → Deeper (suc n) l (o.choose (er.more_by n inner again k x) (o.pure x) ts) (o.choose (er.more_by n' inner' again' k x) (o.pure x) ts)
  more_by_grows b k again again' l x text q next [] m = same refl
  more_by_grows b k again again' l x text q next (t.sign c ∷ ts) m = operator_grows b k again again' l x text q next c (binding c) refl ts m
  more_by_grows b k again again' l x text q next (c ∷ ts) m = same refl

  more_grows : (b k f f' l : ℕ) (x : Found) (text : List Symbol) → Whole (Upto b (suc k)) text x → (ts : List Symbol) → length text + length ts ≤ l → n < f + x.1 → n' < f' + x.1 → Deeper (suc n) l (er.more n inner f k x ts) (er.more n' inner' f' k x ts)
  unfolding er.more
  more_grows b k zero zero l x text q ts z m m' = more_by_grows b k (λ _. o.refuse) (λ _. o.refuse) l x text q (λ small y a v us lt z. same refl) ts z
  more_grows b k zero (suc f') l x text q ts z m m' = more_by_grows b k (λ _. o.refuse) (er.more n' inner' f' k) l x text q (λ small y a v us lt z. absurd (omega arith)) ts z
  more_grows b k (suc f) zero l x text q ts z m m' = more_by_grows b k (er.more n inner f k) (λ _. o.refuse) l x text q (λ small y a v us lt z. absurd (omega arith)) ts z
  more_grows b k (suc f) (suc f') l x text q ts z m m' = more_by_grows b k (er.more n inner f k) (er.more n' inner' f' k) l x text q (λ small y a v us lt z. more_grows b k f f' l y a v us z (omega arith) (omega arith)) ts z

  onward_grows : (b k l : ℕ) (x : Found) (text : List Symbol) → Whole (Upto b 0) text x → (ts : List Symbol) → length text + length ts ≤ l → Deeper (suc n) l (er.onward n inner k x ts) (er.onward n' inner' k x ts)
  unfolding er.onward
  onward_grows b zero l x text q ts m = same refl
  onward_grows b (suc k) l x text q ts m = deeper_bind (er.onward n inner k x ts) (er.onward n' inner' k x ts) (onward_grows b k l x text q ts m) (λ y us z.
      let v = law_took (behind text (Upto b k)) (er.onward n inner k x) (law.onward_law n inner laws b k x text q) ts us y z in
      let whole = whole_behind (Upto b (suc k)) text v.text y (λ us. up_to_more (v.reads us)) in
      let low = (level_bounded (up_to_level (whole [])).reads).low in
      more_grows b k (suc n) (suc n') l y (text ++ v.text) whole us (omega (arith, length-append text v.text, ap length v.parts, length-append v.text us)) (omega arith) (omega arith))

  choice_grows : (b l : ℕ) (x : Found) (text : List Symbol) → Whole (Upto b loosest) text x → (ts : List Symbol) → length text + length ts ≤ l → Deeper (suc n) l (er.choice n inner x ts) (er.choice n' inner' x ts)
  unfolding er.choice
  choice_grows b l x text q [] m = same refl
  choice_grows b l x text q (t.sign s.Question ∷ ts) m = let high = up_to_high b loosest text x q in let low = (level_bounded (up_to_level (q [])).reads).low in
      test_grows (nat_le x.1 n) (nat_le x.1 n') _ _ (o.pure x) (o.pure x) (t.sign s.Question) ts (test_up x.1) (λ z. let above = high_false x.1 n z in omega arith)
      (λ z. let small = leb-true x.1 n z in deeper_bind _ _ (below (omega arith) er.any l ts (omega arith)) (λ y us is. let left = any_left ts us y (omega arith) is in deeper_want _ _ _ us (λ vs d. deeper_bind _ _ (below (omega arith) er.any l vs (omega arith)) (λ w ws is. same refl))))
  choice_grows b l x text q (c ∷ ts) m = same refl

  rest_grows : (b l : ℕ) (x : Found) (text : List Symbol) → Whole (Upto b 0) text x → (ts : List Symbol) → length text + length ts ≤ l → Deeper (suc n) l (er.rest_of n inner x ts) (er.rest_of n' inner' x ts)
  unfolding er.rest_of
  rest_grows b l x text q ts m = deeper_bind (er.onward n inner loosest x ts) (er.onward n' inner' loosest x ts) (onward_grows b loosest l x text q ts m) (λ y us z.
      let v = law_took (behind text (Upto b loosest)) (er.onward n inner loosest x) (law.onward_law n inner laws b loosest x text q) ts us y z in
      choice_grows b l y (text ++ v.text) (whole_behind (Upto b loosest) text v.text y v.reads) us (omega (arith, length-append text v.text, ap length v.parts, length-append v.text us)))

  -- ---- operands

  parens_grows : (l : ℕ) (ts : List Symbol) → 1 ≤ n → length ts < l → Deeper (suc n) l (er.parens n inner ts) (er.parens n' inner' ts)
  unfolding er.parens
  parens_grows l ts low lt = deeper_bind (inner (er.tight 0) ts) (inner' (er.tight 0) ts) (below low (er.tight 0) l ts lt) (λ x us z.
      let v = law_took (LevelAt n 0) (inner (er.tight 0)) (laws (er.tight 0) low) ts us x z in
      let small = (v.reads []).within in
      deeper_bind (er.rest_of n inner x us) (er.rest_of n' inner' x us) (rest_grows x.1 l x v.text (λ us. lone (v.reads us).reads refl (omega arith)) us (omega (arith, ap length v.parts, length-append v.text us))) (λ y vs z. same refl))

  reserved_grows : (l : ℕ) (c : Reserved) (ts : List Symbol) → length (t.reserved c ∷ ts) ≤ l → Deeper (suc n) l (o.moved (er.reserved_by n inner c) o.refuse (t.reserved c ∷ ts)) (o.moved (er.reserved_by n' inner' c) o.refuse (t.reserved c ∷ ts))
  unfolding er.new_field er.empty_call er.member
  reserved_grows l r.X ts b = guard_grows n n' _ _ o.refuse o.refuse (t.reserved r.X) ts le (λ z. omega arith) (λ low. register_grows l ts low (omega arith))
  reserved_grows l r.Csr ts b = csr_grows l ts (omega arith)
  reserved_grows l r.ReadMemory ts b = guard_grows n n' _ _ o.refuse o.refuse (t.reserved r.ReadMemory) ts le (λ z. omega arith) (λ low. memory_grows l ts low (omega arith))
  reserved_grows l c ts b = same refl

  atom_grows : (l : ℕ) (c : Symbol) (ts : List Symbol) → length (c ∷ ts) ≤ l → Deeper (suc n) l (o.moved (er.atom_by n inner c) o.refuse (c ∷ ts)) (o.moved (er.atom_by n' inner' c) o.refuse (c ∷ ts))
  unfolding er.implemented er.implemented_version er.extension
  atom_grows l (t.word x) ts b = named_grows x l ts (omega arith)
  atom_grows l (t.reserved c) ts b = reserved_grows l c ts b
  atom_grows l (t.special p.AsSigned) ts b = guard_grows n n' _ _ o.refuse o.refuse (t.special p.AsSigned) ts le (λ z. omega arith) (λ low. as_signed_grows l ts low (omega arith))
  atom_grows l (t.special p.Resize) ts b = guard_grows n n' _ _ o.refuse o.refuse (t.special p.Resize) ts le (λ z. omega arith) (λ low. resized_grows l ts low (omega arith))
  atom_grows l (t.sign s.OpenParen) ts b = guard_grows n n' _ _ o.refuse o.refuse (t.sign s.OpenParen) ts le (λ z. omega arith) (λ low. parens_grows l ts low (omega arith))
  atom_grows l (t.sign s.OpenBrace) ts b = guard_grows n n' _ _ o.refuse o.refuse (t.sign s.OpenBrace) ts le (λ z. omega arith) (λ low. braced_grows l ts low (omega arith))
  atom_grows l c ts b = same refl

  post_grows : (l : ℕ) (ts : List Symbol) → length ts ≤ l → Deeper (suc n) l (er.post n inner ts) (er.post n' inner' ts)
  unfolding er.post
  post_grows l [] b = same refl
  post_grows l (c ∷ ts) b = deeper_bind _ _ (atom_grows l c ts b) (λ x us z.
      let v = law_took Post (o.among (er.atom_by n inner)) (law.atoms_law n inner laws) (c ∷ ts) us x z in
      let low = (post_bounded (v.reads []).reads).low in
      parts_grows (suc n) (suc n') l x v.text v.reads us (omega (arith, ap length v.parts, length-append v.text us)) (omega arith) (omega arith))

  unary_grows : (l : ℕ) (c : Sign) (found : Option Unary) (ts : List Symbol) → length (t.sign c ∷ ts) ≤ l → Deeper (suc n) l (o.moved (er.signed_by n inner found) (er.post n inner) (t.sign c ∷ ts)) (o.moved (er.signed_by n' inner' found) (er.post n' inner') (t.sign c ∷ ts))
  unary_grows l c None ts b = post_grows l (t.sign c ∷ ts) b
  unary_grows l c (Some op) ts b = guard_grows n n' _ _ (er.post n inner) (er.post n' inner') (t.sign c) ts le (λ z. omega arith) (λ low. deeper_bind _ _ (below low (er.tight 0) l ts (omega arith)) (λ x us z. same refl))

  operand_grows : (l : ℕ) (ts : List Symbol) → length ts ≤ l → Deeper (suc n) l (er.operand n inner ts) (er.operand n' inner' ts)
  unfolding er.operand
  operand_grows l [] b = post_grows l [] b
  operand_grows l (t.sign c ∷ ts) b = unary_grows l c (unary_of c) ts b
  operand_grows l (c ∷ ts) b = post_grows l (c ∷ ts) b

  pub level_grows : (q : Part) (l : ℕ) (ts : List Symbol) → Room q (length ts) (suc l) → Deeper (suc n) l (er.level n inner q ts) (er.level n' inner' q ts)
  unfolding er.level
  level_grows (er.tight k) l ts b = deeper_bind _ _ (operand_grows l ts (omega arith)) (λ x us z.
      let v = law_took (LevelAt (suc n) 0) (er.operand n inner) (law.operand_law n inner laws) ts us x z in let small = (v.reads []).within in
      onward_grows x.1 k l x v.text (λ us. lone (v.reads us).reads refl (omega arith)) us (omega (arith, ap length v.parts, length-append v.text us)))
  level_grows er.any l ts b = deeper_bind _ _ (operand_grows l ts (omega arith)) (λ x us z.
      let v = law_took (LevelAt (suc n) 0) (er.operand n inner) (law.operand_law n inner laws) ts us x z in let small = (v.reads []).within in
      rest_grows x.1 l x v.text (λ us. lone (v.reads us).reads refl (omega arith)) us (omega (arith, ap length v.parts, length-append v.text us)))
  level_grows (er.behind w) l ts b = deeper_bind _ _ (named_grows w l ts (omega arith)) (λ x us z.
      let v = law_took (behind (t.word w ∷ []) Post) (er.named n inner w) (law.named_law n inner laws w) ts us x z in
      let low = (post_bounded (v.reads []).reads).low in
      let long = ap length v.parts in
      deeper_bind (er.parts n inner (suc n) x us) (er.parts n' inner' (suc n') x us) (parts_grows (suc n) (suc n') l x (t.word w ∷ v.text) v.reads us (omega (arith, long, length-append v.text us)) (omega arith) (omega arith)) (λ y vs z.
      let u = law_took (behind (t.word w ∷ v.text) Post) (er.parts n inner (suc n) x) (law.parts_law n inner laws (suc n) x (t.word w ∷ v.text) v.reads) us vs y z in
      let whole = whole_behind Post (t.word w ∷ v.text) u.text y u.reads in let small = (whole []).within in
      rest_grows y.1 l y (t.word w ∷ v.text ++ u.text) (λ us. lone (g.post (whole us).reads) refl (omega arith)) vs (omega (arith, long, length-append v.text us, ap length u.parts, length-append u.text vs, length-append v.text u.text))))

-- behind a token one level deeper
inner_in : (n : ℕ) (read read' : Part → Reader Found) → ((q : Part) (l : ℕ) (ts : List Symbol) → Room q (length ts) (suc l) → Deeper n l (read q ts) (read' q ts)) → (q : Part) (l : ℕ) (ts : List Symbol) → Room q (length ts) l → Deeper (suc n) l (read q ts) (read' q ts)
inner_in n read read' grow (er.tight k) l ts b = weaken n (length ts) (suc n) l _ _ (omega arith) (grow (er.tight k) (length ts) ts (omega arith))
inner_in n read read' grow er.any l ts b = weaken n (length ts) (suc n) l _ _ (omega arith) (grow er.any (length ts) ts (omega arith))
inner_in n read read' grow (er.behind w) l ts b = weaken n (suc (length ts)) (suc n) l _ _ (omega arith) (grow (er.behind w) (suc (length ts)) ts (omega arith))

pub expr_part_grows : (n n' : ℕ) → 1 ≤ n → n ≤ n' → (q : Part) (l : ℕ) (ts : List Symbol) → Room q (length ts) (suc l) → Deeper n l (er.expr_part n q ts) (er.expr_part n' q ts)
unfolding er.expr_part
expr_part_grows zero n' low le q l ts b = absurd (omega arith)
expr_part_grows (suc n) zero low le q l ts b = absurd (omega arith)
expr_part_grows (suc n) (suc n') low le q l ts b = level_grows n n' (omega arith) (er.expr_part n) (er.expr_part n') (λ q low. expr_part_law n q low) (λ q low. expr_part_law n' q low)
    (λ low q l ts b. inner_in n (er.expr_part n) (er.expr_part n') (λ q l ts b. expr_part_grows n n' low (omega arith) q l ts b) q l ts b) q l ts b

-- an expression behind a token, one level deeper
pub expr_in : (n n' l : ℕ) (ts : List Symbol) → 1 ≤ n → n ≤ n' → length ts < l → Deeper (suc n) l (er.expr n ts) (er.expr n' ts)
expr_in n n' l ts low le lt = inner_in n (er.expr_part n) (er.expr_part n') (λ q l ts b. expr_part_grows n n' low le q l ts b) er.any l ts lt

pub behind_in : (n n' l : ℕ) (w : List ℕ) (ts : List Symbol) → 1 ≤ n → n ≤ n' → suc (length ts) < l → Deeper (suc n) l (er.expr_part n (er.behind w) ts) (er.expr_part n' (er.behind w) ts)
behind_in n n' l w ts low le lt = inner_in n (er.expr_part n) (er.expr_part n') (λ q l ts b. expr_part_grows n n' low le q l ts b) (er.behind w) l ts lt
