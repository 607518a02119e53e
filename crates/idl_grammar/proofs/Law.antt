-- What a reader must keep, and how readers put together keep it. An answer tells that the tokens
-- taken read so, before whatever follows; a fault tells that the tokens before it go on to something
-- that reads. And what follows a fault doesn't matter.
use Rattle.std.proofs.Common.{◌≡◌, ℕ, zero, suc, ◌<◌, ◌≤◌, Bool, true, false, cond, List, [], ◌∷◌, ◌++◌, length, Ok, Err, refl, sym, ap, subst, ◌∙◌, append_assoc, length-append, arith, rules}
use Rattle.std.proofs.lemmas.List.{append-nil}
use Rattle.std.specs.Cmp.Lexicographic as lexicographic
use denote.Enum.Bare.{same_true}
use Rattle.idl_token.specs.contracts.kinds.Sign as sign_type
use Rattle.idl_token.specs.contracts.kinds.Reserved as reserved_type
use Rattle.idl_token.specs.declared.kinds.Reserved.{Reserved}
use Rattle.idl_token.specs.declared.kinds.Sign.{Sign}
use Rattle.idl_token.specs.Symbol.{Symbol}
use Rattle.idl_token.specs.Symbol as t
use Rattle.idl_grammar.specs.Outcome as r
use Rattle.idl_grammar.specs.Outcome.{Outcome, Reader, Move, take, stop, pass, left_of, ◌>>=◌}

-- texts with what they read as: the tokens before the second list
abbrev pub Reads : Type 0 → Type 1
Reads A = List Symbol → List Symbol → A → Type 0

-- what is left to read behind the front
abbrev pub behind : {A : Type 0} → List Symbol → Reads A → Reads A
behind front Q = λ ts us x. Q (front ++ ts) us x

-- the text reads so before whatever follows
abbrev pub Whole : {A : Type 0} → Reads A → List Symbol → A → Type 0
Whole Q text x = (us : List Symbol) → Q (text ++ us) us x

pub record Sample {A : Type 0} (Q : Reads A) : Type 0 where
  pub more : List Symbol
  pub value : A
  pub reads : Whole Q more value

pub record Took {A : Type 0} (Q : Reads A) (ts : List Symbol) (x : A) (rest : List Symbol) : Type 0 where
  pub text : List Symbol
  pub parts : ts ≡ text ++ rest
  pub reads : Whole Q text x

pub record Broke {A : Type 0} (Q : Reads A) (ts : List Symbol) (rest : List Symbol) : Type 0 where
  pub front : List Symbol
  pub parts : ts ≡ front ++ rest
  pub goes : Sample (behind front Q)

abbrev pub Tells : {A : Type 0} → Reads A → List Symbol → Outcome A → Type 0
Tells Q ts (Ok p) = Took Q ts p.0 p.1
Tells Q ts (Err rest) = Broke Q ts rest

-- the outcomes on two texts that end as u and as v: both leave the same tokens before u and before v, or the first goes past the first token of u
pub data Alike {A : Type 0} (u v : List Symbol) : Outcome A → Outcome A → Type 0 where
  both_read : (x : A) (front : List Symbol) → Alike u v (Ok (x, front ++ u)) (Ok (x, front ++ v))
  both_refused : (front : List Symbol) → Alike u v (Err (front ++ u)) (Err (front ++ v))
  beyond : {q q' : Outcome A} → left_of q < length u → Alike u v q q'

pub record Law {A : Type 0} (Q : Reads A) (p : Reader A) : Type 0 where
  pub tells : (ts : List Symbol) → Tells Q ts (p ts)
  pub alike : (c : Symbol) (w w' front : List Symbol) → Alike (c ∷ w) (c ∷ w') (p (front ++ c ∷ w)) (p (front ++ c ∷ w'))

-- ---- from laws

pub tells_left : {A : Type 0} (Q : Reads A) (ts : List Symbol) (q : Outcome A) → Tells Q ts q → left_of q ≤ length ts
tells_left Q ts (Ok p) k = rw k.parts (simp length-append (omega arith))
tells_left Q ts (Err rest) k = rw k.parts (simp length-append (omega arith))

tells_sample : {A : Type 0} (Q : Reads A) (ts : List Symbol) (q : Outcome A) → Tells Q ts q → Sample Q
tells_sample Q ts (Ok p) k = record { more = k.text; value = p.0; reads = k.reads }
tells_sample Q ts (Err rest) k = record {
  more = k.front ++ k.goes.more;
  value = k.goes.value;
  reads = λ us. subst (λ (v : List Symbol). Q v us k.goes.value) (sym (append_assoc k.front k.goes.more us)) (k.goes.reads us);
}

pub law_sample : {A : Type 0} (Q : Reads A) (p : Reader A) → Law Q p → Sample Q
law_sample Q p law = tells_sample Q [] (p []) (law.tells [])

tells_shift : {A : Type 0} (Q : Reads A) (front ts rest : List Symbol) (q : Outcome A) → ts ≡ front ++ rest → Tells (behind front Q) rest q → Tells Q ts q
tells_shift Q front ts rest (Ok p) is k = record {
  text = front ++ k.text;
  parts = rw (is, k.parts) (sym (append_assoc front k.text p.1));
  reads = λ us. subst (λ (v : List Symbol). Q v us p.0) (sym (append_assoc front k.text us)) (k.reads us);
}
tells_shift Q front ts rest (Err us) is k = record {
  front = front ++ k.front;
  parts = rw (is, k.parts) (sym (append_assoc front k.front us));
  goes = record {
    more = k.goes.more;
    value = k.goes.value;
    reads = λ vs. subst (λ (v : List Symbol). Q v vs k.goes.value) (sym (append_assoc front k.front (k.goes.more ++ vs))) (k.goes.reads vs);
  };
}

-- ---- the least readers

pub law_pure : {A : Type 0} (Q : Reads A) (x : A) → ((us : List Symbol) → Q us us x) → Law Q (r.pure x)
law_pure Q x reads = record { tells = λ ts. record { text = []; parts = refl; reads = reads }; alike = λ c w w' front. both_read x front }

pub law_refuse : {A : Type 0} (Q : Reads A) → Sample Q → Law Q r.refuse
law_refuse Q goes = record { tells = λ ts. record { front = []; parts = refl; goes = goes }; alike = λ c w w' front. both_refused front }

-- ---- to another way to say what is read

tells_map : {A : Type 0} (P Q : Reads A) (ts : List Symbol) (q : Outcome A) → ((ts us : List Symbol) (x : A) → P ts us x → Q ts us x) → Tells P ts q → Tells Q ts q
tells_map P Q ts (Ok p) f k = record { text = k.text; parts = k.parts; reads = λ us. f (k.text ++ us) us p.0 (k.reads us) }
tells_map P Q ts (Err rest) f k = record { front = k.front; parts = k.parts; goes = record { more = k.goes.more; value = k.goes.value; reads = λ us. f (k.front ++ (k.goes.more ++ us)) us k.goes.value (k.goes.reads us) } }

pub law_map : {A : Type 0} {P Q : Reads A} (p : Reader A) → ((ts us : List Symbol) (x : A) → P ts us x → Q ts us x) → Law P p → Law Q p
law_map {A} {P} {Q} p f law = record { tells = λ ts. tells_map P Q ts (p ts) f (law.tells ts); alike = law.alike }

-- behind two texts, one after the other
pub law_behind : {A : Type 0} (Q : Reads A) (a b : List Symbol) (p : Reader A) → Law (behind (a ++ b) Q) p → Law (behind b (behind a Q)) p
law_behind Q a b p law = law_map p (λ ts us x k. subst (λ (v : List Symbol). Q v us x) (append_assoc a b ts) k) law

-- ---- one after the other

bind_tells : {A B : Type 0} (P : Reads A) (Q : Reads B) (ts : List Symbol) (q : Outcome A) (f : A → Reader B) → Tells P ts q → ((x : A) (text : List Symbol) → Whole P text x → Law (behind text Q) (f x)) → Tells Q ts (r.and_then q f)
bind_tells P Q ts (Ok p) f k next = tells_shift Q k.text ts p.1 (f p.0 p.1) k.parts ((next p.0 k.text k.reads).tells p.1)
bind_tells P Q ts (Err rest) f k next = record {
  front = k.front;
  parts = k.parts;
  goes = record {
    more = k.goes.more ++ then.more;
    value = then.value;
    reads = λ us. subst (λ (v : List Symbol). Q v us then.value) (append_assoc k.front k.goes.more (then.more ++ us) ∙ ap (λ (v : List Symbol). k.front ++ v) (sym (append_assoc k.goes.more then.more us))) (then.reads us);
  };
}
  where
    whole : Whole P (k.front ++ k.goes.more) k.goes.value
    whole us = subst (λ (v : List Symbol). P v us k.goes.value) (sym (append_assoc k.front k.goes.more us)) (k.goes.reads us)

    then : Sample (behind (k.front ++ k.goes.more) Q)
    then = law_sample _ (f k.goes.value) (next k.goes.value (k.front ++ k.goes.more) whole)

bind_beyond : {A B : Type 0} (P : Reads A) (Q : Reads B) (ts : List Symbol) (q : Outcome A) (f : A → Reader B) (n : ℕ) → Tells P ts q → left_of q < n → ((x : A) (text : List Symbol) → Whole P text x → Law (behind text Q) (f x)) → left_of (r.and_then q f) < n
bind_beyond P Q ts (Ok p) f n k lt next = let m = tells_left _ p.1 (f p.0 p.1) ((next p.0 k.text k.reads).tells p.1) in omega arith
bind_beyond P Q ts (Err rest) f n k lt next = lt

bind_alike : {A B : Type 0} (P : Reads A) (Q : Reads B) (f : A → Reader B) (next : (x : A) (text : List Symbol) → Whole P text x → Law (behind text Q) (f x)) (c : Symbol) (w w' ts : List Symbol) {q q' : Outcome A} → Tells P ts q → Alike (c ∷ w) (c ∷ w') q q' → Alike (c ∷ w) (c ∷ w') (r.and_then q f) (r.and_then q' f)
bind_alike P Q f next c w w' ts k (both_read x front) = (next x k.text k.reads).alike c w w' front
bind_alike P Q f next c w w' ts k (both_refused front) = both_refused front
bind_alike P Q f next c w w' ts k (beyond {q} {q'} lt) = beyond (bind_beyond P Q ts q f (length (c ∷ w)) k lt next)

pub law_bind : {A B : Type 0} {P : Reads A} {Q : Reads B} (p : Reader A) (f : A → Reader B) → Law P p → ((x : A) (text : List Symbol) → Whole P text x → Law (behind text Q) (f x)) → Law Q (p >>= f)
law_bind {A} {B} {P} {Q} p f law next = record {
  tells = λ ts. bind_tells P Q ts (p ts) f (law.tells ts) next;
  alike = λ c w w' front. bind_alike P Q f next c w w' (front ++ c ∷ w) (law.tells (front ++ c ∷ w)) (law.alike c w w' front);
}

-- where a reader before it always refuses
pub law_refused : {A B : Type 0} (Q : Reads B) (f : A → Reader B) → Sample Q → Law Q (r.refuse >>= f)
law_refused Q f goes = record { tells = λ ts. record { front = []; parts = refl; goes = goes }; alike = λ c w w' front. both_refused front }

-- ---- by the next token

abbrev pub LawMove : {A : Type 0} → Reads A → Move A → Type 0
LawMove Q (take p) = Law Q p
LawMove Q stop = Unit {0}
LawMove Q pass = Unit {0}

move_tells : {A : Type 0} (Q : Reads A) (m : Move A) (other : Reader A) (c : Symbol) (ts : List Symbol) → LawMove (behind (c ∷ []) Q) m → Law Q other → Tells Q (c ∷ ts) (r.moved m other (c ∷ ts))
move_tells Q (take p) other c ts law law' = tells_shift Q (c ∷ []) (c ∷ ts) ts (p ts) refl (law.tells ts)
move_tells Q stop other c ts law law' = record { front = []; parts = refl; goes = law_sample Q other law' }
move_tells Q pass other c ts law law' = law'.tells (c ∷ ts)

move_alike : {A : Type 0} (Q : Reads A) (m : Move A) (other : Reader A) (d : Symbol) → LawMove (behind (d ∷ []) Q) m → Law Q other → (c : Symbol) (w w' front : List Symbol) → Alike (c ∷ w) (c ∷ w') (r.moved m other (d ∷ front ++ c ∷ w)) (r.moved m other (d ∷ front ++ c ∷ w'))
move_alike Q (take p) other d law law' c w w' front = law.alike c w w' front
move_alike Q stop other d law law' c w w' front = both_refused (d ∷ front)
move_alike Q pass other d law law' c w w' front = law'.alike c w w' (d ∷ front)

move_here : {A : Type 0} (Q : Reads A) (m : Move A) (other : Reader A) (c : Symbol) → LawMove (behind (c ∷ []) Q) m → Law Q other → (w w' : List Symbol) → Alike (c ∷ w) (c ∷ w') (r.moved m other (c ∷ w)) (r.moved m other (c ∷ w'))
move_here Q (take p) other c law law' w w' = beyond (let m = tells_left _ w (p w) (law.tells w) in omega arith)
move_here Q stop other c law law' w w' = both_refused []
move_here Q pass other c law law' w w' = law'.alike c w w' []

pub law_choose : {A : Type 0} {Q : Reads A} (f : Symbol → Move A) (other : Reader A) → ((c : Symbol) → LawMove (behind (c ∷ []) Q) (f c)) → Law Q other → Law Q (r.choose f other)
law_choose {A} {Q} f other laws law = record { tells = tells; alike = alike }
  where
    tells : (ts : List Symbol) → Tells Q ts (r.choose f other ts)
    tells [] = law.tells []
    tells (c ∷ ts) = move_tells Q (f c) other c ts (laws c) law

    alike : (c : Symbol) (w w' front : List Symbol) → Alike (c ∷ w) (c ∷ w') (r.choose f other (front ++ c ∷ w)) (r.choose f other (front ++ c ∷ w'))
    alike c w w' [] = move_here Q (f c) other c (laws c) law w w'
    alike c w w' (d ∷ front) = move_alike Q (f d) other d (laws d) law c w w' front

pub law_among : {A : Type 0} {Q : Reads A} (f : Symbol → Move A) → Sample Q → ((c : Symbol) → LawMove (behind (c ∷ []) Q) (f c)) → Law Q (r.among f)
law_among {A} {Q} f goes laws = law_choose f r.refuse laws (law_refuse Q goes)

pub law_deeper : {A : Type 0} {Q : Reads A} (n : ℕ) (p : Reader A) → (1 ≤ n → Law Q p) → LawMove Q (r.deeper n p)
law_deeper zero p law = tt
law_deeper (suc n) p law = law (omega arith)

pub law_move_if : {A : Type 0} {Q : Reads A} (b : Bool) (p : Reader A) → (b ≡ true → Law Q p) → LawMove Q (cond b (take p) stop)
law_move_if true p law = law refl
law_move_if false p law = tt

pub law_only : {A : Type 0} {Q : Reads A} (n : ℕ) (p : Reader A) → Sample Q → (1 ≤ n → Law Q p) → Law Q (r.only n p)
law_only {A} {Q} zero p goes law = law_refuse Q goes
law_only (suc n) p goes law = law (omega arith)

pub law_if : {A : Type 0} {Q : Reads A} (b : Bool) (p q : Reader A) → (b ≡ true → Law Q p) → (b ≡ false → Law Q q) → Law Q (cond b p q)
law_if true p q one two = one refl
law_if false p q one two = two refl

-- by a test of the next token, which stays
pub law_look : {A : Type 0} {Q : Reads A} (test : Symbol → Bool) (p q : Reader A) → Law Q p → Law Q q → Law Q (λ ts. cond (r.sees test ts) (p ts) (q ts))
law_look {A} {Q} test p q one two = record { tells = λ ts. told ts (r.sees test ts); alike = alike }
  where
    told : (ts : List Symbol) (b : Bool) → Tells Q ts (cond b (p ts) (q ts))
    told ts true = one.tells ts
    told ts false = two.tells ts

    same : (b : Bool) (c : Symbol) (w w' front : List Symbol) → Alike (c ∷ w) (c ∷ w') (cond b (p (front ++ c ∷ w)) (q (front ++ c ∷ w))) (cond b (p (front ++ c ∷ w')) (q (front ++ c ∷ w')))
    same true c w w' front = one.alike c w w' front
    same false c w w' front = two.alike c w w' front

    alike : (c : Symbol) (w w' front : List Symbol) → Alike (c ∷ w) (c ∷ w') (cond (r.sees test (front ++ c ∷ w)) (p (front ++ c ∷ w)) (q (front ++ c ∷ w))) (cond (r.sees test (front ++ c ∷ w')) (p (front ++ c ∷ w')) (q (front ++ c ∷ w')))
    alike c w w' [] = same (test c) c w w' []
    alike c w w' (d ∷ front) = same (test d) c w w' (d ∷ front)

-- ---- single tokens

pub is_sign-true : (x : Sign) (c : Symbol) → r.is_sign x c ≡ true → c ≡ t.sign x
is_sign-true x (t.sign y) e = ap t.sign (same_true sign_type.the_type (search rules) y x e)
is_sign-true x (t.word y) e = absurd cc
is_sign-true x (t.reserved y) e = absurd cc
is_sign-true x (t.special y) e = absurd cc
is_sign-true x (t.number y) e = absurd cc
is_sign-true x (t.sized y f k) e = absurd cc
is_sign-true x (t.quoted y) e = absurd cc
is_sign-true x t.described e = absurd cc

pub is_reserved-true : (x : Reserved) (c : Symbol) → r.is_reserved x c ≡ true → c ≡ t.reserved x
is_reserved-true x (t.reserved y) e = ap t.reserved (same_true reserved_type.the_type (search rules) y x e)
is_reserved-true x (t.sign y) e = absurd cc
is_reserved-true x (t.word y) e = absurd cc
is_reserved-true x (t.special y) e = absurd cc
is_reserved-true x (t.number y) e = absurd cc
is_reserved-true x (t.sized y f k) e = absurd cc
is_reserved-true x (t.quoted y) e = absurd cc
is_reserved-true x t.described e = absurd cc

pub same_text-true : (x y : List ℕ) → r.same_text y x ≡ true → y ≡ x
same_text-true x y e = lexicographic.same_text y x (sym e)

pub is_word-true : (x : List ℕ) (c : Symbol) → r.is_word x c ≡ true → c ≡ t.word x
is_word-true x (t.word y) e = ap t.word (same_text-true x y e)
is_word-true x (t.sign y) e = absurd cc
is_word-true x (t.reserved y) e = absurd cc
is_word-true x (t.special y) e = absurd cc
is_word-true x (t.number y) e = absurd cc
is_word-true x (t.sized y f k) e = absurd cc
is_word-true x (t.quoted y) e = absurd cc
is_word-true x t.described e = absurd cc

-- a reader that takes a token where a test accepts it, as a choice
abbrev tested : {A : Type 0} → (Symbol → Bool) → Reader A → Symbol → Move A
tested test p c = cond (test c) (take p) pass

tested_is : {A : Type 0} (test : Symbol → Bool) (p q : Reader A) (ts : List Symbol) → r.choose (tested test p) q ts ≡ cond (r.sees test ts) (p (r.after ts)) (q ts)
tested_is test p q [] = refl
tested_is {A} test p q (c ∷ ts) = go (test c)
  where
    go : (b : Bool) → r.moved (cond b (take p) pass) q (c ∷ ts) ≡ cond b (p ts) (q (c ∷ ts))
    go true = refl
    go false = refl

pub law_same : {A : Type 0} {Q : Reads A} (p q : Reader A) → ((ts : List Symbol) → p ts ≡ q ts) → Law Q p → Law Q q
law_same {A} {Q} p q same law = record {
  tells = λ ts. subst (λ (o : Outcome A). Tells Q ts o) (same ts) (law.tells ts);
  alike = λ c w w' front. subst (λ (o : Outcome A). Alike (c ∷ w) (c ∷ w') (q (front ++ c ∷ w)) o) (same (front ++ c ∷ w')) (subst (λ (o : Outcome A). Alike (c ∷ w) (c ∷ w') o (p (front ++ c ∷ w'))) (same (front ++ c ∷ w)) (law.alike c w w' front));
}

pub law_test : {A : Type 0} {Q : Reads A} (test : Symbol → Bool) (p q : Reader A) → ((c : Symbol) → test c ≡ true → Law (behind (c ∷ []) Q) p) → Law Q q → Law Q (λ ts. cond (r.sees test ts) (p (r.after ts)) (q ts))
law_test {A} {Q} test p q one two = law_same (r.choose (tested test p) q) _ (tested_is test p q) (law_choose (tested test p) q (λ c. go c (test c) (one c)) two)
  where
    go : (c : Symbol) (b : Bool) → (b ≡ true → Law (behind (c ∷ []) Q) p) → LawMove (behind (c ∷ []) Q) (cond b (take p) pass)
    go c true law = law refl
    go c false law = tt

pub law_if_next : {A : Type 0} {Q : Reads A} (x : Sign) (p q : Reader A) → Law (behind (t.sign x ∷ []) Q) p → Law Q q → Law Q (r.if_next x p q)
law_if_next {A} {Q} x p q one two = law_test (r.is_sign x) p q (λ c e. subst (λ (d : Symbol). Law (behind (d ∷ []) Q) p) (sym (is_sign-true x c e)) one) two

pub law_if_reserved : {A : Type 0} {Q : Reads A} (x : Reserved) (p q : Reader A) → Law (behind (t.reserved x ∷ []) Q) p → Law Q q → Law Q (r.if_reserved x p q)
law_if_reserved {A} {Q} x p q one two = law_test (r.is_reserved x) p q (λ c e. subst (λ (d : Symbol). Law (behind (d ∷ []) Q) p) (sym (is_reserved-true x c e)) one) two

want_is : {A : Type 0} (test : Symbol → Bool) (f : Unit {0} → Reader A) (ts : List Symbol) → cond (r.sees test ts) (f tt (r.after ts)) (Err ts) ≡ r.and_then (r.want test ts) f
unfolding r.want
want_is {A} test f ts = go (r.sees test ts)
  where
    go : (b : Bool) → cond b (f tt (r.after ts)) (Err ts) ≡ r.and_then (cond b (Ok (tt {0}, r.after ts)) (Err ts)) f
    go true = refl
    go false = refl

law_want : {A : Type 0} {Q : Reads A} (test : Symbol → Bool) (d : Symbol) → ((c : Symbol) → test c ≡ true → c ≡ d) → (f : Unit {0} → Reader A) → Law (behind (d ∷ []) Q) (f tt) → Law Q (r.want test >>= f)
law_want {A} {Q} test d only f law = law_same (λ ts. cond (r.sees test ts) (f tt (r.after ts)) (Err ts)) _ (want_is test f)
    (law_test test (f tt) r.refuse (λ c e. subst (λ (x : Symbol). Law (behind (x ∷ []) Q) (f tt)) (sym (only c e)) law) (law_refuse Q goes))
  where
    goes : Sample Q
    goes = let k = law_sample _ (f tt) law in record { more = d ∷ k.more; value = k.value; reads = k.reads }

pub law_expect : {A : Type 0} {Q : Reads A} (x : Sign) (f : Unit {0} → Reader A) → Law (behind (t.sign x ∷ []) Q) (f tt) → Law Q (r.expect x >>= f)
law_expect x f law = law_want (r.is_sign x) (t.sign x) (is_sign-true x) f law

pub law_reserved : {A : Type 0} {Q : Reads A} (x : Reserved) (f : Unit {0} → Reader A) → Law (behind (t.reserved x ∷ []) Q) (f tt) → Law Q (r.want (r.is_reserved x) >>= f)
law_reserved x f law = law_want (r.is_reserved x) (t.reserved x) (is_reserved-true x) f law

pub law_word : {A : Type 0} {Q : Reads A} (x : List ℕ) (f : Unit {0} → Reader A) → Law (behind (t.word x ∷ []) Q) (f tt) → Law Q (r.want (r.is_word x) >>= f)
law_word x f law = law_want (r.is_word x) (t.word x) (is_word-true x) f law

-- ---- readers whose value tells the tokens

abbrev pub Fixed : {A : Type 0} → (A → List Symbol) → (A → Type 0) → Reads A
Fixed text good = λ ts us x. (ts ≡ text x ++ us) × good x

fixed_text : {A : Type 0} (fixed : A → List Symbol) (good : A → Type 0) (text : List Symbol) (x : A) → Whole (Fixed fixed good) text x → text ≡ fixed x
fixed_text fixed good text x k = sym (append-nil text) ∙ (k []).0 ∙ append-nil (fixed x)

pub law_fixed : {A B : Type 0} {Q : Reads B} (fixed : A → List Symbol) (good : A → Type 0) (p : Reader A) (f : A → Reader B) → Law (Fixed fixed good) p → ((x : A) → good x → Law (behind (fixed x) Q) (f x)) → Law Q (p >>= f)
law_fixed {A} {B} {Q} fixed good p f law next = law_bind p f law (λ x text k. subst (λ (v : List Symbol). Law (behind v Q) (f x)) (sym (fixed_text fixed good text x k)) (next x (k []).1))

abbrev pub word_alone : List ℕ → List Symbol
word_alone x = t.word x ∷ []

abbrev pub Anything : {A : Type 0} → A → Type 0
Anything x = Unit {0}

pub name_law : Law (Fixed word_alone Anything) r.name
unfolding r.name
name_law = law_among r.name_by (record { more = t.word [] ∷ []; value = []; reads = λ us. (refl, tt) }) go
  where
    go : (c : Symbol) → LawMove (behind (c ∷ []) (Fixed word_alone Anything)) (r.name_by c)
    go (t.word x) = law_pure _ x (λ us. (refl, tt))
    go c = tt

pub law_name : {A : Type 0} {Q : Reads A} (f : List ℕ → Reader A) → ((x : List ℕ) → Law (behind (t.word x ∷ []) Q) (f x)) → Law Q (r.name >>= f)
law_name {A} {Q} f law = law_fixed word_alone Anything r.name f name_law (λ x _. law x)
