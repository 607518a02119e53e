-- Bytes spell at most one answer.
use Rattle.std.proofs.Common.{◌≡◌, ℕ, ◌+◌, ◌<◌, ◌≤◌, List, [], length, drop, take, Option, Some, None, true, false, cond, refl, sym, ap, ◌∙◌, arith, inl, inr, subst, nat_eq}
use Rattle.std.specs.Prelude.{◌⊎◌, Result, Ok, Err, nat_lt, nat_le}
use Rattle.std.proofs.lemmas.Bool.Decides.{nat_tests}
use Rattle.httparse.specs.Grammar.{RequestHead}
use Rattle.httparse.proofs.GrammarLemmas.{request_unique}
use Rattle.udb_http.specs.declared.requests.Request.{Request}
use Rattle.udb_http.specs.declared.requests.ReadFault.{ReadFault}
use Rattle.udb_http.specs.declared.requests.ReadFault.TheVariants.{Memory, Link, Cut, BadHead, NoLength, TooLong, HeadTooLong}
use Rattle.udb_http.specs.Heads.{head_length, head_limit}
use Rattle.udb_http.specs.Sessions.{IsHead, HasEnd, HasNoEnd, EndsInside, SpellsRefused, SpellsRequest, Spells, OneAnswer, request_of, size_of}
use Rattle.udb_http.proofs.ScanLemmas.{limit_is, take-nil}

abbrev Answer : Type 0
Answer = Result (Option Request) ReadFault

-- the answer to so many bytes without the end of a head
abbrev endless : ℕ → Answer
endless size = cond {A = Answer} (nat_eq size 0) (Ok None) (cond {A = Answer} (nat_lt size head_limit) (Err Cut) (Err HeadTooLong))

-- the answer to bytes that begin with a head of n bytes
abbrev framed : List ℕ → ℕ → RequestHead → Result ℕ ReadFault → Answer
framed bytes n h (Err fault) = Err fault
framed bytes n h (Ok size) =
    cond {A = Answer} (nat_le (n + size) (length bytes)) (Ok (Some (request_of h (take size (drop n bytes))))) (Err Cut)

abbrev OfHead : List ℕ → ℕ → Answer → Type 0
OfHead bytes n x =
    (((h : RequestHead) → ¬ (IsHead (take n bytes) h)) × (x ≡ Err BadHead))
    ⊎ ((h : RequestHead) × IsHead (take n bytes) h × (x ≡ framed bytes n h (size_of h)))

abbrev View : List ℕ → Answer → Type 0
View bytes x = (HasNoEnd bytes × (x ≡ endless (length bytes))) ⊎ ((n : ℕ) × HasEnd bytes n × OfHead bytes n x)

nothing : HasNoEnd []
nothing = ap head_length (take-nil head_limit)

is_cut : (size : ℕ) → 1 ≤ size → size < head_limit → Err Cut ≡ endless size
is_cut size some short =
    let a : nat_eq size 0 ≡ false = grind (arith, nat_tests, some) in
    let b : nat_lt size head_limit ≡ true = grind (arith, nat_tests, short) in rw (a, b) refl

is_long : (size : ℕ) → head_limit ≤ size → Err HeadTooLong ≡ endless size
is_long size long =
    let a : nat_eq size 0 ≡ false = grind (arith, nat_tests, long, limit_is) in
    let b : nat_lt size head_limit ≡ false = grind (arith, nat_tests, long) in rw (a, b) refl

whole_is : (bytes : List ℕ) (n size : ℕ) (h : RequestHead) → size_of h ≡ Ok size → n + size ≤ length bytes
    → Ok (Some (request_of h (take size (drop n bytes)))) ≡ framed bytes n h (size_of h)
whole_is bytes n size h e fits =
    let a : nat_le (n + size) (length bytes) ≡ true = grind (arith, nat_tests, fits) in
    sym (ap (framed bytes n h) e
    ∙ ap (λ v. cond {A = Answer} v (Ok (Some (request_of h (take size (drop n bytes))))) (Err Cut)) a)

short_is : (bytes : List ℕ) (n size : ℕ) (h : RequestHead) → size_of h ≡ Ok size → length bytes < n + size
    → Err Cut ≡ framed bytes n h (size_of h)
short_is bytes n size h e short =
    let a : nat_le (n + size) (length bytes) ≡ false = grind (arith, nat_tests, short) in
    sym (ap (framed bytes n h) e
    ∙ ap (λ v. cond {A = Answer} v (Ok (Some (request_of h (take size (drop n bytes))))) (Err Cut)) a)

of_refused : (bytes : List ℕ) (fault : ReadFault) → SpellsRefused bytes fault → View bytes (Err fault)
of_refused bytes fault (n, end, inl x) = inr (n, end, inl (x.0, ap Err x.1))
of_refused bytes fault (n, end, inr x) = inr (n, end, inr (x.0, x.1, sym (ap (framed bytes n x.0) x.2)))

of_cut : (bytes : List ℕ) → EndsInside bytes → View bytes (Err Cut)
of_cut bytes (inl x) = inl (x.2, is_cut (length bytes) x.0 x.1)
of_cut bytes (inr x) =
    let f = x.3 in inr (x.0, f.ends, inr (x.2, f.head, short_is bytes x.0 x.1 x.2 f.size_is x.4))

of_request : (bytes : List ℕ) (r : Request) (n : ℕ) → SpellsRequest bytes r n → View bytes (Ok (Some r))
of_request bytes r n s =
    let f = s.frames in
    let fits : s.head_size + s.size ≤ length bytes = omega (arith, s.whole, s.within) in
    inr (s.head_size, f.ends, inr (s.head, f.head, ap (λ q. Ok (Some q)) s.is ∙ whole_is bytes s.head_size s.size s.head f.size_is fits))

view : (bytes : List ℕ) (x : Answer) → Spells bytes x → View bytes x
view bytes (Ok None) e = subst (λ b. View b (Ok None)) (sym e) (inl (nothing, refl))
view bytes (Ok (Some r)) s = of_request bytes r s.0 s.1
view bytes (Err Memory) s = absurd s.0
view bytes (Err Link) s = absurd s.0
view bytes (Err Cut) s = of_cut bytes s.1
view bytes (Err BadHead) s = of_refused bytes BadHead s.1
view bytes (Err NoLength) s = of_refused bytes NoLength s.1
view bytes (Err TooLong) s = of_refused bytes TooLong s.1
view bytes (Err HeadTooLong) s = inl (s.1.1, is_long (length bytes) s.1.0)

same_head : (bytes : List ℕ) (n : ℕ) (x y : Answer) → OfHead bytes n x → OfHead bytes n y → x ≡ y
same_head bytes n x y (inl a) (inl b) = a.1 ∙ sym b.1
same_head bytes n x y (inl a) (inr b) = absurd (a.0 b.0 b.1)
same_head bytes n x y (inr a) (inl b) = absurd (b.0 a.0 a.1)
same_head bytes n x y (inr a) (inr b) =
    let same = (request_unique (take n bytes) a.0 b.0 [] [] a.1 b.1).0 in
    a.2 ∙ ap (λ h. framed bytes n h (size_of h)) same ∙ sym b.2

same_view : (bytes : List ℕ) (x y : Answer) → View bytes x → View bytes y → x ≡ y
same_view bytes x y (inl a) (inl b) = a.1 ∙ sym b.1
same_view bytes x y (inl a) (inr b) = absurd (let e = sym a.0 ∙ b.1 in cc)
same_view bytes x y (inr a) (inl b) = absurd (let e = sym b.0 ∙ a.1 in cc)
same_view bytes x y (inr a) (inr b) =
    let e = sym a.1 ∙ b.1 in
    let same : a.0 ≡ b.0 = cc in
    same_head bytes b.0 x y (subst (λ n. OfHead bytes n x) same a.2) b.2

pub one_answer : OneAnswer
one_answer bytes x y s t = same_view bytes x y (view bytes x s) (view bytes y t)
