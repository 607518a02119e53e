-- An answer is the next of a session's requests.
use Rattle.std.proofs.Common.{◌≡◌, ℕ, zero, suc, ◌+◌, List, [], ◌∷◌, ◌++◌, drop, take, Option, Some, None, true, false, refl, sym, ap, ◌∙◌, inl, inr, subst}
use Rattle.std.specs.Prelude.{◌⊎◌, ⊤, Result, Ok, Err}
use Rattle.httparse.proofs.GrammarLemmas.{request_unique}
use Rattle.udb_http.specs.declared.requests.Request.{Request}
use Rattle.udb_http.specs.declared.requests.ReadFault.{ReadFault}
use Rattle.udb_http.specs.declared.requests.ReadFault.TheVariants.{Memory, Link, Cut, BadHead, NoLength, TooLong, HeadTooLong}
use Rattle.udb_http.specs.Sessions.{IsHead, SpellsRequest, Spells, SpellsFault, IsOfBytes, IsRefusal, Answers, Spelled, IsNext, GivesNext, size_of}
use Rattle.udb_http.proofs.UniqueLemmas.{one_answer}

own : (fault : ReadFault) → IsRefusal fault → IsOfBytes fault
own Memory h = absurd h
own Link h = absurd h
own Cut h = absurd h
own BadHead h = tt
own NoLength h = tt
own TooLong h = tt
own HeadTooLong h = tt

-- a request takes one number of bytes
one_size : (bytes : List ℕ) (r : Request) (n m : ℕ) → SpellsRequest bytes r n → SpellsRequest bytes r m → n ≡ m
one_size bytes r n m s t =
    let e = sym s.frames.ends ∙ t.frames.ends in
    let heads : s.head_size ≡ t.head_size = cc in
    let h = (request_unique (take t.head_size bytes) s.head t.head [] [] (subst (λ k. IsHead (take k bytes) s.head) heads s.frames.head) t.frames.head).0 in
    let f = sym s.frames.size_is ∙ ap size_of h ∙ t.frames.size_is in
    let sizes : s.size ≡ t.size = cc in
    s.whole ∙ ap (λ k. k + s.size) heads ∙ ap (λ k. t.head_size + k) sizes ∙ sym t.whole

abbrev Requests : Type 0
Requests = List (Result Request ReadFault)

none_next : (bytes : List ℕ) → bytes ≡ [] → (n : ℕ) (requests : Requests) → Spelled (suc n) bytes requests → requests ≡ []
none_next bytes e n [] s = refl
none_next bytes e n (Err fault ∷ rest) s = absurd (let g = one_answer bytes (Ok None) (Err fault) e (own fault s.0, s.1) in cc)
none_next bytes e n (Ok request ∷ rest) s = absurd (let g = one_answer bytes (Ok None) (Ok (Some request)) e (s.0, s.1) in cc)

cut_next : (bytes : List ℕ) → SpellsFault bytes Cut → (n : ℕ) (requests : Requests) → Spelled (suc n) bytes requests → requests ≡ []
cut_next bytes e n [] s = refl
cut_next bytes e n (Err fault ∷ rest) s =
    let g = one_answer bytes (Err Cut) (Err fault) (tt, e) (own fault s.0, s.1) in
    let same : Cut ≡ fault = cc in absurd (subst IsRefusal (sym same) s.0)
cut_next bytes e n (Ok request ∷ rest) s = absurd (let g = one_answer bytes (Err Cut) (Ok (Some request)) (tt, e) (s.0, s.1) in cc)

refused_next : (bytes : List ℕ) (f : ReadFault) → IsRefusal f → SpellsFault bytes f → (n : ℕ) (requests : Requests) → Spelled (suc n) bytes requests → requests ≡ Err f ∷ []
refused_next bytes f h e n [] (inl s) = absurd (let g = one_answer bytes (Ok None) (Err f) s (own f h, e) in cc)
refused_next bytes f h e n [] (inr s) =
    let g = one_answer bytes (Err Cut) (Err f) (tt, s) (own f h, e) in
    let same : Cut ≡ f = cc in absurd (subst IsRefusal (sym same) h)
refused_next bytes f h e n (Err fault ∷ rest) s =
    let g = one_answer bytes (Err f) (Err fault) (own f h, e) (own fault s.0, s.1) in
    let same : f ≡ fault = cc in
    let head : Requests → Requests = λ l. Err f ∷ l in
    ap (λ k. Err k ∷ rest) (sym same) ∙ ap head s.2
refused_next bytes f h e n (Ok request ∷ rest) s =
    absurd (let g = one_answer bytes (Err f) (Ok (Some request)) (own f h, e) (s.0, s.1) in cc)

asked_next : (bytes : List ℕ) (r : Request) (size : ℕ) (after : Option (List ℕ)) → SpellsRequest bytes r size → after ≡ Some (drop size bytes)
    → (n : ℕ) (requests : Requests) → Spelled (suc n) bytes requests → IsNext n (Ok (Some r)) after requests
asked_next bytes r size after a left n [] (inl s) = absurd (let g = one_answer bytes (Ok None) (Ok (Some r)) s (size, a) in cc)
asked_next bytes r size after a left n [] (inr s) = absurd (let g = one_answer bytes (Err Cut) (Ok (Some r)) (tt, s) (size, a) in cc)
asked_next bytes r size after a left n (Err fault ∷ rest) s =
    absurd (let g = one_answer bytes (Ok (Some r)) (Err fault) (size, a) (own fault s.0, s.1) in cc)
asked_next bytes r size after a left n (Ok q ∷ rest) s =
    let g = one_answer bytes (Ok (Some r)) (Ok (Some q)) (size, a) (s.0, s.1) in
    let same : q ≡ r = cc in
    let sizes = one_size bytes q s.0 size s.1 (subst (λ x. SpellsRequest bytes x size) (sym same) a) in (
      rest,
      ap (λ x. Ok x ∷ rest) same,
      λ close. s.2 (ap (λ x. x.close) same ∙ close),
      λ open' more told.
          let gone : drop s.0 bytes ≡ more = ap (λ k. drop k bytes) sizes ∙ (let e = sym left ∙ told in cc) in
          subst (λ b. Spelled n b rest) gone (s.3 (ap (λ x. x.close) same ∙ open')),
    )

pub gives_next : GivesNext
gives_next bytes (Ok None) after a n requests s = none_next bytes a.0 n requests s
gives_next bytes (Ok (Some r)) after a n requests s = asked_next bytes r a.0 after a.1 a.2 n requests s
gives_next bytes (Err Memory) after a n requests s = tt
gives_next bytes (Err Link) after a n requests s = tt
gives_next bytes (Err Cut) after a n requests s = cut_next bytes a.0 n requests s
gives_next bytes (Err BadHead) after a n requests s = refused_next bytes BadHead tt a.0 n requests s
gives_next bytes (Err NoLength) after a n requests s = refused_next bytes NoLength tt a.0 n requests s
gives_next bytes (Err TooLong) after a n requests s = refused_next bytes TooLong tt a.0 n requests s
gives_next bytes (Err HeadTooLong) after a n requests s = refused_next bytes HeadTooLong tt a.0 n requests s
