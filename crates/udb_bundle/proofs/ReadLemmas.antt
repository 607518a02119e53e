-- What is read is made of parts.
use Rattle.std.proofs.Common.{◌≡◌, ℕ, ◌+◌, ◌-◌, ◌≤◌, ◌==◌, Bool, true, false, nat_le, List, [], ◌∷◌, ◌++◌, length, map, Option, Some, None, option_map, codes, refl, sym, ap, ◌∙◌, subst, append_assoc, append-nil, length-append, arith}
use Rattle.std.specs.List.{list_all}
use Rattle.std.specs.Str.Parse.{digits_value}
use Rattle.std.proofs.lemmas.Bool.{and_from, eqb-true, eqb-false, leb-true, false≢true}
use Rattle.std.proofs.lemmas.Option.{same_Some, none-some}
use Rattle.udb_base.specs.declared.kinds.Kind.{Kind}
use Rattle.udb_base.specs.Kinds.{kind_word}
use Rattle.udb_base.specs.Lines.{text_of_lines}
use Rattle.udb_bundle.specs.declared.bundle.Bundle.{Bundle}
use Rattle.udb_bundle.specs.declared.reading.Open.{Open}
use Rattle.udb_bundle.specs.declared.reading.Open.TheVariants as open_part
use Rattle.udb_bundle.specs.declared.reading.Reading.{Reading}
use Rattle.udb_bundle.specs.Bundles.{Line, Part, entry, shipped, image, proof, body, title, is_word, IsHeading, IsPart, has_title, Follow, none, more, with_parts}
use Rattle.udb_bundle.specs.Reading.{heading_words, word_of, with_text, with_word, headed, is_full, closed, run, is_between}
use Rattle.udb_bundle.proofs.HeadingLemmas as heads
use Rattle.udb_bundle.proofs.HeadingLemmas.{at, heading_text, Heads, read_heads, taken}
use Rattle.udb_bundle.proofs.BodyLemmas.{then_run, row_read, image_read, proof_read, length-text, text_more}
use Rattle.udb_bundle.proofs.PartLemmas.{Stands, stands_after, after, after_bundle}

-- the lines are parts behind the reading s, and t stands behind them
abbrev Ends : Reading → List Line → Reading → Type 0
Ends s ls t = (earlier : List Part) → Stands earlier s → (parts : List Part) × Follow earlier ls parts × (t.bundle ≡ with_parts s.bundle parts)

-- the lines begin with those that the open part wants
abbrev Rests : Open → Reading → List Line → Reading → Type 0
Rests open_part.Nothing s ls t = Ends s ls t
Rests (open_part.Entry k name text left) s ls t =
    (lines : List Line) × (rest : List Line) × (ls ≡ lines ++ rest) × (length lines ≡ left) × (length text + length (text_of_lines lines) ≤ 65536) × Ends (row_read s k name (text ++ text_of_lines lines)) rest t
Rests (open_part.Image words left) s ls t =
    (lines : List Line) × (rest : List Line) × (ls ≡ lines ++ rest) × (length lines ≡ left) × (list_all is_word lines ≡ true) × Ends (image_read s (words ++ map (digits_value 16) lines)) rest t
Rests (open_part.Proof proofs n) s ls t =
    (lines : List Line) × (rest : List Line) × (ls ≡ lines ++ rest) × (n ≡ length proofs + length lines) × Ends (proof_read s (proofs ++ lines)) rest t

-- what an open part keeps: a text within the limit, fewer lines of a proof than it counts
abbrev pub Fits : Open → Type 0
Fits open_part.Nothing = Unit {0}
Fits (open_part.Entry k name text left) = length text + left ≤ 65536
Fits (open_part.Image words left) = Unit {0}
Fits (open_part.Proof lines n) = length lines ≤ n

abbrev EndsAll : List Line → Type 0
EndsAll ls = (s t : Reading) → run (at open_part.Nothing s) ls ≡ Some t → is_between t ≡ true → Ends s ls t

abbrev RestsAll : List Line → Type 0
RestsAll ls = (o : Open) (s t : Reading) → Fits o → run (closed (at o s)) ls ≡ Some t → is_between t ≡ true → Rests o s ls t

-- ---- a whole part is closed

row_closed : (ls : List Line) (k : Kind) (name text : List ℕ) (left : ℕ) (s t : Reading) → EndsAll ls → length text + left ≤ 65536 → (left == 0) ≡ true → run (closed (at (open_part.Entry k name text left) s)) ls ≡ Some t → is_between t ≡ true → Rests (open_part.Entry k name text left) s ls t
row_closed ls k name text left s t all f full h b =
    let e : left ≡ 0 = eqb-true left 0 full in
    let g : run (row_read s k name text) ls ≡ Some t = rw full at h in
    ([], ls, refl, sym e, omega (arith, f), subst (λ (x : List ℕ). Ends (row_read s k name x) ls t) (sym (append-nil text)) (all (row_read s k name text) t g b))

image_closed : (ls : List Line) (words : List ℕ) (left : ℕ) (s t : Reading) → EndsAll ls → (left == 0) ≡ true → run (closed (at (open_part.Image words left) s)) ls ≡ Some t → is_between t ≡ true → Rests (open_part.Image words left) s ls t
image_closed ls words left s t all full h b =
    let e : left ≡ 0 = eqb-true left 0 full in
    let g : run (image_read s words) ls ≡ Some t = rw full at h in
    ([], ls, refl, sym e, refl, subst (λ (x : List ℕ). Ends (image_read s x) ls t) (sym (append-nil words)) (all (image_read s words) t g b))

proof_closed : (ls : List Line) (proofs : List Line) (n : ℕ) (s t : Reading) → EndsAll ls → (n == length proofs) ≡ true → run (closed (at (open_part.Proof proofs n) s)) ls ≡ Some t → is_between t ≡ true → Rests (open_part.Proof proofs n) s ls t
proof_closed ls proofs n s t all full h b =
    let e : n ≡ length proofs = eqb-true n (length proofs) full in
    let g : run (proof_read s proofs) ls ≡ Some t = rw full at h in
    ([], ls, refl, omega (arith, e), subst (λ (x : List Line). Ends (proof_read s x) ls t) (sym (append-nil proofs)) (all (proof_read s proofs) t g b))

-- ---- no part is open at the end

still_open : (o : Open) (s t : Reading) → is_between (at o s) ≡ false → run (at o s) [] ≡ Some t → is_between t ≡ true → ⊥
still_open o s t f h b = false≢true (sym f ∙ (ap is_between (same_Some _ _ h) ∙ b))

rests_none_at : (o : Open) (s t : Reading) (full : Bool) → is_full o ≡ full → EndsAll [] → Fits o → run (closed (at o s)) [] ≡ Some t → is_between t ≡ true → Rests o s [] t
rests_none_at open_part.Nothing s t full e all f h b = all s t h b
rests_none_at (open_part.Entry k name text left) s t true e all f h b = row_closed [] k name text left s t all f e h b
rests_none_at (open_part.Entry k name text left) s t false e all f h b = absurd (still_open (open_part.Entry k name text left) s t refl (rw e at h) b)
rests_none_at (open_part.Image words left) s t true e all f h b = image_closed [] words left s t all e h b
rests_none_at (open_part.Image words left) s t false e all f h b = absurd (still_open (open_part.Image words left) s t refl (rw e at h) b)
rests_none_at (open_part.Proof proofs n) s t true e all f h b = proof_closed [] proofs n s t all e h b
rests_none_at (open_part.Proof proofs n) s t false e all f h b = absurd (still_open (open_part.Proof proofs n) s t refl (rw e at h) b)

ends_none : EndsAll []
ends_none s t h b earlier known = ([], none, ap (λ (r : Reading). r.bundle) (sym (same_Some _ _ h)))

rests_none : RestsAll []
rests_none o s t f h b = rests_none_at o s t (is_full o) refl ends_none f h b

-- ---- one more line

pub step_of : (o : Option Reading) (ls : List Line) (t : Reading) → then_run ls (option_map closed o) ≡ Some t → (u : Reading) × (o ≡ Some u) × (run (closed u) ls ≡ Some t)
step_of None ls t h = absurd (none-some t h)
step_of (Some u) ls t h = (u, refl, h)

pub text_fits : (text l : List ℕ) (left : ℕ) → length text + length l + left ≤ 65536 → (left ≡ 0 → ⊥) → length (text ++ l ++ 10 ∷ []) + (left - 1) ≤ 65536
text_fits text l left h n = simp length-append (omega (arith, h, n))

rests_row : (l : Line) (ls : List Line) (k : Kind) (name text : List ℕ) (left : ℕ) (s t : Reading) → RestsAll ls → (left == 0) ≡ false → run (closed (at (open_part.Entry k name text left) s)) (l ∷ ls) ≡ Some t → is_between t ≡ true → Rests (open_part.Entry k name text left) s (l ∷ ls) t
rests_row l ls k name text left s t all open' h b =
    let g : run (at (open_part.Entry k name text left) s) (l ∷ ls) ≡ Some t = rw open' at h in
    let u = step_of (with_text (at (open_part.Entry k name text left) s) k name text left l) ls t g in
    let c = taken (nat_le (length text + length l + left) 65536) (Some (at (open_part.Entry k name (text ++ l ++ 10 ∷ []) (left - 1)) s)) u.0 u.1 in
    let some = eqb-false left 0 open' in
    let r = all (open_part.Entry k name (text ++ l ++ 10 ∷ []) (left - 1)) s t (text_fits text l left (leb-true _ _ c.0) some) (subst (λ (v : Reading). run (closed v) ls ≡ Some t) (sym (same_Some _ _ c.1)) u.2) b in (
      l ∷ r.0,
      r.1,
      ap (λ xs. l ∷ xs) r.2,
      omega (arith, r.3, some),
      subst (λ (n : ℕ). n ≤ 65536) (sym (length-text text l r.0)) r.4,
      subst (λ (x : List ℕ). Ends (row_read s k name x) r.1 t) (text_more text l r.0) r.5,
    )

pub word_taken : (s : Reading) (words : List ℕ) (left : ℕ) (l : Line) (o : Option ℕ) (u : Reading) → word_of l ≡ o → with_word (at (open_part.Image words left) s) words left o ≡ Some u → (is_word l ≡ true) × (at (open_part.Image (words ++ digits_value 16 l ∷ []) (left - 1)) s ≡ u)
word_taken s words left l None u e h = absurd (none-some u h)
word_taken s words left l (Some w) u e h =
    let c = taken (is_word l) (Some (digits_value 16 l)) w e in
    (c.0, ap (λ v. at (open_part.Image (words ++ v ∷ []) (left - 1)) s) (same_Some _ _ c.1) ∙ same_Some _ _ h)

rests_image : (l : Line) (ls : List Line) (words : List ℕ) (left : ℕ) (s t : Reading) → RestsAll ls → (left == 0) ≡ false → run (closed (at (open_part.Image words left) s)) (l ∷ ls) ≡ Some t → is_between t ≡ true → Rests (open_part.Image words left) s (l ∷ ls) t
rests_image l ls words left s t all open' h b =
    let g : run (at (open_part.Image words left) s) (l ∷ ls) ≡ Some t = rw open' at h in
    let u = step_of (with_word (at (open_part.Image words left) s) words left (word_of l)) ls t g in
    let c = word_taken s words left l (word_of l) u.0 refl u.1 in
    let some = eqb-false left 0 open' in
    let r = all (open_part.Image (words ++ digits_value 16 l ∷ []) (left - 1)) s t tt (subst (λ (v : Reading). run (closed v) ls ≡ Some t) (sym c.1) u.2) b in (
      l ∷ r.0,
      r.1,
      ap (λ xs. l ∷ xs) r.2,
      omega (arith, r.3, some),
      and_from _ _ c.0 r.4,
      subst (λ (x : List ℕ). Ends (image_read s x) r.1 t) (append_assoc words (digits_value 16 l ∷ []) (map (digits_value 16) r.0)) r.5,
    )

rests_proof : (l : Line) (ls proofs : List Line) (n : ℕ) (s t : Reading) → RestsAll ls → length proofs ≤ n → (n == length proofs) ≡ false → run (closed (at (open_part.Proof proofs n) s)) (l ∷ ls) ≡ Some t → is_between t ≡ true → Rests (open_part.Proof proofs n) s (l ∷ ls) t
rests_proof l ls proofs n s t all f open' h b =
    let g : run (at (open_part.Proof proofs n) s) (l ∷ ls) ≡ Some t = rw open' at h in
    let ne = eqb-false n (length proofs) open' in
    let r = all (open_part.Proof (proofs ++ l ∷ []) n) s t (simp length-append (omega (arith, f, ne))) g b in
    let count = simp length-append at r.3 in (
      l ∷ r.0,
      r.1,
      ap (λ xs. l ∷ xs) r.2,
      omega (arith, count),
      subst (λ (x : List Line). Ends (proof_read s x) r.1 t) (append_assoc proofs (l ∷ []) r.0) r.4,
    )

rests_more_at : (l : Line) (ls : List Line) (o : Open) (s t : Reading) (full : Bool) → is_full o ≡ full → EndsAll (l ∷ ls) → RestsAll ls → Fits o → run (closed (at o s)) (l ∷ ls) ≡ Some t → is_between t ≡ true → Rests o s (l ∷ ls) t
rests_more_at l ls open_part.Nothing s t full e all next f h b = all s t h b
rests_more_at l ls (open_part.Entry k name text left) s t true e all next f h b = row_closed (l ∷ ls) k name text left s t all f e h b
rests_more_at l ls (open_part.Entry k name text left) s t false e all next f h b = rests_row l ls k name text left s t next e h b
rests_more_at l ls (open_part.Image words left) s t true e all next f h b = image_closed (l ∷ ls) words left s t all e h b
rests_more_at l ls (open_part.Image words left) s t false e all next f h b = rests_image l ls words left s t next e h b
rests_more_at l ls (open_part.Proof proofs n) s t true e all next f h b = proof_closed (l ∷ ls) proofs n s t all e h b
rests_more_at l ls (open_part.Proof proofs n) s t false e all next f h b = rests_proof l ls proofs n s t next f e h b

-- a heading and the lines behind it are a part and those behind it
with_heading : (s t : Reading) (l : Line) (ls rest : List Line) (p : Part) → IsHeading l p → IsPart p → ls ≡ body p ++ rest → ((earlier : List Part) → Stands earlier s → has_title (title p) earlier ≡ false) → Ends (after s p) rest t → Ends s (l ∷ ls) t
with_heading s t l ls rest p head part e new ends earlier known =
    let f = ends (p ∷ earlier) (stands_after earlier s p known) in (
      p ∷ f.0,
      subst (λ (xs : List Line). Follow earlier (l ∷ xs) (p ∷ f.0)) (sym e) (more p head part (new earlier known) f.1),
      f.2 ∙ ap (λ (b : Bundle). with_parts b f.0) (after_bundle s p),
    )

ends_heading : (ls : List Line) (s t : Reading) (l : Line) (u : Reading) → RestsAll ls → Heads s l u → run (closed u) ls ≡ Some t → is_between t ≡ true → Ends s (l ∷ ls) t
ends_heading ls s t l u all (heads.entry k name digits n good new c e m) h b =
    let r = all (open_part.Entry k name [] n) s t (omega (arith, m)) h b in
    with_heading s t (heading_text (kind_word k) name digits) ls r.1 (entry k name r.0)
    (record { digits = digits; number = c; counts = e ∙ sym r.3; text = refl }) (good, omega (arith, r.4)) r.2 (λ earlier known. known.rows k name ∙ new) r.5
ends_heading ls s t l u all (heads.shipped digits new c e) h b =
    let r = all open_part.Nothing (record s { bundle = record s.bundle { shipped = true }; part = open_part.Nothing }) t tt h b in
    with_heading s t (heading_text (codes "shipped") (codes "all") digits) ls ls shipped
    (record { digits = digits; number = c; counts = e; text = refl }) tt refl (λ earlier known. known.shipped ∙ new) r
ends_heading ls s t l u all (heads.image digits n new c e m) h b =
    let r = all (open_part.Image [] n) s t tt h b in
    with_heading s t (heading_text (codes "image") (codes "all") digits) ls r.1 (image r.0)
    (record { digits = digits; number = c; counts = e ∙ sym r.3; text = refl }) (r.4, omega (arith, r.3, m)) r.2 (λ earlier known. known.image ∙ new) r.5
ends_heading ls s t l u all (heads.proof digits n new c e) h b =
    let r = all (open_part.Proof [] n) s t (omega arith) h b in
    with_heading s t (heading_text (codes "proof") (codes "all") digits) ls r.1 (proof r.0)
    (record { digits = digits; number = c; counts = e ∙ omega (arith, r.3); text = refl }) tt r.2 (λ earlier known. known.proof ∙ new) r.4

ends_more : (l : Line) (ls : List Line) → RestsAll ls → EndsAll (l ∷ ls)
ends_more l ls all s t h b =
    let u = step_of (headed (at open_part.Nothing s) (heading_words l)) ls t h in
    ends_heading ls s t l u.0 all (read_heads s l u.0 u.1) u.2 b

read_all : (ls : List Line) → EndsAll ls × RestsAll ls
read_all [] = (ends_none, rests_none)
read_all (l ∷ ls) =
    let next = (read_all ls).1 in
    let here = ends_more l ls next in
    (here, λ o s t f h b. rests_more_at l ls o s t (is_full o) refl here next f h b)

-- lines behind which no part is open are parts
pub read_parts : (ls : List Line) (s t : Reading) (earlier : List Part) → run (at open_part.Nothing s) ls ≡ Some t → is_between t ≡ true → Stands earlier s → (parts : List Part) × Follow earlier ls parts × (t.bundle ≡ with_parts s.bundle parts)
read_parts ls s t earlier h b known = (read_all ls).0 s t h b earlier known
