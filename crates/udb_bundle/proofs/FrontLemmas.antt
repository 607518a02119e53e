-- Fronts of lines: with which of them a bundle goes on.
use Rattle.std.proofs.Common.{◌≡◌, ◌≢◌, ℕ, zero, suc, ◌+◌, ◌-◌, Bool, true, false, nat_le, List, [], ◌∷◌, ◌++◌, length, map, replicate, All, Some, None, codes, refl, sym, ap, ◌∙◌, subst, append-nil, length-append, arith, IsUtf8}
use Rattle.std.specs.List.{list_all}
use Rattle.std.specs.Str.Parse.{digits_value}
use Rattle.std.proofs.lemmas.Bool.{eqb-false, leb-true}
use Rattle.std.proofs.lemmas.Option.{same_Some, none-some}
use Rattle.std.proofs.lemmas.List.{length-replicate}
use Rattle.std.proofs.lemmas.List.Elements.{All-nil, All-cons, All-head, All-tail, All-append, All-replicate}
use Rattle.std.proofs.lemmas.Str.{IsUtf8-nil}
use lib.Utf8.{encode}
use Rattle.udb_base.specs.declared.kinds.Kind.{Kind}
use Rattle.udb_base.specs.Lines.{text_of_lines}
use Rattle.udb_bundle.specs.declared.bundle.Bundle.{Bundle}
use Rattle.udb_bundle.specs.declared.reading.Open.{Open}
use Rattle.udb_bundle.specs.declared.reading.Open.TheVariants as open_part
use Rattle.udb_bundle.specs.declared.reading.Reading.{Reading}
use Rattle.udb_bundle.specs.Bundles.{Line, is_word, SpellsLines}
use Rattle.udb_bundle.specs.Faults.{IsFeedless, GoesOn}
use Rattle.udb_bundle.specs.Reading.{word_of, advanced, is_full, closed, close, run, start, is_between}
use Rattle.udb_bundle.proofs.HeadingLemmas as heads
use Rattle.udb_bundle.proofs.HeadingLemmas.{at, Heads, read_heads, taken}
use Rattle.udb_bundle.proofs.BodyLemmas.{then_run, run_append, row_lines, image_lines, proof_lines, stays_open, row_read, image_read, proof_read}
use Rattle.udb_bundle.proofs.PartLemmas.{stands_start, parts_read}
use Rattle.udb_bundle.proofs.ReadLemmas.{Fits, step_of, text_fits, word_taken, read_parts}

pub All-front : {X : Type 0} (P : X → Type 0) (xs ys : List X) → All P (xs ++ ys) → All P xs
All-front P [] ys h = All-nil P
All-front P (x ∷ xs) ys h = All-cons P x xs (All-head P x (xs ++ ys) h) (All-front P xs ys (All-tail P x (xs ++ ys) h))

pub All-back : {X : Type 0} (P : X → Type 0) (xs ys : List X) → All P (xs ++ ys) → All P ys
All-back P [] ys h = h
All-back P (x ∷ xs) ys h = All-back P xs ys (All-tail P x (xs ++ ys) h)

-- ---- what an open part keeps

abbrev Lasts : Open → Type 0
Lasts o = Fits o × (is_full o ≡ false)

heads_fits : (s : Reading) (l : Line) (u : Reading) → Heads s l u → Fits u.part
heads_fits s l u (heads.entry k name digits n good new c e m) = omega (arith, m)
heads_fits s l u (heads.shipped digits new c e) = tt
heads_fits s l u (heads.image digits n new c e m) = tt
heads_fits s l u (heads.proof digits n new c e) = omega arith

advanced_fits : (o : Open) (s : Reading) (l : Line) (u : Reading) → Lasts o → advanced o (at o s) l ≡ Some u → Fits u.part
advanced_fits open_part.Nothing s l u f h = heads_fits s l u (read_heads s l u h)
advanced_fits (open_part.Entry k name text left) s l u f h =
    let c = taken (nat_le (length text + length l + left) 65536) (Some (at (open_part.Entry k name (text ++ l ++ 10 ∷ []) (left - 1)) s)) u h in
    subst (λ (v : Reading). Fits v.part) (same_Some _ _ c.1) (text_fits text l left (leb-true _ _ c.0) (eqb-false left 0 f.1))
advanced_fits (open_part.Image words left) s l u f h =
    subst (λ (v : Reading). Fits v.part) (word_taken s words left l (word_of l) u refl h).1 tt
advanced_fits (open_part.Proof proofs n) s l u f h =
    let ne = eqb-false n (length proofs) f.1 in
    let now : Fits (open_part.Proof (proofs ++ l ∷ []) n) = simp length-append (omega (arith, f.0, ne)) in
    subst (λ (v : Reading). Fits v.part) (same_Some _ _ h) now

close_lasts : (o : Open) (s : Reading) → Lasts (close o (at o s)).part
close_lasts open_part.Nothing s = (tt, refl)
close_lasts (open_part.Entry k name text left) s = (tt, refl)
close_lasts (open_part.Image words left) s = (tt, refl)
close_lasts (open_part.Proof lines n) s = (tt, refl)

closed_lasts : (full : Bool) (u : Reading) → is_full u.part ≡ full → Fits u.part → Lasts (closed u).part
closed_lasts true u e f = let now : closed u ≡ close u.part u = rw e refl in subst (λ (v : Reading). Lasts v.part) (sym now) (close_lasts u.part u)
closed_lasts false u e f = let now : closed u ≡ u = rw e refl in subst (λ (v : Reading). Lasts v.part) (sym now) (f, e)

run_lasts : (ls : List Line) (s t : Reading) → Lasts s.part → run s ls ≡ Some t → Lasts t.part
run_lasts [] s t f h = subst (λ (v : Reading). Lasts v.part) (same_Some _ _ h) f
run_lasts (l ∷ ls) s t f h =
    let u = step_of (advanced s.part s l) ls t h in
    run_lasts ls (closed u.0) t (closed_lasts (is_full u.0.part) u.0 refl (advanced_fits s.part s l u.0 f u.1)) u.2

-- ---- an open part gets the lines that it wants

-- lines that go on to where no part is open
record Fill (t : Reading) : Type 0 where
  lines : List Line
  feedless : All IsFeedless lines
  utf8 : All IsUtf8 lines
  behind : Reading
  reached : run t lines ≡ Some behind
  between : is_between behind ≡ true

length-empty : (n : ℕ) → length (text_of_lines (replicate n [])) ≡ n
length-empty zero = refl
length-empty (suc n) = ap suc (length-empty n)

zero_words : (n : ℕ) → list_all is_word (replicate n (codes "00000000")) ≡ true
zero_words zero = refl
zero_words (suc n) = zero_words n

zero_feedless : IsFeedless (codes "00000000")
zero_feedless = All-replicate (λ b. b ≢ 10) 8 48 (λ e. omega (arith, e))

zero_utf8 : IsUtf8 (codes "00000000")
unfolding encode
zero_utf8 = (codes "00000000", (refl, refl))

fill_row : (s : Reading) (k : Kind) (name text : List ℕ) (left : ℕ) → Lasts (open_part.Entry k name text left) → Fill (at (open_part.Entry k name text left) s)
fill_row s k name text left f = record {
  lines = replicate left [];
  feedless = All-replicate IsFeedless left [] (All-nil (λ b. b ≢ 10));
  utf8 = All-replicate IsUtf8 left [] IsUtf8-nil;
  behind = row_read s k name (text ++ text_of_lines (replicate left []));
  reached =
      let ls : List Line = replicate left [] in
      let read = row_lines s k name ls [] text (omega (arith, length-empty left, f.0)) in
      ap (λ u. run u ls) (sym (stays_open (open_part.Entry k name text left) s f.1))
      ∙ (ap (run (closed (at (open_part.Entry k name text left) s))) (sym (append-nil ls))
      ∙ subst (λ (n : ℕ). run (closed (at (open_part.Entry k name text n) s)) (ls ++ []) ≡ Some (row_read s k name (text ++ text_of_lines ls))) (length-replicate left []) read);
  between = refl;
}

fill_image : (s : Reading) (words : List ℕ) (left : ℕ) → Lasts (open_part.Image words left) → Fill (at (open_part.Image words left) s)
fill_image s words left f = record {
  lines = replicate left (codes "00000000");
  feedless = All-replicate IsFeedless left (codes "00000000") zero_feedless;
  utf8 = All-replicate IsUtf8 left (codes "00000000") zero_utf8;
  behind = image_read s (words ++ map (digits_value 16) (replicate left (codes "00000000")));
  reached =
      let ls : List Line = replicate left (codes "00000000") in
      let read = image_lines s ls [] words (zero_words left) in
      ap (λ u. run u ls) (sym (stays_open (open_part.Image words left) s f.1))
      ∙ (ap (run (closed (at (open_part.Image words left) s))) (sym (append-nil ls))
      ∙ subst (λ (n : ℕ). run (closed (at (open_part.Image words n) s)) (ls ++ []) ≡ Some (image_read s (words ++ map (digits_value 16) ls))) (length-replicate left (codes "00000000")) read);
  between = refl;
}

fill_proof : (s : Reading) (proofs : List Line) (n : ℕ) → Lasts (open_part.Proof proofs n) → Fill (at (open_part.Proof proofs n) s)
fill_proof s proofs n f = record {
  lines = replicate (n - length proofs) [];
  feedless = All-replicate IsFeedless (n - length proofs) [] (All-nil (λ b. b ≢ 10));
  utf8 = All-replicate IsUtf8 (n - length proofs) [] IsUtf8-nil;
  behind = proof_read s (proofs ++ replicate (n - length proofs) []);
  reached =
      let ls : List Line = replicate (n - length proofs) [] in
      let count : length ls ≡ n - length proofs = length-replicate (n - length proofs) [] in
      let read = proof_lines s ls [] proofs n (omega (arith, count, f.0)) in
      ap (λ u. run u ls) (sym (stays_open (open_part.Proof proofs n) s f.1))
      ∙ (ap (run (closed (at (open_part.Proof proofs n) s))) (sym (append-nil ls)) ∙ read);
  between = refl;
}

fill_at : (o : Open) (s : Reading) → Lasts o → Fill (at o s)
fill_at open_part.Nothing s f = record {
  lines = [];
  feedless = All-nil IsFeedless;
  utf8 = All-nil IsUtf8;
  behind = at open_part.Nothing s;
  reached = refl;
  between = refl;
}
fill_at (open_part.Entry k name text left) s f = fill_row s k name text left f
fill_at (open_part.Image words left) s f = fill_image s words left f
fill_at (open_part.Proof proofs n) s f = fill_proof s proofs n f

-- ---- whole bundles

start_lasts : Lasts start.part
start_lasts = (tt, refl)

-- lines behind which no part is open are those of a bundle
pub whole : (ls : List Line) (t : Reading) → All IsUtf8 ls → run start ls ≡ Some t → is_between t ≡ true → SpellsLines ls t.bundle
whole ls t u h b =
    let r = read_parts ls start t [] h b stands_start in
    record { utf8 = u; parts = r.0; follow = r.1; holds = r.2 }

-- and the lines of a bundle are read as that bundle
pub spelled_run : (ls : List Line) (b : Bundle) → SpellsLines ls b → (t : Reading) × (run start ls ≡ Some t) × (is_between t ≡ true) × (t.bundle ≡ b)
spelled_run ls b h =
    let r = parts_read [] h.parts ls start stands_start h.follow in
    (at open_part.Nothing r.0, r.1, refl, r.2 ∙ sym h.holds)

-- lines spell one bundle at most
pub spells_one : (ls : List Line) (a b : Bundle) → SpellsLines ls a → SpellsLines ls b → a ≡ b
spells_one ls a b g h =
    let r = spelled_run ls a g in
    let q = spelled_run ls b h in
    sym r.3 ∙ (ap (λ (v : Reading). v.bundle) (same_Some _ _ (sym r.1 ∙ q.1)) ∙ q.3)

-- ---- fronts

-- with lines that are read a bundle goes on
pub goes_on : (front : List Line) (t : Reading) → All IsUtf8 front → run start front ≡ Some t → GoesOn front
goes_on front t u h =
    let f = fill_at t.part t (run_lasts front start t start_lasts h) in
    let reached : run start (front ++ f.lines) ≡ Some f.behind = run_append front f.lines start ∙ (ap (then_run f.lines) h ∙ f.reached) in
    record { more = f.lines; feedless = f.feedless; bundle = f.behind.bundle; spells = whole (front ++ f.lines) f.behind (All-append IsUtf8 front f.lines u f.utf8) reached f.between }

-- with lines that aren't read none does
pub stuck : (front more : List Line) (b : Bundle) → run start front ≡ None → SpellsLines (front ++ more) b → ⊥
stuck front more b h s =
    let r = spelled_run (front ++ more) b s in
    let none : run start (front ++ more) ≡ None = run_append front more start ∙ ap (then_run more) h in
    none-some r.0 (sym none ∙ r.1)

-- nor with a line that isn't UTF-8
pub no_text : (front more : List Line) (l : Line) (b : Bundle) → (IsUtf8 l → ⊥) → SpellsLines (front ++ l ∷ more) b → ⊥
no_text front more l b bad s = bad (All-head IsUtf8 l more (All-back IsUtf8 front (l ∷ more) s.utf8))
