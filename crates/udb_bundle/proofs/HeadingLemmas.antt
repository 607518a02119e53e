-- Headings: what is read of one, and that each is read.
use Rattle.std.proofs.Common.{◌≡◌, ◌≢◌, ℕ, zero, suc, ◌<◌, ◌≤◌, ◌==◌, ◌&&◌, Bool, true, false, not, cond, nat_le, List, [], ◌∷◌, ◌++◌, length, get_or, Option, Some, None, option_map, codes, refl, sym, ap, ◌∙◌, subst, append_assoc, arith}
use Rattle.std.specs.List.{list_all}
use Rattle.std.specs.Str.{bytes_eq}
use Rattle.std.specs.Str.Parse.{digits_value}
use Rattle.std.proofs.lemmas.Bool.{and_parts, eqb-true, leb-true, le-leb, not-true, eqb-false}
use Rattle.std.proofs.lemmas.Option.{same_Some, none-some}
use Rattle.std.proofs.lemmas.Slice.Eq.{bytes_eq-Decides}
use Rattle.udb_base.specs.declared.kinds.Kind.{Kind}
use Rattle.udb_base.specs.declared.kinds.Kind.TheVariants as kinds
use Rattle.udb_base.specs.Kinds.{kind_word}
use Rattle.udb_base.specs.Names.{IsName}
use Rattle.udb_bundle.specs.declared.headings.PartKind.{PartKind}
use Rattle.udb_bundle.specs.declared.headings.PartKind.TheVariants as kind_of
use Rattle.udb_bundle.specs.declared.reading.Open.{Open}
use Rattle.udb_bundle.specs.declared.reading.Open.TheVariants as open_part
use Rattle.udb_bundle.specs.declared.reading.Reading.{Reading}
use Rattle.udb_bundle.specs.Bundles.{Line, is_count}
use Rattle.udb_bundle.specs.Reading.{cut, Cut, with_byte, HeadingWords, words_from, words_behind, words_marked, heading_words, part_kind, is_all, is_name, count_of, count_within, title_of, has_row, opened, new_entry, new_image, new_proof, ships, begun, begun_as, begun_entry, begun_shipped, begun_image, begun_proof, headed}
use Rattle.udb_bundle.proofs.Cuts.{cut_some}
use Rattle.udb_bundle.proofs.NameLemmas.{name_is, is_name-true, name_spaceless}

-- ---- tests

pub same_bytes : (a b : List ℕ) → bytes_eq a b ≡ true → a ≡ b
same_bytes a b h = (bytes_eq-Decides a b).0 h

pub bytes_same : (a b : List ℕ) → a ≡ b → bytes_eq a b ≡ true
bytes_same a b h = (bytes_eq-Decides a b).1 h

-- what a choice between some value and none gives
pub taken : {A : Type 0} (b : Bool) (o : Option A) (x : A) → cond b o None ≡ Some x → (b ≡ true) × (o ≡ Some x)
taken true o x h = (refl, h)
taken false o x h = absurd (none-some x h)

pub left_over : {A : Type 0} (b : Bool) (o : Option A) (x : A) → cond b None o ≡ Some x → (b ≡ false) × (o ≡ Some x)
left_over true o x h = absurd (none-some x h)
left_over false o x h = (refl, h)

-- ---- words

cut_with : (b : ℕ) (bs : List ℕ) (c : Cut) (p : List ℕ × List ℕ) → ((q : List ℕ × List ℕ) → c ≡ Some q → bs ≡ q.0 ++ 32 ∷ q.1) → with_byte b c ≡ Some p → b ∷ bs ≡ p.0 ++ 32 ∷ p.1
cut_with b bs None p h e = absurd (none-some p e)
cut_with b bs (Some q) p h e = subst (λ (r : List ℕ × List ℕ). b ∷ bs ≡ r.0 ++ 32 ∷ r.1) (same_Some _ _ e) (ap (λ xs. b ∷ xs) (h q refl))

cut_byte : (t : Bool) (b : ℕ) (bs : List ℕ) (p : List ℕ × List ℕ) → (b == 32) ≡ t → ((q : List ℕ × List ℕ) → cut bs ≡ Some q → bs ≡ q.0 ++ 32 ∷ q.1) → cut (b ∷ bs) ≡ Some p → b ∷ bs ≡ p.0 ++ 32 ∷ p.1
cut_byte true b bs p e h c =
    let d : Some ([], bs) ≡ Some p = rw e at c in
    subst (λ (r : List ℕ × List ℕ). b ∷ bs ≡ r.0 ++ 32 ∷ r.1) (same_Some _ _ d) (ap (λ k. k ∷ bs) (eqb-true b 32 e))
cut_byte false b bs p e h c = let d : with_byte b (cut bs) ≡ Some p = rw e at c in cut_with b bs (cut bs) p h d

-- what is cut is joined by the space
pub cut_text : (bs : List ℕ) (p : List ℕ × List ℕ) → cut bs ≡ Some p → bs ≡ p.0 ++ 32 ∷ p.1
cut_text [] p h = absurd (none-some p h)
cut_text (b ∷ bs) p h = cut_byte (b == 32) b bs p refl (cut_text bs) h

-- the text of a heading
abbrev pub heading_text : List ℕ → List ℕ → List ℕ → Line
heading_text kind name digits = codes "=== " ++ ((kind ++ 32 ∷ name) ++ 32 ∷ digits)

text_from : (kind rest : List ℕ) (c : Cut) (w : List ℕ × (List ℕ × List ℕ)) → c ≡ cut rest → words_from kind c ≡ Some w → (kind ≡ w.0) × (rest ≡ w.1.0 ++ 32 ∷ w.1.1)
text_from kind rest None w e h = absurd (none-some w h)
text_from kind rest (Some p) w e h =
    let s : (kind, p) ≡ w = same_Some _ _ h in
    (ap (λ (v : List ℕ × (List ℕ × List ℕ)). v.0) s, subst (λ (q : List ℕ × List ℕ). rest ≡ q.0 ++ 32 ∷ q.1) (ap (λ (v : List ℕ × (List ℕ × List ℕ)). v.1) s) (cut_text rest p (sym e)))

joined : (kind name digits rest text : List ℕ) → text ≡ kind ++ 32 ∷ rest → rest ≡ name ++ 32 ∷ digits → text ≡ (kind ++ 32 ∷ name) ++ 32 ∷ digits
joined kind name digits rest text e f = e ∙ (ap (λ xs. kind ++ 32 ∷ xs) f ∙ sym (append_assoc kind (32 ∷ name) (32 ∷ digits)))

text_behind : (text : List ℕ) (c : Cut) (w : List ℕ × (List ℕ × List ℕ)) → c ≡ cut text → words_behind c ≡ Some w → text ≡ (w.0 ++ 32 ∷ w.1.0) ++ 32 ∷ w.1.1
text_behind text None w e h = absurd (none-some w h)
text_behind text (Some p) w e h =
    let f = text_from p.0 p.1 (cut p.1) w refl h in
    joined w.0 w.1.0 w.1.1 p.1 text (cut_text text p (sym e) ∙ ap (λ k. k ++ 32 ∷ p.1) f.0) f.1

text_marked : (l : Line) (c : Cut) (w : List ℕ × (List ℕ × List ℕ)) → c ≡ cut l → words_marked c ≡ Some w → l ≡ heading_text w.0 w.1.0 w.1.1
text_marked l None w e h = absurd (none-some w h)
text_marked l (Some p) w e h =
    let t = taken (bytes_eq p.0 (codes "===")) (words_behind (cut p.1)) w h in
    cut_text l p (sym e) ∙ (ap (λ k. k ++ 32 ∷ p.1) (same_bytes p.0 (codes "===") t.0) ∙ ap (λ xs. codes "=== " ++ xs) (text_behind p.1 (cut p.1) w refl t.1))

-- the words that are read are those of the line
pub words_text : (l : Line) (w : List ℕ × (List ℕ × List ℕ)) → heading_words l ≡ Some w → l ≡ heading_text w.0 w.1.0 w.1.1
words_text l w h = text_marked l (cut l) w refl h

abbrev Spaceless : List ℕ → Type 0
Spaceless xs = (i : ℕ) → i < length xs → get_or xs i 0 ≢ 32

spaceless : (xs : List ℕ) → list_all (λ b. not (b == 32)) xs ≡ true → Spaceless xs
spaceless [] h i l = absurd (omega arith)
spaceless (x ∷ xs) h zero l = eqb-false x 32 (not-true _ (and_parts _ _ h).0)
spaceless (x ∷ xs) h (suc i) l = spaceless xs (and_parts _ _ h).1 i (omega arith)

-- and the words of a heading are read
pub text_words : (kind name digits : List ℕ) → list_all (λ b. not (b == 32)) kind ≡ true → Spaceless name → heading_words (heading_text kind name digits) ≡ Some (kind, (name, digits))
text_words kind name digits k n =
    let first : cut (heading_text kind name digits) ≡ Some (codes "===", (kind ++ 32 ∷ name) ++ 32 ∷ digits) = cut_some (codes "===") ((kind ++ 32 ∷ name) ++ 32 ∷ digits) (spaceless (codes "===") refl) in
    let second : cut ((kind ++ 32 ∷ name) ++ 32 ∷ digits) ≡ Some (kind, name ++ 32 ∷ digits) = rw (append_assoc kind (32 ∷ name) (32 ∷ digits)) (cut_some kind (name ++ 32 ∷ digits) (spaceless kind k)) in
    let third : cut (name ++ 32 ∷ digits) ≡ Some (name, digits) = cut_some name digits n in
    ap words_marked first ∙ (ap words_behind second ∙ ap (words_from kind) third)

-- ---- kinds

-- the word of a part's kind
abbrev pub part_word : PartKind → List ℕ
part_word (kind_of.Entry k) = kind_word k
part_word kind_of.Shipped = codes "shipped"
part_word kind_of.Image = codes "image"
part_word kind_of.Proof = codes "proof"

abbrev Names : List ℕ → Option PartKind → Type 0
Names w o = (p : PartKind) → o ≡ Some p → w ≡ part_word p

names_by : (w : List ℕ) (b : Bool) (p : PartKind) (o : Option PartKind) → (b ≡ true → w ≡ part_word p) → Names w o → Names w (cond b (Some p) o)
names_by w true p o h rest q e = subst (λ (r : PartKind). w ≡ part_word r) (same_Some p q e) (h refl)
names_by w false p o h rest q e = rest q e

names_next : (w : List ℕ) (p : PartKind) (o : Option PartKind) → Names w o → Names w (cond (bytes_eq w (part_word p)) (Some p) o)
names_next w p o rest = names_by w (bytes_eq w (part_word p)) p o (same_bytes w (part_word p)) rest

-- the kind that is read has that word
pub part_kind_word : (w : List ℕ) → Names w (part_kind w)
part_kind_word w =
    names_next w (kind_of.Entry kinds.Extension) _ (names_next w (kind_of.Entry kinds.Parameter) _ (names_next w (kind_of.Entry kinds.Instruction) _
    (names_next w (kind_of.Entry kinds.Csr) _ (names_next w (kind_of.Entry kinds.Functions) _ (names_next w (kind_of.Entry kinds.Config) _
    (names_next w kind_of.Shipped _ (names_next w kind_of.Image _ (names_next w kind_of.Proof None (λ p e. absurd (none-some p e))))))))))

-- and each word is read as its kind
pub part_word_kind : (k : Kind) → part_kind (kind_word k) ≡ Some (kind_of.Entry k)
part_word_kind kinds.Extension = refl
part_word_kind kinds.Parameter = refl
part_word_kind kinds.Instruction = refl
part_word_kind kinds.Csr = refl
part_word_kind kinds.Functions = refl
part_word_kind kinds.Config = refl

pub kind_word_spaceless : (k : Kind) → list_all (λ b. not (b == 32)) (kind_word k) ≡ true
kind_word_spaceless kinds.Extension = refl
kind_word_spaceless kinds.Parameter = refl
kind_word_spaceless kinds.Instruction = refl
kind_word_spaceless kinds.Csr = refl
kind_word_spaceless kinds.Functions = refl
kind_word_spaceless kinds.Config = refl

-- ---- counts

count_some_within : (most n : ℕ) (digits : List ℕ) → count_within most digits ≡ Some n → (is_count digits ≡ true) × (digits_value 10 digits ≡ n) × (n ≤ most)
count_some_within most n digits h =
    let t = taken (is_count digits && nat_le (digits_value 10 digits) most) (Some (digits_value 10 digits)) n h in
    let p = and_parts _ _ t.0 in
    let e : digits_value 10 digits ≡ n = same_Some _ _ t.1 in
    (p.0, e, subst (λ (k : ℕ). k ≤ most) e (leb-true (digits_value 10 digits) most p.1))

count_within_some : (most n : ℕ) (digits : List ℕ) → is_count digits ≡ true → digits_value 10 digits ≡ n → n ≤ most → count_within most digits ≡ Some n
count_within_some most n digits c e l = rw (c, e, le-leb n most l) refl

-- ---- headings

-- a reading with this part open
abbrev pub at : Open → Reading → Reading
at o s = record s { part = o }

-- a heading, and the reading behind it, before a part without lines is closed
pub data Heads (s : Reading) : Line → Reading → Type 0 where
  entry : (k : Kind) (name digits : List ℕ) (n : ℕ) → IsName name → has_row (title_of k name) s.bundle.rows ≡ false → is_count digits ≡ true → digits_value 10 digits ≡ n → n ≤ 65536 → Heads s (heading_text (kind_word k) name digits) (at (open_part.Entry k name [] n) s)
  shipped : (digits : List ℕ) → s.bundle.shipped ≡ false → is_count digits ≡ true → digits_value 10 digits ≡ 0 → Heads s (heading_text (codes "shipped") (codes "all") digits) (record s { bundle = record s.bundle { shipped = true }; part = open_part.Nothing })
  image : (digits : List ℕ) (n : ℕ) → s.has_image ≡ false → is_count digits ≡ true → digits_value 10 digits ≡ n → n ≤ 16384 → Heads s (heading_text (codes "image") (codes "all") digits) (at (open_part.Image [] n) s)
  proof : (digits : List ℕ) (n : ℕ) → s.has_proof ≡ false → is_count digits ≡ true → digits_value 10 digits ≡ n → Heads s (heading_text (codes "proof") (codes "all") digits) (at (open_part.Proof [] n) s)

-- each heading is read
pub heads_read : (s : Reading) (l : Line) (u : Reading) → Heads s l u → headed (at open_part.Nothing s) (heading_words l) ≡ Some u
heads_read s l u (entry k name digits n h f c e m) =
    ap (headed (at open_part.Nothing s)) (text_words (kind_word k) name digits (kind_word_spaceless k) (name_spaceless name h))
    ∙ (ap (λ (o : Option PartKind). begun_as (at open_part.Nothing s) o name digits) (part_word_kind k)
    ∙ rw (is_name-true name h, f, count_within_some 65536 n digits c e m) refl)
heads_read s l u (shipped digits f c e) =
    ap (headed (at open_part.Nothing s)) (text_words (codes "shipped") (codes "all") digits refl (spaceless (codes "all") refl))
    ∙ rw (f, count_within_some 0 0 digits c e (omega arith)) refl
heads_read s l u (image digits n f c e m) =
    ap (headed (at open_part.Nothing s)) (text_words (codes "image") (codes "all") digits refl (spaceless (codes "all") refl))
    ∙ rw (f, count_within_some 16384 n digits c e m) refl
heads_read s l u (proof digits n f c e) =
    ap (headed (at open_part.Nothing s)) (text_words (codes "proof") (codes "all") digits refl (spaceless (codes "all") refl))
    ∙ rw (f, c, e) refl

opened_count : (s : Reading) (f : ℕ → Open) (c : Option ℕ) (u : Reading) → opened (at open_part.Nothing s) (option_map f c) ≡ Some u → (n : ℕ) × (c ≡ Some n) × (at (f n) s ≡ u)
opened_count s f None u h = absurd (none-some u h)
opened_count s f (Some n) u h = (n, refl, same_Some _ _ h)

shipped_count : (s : Reading) (c : Option ℕ) (u : Reading) → ships (at open_part.Nothing s) c ≡ Some u → (n : ℕ) × (c ≡ Some n) × (record s { bundle = record s.bundle { shipped = true }; part = open_part.Nothing } ≡ u)
shipped_count s None u h = absurd (none-some u h)
shipped_count s (Some n) u h = (n, refl, same_Some _ _ h)

heads_entry : (s : Reading) (k : Kind) (name digits : List ℕ) (u : Reading) → begun_entry (at open_part.Nothing s) k name digits ≡ Some u → Heads s (heading_text (kind_word k) name digits) u
heads_entry s k name digits u h =
    let t = taken (is_name name && not (has_row (title_of k name) s.bundle.rows)) (opened (at open_part.Nothing s) (new_entry k name digits)) u h in
    let p = and_parts _ _ t.0 in
    let o = opened_count s (λ n. open_part.Entry k name [] n) (count_within 65536 digits) u t.1 in
    let c = count_some_within 65536 o.0 digits o.1 in
    subst (λ (v : Reading). Heads s (heading_text (kind_word k) name digits) v) o.2 (entry k name digits o.0 (name_is name p.0) (not-true _ p.1) c.0 c.1 c.2)

heads_shipped : (s : Reading) (name digits : List ℕ) (u : Reading) → begun (at open_part.Nothing s) kind_of.Shipped name digits ≡ Some u → Heads s (heading_text (codes "shipped") name digits) u
heads_shipped s name digits u h =
    let t = taken (is_all name) (begun_shipped (at open_part.Nothing s) digits) u h in
    let f = left_over s.bundle.shipped (ships (at open_part.Nothing s) (count_within 0 digits)) u t.1 in
    let o = shipped_count s (count_within 0 digits) u f.1 in
    let c = count_some_within 0 o.0 digits o.1 in
    subst (λ (v : Reading). Heads s (heading_text (codes "shipped") name digits) v) o.2
    (subst (λ (m : List ℕ). Heads s (heading_text (codes "shipped") m digits) (record s { bundle = record s.bundle { shipped = true }; part = open_part.Nothing })) (sym (same_bytes name (codes "all") t.0))
    (shipped digits f.0 c.0 (omega (arith, c.1, c.2))))

heads_image : (s : Reading) (name digits : List ℕ) (u : Reading) → begun (at open_part.Nothing s) kind_of.Image name digits ≡ Some u → Heads s (heading_text (codes "image") name digits) u
heads_image s name digits u h =
    let t = taken (is_all name) (begun_image (at open_part.Nothing s) digits) u h in
    let f = left_over s.has_image (opened (at open_part.Nothing s) (new_image digits)) u t.1 in
    let o = opened_count s (λ n. open_part.Image [] n) (count_within 16384 digits) u f.1 in
    let c = count_some_within 16384 o.0 digits o.1 in
    subst (λ (v : Reading). Heads s (heading_text (codes "image") name digits) v) o.2
    (subst (λ (m : List ℕ). Heads s (heading_text (codes "image") m digits) (at (open_part.Image [] o.0) s)) (sym (same_bytes name (codes "all") t.0))
    (image digits o.0 f.0 c.0 c.1 c.2))

heads_proof : (s : Reading) (name digits : List ℕ) (u : Reading) → begun (at open_part.Nothing s) kind_of.Proof name digits ≡ Some u → Heads s (heading_text (codes "proof") name digits) u
heads_proof s name digits u h =
    let t = taken (is_all name) (begun_proof (at open_part.Nothing s) digits) u h in
    let f = left_over s.has_proof (opened (at open_part.Nothing s) (new_proof digits)) u t.1 in
    let o = opened_count s (λ n. open_part.Proof [] n) (count_of digits) u f.1 in
    let c = taken (is_count digits) (Some (digits_value 10 digits)) o.0 o.1 in
    subst (λ (v : Reading). Heads s (heading_text (codes "proof") name digits) v) o.2
    (subst (λ (m : List ℕ). Heads s (heading_text (codes "proof") m digits) (at (open_part.Proof [] o.0) s)) (sym (same_bytes name (codes "all") t.0))
    (proof digits o.0 f.0 c.0 (same_Some _ _ c.1)))

heads_begun : (s : Reading) (p : PartKind) (name digits : List ℕ) (u : Reading) → begun (at open_part.Nothing s) p name digits ≡ Some u → Heads s (heading_text (part_word p) name digits) u
heads_begun s (kind_of.Entry k) name digits u h = heads_entry s k name digits u h
heads_begun s kind_of.Shipped name digits u h = heads_shipped s name digits u h
heads_begun s kind_of.Image name digits u h = heads_image s name digits u h
heads_begun s kind_of.Proof name digits u h = heads_proof s name digits u h

heads_kind : (s : Reading) (kind name digits : List ℕ) (o : Option PartKind) (u : Reading) → part_kind kind ≡ o → begun_as (at open_part.Nothing s) o name digits ≡ Some u → Heads s (heading_text kind name digits) u
heads_kind s kind name digits None u e h = absurd (none-some u h)
heads_kind s kind name digits (Some p) u e h =
    subst (λ (w : List ℕ). Heads s (heading_text w name digits) u) (sym (part_kind_word kind p e)) (heads_begun s p name digits u h)

heads_words : (s : Reading) (l : Line) (o : HeadingWords) (u : Reading) → heading_words l ≡ o → headed (at open_part.Nothing s) o ≡ Some u → Heads s l u
heads_words s l None u e h = absurd (none-some u h)
heads_words s l (Some w) u e h =
    subst (λ (m : Line). Heads s m u) (sym (words_text l w e)) (heads_kind s w.0 w.1.0 w.1.1 (part_kind w.0) u refl h)

-- what is read as a heading is one
pub read_heads : (s : Reading) (l : Line) (u : Reading) → headed (at open_part.Nothing s) (heading_words l) ≡ Some u → Heads s l u
read_heads s l u h = heads_words s l (heading_words l) u refl h
