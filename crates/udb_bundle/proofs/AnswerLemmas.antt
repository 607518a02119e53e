-- What is answered for bytes, by the lines that were read of them.
use Rattle.std.proofs.Common.{◌≡◌, inl, inr, ℕ, ◌+◌, ◌-◌, ◌<◌, ◌≤◌, true, false, List, [], ◌∷◌, ◌++◌, length, take, All, Option, Some, None, Result, Ok, Err, IfOk, ◌==◌, refl, sym, ap, ◌∙◌, subst, append_assoc, append-nil, length-append, arith, IsUtf8}
use Rattle.std.proofs.lemmas.Bool.{false≢true, eqb-true}
use Rattle.std.proofs.lemmas.Option.{same_Some}
use Rattle.std.proofs.lemmas.List.Elements.{All-nil, All-push, All-head}
use Rattle.std.proofs.Math.Seq.{take-append_seam, take-length}
use Rattle.udb_bundle.specs.declared.bundle.Bundle.{Bundle}
use Rattle.udb_bundle.specs.declared.bundle.BundleFault.{BundleFault}
use Rattle.udb_bundle.specs.declared.bundle.BundleFault.TheVariants.{Memory, Line as AtLine}
use Rattle.udb_bundle.specs.declared.reading.Reading.{Reading}
use Rattle.udb_bundle.specs.Bundles.{Line, lines_of, SpellsLines, Spells, HasDistinctKeys, IsRow}
use Rattle.udb_bundle.specs.Faults.{GoesOn, IsFirstBadLine, SpellsNone, Answers, IsAnswer, Refuses}
use Rattle.udb_bundle.specs.Reading.{step, run, start, is_between}
use Rattle.udb_bundle.proofs.BodyLemmas.{then_run, run_append}
use Rattle.udb_bundle.proofs.FrontLemmas.{All-back, whole, spelled_run, goes_on, stuck, spells_one}
use Rattle.udb_bundle.proofs.RowLemmas.{spelled_keys, spelled_rows}

-- so many lines of the bytes are read, and the rest is left
pub record IsAt (bytes rest : List ℕ) (number : ℕ) (s : Reading) : Type 0 where
  pub front : List Line
  pub lines : lines_of bytes ≡ front ++ lines_of rest
  pub count : length front ≡ number
  pub utf8 : All IsUtf8 front
  pub reached : run start front ≡ Some s
  pub room : number + length rest ≤ length bytes

pub at_start : (bytes : List ℕ) → IsAt bytes bytes 0 start
at_start bytes = record { front = []; lines = refl; count = refl; utf8 = All-nil IsUtf8; reached = refl; room = omega arith }

one_more : (front : List Line) (l : Line) (s : Reading) (o : Option Reading) → run start front ≡ Some s → step s l ≡ o → run start (front ++ l ∷ []) ≡ then_run [] o
one_more front l s o h e = run_append front (l ∷ []) start ∙ (ap (then_run (l ∷ [])) h ∙ ap (then_run []) e)

pub at_more : (bytes rest behind : List ℕ) (number : ℕ) (s t : Reading) (l : Line) → IsAt bytes rest number s → lines_of rest ≡ l ∷ lines_of behind → length behind < length rest → IsUtf8 l → step s l ≡ Some t → IsAt bytes behind (number + 1) t
at_more bytes rest behind number s t l at cut shorter u e = record {
  front = at.front ++ l ∷ [];
  lines = at.lines ∙ (ap (λ (ls : List Line). at.front ++ ls) cut ∙ sym (append_assoc at.front (l ∷ []) (lines_of behind)));
  count = simp length-append (omega (arith, at.count));
  utf8 = All-push IsUtf8 at.front l at.utf8 u;
  reached = one_more at.front l s (Some t) at.reached e;
  room = omega (arith, at.room, shorter);
}

-- ---- a bad line

bad_front : (front more : List Line) (l : Line) (s : Reading) (b : Bundle) → run start front ≡ Some s → (IsUtf8 l → step s l ≡ None) → SpellsLines (front ++ l ∷ more) b → ⊥
bad_front front more l s b h bad spells =
    let u = All-head IsUtf8 l more (All-back IsUtf8 front (l ∷ more) spells.utf8) in
    stuck (front ++ l ∷ []) more b (one_more front l s None h (bad u)) (subst (λ (ls : List Line). SpellsLines ls b) (sym (append_assoc front (l ∷ []) more)) spells)

bad_here : (front : List Line) (l : Line) (s : Reading) → run start front ≡ Some s → (IsUtf8 l → step s l ≡ None) → GoesOn (front ++ l ∷ []) → ⊥
bad_here front l s h bad on = bad_front front on.more l s on.bundle h bad (subst (λ (ls : List Line). SpellsLines ls on.bundle) (append_assoc front (l ∷ []) on.more) on.spells)

bad_lines : (all front more : List Line) (l : Line) (number : ℕ) (s : Reading) → all ≡ front ++ l ∷ more → length front ≡ number → All IsUtf8 front → run start front ≡ Some s → (IsUtf8 l → step s l ≡ None) → IsFirstBadLine all (number + 1)
bad_lines all front more l number s e count u h bad =
    let whole : front ++ l ∷ more ≡ (front ++ l ∷ []) ++ more = sym (append_assoc front (l ∷ []) more) in
    let long : length (front ++ l ∷ []) ≡ number + 1 = simp length-append (omega (arith, count)) in
    let before : take (number + 1 - 1) all ≡ front = rw e (subst (λ (n : ℕ). take n (front ++ l ∷ more) ≡ front) (omega (arith, count)) (take-append_seam front (l ∷ more))) in
    let upto : take (number + 1) all ≡ front ++ l ∷ [] = rw (e, whole) (subst (λ (n : ℕ). take n ((front ++ l ∷ []) ++ more) ≡ front ++ l ∷ []) long (take-append_seam (front ++ l ∷ []) more)) in
    record {
      counted = omega arith;
      within = rw e (simp length-append (omega (arith, count)));
      before = subst GoesOn (sym before) (goes_on front s u h);
      here = λ n on. bad_here front l s h bad (subst GoesOn upto on);
    }

pub at_bad : (bytes rest behind : List ℕ) (number : ℕ) (s : Reading) (l : Line) → IsAt bytes rest number s → lines_of rest ≡ l ∷ lines_of behind → (IsUtf8 l → step s l ≡ None) → SpellsNone bytes × IsFirstBadLine (lines_of bytes) (number + 1)
at_bad bytes rest behind number s l at cut bad =
    let e : lines_of bytes ≡ at.front ++ l ∷ lines_of behind = at.lines ∙ ap (λ (ls : List Line). at.front ++ ls) cut in (
      λ b spells. bad_front at.front (lines_of behind) l s b at.reached bad (subst (λ (ls : List Line). SpellsLines ls b) e spells),
      bad_lines (lines_of bytes) at.front (lines_of behind) l number s e at.count at.utf8 at.reached bad,
    )

-- ---- the end

end_lines : (bytes rest : List ℕ) (number : ℕ) (s : Reading) (at : IsAt bytes rest number s) → rest ≡ [] → lines_of bytes ≡ at.front
end_lines bytes rest number s at e = at.lines ∙ (ap (λ (r : List ℕ). at.front ++ lines_of r) e ∙ append-nil at.front)

pub at_end : (bytes rest : List ℕ) (number : ℕ) (s : Reading) → IsAt bytes rest number s → rest ≡ [] → is_between s ≡ true → Spells bytes s.bundle
at_end bytes rest number s at e b =
    subst (λ (ls : List Line). SpellsLines ls s.bundle) (sym (end_lines bytes rest number s at e)) (whole at.front s at.utf8 at.reached b)

open_none : (front : List Line) (s : Reading) (b : Bundle) → run start front ≡ Some s → is_between s ≡ false → SpellsLines front b → ⊥
open_none front s b h f spells =
    let r = spelled_run front b spells in
    false≢true (sym f ∙ (ap is_between (same_Some _ _ (sym h ∙ r.1)) ∙ r.2))

missing_lines : (front : List Line) (number : ℕ) (s : Reading) → length front ≡ number → All IsUtf8 front → run start front ≡ Some s → IsFirstBadLine front (number + 1)
missing_lines front number s count u h =
    let n : number + 1 - 1 ≡ length front = omega (arith, count) in
    let before : take (number + 1 - 1) front ≡ front = subst (λ (k : ℕ). take k front ≡ front) (sym n) (take-length front) in
    record {
      counted = omega arith;
      within = omega (arith, count);
      before = subst GoesOn (sym before) (goes_on front s u h);
      here = λ n on. absurd (omega (arith, count, n));
    }

pub at_missing : (bytes rest : List ℕ) (number : ℕ) (s : Reading) → IsAt bytes rest number s → rest ≡ [] → is_between s ≡ false → SpellsNone bytes × IsFirstBadLine (lines_of bytes) (number + 1)
at_missing bytes rest number s at e f =
    let all = end_lines bytes rest number s at e in (
      λ b spells. open_none at.front s b at.reached f (subst (λ (ls : List Line). SpellsLines ls b) all spells),
      subst (λ (ls : List Line). IsFirstBadLine ls (number + 1)) (sym all) (missing_lines at.front number s at.count at.utf8 at.reached),
    )

pub empty_rest : (rest : List ℕ) → (length rest == 0) ≡ true → rest ≡ []
empty_rest [] h = refl
empty_rest (b ∷ bs) h = absurd (omega (arith, eqb-true (length (b ∷ bs)) 0 h))

-- ---- answers

pub answer_found : (bytes : List ℕ) (r : Result Bundle BundleFault) → IsAnswer bytes r → IfOk r (λ b. Spells bytes b)
answer_found bytes (Ok b) h = h
answer_found bytes (Err e) h = tt

pub answer_only : (bytes : List ℕ) (r : Result Bundle BundleFault) (b : Bundle) → IsAnswer bytes r → Spells bytes b → Answers r b
answer_only bytes (Ok a) b h spells = inl (ap Ok (spells_one (lines_of bytes) a b h spells))
answer_only bytes (Err Memory) b h spells = inr refl
answer_only bytes (Err (AtLine n)) b h spells = absurd (h.0 b spells)

pub answer_bad : (bytes : List ℕ) (r : Result Bundle BundleFault) (n : ℕ) → r ≡ Err (AtLine n) → IsAnswer bytes r → SpellsNone bytes × IsFirstBadLine (lines_of bytes) n
answer_bad bytes r n e h = subst (IsAnswer bytes) e h

pub answer_bad_only : (bytes : List ℕ) (r : Result Bundle BundleFault) → SpellsNone bytes → IsAnswer bytes r → Refuses r
answer_bad_only bytes (Ok b) none h = absurd (none b h)
answer_bad_only bytes (Err Memory) none h = inr refl
answer_bad_only bytes (Err (AtLine n)) none h = inl (n, refl)

pub answer_keys : (bytes : List ℕ) (r : Result Bundle BundleFault) → IsAnswer bytes r → IfOk r (λ b. HasDistinctKeys b.rows)
answer_keys bytes (Ok b) h = spelled_keys (lines_of bytes) b h
answer_keys bytes (Err e) h = tt

pub answer_rows : (bytes : List ℕ) (r : Result Bundle BundleFault) → IsAnswer bytes r → IfOk r (λ b. All IsRow b.rows)
answer_rows bytes (Ok b) h = spelled_rows (lines_of bytes) b h
answer_rows bytes (Err e) h = tt
