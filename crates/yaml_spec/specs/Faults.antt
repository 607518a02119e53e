-- Statement: which line of a text is at fault, and its mark. Sources of the marks: YAML 1.2.2, sections 6.8 (directives),
-- 6.9 (tags and anchors), 7.1 (aliases) and 9.1 (document markers).
use Rattle.std.specs.Prelude.{◌≡◌, ℕ, suc, ◌-◌, ◌<◌, ◌≤◌, List, [], ◌∷◌, ◌++◌, length, take, drop, Option, None, Some}
use Rattle.yaml_spec.specs.declared.state.Group.TheVariants.{Mapped}
use Rattle.yaml_spec.specs.declared.tree.Tree.{Tree}
use Rattle.yaml_spec.specs.declared.tree.Mark.{Mark}
use Rattle.yaml_spec.specs.declared.tree.Mark.TheVariants.{Anchor, Alias, Tag, Document, Directive}
use Rattle.yaml_spec.specs.Line.{spaces, Head}
use Rattle.yaml_spec.specs.Spells.{Line, at, Spells, IsDocument}
use Rattle.yaml_spec.specs.Texts.{lines_of}

-- the least n such that the first n lines spell no tree
pub record IsLeast (ls : List Line) (n : ℕ) : Type 0 where
  pub within : n ≤ length ls
  pub spells_none : (x : Tree) → Spells (take n ls) x → ⊥
  pub before : (k : ℕ) → k < n → (x : Tree) × Spells (take k ls) x

-- & * !
pub data IsSign : ℕ → Mark → Type 0 where
  ampersand : IsSign 38 Anchor
  star : IsSign 42 Alias
  bang : IsSign 33 Tag

-- what follows a line's `- ` marks and a leading `key: `, with all spaces behind them, begins with the byte
pub data Leads : List ℕ → ℕ → Type 0 where
  here : {c : ℕ} {s : List ℕ} → Leads (c ∷ s) c
  item : {c : ℕ} (i : ℕ) {s : List ℕ} → Leads s c → Leads (45 ∷ spaces (suc i) ++ s) c
  entry : {c : ℕ} (i : ℕ) {m key : List ℕ} (s : List ℕ) → Head Mapped m key → Leads (m ++ (spaces (suc i) ++ c ∷ s)) c

-- the line uses what the profile leaves out
pub data IsOutside : Line → Mark → Type 0 where
  led : {c n : ℕ} {s : List ℕ} {w : Mark} → Leads s c → IsSign c w → IsOutside (at n s) w
  percent : {s : List ℕ} → IsOutside (at 0 (37 ∷ s)) Directive
  start : {l : Line} → IsDocument 45 l → IsOutside l Document
  end : {l : Line} → IsDocument 46 l → IsOutside l Document

-- line n, counted from 1
abbrev pub line_at : ℕ → List Line → List Line
line_at n ls = take 1 (drop (n - 1) ls)

-- line n has this mark, or none
abbrev pub HasMark : List Line → ℕ → Option Mark → Type 0
HasMark ls n None = (l : Line) (w : Mark) → line_at n ls ≡ l ∷ [] → IsOutside l w → ⊥
HasMark ls n (Some w) = (l : Line) × (line_at n ls ≡ l ∷ []) × IsOutside l w

-- line n of the text, counted from 1, is the first at which no text in the profile goes on, and has this mark, or none
abbrev pub IsFirstBadLine : List ℕ → ℕ → Option Mark → Type 0
IsFirstBadLine text n mark = IsLeast (lines_of text) n × HasMark (lines_of text) n mark
